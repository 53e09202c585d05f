-- Where nothing is pending in a recover step, and neither a line nor an Elect comes, nothing comes of the round.
use Rattle.std.proofs.Common.{◌≡◌, ◌+◌, ℕ, zero, suc, true, false, List, [], ◌∷◌, ◌++◌, None, Some, ◌∙◌, ap, sym, refl, count_by, arith, slice_get}
use Rattle.std.specs.List.{list_all, list_any}
use Rattle.std.proofs.lemmas.Grind.{flat_map-append}
use Rattle.std.proofs.lemmas.List.Sums.{sum_by-append}
use Rattle.e3_types.specs.declared.entries.Act.{Act}
use Rattle.e3_types.specs.declared.entries.Act.TheVariants.{Step, Fall, Rise, RiseFall, Miss, Cut, Drop, Parts, Line}
use Rattle.e3_types.specs.declared.entries.Entry.{Entry}
use Rattle.e3_types.specs.declared.entries.Input.{Input}
use Rattle.e3_types.specs.declared.entries.Input.TheVariants as input
use Rattle.e3_types.specs.declared.messages.Packet.{Packet}
use Rattle.e3_types.specs.declared.scenarios.Item.{Item}
use Rattle.e3_types.specs.declared.scenarios.Item.TheVariants as item
use Rattle.e3_types.specs.declared.scenarios.Scenario.{Scenario}
use Rattle.e3_world.specs.Given.{IsGiven}
use Rattle.e3_world.specs.Items.{RecoveryRound}
use Rattle.e3_world.specs.Legal.{AreDue, Guard, IsDue, LegalAfter}
use Rattle.e3_world.specs.Packets.{is_calm, is_line, outs_of, pending, present_items}
use Rattle.e3_laws.specs.rounds.Rounds.{elects, is_elect, is_of_round, is_own, verdicts_at, verdicts_told}
use Rattle.e3_laws.proofs.rounds.Tail.{no_item, pending_all}
use Rattle.std.proofs.lemmas.Bool.{or_parts}
use Rattle.e3_laws.proofs.rounds.Deliveries.Walking.{items_on}

none_pass : (ps : List Packet) → list_all (λ p. false) ps ≡ true → ps ≡ []
none_pass [] all = refl
none_pass (p ∷ ps) all = absurd cc

-- what an entry leaves where nothing is pending
record After (sc : Scenario) (r : RecoveryRound) (h : List Entry) (e : Entry) : Type 0 where
  none : pending sc (h ++ e ∷ []) ≡ []
  not_own : is_own r e ≡ false
  silent : verdicts_told r.txn (e ∷ []) ≡ []

-- no input is due but an Elect
none_due : (sc : Scenario) (h : List Entry) (group : List ℕ) (items : List Item) (site : ℕ) (i : Input) → IsGiven sc →
    present_items sc h ≡ item.Recover group ∷ items → pending sc h ≡ [] → IsDue sc h site i → is_elect i ≡ false → ⊥
none_due sc h group items site (input.Deliver p) given is none due other =
    let nothing_first : None ≡ Some p = sym (ap (λ l. slice_get l 0) none) ∙ due.in_order (ap is_calm is) in cc
none_due sc h group items site (input.Elect t members) given is none due other = cc
none_due sc h group items site (input.Begin sites) given is none due other = no_item sc h group items site _ given is due
none_due sc h group items site (input.Do t op) given is none due other = no_item sc h group items site _ given is due
none_due sc h group items site (input.Commit t) given is none due other = no_item sc h group items site _ given is due
none_due sc h group items site (input.Cancel t) given is none due other = no_item sc h group items site _ given is due
none_due sc h group items site (input.Expire t) given is none due other = no_item sc h group items site _ given is due

fall_takes_none : (sc : Scenario) (r : RecoveryRound) (h : List Entry) (group : List ℕ) (items : List Item) (site : ℕ) (inputs : List Input) → IsGiven sc →
    present_items sc h ≡ item.Recover group ∷ items → pending sc h ≡ [] → AreDue sc h site inputs → list_any is_elect inputs ≡ false → list_any (is_of_round r) inputs ≡ false
fall_takes_none sc r h group items site [] given is none due other = refl
fall_takes_none sc r h group items site (i ∷ inputs) given is none due other =
    absurd (none_due sc h group items site i given is none due.0 (or_parts (is_elect i) (list_any is_elect inputs) other).0)

still : (sc : Scenario) (h : List Entry) (e : Entry) → pending sc h ≡ [] → outs_of e.act ≡ [] → pending sc (h ++ e ∷ []) ≡ []
still sc h e none sends = none_pass _ (pending_all (λ p. false) sc h e (ap (list_all (λ p. false)) none) (ap (list_all (λ p. false)) sends))

by_act : (sc : Scenario) (r : RecoveryRound) (h : List Entry) (group : List ℕ) (items : List Item) (o : ℕ) (act : Act) → IsGiven sc →
    present_items sc h ≡ item.Recover group ∷ items → pending sc h ≡ [] → elects (record { owner = o; act = act }) ≡ false →
    Guard sc h (record { owner = o; act = act }) → After sc r h (record { owner = o; act = act })
by_act sc r h group items zero (Step i records outs events) given is none other guard = absurd guard
by_act sc r h group items (suc s) (Step i records outs events) given is none other guard =
    absurd (none_due sc h group items (suc s) i given is none guard.due (or_parts (is_elect i) false other).0)
by_act sc r h group items zero (Fall inputs records why) given is none other guard = absurd guard
by_act sc r h group items (suc s) (Fall inputs records why) given is none other guard =
    record { none = still sc h _ none refl; not_own = fall_takes_none sc r h group items (suc s) inputs given is none guard.due other; silent = refl }
by_act sc r h group items o (Rise kept inc) given is none other guard = record { none = still sc h _ none refl; not_own = refl; silent = refl }
by_act sc r h group items o (RiseFall kept inc why) given is none other guard = record { none = still sc h _ none refl; not_own = refl; silent = refl }
by_act sc r h group items o Miss given is none other guard = record { none = still sc h _ none refl; not_own = refl; silent = refl }
by_act sc r h group items o Cut given is none other guard = record { none = still sc h _ none refl; not_own = refl; silent = refl }
by_act sc r h group items o (Drop number) given is none other guard = record { none = still sc h _ none refl; not_own = refl; silent = refl }
by_act sc r h group items o (Parts parts) given is none other guard = record { none = still sc h _ none refl; not_own = refl; silent = refl }
by_act sc r h group items o (Line number) given is none other guard = record { none = still sc h _ none refl; not_own = refl; silent = refl }

pub idle_ends : (sc : Scenario) (r : RecoveryRound) (h more : List Entry) (group : List ℕ) (items : List Item) → IsGiven sc →
    present_items sc h ≡ item.Recover group ∷ items → LegalAfter sc h more → list_any is_line more ≡ false → list_any elects more ≡ false → pending sc h ≡ [] →
    (count_by (is_own r) more ≡ 0) × (verdicts_told r.txn more ≡ [])
idle_ends sc r h [] group items given is guards no_line no_elect none = (refl, refl)
idle_ends sc r h (e ∷ more) group items given is guards no_line no_elect none =
    let line = or_parts (is_line e) (list_any is_line more) no_line in
    let elect = or_parts (elects e) (list_any elects more) no_elect in
    let here : After sc r h e = by_act sc r h group items e.owner e.act given is none elect.0 guards.0 in
    let rest = idle_ends sc r (h ++ e ∷ []) more group items given (items_on sc h e line.0 ∙ is) guards.1 line.1 elect.1 here.none in (
      sum_by-append _ (e ∷ []) more ∙ (let one : count_by (is_own r) (e ∷ []) ≡ 0 = rw here.not_own refl in let two : count_by (is_own r) more ≡ 0 = rest.0 in
          let sum_is : count_by (is_own r) (e ∷ []) + count_by (is_own r) more ≡ 0 = omega (arith, one, two) in sum_is),
      flat_map-append (verdicts_at r.txn) (e ∷ []) more ∙ ap (λ l. l ++ verdicts_told r.txn more) here.silent ∙ rest.1,
    )
