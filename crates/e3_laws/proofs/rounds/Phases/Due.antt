-- A round that is due: its elector, and the others in their turns.
use Rattle.std.proofs.Common.{◌≡◌, ◌==◌, ◌||◌, ◌≤◌, ℕ, Bool, true, false, List, [], ◌∷◌, Some, ◌∙◌, ap, sym, refl, filter, arith, eqb-true}
use Rattle.e3_types.specs.declared.entries.Entry.{Entry}
use Rattle.e3_types.specs.declared.scenarios.Item.{Item}
use Rattle.e3_types.specs.declared.scenarios.Item.TheVariants as item
use Rattle.e3_types.specs.declared.scenarios.Scenario.{Scenario}
use Rattle.e3_types.specs.Sets.{ascends, has_site, is_set, others}
use Rattle.e3_world.specs.Given.{IsGiven}
use Rattle.e3_world.specs.Items.{RecoveryRound, due_round, is_up_at, to_line}
use Rattle.e3_world.specs.Packets.{lines, present_items, step_items}
use Rattle.e3_world.proofs.Turns.{self}
use Rattle.e3_laws.proofs.rounds.Deliveries.Forced.{some_line}
use Rattle.e3_laws.proofs.rounds.Phases.Members.{IsShaped, due_shaped}
use Rattle.e3_laws.proofs.rounds.Deliveries.Steps.{group_is_set}
use Rattle.e3_world.proofs.Ascents.{ascends_filter, ascends_parts}
use Rattle.e3_laws.proofs.rounds.Phases.Turns.{others_are, turns_are}
use Rattle.e3_laws.proofs.rounds.Phases.Walked.{Each, Turn}

pub round_turns : (sc : Scenario) (start : List Entry) (group : List ℕ) (items : List Item) (r : RecoveryRound) → IsGiven sc → present_items sc start ≡ item.Recover group ∷ items →
    due_round sc start ≡ Some r → (all : List ℕ) × (r.members ≡ r.elector ∷ all) × (others r.elector r.members ≡ all) × Each (Turn r) [] all
round_turns sc start group items r given recovers due = (shaped.others, shaped.is, receivers, turns_are r r.elector [] shaped.others shaped.is receivers under rises)
  where
    shaped : IsShaped (filter (is_up_at (to_line start)) group) r
    shaped = (due_shaped sc start group items r recovers due).0

    set : is_set group ≡ true
    set = let at = some_line sc (lines start) (item.Recover group) items recovers in group_is_set sc at.0 group items given (ap (step_items sc) (sym at.1) ∙ recovers)

    members : ascends 0 r.members ≡ true
    members =
        ap (ascends 0) shaped.among
        ∙ ascends_filter (has_site r.txn.sites) 0 (filter (is_up_at (to_line start)) group) (ascends_filter (is_up_at (to_line start)) 0 group set)

    rises : ascends r.elector shaped.others ≡ true
    rises = (ascends_parts 0 r.elector shaped.others (ap (ascends 0) (sym shaped.is) ∙ members)).2

    receivers : others r.elector r.members ≡ shaped.others
    receivers = ap (others r.elector) shaped.is ∙ rw (self r.elector) (others_are r.elector r.elector shaped.others (omega arith) rises)

    under : (x : ℕ) → has_site (r.elector ∷ []) x ≡ true → x ≤ r.elector
    under x has = by (r.elector == x) refl
      where
        by : (b : Bool) → (r.elector == x) ≡ b → x ≤ r.elector
        by true is = let e : r.elector ≡ x = eqb-true r.elector x is in omega (arith, e)
        by false is = absurd (let clash : false ≡ true = sym (ap (λ b. b || false) is) ∙ has in cc)
