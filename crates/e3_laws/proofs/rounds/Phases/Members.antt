-- What a round that is due says of its members.
use Rattle.std.proofs.Common.{◌≡◌, ◌∷◌, ◌++◌, [], ℕ, Bool, true, false, List, Option, Some, None, find, filter, fold, ◌∙◌, ap, sym, subst, refl}
use Rattle.std.specs.List.{flat_map}
use Rattle.e3_types.specs.declared.entries.Entry.{Entry}
use Rattle.e3_types.specs.declared.scenarios.Item.{Item}
use Rattle.e3_types.specs.declared.scenarios.Item.TheVariants as item
use Rattle.e3_types.specs.declared.scenarios.Scenario.{Scenario}
use Rattle.e3_types.specs.declared.transactions.Txn.{Txn}
use Rattle.e3_types.specs.Same.{same_txn}
use Rattle.e3_types.specs.Sets.{has_site}
use Rattle.e3_world.specs.Items.{RecoveryRound, add_txn, due_round, elected_txn, inputs_of, is_up_at, listed, open_at, recover_group, rounds_left, since_line, to_line}
use Rattle.e3_world.specs.Packets.{present_items}
use Rattle.e3_laws.proofs.steps.Items.{round_of}

-- the members of a round are those of the group that were up at the line and are sites of its transaction; the first elects
pub record IsShaped (up : List ℕ) (r : RecoveryRound) : Type 0 where
  pub others : List ℕ
  pub is : r.members ≡ r.elector ∷ others
  pub among : r.members ≡ filter (has_site r.txn.sites) up

abbrev Each : List ℕ → List RecoveryRound → Type 0
Each up [] = Unit {0}
Each up (r ∷ rounds) = IsShaped up r × Each up rounds

one_shaped : (up : List ℕ) (t : Txn) (ms : List ℕ) → ms ≡ filter (has_site t.sites) up → Each up (round_of t ms)
one_shaped up t [] is = tt
one_shaped up t (x ∷ ms) is = (record { others = ms; is = refl; among = is }, tt)

each_append : (up : List ℕ) (xs ys : List RecoveryRound) → Each up xs → Each up ys → Each up (xs ++ ys)
each_append up [] ys first second = second
each_append up (x ∷ xs) ys first second = (first.0, each_append up xs ys first.1 second)

all_shaped : (up : List ℕ) (ts : List Txn) → Each up (flat_map (λ t. round_of t (filter (has_site t.sites) up)) ts)
all_shaped up [] = tt
all_shaped up (t ∷ ts) = each_append up (round_of t (filter (has_site t.sites) up)) _ (one_shaped up t (filter (has_site t.sites) up) refl) (all_shaped up ts)

left_shaped : (up : List ℕ) (ts : List Txn) (rounds : List RecoveryRound) → Each up rounds → Each up (rounds_left ts rounds)
left_shaped up [] rounds each = each
left_shaped up (t ∷ ts) [] each = tt
left_shaped up (t ∷ ts) (r ∷ rounds) each = by (left_shaped up ts rounds each.1) (left_shaped up (t ∷ ts) rounds each.1) (same_txn t r.txn) refl
  where
    by : Each up (rounds_left ts rounds) → Each up (rounds_left (t ∷ ts) rounds) → (b : Bool) → same_txn t r.txn ≡ b → Each up (rounds_left (t ∷ ts) (r ∷ rounds))
    by here there true is = rw is here
    by here there false is = rw is there

found_shaped : (up : List ℕ) (p : RecoveryRound → Bool) (rounds : List RecoveryRound) (r : RecoveryRound) → Each up rounds → find p rounds ≡ Some r → IsShaped up r × (p r ≡ true)
found_shaped up p [] r each is = absurd cc
found_shaped up p (x ∷ rounds) r each is = by (λ later. found_shaped up p rounds r each.1 later) (p x) refl
  where
    by : (find p rounds ≡ Some r → IsShaped up r × (p r ≡ true)) → (b : Bool) → p x ≡ b → IsShaped up r × (p r ≡ true)
    by rest true here =
        let first : find p (x ∷ rounds) ≡ Some x = rw here refl in
        let same : Some x ≡ Some r = sym first ∙ is in
        let x_is : x ≡ r = cc in
        (subst (IsShaped up) x_is each.0, subst (λ y. p y ≡ true) x_is here)
    by rest false here = rest ((let on : find p (x ∷ rounds) ≡ find p rounds = rw here refl in sym on) ∙ is)

pub due_shaped : (sc : Scenario) (start : List Entry) (group : List ℕ) (items : List Item) (r : RecoveryRound) → present_items sc start ≡ item.Recover group ∷ items →
    due_round sc start ≡ Some r → IsShaped (filter (is_up_at (to_line start)) group) r × (is_up_at start r.elector ≡ true)
due_shaped sc start group items r recovers due =
    found_shaped up (λ x. is_up_at start x.elector) (rounds_left made (listed sc (to_line start) group)) r
    (left_shaped up made (listed sc (to_line start) group) (all_shaped up (fold add_txn [] (flat_map (open_at sc (to_line start)) up)))) found
  where
    up : List ℕ
    up = filter (is_up_at (to_line start)) group

    made : List Txn
    made = flat_map elected_txn (flat_map (λ e. inputs_of e.act) (since_line start))

    due_at : Option (List ℕ) → Option RecoveryRound
    due_at None = None
    due_at (Some g) = find (λ x. is_up_at start x.elector) (rounds_left made (listed sc (to_line start) g))

    found : find (λ x. is_up_at start x.elector) (rounds_left made (listed sc (to_line start) group)) ≡ Some r
    found = sym (ap (λ l. due_at (recover_group l)) recovers) ∙ (let same : due_at (recover_group (present_items sc start)) ≡ due_round sc start = refl in same) ∙ due
