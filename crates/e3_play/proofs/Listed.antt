-- The rounds of a recovery step as they are made: of what each site has open, in order.
use Rattle.std.proofs.Common.{◌≡◌, ◌∙◌, ◌++◌, ◌∷◌, [], ℕ, Bool, true, false, cond, List, Result, Ok, Err, IfOk, append-nil, refl, fold, filter, sym, ap}
use Rattle.std.proofs.lemmas.List.Elements.{filter-append}
use Rattle.std.specs.List.{flat_map}
use Rattle.e3_types.specs.declared.entries.Entry.{Entry}
use Rattle.e3_types.specs.declared.scenarios.Scenario.{Scenario}
use Rattle.e3_types.specs.declared.transactions.Txn.{Txn}
use Rattle.e3_types.specs.Sets.{has_site}
use Rattle.e3_world.specs.Items.{RecoveryRound, add_txn, is_up_at, listed, open_at}
use Rattle.e3_readings.specs.RoundOf.{round_of}
use Rattle.e3_play.proofs.Order.{add_parts}

abbrev rounds_by : List Txn → List ℕ → List RecoveryRound
rounds_by txns up = flat_map (λ t. round_of t (filter (has_site t.sites) up)) txns

pub listed_parts : (sc : Scenario) (h : List Entry) (group up : List ℕ) (known : List Txn) → up ≡ filter (is_up_at h) group →
    known ≡ flat_map (λ s. fold add_txn [] (open_at sc h s)) (filter (is_up_at h) group) →
    flat_map (λ t. round_of t (filter (has_site t.sites) up)) (fold add_txn [] known) ≡ listed sc h group
listed_parts sc h group up known is_up is_known =
    ap (rounds_by (fold add_txn [] known)) is_up
    ∙ ap (λ l. rounds_by l (filter (is_up_at h) group)) (ap (fold add_txn []) is_known ∙ add_parts [] (open_at sc h) (filter (is_up_at h) group))

-- what holds of a result holds of one that is equal to it
pub if_ok : {E : Type 0} (r : Result (List RecoveryRound) E) (xs ys : List RecoveryRound) → xs ≡ ys → IfOk r (λ rounds. rounds ≡ xs) → IfOk r (λ rounds. rounds ≡ ys)
if_ok (Ok rounds) xs ys same is = is ∙ same
if_ok (Err e) xs ys same is = tt

-- one more site is among those that are up, or is not
one_up : (p : ℕ → Bool) (xs : List ℕ) (x : ℕ) (is : Bool) → p x ≡ is → filter p (xs ++ x ∷ []) ≡ filter p xs ++ cond is (x ∷ []) []
one_up p xs x is at = filter-append p xs (x ∷ []) ∙ rw at refl

pub still_up : (p : ℕ → Bool) (xs : List ℕ) (x : ℕ) → p x ≡ false → filter p xs ≡ filter p (xs ++ x ∷ [])
still_up p xs x at = sym (one_up p xs x false at ∙ append-nil (filter p xs))

pub also_up : (p : ℕ → Bool) (xs : List ℕ) (x : ℕ) → p x ≡ true → filter p xs ++ x ∷ [] ≡ filter p (xs ++ x ∷ [])
also_up p xs x at = sym (one_up p xs x true at)
