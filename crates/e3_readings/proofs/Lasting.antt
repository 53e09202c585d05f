-- One more name that is bound, in the map too.
use Rattle.std.proofs.Common.{◌≡◌, ◌-◌, ◌+◌, ℕ, cond, length, List, [], ◌∷◌, ◌++◌, Some, None, refl, ap, sym, ◌∙◌, arith}
use Rattle.std.specs.Prelude.{remove}
use Rattle.std.specs.Ordering.{nat_cmp}
use Rattle.std.specs.Cmp.Lexicographic.{slice_cmp}
use Rattle.std.specs.BTreeMap.{is_at}
use Rattle.std.proofs.lemmas.Grind.{common_steps, fold-append}
use Rattle.std.proofs.lemmas.List.{length_push}
use Rattle.std.proofs.lemmas.Map.Text.{is_eq-slice_cmp}
use Rattle.e3_types.specs.Same.{same_numbers}
use Rattle.e3_types.proofs.Orders.{pointwise_same}
use Rattle.e3_types.specs.declared.transactions.Txn.{Txn}
use Rattle.e3_world.specs.Items.{last_bound}
use Rattle.e3_world.specs.declared.names.Bound.{Bound}
use Rattle.e3_readings.specs.Lasts.{AreLasts, at_name}

-- names tie in the order of the map where they are the same
ties : (xs ys : List ℕ) → is_at (slice_cmp nat_cmp xs) ys ≡ same_numbers xs ys
ties xs ys = is_eq-slice_cmp xs ys ∙ pointwise_same xs ys

turned : (xs ys : List ℕ) → same_numbers xs ys ≡ same_numbers ys xs
turned [] [] = refl
turned (x ∷ xs) (y ∷ ys) = let ih = turned xs ys in grind (arith, common_steps, ih)
turned [] (y ∷ ys) = refl
turned (x ∷ xs) [] = refl

pub lasts_more : (entries more : List (List ℕ × Txn)) (bound : List Bound) (b : Bound) → AreLasts entries bound →
    ((name : List ℕ) → at_name more name ≡ cond (is_at (slice_cmp nat_cmp b.name) name) (Some b.txn) (at_name entries name)) →
    AreLasts more (bound ++ b ∷ [])
lasts_more entries more bound b are updates name =
    updates name
    ∙ ap (λ c. cond c (Some b.txn) (at_name entries name)) (ties b.name name ∙ turned b.name name)
    ∙ ap (λ o. cond (same_numbers name b.name) (Some b.txn) o) (are name)
    ∙ sym (fold-append (last_bound name) None bound (b ∷ []))

-- and one that is taken back
last_removed : (xs : List Bound) (b : Bound) → remove (xs ++ b ∷ []) (length xs) ≡ xs
last_removed [] b = refl
last_removed (x ∷ xs) b = ap (λ l. x ∷ l) (last_removed xs b)

pub taken_back : (bound : List Bound) (b : Bound) (n : ℕ) → n ≡ length (bound ++ b ∷ []) → remove (bound ++ b ∷ []) (n - 1) ≡ bound
taken_back bound b n is =
    ap (remove (bound ++ b ∷ [])) (let long : length (bound ++ b ∷ []) ≡ length bound + 1 = length_push bound b in let last : n - 1 ≡ length bound = omega (arith, is, long) in last)
    ∙ last_removed bound b
