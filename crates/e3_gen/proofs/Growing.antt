-- The steps of one more transaction, and the rows of steps of one item each.
use Rattle.std.proofs.Common.{◌≡◌, ◌++◌, ◌∷◌, [], ◌+◌, ℕ, suc, List, map, refl, sym, ap, subst, ◌∙◌, append-nil, arith}
use Rattle.std.specs.List.{flat_map}
use Rattle.std.proofs.lemmas.List.{map-append}
use Rattle.rand_pcg.specs.Lcg.{Lcg}
use Rattle.e3_types.specs.declared.scenarios.Item.{Item}
use Rattle.e3_gen.specs.Draws.{txn_words, behind_txn, behind_txns}
use Rattle.e3_gen.specs.Items.{items_of}
use Rattle.e3_gen.specs.Generated.{items_to, step_of, item_row}

one_more : (k : ℕ) → suc k ≡ k + 1
one_more k = omega arith

pub next_generator : (n k : ℕ) (g : Lcg) → g ≡ behind_txns n k → behind_txn g ≡ behind_txns n (k + 1)
next_generator n k g is = ap behind_txn is ∙ ap (behind_txns n) (one_more k)

pub next_steps : (n k : ℕ) (g : Lcg) (steps : List (List Item)) → g ≡ behind_txns n k → steps ≡ map step_of (items_to n k) →
    steps ++ map step_of (items_of (k + 1) (txn_words g)) ≡ map step_of (items_to n (k + 1))
next_steps n k g steps is are =
    ap (λ (l : List (List Item)). l ++ map step_of (items_of (k + 1) (txn_words g))) are
    ∙ ap (λ (x : Lcg). map step_of (items_to n k) ++ map step_of (items_of (k + 1) (txn_words x))) is
    ∙ sym (map-append step_of (items_to n k) (items_of (k + 1) (txn_words (behind_txns n k))))
    ∙ subst (λ (j : ℕ). map step_of (items_to n k ++ items_of j (txn_words (behind_txns n k))) ≡ map step_of (items_to n j)) (one_more k) refl

pub rows_of_steps : (items : List Item) → flat_map (flat_map item_row) (map step_of items) ≡ flat_map item_row items
rows_of_steps [] = refl
rows_of_steps (i ∷ items) = ap (λ (row : List ℕ). row ++ flat_map (flat_map item_row) (map step_of items)) (append-nil (item_row i)) ∙ ap (λ (rows : List ℕ). item_row i ++ rows) (rows_of_steps items)
