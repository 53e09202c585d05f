-- A list, seen as what stands before a place and behind it.
use Rattle.std.specs.Prelude.{◌≡◌, ◌<◌, ◌++◌, ◌∷◌, [], ℕ, suc, List, length, take, drop, slice_set, slice_index_or}
use Rattle.std.specs.List.{insert}
use Rattle.std.proofs.Common.{refl, ap, sym, ◌∙◌, get_or, drop-cons}
use Rattle.std.proofs.lemmas.List.{take-append-drop}

module _ {X : Type 0} where
  pub take_front : (xs ys : List X) → take (length xs) (xs ++ ys) ≡ xs
  take_front [] ys = refl
  take_front (x ∷ xs) ys = ap (λ (l : List X). x ∷ l) (take_front xs ys)

  pub drop_front : (xs ys : List X) → drop (length xs) (xs ++ ys) ≡ ys
  drop_front [] ys = refl
  drop_front (x ∷ xs) ys = drop_front xs ys

  insert_front : (xs ys : List X) (y : X) → insert (xs ++ ys) (length xs) y ≡ xs ++ y ∷ ys
  insert_front xs ys y = ap (λ (l : List X). l ++ y ∷ drop (length xs) (xs ++ ys)) (take_front xs ys) ∙ ap (λ (l : List X). xs ++ y ∷ l) (drop_front xs ys)

  set_front : (xs ys : List X) (x y : X) → slice_set (xs ++ x ∷ ys) (length xs) y ≡ xs ++ y ∷ ys
  set_front [] ys x y = refl
  set_front (z ∷ xs) ys x y = ap (λ (l : List X). z ∷ l) (set_front xs ys x y)

  get_front : (xs ys : List X) (x d : X) → get_or (xs ++ x ∷ ys) (length xs) d ≡ x
  get_front [] ys x d = refl
  get_front (z ∷ xs) ys x d = get_front xs ys x d

  -- one more between the two parts
  pub insert_parts : (items before behind : List X) (k : ℕ) (y : X) → items ≡ before ++ behind → length before ≡ k → insert items k y ≡ before ++ y ∷ behind
  insert_parts items before behind k y e n =
      ap (λ (l : List X). insert l k y) e ∙ ap (λ (m : ℕ). insert (before ++ behind) m y) (sym n) ∙ insert_front before behind y

  -- another in place of the one at the place
  pub set_parts : (items before behind : List X) (k : ℕ) (x y : X) → items ≡ before ++ x ∷ behind → length before ≡ k → slice_set items k y ≡ before ++ y ∷ behind
  set_parts items before behind k x y e n =
      ap (λ (l : List X). slice_set l k y) e ∙ ap (λ (m : ℕ). slice_set (before ++ x ∷ behind) m y) (sym n) ∙ set_front before behind x y

  -- the one at the place
  pub get_parts : (items before behind : List X) (k : ℕ) (x d : X) → items ≡ before ++ x ∷ behind → length before ≡ k → slice_index_or items k d ≡ x
  get_parts items before behind k x d e n =
      ap (λ (l : List X). get_or l k d) e ∙ ap (λ (m : ℕ). get_or (before ++ x ∷ behind) m d) (sym n) ∙ get_front before behind x d

  -- the parts at a place
  pub at_place : (xs : List X) (k : ℕ) (x : X) → k < length xs → x ≡ get_or xs k x → xs ≡ take k xs ++ x ∷ drop (suc k) xs
  at_place xs k x lt is =
      sym (take-append-drop k xs) ∙ ap (λ (l : List X). take k xs ++ l) (drop-cons xs k x lt ∙ ap (λ (y : X). y ∷ drop (suc k) xs) (sym is))

  pub gap_place : (xs : List X) (k : ℕ) → xs ≡ take k xs ++ drop k xs
  gap_place xs k = sym (take-append-drop k xs)
