-- Lists by their places.
use Rattle.std.proofs.Common.{◌≡◌, ◌≢◌, ◌<◌, ◌∷◌, [], ◌++◌, ◌⊎◌, inl, inr, ℕ, zero, suc, Bool, true, List, length, Some, refl, sym, ap, ◌∙◌, arith, take, get_or, ◌+◌}
use Rattle.std.specs.Prelude.{slice_get, slice_set}
use Rattle.std.specs.List.{list_all}
use Rattle.std.proofs.lemmas.Bool.{and_parts}
use Rattle.std.proofs.lemmas.List.{take_more}

-- what was put at a place stands there
pub get_set : {X : Type 0} (xs : List X) (i : ℕ) (x y : X) → slice_get (slice_set xs i x) i ≡ Some y → x ≡ y
get_set [] i x y is = absurd cc
get_set (z ∷ xs) zero x y is = cc
get_set (z ∷ xs) (suc i) x y is = get_set xs i x y is

-- elsewhere all is as before
pub get_set_other : {X : Type 0} (xs : List X) (i j : ℕ) (x : X) → j ≢ i → slice_get (slice_set xs i x) j ≡ slice_get xs j
get_set_other [] i j x apart = refl
get_set_other (y ∷ xs) zero zero x apart = absurd (apart refl)
get_set_other (y ∷ xs) zero (suc j) x apart = refl
get_set_other (y ∷ xs) (suc i) zero x apart = refl
get_set_other (y ∷ xs) (suc i) (suc j) x apart = get_set_other xs i j x (λ e. apart (ap suc e))

-- and the length is as before
pub set_length : {X : Type 0} (xs : List X) (i : ℕ) (x : X) → length (slice_set xs i x) ≡ length xs
set_length [] i x = refl
set_length (y ∷ xs) zero x = refl
set_length (y ∷ xs) (suc i) x = ap suc (set_length xs i x)

-- a list has a member at each place below its length
pub get_some : {X : Type 0} (xs : List X) (i : ℕ) → i < length xs → (x : X) × (slice_get xs i ≡ Some x)
get_some [] i low = absurd (omega (arith, low))
get_some (y ∷ xs) zero low = (y, refl)
get_some (y ∷ xs) (suc i) low = get_some xs i (omega (arith, low))

-- a place of a list with one more at its end
pub get_last : {X : Type 0} (xs : List X) (x y : X) (i : ℕ) → slice_get (xs ++ x ∷ []) i ≡ Some y → (slice_get xs i ≡ Some y) ⊎ ((i ≡ length xs) × (x ≡ y))
get_last [] x y zero is = inr (refl, cc)
get_last [] x y (suc i) is = absurd cc
get_last (z ∷ xs) x y zero is = inl is
get_last (z ∷ xs) x y (suc i) is = by (get_last xs x y i is)
  where
    by : (slice_get xs i ≡ Some y) ⊎ ((i ≡ length xs) × (x ≡ y)) → (slice_get xs i ≡ Some y) ⊎ ((suc i ≡ suc (length xs)) × (x ≡ y))
    by (inl old) = inl old
    by (inr new) = inr (ap suc new.0, new.1)

-- what holds of all holds of each
pub all_at : {X : Type 0} (p : X → Bool) (xs : List X) (i : ℕ) (x : X) → list_all p xs ≡ true → slice_get xs i ≡ Some x → p x ≡ true
all_at p [] i x all is = absurd cc
all_at p (y ∷ xs) zero x all is = let same : y ≡ x = cc in ap p (sym same) ∙ (and_parts (p y) (list_all p xs) all).0
all_at p (y ∷ xs) (suc i) x all is = all_at p xs i x (and_parts (p y) (list_all p xs) all).1 is

-- a place of the first so many
pub get_take : {X : Type 0} (xs : List X) (n i : ℕ) → i < n → slice_get (take n xs) i ≡ slice_get xs i
get_take xs zero i low = absurd (omega (arith, low))
get_take [] (suc n) i low = refl
get_take (y ∷ xs) (suc n) zero low = refl
get_take (y ∷ xs) (suc n) (suc i) low = get_take xs n i (omega (arith, low))

-- the first so many, and one more
pub take_next : {X : Type 0} (xs : List X) (k : ℕ) (x : X) → k < length xs → x ≡ get_or xs k x → take (k + 1) xs ≡ take k xs ++ x ∷ []
take_next {X} xs k x low is = take_more xs k x low ∙ ap (λ (y : X). take k xs ++ y ∷ []) (sym is)
