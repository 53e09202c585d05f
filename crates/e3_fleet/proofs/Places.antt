-- Lists by their places.
use Rattle.std.proofs.Common.{◌≡◌, ◌≢◌, ◌<◌, ◌≤◌, ◌++◌, ◌∷◌, [], ℕ, zero, suc, List, length, Some, refl, ap, arith}
use Rattle.std.specs.Prelude.{slice_get, slice_set}

-- what was put at a place stands there
pub get_set : {X : Type 0} (xs : List X) (i : ℕ) (x : X) → i < length xs → slice_get (slice_set xs i x) i ≡ Some x
get_set [] i x low = absurd (omega (arith, low))
get_set (y ∷ ys) zero x low = refl
get_set (y ∷ ys) (suc i) x low = get_set ys i x (omega (arith, low))

-- elsewhere all is as before
pub get_set_other : {X : Type 0} (xs : List X) (i j : ℕ) (x : X) → j ≢ i → slice_get (slice_set xs i x) j ≡ slice_get xs j
get_set_other [] i j x apart = refl
get_set_other (y ∷ ys) zero zero x apart = absurd (apart refl)
get_set_other (y ∷ ys) zero (suc j) x apart = refl
get_set_other (y ∷ ys) (suc i) zero x apart = refl
get_set_other (y ∷ ys) (suc i) (suc j) x apart = get_set_other ys i j x (λ e. apart (ap suc e))

-- a list has a place for each number below its length
pub get_some : {X : Type 0} (xs : List X) (i : ℕ) → i < length xs → (x : X) × (slice_get xs i ≡ Some x)
get_some [] i low = absurd (omega (arith, low))
get_some (y ∷ ys) zero low = (y, refl)
get_some (y ∷ ys) (suc i) low = get_some ys i (omega (arith, low))

-- and none further
pub get_low : {X : Type 0} (xs : List X) (i : ℕ) (x : X) → slice_get xs i ≡ Some x → i < length xs
get_low [] i x is = absurd cc
get_low (y ∷ ys) zero x is = omega arith
get_low (y ∷ ys) (suc i) x is = let low = get_low ys i x is in omega (arith, low)

-- the places of the first of two lists
pub get_front : {X : Type 0} (xs ys : List X) (i : ℕ) → i < length xs → slice_get (xs ++ ys) i ≡ slice_get xs i
get_front [] ys i low = absurd (omega (arith, low))
get_front (x ∷ xs) ys zero low = refl
get_front (x ∷ xs) ys (suc i) low = get_front xs ys i (omega (arith, low))

-- two lists of one length, with the same behind them, have the same at each place further on
pub get_back : {X : Type 0} (xs zs ys : List X) (i : ℕ) → length xs ≡ length zs → length xs ≤ i → slice_get (xs ++ ys) i ≡ slice_get (zs ++ ys) i
get_back [] [] ys i same far = refl
get_back [] (z ∷ zs) ys i same far = absurd (omega (arith, same))
get_back (x ∷ xs) [] ys i same far = absurd (omega (arith, same))
get_back (x ∷ xs) (z ∷ zs) ys zero same far = absurd (omega (arith, far))
get_back (x ∷ xs) (z ∷ zs) ys (suc i) same far = get_back xs zs ys i (omega (arith, same)) (omega (arith, far))

-- and the length is as before
pub set_length : {X : Type 0} (xs : List X) (i : ℕ) (x : X) → length (slice_set xs i x) ≡ length xs
set_length [] i x = refl
set_length (y ∷ ys) zero x = refl
set_length (y ∷ ys) (suc i) x = ap suc (set_length ys i x)
