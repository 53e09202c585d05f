-- Sums over lists, and lists that fall.
use Rattle.std.proofs.Common.{◌≡◌, ◌⊎◌, inl, inr, ◌+◌, ◌≤◌, ◌<◌, ◌∷◌, ◌++◌, [], ℕ, zero, suc, Bool, true, false, List, refl, subst, nat_lt, arith, lt-ltb, ltb-true, eq-eqb}
use Rattle.std.proofs.lemmas.Bool.Decides.{nat_tests}
use Rattle.std.specs.List.{AllByRecursion as Each}
use Rattle.e3_laws.specs.local.Measures.{total, down_from, is_below}
use Rattle.e3_laws.proofs.steps.Tests.{or_true}

pub total_append : {X : Type 0} (f : X → ℕ) (xs ys : List X) → total f (xs ++ ys) ≡ total f xs + total f ys
total_append f [] ys = omega arith
total_append f (x ∷ xs) ys = let rest : total f (xs ++ ys) ≡ total f xs + total f ys = total_append f xs ys in omega (arith, rest)

pub total_le : {X : Type 0} (f g : X → ℕ) → ((x : X) → f x ≤ g x) → (xs : List X) → total f xs ≤ total g xs
total_le f g each [] = omega arith
total_le f g each (x ∷ xs) =
    let one : f x ≤ g x = each x in
    let rest : total f xs ≤ total g xs = total_le f g each xs in
    omega (arith, one, rest)

-- the first is less or they are the same
pub le_cases : (n m : ℕ) → n ≤ m → (n < m) ⊎ (n ≡ m)
le_cases n m most = by (nat_lt n m) refl
  where
    by : (b : Bool) → nat_lt n m ≡ b → (n < m) ⊎ (n ≡ m)
    by true is = inl (ltb-true n m is)
    by false is = inr (grind (arith, nat_tests, most, is))

-- a sum is less, or each of its parts is the same
pub total_less : {X : Type 0} (f g : X → ℕ) → ((x : X) → f x ≤ g x) → (xs : List X) → (total f xs < total g xs) ⊎ Each (λ x. f x ≡ g x) xs
total_less f g each [] = inr tt
total_less {X} f g each (x ∷ xs) = by (le_cases (f x) (g x) (each x)) (total_less f g each xs)
  where
    rest : total f xs ≤ total g xs
    rest = total_le f g each xs

    by : (f x < g x) ⊎ (f x ≡ g x) → (total f xs < total g xs) ⊎ Each (λ x. f x ≡ g x) xs → (total f (x ∷ xs) < total g (x ∷ xs)) ⊎ Each (λ x. f x ≡ g x) (x ∷ xs)
    by (inl less) more = inl (omega (arith, less, rest))
    by (inr same) (inl less) = inl (omega (arith, same, less))
    by (inr same) (inr all) = inr (same, all)

pub lower_first : (x y : ℕ) (xs ys : List ℕ) → x < y → is_below (x ∷ xs) (y ∷ ys) ≡ true
lower_first x y xs ys less = rw (lt-ltb x y less) refl

pub lower_rest : (x y : ℕ) (xs ys : List ℕ) → x ≡ y → is_below xs ys ≡ true → is_below (x ∷ xs) (y ∷ ys) ≡ true
lower_rest x y xs ys same is = rw (eq-eqb x y same, is) (or_true (nat_lt x y))

pub lower_or : (x y : ℕ) (xs ys : List ℕ) → x ≤ y → is_below xs ys ≡ true → is_below (x ∷ xs) (y ∷ ys) ≡ true
lower_or x y xs ys most is = by (le_cases x y most)
  where
    by : (x < y) ⊎ (x ≡ y) → is_below (x ∷ xs) (y ∷ ys) ≡ true
    by (inl less) = lower_first x y xs ys less
    by (inr same) = lower_rest x y xs ys same is

-- less at one number, and no more above it
pub lower_from : (f g : ℕ → ℕ) (r n : ℕ) → r ≤ n → ((q : ℕ) → r ≤ q → f q ≤ g q) → f r < g r → is_below (down_from n f) (down_from n g) ≡ true
lower_from f g r zero few each less =
    let none : r ≡ 0 = omega (arith, few) in
    lower_first (f 0) (g 0) [] [] (let P : ℕ → Type 0 = λ k. f k < g k in subst P none less)
lower_from f g r (suc n) few each less = by (le_cases r (suc n) few) (λ fits. lower_from f g r n fits each less)
  where
    by : (r < suc n) ⊎ (r ≡ suc n) → (r ≤ n → is_below (down_from n f) (down_from n g) ≡ true) → is_below (down_from (suc n) f) (down_from (suc n) g) ≡ true
    by (inl under) rest = lower_or (f (suc n)) (g (suc n)) (down_from n f) (down_from n g) (each (suc n) few) (rest (omega (arith, under)))
    by (inr same) rest = lower_first (f (suc n)) (g (suc n)) (down_from n f) (down_from n g) (let P : ℕ → Type 0 = λ k. f k < g k in subst P same less)
