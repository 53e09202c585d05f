-- Sums over the views.
use Rattle.std.proofs.Common.{◌≡◌, ◌≢◌, ◌⊎◌, ℕ, zero, suc, ◌+◌, ◌<◌, ◌≤◌, List, [], ◌∷◌, ◌++◌, length, set, refl, sym, ap, ◌∙◌, subst, arith, eqb, cond, Bool, true, false}
use mathlib.Core.Option.{some, some-ne-none, some-injective}
use lib.ListN.{get_elem?}
use Rattle.std.proofs.lemmas.Bool.Decides.{eqb_tells}
use Rattle.e3_turn.specs.Chronicles.{count_of, without, down_from}
use Rattle.e3_turn.specs.Rule.{total}

module _ {A : Type 0} where
  pub total_set : (f : A → ℕ) (xs : List A) (i : ℕ) (v w : A) → get_elem? xs i ≡ some v → total f (set xs i w) + f v ≡ total f xs + f w
  total_set f [] i v w e = absurd (some-ne-none v (sym e))
  total_set f (x ∷ xs) zero v w e = let same : f x ≡ f v = ap f (some-injective x v e) in omega arith
  total_set f (x ∷ xs) (suc i) v w e = let r = total_set f xs i v w e in omega arith

  pub total-append : (f : A → ℕ) (xs ys : List A) → total f (xs ++ ys) ≡ total f xs + total f ys
  total-append f [] ys = omega arith
  total-append f (x ∷ xs) ys = let r = total-append f xs ys in omega arith

  pub at_most : (f : A → ℕ) (xs : List A) (i : ℕ) (v : A) → get_elem? xs i ≡ some v → f v ≤ total f xs
  at_most f [] i v e = absurd (some-ne-none v (sym e))
  at_most f (x ∷ xs) zero v e = let same : f x ≡ f v = ap f (some-injective x v e) in omega arith
  at_most f (x ∷ xs) (suc i) v e = let r = at_most f xs i v e in omega arith

  pub two_at : (f : A → ℕ) (xs : List A) (i j : ℕ) (v w : A) → i ≢ j → get_elem? xs i ≡ some v → get_elem? xs j ≡ some w → f v + f w ≤ total f xs
  two_at f [] i j v w ne e h = absurd (some-ne-none v (sym e))
  two_at f (x ∷ xs) zero zero v w ne e h = absurd (ne refl)
  two_at f (x ∷ xs) zero (suc j) v w ne e h = let same : f x ≡ f v = ap f (some-injective x v e) in let r = at_most f xs j w h in omega arith
  two_at f (x ∷ xs) (suc i) zero v w ne e h = let same : f x ≡ f w = ap f (some-injective x w h) in let r = at_most f xs i v e in omega arith
  two_at f (x ∷ xs) (suc i) (suc j) v w ne e h = let r = two_at f xs i j v w (λ s. ne (ap suc s)) e h in omega arith

  pub total_le : (f g : A → ℕ) (xs : List A) → ((i : ℕ) (v : A) → get_elem? xs i ≡ some v → f v ≤ g v) → total f xs ≤ total g xs
  total_le f g [] h = omega arith
  total_le f g (x ∷ xs) h = let a : f x ≤ g x = h 0 x refl in let r = total_le f g xs (λ i v e. h (suc i) v e) in omega arith

  pub total_zero : (f : A → ℕ) (xs : List A) → ((i : ℕ) (v : A) → get_elem? xs i ≡ some v → f v ≡ 0) → total f xs ≡ 0
  total_zero f [] h = refl
  total_zero f (x ∷ xs) h = let a : f x ≡ 0 = h 0 x refl in let r = total_zero f xs (λ i v e. h (suc i) v e) in omega arith

  -- where the sum is positive, some member is
  pub record Somewhere (f : A → ℕ) (xs : List A) : Type 0 where
    pub at : ℕ
    pub what : A
    pub there : get_elem? xs at ≡ some what
    pub positive : 0 < f what

  pub total_some : (f : A → ℕ) (xs : List A) → 0 < total f xs → Somewhere f xs
  total_some f [] h = absurd (omega arith)
  total_some f (x ∷ xs) h = go (f x) refl (total_some f xs)
    where
      go : (n : ℕ) → f x ≡ n → (0 < total f xs → Somewhere f xs) → Somewhere f (x ∷ xs)
      go zero e ih = let r = ih (omega arith) in record { at = suc r.at; what = r.what; there = r.there; positive = r.positive }
      go (suc n) e ih = record { at = 0; what = x; there = refl; positive = omega arith }

pub count_of-append : (o : ℕ) (xs ys : List ℕ) → count_of o (xs ++ ys) ≡ count_of o xs + count_of o ys
count_of-append o [] ys = omega arith
count_of-append o (x ∷ xs) ys = let r = count_of-append o xs ys in omega arith

-- o is taken out once
pub count_of-without : (p o : ℕ) (xs : List ℕ) → 0 < count_of o xs → count_of p (without o xs) + count_of p (o ∷ []) ≡ count_of p xs
count_of-without p o [] h = absurd (omega arith)
count_of-without p o (x ∷ xs) h = go (eqb x o) refl (count_of-without p o xs)
  where
    go : (b : Bool) → eqb x o ≡ b → (0 < count_of o xs → count_of p (without o xs) + count_of p (o ∷ []) ≡ count_of p xs) → count_of p (cond b xs (x ∷ without o xs)) + count_of p (o ∷ []) ≡ count_of p (x ∷ xs)
    go true e ih = let same : x ≡ o = Rattle.std.proofs.lemmas.Bool.eqb-true x o e in subst (λ z. count_of p xs + count_of p (o ∷ []) ≡ count_of p (z ∷ xs)) (sym same) (omega arith)
    go false e ih = let some_left : 0 < cond false 1 0 + count_of o xs = subst (λ b. 0 < cond b 1 0 + count_of o xs) e h in let left : 0 < count_of o xs = omega arith in let r = ih left in omega arith

pub length-without : (o : ℕ) (xs : List ℕ) → 0 < count_of o xs → suc (length (without o xs)) ≡ length xs
length-without o [] h = absurd (omega arith)
length-without o (x ∷ xs) h = go (eqb x o) refl (length-without o xs)
  where
    go : (b : Bool) → eqb x o ≡ b → (0 < count_of o xs → suc (length (without o xs)) ≡ length xs) → suc (length (cond b xs (x ∷ without o xs))) ≡ length (x ∷ xs)
    go true e ih = refl
    go false e ih = let some_left : 0 < cond false 1 0 + count_of o xs = subst (λ b. 0 < cond b 1 0 + count_of o xs) e h in let left : 0 < count_of o xs = omega arith in ap suc (ih left)

pub count_of_self : (o : ℕ) → count_of o (o ∷ []) ≡ 1
count_of_self o = subst (λ b. cond b 1 0 + 0 ≡ 1) (sym (Rattle.std.proofs.lemmas.Bool.eq-eqb o o refl)) refl

pub length-down_from : (n : ℕ) → length (down_from n) ≡ suc n
length-down_from zero = refl
length-down_from (suc n) = ap suc (length-down_from n)

pub count_of_above : (n o : ℕ) → n < o → count_of o (down_from n) ≡ 0
count_of_above zero o h = go (eqb 0 o) refl
  where
    go : (b : Bool) → eqb 0 o ≡ b → cond b 1 0 + 0 ≡ 0
    go true e = absurd (let z : 0 ≡ o = Rattle.std.proofs.lemmas.Bool.eqb-true 0 o e in omega arith)
    go false e = refl
count_of_above (suc n) o h = go (eqb (suc n) o) refl (count_of_above n o)
  where
    go : (b : Bool) → eqb (suc n) o ≡ b → (n < o → count_of o (down_from n) ≡ 0) → cond b 1 0 + count_of o (down_from n) ≡ 0
    go true e ih = absurd (let z : suc n ≡ o = Rattle.std.proofs.lemmas.Bool.eqb-true (suc n) o e in omega arith)
    go false e ih = let r = ih (omega arith) in omega arith

pub count_of_below : (n o : ℕ) → o ≤ n → count_of o (down_from n) ≡ 1
count_of_below zero o h = go (eqb_tells 0 o)
  where
    go : ((eqb 0 o ≡ true) × (0 ≡ o)) ⊎ ((eqb 0 o ≡ false) × (0 ≢ o)) → count_of o (0 ∷ []) ≡ 1
    go t = subst (λ z. count_of o (z ∷ []) ≡ 1) (let z : o ≡ 0 = omega arith in z) (count_of_self o)
count_of_below (suc n) o h = go (eqb (suc n) o) refl (count_of_below n o)
  where
    go : (b : Bool) → eqb (suc n) o ≡ b → (o ≤ n → count_of o (down_from n) ≡ 1) → cond b 1 0 + count_of o (down_from n) ≡ 1
    go true e ih = let z : suc n ≡ o = Rattle.std.proofs.lemmas.Bool.eqb-true (suc n) o e in let r = count_of_above n o (omega arith) in omega arith
    go false e ih = let ne : suc n ≢ o = λ s. Rattle.std.proofs.Common.true≢false (sym (Rattle.std.proofs.lemmas.Bool.eq-eqb (suc n) o s) ∙ e) in let r = ih (omega arith) in omega arith
