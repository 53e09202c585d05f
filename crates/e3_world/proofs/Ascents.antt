-- Numbers that ascend from a bound: what the first one and the others are, and that those which are filtered ascend too.
use Rattle.std.proofs.Common.{◌≡◌, ◌&&◌, ◌<◌, ◌≤◌, ℕ, Bool, true, false, List, [], ◌∷◌, refl, filter, arith, nat_lt, nat_le}
use Rattle.std.proofs.lemmas.Bool.{and_parts}
use Rattle.std.proofs.lemmas.Grind.{common_steps}
use Rattle.e3_types.specs.Sets.{ascends}

pub lt_from : (a b : ℕ) → nat_lt a b ≡ true → a < b
lt_from a b is = grind (arith, common_steps, is)

lt_is : (a b : ℕ) → a < b → nat_lt a b ≡ true
lt_is a b is = grind (arith, common_steps, is)

-- the first one is above the bound and at most 64, and the others ascend from it
pub ascends_parts : (low x : ℕ) (xs : List ℕ) → ascends low (x ∷ xs) ≡ true → (nat_lt low x ≡ true) × (nat_le x 64 ≡ true) × (ascends x xs ≡ true)
ascends_parts low x xs is =
    let one = and_parts (nat_lt low x && nat_le x 64) (ascends x xs) is in
    let two = and_parts (nat_lt low x) (nat_le x 64) one.0 in
    (two.0, two.1, one.1)

-- what is filtered ascends too
ascends_lower : (low n : ℕ) (xs : List ℕ) → low ≤ n → ascends n xs ≡ true → ascends low xs ≡ true
ascends_lower low n [] less is = refl
ascends_lower low n (x ∷ xs) less is =
    let one = ascends_parts n x xs is in
    let high : n < x = lt_from n x one.0 in
    rw (lt_is low x (omega (arith, less, high)), one.1) one.2

pub ascends_filter : (p : ℕ → Bool) (low : ℕ) (xs : List ℕ) → ascends low xs ≡ true → ascends low (filter p xs) ≡ true
ascends_filter p low [] is = refl
ascends_filter p low (x ∷ xs) is = by (ascends_filter p x xs one.2) (p x) refl
  where
    one : (nat_lt low x ≡ true) × (nat_le x 64 ≡ true) × (ascends x xs ≡ true)
    one = ascends_parts low x xs is

    by : ascends x (filter p xs) ≡ true → (b : Bool) → p x ≡ b → ascends low (filter p (x ∷ xs)) ≡ true
    by rest true here = rw (here, one.0, one.1) rest
    by rest false here = let high : low < x = lt_from low x one.0 in rw here (ascends_lower low x (filter p xs) (omega (arith, high)) rest)
