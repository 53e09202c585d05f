-- The order of transactions by age is a strict total order.
use Rattle.std.specs.Prelude.{◌≡◌, ◌==◌, ◌&&◌, ◌||◌, ◌∷◌, [], ℕ, Bool, true, false, List, nat_lt, nat_eq}
use Rattle.std.proofs.Common.{refl, arith}
use Rattle.std.proofs.lemmas.Grind.{common_steps}
use Rattle.std.specs.Cmp.Lexicographic.{pointwise}
use Rattle.e3_types.specs.declared.transactions.Txn.{Txn}
use Rattle.e3_types.specs.Same.{same_numbers, same_txn, is_older}
use Rattle.e3_types.specs.Sites.{bits_of}

-- the test of bytes is that of numbers
pub pointwise_same : (xs ys : List ℕ) → pointwise nat_eq xs ys ≡ same_numbers xs ys
pointwise_same [] [] = refl
pointwise_same (x ∷ xs) (y ∷ ys) = let ih = pointwise_same xs ys in grind (arith, common_steps, ih)
pointwise_same [] (y ∷ ys) = refl
pointwise_same (x ∷ xs) [] = refl

-- none is older than itself
pub older_irreflexive : (t : Txn) → is_older t t ≡ false
older_irreflexive t = grind (arith, common_steps)

-- smaller by a number, or by the rest where the numbers are equal
abbrev before : ℕ → ℕ → Bool → Bool
before a b rest = nat_lt a b || (a == b && rest)

before_transitive : (a b c : ℕ) (r s q : Bool) → (r ≡ true → s ≡ true → q ≡ true)
    → before a b r ≡ true → before b c s ≡ true → before a c q ≡ true
before_transitive a b c r s q more e f = grind (arith, common_steps, more, e, f)

less_transitive : (a b c : ℕ) → nat_lt a b ≡ true → nat_lt b c ≡ true → nat_lt a c ≡ true
less_transitive a b c e f = grind (arith, common_steps, e, f)

-- what is older than an older one is older
pub older_transitive : (t u v : Txn) → is_older t u ≡ true → is_older u v ≡ true → is_older t v ≡ true
older_transitive t u v =
    before_transitive t.site u.site v.site _ _ _
    (before_transitive t.inc u.inc v.inc _ _ _
    (before_transitive t.seq u.seq v.seq _ _ _ (less_transitive (bits_of t.sites) (bits_of u.sites) (bits_of v.sites))))

-- of two whose sets differ in their numbers where they differ, one is older or they are one
pub older_total : (t u : Txn) → same_numbers t.sites u.sites ≡ (bits_of t.sites == bits_of u.sites)
    → (is_older t u || is_older u t || same_txn t u) ≡ true
older_total t u e = grind (arith, common_steps, e)
