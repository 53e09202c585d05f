-- The order of transactions by their numbers.
use Rattle.std.specs.Prelude.{◌≡◌, ◌<◌, ◌∷◌, ℕ, List, length, nat_eq}
use Rattle.std.specs.Cmp.Lexicographic.{pointwise, slice_cmp}
use Rattle.std.specs.Ordering.{nat_cmp, ordering_then}
use Rattle.std.proofs.Common.{Ordering, Less, Equal, Greater, refl, ◌∙◌, arith}
use Rattle.e3_types.specs.declared.transactions.Txn.{Txn}
use Rattle.e3_types.specs.Same.{same_txn}
use Rattle.e3_types.proofs.Orders.{pointwise_same}
use Rattle.e3_order.specs.Keys.{numbers_of}
use Rattle.e3_order.proofs.Maps.{txn_same}

-- the first sites of two sets
pub next_sites : (left right xs ys : List ℕ) (x y : ℕ) → left ≡ x ∷ xs → right ≡ y ∷ ys →
    slice_cmp nat_cmp left right ≡ ordering_then (nat_cmp x y) (slice_cmp nat_cmp xs ys)
next_sites left right xs ys x y e f = rw (e, f) refl

-- fewer sites are left
pub fewer_sites : (left xs : List ℕ) (x : ℕ) → left ≡ x ∷ xs → length xs < length left
fewer_sites left xs x e = rw e (omega arith)

joined : (o p q s : Ordering) →
    ordering_then o (ordering_then p (ordering_then q s)) ≡ ordering_then (ordering_then o (ordering_then p q)) s
joined Less p q s = refl
joined Greater p q s = refl
joined Equal Less q s = refl
joined Equal Equal q s = refl
joined Equal Greater q s = refl

-- the numbers before the sites, and then the sites
pub numbers_joined : (t u : Txn) →
    slice_cmp nat_cmp (numbers_of t) (numbers_of u)
    ≡ ordering_then (ordering_then (nat_cmp t.site u.site) (ordering_then (nat_cmp t.inc u.inc) (nat_cmp t.seq u.seq)))
    (slice_cmp nat_cmp t.sites u.sites)
unfolding numbers_of
numbers_joined t u = joined (nat_cmp t.site u.site) (nat_cmp t.inc u.inc) (nat_cmp t.seq u.seq) (slice_cmp nat_cmp t.sites u.sites)

-- the test of the numbers is that of the transactions
pub numbers_tied : (t u : Txn) → pointwise nat_eq (numbers_of t) (numbers_of u) ≡ same_txn t u
numbers_tied t u = pointwise_same (numbers_of t) (numbers_of u) ∙ txn_same t u
