-- What a map finds behind one more entry.
use Rattle.std.proofs.Common.{◌≡◌, ◌==◌, ◌<◌, ℕ, Bool, true, false, cond, List, [], ◌∷◌, Some, refl, sym, ap, ◌∙◌, nat_lt, eqb-true, eq-eqb, arith}
use Rattle.std.proofs.lemmas.Bool.{false_from_ne_true, ltb-true}
use Rattle.std.specs.declared.cmp.Ordering.{Ordering}
use Rattle.std.specs.declared.cmp.Ordering.TheVariants.{Less, Equal, Greater}
use Rattle.std.specs.Ordering.{nat_cmp, ordering_then, is_eq}
use Rattle.std.specs.Map.{lookup}
use Rattle.std.specs.BTreeMap.{is_at, insert_entry}
use Rattle.e3_trace.specs.Fields.{TxnName, name_cmp}

module _ {K X : Type 0} (R : K → K → Ordering) where
  -- the new entry is found
  pub lookup_same : (k : K) (v : X) → R k k ≡ Equal → (es : List (K × X)) → lookup (is_at (R k)) (insert_entry R es k v) ≡ Some v
  lookup_same k v self [] = rw self refl
  lookup_same k v self (e ∷ es) = by (R k e.0) refl (lookup_same k v self es)
    where
      by : (o : Ordering) → R k e.0 ≡ o → lookup (is_at (R k)) (insert_entry R es k v) ≡ Some v → lookup (is_at (R k)) (insert_entry R (e ∷ es) k v) ≡ Some v
      by Less is more = rw (is, self) refl
      by Equal is more = rw (is, is) refl
      by Greater is more = rw (is, is) more

  -- the others are found as before
  pub lookup_other : (q k : K) (v : X) → is_eq (R q k) ≡ false → ((a : K) → R k a ≡ Equal → k ≡ a) → (es : List (K × X)) →
      lookup (is_at (R q)) (insert_entry R es k v) ≡ lookup (is_at (R q)) es
  lookup_other q k v apart ties [] = rw apart refl
  lookup_other q k v apart ties (e ∷ es) = by (R k e.0) refl (lookup_other q k v apart ties es)
    where
      by : (o : Ordering) → R k e.0 ≡ o → lookup (is_at (R q)) (insert_entry R es k v) ≡ lookup (is_at (R q)) es →
          lookup (is_at (R q)) (insert_entry R (e ∷ es) k v) ≡ lookup (is_at (R q)) (e ∷ es)
      by Less is more = rw (is, apart) refl
      by Equal is more = let other : is_eq (R q e.0) ≡ false = sym (ap (λ a. is_eq (R q a)) (ties e.0 is)) ∙ apart in rw (is, other) refl
      by Greater is more = rw is (ap (λ o. cond (is_eq (R q e.0)) (Some e.1) o) more)

not_less : (n : ℕ) → nat_lt n n ≡ false
not_less n = false_from_ne_true (nat_lt n n) (λ is. absurd (let less : n < n = ltb-true n n is in omega (arith, less)))

pub nat_self : (n : ℕ) → nat_cmp n n ≡ Equal
nat_self n = rw (not_less n, eq-eqb n n refl) refl

pub nat_ties : (n m : ℕ) → nat_cmp n m ≡ Equal → n ≡ m
nat_ties n m = by (nat_lt n m) (n == m) refl refl
  where
    by : (b c : Bool) → nat_lt n m ≡ b → (n == m) ≡ c → nat_cmp n m ≡ Equal → n ≡ m
    by b true less same is = eqb-true n m same
    by true false less same is = let first : nat_cmp n m ≡ Less = rw less refl in let wrong : Less ≡ Equal = sym first ∙ is in absurd cc
    by false false less same is = let first : nat_cmp n m ≡ Greater = rw (less, same) refl in let wrong : Greater ≡ Equal = sym first ∙ is in absurd cc

pub nat_apart : (n m : ℕ) → (n ≡ m → ⊥) → is_eq (nat_cmp n m) ≡ false
nat_apart n m differ = by (nat_cmp n m) refl
  where
    by : (o : Ordering) → nat_cmp n m ≡ o → is_eq o ≡ false
    by Less is = refl
    by Equal is = absurd (differ (nat_ties n m is))
    by Greater is = refl

-- one order behind another
then_ties : (a b : Ordering) → ordering_then a b ≡ Equal → (a ≡ Equal) × (b ≡ Equal)
then_ties Less b is = absurd cc
then_ties Equal b is = (refl, is)
then_ties Greater b is = absurd cc

pub name_self : (a : TxnName) → name_cmp a a ≡ Equal
name_self a = rw (nat_self a.0, nat_self a.1.0, nat_self a.1.1) refl

pub name_ties : (a b : TxnName) → name_cmp a b ≡ Equal → a ≡ b
name_ties a b is =
    let first : _ = then_ties (nat_cmp a.0 b.0) (ordering_then (nat_cmp a.1.0 b.1.0) (nat_cmp a.1.1 b.1.1)) is in
    let second : _ = then_ties (nat_cmp a.1.0 b.1.0) (nat_cmp a.1.1 b.1.1) first.1 in
    ap (λ x. (x, (a.1.0, a.1.1))) (nat_ties a.0 b.0 first.0)
    ∙ ap (λ x. (b.0, (x, a.1.1))) (nat_ties a.1.0 b.1.0 second.0)
    ∙ ap (λ x. (b.0, (b.1.0, x))) (nat_ties a.1.1 b.1.1 second.1)

pub name_apart : (a b : TxnName) → (a ≡ b → ⊥) → is_eq (name_cmp a b) ≡ false
name_apart a b differ = by (name_cmp a b) refl
  where
    by : (o : Ordering) → name_cmp a b ≡ o → is_eq o ≡ false
    by Less is = refl
    by Equal is = absurd (differ (name_ties a b is))
    by Greater is = refl
