-- What a map has behind one more entry, where equal keys are one.
use Rattle.std.specs.Prelude.{◌≡◌, ◌==◌, ◌&&◌, ◌||◌, ◌∷◌, [], ◌+◌, ℕ, Bool, true, false, cond, List, Some, length}
use Rattle.std.specs.BTreeMap.{is_at, insert_entry}
use Rattle.std.specs.BTreeSet.{insert_key}
use Rattle.std.specs.Cmp.{unsigned_tied}
use Rattle.std.specs.Cmp.Lexicographic.{slice_cmp, texts_ties}
use Rattle.std.specs.List.{list_any}
use Rattle.std.specs.Map.{lookup}
use Rattle.std.specs.Ordering.{nat_cmp, is_eq}
use Rattle.std.proofs.Common.{Ordering, Less, Equal, Greater, refl, ap, sym, ◌∙◌, arith}
use Rattle.std.proofs.lemmas.Grind.{common_steps}
use Rattle.std.proofs.lemmas.Map.Lookups.{CmpEqualImpliesEq, exact_bytes, exact_unsigned}
use Rattle.e3_types.specs.declared.transactions.Txn.{Txn}
use Rattle.e3_types.specs.Same.{same_numbers, same_txn}
use Rattle.e3_types.proofs.Orders.{pointwise_same}
use Rattle.e3_order.specs.Keys.{numbers_of, has_txn, with_txn, has_number, at_key, at_number}

pub equal_at : (o : Ordering) → is_eq o ≡ true → o ≡ Equal
equal_at Equal e = refl
equal_at Less e = absurd cc
equal_at Greater e = absurd cc

twice : {X : Type 0} (b : Bool) (x y z : X) → cond b x (cond b y z) ≡ cond b x z
twice true x y z = refl
twice false x y z = refl

module _ {K X : Type 0} (cmp : K → K → Ordering) (exact : CmpEqualImpliesEq cmp) where
  behind : (q k : K) (v : X) (e : K × X) (es : List (K × X)) (b : Bool) → cmp k e.0 ≡ Greater → is_at (cmp q) k ≡ b →
      cond (is_at (cmp q) e.0) (Some e.1) (cond b (Some v) (lookup (is_at (cmp q)) es))
      ≡ cond b (Some v) (cond (is_at (cmp q) e.0) (Some e.1) (lookup (is_at (cmp q)) es))
  behind q k v e es true is at =
      let other : is_at (cmp q) e.0 ≡ false = ap (λ x. is_at (cmp x) e.0) (exact q k (equal_at (cmp q k) at)) ∙ ap is_eq is in
      rw other refl
  behind q k v e es false is at = refl

  inserted_at : (q k : K) (v : X) (e : K × X) (es : List (K × X)) (o : Ordering) → cmp k e.0 ≡ o →
      lookup (is_at (cmp q)) (insert_entry cmp es k v) ≡ cond (is_at (cmp q) k) (Some v) (lookup (is_at (cmp q)) es) →
      lookup (is_at (cmp q)) (insert_entry cmp (e ∷ es) k v) ≡ cond (is_at (cmp q) k) (Some v) (lookup (is_at (cmp q)) (e ∷ es))
  inserted_at q k v e es Less is ih = rw is refl
  inserted_at q k v e es Equal is ih =
      let same : k ≡ e.0 = exact k e.0 is in
      rw is (sym (ap (λ x. cond (is_at (cmp q) x) (Some v) (cond (is_at (cmp q) e.0) (Some e.1) (lookup (is_at (cmp q)) es))) same
      ∙ twice (is_at (cmp q) e.0) (Some v) (Some e.1) (lookup (is_at (cmp q)) es)))
  inserted_at q k v e es Greater is ih =
      rw is (ap (cond (is_at (cmp q) e.0) (Some e.1)) ih ∙ behind q k v e es (is_at (cmp q) k) is refl)

  inserted : (q k : K) (v : X) (es : List (K × X)) →
      lookup (is_at (cmp q)) (insert_entry cmp es k v) ≡ cond (is_at (cmp q) k) (Some v) (lookup (is_at (cmp q)) es)
  inserted q k v [] = refl
  inserted q k v (e ∷ es) = inserted_at q k v e es (cmp k e.0) refl (inserted q k v es)

-- one more key of a set
either : (a b c : Bool) → (a || (b || c)) ≡ (b || (a || c))
either true true c = refl
either true false c = refl
either false true c = refl
either false false c = refl

both : (a c : Bool) → (a || (a || c)) ≡ (a || c)
both true c = refl
both false c = refl

module _ {K : Type 0} (cmp : K → K → Ordering) (exact : CmpEqualImpliesEq cmp) where
  added_at : (q k x : K) (xs : List K) (o : Ordering) → cmp k x ≡ o →
      list_any (is_at (cmp q)) (insert_key cmp xs k) ≡ (is_at (cmp q) k || list_any (is_at (cmp q)) xs) →
      list_any (is_at (cmp q)) (insert_key cmp (x ∷ xs) k) ≡ (is_at (cmp q) k || list_any (is_at (cmp q)) (x ∷ xs))
  added_at q k x xs Less is ih = rw is refl
  added_at q k x xs Equal is ih =
      rw is (sym (ap (λ y. is_at (cmp q) y || (is_at (cmp q) x || list_any (is_at (cmp q)) xs)) (exact k x is)
      ∙ both (is_at (cmp q) x) (list_any (is_at (cmp q)) xs)))
  added_at q k x xs Greater is ih =
      rw is (ap (λ b. is_at (cmp q) x || b) ih ∙ either (is_at (cmp q) x) (is_at (cmp q) k) (list_any (is_at (cmp q)) xs))

  added : (q k : K) (xs : List K) →
      list_any (is_at (cmp q)) (insert_key cmp xs k) ≡ (is_at (cmp q) k || list_any (is_at (cmp q)) xs)
  added q k [] = refl
  added q k (x ∷ xs) = added_at q k x xs (cmp k x) refl (added q k xs)

-- a key that no key of a set equals is one more
module _ {K : Type 0} (cmp : K → K → Ordering) where
  counted_at : (k x : K) (xs : List K) (o : Ordering) → cmp k x ≡ o → list_any (is_at (cmp k)) (x ∷ xs) ≡ false →
      (list_any (is_at (cmp k)) xs ≡ false → length (insert_key cmp xs k) ≡ length xs + 1) →
      length (insert_key cmp (x ∷ xs) k) ≡ length (x ∷ xs) + 1
  counted_at k x xs Less is new ih = rw is (omega arith)
  counted_at k x xs Equal is new ih =
      let no : true ≡ false = sym (ap (λ o. is_eq o || list_any (is_at (cmp k)) xs) is) ∙ new in absurd cc
  counted_at k x xs Greater is new ih =
      let behind = ih (sym (ap (λ o. is_eq o || list_any (is_at (cmp k)) xs) is) ∙ new) in rw is (omega (arith, behind))

  counted : (k : K) (xs : List K) → list_any (is_at (cmp k)) xs ≡ false → length (insert_key cmp xs k) ≡ length xs + 1
  counted k [] new = refl
  counted k (x ∷ xs) new = counted_at k x xs (cmp k x) refl new (counted k xs)

-- equal lists of numbers
pub key_same : (q k : List ℕ) → is_at (slice_cmp nat_cmp q) k ≡ same_numbers q k
key_same q k = sym (texts_ties q k) ∙ pointwise_same q k

turned : (a b : ℕ) → (a == b) ≡ (b == a)
turned a b = grind (arith, common_steps)

list_turned : (xs ys : List ℕ) → same_numbers xs ys ≡ same_numbers ys xs
list_turned [] [] = refl
list_turned [] (y ∷ ys) = refl
list_turned (x ∷ xs) [] = refl
list_turned (x ∷ xs) (y ∷ ys) = ap (λ b. b && same_numbers xs ys) (turned x y) ∙ ap (λ b. (y == x) && b) (list_turned xs ys)

pub key_turned : (q k : List ℕ) → is_at (slice_cmp nat_cmp k) q ≡ same_numbers q k
key_turned q k = key_same k q ∙ list_turned k q

four : (a b c d : Bool) → (a && (b && (c && d))) ≡ (((a && b) && c) && d)
four true true c d = refl
four true false c d = refl
four false b c d = refl

-- transactions of the same numbers
pub txn_same : (q t : Txn) → same_numbers (numbers_of q) (numbers_of t) ≡ same_txn q t
unfolding numbers_of
txn_same q t = four (q.site == t.site) (q.inc == t.inc) (q.seq == t.seq) (same_numbers q.sites t.sites)

-- one more transaction of a set, at its place
pub txn_inserted : (q t : Txn) (keys : List (List ℕ)) → has_txn q (insert_key (slice_cmp nat_cmp) keys (numbers_of t)) ≡ (same_txn q t || has_txn q keys)
txn_inserted q t keys =
    added (slice_cmp nat_cmp) exact_bytes (numbers_of q) (numbers_of t) keys
    ∙ ap (λ b. b || has_txn q keys) (key_same (numbers_of q) (numbers_of t) ∙ txn_same q t)

-- one transaction is there where the other is
there : (q t : Txn) (keys : List (List ℕ)) (b : Bool) → same_txn q t ≡ b → has_txn t keys ≡ true → has_txn q keys ≡ (b || has_txn q keys)
there q t keys true same is =
    let one : numbers_of q ≡ numbers_of t = exact_bytes (numbers_of q) (numbers_of t)
    (equal_at (slice_cmp nat_cmp (numbers_of q) (numbers_of t)) (key_same (numbers_of q) (numbers_of t) ∙ txn_same q t ∙ same)) in
    ap (λ l. list_any (is_at (slice_cmp nat_cmp l)) keys) one ∙ is
there q t keys false same is = refl

-- one more transaction of a set
pub txn_added : (q t : Txn) (keys : List (List ℕ)) → has_txn q (with_txn t keys) ≡ (same_txn q t || has_txn q keys)
txn_added q t keys = by (has_txn t keys) refl
  where
    by : (b : Bool) → has_txn t keys ≡ b → has_txn q (with_txn t keys) ≡ (same_txn q t || has_txn q keys)
    by true is = rw is (there q t keys (same_txn q t) refl is)
    by false is = rw is (txn_inserted q t keys)

-- a transaction that is not there is one more
pub txn_counted : (t : Txn) (keys : List (List ℕ)) → has_txn t keys ≡ false → length (insert_key (slice_cmp nat_cmp) keys (numbers_of t)) ≡ length keys + 1
txn_counted t keys new = counted (slice_cmp nat_cmp) (numbers_of t) keys new

-- equal numbers
number_same : (q k : ℕ) → is_at (nat_cmp q) k ≡ (k == q)
number_same q k = unsigned_tied q k ∙ turned q k

-- the test of a number of a set
pub number_query : (k q : ℕ) → is_at (nat_cmp k) q ≡ (k == q)
number_query k q = unsigned_tied k q

-- one more number of a set
pub number_added : (q k : ℕ) (keys : List ℕ) → has_number q (insert_key nat_cmp keys k) ≡ ((k == q) || has_number q keys)
number_added q k keys = added nat_cmp exact_unsigned q k keys ∙ ap (λ b. b || has_number q keys) (number_same q k)

-- keys that are names or transactions' numbers
pub key_inserted : {X : Type 0} (q k : List ℕ) (v : X) (es : List (List ℕ × X)) →
    at_key q (insert_entry (slice_cmp nat_cmp) es k v) ≡ cond (same_numbers q k) (Some v) (at_key q es)
key_inserted q k v es =
    inserted (slice_cmp nat_cmp) exact_bytes q k v es
    ∙ ap (λ b. cond b (Some v) (at_key q es)) (key_same q k)

-- keys that are numbers
pub number_inserted : {X : Type 0} (q k : ℕ) (v : X) (es : List (ℕ × X)) →
    at_number q (insert_entry nat_cmp es k v) ≡ cond (k == q) (Some v) (at_number q es)
number_inserted q k v es =
    inserted nat_cmp exact_unsigned q k v es ∙ ap (λ b. cond b (Some v) (at_number q es)) (number_same q k)
