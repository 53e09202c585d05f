-- What is gathered over a transaction's names is gathered over all places, where a place without the transaction gives nothing.
use Rattle.std.specs.Prelude.{◌≡◌, ◌≤◌, ◌<◌, ◌+◌, ◌-◌, ◌++◌, ◌∷◌, [], ◌⊎◌, Bool, true, false, ℕ, zero, suc, List, map, length, take, drop}
use Rattle.std.specs.List.{flat_map, between}
use Rattle.std.specs.Ordering.{nat_cmp}
use Rattle.std.specs.declared.cmp.Ordering.TheVariants.{Less, Equal}
use Rattle.std.specs.Cmp.{nat_cmp_total}
use Rattle.std.specs.Cmp.Lexicographic.{slice_cmp}
use Rattle.std.proofs.Common.{refl, ap, sym, subst, ◌∙◌, inl, inr, arith}
use Rattle.std.proofs.lemmas.Cmp.{tied_itself}
use Rattle.e3_types.specs.declared.locks.Lock.{Lock}
use Rattle.e3_types.specs.declared.transactions.Txn.{Txn}
use Rattle.e3_types.specs.Locks.{front}
use Rattle.e3_types.specs.Same.{same_numbers, same_txn}
use Rattle.e3_types.proofs.SameSites.{same_numbers_eq}
use Rattle.e3_types.specs.Sorted.{AreUnder, AreOver, IsAscending}
use Rattle.e3_locks.specs.declared.pairs.Pair.{Pair}
use Rattle.e3_locks.specs.LockLists.{named}
use Rattle.e3_locks.specs.Places.{Place, others_of, without}
use Rattle.e3_locks.specs.Standing.{Standing, Each, place_in}
use Rattle.e3_locks.specs.Pairs.{key_of, pair_key, HasKey, AreFrom, AtEach, IsPaired, IsIndex}
use Rattle.e3_locks.specs.Waiting.{awaited, awaited_at}
use Rattle.e3_locks.proofs.Merging.{Below, Ascending, IsOne, Covered, same_given}
use Rattle.e3_locks.proofs.Pairing.{same_name, txn_eq, has_parts, halves, ascending_behind, none_before, none_from, EndsAt}
use Rattle.e3_locks.proofs.Placing.{name_of}
use Rattle.e3_locks.proofs.Still.{IsStill, others_all}
use Rattle.e3_locks.proofs.Tables.{each_own}

-- ---- the pairs of the transaction

front_cmp : (k a b : List ℕ) → slice_cmp nat_cmp (k ++ a) (k ++ b) ≡ slice_cmp nat_cmp a b
front_cmp [] a b = refl
front_cmp (x ∷ k) a b =
    let tie : nat_cmp x x ≡ Equal = tied_itself nat_cmp_total x in
    let ih = front_cmp k a b in
    rw tie ih

abbrev IsOf : Txn → Pair → Type 0
IsOf t p = key_of p.txn ≡ key_of t

abbrev names_of_pairs : List Pair → List (List ℕ)
names_of_pairs ps = map (λ p. p.name) ps

name_over : (t : Txn) (p : Pair) (ps : List Pair) → IsOf t p → Each (IsOf t) ps → AreOver pair_key (pair_key p) ps → Below p.name (names_of_pairs ps)
name_over t p [] e own over = tt
name_over t p (q ∷ ps) e own over =
    let one : slice_cmp nat_cmp (key_of t ++ p.name) (key_of t ++ q.name) ≡ Less =
    ap (λ (k : List ℕ). slice_cmp nat_cmp (k ++ p.name) (key_of t ++ q.name)) (sym e) ∙ ap (λ (k : List ℕ). slice_cmp nat_cmp (key_of p.txn ++ p.name) (k ++ q.name)) (sym own.0) ∙ over.0 in
    (sym (front_cmp (key_of t) p.name q.name) ∙ one, name_over t p ps e own.1 over.1)

names_ascend : (t : Txn) (ps : List Pair) → Each (IsOf t) ps → IsAscending pair_key ps → Ascending (names_of_pairs ps)
names_ascend t [] own up = tt
names_ascend t (p ∷ ps) own up = (name_over t p ps own.0 own.1 up.0, names_ascend t ps own.1 up.1)

name_there : (t : Txn) (n : List ℕ) (ps : List Pair) → Each (IsOf t) ps → HasKey (key_of t ++ n) ps → IsOne n (names_of_pairs ps)
name_there t n [] own h = h
name_there t n (p ∷ ps) own (inl e) = inl (sym (same_name (key_of p.txn) (key_of t) p.name n refl e))
name_there t n (p ∷ ps) own (inr h) = inr (name_there t n ps own.1 h)

-- ---- the places

below_names : (n : List ℕ) (items : List Standing) → AreOver name_of n items → Below n (map name_of items)
below_names n [] o = tt
below_names n (s ∷ items) o = (o.0, below_names n items o.1)

items_ascend : (items : List Standing) → IsAscending name_of items → Ascending (map name_of items)
items_ascend [] up = tt
items_ascend (s ∷ items) up = (below_names s.name items up.0, items_ascend items up.1)

abbrev empty : Place
empty = record { held = []; queue = [] }

there_or_none : (n : List ℕ) (items : List Standing) → IsOne n (map name_of items) ⊎ (place_in n items ≡ empty)
there_or_none n [] = inr refl
there_or_none n (s ∷ items) = by (same_numbers n s.name) refl (there_or_none n items)
  where
    by : (b : Bool) → same_numbers n s.name ≡ b → IsOne n (map name_of items) ⊎ (place_in n items ≡ empty) → IsOne n (map name_of (s ∷ items)) ⊎ (place_in n (s ∷ items) ≡ empty)
    by true e rest = inl (inl (same_numbers_eq n s.name e))
    by false e (inl o) = inl (inr o)
    by false e (inr q) = inr (rw e q)

abbrev IsOther : Txn → Lock → Type 0
IsOther t l = same_txn t l.txn ≡ false

-- a lock of the transaction among these, or none
one_or_none : (P : Lock → Type 0) (t : Txn) (xs : List Lock) → Each P xs → Each (IsOther t) xs ⊎ ((l : Lock) × P l × (same_txn t l.txn ≡ true))
one_or_none P t [] a = inl tt
one_or_none P t (x ∷ xs) a = by (same_txn t x.txn) refl (one_or_none P t xs a.1)
  where
    by : (b : Bool) → same_txn t x.txn ≡ b → Each (IsOther t) xs ⊎ ((l : Lock) × P l × (same_txn t l.txn ≡ true))
        → Each (IsOther t) (x ∷ xs) ⊎ ((l : Lock) × P l × (same_txn t l.txn ≡ true))
    by true e rest = inr (x, a.0, e)
    by false e (inl o) = inl (e, o)
    by false e (inr w) = inr w

one_at : (P : Lock → Type 0) (t : Txn) (p : Place) → AtEach P p → AtEach (IsOther t) p ⊎ ((l : Lock) × P l × (same_txn t l.txn ≡ true))
one_at P t p a = by (one_or_none P t p.held a.0) (one_or_none P t p.queue a.1)
  where
    by : Each (IsOther t) p.held ⊎ ((l : Lock) × P l × (same_txn t l.txn ≡ true)) → Each (IsOther t) p.queue ⊎ ((l : Lock) × P l × (same_txn t l.txn ≡ true))
        → AtEach (IsOther t) p ⊎ ((l : Lock) × P l × (same_txn t l.txn ≡ true))
    by (inl h) (inl q) = inl (h, q)
    by (inr w) q = inr w
    by (inl h) (inr w) = inr w

module _ {X : Type 0} (f : List ℕ → Place → List X) (t : Txn) (quiet : (n : List ℕ) (p : Place) → AtEach (IsOther t) p → IsStill p → f n p ≡ []) where
  by_pair_names : (items : List Standing) (ps : List Pair) → flat_map (λ p. f p.name (place_in p.name items)) ps ≡ flat_map (λ n. f n (place_in n items)) (names_of_pairs ps)
  by_pair_names items [] = refl
  by_pair_names items (p ∷ ps) = ap (λ (l : List X). f p.name (place_in p.name items) ++ l) (by_pair_names items ps)

  by_item_names : (at : List ℕ → Place) (items : List Standing) → Each (λ s. at s.name ≡ s.place) items → flat_map (λ s. f s.name s.place) items ≡ flat_map (λ n. f n (at n)) (map name_of items)
  by_item_names at [] own = refl
  by_item_names at (s ∷ items) own =
      ap (λ (p : Place). f s.name p ++ flat_map (λ s. f s.name s.place) items) (sym own.0) ∙ ap (λ (l : List X). f s.name (at s.name) ++ l) (by_item_names at items own.1)

  covered_names : (items all : List Standing) (pairs mine : List Pair) → IsIndex all pairs → Each (IsOf t) mine → ((n : List ℕ) → HasKey (key_of t ++ n) pairs → HasKey (key_of t ++ n) mine)
      → Covered (λ n. f n (place_in n all)) (names_of_pairs mine) (map name_of items)
  covered_names [] all pairs mine a own keeps = tt
  covered_names (s ∷ items) all pairs mine a own keeps = (by (one_at (IsPaired s.name pairs) t (place_in s.name all) (a.paired s.name)), covered_names items all pairs mine a own keeps)
    where
      by : AtEach (IsOther t) (place_in s.name all) ⊎ ((l : Lock) × IsPaired s.name pairs l × (same_txn t l.txn ≡ true))
          → IsOne s.name (names_of_pairs mine) ⊎ (f s.name (place_in s.name all) ≡ [])
      by (inl o) = inr (quiet s.name (place_in s.name all) o (a.still s.name))
      by (inr w) =
          let has : HasKey (key_of t ++ s.name) pairs = subst (λ (u : Txn). HasKey (key_of u ++ s.name) pairs) (sym (txn_eq t w.0.txn w.2)) w.1.1 in
          inl (name_there t s.name mine own (keeps s.name has))

  covered_items : (items : List Standing) (ps : List Pair) → Covered (λ n. f n (place_in n items)) (map name_of items) (names_of_pairs ps)
  covered_items items [] = tt
  covered_items items (p ∷ ps) = (by (there_or_none p.name items), covered_items items ps)
    where
      by : IsOne p.name (map name_of items) ⊎ (place_in p.name items ≡ empty) → IsOne p.name (map name_of items) ⊎ (f p.name (place_in p.name items) ≡ [])
      by (inl o) = inl o
      by (inr e) = inr (ap (f p.name) e ∙ quiet p.name empty (tt, tt) refl)

  -- over the transaction's names or over all places
  pub gathered : (items : List Standing) (pairs mine : List Pair) → IsIndex items pairs → IsAscending name_of items → Each (λ p. key_of p.txn ≡ key_of t) mine → IsAscending pair_key mine
      → ((n : List ℕ) → HasKey (key_of t ++ n) pairs → HasKey (key_of t ++ n) mine)
      → flat_map (λ p. f p.name (place_in p.name items)) mine ≡ flat_map (λ s. f s.name s.place) items
  gathered items pairs mine a up own mine_up keeps =
      by_pair_names items mine
      ∙ same_given (λ n. f n (place_in n items)) (names_of_pairs mine) (map name_of items) (names_ascend t mine own mine_up) (items_ascend items up)
      (covered_names items items pairs mine a own keeps) (covered_items items mine)
      ∙ sym (by_item_names (λ n. place_in n items) items (each_own items up))

-- ---- a name without the transaction gives nothing

pub no_grants : (t : Txn) (n : List ℕ) (p : Place) → AtEach (λ l. same_txn t l.txn ≡ false) p → IsStill p
    → map (named n) (front (without t p).held (without t p).queue) ≡ []
no_grants t n p a s =
    let h : others_of t p.held ≡ p.held = others_all t p.held a.0 in
    let q : others_of t p.queue ≡ p.queue = others_all t p.queue a.1 in
    let none : front (others_of t p.held) (others_of t p.queue) ≡ [] = ap (λ (l : List Lock). front l (others_of t p.queue)) h ∙ ap (front p.held) q ∙ s in
    ap (λ (l : List Lock). map (named n) l) none

none_awaited : (t : Txn) (ahead queue : List Lock) → Each (λ l. same_txn t l.txn ≡ false) queue → awaited t ahead queue ≡ []
none_awaited t ahead [] a = refl
none_awaited t ahead (w ∷ queue) a = let e : same_txn t w.txn ≡ false = a.0 in let ih = none_awaited t (ahead ++ w ∷ []) queue a.1 in rw (e, ih) refl

pub no_waits : (t : Txn) (n : List ℕ) (p : Place) → AtEach (λ l. same_txn t l.txn ≡ false) p → IsStill p → awaited_at t p ≡ []
no_waits t n p a s = none_awaited t p.held p.queue a.1

-- ---- the row of the transaction's pairs

pub each_more : (P : Pair → Type 0) (xs : List Pair) (x : Pair) → Each P xs → P x → Each P (xs ++ x ∷ [])
each_more P [] x a p = (p, tt)
each_more P (y ∷ xs) x a p = (a.0, each_more P xs x a.1 p)

drop_none : (k : ℕ) → ◌≡◌ {A = List Pair} (drop k []) []
drop_none zero = refl
drop_none (suc k) = refl

drop_more : (i j : ℕ) (xs : List Pair) → i ≤ j → drop (j - i) (drop i xs) ≡ drop j xs
drop_more zero j xs le = let e : j - 0 ≡ j = omega arith in ap (λ (n : ℕ). drop n xs) e
drop_more (suc i) zero xs le = absurd (omega (arith, le))
drop_more (suc i) (suc j) [] le = drop_none (suc j - suc i)
drop_more (suc i) (suc j) (x ∷ xs) le =
    let e : suc j - suc i ≡ j - i = omega arith in
    ap (λ (n : ℕ). drop n (drop i xs)) e ∙ drop_more i j xs (omega (arith, le))

row : (i j : ℕ) (xs : List Pair) → i ≤ j → xs ≡ take i xs ++ (between i j xs ++ drop j xs)
row i j xs le = halves i xs ∙ ap (λ (l : List Pair). take i xs ++ l) (halves (j - i) (drop i xs) ∙ ap (λ (l : List Pair). between i j xs ++ l) (drop_more i j xs le))

over_front : (k : List ℕ) (xs ys : List Pair) → AreOver pair_key k (xs ++ ys) → AreOver pair_key k xs
over_front k [] ys o = tt
over_front k (x ∷ xs) ys o = (o.0, over_front k xs ys o.1)

ascending_front : (xs ys : List Pair) → IsAscending pair_key (xs ++ ys) → IsAscending pair_key xs
ascending_front [] ys a = tt
ascending_front (x ∷ xs) ys a = (over_front (pair_key x) xs ys a.0, ascending_front xs ys a.1)

pub row_ascends : (i j : ℕ) (xs : List Pair) → i ≤ j → IsAscending pair_key xs → IsAscending pair_key (between i j xs)
row_ascends i j xs le up =
    ascending_front (between i j xs) (drop j xs) (ascending_behind (take i xs) (between i j xs ++ drop j xs) (subst (λ l. IsAscending pair_key l) (row i j xs le) up))

pub from_more : (k : List ℕ) (xs : List Pair) (n : ℕ) → n < length xs → AreFrom k (drop n xs) → AreFrom k (drop (n + 1) xs)
from_more k [] n lt f = absurd (omega (arith, lt))
from_more k (x ∷ xs) zero lt f = f.1
from_more k (x ∷ xs) (suc n) lt f = let e : suc n + 1 ≡ suc (n + 1) = omega arith in subst (λ (m : ℕ). AreFrom k (drop m (x ∷ xs))) (sym e) (from_more k xs n (omega (arith, lt)) f)

pub row_keeps : (t : Txn) (i j : ℕ) (xs : List Pair) → i ≤ j → IsAscending pair_key xs → AreUnder pair_key (key_of t) (take i xs) → AreFrom (key_of t) (drop j xs)
    → EndsAt t xs j → (n : List ℕ)
    → HasKey (key_of t ++ n) xs → HasKey (key_of t ++ n) (between i j xs)
row_keeps t i j xs le up under from end n h =
    by (has_parts k (take i xs) (between i j xs ++ drop j xs) (subst (λ l. HasKey k l) (row i j xs le) h))
  where
    k : List ℕ
    k = key_of t ++ n

    rest : HasKey k (between i j xs) ⊎ HasKey k (drop j xs) → HasKey k (between i j xs)
    rest (inl x) = x
    rest (inr y) = absurd (none_from t xs j up from end n y)

    by : HasKey k (take i xs) ⊎ HasKey k (between i j xs ++ drop j xs) → HasKey k (between i j xs)
    by (inl x) = absurd (none_before t n (take i xs) under x)
    by (inr y) = rest (has_parts k (between i j xs) (drop j xs) y)
