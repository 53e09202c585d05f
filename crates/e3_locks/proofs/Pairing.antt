-- Keys of pairs, and what a table's pairs say of its places.
use Rattle.std.specs.Prelude.{◌≡◌, ◌≤◌, ◌<◌, ◌++◌, ◌∷◌, [], ◌⊎◌, ℕ, zero, suc, Bool, true, false, List, length, take, drop}
use Rattle.std.specs.List.{remove, insert}
use Rattle.std.specs.Ordering.{nat_cmp, ordering_then}
use Rattle.std.specs.declared.cmp.Ordering.{Ordering}
use Rattle.std.specs.declared.cmp.Ordering.TheVariants.{Less, Equal, Greater}
use Rattle.std.specs.Cmp.{nat_cmp_total}
use Rattle.std.specs.Cmp.Lexicographic.{slice_cmp, nat_list_cmp_total}
use Rattle.std.proofs.Common.{refl, ap, sym, ◌∙◌, subst, inl, inr, arith, get_or, drop-cons}
use Rattle.std.proofs.lemmas.Grind.{common_steps}
use Rattle.std.proofs.lemmas.Cmp.{tied_itself}
use Rattle.std.proofs.lemmas.Map.Lookups.{exact_bytes}
use Rattle.e3_types.specs.declared.locks.Grant.{Grant}
use Rattle.e3_types.specs.declared.locks.Lock.{Lock}
use Rattle.e3_types.specs.declared.transactions.Txn.{Txn}
use Rattle.e3_types.specs.Same.{same_numbers, same_txn}
use Rattle.e3_types.specs.Sites.{sites_of}
use Rattle.e3_types.proofs.SameSites.{same_numbers_refl, same_numbers_eq}
use Rattle.e3_types.specs.Sorted.{IsUnder, AreUnder, AreOver, IsAscending, IsAt, IsGap}
use Rattle.e3_types.proofs.Ascending.{never_under, ascending_insert}
use Rattle.e3_types.proofs.Edits.{take_front, drop_front, insert_parts, at_place}
use Rattle.e3_locks.specs.declared.pairs.Pair.{Pair}
use Rattle.e3_locks.specs.Places.{Place, would, released}
use Rattle.e3_locks.specs.Replays.{with_request}
use Rattle.e3_locks.specs.Standing.{Standing, place_in}
use Rattle.e3_world.specs.Transactions.{IsFoundByBits}
use Rattle.e3_locks.specs.Pairs.{key_of, pair_key, HasKey, AreFrom, AtEach, IsPaired, IsPut, IsIndex, with_release}
use Rattle.e3_locks.proofs.Still.{IsStill, still_requested, still_released, each_requested, each_released, each_place, released_none, released_twice}

-- ---- keys

pub then_again : (a b c : Ordering) → ordering_then (ordering_then a b) c ≡ ordering_then a (ordering_then b c)
then_again Less b c = refl
then_again Equal b c = refl
then_again Greater b c = refl

-- a key with more behind it does not come before the key
front_not_under : (k m : List ℕ) → IsUnder (k ++ m) k → ⊥
front_not_under [] [] e = cc
front_not_under [] (x ∷ m) e = cc
front_not_under (x ∷ k) m e =
    let tie : nat_cmp x x ≡ Equal = tied_itself nat_cmp_total x in
    let rest : IsUnder (k ++ m) k = rw tie at e in front_not_under k m rest

nat_exact : (x y : ℕ) → nat_cmp x y ≡ Equal → x ≡ y
nat_exact x y q =
    let one : slice_cmp nat_cmp (x ∷ []) (y ∷ []) ≡ Equal = rw q refl in
    let same : x ∷ [] ≡ y ∷ [] = exact_bytes (x ∷ []) (y ∷ []) one in
    ap (λ (l : List ℕ). get_or l 0 0) same

differ : (x y : ℕ) (a b : List ℕ) → same_numbers (x ∷ a) (y ∷ b) ≡ false → x ≡ y → same_numbers a b ≡ false
differ x y a b e s = by (same_numbers a b) refl (subst (λ (z : ℕ). same_numbers (z ∷ a) (y ∷ b) ≡ false) s e)
  where
    by : (c : Bool) → same_numbers a b ≡ c → same_numbers (y ∷ a) (y ∷ b) ≡ false → same_numbers a b ≡ false
    by false r f = r
    by true r f =
        let yes : same_numbers (y ∷ a) (y ∷ b) ≡ true = ap (λ (l : List ℕ). same_numbers (y ∷ l) (y ∷ b)) (same_numbers_eq a b r) ∙ same_numbers_refl (y ∷ b) in
        cc

-- keys of one length that differ decide, whatever stands behind them
decides : (a b m n : List ℕ) → length a ≡ length b → same_numbers a b ≡ false → slice_cmp nat_cmp (a ++ m) (b ++ n) ≡ slice_cmp nat_cmp a b
decides [] [] m n l e = cc
decides [] (y ∷ b) m n l e = absurd (omega (arith, l))
decides (x ∷ a) [] m n l e = absurd (omega (arith, l))
decides (x ∷ a) (y ∷ b) m n l e = by (nat_cmp x y) refl (λ s. decides a b m n (omega (arith, l)) (differ x y a b e s))
  where
    by : (o : Ordering) → nat_cmp x y ≡ o → (x ≡ y → slice_cmp nat_cmp (a ++ m) (b ++ n) ≡ slice_cmp nat_cmp a b)
        → slice_cmp nat_cmp ((x ∷ a) ++ m) ((y ∷ b) ++ n) ≡ slice_cmp nat_cmp (x ∷ a) (y ∷ b)
    by Less q rest = rw q refl
    by Greater q rest = rw q refl
    by Equal q rest = rw q (rest (nat_exact x y q))

-- behind a pair of another transaction, which is not under the key, none has the key in front
pub none_behind : (t : Txn) (n : List ℕ) (p : Pair) (ps : List Pair) → same_numbers (key_of p.txn) (key_of t) ≡ false → (IsUnder (pair_key p) (key_of t) → ⊥)
    → AreOver pair_key (pair_key p) ps → HasKey (key_of t ++ n) ps → ⊥
none_behind t n p [] other from over has = has
none_behind t n p (q ∷ ps) other from over (inl e) =
    let under : IsUnder (pair_key p) (key_of t ++ n) = subst (λ (k : List ℕ). IsUnder (pair_key p) k) e over.0 in
    let apart : slice_cmp nat_cmp (key_of p.txn ++ p.name) (key_of t ++ n) ≡ slice_cmp nat_cmp (key_of p.txn) (key_of t) = decides (key_of p.txn) (key_of t) p.name n refl other in
    let plain : slice_cmp nat_cmp (key_of p.txn ++ p.name) (key_of t ++ []) ≡ slice_cmp nat_cmp (key_of p.txn) (key_of t) = decides (key_of p.txn) (key_of t) p.name [] refl other in
    from (plain ∙ sym apart ∙ under)
none_behind t n p (q ∷ ps) other from over (inr h) = none_behind t n p ps other from over.1 h

none_at : (t : Txn) (n : List ℕ) (p : Pair) → same_numbers (key_of p.txn) (key_of t) ≡ false → pair_key p ≡ key_of t ++ n → ⊥
none_at t n p other e =
    let apart : slice_cmp nat_cmp (key_of p.txn ++ p.name) (key_of t ++ n) ≡ slice_cmp nat_cmp (key_of p.txn) (key_of t) = decides (key_of p.txn) (key_of t) p.name n refl other in
    let tie : slice_cmp nat_cmp (key_of p.txn ++ p.name) (key_of t ++ n) ≡ Equal = ap (λ (k : List ℕ). slice_cmp nat_cmp k (key_of t ++ n)) e ∙ tied_itself nat_list_cmp_total (key_of t ++ n) in
    let same : key_of p.txn ≡ key_of t = exact_bytes (key_of p.txn) (key_of t) (sym apart ∙ tie) in
    let yes : same_numbers (key_of p.txn) (key_of t) ≡ true = ap (λ (k : List ℕ). same_numbers k (key_of t)) same ∙ same_numbers_refl (key_of t) in cc

-- none of those before the key has it in front
pub none_before : (t : Txn) (n : List ℕ) (ps : List Pair) → AreUnder pair_key (key_of t) ps → HasKey (key_of t ++ n) ps → ⊥
none_before t n [] under has = has
none_before t n (p ∷ ps) under (inl e) = front_not_under (key_of t) n (subst (λ (k : List ℕ). IsUnder k (key_of t)) e under.0)
none_before t n (p ∷ ps) under (inr h) = none_before t n ps under.1 h

-- ---- lists of pairs

pub has_parts : (k : List ℕ) (xs ys : List Pair) → HasKey k (xs ++ ys) → HasKey k xs ⊎ HasKey k ys
has_parts k [] ys h = inr h
has_parts k (x ∷ xs) ys (inl e) = inl (inl e)
has_parts k (x ∷ xs) ys (inr h) = elim (has_parts k xs ys h) [ inl a ↦ inl (inr a) | inr b ↦ inr b ]

has_left : (k : List ℕ) (xs ys : List Pair) → HasKey k xs → HasKey k (xs ++ ys)
has_left k [] ys h = absurd h
has_left k (x ∷ xs) ys (inl e) = inl e
has_left k (x ∷ xs) ys (inr h) = inr (has_left k xs ys h)

has_right : (k : List ℕ) (xs ys : List Pair) → HasKey k ys → HasKey k (xs ++ ys)
has_right k [] ys h = h
has_right k (x ∷ xs) ys h = inr (has_right k xs ys h)

over_less : (k : List ℕ) (xs : List Pair) (y : Pair) (ys : List Pair) → AreOver pair_key k (xs ++ y ∷ ys) → AreOver pair_key k (xs ++ ys)
over_less k [] y ys o = o.1
over_less k (x ∷ xs) y ys o = (o.0, over_less k xs y ys o.1)

ascending_less : (xs : List Pair) (y : Pair) (ys : List Pair) → IsAscending pair_key (xs ++ y ∷ ys) → IsAscending pair_key (xs ++ ys)
ascending_less [] y ys a = a.1
ascending_less (x ∷ xs) y ys a = (over_less (pair_key x) xs y ys a.0, ascending_less xs y ys a.1)

pub ascending_behind : (xs ys : List Pair) → IsAscending pair_key (xs ++ ys) → IsAscending pair_key ys
ascending_behind [] ys a = a
ascending_behind (x ∷ xs) ys a = ascending_behind xs ys a.1

pub halves : (k : ℕ) (xs : List Pair) → xs ≡ take k xs ++ drop k xs
halves zero xs = refl
halves (suc k) [] = refl
halves (suc k) (x ∷ xs) = ap (λ (l : List Pair). x ∷ l) (halves k xs)

-- ---- the place of the transaction's first pair

take_at : (xs ys : List Pair) (k : ℕ) → length xs ≡ k → take k (xs ++ ys) ≡ xs
take_at xs ys k e = ap (λ (n : ℕ). take n (xs ++ ys)) (sym e) ∙ take_front xs ys

drop_at : (xs ys : List Pair) (k : ℕ) → length xs ≡ k → drop k (xs ++ ys) ≡ ys
drop_at xs ys k e = ap (λ (n : ℕ). drop n (xs ++ ys)) (sym e) ∙ drop_front xs ys

over_from : (k : List ℕ) (xs : List Pair) → AreOver pair_key k xs → AreFrom k xs
over_from k [] o = tt
over_from k (x ∷ xs) o = ((λ e. never_under k (nat_list_cmp_total.trans k (pair_key x) k o.0 e)), over_from k xs o.1)

module _ (t : Txn) (pairs : List Pair) (at : ℕ) where
  pub before_at : IsAt pair_key (key_of t ++ []) pairs at → AreUnder pair_key (key_of t) (take at pairs)
  before_at a = subst (λ l. AreUnder pair_key (key_of t) l) (sym (ap (take at) a.parts ∙ take_at a.before (a.here ∷ a.behind) at a.place)) a.under

  pub from_at : IsAt pair_key (key_of t ++ []) pairs at → AreFrom (key_of t) (drop at pairs)
  from_at a =
      let here : IsUnder (pair_key a.here) (key_of t) → ⊥ = λ e. never_under (key_of t) (subst (λ (k : List ℕ). IsUnder k (key_of t)) a.named e) in
      subst (λ l. AreFrom (key_of t) l) (sym (ap (drop at) a.parts ∙ drop_at a.before (a.here ∷ a.behind) at a.place)) (here, over_from (key_of t) a.behind a.over)

  pub before_gap : IsGap pair_key (key_of t ++ []) pairs at → AreUnder pair_key (key_of t) (take at pairs)
  before_gap a = subst (λ l. AreUnder pair_key (key_of t) l) (sym (ap (take at) a.parts ∙ take_at a.before a.behind at a.place)) a.under

  pub from_gap : IsGap pair_key (key_of t ++ []) pairs at → AreFrom (key_of t) (drop at pairs)
  from_gap a = subst (λ l. AreFrom (key_of t) l) (sym (ap (drop at) a.parts ∙ drop_at a.before a.behind at a.place)) (over_from (key_of t) a.behind a.over)

-- ---- a pair more

module _ (pairs new : List Pair) (at : ℕ) (y : Pair) (a : IsGap pair_key (pair_key y) pairs at) (e : new ≡ insert pairs at y) where
  put : new ≡ a.before ++ y ∷ a.behind
  put = e ∙ insert_parts pairs a.before a.behind at y a.parts a.place

  pub added_ascends : IsAscending pair_key pairs → IsAscending pair_key new
  added_ascends up = subst (λ l. IsAscending pair_key l) (sym put) (ascending_insert pair_key a.before y a.behind (subst (λ l. IsAscending pair_key l) a.parts up) a.under a.over)

  pub added_more : (k : List ℕ) → HasKey k pairs → HasKey k new
  added_more k h =
      let parts : HasKey k (a.before ++ a.behind) = subst (λ l. HasKey k l) a.parts h in
      subst (λ l. HasKey k l) (sym put) (elim (has_parts k a.before a.behind parts) [ inl x ↦ has_left k a.before (y ∷ a.behind) x | inr x ↦ has_right k a.before (y ∷ a.behind) (inr x) ])

  pub added_own : HasKey (pair_key y) new
  added_own = subst (λ l. HasKey (pair_key y) l) (sym put) (has_right (pair_key y) a.before (y ∷ a.behind) (inl refl))

pub found_own : (pairs : List Pair) (at : ℕ) (k : List ℕ) → IsAt pair_key k pairs at → HasKey k pairs
found_own pairs at k a = subst (λ l. HasKey k l) (sym a.parts) (has_right k a.before (a.here ∷ a.behind) (inl a.named))

-- ---- a request

pub index_requested : (old new : List Standing) (pairs more : List Pair) (n : List ℕ) (w : Lock) (g : Grant) → IsFoundByBits w.txn → g ≡ would w (place_in n old)
    → ((m : List ℕ) → place_in m new ≡ with_request n w g (λ k. place_in k old) m)
    → IsAscending pair_key more → ((k : List ℕ) → HasKey k pairs → HasKey k more) → (IsPut g → HasKey (key_of w.txn ++ n) more) → IsIndex old pairs → IsIndex new more
index_requested old new pairs more n w g known grant change up keeps own a = record {
  ascending = up;
  still = λ m. subst IsStill (sym (change m)) (quiet m (same_numbers n m) refl);
  paired = λ m. subst (AtEach (IsPaired m more)) (sym (change m)) (each m (same_numbers n m) refl);
}
  where
    quiet : (m : List ℕ) (b : Bool) → same_numbers n m ≡ b → IsStill (with_request n w g (λ k. place_in k old) m)
    quiet m false e = rw e (a.still m)
    quiet m true e =
        let one : n ≡ m = same_numbers_eq n m e in
        let here : g ≡ would w (place_in m old) = subst (λ (k : List ℕ). g ≡ would w (place_in k old)) one grant in
        rw e (still_requested w (place_in m old) g here (a.still m))

    each : (m : List ℕ) (b : Bool) → same_numbers n m ≡ b → AtEach (IsPaired m more) (with_request n w g (λ k. place_in k old) m)
    each m b e =
        let kept : AtEach (IsPaired m more) (place_in m old) = each_place (IsPaired m pairs) (IsPaired m more) (place_in m old) (λ l h. (h.0, keeps (key_of l.txn ++ m) h.1)) (a.paired m) in
        split b e kept
      where
        split : (b : Bool) → same_numbers n m ≡ b → AtEach (IsPaired m more) (place_in m old) → AtEach (IsPaired m more) (with_request n w g (λ k. place_in k old) m)
        split false e kept = rw e kept
        split true e kept =
            let one : n ≡ m = same_numbers_eq n m e in
            let mine : IsPut g → IsPaired m more w = λ p. (known, subst (λ (k : List ℕ). HasKey (key_of w.txn ++ k) more) one (own p)) in
            rw e (each_requested (IsPaired m more) w (place_in m old) g mine kept)

-- ---- a release

itself : (t : Txn) → same_txn t t ≡ true
itself t = let e = same_numbers_refl t.sites in grind (arith, common_steps, e)

pub txn_eq : (t u : Txn) → same_txn t u ≡ true → t ≡ u
txn_eq t u e =
    let site : t.site ≡ u.site = grind (arith, common_steps, e) in
    let inc : t.inc ≡ u.inc = grind (arith, common_steps, e) in
    let seq : t.seq ≡ u.seq = grind (arith, common_steps, e) in
    let set : same_numbers t.sites u.sites ≡ true = grind (arith, common_steps, e) in
    let sites : t.sites ≡ u.sites = same_numbers_eq t.sites u.sites set in
    λ i. record { site = site i; inc = inc i; seq = seq i; sites = sites i }

txn_is : (t u : Txn) → same_txn t u ≡ false → IsFoundByBits t → IsFoundByBits u → key_of u ≡ key_of t → ⊥
txn_is t u other known_t known_u e =
    let site : t.site ≡ u.site = ap (λ (l : List ℕ). get_or l 0 0) (sym e) in
    let inc : t.inc ≡ u.inc = ap (λ (l : List ℕ). get_or l 1 0) (sym e) in
    let seq : t.seq ≡ u.seq = ap (λ (l : List ℕ). get_or l 2 0) (sym e) in
    let sites : t.sites ≡ u.sites = sym known_t ∙ ap (λ (l : List ℕ). sites_of (get_or l 3 0)) (sym e) ∙ known_u in
    let same : t ≡ u = λ i. record { site = site i; inc = inc i; seq = seq i; sites = sites i } in
    let yes : same_txn t u ≡ true = ap (λ (v : Txn). same_txn t v) (sym same) ∙ itself t in cc

same_key : (a b m n : List ℕ) → length a ≡ length b → a ++ m ≡ b ++ n → a ≡ b
same_key [] [] m n l e = refl
same_key [] (y ∷ b) m n l e = absurd (omega (arith, l))
same_key (x ∷ a) [] m n l e = absurd (omega (arith, l))
same_key (x ∷ a) (y ∷ b) m n l e =
    let head : x ≡ y = ap (λ (l : List ℕ). get_or l 0 0) e in
    let rest : a ≡ b = same_key a b m n (omega (arith, l)) (ap (λ (l : List ℕ). drop 1 l) e) in
    λ i. head i ∷ rest i

pub same_name : (a b m n : List ℕ) → length a ≡ length b → a ++ m ≡ b ++ n → m ≡ n
same_name [] [] m n l e = e
same_name [] (y ∷ b) m n l e = absurd (omega (arith, l))
same_name (x ∷ a) [] m n l e = absurd (omega (arith, l))
same_name (x ∷ a) (y ∷ b) m n l e = same_name a b m n (omega (arith, l)) (ap (λ (l : List ℕ). drop 1 l) e)

-- one pair of the transaction leaves, and the transaction leaves that name
pub index_released : (old new : List Standing) (xs : List Pair) (p : Pair) (ys : List Pair) (t : Txn) → IsFoundByBits t → key_of p.txn ≡ key_of t
    → ((m : List ℕ) → place_in m new ≡ with_release p.name t (λ k. place_in k old) m) → IsIndex old (xs ++ p ∷ ys) → IsIndex new (xs ++ ys)
index_released old new xs p ys t known own change a = record {
  ascending = ascending_less xs p ys a.ascending;
  still = λ m. subst IsStill (sym (change m)) (quiet m (same_numbers p.name m) refl);
  paired = λ m. subst (AtEach (IsPaired m (xs ++ ys))) (sym (change m)) (each m (same_numbers p.name m) refl);
}
  where
    quiet : (m : List ℕ) (b : Bool) → same_numbers p.name m ≡ b → IsStill (with_release p.name t (λ k. place_in k old) m)
    quiet m false e = rw e (a.still m)
    quiet m true e = rw e (still_released t (place_in m old))

    left : (k : List ℕ) → (pair_key p ≡ k → ⊥) → HasKey k (xs ++ p ∷ ys) → HasKey k (xs ++ ys)
    left k other h = elim (has_parts k xs (p ∷ ys) h) [ inl x ↦ has_left k xs ys x | inr x ↦ rest x ]
      where
        rest : HasKey k (p ∷ ys) → HasKey k (xs ++ ys)
        rest (inl e) = absurd (other e)
        rest (inr h) = has_right k xs ys h

    each : (m : List ℕ) (b : Bool) → same_numbers p.name m ≡ b → AtEach (IsPaired m (xs ++ ys)) (with_release p.name t (λ k. place_in k old) m)
    each m false e =
        let other : (l : Lock) → IsPaired m (xs ++ p ∷ ys) l → IsPaired m (xs ++ ys) l =
        λ l h. (h.0, left (key_of l.txn ++ m) (λ q. apart (same_name (key_of p.txn) (key_of l.txn) p.name m refl q)) h.1) in
        rw e (each_place (IsPaired m (xs ++ p ∷ ys)) (IsPaired m (xs ++ ys)) (place_in m old) other (a.paired m))
      where
        apart : p.name ≡ m → ⊥
        apart q = let yes : same_numbers p.name m ≡ true = ap (λ (k : List ℕ). same_numbers p.name k) (sym q) ∙ same_numbers_refl p.name in cc
    each m true e =
        let other : (l : Lock) → IsPaired m (xs ++ p ∷ ys) l → same_txn t l.txn ≡ false → IsPaired m (xs ++ ys) l =
        λ l h f. (h.0, left (key_of l.txn ++ m) (λ q. txn_is t l.txn f known h.0 (sym (same_key (key_of p.txn) (key_of l.txn) p.name m refl q) ∙ own)) h.1) in
        rw e (each_released (IsPaired m (xs ++ p ∷ ys)) (IsPaired m (xs ++ ys)) t (place_in m old) other (a.paired m))

-- a release on one name comes to the same behind a release of all
pub same_released : (t : Txn) (n m : List ℕ) (places : List ℕ → Place) → released t (with_release n t places m) ≡ released t (places m)
same_released t n m places = by (same_numbers n m) refl
  where
    by : (b : Bool) → same_numbers n m ≡ b → released t (with_release n t places m) ≡ released t (places m)
    by true e = rw e (released_twice t (places m))
    by false e = rw e refl

-- where the transaction has no pair a release changes nothing
none_left : (t : Txn) (items : List Standing) (pairs : List Pair) → IsIndex items pairs → ((n : List ℕ) → HasKey (key_of t ++ n) pairs → ⊥) → (n : List ℕ)
    → released t (place_in n items) ≡ place_in n items
none_left t items pairs a none n = released_none t (place_in n items) (each_place (IsPaired n pairs) (λ l. same_txn t l.txn ≡ false) (place_in n items) one (a.paired n)) (a.still n)
  where
    one : (l : Lock) → IsPaired n pairs l → same_txn t l.txn ≡ false
    one l h = by (same_txn t l.txn) refl
      where
        by : (b : Bool) → same_txn t l.txn ≡ b → same_txn t l.txn ≡ false
        by false e = e
        by true e = absurd (none n (subst (λ (u : Txn). HasKey (key_of u ++ n) pairs) (sym (txn_eq t l.txn e)) h.1))

none_parts : (t : Txn) (n : List ℕ) (xs ys : List Pair) → AreUnder pair_key (key_of t) xs → (HasKey (key_of t ++ n) ys → ⊥) → HasKey (key_of t ++ n) (xs ++ ys) → ⊥
none_parts t n xs ys under none h = elim (has_parts (key_of t ++ n) xs ys h) [ inl x ↦ none_before t n xs under x | inr x ↦ none x ]

drop_all : (xs : List Pair) (k : ℕ) → length xs ≤ k → drop k xs ≡ []
drop_all [] zero le = refl
drop_all [] (suc k) le = refl
drop_all (x ∷ xs) zero le = absurd (omega (arith, le))
drop_all (x ∷ xs) (suc k) le = drop_all xs k (omega (arith, le))

-- the pairs end here, or go on with another transaction's
abbrev pub EndsAt : Txn → List Pair → ℕ → Type 0
EndsAt t pairs at = (length pairs ≤ at) ⊎ ((x : Pair) × (at < length pairs) × (x ≡ get_or pairs at x) × (same_numbers (key_of x.txn) (key_of t) ≡ false))

-- none of those from there on is the transaction's
pub none_from : (t : Txn) (pairs : List Pair) (at : ℕ) → IsAscending pair_key pairs → AreFrom (key_of t) (drop at pairs) → EndsAt t pairs at → (n : List ℕ)
    → HasKey (key_of t ++ n) (drop at pairs) → ⊥
none_from t pairs at up from (inl le) n h = subst (λ l. HasKey (key_of t ++ n) l) (drop_all pairs at le) h
none_from t pairs at up from (inr w) n h =
    let x : Pair = w.0 in
    let rest : List Pair = drop (suc at) pairs in
    let parts : drop at pairs ≡ x ∷ rest = drop-cons pairs at x w.1 ∙ ap (λ (y : Pair). y ∷ rest) (sym w.2) in
    let ascending : IsAscending pair_key (x ∷ rest) =
    subst (λ l. IsAscending pair_key l) parts (ascending_behind (take at pairs) (drop at pairs) (subst (λ l. IsAscending pair_key l) (halves at pairs) up)) in
    let not_under : AreFrom (key_of t) (x ∷ rest) = subst (λ l. AreFrom (key_of t) l) parts from in
    last (subst (λ l. HasKey (key_of t ++ n) l) parts h) ascending not_under
  where
    last : HasKey (key_of t ++ n) (w.0 ∷ drop (suc at) pairs) → IsAscending pair_key (w.0 ∷ drop (suc at) pairs) → AreFrom (key_of t) (w.0 ∷ drop (suc at) pairs) → ⊥
    last (inl e) up f = none_at t n w.0 w.3 e
    last (inr h) up f = none_behind t n w.0 (drop (suc at) pairs) w.3 f.0 up.0 h

-- no pair is left where none from the transaction's place on is its own
pub all_released : (t : Txn) (items : List Standing) (pairs : List Pair) (at : ℕ) → IsIndex items pairs → AreUnder pair_key (key_of t) (take at pairs) → AreFrom (key_of t) (drop at pairs)
    → EndsAt t pairs at → (n : List ℕ) → released t (place_in n items) ≡ place_in n items
all_released t items pairs at a under from end n =
    none_left t items pairs a
    (λ m h. none_parts t m (take at pairs) (drop at pairs) under (none_from t pairs at a.ascending from end m) (subst (λ l. HasKey (key_of t ++ m) l) (halves at pairs) h)) n

-- ---- a pair less

pub parts_at : (xs : List Pair) (k : ℕ) (x : Pair) → k < length xs → x ≡ get_or xs k x → xs ≡ take k xs ++ x ∷ drop (suc k) xs
parts_at xs k x lt is = at_place xs k x lt is

pub taken : (xs : List Pair) (k : ℕ) → k ≤ length xs → take k (remove xs k) ≡ take k xs
taken [] zero le = refl
taken [] (suc k) le = absurd (omega (arith, le))
taken (x ∷ xs) zero le = refl
taken (x ∷ xs) (suc k) le = ap (λ (l : List Pair). x ∷ l) (taken xs k (omega (arith, le)))

pub dropped : (k : List ℕ) (xs : List Pair) (n : ℕ) → n < length xs → AreFrom k (drop n xs) → AreFrom k (drop n (remove xs n))
dropped k [] n lt f = absurd (omega (arith, lt))
dropped k (x ∷ xs) zero lt f = f.1
dropped k (x ∷ xs) (suc n) lt f = dropped k xs n (omega (arith, lt)) f

-- what stands at a place is one
pub same_at : (xs : List Pair) (k : ℕ) (x y : Pair) → k < length xs → x ≡ get_or xs k x → y ≡ get_or xs k y → x ≡ y
same_at [] k x y lt a b = absurd (omega (arith, lt))
same_at (z ∷ xs) zero x y lt a b = a ∙ sym b
same_at (z ∷ xs) (suc k) x y lt a b = same_at xs k x y (omega (arith, lt)) a b
