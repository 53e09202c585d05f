-- One more record of a log, where what it touches is changed in its place.
use Rattle.std.specs.Prelude.{◌≡◌, ◌<◌, ◌+◌, ◌||◌, ◌++◌, ◌∷◌, [], if◌then◌else◌, not, ℕ, Bool, true, false, List, filter, map, fold, take, length, None}
use Rattle.std.specs.List.{list_any, flat_map}
use Rattle.std.proofs.Common.{refl, ap, sym, ◌∙◌, get_or}
use Rattle.std.proofs.lemmas.List.{append-nil}
use Rattle.std.proofs.lemmas.List.Sums.{fold-append}
use Rattle.e3_types.specs.declared.records.Record.{Record}
use Rattle.e3_types.specs.declared.records.Record.TheVariants as log
use Rattle.e3_types.specs.declared.transactions.Dir.{Dir}
use Rattle.e3_types.specs.declared.transactions.Dir.TheVariants.{Abort, Commit}
use Rattle.e3_types.specs.declared.transactions.NumOp.{NumOp}
use Rattle.e3_types.specs.declared.transactions.Txn.{Txn}
use Rattle.e3_types.specs.Same.{same_numbers, same_txn}
use Rattle.e3_types.proofs.SameSites.{same_numbers_eq}
use Rattle.e3_world.specs.declared.lives.Asked.{Asked}
use Rattle.e3_world.specs.declared.lives.Life.{Life}
use Rattle.e3_readings.proofs.Equal.{same_txn_eq}
use Rattle.e3_readings.proofs.Tests.{none_left, none_right}
use Rattle.e3_places.specs.declared.keys.TxnId.{TxnId}
use Rattle.e3_places.specs.declared.places.Claims.{Claims}
use Rattle.e3_places.specs.declared.places.Place.{Place}
use Rattle.e3_places.specs.declared.places.Places.{Places}
use Rattle.e3_places.specs.Keeping.{PlacesStand, at_key, at_name, bare, claims_at, is_key, no_claims, place_at, txn_id}
use Rattle.e3_places.specs.Noting.{cast_more, ended, left_by, with_vote}
use Rattle.e3_places.specs.Rising.{risen}
use Rattle.e3_places.specs.Standing.{cast_in, cast_of, claims_by, claims_of, decided_in, follow, has_key, is_left, is_of, is_on, place_by, place_of, row_with, voted, votes_by, written}
use Rattle.e3_places.specs.Touching.{decided_txns, keys_touched, moved_names, name_of, names_touched}
use Rattle.e3_places.proofs.Putting.{keys_eq, keys_turned}
use Rattle.e3_places.proofs.Reaching.{key_quiet, name_quiet}
use Rattle.e3_places.proofs.Rowing.{row_more}
use Rattle.e3_places.proofs.Turning.{any_next, take_next, turned_at, turned_by}
use Rattle.e3_places.proofs.Voting.{votes_more}

key_eq : (k l : TxnId) → is_key k l ≡ true → k ≡ l
key_eq k l e = sym (keys_eq l k (keys_turned l k ∙ e))

assoc : (xs ys zs : List Asked) → (xs ++ ys) ++ zs ≡ xs ++ (ys ++ zs)
assoc [] ys zs = refl
assoc (x ∷ xs) ys zs = ap (λ (l : List Asked). x ∷ l) (assoc xs ys zs)

any_map : {X Y : Type 0} (p : Y → Bool) (f : X → Y) (xs : List X) → list_any p (map f xs) ≡ list_any (λ x. p (f x)) xs
any_map p f [] = refl
any_map p f (x ∷ xs) = ap (λ (b : Bool). p (f x) || b) (any_map p f xs)

-- what stands behind more records, by the definitions
claims_more : (test : Asked → Bool) (site inc : ℕ) (records rs : List Record) → follow records rs ≡ true
    → claims_of test site (risen inc (records ++ rs)) ≡ claims_by test (claims_of test site (risen inc records)) None rs [] []
claims_more test site inc records rs h = let votes = votes_more test records rs h in λ i. record { standing = []; votes = votes i }

place_more : (name : List ℕ) (site inc : ℕ) (records rs : List Record) → follow records rs ≡ true
    → place_of name site (risen inc (records ++ rs)) ≡ place_by name (place_of name site (risen inc records)) None rs [] []
place_more name site inc records rs h =
    let claims = claims_more (is_on name) site inc records rs h in
    let row = row_more name records rs h in
    λ i. record { claims = claims i; row = row i }

-- all operations of a vote
votes_fold : (name : List ℕ) (was : Place) (asked : List Asked)
    → fold (with_vote name) was asked ≡ record was { claims = record was.claims { votes = was.claims.votes ++ filter (is_on name) asked } }
votes_fold name was [] = ap (λ (l : List Asked). record was { claims = record was.claims { votes = l } }) (sym (append-nil was.claims.votes))
votes_fold name was (a ∷ asked) = by (is_on name a) refl (votes_fold name (record was { claims = cast_more was.claims a }) asked) (votes_fold name was asked)
  where
    rest : List Asked
    rest = filter (is_on name) asked

    more : Place
    more = record was { claims = cast_more was.claims a }

    with_votes : List Asked → Place
    with_votes l = record was { claims = record was.claims { votes = l } }

    by : (b : Bool) → is_on name a ≡ b → fold (with_vote name) more asked ≡ with_votes ((was.claims.votes ++ a ∷ []) ++ rest) → fold (with_vote name) was asked ≡ with_votes (was.claims.votes ++ rest)
        → fold (with_vote name) (with_vote name was a) asked ≡ with_votes (was.claims.votes ++ filter (is_on name) (a ∷ asked))
    by true e first second =
        ap (λ (b : Bool). fold (with_vote name) (if b then more else was) asked) e ∙ first
        ∙ ap with_votes (assoc was.claims.votes (a ∷ []) rest ∙ ap (λ (b : Bool). was.claims.votes ++ (if b then a ∷ rest else rest)) (sym e))
    by false e first second =
        ap (λ (b : Bool). fold (with_vote name) (if b then more else was) asked) e ∙ second
        ∙ ap with_votes (ap (λ (b : Bool). was.claims.votes ++ (if b then a ∷ rest else rest)) (sym e))

-- one more of them
pub votes_next : (name : List ℕ) (old cur now : Place) (t : Txn) (ops : List NumOp) (i : ℕ) (o : NumOp) (a : Asked) → i < length ops → o ≡ get_or ops i o → a ≡ voted t o
    → cur ≡ fold (with_vote name) old (map (voted t) (take i ops)) → now ≡ with_vote name cur a → now ≡ fold (with_vote name) old (map (voted t) (take (i + 1) ops))
votes_next name old cur now t ops i o a lt is made inv done =
    done ∙ ap (with_vote name cur) made ∙ ap (λ (p : Place). with_vote name p (voted t o)) inv
    ∙ sym (fold-append (with_vote name) old (map (voted t) (take i ops)) (voted t o ∷ []))
    ∙ ap (fold (with_vote name) old) (sym (map_append (take i ops) (o ∷ [])) ∙ ap (map (voted t)) (sym (take_next ops i o lt is)))
  where
    map_append : (xs ys : List NumOp) → map (voted t) (xs ++ ys) ≡ map (voted t) xs ++ map (voted t) ys
    map_append [] ys = refl
    map_append (x ∷ xs) ys = ap (λ (l : List Asked). voted t x ∷ l) (map_append xs ys)

-- a vote decides nothing
left_all : (t : Txn) (ops : List NumOp) (xs : List Asked) → filter (is_left (log.Vote t ops ∷ [])) xs ≡ xs
left_all t ops [] = refl
left_all t ops (x ∷ xs) = ap (λ (l : List Asked). x ∷ l) (left_all t ops xs)

-- so the votes that pass a test have those more that pass it
votes_cast : (test : Asked → Bool) (votes more : List Asked) (t : Txn) (ops : List NumOp) → more ≡ filter test (map (voted t) ops)
    → votes ++ more ≡ votes_by test votes (log.Vote t ops ∷ [])
votes_cast test votes more t ops are =
    ap (λ (l : List Asked). votes ++ l) are ∙ ap (λ (l : List Asked). votes ++ filter test l) (sym (append-nil (map (voted t) ops)))
    ∙ sym (left_all t ops (votes ++ filter test (cast_of (log.Vote t ops ∷ []))))

of_votes : (k : TxnId) (t : Txn) (ops : List NumOp) → (if has_key k t then map (voted t) ops else []) ≡ filter (is_of k) (map (voted t) ops)
of_votes k t [] = by (has_key k t)
  where
    by : (b : Bool) → (if b then map (voted t) [] else []) ≡ []
    by true = refl
    by false = refl
of_votes k t (o ∷ ops) = by (has_key k t) refl (of_votes k t ops)
  where
    rest : List Asked
    rest = filter (is_of k) (map (voted t) ops)

    by : (b : Bool) → has_key k t ≡ b → (if has_key k t then map (voted t) ops else []) ≡ rest → (if b then map (voted t) (o ∷ ops) else []) ≡ filter (is_of k) (map (voted t) (o ∷ ops))
    by true e ih = ap (λ (l : List Asked). voted t o ∷ l) (ap (λ (b : Bool). if b then map (voted t) ops else []) (sym e) ∙ ih) ∙ ap (λ (b : Bool). if b then voted t o ∷ rest else rest) (sym e)
    by false e ih = ap (λ (b : Bool). if b then map (voted t) ops else []) (sym e) ∙ ih ∙ ap (λ (b : Bool). if b then voted t o ∷ rest else rest) (sym e)

place_cast : (name : List ℕ) (site inc : ℕ) (before : List Record) (t : Txn) (ops : List NumOp) → (was : Place) → was ≡ place_of name site (risen inc before)
    → fold (with_vote name) was (map (voted t) ops) ≡ place_by name (place_of name site (risen inc before)) None (log.Vote t ops ∷ []) [] []
place_cast name site inc before t ops was is =
    let there : Place = place_of name site (risen inc before) in
    let votes = votes_cast (is_on name) there.claims.votes (filter (is_on name) (map (voted t) ops)) t ops refl in
    ap (λ (p : Place). fold (with_vote name) p (map (voted t) ops)) is ∙ votes_fold name there (map (voted t) ops)
    ∙ (λ i. record { claims = record { standing = []; votes = votes i }; row = there.row })

claims_cast : (k : TxnId) (site inc : ℕ) (before : List Record) (t : Txn) (ops : List NumOp) → (was : Claims) → was ≡ claims_of (is_of k) site (risen inc before)
    → (if has_key k t then record was { votes = was.votes ++ map (voted t) ops } else was) ≡ claims_by (is_of k) (claims_of (is_of k) site (risen inc before)) None (log.Vote t ops ∷ []) [] []
claims_cast k site inc before t ops was is =
    let there : Claims = claims_of (is_of k) site (risen inc before) in
    let votes = votes_cast (is_of k) there.votes (if has_key k t then map (voted t) ops else []) t ops (of_votes k t ops) in
    ap (λ (c : Claims). if has_key k t then record c { votes = c.votes ++ map (voted t) ops } else c) is ∙ by there (has_key k t)
    ∙ (λ i. record { standing = []; votes = votes i })
  where
    by : (c : Claims) (b : Bool) → (if b then record c { votes = c.votes ++ map (voted t) ops } else c) ≡ record c { votes = c.votes ++ (if b then map (voted t) ops else []) }
    by c true = refl
    by c false = ap (λ (l : List Asked). record c { votes = l }) (sym (append-nil c.votes))

-- the tables of a log with a vote
pub cast_stands : (old now : Places) (t : Txn) (ops : List NumOp) → ((name : List ℕ) → place_at now.names.entries name ≡ fold (with_vote name) (place_at old.names.entries name) (map (voted t) ops))
    → ((k : TxnId) → claims_at now.txns.entries k
    ≡ (if has_key k t then record (claims_at old.txns.entries k) { votes = (claims_at old.txns.entries k).votes ++ map (voted t) ops } else claims_at old.txns.entries k))
    → (site inc : ℕ) (before : List Record) → PlacesStand site old (risen inc before) → follow before (log.Vote t ops ∷ []) ≡ true
    → PlacesStand site now (risen inc (before ++ log.Vote t ops ∷ []))
cast_stands old now t ops names txns site inc before stands h = record {
  names_stand = λ name.
      names name ∙ place_cast name site inc before t ops (place_at old.names.entries name) (stands.names_stand name) ∙ sym (place_more name site inc before (log.Vote t ops ∷ []) h);
  txns_stand = λ k.
      txns k ∙ claims_cast k site inc before t ops (claims_at old.txns.entries k) (stands.txns_stand k) ∙ sym (claims_more (is_of k) site inc before (log.Vote t ops ∷ []) h);
}

-- the operation is one of a transaction that is not decided
pub left_is : (b : Bool) → not b ≡ not (b || false)
left_is true = refl
left_is false = refl

filter_twice : (p : Asked → Bool) (xs : List Asked) → filter p (filter p xs) ≡ filter p xs
filter_twice p [] = refl
filter_twice p (x ∷ xs) = by (p x) refl (filter_twice p xs)
  where
    by : (b : Bool) → p x ≡ b → filter p (filter p xs) ≡ filter p xs → filter p (if b then x ∷ filter p xs else filter p xs) ≡ (if b then x ∷ filter p xs else filter p xs)
    by true e ih = ap (λ (b : Bool). if b then x ∷ filter p (filter p xs) else filter p (filter p xs)) e ∙ ap (λ (l : List Asked). x ∷ l) ih
    by false e ih = ih

txn_turned : (t u : Txn) → same_txn t u ≡ same_txn u t
txn_turned t u = by (same_txn t u) (same_txn u t) refl refl
  where
    by : (b c : Bool) → same_txn t u ≡ b → same_txn u t ≡ c → same_txn t u ≡ same_txn u t
    by true c e f = ap (λ (v : Txn). same_txn v u) (same_txn_eq t u e) ∙ ap (λ (v : Txn). same_txn u v) (sym (same_txn_eq t u e))
    by false true e f = ap (λ (v : Txn). same_txn v u) (sym (same_txn_eq u t f)) ∙ ap (λ (v : Txn). same_txn u v) (same_txn_eq u t f)
    by false false e f = e ∙ sym f

-- what is left of a decided transaction
none_of : (t : Txn) (dir : Dir) (xs : List Asked) → filter (λ a. same_txn t a.txn) (filter (is_left (log.Decision t dir ∷ [])) xs) ≡ []
none_of t dir [] = refl
none_of t dir (x ∷ xs) = by (same_txn x.txn t) refl (none_of t dir xs)
  where
    mine : Asked → Bool
    mine a = same_txn t a.txn

    rest : List Asked
    rest = filter (is_left (log.Decision t dir ∷ [])) xs

    by : (b : Bool) → same_txn x.txn t ≡ b → filter mine rest ≡ [] → filter mine (if not (same_txn x.txn t || false) then x ∷ rest else rest) ≡ []
    by true e ih = ap (λ (b : Bool). filter mine (if not (b || false) then x ∷ rest else rest)) e ∙ ih
    by false e ih =
        ap (λ (b : Bool). filter mine (if not (b || false) then x ∷ rest else rest)) e
        ∙ ap (λ (b : Bool). if b then x ∷ filter mine rest else filter mine rest) (txn_turned t x.txn ∙ e) ∙ ih

-- what has ended ends no further
ended_twice : (r : Record) (was : Place) → ended r (ended r was) ≡ ended r was
ended_twice r was =
    let votes = filter_twice (is_left (r ∷ [])) was.claims.votes in
    let row = by r in
    λ i. record { claims = record { standing = was.claims.standing; votes = votes i }; row = row i }
  where
    by : (r : Record) → row_with (filter (is_left (r ∷ [])) was.claims.votes) (row_with was.claims.votes was.row r) r ≡ row_with was.claims.votes was.row r
    by (log.Decision t Commit) = ap (fold written (row_with was.claims.votes was.row (log.Decision t Commit))) (none_of t Commit was.claims.votes)
    by (log.Decision t Abort) = refl
    by (log.Birth format site weights rows) = refl
    by (log.Inc inc) = refl
    by (log.Vote t ops) = refl
    by (log.Join t n) = refl
    by (log.Attempt t n dir) = refl

pub ends_on : (r : Record) (old cur now : List (List ℕ × Place)) (xs : List Asked) (i : ℕ) (a : Asked) → i < length xs → a ≡ get_or xs i a
    → ((name : List ℕ) → place_at cur name ≡ (if list_any (is_on name) (take i xs) then ended r (place_at old name) else place_at old name))
    → ((name : List ℕ) → place_at now name ≡ (if is_on name a then ended r (place_at cur name) else place_at cur name))
    → (name : List ℕ) → place_at now name ≡ (if list_any (is_on name) (take (i + 1) xs) then ended r (place_at old name) else place_at old name)
ends_on r old cur now xs i a lt is inv done name =
    let was : Place = place_at old name in
    done name ∙ ap (λ (p : Place). if is_on name a then ended r p else p) (inv name) ∙ by was (list_any (is_on name) (take i xs)) (is_on name a)
    ∙ ap (λ (b : Bool). if b then ended r was else was) (sym (any_next (is_on name) xs i a lt is))
  where
    by : (p : Place) (b c : Bool) → (if c then ended r (if b then ended r p else p) else (if b then ended r p else p)) ≡ (if b || c then ended r p else p)
    by p true true = ended_twice r p
    by p true false = refl
    by p false true = refl
    by p false false = refl

-- claims and places behind a decision, by the definitions
left_claims : (k : TxnId) (site inc : ℕ) (before : List Record) (t : Txn) (dir : Dir)
    → left_by (log.Decision t dir) (claims_of (is_of k) site (risen inc before)) ≡ claims_by (is_of k) (claims_of (is_of k) site (risen inc before)) None (log.Decision t dir ∷ []) [] []
left_claims k site inc before t dir =
    let nil = sym (append-nil (claims_of (is_of k) site (risen inc before)).votes) in λ i. record { standing = []; votes = filter (is_left (log.Decision t dir ∷ [])) (nil i) }

ended_place : (name : List ℕ) (site inc : ℕ) (before : List Record) (t : Txn) (dir : Dir)
    → ended (log.Decision t dir) (place_of name site (risen inc before)) ≡ place_by name (place_of name site (risen inc before)) None (log.Decision t dir ∷ []) [] []
ended_place name site inc before t dir =
    let there : Place = place_of name site (risen inc before) in
    let nil = sym (append-nil there.claims.votes) in
    λ i. record { claims = record { standing = []; votes = filter (is_left (log.Decision t dir ∷ [])) (nil i) }; row = row_with (nil i) there.row (log.Decision t dir) }

any_less : {X : Type 0} (p q : X → Bool) (xs : List X) → list_any p xs ≡ false → list_any p (filter q xs) ≡ false
any_less p q [] e = refl
any_less p q (x ∷ xs) e = by (q x) (any_less p q xs (none_right (p x) (list_any p xs) e))
  where
    by : (b : Bool) → list_any p (filter q xs) ≡ false → list_any p (if b then x ∷ filter q xs else filter q xs) ≡ false
    by true ih = ap (λ (b : Bool). b || list_any p (filter q xs)) (none_left (p x) (list_any p xs) e) ∙ ih
    by false ih = ih

-- a decision touches the names of the transaction's votes
untouched : (name : List ℕ) (site inc : ℕ) (before : List Record) (txns : List (TxnId × Claims)) (t : Txn) (dir : Dir)
    → ((k : TxnId) → claims_at txns k ≡ claims_of (is_of k) site (risen inc before)) → list_any (is_on name) (claims_of (is_of (txn_id t)) site (risen inc before)).votes ≡ false
    → list_any (same_numbers name) (names_touched txns None (log.Decision t dir ∷ []) [] []) ≡ false
untouched name site inc before txns t dir stand e =
    let there : Claims = claims_of (is_of (txn_id t)) site (risen inc before) in
    let gone : List Asked = filter (λ a. decided_in (log.Decision t dir ∷ []) a.txn) there.votes in
    ap (λ (c : Claims). list_any (same_numbers name) (moved_names (log.Decision t dir ∷ []) [] [] c ++ [])) (stand (txn_id t))
    ∙ ap (list_any (same_numbers name)) (append-nil (map name_of gone)) ∙ any_map (same_numbers name) name_of gone
    ∙ any_less (is_on name) (λ a. decided_in (log.Decision t dir ∷ []) a.txn) there.votes e

-- the tables of a log with a decision
pub end_stands : (old now : Places) (t : Txn) (dir : Dir)
    → ((name : List ℕ) → place_at now.names.entries name
    ≡ (if list_any (is_on name) (claims_at old.txns.entries (txn_id t)).votes then ended (log.Decision t dir) (place_at old.names.entries name) else place_at old.names.entries name))
    → ((k : TxnId) → claims_at now.txns.entries k ≡ (if is_key k (txn_id t) then left_by (log.Decision t dir) (claims_at old.txns.entries k) else claims_at old.txns.entries k))
    → (site inc : ℕ) (before : List Record) → PlacesStand site old (risen inc before) → follow before (log.Decision t dir ∷ []) ≡ true
    → PlacesStand site now (risen inc (before ++ log.Decision t dir ∷ []))
end_stands old now t dir names txns site inc before stands h = record {
  names_stand = λ name.
      names name
      ∙ ap (λ (c : Claims). if list_any (is_on name) c.votes then ended r (place_at old.names.entries name) else place_at old.names.entries name) (stands.txns_stand (txn_id t))
      ∙ ap (λ (p : Place). if list_any (is_on name) (its (txn_id t)).votes then ended r p else p) (stands.names_stand name)
      ∙ on name (list_any (is_on name) (its (txn_id t)).votes) refl ∙ sym (place_more name site inc before (r ∷ []) h);
  txns_stand = λ k.
      txns k ∙ ap (λ (c : Claims). if is_key k (txn_id t) then left_by r c else c) (stands.txns_stand k) ∙ of k (is_key k (txn_id t)) refl
      ∙ sym (claims_more (is_of k) site inc before (r ∷ []) h);
}
  where
    r : Record
    r = log.Decision t dir

    life : Life
    life = risen inc before

    its : TxnId → Claims
    its k = claims_of (is_of k) site life

    on : (name : List ℕ) (b : Bool) → list_any (is_on name) (its (txn_id t)).votes ≡ b
        → (if b then ended r (place_of name site life) else place_of name site life) ≡ place_by name (place_of name site life) None (r ∷ []) [] []
    on name true e = ended_place name site inc before t dir
    on name false e = sym (name_quiet name site life old.txns.entries None (r ∷ []) [] [] stands.txns_stand (untouched name site inc before old.txns.entries t dir stands.txns_stand e))

    of : (k : TxnId) (b : Bool) → is_key k (txn_id t) ≡ b → (if b then left_by r (its k) else its k) ≡ claims_by (is_of k) (its k) None (r ∷ []) [] []
    of k true e = left_claims k site inc before t dir
    of k false e = sym (key_quiet k site life None (r ∷ []) [] [] (ap (λ (b : Bool). b || false) e))

-- and with a record that neither votes nor decides
pub other_stands : (old : Places) (r : Record) → cast_in r ≡ [] → decided_txns r ≡ [] → (site inc : ℕ) (before : List Record) → PlacesStand site old (risen inc before)
    → follow before (r ∷ []) ≡ true → PlacesStand site old (risen inc (before ++ r ∷ []))
other_stands old r none undecided site inc before stands h = record {
  names_stand = λ name.
      stands.names_stand name ∙ sym (name_quiet name site (risen inc before) old.txns.entries None (r ∷ []) [] [] stands.txns_stand (names name)) ∙ sym (place_more name site inc before (r ∷ []) h);
  txns_stand = λ k. stands.txns_stand k ∙ sym (key_quiet k site (risen inc before) None (r ∷ []) [] [] (keys k)) ∙ sym (claims_more (is_of k) site inc before (r ∷ []) h);
}
  where
    moves : Txn → List (List ℕ)
    moves t = moved_names (r ∷ []) [] [] (claims_at old.txns.entries (txn_id t))

    names : (name : List ℕ) → list_any (same_numbers name) (names_touched old.txns.entries None (r ∷ []) [] []) ≡ false
    names name =
        ap (λ (l : List Asked). list_any (same_numbers name) (map name_of (l ++ []) ++ flat_map moves ((decided_txns r ++ []) ++ []))) none
        ∙ ap (λ (l : List Txn). list_any (same_numbers name) (flat_map moves ((l ++ []) ++ []))) undecided

    keys : (k : TxnId) → list_any (is_key k) (keys_touched None (r ∷ []) [] []) ≡ false
    keys k =
        ap (λ (l : List Asked). list_any (is_key k) (map (λ a. txn_id a.txn) (l ++ []) ++ map txn_id ((decided_txns r ++ []) ++ []))) none
        ∙ ap (λ (l : List Txn). list_any (is_key k) (map txn_id ((l ++ []) ++ []))) undecided

-- a vote is put to what stands on its name
pub vote_put : (ms mid ns : List (List ℕ × Place)) (name : List ℕ) (a : Asked) (place : Place) → name ≡ name_of a → place ≡ record (place_at ms name) { claims = cast_more (place_at ms name).claims a }
    → ((n : List ℕ) → same_numbers n name ≡ false → place_at mid n ≡ place_at ms n) → ((n : List ℕ) → place_at ns n ≡ (if same_numbers n name then place else place_at mid n))
    → (n : List ℕ) → place_at ns n ≡ with_vote n (place_at ms n) a
vote_put ms mid ns name a place is made rest done n =
    turned_by same_numbers (place_at ms) (place_at ns) (λ p. record p { claims = cast_more p.claims a }) name place same_numbers_eq made
    (turned_at at_name same_numbers bare ms mid ns name place rest done) n
    ∙ ap (λ (m : List ℕ). if same_numbers n m then record (place_at ms n) { claims = cast_more (place_at ms n).claims a } else place_at ms n) is

-- what stands on the name of a vote ends
pub end_put : (r : Record) (ms mid ns : List (List ℕ × Place)) (name : List ℕ) (a : Asked) (place : Place) → name ≡ name_of a → place ≡ ended r (place_at ms name)
    → ((n : List ℕ) → same_numbers n name ≡ false → place_at mid n ≡ place_at ms n) → ((n : List ℕ) → place_at ns n ≡ (if same_numbers n name then place else place_at mid n))
    → (n : List ℕ) → place_at ns n ≡ (if is_on n a then ended r (place_at ms n) else place_at ms n)
end_put r ms mid ns name a place is made rest done n =
    turned_by same_numbers (place_at ms) (place_at ns) (ended r) name place same_numbers_eq made (turned_at at_name same_numbers bare ms mid ns name place rest done) n
    ∙ ap (λ (m : List ℕ). if same_numbers n m then ended r (place_at ms n) else place_at ms n) is

-- the claims of a transaction are others from now on
pub claims_put : (turn : Claims → Claims) (ms mid ns : List (TxnId × Claims)) (t : Txn) (key : TxnId) (claims : Claims) → key ≡ txn_id t → claims ≡ turn (claims_at ms key)
    → ((k : TxnId) → is_key k key ≡ false → claims_at mid k ≡ claims_at ms k) → ((k : TxnId) → claims_at ns k ≡ (if is_key k key then claims else claims_at mid k))
    → (k : TxnId) → claims_at ns k ≡ (if is_key k (txn_id t) then turn (claims_at ms k) else claims_at ms k)
claims_put turn ms mid ns t key claims is made rest done k =
    turned_by is_key (claims_at ms) (claims_at ns) turn key claims key_eq made (turned_at at_key is_key no_claims ms mid ns key claims rest done) k
    ∙ ap (λ (l : TxnId). if is_key k l then turn (claims_at ms k) else claims_at ms k) is
