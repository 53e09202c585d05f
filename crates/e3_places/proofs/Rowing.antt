-- What a read of a name answers by the table of a log, behind more records.
use Rattle.std.specs.Prelude.{◌≡◌, ◌||◌, ◌++◌, ◌∷◌, [], if◌then◌else◌, cond, ℕ, Bool, true, false, not, List, filter, map, fold}
use Rattle.std.specs.Ordering.{nat_cmp, match_ordering, is_eq}
use Rattle.std.specs.Cmp.Lexicographic.{slice_cmp}
use Rattle.std.proofs.Common.{refl, ap, sym, subst, ◌∙◌, Ordering, Less, Equal, Greater}
use Rattle.std.proofs.lemmas.List.{append-nil}
use Rattle.std.proofs.lemmas.List.Concat.{flat_map-append}
use Rattle.std.proofs.lemmas.List.Elements.{filter-append}
use Rattle.std.proofs.lemmas.List.Sums.{fold-append}
use Rattle.e3_types.specs.declared.records.Record.{Record}
use Rattle.e3_types.specs.declared.records.Record.TheVariants as log
use Rattle.e3_types.specs.declared.transactions.Answer.{Answer}
use Rattle.e3_types.specs.declared.transactions.Answer.TheVariants.{Value}
use Rattle.e3_types.specs.declared.transactions.Dir.TheVariants.{Abort, Commit}
use Rattle.e3_types.specs.declared.transactions.NumOp.{NumOp}
use Rattle.e3_types.specs.declared.transactions.Op.{Op}
use Rattle.e3_types.specs.declared.transactions.Op.TheVariants.{Read, Write}
use Rattle.e3_types.specs.declared.transactions.Row.{Row}
use Rattle.e3_types.specs.declared.transactions.Txn.{Txn}
use Rattle.e3_types.specs.Same.{same_numbers, same_txn}
use Rattle.e3_types.proofs.SameSites.{same_numbers_eq}
use Rattle.e3_world.specs.declared.lives.Asked.{Asked}
use Rattle.e3_world.specs.Elections.{is_decision}
use Rattle.e3_world.specs.Logs.{is_undecided, voted_ops, ops_of_vote, set_row, install_op, table_by, table_of, row_value}
use Rattle.e3_world.proofs.Turns.{true_not_false}
use Rattle.e3_readings.proofs.Equal.{same_txn_refl, same_txn_eq}
use Rattle.e3_places.specs.Standing.{is_on, voted, cast_in, cast_of, is_open, votes_of, decided_in, with_cast, written, row_with, row_of, follow}
use Rattle.e3_places.proofs.Alike.{ties}
use Rattle.e3_places.proofs.Arriving.{undecided_is}
use Rattle.e3_places.proofs.Voting.{both_true}

-- a row that is set has its value, and each other row its own
row_set : (n : List ℕ) (new : Row) (rows : List Row) → row_value n (set_row new rows) ≡ cond (same_numbers n new.name) (Value new.val) (row_value n rows)
row_set n new [] = refl
row_set n new (row ∷ rows) = go (slice_cmp nat_cmp new.name row.name) refl (row_set n new rows)
  where
    behind : (b c : Bool) → same_numbers n new.name ≡ b → same_numbers n row.name ≡ c → same_numbers new.name row.name ≡ false →
        cond c (Value row.val) (cond b (Value new.val) (row_value n rows)) ≡ cond b (Value new.val) (cond c (Value row.val) (row_value n rows))
    behind true true e f apart =
        absurd (true_not_false (sym (subst (λ (z : List ℕ). same_numbers z row.name ≡ true) (same_numbers_eq n new.name e) f) ∙ apart))
    behind true false e f apart = refl
    behind false c e f apart = refl

    one : (b : Bool) → same_numbers n new.name ≡ b → new.name ≡ row.name → cond b (Value new.val) (row_value n rows) ≡ cond b (Value new.val) (cond (same_numbers n row.name) (Value row.val) (row_value n rows))
    one true e q = refl
    one false e q = subst (λ (z : Bool). row_value n rows ≡ cond z (Value row.val) (row_value n rows)) (sym (ap (same_numbers n) (sym q) ∙ e)) refl

    go : (c : Ordering) → slice_cmp nat_cmp new.name row.name ≡ c → row_value n (set_row new rows) ≡ cond (same_numbers n new.name) (Value new.val) (row_value n rows) →
        row_value n (match_ordering c (new ∷ row ∷ rows) (new ∷ rows) (row ∷ set_row new rows))
        ≡ cond (same_numbers n new.name) (Value new.val) (cond (same_numbers n row.name) (Value row.val) (row_value n rows))
    go Less e ih = refl
    go Equal e ih = one (same_numbers n new.name) refl (same_numbers_eq new.name row.name (sym (ties new.name row.name) ∙ ap is_eq e))
    go Greater e ih =
        ap (λ (z : Answer). cond (same_numbers n row.name) (Value row.val) z) ih
        ∙ behind (same_numbers n new.name) (same_numbers n row.name) refl refl (sym (ties new.name row.name) ∙ ap is_eq e)

-- the writes of operations on a name
installed_on : (n : List ℕ) (t : Txn) (ops : List NumOp) (rows : List Row)
    → row_value n (fold install_op rows ops) ≡ fold written (row_value n rows) (filter (is_on n) (map (voted t) ops))
installed_on n t [] rows = refl
installed_on n t (o ∷ ops) rows =
    installed_on n t ops (install_op rows o) ∙ ap (λ (v : Answer). fold written v (filter (is_on n) (map (voted t) ops))) (go o.op)
    ∙ pick (is_on n (voted t o)) refl
  where
    same_row : (b : Bool) (v : Answer) → v ≡ cond b v v
    same_row true v = refl
    same_row false v = refl

    go : (op : Op) → row_value n (install_op rows (record o { op = op })) ≡ cond (is_on n (voted t (record o { op = op }))) (written (row_value n rows) (voted t (record o { op = op }))) (row_value n rows)
    go (Read key) = same_row (same_numbers n key.name) (row_value n rows)
    go (Write key val) = row_set n (record { name = key.name; val = val }) rows

    pick : (b : Bool) → is_on n (voted t o) ≡ b
        → fold written (cond (is_on n (voted t o)) (written (row_value n rows) (voted t o)) (row_value n rows)) (filter (is_on n) (map (voted t) ops))
        ≡ fold written (row_value n rows) (filter (is_on n) (map (voted t) (o ∷ ops)))
    pick true e = rw e refl
    pick false e = rw e refl

-- the operation is the transaction's
abbrev mine : Txn → Asked → Bool
mine t a = same_txn t a.txn

-- the operations of one vote, all the transaction's or none
all_mine : (t : Txn) (test : Asked → Bool) (ops : List NumOp) → filter (mine t) (filter test (map (voted t) ops)) ≡ filter test (map (voted t) ops)
all_mine t test [] = refl
all_mine t test (o ∷ ops) = by (all_mine t test ops) (test (voted t o)) refl
  where
    by : filter (mine t) (filter test (map (voted t) ops)) ≡ filter test (map (voted t) ops) → (b : Bool) → test (voted t o) ≡ b
        → filter (mine t) (filter test (map (voted t) (o ∷ ops))) ≡ filter test (map (voted t) (o ∷ ops))
    by ih true e = rw (e, same_txn_refl t) (ap (λ (l : List Asked). voted t o ∷ l) ih)
    by ih false e = rw e ih

none_mine : (t u : Txn) (test : Asked → Bool) → same_txn t u ≡ false → (ops : List NumOp) → filter (mine t) (filter test (map (voted u) ops)) ≡ []
none_mine t u test other [] = refl
none_mine t u test other (o ∷ ops) = by (none_mine t u test other ops) (test (voted u o)) refl
  where
    by : filter (mine t) (filter test (map (voted u) ops)) ≡ [] → (b : Bool) → test (voted u o) ≡ b → filter (mine t) (filter test (map (voted u) (o ∷ ops))) ≡ []
    by ih true e = rw (e, other) ih
    by ih false e = rw e ih

map_append : (t : Txn) (xs ys : List NumOp) → map (voted t) (xs ++ ys) ≡ map (voted t) xs ++ map (voted t) ys
map_append t [] ys = refl
map_append t (x ∷ xs) ys = ap (λ (l : List Asked). voted t x ∷ l) (map_append t xs ys)

-- the transaction's among the operations of votes
own_cast : (t : Txn) (test : Asked → Bool) (xs : List Record) → filter (mine t) (filter test (cast_of xs)) ≡ filter test (map (voted t) (voted_ops t xs))
own_cast t test [] = refl
own_cast t test (x ∷ xs) =
    ap (filter (mine t)) (filter-append test (cast_in x) (cast_of xs)) ∙ filter-append (mine t) (filter test (cast_in x)) (filter test (cast_of xs))
    ∙ ap (λ (l : List Asked). l ++ filter (mine t) (filter test (cast_of xs))) (one x)
    ∙ ap (λ (l : List Asked). filter test (map (voted t) (ops_of_vote t x)) ++ l) (own_cast t test xs)
    ∙ sym (ap (filter test) (map_append t (ops_of_vote t x) (voted_ops t xs)) ∙ filter-append test (map (voted t) (ops_of_vote t x)) (map (voted t) (voted_ops t xs)))
  where
    vote : (u : Txn) (ops : List NumOp) (b : Bool) → same_txn t u ≡ b → filter (mine t) (filter test (map (voted u) ops)) ≡ filter test (map (voted t) (if b then ops else []))
    vote u ops true e = subst (λ (v : Txn). filter (mine t) (filter test (map (voted v) ops)) ≡ filter test (map (voted t) ops)) (same_txn_eq t u e) (all_mine t test ops)
    vote u ops false e = none_mine t u test e ops

    one : (x : Record) → filter (mine t) (filter test (cast_in x)) ≡ filter test (map (voted t) (ops_of_vote t x))
    one (log.Vote u ops) = vote u ops (same_txn t u) refl
    one (log.Birth format site weights rows) = refl
    one (log.Inc inc) = refl
    one (log.Join u n) = refl
    one (log.Attempt u n dir) = refl
    one (log.Decision u dir) = refl

-- of an undecided transaction none is left out
own_open : (t : Txn) (test : Asked → Bool) (records : List Record) → is_undecided t records ≡ true → (xs : List Asked)
    → filter (mine t) (filter (is_open test records) xs) ≡ filter (mine t) (filter test xs)
own_open t test records u [] = refl
own_open t test records u (a ∷ xs) = by (own_open t test records u xs) (test a) (mine t a) (is_undecided a.txn records) refl refl refl
  where
    by : filter (mine t) (filter (is_open test records) xs) ≡ filter (mine t) (filter test xs) → (b c d : Bool) → test a ≡ b → mine t a ≡ c → is_undecided a.txn records ≡ d
        → filter (mine t) (filter (is_open test records) (a ∷ xs)) ≡ filter (mine t) (filter test (a ∷ xs))
    by ih false c d e f g = rw e ih
    by ih true true true e f g = rw (e, g, f) (ap (λ (l : List Asked). a ∷ l) ih)
    by ih true false true e f g = rw (e, g, f) ih
    by ih true true false e f g = absurd (true_not_false (sym (subst (λ (v : Txn). is_undecided v records ≡ true) (same_txn_eq t a.txn f) u) ∙ g))
    by ih true false false e f g = rw (e, g) (rw f ih)

-- a commit installs the transaction's among the operations of votes
own_all : (t : Txn) (n : List ℕ) (records rs : List Record) → is_undecided t records ≡ true
    → filter (mine t) (with_cast (is_on n) (votes_of (is_on n) records) rs) ≡ filter (is_on n) (map (voted t) (voted_ops t (records ++ rs)))
own_all t n records rs u =
    filter-append (mine t) (votes_of (is_on n) records) (filter (is_on n) (cast_of rs))
    ∙ ap (λ (l : List Asked). l ++ filter (mine t) (filter (is_on n) (cast_of rs))) (own_open t (is_on n) records u (cast_of records))
    ∙ sym (filter-append (mine t) (filter (is_on n) (cast_of records)) (filter (is_on n) (cast_of rs)))
    ∙ ap (filter (mine t)) (sym (ap (filter (is_on n)) (flat_map-append cast_in records rs) ∙ filter-append (is_on n) (cast_of records) (cast_of rs)))
    ∙ own_cast t (is_on n) (records ++ rs)

rows_step : (n : List ℕ) (records rs xs : List Record) (rows : List Row) → follow records xs ≡ true
    → row_value n (fold (table_by (records ++ rs)) rows xs) ≡ fold (row_with (with_cast (is_on n) (votes_of (is_on n) records) rs)) (row_value n rows) xs
rows_step n records rs [] rows h = refl
rows_step n records rs (log.Decision t Commit ∷ xs) rows h =
    let both = both_true (is_undecided t records) (follow records xs) h in
    rows_step n records rs xs (fold install_op rows (voted_ops t (records ++ rs))) both.1
    ∙ ap (λ (v : Answer). fold (row_with (with_cast (is_on n) (votes_of (is_on n) records) rs)) v xs)
    (installed_on n t (voted_ops t (records ++ rs)) rows ∙ ap (fold written (row_value n rows)) (sym (own_all t n records rs both.0)))
rows_step n records rs (log.Decision t Abort ∷ xs) rows h = rows_step n records rs xs rows (both_true (is_undecided t records) (follow records xs) h).1
rows_step n records rs (log.Vote t ops ∷ xs) rows h = rows_step n records rs xs rows (both_true (is_undecided t records) (follow records xs) h).1
rows_step n records rs (log.Birth format site weights born ∷ xs) rows h = absurd (true_not_false (sym h))
rows_step n records rs (log.Inc inc ∷ xs) rows h = rows_step n records rs xs rows h
rows_step n records rs (log.Join t m ∷ xs) rows h = rows_step n records rs xs rows h
rows_step n records rs (log.Attempt t m dir ∷ xs) rows h = rows_step n records rs xs rows h

-- a decided transaction has no vote among records that follow
no_late : (t : Txn) (records : List Record) → is_undecided t records ≡ false → (rs : List Record) → follow records rs ≡ true → voted_ops t rs ≡ []
no_late t records d [] h = refl
no_late t records d (log.Vote u ops ∷ rs) h = by (no_late t records d rs both.1) (same_txn t u) refl
  where
    both : (is_undecided u records ≡ true) × (follow records rs ≡ true)
    both = both_true (is_undecided u records) (follow records rs) h

    by : voted_ops t rs ≡ [] → (b : Bool) → same_txn t u ≡ b → (if b then ops else []) ++ voted_ops t rs ≡ []
    by ih true e = absurd (true_not_false (sym (subst (λ (v : Txn). is_undecided v records ≡ true) (sym (same_txn_eq t u e)) both.0) ∙ d))
    by ih false e = ih
no_late t records d (log.Decision u dir ∷ rs) h = no_late t records d rs (both_true (is_undecided u records) (follow records rs) h).1
no_late t records d (log.Birth format site weights born ∷ rs) h = absurd (true_not_false (sym h))
no_late t records d (log.Inc inc ∷ rs) h = no_late t records d rs h
no_late t records d (log.Join u m ∷ rs) h = no_late t records d rs h
no_late t records d (log.Attempt u m dir ∷ rs) h = no_late t records d rs h

-- so the table of the log is as it was
abbrev Within : List Record → List Record → Type 0
Within xs records = (t : Txn) → decided_in xs t ≡ true → decided_in records t ≡ true

or_left : (b c : Bool) → b ≡ true → (b || c) ≡ true
or_left true c e = refl
or_left false c e = absurd (true_not_false (sym e))

or_right : (b c : Bool) → c ≡ true → (b || c) ≡ true
or_right true c e = refl
or_right false c e = e

votes_same : (t : Txn) (records rs : List Record) → voted_ops t rs ≡ [] → voted_ops t (records ++ rs) ≡ voted_ops t records
votes_same t records rs e =
    flat_map-append (ops_of_vote t) records rs ∙ ap (λ (x : List NumOp). voted_ops t records ++ x) e ∙ append-nil (voted_ops t records)

rows_same : (records rs : List Record) → follow records rs ≡ true → (xs : List Record) (rows : List Row) → Within xs records
    → fold (table_by (records ++ rs)) rows xs ≡ fold (table_by records) rows xs
rows_same records rs h [] rows w = refl
rows_same records rs h (x ∷ xs) rows w =
    ap (λ (r : List Row). fold (table_by (records ++ rs)) r xs) (one x w)
    ∙ rows_same records rs h xs (table_by records rows x) (λ t e. w t (or_right (is_decision t x) (decided_in xs t) e))
  where
    one : (x : Record) → Within (x ∷ xs) records → table_by (records ++ rs) rows x ≡ table_by records rows x
    one (log.Decision t Commit) w =
        let ended : decided_in records t ≡ true = w t (or_left (same_txn t t) (decided_in xs t) (same_txn_refl t)) in
        ap (fold install_op rows) (votes_same t records rs (no_late t records (undecided_is t records ∙ ap (λ (b : Bool). not b) ended) rs h))
    one (log.Decision t Abort) w = refl
    one (log.Birth format site weights born) w = refl
    one (log.Inc inc) w = refl
    one (log.Vote u ops) w = refl
    one (log.Join u n) w = refl
    one (log.Attempt u n dir) w = refl

-- The law of rows: what a read of the name answers behind more records.
pub row_more : (n : List ℕ) (records rs : List Record) → follow records rs ≡ true
    → row_of n (records ++ rs) ≡ fold (row_with (with_cast (is_on n) (votes_of (is_on n) records) rs)) (row_of n records) rs
row_more n records rs h =
    ap (row_value n) (fold-append (table_by (records ++ rs)) [] records rs
    ∙ ap (λ (rows : List Row). fold (table_by (records ++ rs)) rows rs) (rows_same records rs h records [] (λ t e. e)))
    ∙ rows_step n records rs rs (table_of records) h
