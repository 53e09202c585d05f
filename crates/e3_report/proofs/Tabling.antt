-- A map's rows are the table's.
use Rattle.std.specs.Prelude.{◌≡◌, ◌++◌, ◌∷◌, [], ◌+◌, ◌<◌, if◌then◌else◌, cond, ℕ, Bool, true, false, List, Some, length, fold, take, slice_index_or, unwrap_or}
use Rattle.std.specs.BTreeMap.{is_at, insert_entry}
use Rattle.std.specs.Cmp.Lexicographic.{slice_cmp}
use Rattle.std.specs.Ordering.{nat_cmp}
use Rattle.std.proofs.Common.{Ordering, Less, Equal, Greater, refl, ap, sym, ◌∙◌, add-one, append-nil, append_assoc}
use Rattle.std.proofs.Math.Path.{fun_ext}
use Rattle.std.proofs.Math.Seq.{take-suc}
use Rattle.std.proofs.lemmas.Map.Lookups.{exact_bytes}
use Rattle.e3_types.specs.declared.records.Record.{Record}
use Rattle.e3_types.specs.declared.records.Record.TheVariants as log
use Rattle.e3_types.specs.declared.transactions.Dir.TheVariants.{Abort, Commit}
use Rattle.e3_types.specs.declared.transactions.NumOp.{NumOp}
use Rattle.e3_types.specs.declared.transactions.Row.{Row}
use Rattle.e3_types.specs.declared.transactions.Txn.{Txn}
use Rattle.e3_types.specs.Same.{same_numbers, same_txn}
use Rattle.e3_types.proofs.SameSites.{same_numbers_eq}
use Rattle.e3_world.specs.Logs.{set_row, table_by, table_of, ops_of_vote, voted_ops}
use Rattle.e3_order.specs.Keys.{numbers_of, at_key}
use Rattle.e3_report.specs.Tables.{rows_of, ops_at, ops_in, ops_by, entered}
use Rattle.e3_order.proofs.Maps.{equal_at, key_turned, txn_same}

row_inserted_at : (k v : List ℕ) (e : List ℕ × List ℕ) (es : List (List ℕ × List ℕ)) (o : Ordering) → slice_cmp nat_cmp k e.0 ≡ o →
    rows_of (insert_entry (slice_cmp nat_cmp) es k v) ≡ set_row (record { name = k; val = v }) (rows_of es) →
    rows_of (insert_entry (slice_cmp nat_cmp) (e ∷ es) k v) ≡ set_row (record { name = k; val = v }) (rows_of (e ∷ es))
row_inserted_at k v e es Less is ih = rw is refl
row_inserted_at k v e es Equal is ih =
    rw is (ap (λ n. let r : Row = record { name = n; val = v } in r ∷ rows_of es) (sym (exact_bytes k e.0 is)))
row_inserted_at k v e es Greater is ih = rw is (ap (λ l. let r : Row = record { name = e.0; val = e.1 } in r ∷ l) ih)

-- one more row
pub row_inserted : (k v : List ℕ) (es : List (List ℕ × List ℕ)) →
    rows_of (insert_entry (slice_cmp nat_cmp) es k v) ≡ set_row (record { name = k; val = v }) (rows_of es)
row_inserted k v [] = refl
row_inserted k v (e ∷ es) = row_inserted_at k v e es (slice_cmp nat_cmp k e.0) refl (row_inserted k v es)

-- rows of equal parts are one
row_same : (r q : Row) → same_numbers r.name q.name ≡ true → same_numbers r.val q.val ≡ true → r ≡ q
row_same r q n v =
    ap (λ x. let row : Row = record { name = x; val = r.val } in row) (same_numbers_eq r.name q.name n)
    ∙ ap (λ x. let row : Row = record { name = q.name; val = x } in row) (same_numbers_eq r.val q.val v)

-- one more row that is the same
pub same_rows_one : (rs qs : List Row) (i : ℕ) (r q : Row) → i < length rs → i < length qs → r ≡ slice_index_or rs i r → q ≡ slice_index_or qs i q →
    same_numbers r.name q.name ≡ true → same_numbers r.val q.val ≡ true → take i rs ≡ take i qs → take (i + 1) rs ≡ take (i + 1) qs
same_rows_one rs qs i r q lt more is also n v e =
    rw add-one (take-suc rs i r lt ∙ ap (λ x. take i rs ++ x ∷ []) (sym is) ∙ ap (λ l. l ++ r ∷ []) e ∙ ap (λ x. take i qs ++ x ∷ []) (row_same r q n v)
    ∙ ap (λ x. take i qs ++ x ∷ []) also ∙ sym (take-suc qs i q more))

voted_at : (k key : List ℕ) (ops all taken : List NumOp) (old mid new : List (List ℕ × List NumOp)) (b : Bool) →
    is_at (slice_cmp nat_cmp k) key ≡ b → taken ≡ ops_at old k → all ≡ taken ++ ops →
    ((q : List ℕ) → is_at (slice_cmp nat_cmp k) q ≡ false → ops_at mid q ≡ ops_at old q) →
    at_key key new ≡ cond b (Some all) (at_key key mid) →
    ops_at new key ≡ (if b then ops_at old key ++ ops else ops_at old key)
voted_at k key ops all taken old mid new true is had joins others e =
    ap (λ o. unwrap_or o []) e ∙ joins
    ∙ ap (λ l. l ++ ops) (had ∙ ap (ops_at old) (exact_bytes k key (equal_at (slice_cmp nat_cmp k key) is)))
voted_at k key ops all taken old mid new false is had joins others e = ap (λ o. unwrap_or o []) e ∙ others key is

-- one more vote of the transaction at k, whose operations were taken out
pub voted : (k key : List ℕ) (ops all taken : List NumOp) (old mid new : List (List ℕ × List NumOp)) → taken ≡ ops_at old k → all ≡ taken ++ ops →
    ((q : List ℕ) → is_at (slice_cmp nat_cmp k) q ≡ false → ops_at mid q ≡ ops_at old q) →
    at_key key new ≡ cond (is_at (slice_cmp nat_cmp k) key) (Some all) (at_key key mid) →
    ops_at new key ≡ (if is_at (slice_cmp nat_cmp k) key then ops_at old key ++ ops else ops_at old key)
voted k key ops all taken old mid new had joins others e =
    voted_at k key ops all taken old mid new (is_at (slice_cmp nat_cmp k) key) refl had joins others e

joined_if : (b : Bool) (was ops : List NumOp) → (if b then was ++ ops else was) ≡ was ++ (if b then ops else [])
joined_if true was ops = refl
joined_if false was ops = sym (append-nil was)

-- the operations at the key of a transaction
ops_of_one : (t : Txn) (was : List NumOp) (r : Record) → ops_by (numbers_of t) was r ≡ was ++ ops_of_vote t r
ops_of_one t was (log.Birth format site weights rows) = sym (append-nil was)
ops_of_one t was (log.Inc inc) = sym (append-nil was)
ops_of_one t was (log.Vote u ops) =
    ap (λ b. if b then was ++ ops else was) (key_turned (numbers_of t) (numbers_of u) ∙ txn_same t u) ∙ joined_if (same_txn t u) was ops
ops_of_one t was (log.Join u n) = sym (append-nil was)
ops_of_one t was (log.Attempt u n dir) = sym (append-nil was)
ops_of_one t was (log.Decision u dir) = sym (append-nil was)

ops_of_all : (t : Txn) (was : List NumOp) (records : List Record) → fold (ops_by (numbers_of t)) was records ≡ was ++ voted_ops t records
ops_of_all t was [] = sym (append-nil was)
ops_of_all t was (r ∷ rs) =
    ops_of_all t (ops_by (numbers_of t) was r) rs
    ∙ ap (λ l. l ++ voted_ops t rs) (ops_of_one t was r)
    ∙ append_assoc was (ops_of_vote t r) (voted_ops t rs)

-- one more record
entered_is : (all : List Record) (rows : List Row) (r : Record) → entered (λ t. voted_ops t all) rows r ≡ table_by all rows r
entered_is all rows (log.Birth format site weights born) = refl
entered_is all rows (log.Inc inc) = refl
entered_is all rows (log.Vote u ops) = refl
entered_is all rows (log.Join u n) = refl
entered_is all rows (log.Attempt u n dir) = refl
entered_is all rows (log.Decision u Abort) = refl
entered_is all rows (log.Decision u Commit) = refl

entered_all : (all : List Record) (rows : List Row) (records : List Record) →
    fold (entered (λ t. voted_ops t all)) rows records ≡ fold (table_by all) rows records
entered_all all rows [] = refl
entered_all all rows (r ∷ rs) = entered_all all (entered (λ t. voted_ops t all) rows r) rs ∙ ap (λ w. fold (table_by all) w rs) (entered_is all rows r)

-- the table behind all records, with the votes of all of them
pub table_is : (votes : List (List ℕ × List NumOp)) (records : List Record) → ((key : List ℕ) → ops_at votes key ≡ fold (ops_by key) [] records) →
    fold (entered (ops_in votes)) [] records ≡ table_of records
table_is votes records h =
    let same : ops_in votes ≡ (λ t. voted_ops t records) = fun_ext (λ t. h (numbers_of t) ∙ ops_of_all t [] records) in
    ap (λ v. fold (entered v) [] records) same ∙ entered_all records [] records
