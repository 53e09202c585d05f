-- Rows in byte order of their names, and what operations make of them.
use Rattle.std.specs.Prelude.{◌≡◌, ◌+◌, ◌-◌, ◌≤◌, ◌<◌, ◌++◌, ◌∷◌, [], ◌&&◌, if◌then◌else◌, cond, Bool, true, false, nat_lt, ℕ, zero, suc, List, length, take, drop, fold, slice_set, ◌||◌}
use Rattle.std.specs.List.{insert, remove, list_any, list_all}
use Rattle.std.specs.Ordering.{nat_cmp, match_ordering, is_eq}
use Rattle.std.specs.declared.cmp.Ordering.{Ordering}
use Rattle.std.specs.declared.cmp.Ordering.TheVariants.{Less, Equal, Greater}
use Rattle.std.specs.Cmp.Lexicographic.{slice_cmp, nat_list_cmp_total, texts_ties}
use Rattle.std.proofs.Common.{refl, ap, sym, subst, ◌∙◌, get_or, arith, append_assoc}
use Rattle.std.proofs.lemmas.Grind.{common_steps}
use Rattle.std.proofs.lemmas.Cmp.{tied_itself}
use Rattle.std.proofs.lemmas.Map.Lookups.{exact_bytes}
use Rattle.std.proofs.lemmas.List.{append-nil, take-append-drop, take_more}
use Rattle.std.proofs.lemmas.List.Sums.{fold-append}
use Rattle.std.proofs.lemmas.List.Folds.{list_all-append}
use Rattle.e3_types.specs.declared.transactions.Answer.{Answer}
use Rattle.e3_types.specs.declared.transactions.Answer.TheVariants.{Absent, Value}
use Rattle.e3_types.specs.declared.transactions.NumOp.{NumOp}
use Rattle.e3_types.specs.declared.transactions.Op.{Op}
use Rattle.e3_types.specs.declared.transactions.Op.TheVariants.{Read, Write}
use Rattle.e3_types.specs.declared.transactions.Row.{Row}
use Rattle.e3_types.specs.Same.{same_numbers}
use Rattle.e3_types.proofs.Orders.{pointwise_same}
use Rattle.e3_types.proofs.SameSites.{same_numbers_refl, same_numbers_eq}
use Rattle.e3_world.specs.Logs.{set_row, install_op, row_value}
use Rattle.e3_types.specs.Sorted.{IsUnder, AreUnder, AreOver, IsAscending, IsAt, IsGap}
use Rattle.e3_types.proofs.Ascending.{turned, turned_back, never_under, over_more}
use Rattle.e3_types.proofs.Edits.{take_front, drop_front, insert_parts, set_parts}
use Rattle.e3_tables.specs.Work.{names_differ, in_order, ascend, read_by, read_behind, installed}

abbrev pub row_name : Row → List ℕ
row_name row = row.name

-- a row in place of the one of its name
set_found : (before behind : List Row) (here row : Row) → AreUnder row_name row.name before → here.name ≡ row.name
    → set_row row (before ++ here ∷ behind) ≡ before ++ row ∷ behind
set_found [] behind here row u e =
    let same : slice_cmp nat_cmp row.name here.name ≡ Equal = ap (λ (m : List ℕ). slice_cmp nat_cmp row.name m) e ∙ tied_itself nat_list_cmp_total row.name in
    rw same refl
set_found (s ∷ before) behind here row u e =
    rw (turned_back row.name s.name u.0) (ap (λ (l : List Row). s ∷ l) (set_found before behind here row u.1 e))

-- a row of a new name in its place
set_gap : (before behind : List Row) (row : Row) → AreUnder row_name row.name before → AreOver row_name row.name behind
    → set_row row (before ++ behind) ≡ before ++ row ∷ behind
set_gap [] [] row u o = refl
set_gap [] (s ∷ behind) row u o = rw o.0 refl
set_gap (s ∷ before) behind row u o =
    rw (turned_back row.name s.name u.0) (ap (λ (l : List Row). s ∷ l) (set_gap before behind row u.1 o))

-- a row that is put among the first so many
pub put_found : (items new : List Row) (count at : ℕ) (row : Row) → IsAt row_name row.name (take count items) at → new ≡ slice_set items at row
    → new ≡ set_row row (take count items) ++ drop count items
put_found items new count at row a e =
    let rest : List Row = drop count items in
    let parts : items ≡ a.before ++ a.here ∷ (a.behind ++ rest) =
    sym (take-append-drop count items) ∙ ap (λ (l : List Row). l ++ rest) a.parts ∙ append_assoc a.before (a.here ∷ a.behind) rest in
    let set : set_row row (take count items) ≡ a.before ++ row ∷ a.behind =
    ap (set_row row) a.parts ∙ set_found a.before a.behind a.here row a.under a.named in
    e ∙ set_parts items a.before (a.behind ++ rest) at a.here row parts a.place
    ∙ sym (append_assoc a.before (row ∷ a.behind) rest) ∙ ap (λ (l : List Row). l ++ rest) (sym set)

pub put_gap : (items new : List Row) (count at : ℕ) (row : Row) → IsGap row_name row.name (take count items) at → new ≡ insert items at row
    → new ≡ set_row row (take count items) ++ drop count items
put_gap items new count at row a e =
    let rest : List Row = drop count items in
    let parts : items ≡ a.before ++ (a.behind ++ rest) =
    sym (take-append-drop count items) ∙ ap (λ (l : List Row). l ++ rest) a.parts ∙ append_assoc a.before a.behind rest in
    let set : set_row row (take count items) ≡ a.before ++ row ∷ a.behind = ap (set_row row) a.parts ∙ set_gap a.before a.behind row a.under a.over in
    e ∙ insert_parts items a.before (a.behind ++ rest) at row parts a.place
    ∙ sym (append_assoc a.before (row ∷ a.behind) rest) ∙ ap (λ (l : List Row). l ++ rest) (sym set)

-- a row of a new name makes one more
pub gap_length : (items : List Row) (at : ℕ) (row : Row) → IsGap row_name row.name items at → length (set_row row items) ≡ length items + 1
gap_length items at row a =
    let set : set_row row items ≡ a.before ++ row ∷ a.behind = ap (set_row row) a.parts ∙ set_gap a.before a.behind row a.under a.over in
    let l : length items ≡ length (a.before ++ a.behind) = ap (λ (l : List Row). length l) a.parts in
    let m : length (set_row row items) ≡ length (a.before ++ row ∷ a.behind) = ap (λ (l : List Row). length l) set in
    grind (arith, common_steps, l, m)

over_set : (n : List ℕ) (row : Row) (rows : List Row) → IsUnder n row.name → AreOver row_name n rows → AreOver row_name n (set_row row rows)
over_set n row [] u o = (u, tt)
over_set n row (s ∷ rows) u o = by (slice_cmp nat_cmp row.name s.name) (over_set n row rows u o.1)
  where
    by : (c : Ordering) → AreOver row_name n (set_row row rows) → AreOver row_name n (match_ordering c (row ∷ s ∷ rows) (row ∷ rows) (s ∷ set_row row rows))
    by Less ih = (u, o)
    by Equal ih = (u, o.1)
    by Greater ih = (o.0, ih)

-- rows stay in byte order
pub set_ascending : (row : Row) (rows : List Row) → IsAscending row_name rows → IsAscending row_name (set_row row rows)
set_ascending row [] a = (tt, tt)
set_ascending row (s ∷ rows) a = by (slice_cmp nat_cmp row.name s.name) refl (set_ascending row rows a.1)
  where
    by : (c : Ordering) → slice_cmp nat_cmp row.name s.name ≡ c → IsAscending row_name (set_row row rows)
        → IsAscending row_name (match_ordering c (row ∷ s ∷ rows) (row ∷ rows) (s ∷ set_row row rows))
    by Less e ih = ((e, over_more row_name s.name row.name rows e a.0), a)
    by Equal e ih = (subst (λ n. AreOver row_name n rows) (sym (exact_bytes row.name s.name e)) a.0, a.1)
    by Greater e ih = (over_set s.name row rows (turned row.name s.name e) a.0, ih)

pub order_from : (acc rows : List Row) → IsAscending row_name acc → IsAscending row_name (fold (λ ordered row. set_row row ordered) acc rows)
order_from acc [] a = a
order_from acc (row ∷ rows) a = order_from (set_row row acc) rows (set_ascending row acc a)

pub install_ascending : (o : NumOp) (rows : List Row) → IsAscending row_name rows → IsAscending row_name (install_op rows o)
install_ascending o rows a = by o.op
  where
    by : (op : Op) → IsAscending row_name (install_op rows (record { n = o.n; op = op }))
    by (Write key val) = set_ascending (record { name = key.name; val = val }) rows a
    by (Read key) = a

pub installed_ascending : (ops : List NumOp) (rows : List Row) → IsAscending row_name rows → IsAscending row_name (installed ops rows)
installed_ascending [] rows a = a
installed_ascending (o ∷ ops) rows a = installed_ascending ops (install_op rows o) (install_ascending o rows a)

-- a row that is set makes one more at most
set_few : (row : Row) (rows : List Row) → length (set_row row rows) ≤ length rows + 1
set_few row [] = omega arith
set_few row (s ∷ rows) = by (slice_cmp nat_cmp row.name s.name) (set_few row rows)
  where
    by : (c : Ordering) → length (set_row row rows) ≤ length rows + 1
        → length (match_ordering c (row ∷ s ∷ rows) (row ∷ rows) (s ∷ set_row row rows)) ≤ length (s ∷ rows) + 1
    by Less ih = omega arith
    by Equal ih = omega arith
    by Greater ih = omega (arith, ih)

set_more : (row : Row) (rows : List Row) → length rows ≤ length (set_row row rows)
set_more row [] = omega arith
set_more row (s ∷ rows) = by (slice_cmp nat_cmp row.name s.name) (set_more row rows)
  where
    by : (c : Ordering) → length rows ≤ length (set_row row rows)
        → length (s ∷ rows) ≤ length (match_ordering c (row ∷ s ∷ rows) (row ∷ rows) (s ∷ set_row row rows))
    by Less ih = omega arith
    by Equal ih = omega arith
    by Greater ih = omega (arith, ih)

install_few : (o : NumOp) (rows : List Row) → length (install_op rows o) ≤ length rows + 1
install_few o rows = by o.op
  where
    by : (op : Op) → length (install_op rows (record { n = o.n; op = op })) ≤ length rows + 1
    by (Write key val) = set_few (record { name = key.name; val = val }) rows
    by (Read key) = omega arith

install_more : (o : NumOp) (rows : List Row) → length rows ≤ length (install_op rows o)
install_more o rows = by o.op
  where
    by : (op : Op) → length rows ≤ length (install_op rows (record { n = o.n; op = op }))
    by (Write key val) = set_more (record { name = key.name; val = val }) rows
    by (Read key) = omega arith

-- so many operations make so many more at most
pub installed_few : (ops : List NumOp) (rows : List Row) → length (installed ops rows) ≤ length rows + length ops
installed_few [] rows = omega arith
installed_few (o ∷ ops) rows = let ih = installed_few ops (install_op rows o) in let one = install_few o rows in omega (arith, ih, one)

installed_more : (ops : List NumOp) (rows : List Row) → length rows ≤ length (installed ops rows)
installed_more [] rows = omega arith
installed_more (o ∷ ops) rows = let ih = installed_more ops (install_op rows o) in let one = install_more o rows in omega (arith, ih, one)

-- one operation of many, and its room
pub next_op : (ops : List NumOp) (k : ℕ) (o : NumOp) (rows : List Row) → k < length ops → o ≡ get_or ops k o
    → installed (take (k + 1) ops) rows ≡ install_op (installed (take k ops) rows) o
next_op ops k o rows lt is =
    ap (λ (l : List NumOp). installed l rows) (take_more ops k o lt ∙ ap (λ (p : NumOp). take k ops ++ p ∷ []) (sym is)) ∙ fold-append install_op rows (take k ops) (o ∷ [])

pub next_room : (ops : List NumOp) (k : ℕ) (o : NumOp) (rows : List Row) → k < length ops → o ≡ get_or ops k o
    → length (install_op (installed (take k ops) rows) o) ≤ length (installed ops rows)
next_room ops k o rows lt is =
    let whole : installed ops rows ≡ installed (drop (k + 1) ops) (installed (take (k + 1) ops) rows) =
    ap (λ (l : List NumOp). installed l rows) (sym (take-append-drop (k + 1) ops)) ∙ fold-append install_op rows (take (k + 1) ops) (drop (k + 1) ops) in
    let one = next_op ops k o rows lt is in
    let more = installed_more (drop (k + 1) ops) (installed (take (k + 1) ops) rows) in
    let w : length (installed ops rows) ≡ length (installed (drop (k + 1) ops) (installed (take (k + 1) ops) rows)) = ap (λ (l : List Row). length l) whole in
    let n : length (installed (take (k + 1) ops) rows) ≡ length (install_op (installed (take k ops) rows) o) = ap (λ (l : List Row). length l) one in
    omega (arith, more, w, n)

-- two names of which one comes before the other are not one
apart : (n m : List ℕ) → IsUnder n m → same_numbers n m ≡ false
apart n m u = by (same_numbers n m) refl
  where
    by : (b : Bool) → same_numbers n m ≡ b → same_numbers n m ≡ false
    by false e = e
    by true e = let P : List ℕ → Type 0 = λ x. IsUnder n x in absurd (never_under n (subst P (sym (same_numbers_eq n m e)) u))

apart_back : (n m : List ℕ) → IsUnder m n → same_numbers n m ≡ false
apart_back n m u = by (same_numbers n m) refl
  where
    by : (b : Bool) → same_numbers n m ≡ b → same_numbers n m ≡ false
    by false e = e
    by true e = let P : List ℕ → Type 0 = λ x. IsUnder m x in absurd (never_under m (subst P (same_numbers_eq n m e) u))

-- the value of a name that has its row, and of one that has none
pub value_found : (n : List ℕ) (before behind : List Row) (here : Row) → AreUnder row_name n before → here.name ≡ n → row_value n (before ++ here ∷ behind) ≡ Value here.val
value_found n [] behind here u e =
    let same : same_numbers n here.name ≡ true = ap (λ (m : List ℕ). same_numbers n m) e ∙ same_numbers_refl n in rw same refl
value_found n (s ∷ before) behind here u e = rw (apart_back n s.name u.0) (value_found n before behind here u.1 e)

pub value_gap : (n : List ℕ) (before behind : List Row) → AreUnder row_name n before → AreOver row_name n behind → row_value n (before ++ behind) ≡ Absent
value_gap n [] [] u o = refl
value_gap n [] (s ∷ behind) u o = rw (apart n s.name o.0) (value_gap n [] behind tt o.1)
value_gap n (s ∷ before) behind u o = rw (apart_back n s.name u.0) (value_gap n before behind u.1 o)

-- names that compare equal are one, and no others
names_tie : (a b : List ℕ) → is_eq (slice_cmp nat_cmp a b) ≡ same_numbers a b
names_tie a b = sym (texts_ties a b) ∙ pointwise_same a b

-- a row that is set has its value, and each other row its own
pub row_set : (n : List ℕ) (new : Row) (rows : List Row) → row_value n (set_row new rows) ≡ cond (same_numbers n new.name) (Value new.val) (row_value n rows)
row_set n new [] = refl
row_set n new (row ∷ rows) = go (slice_cmp nat_cmp new.name row.name) refl (row_set n new rows)
  where
    behind : (b c : Bool) → same_numbers n new.name ≡ b → same_numbers n row.name ≡ c → same_numbers new.name row.name ≡ false →
        cond c (Value row.val) (cond b (Value new.val) (row_value n rows)) ≡ cond b (Value new.val) (cond c (Value row.val) (row_value n rows))
    behind true true e f apart =
        let P : List ℕ → Type 0 = λ z. same_numbers z row.name ≡ true in
        let g : same_numbers new.name row.name ≡ true = subst P (same_numbers_eq n new.name e) f in cc
    behind true false e f apart = refl
    behind false c e f apart = refl

    one : (b : Bool) → same_numbers n new.name ≡ b → new.name ≡ row.name → cond b (Value new.val) (row_value n rows) ≡ cond b (Value new.val) (cond (same_numbers n row.name) (Value row.val) (row_value n rows))
    one true e q = refl
    one false e q = subst (λ z. row_value n rows ≡ cond z (Value row.val) (row_value n rows)) (sym (ap (same_numbers n) (sym q) ∙ e)) refl

    go : (c : Ordering) → slice_cmp nat_cmp new.name row.name ≡ c → row_value n (set_row new rows) ≡ cond (same_numbers n new.name) (Value new.val) (row_value n rows) →
        row_value n (match_ordering c (new ∷ row ∷ rows) (new ∷ rows) (row ∷ set_row new rows))
        ≡ cond (same_numbers n new.name) (Value new.val) (cond (same_numbers n row.name) (Value row.val) (row_value n rows))
    go Less e ih = refl
    go Equal e ih = one (same_numbers n new.name) refl (exact_bytes new.name row.name e)
    go Greater e ih =
        ap (λ z. cond (same_numbers n row.name) (Value row.val) z) ih
        ∙ behind (same_numbers n new.name) (same_numbers n row.name) refl refl (sym (names_tie new.name row.name) ∙ ap is_eq e)

-- what a name reads in a workspace is its value once that is installed
pub reads_installed : (n : List ℕ) (ops : List NumOp) (rows : List Row) → row_value n (installed ops rows) ≡ read_behind n ops rows
reads_installed n [] rows = refl
reads_installed n (o ∷ ops) rows = reads_installed n ops (install_op rows o) ∙ ap (λ (v : Answer). fold (read_by n) v ops) (one o.op)
  where
    one : (op : Op) → row_value n (install_op rows (record { n = o.n; op = op })) ≡ read_by n (row_value n rows) (record { n = o.n; op = op })
    one (Write key val) = row_set n (record { name = key.name; val = val }) rows
    one (Read key) = refl

-- rows whose names differ have the same values in byte order
values_from : (n : List ℕ) (acc rows : List Row) → names_differ rows ≡ true
    → row_value n (fold (λ ordered row. set_row row ordered) acc rows) ≡ cond (list_any (λ r. same_numbers n r.name) rows) (row_value n rows) (row_value n acc)
values_from n acc [] d = refl
values_from n acc (row ∷ rows) d = by (list_any (λ r. same_numbers row.name r.name) rows) refl d (λ q. values_from n (set_row row acc) rows q)
  where
    apart : list_any (λ r. same_numbers row.name r.name) rows ≡ false → (b c : Bool) → same_numbers n row.name ≡ b → list_any (λ r. same_numbers n r.name) rows ≡ c
        → cond c (row_value n rows) (cond b (Value row.val) (row_value n acc)) ≡ cond (b || c) (cond b (Value row.val) (row_value n rows)) (row_value n acc)
    apart none true true e f =
        let P : List ℕ → Type 0 = λ m. list_any (λ r. same_numbers m r.name) rows ≡ true in
        let some : list_any (λ r. same_numbers row.name r.name) rows ≡ true = subst P (same_numbers_eq n row.name e) f in cc
    apart none true false e f = refl
    apart none false true e f = refl
    apart none false false e f = refl

    by : (b : Bool) → list_any (λ r. same_numbers row.name r.name) rows ≡ b → names_differ (row ∷ rows) ≡ true
        → (names_differ rows ≡ true → row_value n (fold (λ ordered row. set_row row ordered) (set_row row acc) rows)
        ≡ cond (list_any (λ r. same_numbers n r.name) rows) (row_value n rows) (row_value n (set_row row acc)))
        → row_value n (fold (λ ordered row. set_row row ordered) acc (row ∷ rows)) ≡ cond (list_any (λ r. same_numbers n r.name) (row ∷ rows)) (row_value n (row ∷ rows)) (row_value n acc)
    by true e q later = let bad : false ≡ true = rw e at q in cc
    by false e q later =
        let rest : names_differ rows ≡ true = rw e at q in
        later rest
        ∙ ap (λ (v : Answer). cond (list_any (λ r. same_numbers n r.name) rows) (row_value n rows) v) (row_set n row acc)
        ∙ apart e (same_numbers n row.name) (list_any (λ r. same_numbers n r.name) rows) refl refl

none_value : (n : List ℕ) (rows : List Row) → list_any (λ r. same_numbers n r.name) rows ≡ false → Absent ≡ row_value n rows
none_value n [] e = refl
none_value n (row ∷ rows) e = by (same_numbers n row.name) refl e (λ q. none_value n rows q)
  where
    by : (b : Bool) → same_numbers n row.name ≡ b → list_any (λ r. same_numbers n r.name) (row ∷ rows) ≡ false
        → (list_any (λ r. same_numbers n r.name) rows ≡ false → Absent ≡ row_value n rows) → Absent ≡ row_value n (row ∷ rows)
    by true f q later = let bad : true ≡ false = rw f at q in cc
    by false f q later = let rest : list_any (λ r. same_numbers n r.name) rows ≡ false = rw f at q in rw f (later rest)

pub ordered_values : (n : List ℕ) (rows : List Row) → names_differ rows ≡ true → row_value n (in_order rows) ≡ row_value n rows
ordered_values n rows d = values_from n [] rows d ∙ by (list_any (λ r. same_numbers n r.name) rows) refl
  where
    by : (b : Bool) → list_any (λ r. same_numbers n r.name) rows ≡ b → cond (list_any (λ r. same_numbers n r.name) rows) (row_value n rows) Absent ≡ row_value n rows
    by true e = rw e refl
    by false e = rw e (none_value n rows e)

-- the rows in order, with one more
pub next_row : (rows : List Row) (k : ℕ) (row : Row) → k < length rows → row ≡ get_or rows k row → in_order (take (k + 1) rows) ≡ set_row row (in_order (take k rows))
next_row rows k row lt is =
    ap in_order (take_more rows k row lt ∙ ap (λ (r : Row). take k rows ++ r ∷ []) (sym is)) ∙ fold-append (λ ordered r. set_row r ordered) [] (take k rows) (row ∷ [])

left : (a b : Bool) → (a && b) ≡ true → a ≡ true
left true b e = refl
left false b e = e

right : (a b : Bool) → (a && b) ≡ true → b ≡ true
right true b e = e
right false b e = cc

both : (a b : Bool) → a ≡ true → b ≡ true → (a && b) ≡ true
both a b p q = rw (p, q) refl

-- operations of ascending numbers, with one of a number above all
pub ascend_more : (ops : List NumOp) (new : NumOp) → ascend ops ≡ true → list_all (λ o. nat_lt o.n new.n) ops ≡ true → ascend (ops ++ new ∷ []) ≡ true
ascend_more [] new a e = refl
ascend_more (o ∷ ops) new a e =
    let above : NumOp → Bool = λ p. nat_lt o.n p.n in
    let own : list_all above ops ≡ true = left (list_all above ops) (ascend ops) a in
    let one : nat_lt o.n new.n ≡ true = left (nat_lt o.n new.n) (list_all (λ p. nat_lt p.n new.n) ops) e in
    let all : list_all above (ops ++ new ∷ []) ≡ true = list_all-append above ops (new ∷ []) ∙ both (list_all above ops) (list_all above (new ∷ [])) own (both (nat_lt o.n new.n) true one refl) in
    both (list_all above (ops ++ new ∷ [])) (ascend (ops ++ new ∷ [])) all
    (ascend_more ops new (right (list_all above ops) (ascend ops) a) (right (nat_lt o.n new.n) (list_all (λ p. nat_lt p.n new.n) ops) e))

-- whether the operation was taken or not
pub either_ascends : (b : Bool) (xs ys new : List NumOp) → new ≡ (if b then xs else ys) → ascend xs ≡ true → ascend ys ≡ true → ascend new ≡ true
either_ascends true xs ys new e p q = ap ascend e ∙ p
either_ascends false xs ys new e p q = ap ascend e ∙ q

-- a place that was found is one of the first so many
pub at_bound : (items : List Row) (count at : ℕ) (n : List ℕ) → IsAt row_name n (take count items) at → at < length items
at_bound items count at n a =
    let l : length (take count items) ≡ length (a.before ++ a.here ∷ a.behind) = ap (λ (l : List Row). length l) a.parts in
    let place = a.place in
    grind (arith, common_steps, l, place)

pub gap_bound : (items : List Row) (count at : ℕ) (n : List ℕ) → IsGap row_name n (take count items) at → at ≤ length items
gap_bound items count at n a =
    let l : length (take count items) ≡ length (a.before ++ a.behind) = ap (λ (l : List Row). length l) a.parts in
    let place = a.place in
    grind (arith, common_steps, l, place)

pub take_whole : (xs : List Row) → take (length xs) xs ≡ xs
take_whole [] = refl
take_whole (x ∷ xs) = ap (λ (l : List Row). x ∷ l) (take_whole xs)

-- a row that is put among all rows
pub put_all : (items new : List Row) (count : ℕ) (row : Row) → count ≡ length items → new ≡ set_row row (take count items) ++ drop count items
    → IsAscending row_name items → IsAscending row_name new
put_all items new count row n e a =
    let t : take count items ≡ items = ap (λ (k : ℕ). take k items) n ∙ take_whole items in
    let d : drop count items ≡ [] = grind (arith, common_steps, n) in
    let whole : new ≡ set_row row items =
    e ∙ ap (λ (l : List Row). set_row row l ++ drop count items) t ∙ ap (λ (l : List Row). set_row row items ++ l) d ∙ append-nil (set_row row items) in
    subst (λ l. IsAscending row_name l) (sym whole) (set_ascending row items a)

seam : (xs zs : List Row) (d : Row) → get_or (xs ++ zs) (length xs) d ≡ get_or zs 0 d
seam [] zs d = refl
seam (x ∷ xs) zs d = seam xs zs d

drop_first : (init : List Row) (k : ℕ) (d : Row) → get_or (drop k init) 0 d ≡ get_or init k d
drop_first [] zero d = refl
drop_first [] (suc k) d = refl
drop_first (z ∷ zs) zero d = refl
drop_first (z ∷ zs) (suc k) d = drop_first zs k d

remove_seam : (xs zs : List Row) → remove (xs ++ zs) (length xs) ≡ xs ++ drop 1 zs
remove_seam [] [] = refl
remove_seam [] (z ∷ zs) = refl
remove_seam (x ∷ xs) zs = ap (λ (l : List Row). x ∷ l) (remove_seam xs zs)

drop_next : (init : List Row) (k : ℕ) → drop 1 (drop k init) ≡ drop (suc k) init
drop_next [] zero = refl
drop_next [] (suc k) = refl
drop_next (z ∷ zs) zero = refl
drop_next (z ∷ zs) (suc k) = drop_next zs k

-- the next row is taken out of the others behind those that are in order
module _ (init items : List Row) (k count : ℕ) (so_far : items ≡ in_order (take k init) ++ drop k init) (n : count ≡ length (in_order (take k init))) where
  pub taken_is : (row : Row) → row ≡ get_or items count row → row ≡ get_or init k row
  taken_is row is =
      is ∙ ap (λ (l : List Row). get_or l count row) so_far ∙ ap (λ (j : ℕ). get_or (in_order (take k init) ++ drop k init) j row) n
      ∙ seam (in_order (take k init)) (drop k init) row ∙ drop_first init k row

  pub left_is : (new : List Row) → new ≡ remove items count → new ≡ in_order (take k init) ++ drop (k + 1) init
  left_is new e =
      let next : suc k ≡ k + 1 = omega arith in
      e ∙ ap (λ (l : List Row). remove l count) so_far ∙ ap (λ (j : ℕ). remove (in_order (take k init) ++ drop k init) j) n
      ∙ remove_seam (in_order (take k init)) (drop k init) ∙ ap (λ (l : List Row). in_order (take k init) ++ l) (drop_next init k)
      ∙ ap (λ (j : ℕ). in_order (take k init) ++ drop j init) next

  pub first_left : (new : List Row) → new ≡ remove items count → take count new ≡ in_order (take k init)
  first_left new e =
      ap (λ (l : List Row). take count l) (left_is new e) ∙ ap (λ (j : ℕ). take j (in_order (take k init) ++ drop (k + 1) init)) n
      ∙ take_front (in_order (take k init)) (drop (k + 1) init)

  pub rest_left : (new : List Row) → new ≡ remove items count → drop count new ≡ drop (k + 1) init
  rest_left new e =
      ap (λ (l : List Row). drop count l) (left_is new e) ∙ ap (λ (j : ℕ). drop j (in_order (take k init) ++ drop (k + 1) init)) n
      ∙ drop_front (in_order (take k init)) (drop (k + 1) init)

  pub first_ascends : (new : List Row) → new ≡ remove items count → IsAscending row_name (take count new)
  first_ascends new e = subst (λ l. IsAscending row_name l) (sym (first_left new e)) (order_from [] (take k init) tt)

  pub first_few : (new : List Row) (row : Row) → new ≡ remove items count → length (set_row row (take count new)) ≤ count + 1
  first_few new row e =
      let few = set_few row (take count new) in
      let l : length (take count new) ≡ length (in_order (take k init)) = ap (λ (l : List Row). length l) (first_left new e) in
      omega (arith, few, l, n)

  pub put_next : (new put : List Row) (row : Row) → k < length init → row ≡ get_or items count row → new ≡ remove items count
      → put ≡ set_row row (take count new) ++ drop count new → put ≡ in_order (take (k + 1) init) ++ drop (k + 1) init
  put_next new put row lt is e p =
      p ∙ ap (λ (l : List Row). set_row row l ++ drop count new) (first_left new e) ∙ ap (λ (l : List Row). set_row row (in_order (take k init)) ++ l) (rest_left new e)
      ∙ ap (λ (l : List Row). l ++ drop (k + 1) init) (sym (next_row init k row lt (taken_is row is)))

pub whole_length : (init items : List Row) (k : ℕ) → items ≡ in_order (take k init) ++ drop k init → length items ≡ length (in_order (take k init)) + (length init - k)
whole_length init items k e =
    let l : length items ≡ length (in_order (take k init) ++ drop k init) = ap (λ (l : List Row). length l) e in
    l ∙ grind (arith, common_steps)

pub all_ordered : (init items : List Row) (k : ℕ) → items ≡ in_order (take k init) ++ drop k init → length init ≤ k → IsAscending row_name items
all_ordered init items k e le =
    let d : drop k init ≡ [] = grind (arith, common_steps, le) in
    let whole : items ≡ in_order (take k init) = e ∙ ap (λ (l : List Row). in_order (take k init) ++ l) d ∙ append-nil (in_order (take k init)) in
    subst (λ l. IsAscending row_name l) (sym whole) (order_from [] (take k init) tt)
