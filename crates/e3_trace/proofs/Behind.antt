-- The lines behind the first of an entry are read from what is written of them.
use Rattle.std.proofs.Common.{◌≡◌, ◌<◌, ◌-◌, ℕ, suc, true, false, nat_lt, cond, List, [], ◌∷◌, ◌++◌, length, Some, None, refl, ap, sym, ◌∙◌, subst, arith, append_assoc}
use Rattle.std.specs.Prelude.{option_map, codes}
use Rattle.std.specs.Fmt.{decimal}
use Rattle.std.specs.List.{flat_map, AllByRecursion as Each}
use Rattle.std.proofs.lemmas.Bool.Decides.{nat_tests}
use Rattle.std.proofs.lemmas.List.{append-nil}
use Rattle.e3_types.specs.declared.entries.Entry.{Entry}
use Rattle.e3_types.specs.declared.entries.Input.{Input}
use Rattle.e3_types.specs.declared.entries.Told.{Told}
use Rattle.e3_types.specs.declared.messages.Packet.{Packet}
use Rattle.e3_types.specs.declared.records.Record.{Record}
use Rattle.e3_types.specs.declared.records.Record.TheVariants as log
use Rattle.e3_types.specs.declared.transactions.Dir.{Dir}
use Rattle.e3_types.specs.declared.transactions.Key.{Key}
use Rattle.e3_types.specs.declared.transactions.NumOp.{NumOp}
use Rattle.e3_types.specs.declared.transactions.Op.{Op}
use Rattle.e3_types.specs.declared.transactions.Op.TheVariants.{Read, Write}
use Rattle.e3_types.specs.declared.transactions.Row.{Row}
use Rattle.e3_types.specs.declared.transactions.Txn.{Txn}
use Rattle.e3_report.specs.lines.Events.{told_text}
use Rattle.e3_report.specs.lines.Records.{row_line, birth_row_line, birth_lines, read_line, write_line, op_line, vote_lines, inc_line, join_line, attempt_line, decision_line, record_lines}
use Rattle.e3_report.specs.lines.Texts.{line_end, commas, txn_text, dir_text}
use Rattle.e3_report.specs.lines.Entries.{input_line, marked_record, packet_line as packet_text, told_mark_line}
use Rattle.e3_report.specs.lines.Inputs.{input_text}
use Rattle.e3_report.specs.lines.Messages.{message_text}
use Rattle.e3_trace.specs.declared.drafts.Draft.{Draft}
use Rattle.e3_trace.specs.declared.drafts.Growing.{Growing}
use Rattle.e3_trace.specs.declared.drafts.Growing.TheVariants as growing
use Rattle.e3_trace.specs.Cuts.{Form, made_of, pair_of}
use Rattle.e3_report.specs.lines.Marks.{space, feed}
use Rattle.e3_trace.specs.Drafts.{grown, records_of, ops_due, with_input, takes_records, growing_with, with_record, row_from, row_of, with_row, read_from, write_from, vote_op_by, vote_op_of, with_op, birth_of, votes_of, record_by, first_by, first_of, with_record_line, packet_from, packet_of, takes_packets, with_packet, with_told, takes_told, packet_line, told_line, line_behind}
use Rattle.e3_trace.specs.Fields.{Known, u32_of, u64_of, name_of, value_of, numbers_of, dir_of, txn_of, known_sent, known_told}
use Rattle.e3_trace.specs.Inputs.{input_of}
use Rattle.e3_trace.specs.Messages.{message_of}
use Rattle.e3_trace.specs.Events.{told_of}
use Rattle.e3_trace.specs.Tellable.{IsShort, IsLong, IsBegun, InputTells, PacketTells, EventTells, IsRow, IsHere, IsVoteOp, AreNumbers, RecordTells, known_outs, known_events, OutsTell, EventsTell}
use Rattle.e3_trace.specs.Trace.{next_line, line_by, marked_line}
use Rattle.e3_trace.proofs.Chains.{two, three, two_again, three_again}
use Rattle.e3_trace.proofs.Going.{Goes, goes_none, goes_then, goes_line, cond_false, cond_true, reading_at, not_over, next_by}
use Rattle.e3_trace.proofs.Lists.{numbers_again, commas_lack}
use Rattle.e3_report.proofs.lines.Names.{name_of-name}
use Rattle.e3_trace.proofs.Numbers.{short_again, long_again}
use Rattle.e3_trace.proofs.OneLine.{InLine, and_short, and_text, short_in, long_in, txn_in, input_in, message_in, told_in}
use Rattle.e3_trace.proofs.Sentences.{made, input_again, message_again, told_again, short_word, long_word, txn_word}
use Rattle.e3_trace.proofs.Words.{dir_again, dir_lacks, value_again, name_lacks}

-- the entry with other records
abbrev pub logged : Draft → List Record → Growing → Draft
logged d records g = record d { records = records; growing = g }

-- a line of a record, of the vote that has operations due, or else the first of a record
abbrev recorded : Known → Draft → Form Draft
recorded known d text = cond (nat_lt 0 (ops_due d.growing)) (with_op d text) (first_of known d text)

record_line_by : (known : Known) (done : List Entry) (d e : Draft) (text : List ℕ) → takes_records d ≡ true → recorded known d text ≡ Some e
    → line_by (reading_at known done d) (codes "r") text ≡ Some (reading_at known done e)
unfolding line_by marked_line line_behind with_record_line
record_line_by known done d e text takes read = rw (takes, read) refl

record_next : (known : Known) (done : List Entry) (d e : Draft) (text : List ℕ) → takes_records d ≡ true → recorded known d text ≡ Some e
    → next_line (reading_at known done d) (codes "r " ++ text) ≡ Some (reading_at known done e)
record_next known done d e text takes read =
    next_by (reading_at known done d) (reading_at known done e) (codes "r") text refl (record_line_by known done d e text takes read)

record_on : (known : Known) (done : List Entry) (d e : Draft) (text : List ℕ) → length done < 2000000 → takes_records d ≡ true → recorded known d text ≡ Some e → InLine text
    → Goes (reading_at known done d) (reading_at known done e) ((codes "r " ++ text) ++ line_end)
record_on known done d e text few takes read within =
    goes_line (reading_at known done d) (reading_at known done e) (codes "r " ++ text) within (record_next known done d e text takes read) (not_over known done e few)

none_due : (n : ℕ) → n ≡ 0 → nat_lt 0 n ≡ false
none_due n e = ap (nat_lt 0) e

first_on : (known : Known) (done : List Entry) (d e : Draft) (text : List ℕ) → length done < 2000000 → takes_records d ≡ true → ops_due d.growing ≡ 0 → first_of known d text ≡ Some e → InLine text
    → Goes (reading_at known done d) (reading_at known done e) ((codes "r " ++ text) ++ line_end)
first_on known done d e text few takes due read within =
    record_on known done d e text few takes
    (cond_false (nat_lt 0 (ops_due d.growing)) (with_op d text) (first_of known d text) (none_due (ops_due d.growing) due) ∙ read) within

-- what is logged behind the records of an entry
pub record Logs (known : Known) (done : List Entry) (d : Draft) (text : List ℕ) (more : List Record) : Type 0 where
  pub records : List Record
  pub last : Growing
  pub goes : Goes (reading_at known done d) (reading_at known done (logged d records last)) text
  pub whole : ops_due last ≡ 0
  pub are : records ++ grown d.owner last ≡ records_of d ++ more

-- a record of one line
one_record : (known : Known) (done : List Entry) (d : Draft) (r : Record) (text : List ℕ) → length done < 2000000 → takes_records d ≡ true → ops_due d.growing ≡ 0
    → first_of known d text ≡ Some (with_record d r) → InLine text → Logs known done d ((codes "r " ++ text) ++ line_end) (r ∷ [])
one_record known done d r text few takes due read within = record {
  records = records_of d ++ r ∷ [];
  last = growing.Nothing;
  goes = first_on known done d (with_record d r) text few takes due read within;
  whole = refl;
  are = append-nil (records_of d ++ r ∷ []);
}

-- rows of a birth
row_again : (row : Row) → IsRow row → row_of (two row.name row.val) ≡ Some row
unfolding row_of
row_again row is =
    made row_from (pair_of space name_of value_of (two row.name row.val)) (row.name, row.val)
    (two_again name_of value_of row.name row.val row.name row.val (record { whole = name_lacks space row.name refl is.name; read = name_of-name row.name is.name }) (value_again row.val is.val.short))

with_row_again : (d : Draft) (records : List Record) (format : ℕ) (weights : List ℕ) (rows : List Row) (row : Row) → IsRow row
    → with_row (logged d records (growing.Birth format weights rows)) (two row.name row.val) ≡ Some (logged d records (growing.Birth format weights (rows ++ row ∷ [])))
unfolding with_row
with_row_again d records format weights rows row is =
    made (λ (w : Row). logged d records (growing.Birth format weights (rows ++ w ∷ []))) (row_of (two row.name row.val)) row (row_again row is)

row_first : (known : Known) (d : Draft) (text : List ℕ) → first_of known d (codes "row " ++ text) ≡ with_row d text
unfolding first_of first_by
row_first known d text = refl

row_text_is : (row : Row) → birth_row_line (codes "r ") row ≡ (codes "r " ++ (codes "row " ++ two row.name row.val)) ++ line_end
unfolding birth_row_line row_line line_end
row_text_is row = refl

rows_on : (known : Known) (done : List Entry) (d : Draft) (records : List Record) (format : ℕ) (weights : List ℕ) (before rows : List Row) → length done < 2000000 → takes_records d ≡ true → Each IsRow rows
    → Goes (reading_at known done (logged d records (growing.Birth format weights before))) (reading_at known done (logged d records (growing.Birth format weights (before ++ rows)))) (flat_map (birth_row_line (codes "r ")) rows)
rows_on known done d records format weights before [] few takes are =
    let From : List Row → Type 0 = λ q. Goes (reading_at known done (logged d records (growing.Birth format weights before))) (reading_at known done (logged d records (growing.Birth format weights q))) [] in
    subst From (sym (append-nil before)) (goes_none (reading_at known done (logged d records (growing.Birth format weights before))))
rows_on known done d records format weights before (row ∷ rows) few takes are =
    let start = logged d records (growing.Birth format weights before) in
    let next = logged d records (growing.Birth format weights (before ++ row ∷ [])) in
    let line = first_on known done start next (codes "row " ++ two row.name row.val) few takes refl
    (row_first known start (two row.name row.val) ∙ with_row_again d records format weights before row are.0)
    (and_text (codes "row " ++ row.name) row.val (name_lacks feed row.name refl are.0.name) are.0.val.one) in
    let rest = rows_on known done d records format weights (before ++ row ∷ []) rows few takes are.1 in
    let To : List Row → Type 0 = λ q. Goes (reading_at known done next) (reading_at known done (logged d records (growing.Birth format weights q))) (flat_map (birth_row_line (codes "r ")) rows) in
    let Line : List ℕ → Type 0 = λ q. Goes (reading_at known done start) (reading_at known done next) q in
    goes_then (reading_at known done start) (reading_at known done next) (reading_at known done (logged d records (growing.Birth format weights (before ++ row ∷ rows))))
    (birth_row_line (codes "r ") row) (flat_map (birth_row_line (codes "r ")) rows)
    (subst Line (sym (row_text_is row)) line) (subst To (append_assoc before (row ∷ []) rows) rest)

-- operations of a vote
abbrev vote_op_text : ℕ → Op → List ℕ
vote_op_text n (Read key) = codes "read " ++ two (decimal n) key.name
vote_op_text n (Write key val) = codes "write " ++ three (decimal n) key.name val

abbrev num_op : ℕ → Op → NumOp
num_op n op = record { n = n; op = op }

here_is : (site : ℕ) (key : Key) → key.site ≡ site → record { site = site; name = key.name } ≡ key
here_is site key e = ap (λ (s : ℕ). let k : Key = record { site = s; name = key.name } in k) (sym e)

vote_op_again : (site n : ℕ) (op : Op) → IsShort n → IsHere site op → vote_op_of site (vote_op_text n op) ≡ Some (num_op n op)
unfolding vote_op_of vote_op_by
vote_op_again site n (Read key) h is =
    made (read_from site) (pair_of space u32_of name_of (two (decimal n) key.name)) (n, key.name)
    (two_again u32_of name_of (decimal n) key.name n key.name (short_word n h) (name_of-name key.name is.1))
    ∙ ap (λ (k : Key). Some (num_op n (Read k))) (here_is site key is.0)
vote_op_again site n (Write key val) h is =
    made (write_from site) (pair_of space u32_of (pair_of space name_of value_of) (three (decimal n) key.name val)) (n, (key.name, val))
    (three_again u32_of name_of value_of (decimal n) key.name val n key.name val (short_word n h)
    (record { whole = name_lacks space key.name refl is.1.0; read = name_of-name key.name is.1.0 }) (value_again val is.1.1.short))
    ∙ ap (λ (k : Key). Some (num_op n (Write k val))) (here_is site key is.0)

vote_op_in : (site n : ℕ) (op : Op) → IsShort n → IsHere site op → InLine (vote_op_text n op)
vote_op_in site n (Read key) h is = and_text (codes "read " ++ decimal n) key.name (short_in n h) (name_lacks feed key.name refl is.1)
vote_op_in site n (Write key val) h is =
    and_text (codes "write " ++ decimal n ++ codes " " ++ key.name) val (and_text (codes "write " ++ decimal n) key.name (short_in n h) (name_lacks feed key.name refl is.1.0)) is.1.1.one

op_text_is : (n : ℕ) (op : Op) → op_line (codes "r ") (num_op n op) ≡ (codes "r " ++ vote_op_text n op) ++ line_end
unfolding op_line read_line write_line line_end
op_text_is n (Read key) = refl
op_text_is n (Write key val) = refl

one_less : (n : ℕ) → suc n - 1 ≡ n
one_less n = omega arith

some_due : (n : ℕ) → nat_lt 0 (suc n) ≡ true
some_due n = grind (arith, nat_tests)

with_op_again : (d : Draft) (records : List Record) (t : Txn) (before : List NumOp) (due n : ℕ) (op : Op) → IsShort n → IsHere d.owner op
    → with_op (logged d records (growing.Vote t before (suc due))) (vote_op_text n op) ≡ Some (logged d records (growing.Vote t (before ++ num_op n op ∷ []) due))
unfolding with_op
with_op_again d records t before due n op h is =
    made (λ (o : NumOp). logged d records (growing.Vote t (before ++ o ∷ []) (suc due - 1))) (vote_op_of d.owner (vote_op_text n op)) (num_op n op) (vote_op_again d.owner n op h is)
    ∙ ap (λ (k : ℕ). Some (logged d records (growing.Vote t (before ++ num_op n op ∷ []) k))) (one_less due)

ops_on : (known : Known) (done : List Entry) (d : Draft) (records : List Record) (t : Txn) (before ops : List NumOp) → length done < 2000000 → takes_records d ≡ true → Each (IsVoteOp d.owner) ops
    → Goes (reading_at known done (logged d records (growing.Vote t before (length ops)))) (reading_at known done (logged d records (growing.Vote t (before ++ ops) 0))) (flat_map (op_line (codes "r ")) ops)
ops_on known done d records t before [] few takes are =
    let From : List NumOp → Type 0 = λ q. Goes (reading_at known done (logged d records (growing.Vote t before 0))) (reading_at known done (logged d records (growing.Vote t q 0))) [] in
    subst From (sym (append-nil before)) (goes_none (reading_at known done (logged d records (growing.Vote t before 0))))
ops_on known done d records t before (o ∷ ops) few takes are =
    let start = logged d records (growing.Vote t before (suc (length ops))) in
    let next = logged d records (growing.Vote t (before ++ o ∷ []) (length ops)) in
    let line = record_on known done start next (vote_op_text o.n o.op) few takes
    (cond_true (nat_lt 0 (suc (length ops))) (with_op start (vote_op_text o.n o.op)) (first_of known start (vote_op_text o.n o.op)) (some_due (length ops))
    ∙ with_op_again d records t before (length ops) o.n o.op are.0.0 are.0.1)
    (vote_op_in d.owner o.n o.op are.0.0 are.0.1) in
    let rest = ops_on known done d records t (before ++ o ∷ []) ops few takes are.1 in
    let To : List NumOp → Type 0 = λ q. Goes (reading_at known done next) (reading_at known done (logged d records (growing.Vote t q 0))) (flat_map (op_line (codes "r ")) ops) in
    let Line : List ℕ → Type 0 = λ q. Goes (reading_at known done start) (reading_at known done next) q in
    goes_then (reading_at known done start) (reading_at known done next) (reading_at known done (logged d records (growing.Vote t (before ++ o ∷ ops) 0)))
    (op_line (codes "r ") o) (flat_map (op_line (codes "r ")) ops)
    (subst Line (sym (op_text_is o.n o.op)) line) (subst To (append_assoc before (o ∷ []) ops) rest)

-- a record, all its lines
birth_first : (d : Draft) (format : ℕ) (weights : List ℕ) → IsShort format → AreNumbers weights
    → birth_of (two (decimal format) (commas weights)) ≡ Some (growing.Birth format weights [])
unfolding birth_of
birth_first d format weights h are =
    made (λ (p : ℕ × List ℕ). growing.Birth p.0 p.1 []) (pair_of space u32_of numbers_of (two (decimal format) (commas weights))) (format, weights)
    (two_again u32_of numbers_of (decimal format) (commas weights) format weights (short_word format h) (numbers_again weights are))

birth_goes : (known : Known) (done : List Entry) (d : Draft) (format : ℕ) (weights : List ℕ) (rows : List Row) → length done < 2000000 → takes_records d ≡ true → ops_due d.growing ≡ 0
    → IsShort format → AreNumbers weights → Each IsRow rows → Logs known done d (birth_lines (codes "r ") format weights rows) (log.Birth format d.owner weights rows ∷ [])
unfolding birth_lines first_of first_by line_end
birth_goes known done d format weights rows few takes due h are is =
    let next = logged d (records_of d) (growing.Birth format weights []) in
    let line = first_on known done d next (codes "birth " ++ two (decimal format) (commas weights)) few takes due
    (made (growing_with d) (birth_of (two (decimal format) (commas weights))) (growing.Birth format weights []) (birth_first d format weights h are))
    (and_text (codes "birth " ++ decimal format) (commas weights) (short_in format h) (commas_lack feed weights refl refl are)) in
    record {
      records = records_of d;
      last = growing.Birth format weights rows;
      goes = goes_then (reading_at known done d) (reading_at known done next) (reading_at known done (logged d (records_of d) (growing.Birth format weights rows)))
          (codes "r birth " ++ decimal format ++ codes " " ++ commas weights ++ codes "\n") (flat_map (birth_row_line (codes "r ")) rows)
          line (rows_on known done d (records_of d) format weights [] rows few takes is);
      whole = refl;
      are = refl;
    }

vote_first : (known : Known) (t : Txn) (count : ℕ) → IsBegun known t → IsLong count → votes_of known (two (txn_text t) (decimal count)) ≡ Some (growing.Vote t [] count)
unfolding votes_of
vote_first known t count is h =
    made (λ (p : Txn × ℕ). growing.Vote p.0 [] p.1) (pair_of space (txn_of known) u64_of (two (txn_text t) (decimal count))) (t, count)
    (two_again (txn_of known) u64_of (txn_text t) (decimal count) t count (txn_word known t is) (long_again count h))

vote_goes : (known : Known) (done : List Entry) (d : Draft) (t : Txn) (ops : List NumOp) → length done < 2000000 → takes_records d ≡ true → ops_due d.growing ≡ 0
    → IsBegun known t → IsLong (length ops) → Each (IsVoteOp d.owner) ops → Logs known done d (vote_lines (codes "r ") t ops) (log.Vote t ops ∷ [])
unfolding vote_lines first_of first_by line_end
vote_goes known done d t ops few takes due is h are =
    let next = logged d (records_of d) (growing.Vote t [] (length ops)) in
    let line = first_on known done d next (codes "vote " ++ two (txn_text t) (decimal (length ops))) few takes due
    (made (growing_with d) (votes_of known (two (txn_text t) (decimal (length ops)))) (growing.Vote t [] (length ops)) (vote_first known t (length ops) is h))
    (and_text (codes "vote " ++ txn_text t) (decimal (length ops)) (txn_in t is.numbers) (long_in (length ops) h)) in
    record {
      records = records_of d;
      last = growing.Vote t ops 0;
      goes = goes_then (reading_at known done d) (reading_at known done next) (reading_at known done (logged d (records_of d) (growing.Vote t ops 0)))
          (codes "r vote " ++ txn_text t ++ codes " " ++ decimal (length ops) ++ codes "\n") (flat_map (op_line (codes "r ")) ops)
          line (ops_on known done d (records_of d) t [] ops few takes are);
      whole = refl;
      are = refl;
    }

inc_goes : (known : Known) (done : List Entry) (d : Draft) (inc : ℕ) → length done < 2000000 → takes_records d ≡ true → ops_due d.growing ≡ 0 → IsShort inc
    → Logs known done d (inc_line (codes "r ") inc) (log.Inc inc ∷ [])
unfolding inc_line first_of first_by record_by line_end
inc_goes known done d inc few takes due h =
    one_record known done d (log.Inc inc) (codes "inc " ++ decimal inc) few takes due
    (made (with_record d) (made_of log.Inc u32_of (decimal inc)) (log.Inc inc) (made log.Inc (u32_of (decimal inc)) inc (short_again inc h))) (short_in inc h)

join_goes : (known : Known) (done : List Entry) (d : Draft) (t : Txn) (n : ℕ) → length done < 2000000 → takes_records d ≡ true → ops_due d.growing ≡ 0 → IsBegun known t → IsShort n
    → Logs known done d (join_line (codes "r ") t n) (log.Join t n ∷ [])
unfolding join_line first_of first_by record_by line_end
join_goes known done d t n few takes due is h =
    let fields = pair_of space (txn_of known) u32_of (two (txn_text t) (decimal n)) in
    one_record known done d (log.Join t n) (codes "join " ++ two (txn_text t) (decimal n)) few takes due
    (made (with_record d) (option_map (λ (p : Txn × ℕ). log.Join p.0 p.1) fields) (log.Join t n)
    (made (λ (p : Txn × ℕ). log.Join p.0 p.1) fields (t, n)
    (two_again (txn_of known) u32_of (txn_text t) (decimal n) t n (txn_word known t is) (short_again n h))))
    (and_short (codes "join " ++ txn_text t) n (txn_in t is.numbers) h)

attempt_goes : (known : Known) (done : List Entry) (d : Draft) (t : Txn) (n : ℕ) (dir : Dir) → length done < 2000000 → takes_records d ≡ true → ops_due d.growing ≡ 0 → IsBegun known t → IsShort n
    → Logs known done d (attempt_line (codes "r ") t n dir) (log.Attempt t n dir ∷ [])
unfolding attempt_line first_of first_by record_by line_end
attempt_goes known done d t n dir few takes due is h =
    let fields = pair_of space (txn_of known) (pair_of space u32_of dir_of) (three (txn_text t) (decimal n) (dir_text dir)) in
    one_record known done d (log.Attempt t n dir) (codes "attempt " ++ three (txn_text t) (decimal n) (dir_text dir)) few takes due
    (made (with_record d) (option_map (λ (p : Txn × (ℕ × Dir)). log.Attempt p.0 p.1.0 p.1.1) fields) (log.Attempt t n dir)
    (made (λ (p : Txn × (ℕ × Dir)). log.Attempt p.0 p.1.0 p.1.1) fields (t, (n, dir))
    (three_again (txn_of known) u32_of dir_of (txn_text t) (decimal n) (dir_text dir) t n dir (txn_word known t is) (short_word n h) (dir_again dir))))
    (and_text (codes "attempt " ++ txn_text t ++ codes " " ++ decimal n) (dir_text dir) (and_short (codes "attempt " ++ txn_text t) n (txn_in t is.numbers) h) (dir_lacks dir))

decision_goes : (known : Known) (done : List Entry) (d : Draft) (t : Txn) (dir : Dir) → length done < 2000000 → takes_records d ≡ true → ops_due d.growing ≡ 0 → IsBegun known t
    → Logs known done d (decision_line (codes "r ") t dir) (log.Decision t dir ∷ [])
unfolding decision_line first_of first_by record_by line_end
decision_goes known done d t dir few takes due is =
    let fields = pair_of space (txn_of known) dir_of (two (txn_text t) (dir_text dir)) in
    one_record known done d (log.Decision t dir) (codes "decision " ++ two (txn_text t) (dir_text dir)) few takes due
    (made (with_record d) (option_map (λ (p : Txn × Dir). log.Decision p.0 p.1) fields) (log.Decision t dir)
    (made (λ (p : Txn × Dir). log.Decision p.0 p.1) fields (t, dir)
    (two_again (txn_of known) dir_of (txn_text t) (dir_text dir) t dir (txn_word known t is) (dir_again dir))))
    (and_text (codes "decision " ++ txn_text t) (dir_text dir) (txn_in t is.numbers) (dir_lacks dir))

record_goes : (known : Known) (done : List Entry) (d : Draft) (r : Record) → length done < 2000000 → takes_records d ≡ true → ops_due d.growing ≡ 0 → RecordTells known d.owner r
    → Logs known done d (marked_record r) (r ∷ [])
unfolding record_lines
record_goes known done d (log.Birth format own weights rows) few takes due is =
    let Own : ℕ → Type 0 = λ o. Logs known done d (birth_lines (codes "r ") format weights rows) (log.Birth format o weights rows ∷ []) in
    subst Own (sym is.0) (birth_goes known done d format weights rows few takes due is.1.0 is.1.1.0 is.1.1.1)
record_goes known done d (log.Inc inc) few takes due is = inc_goes known done d inc few takes due is
record_goes known done d (log.Vote t ops) few takes due is = vote_goes known done d t ops few takes due is.0 is.1.0 is.1.1
record_goes known done d (log.Join t n) few takes due is = join_goes known done d t n few takes due is.0 is.1
record_goes known done d (log.Attempt t n dir) few takes due is = attempt_goes known done d t n dir few takes due is.0 is.1
record_goes known done d (log.Decision t dir) few takes due is = decision_goes known done d t dir few takes due is

-- records, one after the other
logs_then : (known : Known) (done : List Entry) (d : Draft) (a b : List ℕ) (r : Record) (records : List Record) (one : Logs known done d a (r ∷ []))
    → Logs known done (logged d one.records one.last) b records → Logs known done d (a ++ b) (r ∷ records)
logs_then known done d a b r records one rest = record {
  records = rest.records;
  last = rest.last;
  goes = goes_then (reading_at known done d) (reading_at known done (logged d one.records one.last)) (reading_at known done (logged d rest.records rest.last)) a b one.goes rest.goes;
  whole = rest.whole;
  are = rest.are ∙ ap (λ (l : List Record). l ++ records) one.are ∙ append_assoc (records_of d) (r ∷ []) records;
}

pub records_go : (known : Known) (done : List Entry) (d : Draft) (records : List Record) → length done < 2000000 → takes_records d ≡ true → ops_due d.growing ≡ 0 → Each (RecordTells known d.owner) records
    → Logs known done d (flat_map marked_record records) records
records_go known done d [] few takes due is = record {
  records = d.records;
  last = d.growing;
  goes = goes_none (reading_at known done d);
  whole = due;
  are = sym (append-nil (records_of d));
}
records_go known done d (r ∷ records) few takes due is =
    let one = record_goes known done d r few takes due is.0 in
    logs_then known done d (marked_record r) (flat_map marked_record records) r records one
    (records_go known done (logged d one.records one.last) records few takes one.whole is.1)

-- packets
abbrev pub sending : Draft → List Packet → Draft
sending d outs = record d { outs = d.outs ++ outs }

packet_again : (known : Known) (site : ℕ) (p : Packet) → PacketTells known site p
    → packet_of known site (three (decimal p.number) (decimal p.to) (message_text p.msg)) ≡ Some p
unfolding packet_of
packet_again known site p is =
    made (packet_from site) (pair_of space u64_of (pair_of space u32_of (message_of known)) (three (decimal p.number) (decimal p.to) (message_text p.msg))) (p.number, (p.to, p.msg))
    (three_again u64_of u32_of (message_of known) (decimal p.number) (decimal p.to) (message_text p.msg) p.number p.to p.msg (long_word p.number is.number) (short_word p.to is.to) (message_again known p.msg is.message))
    ∙ ap (λ (s : ℕ). Some (packet_from s (p.number, (p.to, p.msg)))) (sym is.sender)

packet_line_by : (known : Known) (done : List Entry) (d : Draft) (p : Packet) (text : List ℕ) → takes_packets d ≡ true → packet_of known d.owner text ≡ Some p
    → line_by (reading_at known done d) (codes "o") text ≡ Some (reading_at (known_sent known p) done (with_packet d p))
unfolding line_by marked_line line_behind packet_line
packet_line_by known done d p text takes read = rw (takes, read) refl

packet_on : (known : Known) (done : List Entry) (d : Draft) (p : Packet) → length done < 2000000 → takes_packets d ≡ true → PacketTells known d.owner p
    → Goes (reading_at known done d) (reading_at (known_sent known p) done (with_packet d p)) (packet_text p)
unfolding packet_text line_end
packet_on known done d p few takes is =
    let text = three (decimal p.number) (decimal p.to) (message_text p.msg) in
    goes_line (reading_at known done d) (reading_at (known_sent known p) done (with_packet d p)) (codes "o " ++ text)
    (and_text (codes "o " ++ decimal p.number ++ codes " " ++ decimal p.to) (message_text p.msg) (and_short (codes "o " ++ decimal p.number) p.to (long_in p.number is.number) is.to) (message_in known p.msg is.message))
    (next_by (reading_at known done d) (reading_at (known_sent known p) done (with_packet d p)) (codes "o") text refl
    (packet_line_by known done d p text takes (packet_again known d.owner p is)))
    (not_over (known_sent known p) done (with_packet d p) few)

pub outs_go : (known : Known) (done : List Entry) (d : Draft) (outs : List Packet) → length done < 2000000 → takes_packets d ≡ true → OutsTell known d.owner outs
    → Goes (reading_at known done d) (reading_at (known_outs known outs) done (sending d outs)) (flat_map packet_text outs)
outs_go known done d [] few takes is =
    let To : List Packet → Type 0 = λ q. Goes (reading_at known done d) (reading_at known done (record d { outs = q })) [] in
    subst To (sym (append-nil d.outs)) (goes_none (reading_at known done d))
outs_go known done d (p ∷ outs) few takes is =
    let rest = outs_go (known_sent known p) done (with_packet d p) outs few takes is.1 in
    let To : List Packet → Type 0 = λ q. Goes (reading_at (known_sent known p) done (with_packet d p)) (reading_at (known_outs (known_sent known p) outs) done (record d { outs = q })) (flat_map packet_text outs) in
    goes_then (reading_at known done d) (reading_at (known_sent known p) done (with_packet d p)) (reading_at (known_outs (known_sent known p) outs) done (sending d (p ∷ outs)))
    (packet_text p) (flat_map packet_text outs) (packet_on known done d p few takes is.0) (subst To (append_assoc d.outs (p ∷ []) outs) rest)

-- what is told
abbrev pub telling : Draft → List Told → Draft
telling d events = record d { told = d.told ++ events }

told_line_by : (known : Known) (done : List Entry) (d : Draft) (e : Told) (text : List ℕ) → takes_told d ≡ true → told_of known text ≡ Some e
    → line_by (reading_at known done d) (codes "t") text ≡ Some (reading_at (known_told known e) done (with_told d e))
unfolding line_by marked_line line_behind told_line
told_line_by known done d e text takes read = rw (takes, read) refl

told_on : (known : Known) (done : List Entry) (d : Draft) (e : Told) → length done < 2000000 → takes_told d ≡ true → EventTells known e
    → Goes (reading_at known done d) (reading_at (known_told known e) done (with_told d e)) (told_mark_line e)
unfolding told_mark_line line_end
told_on known done d e few takes is =
    goes_line (reading_at known done d) (reading_at (known_told known e) done (with_told d e)) (codes "t " ++ told_text e) (told_in known e is)
    (next_by (reading_at known done d) (reading_at (known_told known e) done (with_told d e)) (codes "t") (told_text e) refl
    (told_line_by known done d e (told_text e) takes (told_again known e is)))
    (not_over (known_told known e) done (with_told d e) few)

pub events_go : (known : Known) (done : List Entry) (d : Draft) (events : List Told) → length done < 2000000 → takes_told d ≡ true → EventsTell known events
    → Goes (reading_at known done d) (reading_at (known_events known events) done (telling d events)) (flat_map told_mark_line events)
events_go known done d [] few takes is =
    let To : List Told → Type 0 = λ q. Goes (reading_at known done d) (reading_at known done (record d { told = q })) [] in
    subst To (sym (append-nil d.told)) (goes_none (reading_at known done d))
events_go known done d (e ∷ events) few takes is =
    let rest = events_go (known_told known e) done (with_told d e) events few takes is.1 in
    let To : List Told → Type 0 = λ q. Goes (reading_at (known_told known e) done (with_told d e)) (reading_at (known_events (known_told known e) events) done (record d { told = q })) (flat_map told_mark_line events) in
    goes_then (reading_at known done d) (reading_at (known_told known e) done (with_told d e)) (reading_at (known_events (known_told known e) events) done (telling d (e ∷ events)))
    (told_mark_line e) (flat_map told_mark_line events) (told_on known done d e few takes is.0) (subst To (append_assoc d.told (e ∷ []) events) rest)

-- inputs of a fall
abbrev pub given : Draft → List Input → ℕ → Draft
given d inputs due = record d { inputs = inputs; due = due }

with_input_again : (known : Known) (d : Draft) (before : List Input) (due : ℕ) (i : Input) → InputTells known i
    → with_input known (given d before (suc due)) (input_text i) ≡ Some (given d (before ++ i ∷ []) due)
unfolding with_input
with_input_again known d before due i is =
    cond_true (nat_lt 0 (suc due)) (made_of (λ (j : Input). given d (before ++ j ∷ []) (suc due - 1)) (input_of known) (input_text i)) None (some_due due)
    ∙ made (λ (j : Input). given d (before ++ j ∷ []) (suc due - 1)) (input_of known (input_text i)) i (input_again known i is)
    ∙ ap (λ (k : ℕ). Some (given d (before ++ i ∷ []) k)) (one_less due)

input_line_by : (known : Known) (done : List Entry) (d e : Draft) (text : List ℕ) → with_input known d text ≡ Some e
    → line_by (reading_at known done d) (codes "i") text ≡ Some (reading_at known done e)
unfolding line_by marked_line line_behind
input_line_by known done d e text read = rw read refl

pub inputs_go : (known : Known) (done : List Entry) (d : Draft) (before inputs : List Input) → length done < 2000000 → Each (InputTells known) inputs
    → Goes (reading_at known done (given d before (length inputs))) (reading_at known done (given d (before ++ inputs) 0)) (flat_map input_line inputs)
unfolding input_line line_end
inputs_go known done d before [] few is =
    let To : List Input → Type 0 = λ q. Goes (reading_at known done (given d before 0)) (reading_at known done (given d q 0)) [] in
    subst To (sym (append-nil before)) (goes_none (reading_at known done (given d before 0)))
inputs_go known done d before (i ∷ inputs) few is =
    let start = given d before (suc (length inputs)) in
    let next = given d (before ++ i ∷ []) (length inputs) in
    let line = goes_line (reading_at known done start) (reading_at known done next) (codes "i " ++ input_text i) (input_in known i is.0)
    (next_by (reading_at known done start) (reading_at known done next) (codes "i") (input_text i) refl
    (input_line_by known done start next (input_text i) (with_input_again known d before (length inputs) i is.0)))
    (not_over known done next few) in
    let rest = inputs_go known done d (before ++ i ∷ []) inputs few is.1 in
    let To : List Input → Type 0 = λ q. Goes (reading_at known done next) (reading_at known done (given d q 0)) (flat_map input_line inputs) in
    goes_then (reading_at known done start) (reading_at known done next) (reading_at known done (given d (before ++ i ∷ inputs) 0))
    (input_line i) (flat_map input_line inputs) line (subst To (append_assoc before (i ∷ []) inputs) rest)
