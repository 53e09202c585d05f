-- A trace of a tellable history is read from what is written of it.
use Rattle.std.proofs.Common.{◌≡◌, ◌==◌, ◌&&◌, ◌<◌, ◌≤◌, ◌+◌, ℕ, Bool, true, false, nat_le, List, [], ◌∷◌, ◌++◌, length, Some, Ok, Err, refl, ap, sym, ◌∙◌, subst, arith, append_assoc, length-append, le-leb}
use Rattle.std.specs.Prelude.{bytes_eq, codes}
use Rattle.std.specs.Fmt.{decimal}
use Rattle.std.specs.List.{flat_map, list_all, AllByRecursion as Each}
use Rattle.std.proofs.lemmas.List.{append-nil}
use Rattle.e3_types.specs.declared.entries.Act.{Act}
use Rattle.e3_types.specs.declared.entries.Act.TheVariants as act
use Rattle.e3_types.specs.declared.entries.Entry.{Entry}
use Rattle.e3_types.specs.declared.entries.Input.{Input}
use Rattle.e3_types.specs.declared.entries.Told.{Told}
use Rattle.e3_types.specs.declared.entries.Why.{Why}
use Rattle.e3_types.specs.declared.messages.Packet.{Packet}
use Rattle.e3_types.specs.declared.records.Record.{Record}
use Rattle.e3_report.specs.lines.Texts.{line_end}
use Rattle.e3_report.specs.lines.Entries.{input_line, marked_record, packet_line as packet_text, told_mark_line, form_text, lines_behind, entry_trace, trace_of}
use Rattle.e3_trace.specs.declared.drafts.Draft.{Draft}
use Rattle.e3_trace.specs.declared.drafts.Head.TheVariants as head
use Rattle.e3_trace.specs.declared.faults.TraceFault.TheVariants as fault
use Rattle.e3_report.specs.lines.Marks.{space, feed, pieces}
use Rattle.e3_trace.specs.Drafts.{ops_due, is_complete, act_of, entry_from, draft_of}
use Rattle.e3_trace.specs.Entries.{whole_of}
use Rattle.e3_trace.specs.Fields.{Known, is_digit}
use Rattle.e3_trace.specs.Tellable.{IsShort, ActTells, known_act, known_outs, known_events, TellsAfter, IsTellable, IsBefore, ended_line, text_of, TracesReadBack}
use Rattle.e3_trace.specs.Trace.{Reading, nothing_read, closed, entry_line, line_by, is_mark, next_line, lines_read, behind_mark, read_behind, history_of}
use Rattle.e3_trace.proofs.Behind.{logged, records_go, sending, outs_go, telling, events_go, given, inputs_go}
use Rattle.e3_trace.proofs.Cutting.{pieces_join}
use Rattle.e3_trace.proofs.Firsts.{first_draft, form_again, form_in}
use Rattle.e3_trace.proofs.Going.{same_bytes, Goes, goes_none, goes_then, goes_line, first_piece, cond_true, reading_at, not_over, next_by}
use Rattle.e3_trace.proofs.Numbers.{short_again, number_lacks, number_digits}
use Rattle.e3_trace.proofs.OneLine.{and_text, short_in}
use Rattle.e3_trace.proofs.Words.{widen, joined}

-- a number is no mark of a line
no_word : (n : ℕ) (word : List ℕ) (c : Bool) → bytes_eq (decimal n) word ≡ c → IsShort n → list_all is_digit word ≡ false → c ≡ false
no_word n word true e h fails =
    let all : list_all is_digit word ≡ true = sym (ap (list_all is_digit) (same_bytes (decimal n) word e)) ∙ number_digits n (widen n h) in
    absurd cc
no_word n word false e h fails = refl

no_mark : (n : ℕ) → IsShort n → is_mark (decimal n) ≡ false
no_mark n h =
    let i = no_word n (codes "i") (bytes_eq (decimal n) (codes "i")) refl h refl in
    let r = no_word n (codes "r") (bytes_eq (decimal n) (codes "r")) refl h refl in
    let o = no_word n (codes "o") (bytes_eq (decimal n) (codes "o")) refl h refl in
    let t = no_word n (codes "t") (bytes_eq (decimal n) (codes "t")) refl h refl in
    rw (i, r, o, t) refl

-- the first line of an entry
entry_by : (r : Reading) (done : List Entry) (owner : ℕ) (a : Act) → closed r ≡ Some done → IsShort owner → ActTells r.known owner a
    → entry_line r (decimal owner) (form_text a) ≡ Some (reading_at r.known done (first_draft owner a))
unfolding entry_line
entry_by r done owner a is h tells = rw (is, short_again owner h, form_again r.known owner a tells) refl

line_of : (r : Reading) (done : List Entry) (owner : ℕ) (a : Act) → closed r ≡ Some done → IsShort owner → ActTells r.known owner a
    → line_by r (decimal owner) (form_text a) ≡ Some (reading_at r.known done (first_draft owner a))
unfolding line_by
line_of r done owner a is h tells = rw (no_mark owner h) (entry_by r done owner a is h tells)

first_goes : (r : Reading) (done : List Entry) (owner : ℕ) (a : Act) → closed r ≡ Some done → IsShort owner → ActTells r.known owner a → length done < 2000000
    → Goes r (reading_at r.known done (first_draft owner a)) ((decimal owner ++ codes " " ++ form_text a) ++ line_end)
first_goes r done owner a is h tells few =
    let s = reading_at r.known done (first_draft owner a) in
    let next = next_by r s (decimal owner) (form_text a) (number_lacks space owner refl (widen owner h)) (line_of r done owner a is h tells) in
    let Next : List ℕ → Type 0 = λ l. next_line r l ≡ Some s in
    goes_line r s (decimal owner ++ codes " " ++ form_text a)
    (and_text (decimal owner) (form_text a) (short_in owner h) (form_in r.known owner a tells))
    (subst Next (sym (joined space (decimal owner) (form_text a))) next)
    (not_over r.known done (first_draft owner a) few)

-- reading goes on over an entry's lines, and has the entry then
pub record Reads (r : Reading) (done : List Entry) (e : Entry) (text : List ℕ) : Type 0 where
  pub there : Reading
  pub goes : Goes r there text
  pub knows : there.known ≡ known_act r.known e.act
  pub has : closed there ≡ Some (done ++ e ∷ [])

entry_made : (d : Draft) (a : Act) → is_complete d ≡ true → act_of d ≡ a → entry_from d ≡ Some (record { owner = d.owner; act = a })
unfolding entry_from
entry_made d a complete is = rw (complete, is) refl

closed_made : (known : Known) (done : List Entry) (d : Draft) (e : Entry) → entry_from d ≡ Some e → closed (reading_at known done d) ≡ Some (done ++ e ∷ [])
unfolding closed
closed_made known done d e is = rw is refl

-- an entry that has one line
abbrev entry_of_act : ℕ → Act → Entry
entry_of_act owner a = record { owner = owner; act = a }

whole_made : (known : Known) (done : List Entry) (owner : ℕ) (a : Act) → closed (reading_at known done (whole_of owner a)) ≡ Some (done ++ entry_of_act owner a ∷ [])
whole_made known done owner a = closed_made known done (whole_of owner a) (entry_of_act owner a) (entry_made (whole_of owner a) a refl refl)

no_lines : (r s : Reading) (text : List ℕ) → Goes r s text → Goes r s (text ++ [])
no_lines r s text goes = let To : List ℕ → Type 0 = λ q. Goes r s q in subst To (sym (append-nil text)) goes

complete_by : (n : ℕ) → n ≡ 0 → (0 == 0 && n == 0) ≡ true
complete_by n e = rw e refl

-- a step
step_reads : (r : Reading) (done : List Entry) (owner : ℕ) (i : Input) (records : List Record) (outs : List Packet) (events : List Told) (text : List ℕ)
    → ActTells r.known owner (act.Step i records outs events) → length done < 2000000
    → Goes r (reading_at r.known done (draft_of owner (head.Step i) 0)) text
    → Reads r done (entry_of_act owner (act.Step i records outs events)) (text ++ (flat_map marked_record records ++ flat_map packet_text outs ++ flat_map told_mark_line events))
step_reads r done owner i records outs events text tells few goes =
    let d = draft_of owner (head.Step i) 0 in
    let logs = records_go r.known done d records few refl refl tells.1.0 in
    let d1 = logged d logs.records logs.last in
    let complete : is_complete d1 ≡ true = complete_by (ops_due logs.last) logs.whole in
    let d2 = sending d1 outs in
    let known2 = known_outs r.known outs in
    let d3 = telling d2 events in
    let takes : (true && is_complete d1 && true) ≡ true = rw complete refl in
    let takes_told : (true && is_complete d1) ≡ true = rw complete refl in
    let sent = outs_go r.known done d1 outs few takes tells.1.1.0 in
    let told = events_go known2 done d2 events few takes_told tells.1.1.1 in
    let a = flat_map marked_record records in
    let b = flat_map packet_text outs in
    let c = flat_map told_mark_line events in
    let there = reading_at (known_events known2 events) done d3 in
    let lines = goes_then (reading_at r.known done d) (reading_at known2 done d2) there (a ++ b) c
    (goes_then (reading_at r.known done d) (reading_at r.known done d1) (reading_at known2 done d2) a b logs.goes sent) told in
    let made : Act = act.Step i records outs events in
    record {
      there = there;
      goes = goes_then r (reading_at r.known done d) there text (a ++ b ++ c) goes lines;
      knows = refl;
      has = closed_made (known_events known2 events) done d3 (entry_of_act owner made)
          (entry_made d3 made complete (ap (λ (rs : List Record). act.Step i rs outs events) logs.are));
    }

-- a fall
fall_reads : (r : Reading) (done : List Entry) (owner : ℕ) (inputs : List Input) (records : List Record) (why : Why) (text : List ℕ)
    → ActTells r.known owner (act.Fall inputs records why) → length done < 2000000
    → Goes r (reading_at r.known done (draft_of owner (head.Fall why) (length inputs))) text
    → Reads r done (entry_of_act owner (act.Fall inputs records why)) (text ++ (flat_map input_line inputs ++ flat_map marked_record records))
fall_reads r done owner inputs records why text tells few goes =
    let d = draft_of owner (head.Fall why) (length inputs) in
    let d1 = given d inputs 0 in
    let came = inputs_go r.known done d [] inputs few tells.1.1.0 in
    let logs = records_go r.known done d1 records few refl refl tells.1.1.1 in
    let d2 = logged d1 logs.records logs.last in
    let a = flat_map input_line inputs in
    let b = flat_map marked_record records in
    let there = reading_at r.known done d2 in
    let made : Act = act.Fall inputs records why in
    record {
      there = there;
      goes = goes_then r (reading_at r.known done d) there text (a ++ b) goes
          (goes_then (reading_at r.known done d) (reading_at r.known done d1) there a b came logs.goes);
      knows = refl;
      has = closed_made r.known done d2 (entry_of_act owner made)
          (entry_made d2 made (complete_by (ops_due logs.last) logs.whole) (ap (λ (rs : List Record). act.Fall inputs rs why) logs.are));
    }

-- an entry of one line
line_reads : (r : Reading) (done : List Entry) (owner : ℕ) (a : Act) (text : List ℕ) → known_act r.known a ≡ r.known
    → Goes r (reading_at r.known done (whole_of owner a)) text → Reads r done (entry_of_act owner a) (text ++ [])
line_reads r done owner a text same goes = record {
  there = reading_at r.known done (whole_of owner a);
  goes = no_lines r (reading_at r.known done (whole_of owner a)) text goes;
  knows = sym same;
  has = whole_made r.known done owner a;
}

act_reads : (r : Reading) (done : List Entry) (owner : ℕ) (a : Act) (text : List ℕ) → ActTells r.known owner a → length done < 2000000
    → Goes r (reading_at r.known done (first_draft owner a)) text → Reads r done (entry_of_act owner a) (text ++ lines_behind a)
unfolding lines_behind
act_reads r done owner (act.Step i records outs events) text tells few goes = step_reads r done owner i records outs events text tells few goes
act_reads r done owner (act.Fall inputs records why) text tells few goes = fall_reads r done owner inputs records why text tells few goes
act_reads r done owner (act.Rise kept inc) text tells few goes = line_reads r done owner (act.Rise kept inc) text refl goes
act_reads r done owner (act.RiseFall kept inc why) text tells few goes = line_reads r done owner (act.RiseFall kept inc why) text refl goes
act_reads r done owner act.Miss text tells few goes = line_reads r done owner act.Miss text refl goes
act_reads r done owner act.Cut text tells few goes = line_reads r done owner act.Cut text refl goes
act_reads r done owner (act.Drop packet) text tells few goes = line_reads r done owner (act.Drop packet) text refl goes
act_reads r done owner (act.Parts parts) text tells few goes = line_reads r done owner (act.Parts parts) text refl goes
act_reads r done owner (act.Line number) text tells few goes = line_reads r done owner (act.Line number) text refl goes

entry_reads : (r : Reading) (done : List Entry) (e : Entry) → closed r ≡ Some done → IsShort e.owner → ActTells r.known e.owner e.act → length done < 2000000
    → Reads r done e (entry_trace e)
unfolding entry_trace
entry_reads r done e is h tells few =
    act_reads r done e.owner e.act ((decimal e.owner ++ codes " " ++ form_text e.act) ++ line_end) tells few (first_goes r done e.owner e.act is h tells few)

-- reading goes on over a history's lines
record ReadsAll (r : Reading) (done history : List Entry) : Type 0 where
  there : Reading
  goes : Goes r there (trace_of history)
  has : closed there ≡ Some (done ++ history)

all_read : (r : Reading) (done history : List Entry) → closed r ≡ Some done → TellsAfter r.known history → length done + length history ≤ 2000000 → ReadsAll r done history
all_read r done [] is tells few = record {
  there = r;
  goes = goes_none r;
  has = is ∙ ap Some (sym (append-nil done));
}
all_read r done (e ∷ history) is tells few =
    let less : length done < 2000000 = omega arith in
    let one = entry_reads r done e is tells.0.0 tells.0.1 less in
    let Tells : Known → Type 0 = λ known. TellsAfter known history in
    let longer : length (done ++ e ∷ []) + length history ≤ 2000000 = omega (arith, length-append done (e ∷ [])) in
    let rest = all_read one.there (done ++ e ∷ []) history one.has (subst Tells (sym one.knows) tells.1) longer in
    record {
      there = rest.there;
      goes = goes_then r one.there rest.there (entry_trace e) (trace_of history) one.goes rest.goes;
      has = rest.has ∙ ap Some (append_assoc done (e ∷ []) history);
    }

-- the closing line
ended_by : (at : ℕ) (r : Reading) (history : List Entry) → closed r ≡ Some history → lines_read at r (pieces feed (codes "end\n")) ≡ Ok history
ended_by at r history is = rw is refl

-- the mark, behind lines that are none
mark_first : (line x : List ℕ) (xs : List (List ℕ)) → bytes_eq line (codes "#trace") ≡ false → behind_mark (line ∷ x ∷ xs) ≡ behind_mark (x ∷ xs)
mark_first line x xs other = rw other refl

mark_on : (line text : List ℕ) → IsBefore line → behind_mark (pieces feed (ended_line line ++ text)) ≡ behind_mark (pieces feed text)
unfolding line_end
mark_on line text is =
    let has = first_piece feed text in
    ap (λ w. behind_mark (pieces feed w)) (joined feed line text)
    ∙ ap behind_mark (pieces_join feed line text is.0)
    ∙ ap (λ q. behind_mark (line ∷ q)) has.2 ∙ mark_first line has.0 has.1 is.1 ∙ ap behind_mark (sym has.2)

mark_here : (text : List ℕ) → behind_mark (pieces feed (codes "#trace\n" ++ text)) ≡ Some (pieces feed text)
mark_here text =
    let has = first_piece feed text in
    ap (λ q. behind_mark (codes "#trace" ∷ q)) has.2 ∙ ap Some (sym has.2)

mark_behind : (before : List (List ℕ)) (text : List ℕ) → Each IsBefore before → behind_mark (pieces feed (flat_map ended_line before ++ codes "#trace\n" ++ text)) ≡ Some (pieces feed text)
mark_behind [] text are = mark_here text
mark_behind (line ∷ before) text are =
    ap (λ w. behind_mark (pieces feed (w ++ text))) (append_assoc (ended_line line) (flat_map ended_line before) (codes "#trace\n"))
    ∙ ap (λ w. behind_mark (pieces feed w)) (append_assoc (ended_line line) (flat_map ended_line before ++ codes "#trace\n") text)
    ∙ mark_on line (flat_map ended_line before ++ codes "#trace\n" ++ text) are.0
    ∙ mark_behind before text are.1

start_closed : closed nothing_read ≡ Some []
unfolding closed
start_closed = refl

behind_reads : (history : List Entry) → IsTellable history → length history ≤ 2000000 → lines_read 1 nothing_read (pieces feed (trace_of history ++ codes "end\n")) ≡ Ok history
behind_reads history tells few =
    let all = all_read nothing_read [] history start_closed tells (omega arith) in
    let on = all.goes 1 (codes "end\n") in
    on.1 ∙ ended_by on.0 all.there history all.has

text_is : (before : List (List ℕ)) (history : List Entry) → text_of before history ≡ flat_map ended_line before ++ codes "#trace\n" ++ (trace_of history ++ codes "end\n")
text_is before history = append_assoc (flat_map ended_line before ++ codes "#trace\n") (trace_of history) (codes "end\n")

pub read_back : TracesReadBack
unfolding history_of
read_back before history are tells short few =
    cond_true (nat_le (length (text_of before history)) 268435456) (read_behind (behind_mark (pieces feed (text_of before history)))) (Err fault.TooLong)
    (le-leb (length (text_of before history)) 268435456 short)
    ∙ ap (λ w. read_behind (behind_mark (pieces feed w))) (text_is before history)
    ∙ ap read_behind (mark_behind before (trace_of history ++ codes "end\n") are)
    ∙ behind_reads history tells few
