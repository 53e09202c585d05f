-- The lines of a text, read one by one.
use Rattle.std.proofs.lemmas.Bool.Decides.{nat_tests}
use Rattle.std.proofs.Common.{◌≡◌, ◌⊎◌, ◌==◌, ◌+◌, arith, sym, suc, ℕ, Bool, true, false, not, List, [], ◌∷◌, length, Option, Some, None, Result, Ok, Err, refl, ap, inl, inr, ◌∙◌, if◌then◌else◌}
use Rattle.std.specs.Prelude.{bytes_eq, codes}
use Rattle.e3_types.specs.declared.entries.Entry.{Entry}
use Rattle.e3_trace.specs.declared.faults.TraceFault.{TraceFault}
use Rattle.e3_trace.specs.declared.faults.TraceFault.TheVariants as fault
use Rattle.e3_trace.specs.Cuts.{cut}
use Rattle.e3_report.specs.lines.Marks.{feed, in_front, pieces}
use Rattle.e3_trace.specs.Trace.{Reading, next_line, one_on, closed, ended, is_left, lines_read, behind_mark}
use Rattle.e3_trace.proofs.Places.{pieces_by, pieces_cut, pieces_none, pieces_some}

-- the mark, with pieces behind it
mark_by : (line text : List ℕ) (o : Option (List ℕ × List ℕ))
    → behind_mark (line ∷ pieces_by feed text o) ≡ (if bytes_eq line (codes "#trace") then Some (pieces_by feed text o) else behind_mark (pieces_by feed text o))
mark_by line text None = refl
mark_by line text (Some p) = refl

mark_pieces : (line text : List ℕ)
    → behind_mark (line ∷ pieces feed text) ≡ (if bytes_eq line (codes "#trace") then Some (pieces feed text) else behind_mark (pieces feed text))
mark_pieces line text = rw (pieces_cut feed text) (mark_by line text (cut feed text))

pub mark_none : (text : List ℕ) → cut feed text ≡ None → behind_mark (pieces feed text) ≡ None
mark_none text none = ap behind_mark (pieces_none feed text none)

pub mark_here : (text line left : List ℕ) → cut feed text ≡ Some (line, left) → bytes_eq line (codes "#trace") ≡ true
    → behind_mark (pieces feed text) ≡ Some (pieces feed left)
mark_here text line left some is =
    ap behind_mark (pieces_some feed text line left some) ∙ mark_pieces line left
    ∙ ap (λ b. if b then Some (pieces feed left) else behind_mark (pieces feed left)) is

pub mark_later : (text line left : List ℕ) → cut feed text ≡ Some (line, left) → bytes_eq line (codes "#trace") ≡ false
    → behind_mark (pieces feed text) ≡ behind_mark (pieces feed left)
mark_later text line left some isnt =
    ap behind_mark (pieces_some feed text line left some) ∙ mark_pieces line left
    ∙ ap (λ b. if b then Some (pieces feed left) else behind_mark (pieces feed left)) isnt

-- a line, with pieces behind it
read_by : (at : ℕ) (r : Reading) (line text : List ℕ) (o : Option (List ℕ × List ℕ))
    → lines_read at r (line ∷ pieces_by feed text o)
    ≡ (if bytes_eq line (codes "end") then ended at r (pieces_by feed text o) else one_on at (next_line r line) (λ s. lines_read (at + 1) s (pieces_by feed text o)))
read_by at r line text None = refl
read_by at r line text (Some p) = refl

read_pieces : (at : ℕ) (r : Reading) (line text : List ℕ)
    → lines_read at r (line ∷ pieces feed text)
    ≡ (if bytes_eq line (codes "end") then ended at r (pieces feed text) else one_on at (next_line r line) (λ s. lines_read (at + 1) s (pieces feed text)))
read_pieces at r line text = rw (pieces_cut feed text) (read_by at r line text (cut feed text))

pub read_none : (at : ℕ) (r : Reading) (text : List ℕ) → cut feed text ≡ None → lines_read at r (pieces feed text) ≡ Err (fault.Line at)
read_none at r text none = ap (lines_read at r) (pieces_none feed text none)

pub read_end : (at : ℕ) (r : Reading) (text line left : List ℕ) → cut feed text ≡ Some (line, left) → bytes_eq line (codes "end") ≡ true
    → lines_read at r (pieces feed text) ≡ ended at r (pieces feed left)
read_end at r text line left some is =
    ap (lines_read at r) (pieces_some feed text line left some) ∙ read_pieces at r line left
    ∙ ap (λ b. if b then ended at r (pieces feed left) else one_on at (next_line r line) (λ s. lines_read (at + 1) s (pieces feed left))) is

pub read_on : (at : ℕ) (r : Reading) (text line left : List ℕ) → cut feed text ≡ Some (line, left) → bytes_eq line (codes "end") ≡ false
    → lines_read at r (pieces feed text) ≡ one_on at (next_line r line) (λ s. lines_read (at + 1) s (pieces feed left))
read_on at r text line left some isnt =
    ap (lines_read at r) (pieces_some feed text line left some) ∙ read_pieces at r line left
    ∙ ap (λ b. if b then ended at r (pieces feed left) else one_on at (next_line r line) (λ s. lines_read (at + 1) s (pieces feed left))) isnt

-- something is left where there are bytes
left_by : (b : ℕ) (text : List ℕ) (c : Bool) (o : Option (List ℕ × List ℕ))
    → is_left (if c then [] ∷ pieces_by feed text o else in_front b (pieces_by feed text o)) ≡ true
left_by b text true None = refl
left_by b text true (Some p) = refl
left_by b text false None = refl
left_by b text false (Some p) = refl

not_none : (n : ℕ) → not (suc n == 0) ≡ true
not_none n = grind (arith, nat_tests)

pub left_some : (text : List ℕ) → is_left (pieces feed text) ≡ not (length text == 0)
left_some [] = refl
left_some (b ∷ text) =
    let some : is_left (pieces feed (b ∷ text)) ≡ true = rw (pieces_cut feed text) (left_by b text (b == feed) (cut feed text)) in
    some ∙ sym (not_none (length text))

-- the end, where no line is due
ended_by : (at : ℕ) (r : Reading) (more : List (List ℕ)) (entries : List Entry) → closed r ≡ Some entries
    → ended at r more ≡ (if is_left more then Err (fault.Line (at + 1)) else Ok entries)
ended_by at r more entries is = rw is refl

pub ended_whole : (at : ℕ) (r : Reading) (text : List ℕ) (entries : List Entry) → closed r ≡ Some entries → (length text == 0) ≡ true
    → ended at r (pieces feed text) ≡ Ok entries
ended_whole at r text entries is none =
    ended_by at r (pieces feed text) entries is
    ∙ ap (λ b. if b then Err (fault.Line (at + 1)) else Ok entries) (left_some text ∙ ap not none)

pub ended_more : (at : ℕ) (r : Reading) (text : List ℕ) (entries : List Entry) → closed r ≡ Some entries → (length text == 0) ≡ false
    → ended at r (pieces feed text) ≡ Err (fault.Line (at + 1))
ended_more at r text entries is some =
    ended_by at r (pieces feed text) entries is
    ∙ ap (λ b. if b then Err (fault.Line (at + 1)) else Ok entries) (left_some text ∙ ap not some)

-- one line on, with what is read at the beginning
pub line_on : (at : ℕ) (r s : Reading) (text line left : List ℕ) (whole : Result (List Entry) TraceFault) → cut feed text ≡ Some (line, left)
    → bytes_eq line (codes "end") ≡ false → ((more : Reading → Result (List Entry) TraceFault) → one_on at (next_line r line) more ≡ more s)
    → lines_read at r (pieces feed text) ≡ whole → lines_read (at + 1) s (pieces feed left) ≡ whole
line_on at r s text line left whole some other goes is =
    sym (read_on at r text line left some other ∙ goes (λ t. lines_read (at + 1) t (pieces feed left))) ∙ is

pub line_stops : (at : ℕ) (r : Reading) (text line left : List ℕ) (f : TraceFault) (whole : Result (List Entry) TraceFault) → cut feed text ≡ Some (line, left)
    → bytes_eq line (codes "end") ≡ false → (f ≡ fault.NoMemory) ⊎ ((more : Reading → Result (List Entry) TraceFault) → one_on at (next_line r line) more ≡ Err f)
    → lines_read at r (pieces feed text) ≡ whole → (f ≡ fault.NoMemory) ⊎ (whole ≡ Err f)
line_stops at r text line left f whole some other stops is =
    elim stops [
      | inl memory ↦ inl memory
      | inr stop ↦ inr (sym is ∙ read_on at r text line left some other ∙ stop (λ t. lines_read (at + 1) t (pieces feed left)))
    ]
