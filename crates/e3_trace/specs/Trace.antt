-- The history that lines spell, and what is at fault with lines that spell none.
use Rattle.std.specs.Prelude.{◌≡◌, ◌⊎◌, ℕ, ◌+◌, ◌==◌, Bool, true, false, ◌&&◌, ◌||◌, is_some, nat_le, nat_lt, List, [], ◌∷◌, ◌++◌, length, codes, bytes_eq, Option, Some, None, option_map, option_and_then, Result, Ok, Err, if◌then◌else◌}
use Rattle.e3_types.specs.declared.entries.Entry.{Entry}
use Rattle.e3_trace.specs.declared.drafts.Draft.{Draft}
use Rattle.e3_trace.specs.declared.faults.TraceFault.{TraceFault}
use Rattle.e3_trace.specs.declared.faults.TraceFault.TheVariants as fault
use Rattle.e3_trace.specs.Cuts.{cut, Form}
use Rattle.e3_report.specs.lines.Marks.{space, feed, pieces}
use Rattle.e3_trace.specs.Drafts.{entry_from, line_behind}
use Rattle.e3_trace.specs.Entries.{form_of}
use Rattle.e3_trace.specs.Fields.{Known, u32_of}

-- what the lines so far spell: what they tell, the entries that are read, and the one whose lines are being read
pub record Reading : Type 0 where
  pub known : Known
  pub done : List Entry
  pub draft : Option Draft

-- nothing is read yet
abbrev pub nothing_read : Reading
nothing_read = record { known = record { begun = []; sent = [] }; done = []; draft = None }

-- the entries with the one whose lines are being read, where no line of it is due
unfoldable pub closed : Reading → Option (List Entry)
closed r = by r.draft
  where
    by : Option Draft → Option (List Entry)
    by None = Some r.done
    by (Some d) = option_map (λ e. r.done ++ e ∷ []) (entry_from d)

-- the line begins an entry: `OWNER FORM`
unfoldable pub entry_line : Reading → List ℕ → Form Reading
entry_line r word text =
    option_and_then (λ entries. option_and_then (λ owner. option_map
    (λ d. record { known = r.known; done = entries; draft = Some d })
    (form_of r.known owner text)) (u32_of word)) (closed r)

-- the line stands behind the first of an entry, by the word that marks it
unfoldable pub marked_line : Reading → List ℕ → Form Reading
marked_line r word text = by r.draft
  where
    by : Option Draft → Option Reading
    by None = None
    by (Some d) = option_map (λ p. record { known = p.0; done = r.done; draft = Some p.1 }) (line_behind r.known d word text)

-- the word marks a line behind the first of an entry
abbrev pub is_mark : List ℕ → Bool
is_mark word = bytes_eq word (codes "i") || bytes_eq word (codes "r") || bytes_eq word (codes "o") || bytes_eq word (codes "t")

-- a line of this first word
unfoldable pub line_by : Reading → List ℕ → Form Reading
line_by r word text = if is_mark word then marked_line r word text else entry_line r word text

-- what is read with one more line; nothing where the line is at fault
unfoldable pub next_line : Reading → Form Reading
next_line r line = option_and_then (λ p. line_by r p.0 p.1) (cut space line)

-- more than 2,000,000 entries have begun
abbrev pub is_over : Reading → Bool
is_over r = nat_lt 2000000 (length r.done) || (length r.done == 2000000 && is_some r.draft)

-- nothing is left: the text ended with a line's end
abbrev pub is_left : List (List ℕ) → Bool
is_left ([] ∷ []) = false
is_left _ = true

-- the lines end here: no line of an entry may be due, and no text may be left
abbrev pub ended : ℕ → Reading → List (List ℕ) → Result (List Entry) TraceFault
ended at r more = by (closed r)
  where
    by : Option (List Entry) → Result (List Entry) TraceFault
    by None = Err (fault.Line at)
    by (Some entries) = if is_left more then Err (fault.Line (at + 1)) else Ok entries

-- one line on: the line at fault, or what follows, unless too many entries have begun
abbrev pub one_on : ℕ → Option Reading → (Reading → Result (List Entry) TraceFault) → Result (List Entry) TraceFault
one_on at None more = Err (fault.Line at)
one_on at (Some r) more = if is_over r then Err fault.TooLong else more r

-- The history that these lines spell behind what is read, the first of which has this number. What stands behind the
-- last line's end is no line.
abbrev pub lines_read : ℕ → Reading → List (List ℕ) → Result (List Entry) TraceFault
lines_read at r [] = Err (fault.Line at)
lines_read at r (line ∷ []) = Err (fault.Line at)
lines_read at r (line ∷ next ∷ more) =
    if bytes_eq line (codes "end") then ended at r (next ∷ more) else one_on at (next_line r line) (λ s. lines_read (at + 1) s (next ∷ more))

-- the lines behind the first that is `#trace`
abbrev pub behind_mark : List (List ℕ) → Option (List (List ℕ))
behind_mark [] = None
behind_mark (line ∷ []) = None
behind_mark (line ∷ next ∷ more) = if bytes_eq line (codes "#trace") then Some (next ∷ more) else behind_mark (next ∷ more)

-- what stands before the first line that is the mark, up to that line; all where there is no mark
abbrev pub front_of : List (List ℕ) → List ℕ
front_of [] = []
front_of (line ∷ []) = line
front_of (line ∷ next ∷ more) = if bytes_eq line (codes "#trace") then [] else line ++ feed ∷ front_of (next ∷ more)

-- the history of the lines behind the mark, where there is one
abbrev pub read_behind : Option (List (List ℕ)) → Result (List Entry) TraceFault
read_behind None = Err (fault.Line 0)
read_behind (Some lines) = lines_read 1 nothing_read lines

-- the history that at most 268,435,456 bytes spell, or the first fault that they have
unfoldable pub history_of : List ℕ → Result (List Entry) TraceFault
history_of bytes = if nat_le (length bytes) 268435456 then read_behind (behind_mark (pieces feed bytes)) else Err fault.TooLong

-- what a function returned, seen by the view, is the history that is read, or the fault, unless memory ran out
abbrev pub Spells : {X : Type 0} → (X → List Entry) → Result X TraceFault → Result (List Entry) TraceFault → Type 0
Spells view (Ok x) read = read ≡ Ok (view x)
Spells view (Err e) read = (e ≡ fault.NoMemory) ⊎ (read ≡ Err e)

-- What a function left is what is read with one more line, so that reading goes on with it; or it returned the fault that
-- reading ends with; unless memory ran out.
abbrev pub GoesOn : {X : Type 0} → ℕ → Result X TraceFault → Reading → Option Reading → Type 0
GoesOn at (Ok x) left next = (more : Reading → Result (List Entry) TraceFault) → one_on at next more ≡ more left
GoesOn at (Err e) left next = (e ≡ fault.NoMemory) ⊎ ((more : Reading → Result (List Entry) TraceFault) → one_on at next more ≡ Err e)
