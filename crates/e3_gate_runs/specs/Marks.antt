-- Marks of owners, numbered from 0 for each.
use Rattle.std.specs.Prelude.{◌≡◌, ℕ, zero, suc, ◌+◌, cond, eqb, List, [], ◌∷◌, ◌++◌, length}
use Rattle.e3_gate_runs.specs.declared.turns.journal.Mark.{Mark}

-- the marks of one owner, in order
abbrev pub marks_of : ℕ → List Mark → List Mark
marks_of o [] = []
marks_of o (m ∷ ms) = cond (eqb m.owner o) (m ∷ marks_of o ms) (marks_of o ms)

-- the mark has as its number how many marks of its owner stand before it
abbrev pub IsNext : List Mark → Mark → Type 0
IsNext before m = m.number ≡ length (marks_of m.owner before)

abbrev pub IsNumberedBehind : List Mark → List Mark → Type 0
IsNumberedBehind before [] = Unit {0}
IsNumberedBehind before (m ∷ ms) = IsNext before m × IsNumberedBehind (before ++ m ∷ []) ms

-- each mark is the next of its owner behind those before it
abbrev pub IsNumbered : List Mark → Type 0
IsNumbered ms = IsNumberedBehind [] ms

-- n marks of an owner, numbered from k
abbrev pub numbered : ℕ → ℕ → ℕ → List Mark
numbered o k zero = []
numbered o k (suc n) = record { owner = o; number = k } ∷ numbered o (k + 1) n
