-- A text, cut at the bytes of one kind; and what reads a whole text.
use Rattle.std.specs.Prelude.{ℕ, ◌==◌, ◌≡◌, Bool, List, [], ◌∷◌, bytes_eq, Option, Some, None, option_map, option_and_then, is_some, if◌then◌else◌, Result, Ok, Err}
use Rattle.e3_report.specs.lines.Marks.{space}
use Rattle.e3_trace.specs.declared.faults.Fault.{Fault}
use Rattle.e3_trace.specs.declared.faults.Fault.TheVariants.{Bad, NoMemory}

-- a text in two at the first byte of this kind: what stands before it, and what stands behind it; none without one
abbrev pub cut : ℕ → List ℕ → Option (List ℕ × List ℕ)
cut mark [] = None
cut mark (b ∷ text) = if b == mark then Some ([], text) else option_map (λ p. (b ∷ p.0, p.1)) (cut mark text)

-- what reads a whole text: the value that it spells, where it spells one
abbrev pub Form : Type 0 → Type 0
Form A = List ℕ → Option A

-- a value made of the one that is read
abbrev pub made_of : {A B : Type 0} → (A → B) → Form A → Form B
made_of make a text = option_map make (a text)

-- two values, with the first byte of this kind between them
abbrev pub pair_of : {A B : Type 0} → ℕ → Form A → Form B → Form (A × B)
pair_of mark a b text = option_and_then (λ p. option_and_then (λ x. option_map (λ y. (x, y)) (b p.1)) (a p.0)) (cut mark text)

-- what stands behind this word and a space, where the text begins with them
abbrev pub rest_behind : List ℕ → List ℕ → Option (List ℕ)
rest_behind word text = option_and_then (λ p. if bytes_eq p.0 word then Some p.1 else None) (cut space text)

-- a value behind this word and a space
abbrev pub behind : {A : Type 0} → List ℕ → Form A → Form A
behind word a text = option_and_then a (rest_behind word text)

-- the text begins with this word and a space
abbrev pub begins : List ℕ → List ℕ → Bool
begins word text = is_some (rest_behind word text)

-- what a fault says of what was to be read: nothing where memory ran out
abbrev pub Fails : {A : Type 0} → Fault → Option A → Type 0
Fails NoMemory read = Unit {0}
Fails Bad read = read ≡ None

-- what a function returned, seen by the view, is what is read, unless memory ran out
abbrev pub Shows : {X A : Type 0} → (X → A) → Result X Fault → Option A → Type 0
Shows view (Ok x) read = read ≡ Some (view x)
Shows view (Err e) read = Fails e read

-- what a function returned is what is read, unless memory ran out
abbrev pub Gives : {A : Type 0} → Result A Fault → Option A → Type 0
Gives (Ok x) read = read ≡ Some x
Gives (Err e) read = Fails e read

-- what a function left is what is read, unless memory ran out
abbrev pub Leaves : {X A : Type 0} → Result X Fault → A → Option A → Type 0
Leaves (Ok x) left read = read ≡ Some left
Leaves (Err e) left read = Fails e read
