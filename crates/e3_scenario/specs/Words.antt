-- The text of an item, cut into words.
use Rattle.std.specs.Prelude.{ℕ, zero, suc, ◌+◌, ◌==◌, Bool, ◌&&◌, nat_le, List, drop, take, position, Option, Some, option_map, option_and_then, unwrap_or}
use Rattle.e3_report.specs.lines.Marks.{space}

-- a byte that an item may have: a printable one, from hexadecimal 20 to 7E
abbrev pub is_printable : ℕ → Bool
is_printable b = nat_le 32 b && nat_le b 126

-- what stands before the first byte of this kind, or all where there is none
abbrev pub before : ℕ → List ℕ → List ℕ
before mark text = unwrap_or (option_map (λ k. take k text) (position (λ b. b == mark) text)) text

-- what stands behind the first byte of this kind, where there is one
abbrev pub after : ℕ → List ℕ → Option (List ℕ)
after mark text = option_map (λ k. drop (k + 1) text) (position (λ b. b == mark) text)

-- what stands behind the first words, each of which ends with one space
abbrev pub rest : ℕ → List ℕ → Option (List ℕ)
rest zero text = Some text
rest (suc n) text = option_and_then (rest n) (after space text)

-- the word at a place, counted from 0: it ends at the next space, or with the text
abbrev pub word : ℕ → List ℕ → Option (List ℕ)
word n text = option_map (before space) (rest n text)
