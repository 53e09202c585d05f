-- What texts spell: words, names, values, and numbers in digits.
use Rattle.std.specs.Prelude.{ℕ, ◌+◌, ◌-◌, ◌*◌, Bool, ◌&&◌, nat_le, List, [], ◌∷◌, bytes_eq, length, Option, Some, None, if◌then◌else◌}
use Rattle.std.specs.Borrow.{Bor}
use Rattle.std.specs.List.{list_all}
use Rattle.e3_types.specs.Text.{is_letter}

-- what a text stands for that is one of these words
abbrev pub one_of : {A : Type 0} → List ℕ → List (Bor (List ℕ) × A) → Option A
one_of text [] = None
one_of text (word ∷ words) = if bytes_eq text word.0.now then Some word.1 else one_of text words

-- a name: 1 to 32 bytes of a to z, 0 to 9 and _
abbrev pub name_of : List ℕ → Option (List ℕ)
name_of text = if nat_le 1 (length text) && nat_le (length text) 32 && list_all is_letter text then Some text else None

-- a value: 0 to 256 bytes
abbrev pub value_of : List ℕ → Option (List ℕ)
value_of text = if nat_le (length text) 256 then Some text else None

-- 0 to 9
abbrev pub is_digit : ℕ → Bool
is_digit b = nat_le 48 b && nat_le b 57

-- the number that more digits make of a number, as long as it is not above `most`
abbrev pub digits_from : ℕ → ℕ → List ℕ → Option ℕ
digits_from most n [] = Some n
digits_from most n (b ∷ text) =
    if is_digit b && nat_le (n * 10 + (b - 48)) most then digits_from most (n * 10 + (b - 48)) text else None
