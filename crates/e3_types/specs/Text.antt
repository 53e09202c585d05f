-- Names and values: bytes of a bounded length.
use Rattle.std.specs.Prelude.{ℕ, ◌≤◌, Bool, ◌&&◌, ◌||◌, ◌==◌, nat_le, List, length}
use Rattle.std.specs.List.{AllPass}

-- the byte is one of a to z, 0 to 9 and _
abbrev pub is_letter : ℕ → Bool
is_letter c = (nat_le 97 c && nat_le c 122) || (nat_le 48 c && nat_le c 57) || c == 95

-- the bytes are a name: 1 to 32 of them, each a letter, a digit or _
pub record IsName (bytes : List ℕ) : Type 0 where
  pub some : 1 ≤ length bytes
  pub few : length bytes ≤ 32
  pub letters : AllPass is_letter bytes

-- the bytes are a value: at most 256 of them
abbrev pub IsValue : List ℕ → Type 0
IsValue bytes = length bytes ≤ 256
