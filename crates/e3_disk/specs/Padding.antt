-- Bytes that are 00 at first, of which only a front has memory that is touched.
use Rattle.std.specs.Prelude.{ℕ, ◌-◌, ◌++◌, List, length, replicate}

-- these bytes, and 00 behind them up to so many
abbrev pub padded : ℕ → List ℕ → List ℕ
padded count bytes = bytes ++ replicate (count - length bytes) 0

-- Bytes in memory: what they read as, how many at the front are touched, how many they were at first, and for how many there
-- is room.
pub record Cells : Type 0 where
  pub bytes : List ℕ
  pub touched : ℕ
  pub blank : ℕ
  pub room : ℕ
