-- What streams in memory are, as their callers see them.
use Rattle.std.specs.Prelude.{ℕ, List, ◌++◌, take, drop}
use Rattle.e3_outside.specs.Faults.{count_up}

-- A source in memory: the bytes that are left, the greatest number of bytes that a call takes, the numbers of the calls
-- that fail, how many calls were made, and how many of them failed.
pub record SourceState : Type 0 where
  pub left : List ℕ
  pub most : ℕ
  pub fails : List ℕ
  pub calls : ℕ
  pub faults : ℕ

-- A sink in memory: the bytes that were written, how many bytes it has room for in all, the greatest number of bytes
-- that a call takes, the numbers of the calls that fail, how many calls were made, and how many of them failed.
pub record SinkState : Type 0 where
  pub written : List ℕ
  pub room : ℕ
  pub most : ℕ
  pub fails : List ℕ
  pub calls : ℕ
  pub faults : ℕ

-- A source after a call that failed: one call more and one fault more, and nothing else has changed.
abbrev pub failed_read : SourceState → SourceState
failed_read s = record s { calls = count_up s.calls; faults = count_up s.faults }

-- A source after a call that took the first so many bytes: one call more, and nothing else has changed.
abbrev pub read_of : ℕ → SourceState → SourceState
read_of count s = record s { left = drop count s.left; calls = count_up s.calls }

-- A sink after a call that failed: one call more and one fault more, and nothing else has changed.
abbrev pub failed_write : SinkState → SinkState
failed_write k = record k { calls = count_up k.calls; faults = count_up k.faults }

-- A sink after a call that appended the first so many bytes of a piece: one call more, and nothing else has changed.
abbrev pub write_of : ℕ → List ℕ → SinkState → SinkState
write_of count piece k = record k { written = k.written ++ take count piece; calls = count_up k.calls }
