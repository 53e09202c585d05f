-- What streams over std's readers and writers are, as their callers see them.
use Rattle.std.specs.Prelude.{ℕ}

-- A reader or a writer of std, and how many calls failed over it.
pub record Counted (S : Type 0) : Type 0 where
  pub inner : S
  pub faults : ℕ
