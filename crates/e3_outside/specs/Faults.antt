-- Counts of faults.
use Rattle.std.specs.Prelude.{◌≡◌, ℕ, ◌+◌, ◌-◌, ◌^◌, ◌<◌, ◌≤◌, ◌⊎◌, min, Result, OnErr, OnOk}

-- A count of faults has risen: it is greater than before, or it stands at the last value that a count can have.
abbrev pub HasFailed : ℕ → ℕ → Type 0
HasFailed before now = (before < now) ⊎ (now ≡ 2 ^ 64 - 1)

-- A count that goes up by one, and stands still at the last value that it can have.
abbrev pub count_up : ℕ → ℕ
count_up count = min (count + 1) (2 ^ 64 - 1)

-- What a call makes of its stream's count of faults: that goes up by one exactly where the call failed.
pub record Counts {X E : Type 0} (result : Result X E) (old new : ℕ) : Type 0 where
  pub never_falls : old ≤ new
  pub after_ok : OnOk result (new ≡ old)
  pub after_err : OnErr result (new ≡ count_up old)
