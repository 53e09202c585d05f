-- What a stop leaves of the range that is not yet durable.
use Rattle.std.specs.Prelude.{ℕ, ◌+◌, ◌-◌, ◌/◌, List, [], length, take, drop, replicate}
use Rattle.e3_types.specs.declared.scenarios.Leave.{Leave}
use Rattle.e3_types.specs.declared.scenarios.Leave.TheVariants.{None, Half, All, Junk}
use Rattle.e3_disk.specs.Images.{overwritten}

-- What a leave keeps of a range as it was written: nothing, its first half, all of it, or one byte throughout.
abbrev pub kept_by : Leave → List ℕ → List ℕ
kept_by None written = []
kept_by Half written = take (length written / 2) written
kept_by All written = written
kept_by (Junk b) written = replicate (length written) b

-- The number of a leave, by which a drill counts what it was armed with.
abbrev pub code_of : Leave → ℕ
code_of None = 0
code_of Half = 1
code_of All = 2
code_of (Junk b) = 3 + b

-- What stands after a stop: the durable bytes, and over them what the leave keeps of the pending range.
abbrev pub left_by : Leave → ℕ → ℕ → List ℕ → List ℕ → List ℕ
left_by leave from to content durable = overwritten durable from (kept_by leave (take (to - from) (drop from content)))
