-- A step as far as it is made.
use Rattle.std.specs.Prelude.{◌≡◌, ◌++◌, List}
use Rattle.e3_types.specs.declared.records.Record.{Record}
use Rattle.e3_world.specs.declared.lives.At.{At}
use Rattle.e3_world.specs.declared.lives.Made.{Made}
use Rattle.e3_world.specs.Steps.{step_at}

-- the second records begin with the first
pub record IsFrontOf (front whole : List Record) : Type 0 where
  pub rest : List Record
  pub all : whole ≡ front ++ rest

-- it is the step that is made at this place, as far as it is made: that step's records begin with its own
unfoldable pub IsSoFar : At → Made → Type 0
IsSoFar a made = IsFrontOf made.records (step_at a).records
