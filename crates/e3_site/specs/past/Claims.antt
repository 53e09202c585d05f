-- What the records of a step have to do with the log before it.
use Rattle.std.specs.Prelude.{◌≡◌, true}
use Rattle.e3_places.specs.Standing.{follow}
use Rattle.e3_world.specs.declared.lives.At.{At}
use Rattle.e3_world.specs.Steps.{step_at}

-- The records of the step that is made at a place may follow the log there. The place is any at all: its log need not be
-- orderly, nor its steps and its input those of a legal history.
abbrev pub StepsMayFollow : Type 0
StepsMayFollow = (a : At) → follow a.life.log (step_at a).records ≡ true
