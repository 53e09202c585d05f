-- The operation that a step takes up, where it is new at the site.
use Rattle.std.specs.Prelude.{if◌then◌else◌, ℕ, Bool, Option, Some, None}
use Rattle.e3_world.specs.declared.lives.Asked.{Asked}
use Rattle.e3_world.specs.declared.lives.Life.{Life}
use Rattle.e3_world.specs.Logs.{state_of}
use Rattle.e3_world.specs.Operations.{arrivals, is_answered}
use Rattle.e3_readings.specs.Bringing.{is_new_to}
use Rattle.e3_places.specs.declared.places.Standing.{Standing}
use Rattle.e3_places.specs.Standing.{stand}

-- its transaction is in q, and it did not come before
abbrev pub is_new : ℕ → Life → Asked → Bool
is_new site life a = is_new_to (state_of a.txn life.log) (arrivals site life.steps) a

-- it stands from now on, where it is new
abbrev pub fresh_as : ℕ → Life → Asked → Option Standing
fresh_as site life a = if is_new site life a then Some (stand a (is_answered life.steps a)) else None
