-- The records of a log at their places among those of all logs.
use Rattle.std.specs.Prelude.{ℕ, List, map}
use Rattle.e3_types.specs.declared.records.Record.{Record}
use Rattle.e3_world.specs.Moves.{Placed}

-- records of a site's log
abbrev pub placed_at : ℕ → List Record → List Placed
placed_at site records = map (λ r. record { site = site; entered = r }) records
