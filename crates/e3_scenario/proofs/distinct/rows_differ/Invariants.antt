use Rattle.std.proofs.Common.{◌≡◌, ◌&&◌, drop}
use Rattle.std.specs.List.{list_all}
use Rattle.e3_world.specs.Given.{rows_differ}
use Rattle.e3_scenario.specs.Indexes.{is_new}
use Rattle.e3_scenario.proofs.distinct.rows_differ.Given as goal

abbrev pub invariant-loop-row : goal.invariant-loop-row
invariant-loop-row l = (list_all (is_new l.seen.keys) (drop l.row-index l.rows) && rows_differ (drop l.row-index l.rows)) ≡ rows_differ l.rows
