use Rattle.std.proofs.Common.{◌≡◌, map, drop, []}
use Rattle.toml.specs.View.{view}
use Rattle.e3_scenario.specs.Documents.{more_rows}
use Rattle.e3_scenario.proofs.documents.rows.Given as goal

abbrev pub invariant-loop-value : goal.invariant-loop-value
invariant-loop-value l = more_rows l.all l.rows (map view (drop l.value-index l.values)) ≡ more_rows l.all [] (map view l.values)
