use Rattle.std.proofs.Common.{◌≡◌, map, drop}
use Rattle.toml.specs.View.{view}
use Rattle.e3_scenario.specs.Documents.{sizes_fit}
use Rattle.e3_scenario.proofs.documents.sizes_fit.Given as goal

abbrev pub invariant-loop-value : goal.invariant-loop-value
invariant-loop-value l = sizes_fit l.room (map view (drop l.value-index l.values)) ≡ sizes_fit 10000 (map view l.values)
