use Rattle.std.proofs.Common.{◌≡◌, map, drop, length, []}
use Rattle.toml.specs.View.{view}
use Rattle.e3_scenario.specs.Documents.{more_weights}
use Rattle.e3_scenario.proofs.documents.more_weights.Given as goal

abbrev pub invariant-loop-value : goal.invariant-loop-value
invariant-loop-value l = record {
  count : length l.weights ≡ l.value-index;
  same : more_weights l.weights (map view (drop l.value-index l.values)) ≡ more_weights [] (map view l.values);
}
