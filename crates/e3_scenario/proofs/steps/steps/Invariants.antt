use Rattle.std.proofs.Common.{◌≡◌, ◌+◌, map, drop, []}
use Rattle.toml.specs.View.{view}
use Rattle.e3_scenario.specs.Steps.{steps_read}
use Rattle.e3_scenario.proofs.steps.steps.Given as goal

abbrev pub invariant-loop-value : goal.invariant-loop-value
invariant-loop-value l = record {
  counted : l.number ≡ l.value-index + 1;
  same : steps_read l.all l.number l.so_far l.steps (map view (drop l.value-index l.values)) ≡ steps_read l.all 1 l.initial.so_far [] (map view l.values);
}
