use Rattle.std.proofs.Common.{◌≡◌, map, drop, []}
use Rattle.toml.specs.View.{view}
use Rattle.e3_scenario.specs.Steps.{items_read}
use Rattle.e3_scenario.proofs.steps.items.Given as goal

abbrev pub invariant-loop-value : goal.invariant-loop-value
invariant-loop-value l = items_read l.all l.step l.grouped l.so_far l.items (map view (drop l.value-index l.values)) ≡ items_read l.all l.step l.grouped l.initial.so_far [] (map view l.values)
