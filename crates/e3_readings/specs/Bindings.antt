-- What is bound before the first entry, and behind a history.
use Rattle.std.specs.Prelude.{[], List, fold}
use Rattle.e3_types.specs.declared.entries.Entry.{Entry}
use Rattle.e3_types.specs.declared.scenarios.Scenario.{Scenario}
use Rattle.e3_world.specs.Items.{binding_by}
use Rattle.e3_world.specs.declared.names.Binding.{Binding}

abbrev pub nothing_bound : Binding
nothing_bound = record { number = 0; begun_at = []; bound = [] }

abbrev pub bound_behind : Scenario → List Entry → Binding
bound_behind sc history = fold (binding_by sc) nothing_bound history
