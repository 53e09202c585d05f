use Rattle.std.proofs.Common.{take}
use Rattle.std.specs.List.{flat_map}
use Rattle.e3_gen.specs.Generated.{item_row}
use Rattle.e3_report.specs.Pages.{Adds}
use Rattle.e3_gen.proofs.making.push_steps.Given as goal

abbrev pub invariant-loop-items : goal.invariant-loop-items
invariant-loop-items l = Adds l.initial.page l.page (flat_map (flat_map item_row) (take l.items-index l.steps))
