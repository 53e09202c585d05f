use Rattle.std.proofs.Common.{take}
use Rattle.std.specs.List.{flat_map}
use Rattle.e3_gen.specs.Generated.{item_row}
use Rattle.e3_report.specs.Pages.{Adds}
use Rattle.e3_gen.proofs.making.push_step.Given as goal

abbrev pub invariant-loop-item : goal.invariant-loop-item
invariant-loop-item l = Adds l.initial.page l.page (flat_map item_row (take l.item-index l.items))
