use Rattle.std.proofs.Common.{◌≡◌, drop, slice_get}
use Rattle.e3_world.specs.Items.{begin_names}
use Rattle.e3_report.proofs.names.begin_name.Given as goal

abbrev pub invariant-loop-item : goal.invariant-loop-item
invariant-loop-item l =
    slice_get (begin_names l.site (drop l.item-index l.items)) l.left ≡ slice_get (begin_names l.site l.items) l.before
