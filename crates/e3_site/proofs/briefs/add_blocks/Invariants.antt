use Rattle.std.proofs.Common.{◌≡◌, ◌++◌, take}
use Rattle.std.specs.List.{flat_map}
use Rattle.e3_world.specs.Brief.{noted}
use Rattle.e3_site.proofs.briefs.add_blocks.Given as goal

abbrev pub invariant-loop-t : goal.invariant-loop-t
invariant-loop-t l = l.out ≡ l.initial.out ++ flat_map (noted l.records) (take l.t-index l.txns)
