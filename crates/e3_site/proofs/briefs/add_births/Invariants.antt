use Rattle.std.proofs.Common.{◌≡◌, ◌++◌, take}
use Rattle.e3_world.specs.Brief.{born_in}
use Rattle.e3_site.proofs.briefs.add_births.Given as goal

abbrev pub invariant-loop-r : goal.invariant-loop-r
invariant-loop-r l = l.out ≡ l.initial.out ++ born_in l.rows (take l.r-index l.records)
