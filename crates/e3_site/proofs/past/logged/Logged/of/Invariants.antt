use Rattle.std.proofs.Common.{take}
use Rattle.e3_world.specs.Logs.{logged_inc}
use Rattle.e3_site.specs.past.Standing.{LoggedStand}
use Rattle.e3_site.proofs.past.logged.Logged.of.Given as goal

abbrev pub invariant-loop-r : goal.invariant-loop-r
invariant-loop-r l = LoggedStand l.site l.read (logged_inc l.log) (take l.r-index l.log)
