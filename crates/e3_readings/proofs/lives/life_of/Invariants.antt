use Rattle.std.proofs.Common.{◌≡◌, take, fold, []}
use Rattle.e3_world.specs.Lives.{life_by}
use Rattle.e3_world.specs.Logs.{logged_inc}
use Rattle.e3_readings.proofs.lives.life_of.Given as goal

abbrev pub invariant-loop-s : goal.invariant-loop-s
invariant-loop-s l = l.life ≡ fold life_by (record { log = l.rose; inc = logged_inc l.rose; steps = [] }) (take l.s-index l.since)
