use Rattle.std.proofs.Common.{◌≡◌, take, fold}
use Rattle.e3_world.specs.Making.{own_write}
use Rattle.e3_readings.proofs.own_writes.last_own.Given as goal

abbrev pub invariant-loop-p : goal.invariant-loop-p
invariant-loop-p l = l.answer ≡ fold (own_write l.name) l.fn.row (take l.p-index l.performed)
