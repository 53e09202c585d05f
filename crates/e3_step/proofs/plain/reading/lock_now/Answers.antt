use Rattle.std.proofs.Common.{◌∙◌}
use Rattle.e3_readings.specs.Requests.{lock_for}
use Rattle.e3_step.specs.Asking.{waits_now}
use Rattle.e3_world.specs.Logs.{key_of}
use Rattle.e3_world.specs.Making.{log_now}
use Rattle.e3_world.specs.Operations.{holders, queue}
use Rattle.e3_step.proofs.plain.Pieces.{grant_is}
use Rattle.e3_step.proofs.plain.reading.lock_now.Goals as goal

pub returns : goal.returns
returns c =
    grant_is c.lock_grant.result c.lock_for-wanted.result (lock_for c.args.q.now) c.as_slice.result.now
    (holders c.args.a.now.site (key_of c.args.q.now.op).name (log_now c.args.a.now c.args.made.now) c.args.a.now.life.steps)
    c.as_slice-2.result.now (queue (key_of c.args.q.now.op).name (waits_now c.args.a.now c.args.made.now)) c.lock_grant.ensures c.lock_for-wanted.ensures
    (c.as_slice.ensures ∙ c.in_ok-held.ensures) (c.as_slice-2.ensures ∙ c.in_ok-queued.ensures)
