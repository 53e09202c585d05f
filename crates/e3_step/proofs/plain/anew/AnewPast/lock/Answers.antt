use Rattle.std.proofs.Common.{subst, ◌≡◌}
use Rattle.std.specs.Result.{IfOk}
use Rattle.e3_step.specs.Asking.{lock_now}
use Rattle.e3_world.specs.declared.lives.At.{At}
use Rattle.e3_step.proofs.plain.anew.AnewPast.lock.Goals as goal

pub returns : goal.returns
returns c =
    subst (λ (a : At). IfOk c.lock_now.result (λ g. g ≡ lock_now a c.args.q.now c.args.made.now)) c.self.view_is c.lock_now.ensures
