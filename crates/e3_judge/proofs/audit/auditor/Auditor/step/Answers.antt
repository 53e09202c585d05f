use Rattle.std.proofs.Common.{refl}
use Rattle.e3_judge.proofs.audit.Entered.{stepped}
use Rattle.e3_judge.proofs.audit.auditor.Auditor.step.Goals as goal

pub returns : goal.returns
returns c = λ yes.
    stepped c.args.prefix.now.scenario.now c.args.prefix.now.entries.now c.args.step.now.site c.args.step.now.input.now c.args.step.now.records.now c.args.step.now.outs.now c.args.step.now.told.now c.step_at.new.seat
    c.args.self.now _ c.requires.stands c.requires.some
    (c.in_ok-due.ensures.due c.if-not-due.false) (c.in_ok-due.ensures.next c.if-not-due.false)
    (c.in_ok-step_at.ensures.up c.if-not-branch.false) (c.in_ok-step_at.ensures.made c.if-not-branch.false) (c.in_ok-step_at.ensures.stands c.if-not-branch.false)
    refl c.in_ok-pass.ensures refl
