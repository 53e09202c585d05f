use Rattle.std.proofs.Common.{◌∙◌, ap, sym, arith}
use Rattle.std.proofs.lemmas.Result.{IfOk-weaker}
use Rattle.std.specs.List.{list_all}
use Rattle.e3_judge.proofs.audit.Through.{all_rose, step_is_through}
use Rattle.e3_judge.proofs.audit.auditor.Auditor.is_through.Goals as goal

pub returns-then-self-eq0 : goal.returns-then-self-eq0
returns-then-self-eq0 c = λ yes.
    all_rose c.args.prefix.now.scenario.now c.args.prefix.now.entries.now c.args.self.now c.requires c.if-self-eq0.true
    (sym (c.have_risen.ensures ∙ ap (list_all (λ s. s.rising)) c.as_slice.ensures.value) ∙ yes)

pub returns : goal.returns
returns c = IfOk-weaker c.is_made.result _ _ (λ b made yes.
    step_is_through c.args.prefix.now.scenario.now c.args.prefix.now.entries.now c.args.self.now c.requires (λ e. omega (arith, e)) (omega arith) (made yes)) c.is_made.ensures
