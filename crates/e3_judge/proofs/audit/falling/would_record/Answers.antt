use Rattle.std.proofs.Common.{◌∙◌, ap, sym}
use Rattle.e3_judge.specs.Equal.{same_list, same_record}
use Rattle.e3_judge.proofs.audit.Entered.{records_made}
use Rattle.e3_judge.proofs.audit.falling.would_record.Goals as goal

pub returns-in_ok-plan-in-Up-clause-made : goal.returns-in_ok-plan-in-Up-clause-made
returns-in_ok-plan-in-Up-clause-made c = λ yes.
    records_made c.args.prefix.now.scenario.now c.args.prefix.now.entries.now c.args.site c.args.input.now c.in_ok-plan-in-Up.plan.step c.args.records.now
    c.in_ok-plan-in-Up.ensures.made (sym (c.same_list-would.ensures ∙ ap (same_list same_record c.args.records.now) c.records.ensures) ∙ yes)
