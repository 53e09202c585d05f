use Rattle.std.proofs.Common.{◌∙◌, ap}
use Rattle.std.specs.Prelude.{filter_map}
use Rattle.e3_readings.specs.Inputs.{input_with}
use Rattle.e3_world.specs.Packets.{step_items}
use Rattle.e3_judge.proofs.audit.Entered.{asks}
use Rattle.e3_judge.proofs.audit.auditor.Auditor.line.Goals as goal

pub begin-begun-requires-clause-asked : goal.begin-begun-requires-clause-asked
begin-begun-requires-clause-asked c =
    asks c.args.prefix.now.scenario.now c.args.prefix.now.entries.now c.args.number _ (c.in_ok-due.ensures c.if-not-due.false).next
    (c.as_slice.ensures ∙ c.in_ok-asked.ensures
    ∙ ap (λ items. filter_map (input_with c.args.binding.now.bound) items) c.step_items-items.ensures
    ∙ ap (λ b. filter_map (input_with b.bound) (step_items c.args.prefix.now.scenario.now c.args.number)) c.requires.bound)
