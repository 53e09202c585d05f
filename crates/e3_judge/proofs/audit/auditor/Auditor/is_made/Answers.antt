use Rattle.std.proofs.Common.{◌∙◌, ap, sym}
use Rattle.std.specs.List.{list_all}
use Rattle.e3_world.specs.Given.{is_groupable}
use Rattle.e3_judge.specs.audit.Seats.{is_done}
use Rattle.e3_judge.proofs.audit.Through.{group_made}
use Rattle.e3_judge.proofs.audit.auditor.Auditor.is_made.Goals as goal

pub returns-then-are_groupable : goal.returns-then-are_groupable
returns-then-are_groupable c = λ yes.
    group_made c.args.prefix.now.scenario.now c.args.prefix.now.entries.now c.args.self.now c.requires.stands
    (sym (c.are_groupable.ensures ∙ ap (list_all is_groupable) c.step_items-items.ensures) ∙ c.if-are_groupable.true)
    (sym (c.are_done.ensures ∙ ap (list_all is_done) c.as_slice.ensures.value) ∙ yes)
