use Rattle.e3_wire.proofs.Staying.{are_others_marks, leave_a_site}
use Rattle.e3_wire.proofs.laws.marks_of_others_leave_a_site.Goals as goal

pub returns-clause-others : goal.returns-clause-others
returns-clause-others c = are_others_marks

pub returns-clause-site : goal.returns-clause-site
returns-clause-site c = leave_a_site
