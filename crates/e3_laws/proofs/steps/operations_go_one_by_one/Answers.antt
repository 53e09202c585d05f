use Rattle.e3_laws.proofs.steps.Suits.Laws.{come_in_turn, numbers_ascend, waits_one}
use Rattle.e3_laws.proofs.steps.operations_go_one_by_one.Goals as goal

pub returns-clause-turns : goal.returns-clause-turns
returns-clause-turns c = come_in_turn

pub returns-clause-ascending : goal.returns-clause-ascending
returns-clause-ascending c = numbers_ascend

pub returns-clause-waiting : goal.returns-clause-waiting
returns-clause-waiting c = waits_one
