use Rattle.std.proofs.Common.{sym, ◌∙◌}
use Rattle.e3_fleet.proofs.Driven.{driven_drop}
use Rattle.e3_fleet.proofs.driving.enter_drop.Goals as goal

pub drop_for-dropped-requires-clause-order : goal.drop_for-dropped-requires-clause-order
drop_for-dropped-requires-clause-order c = λ calm p first. let both = sym first ∙ c.requires.first in cc

pub returns : goal.returns
returns c =
    driven_drop c.args.shared.now c.drop_for-dropped.new.self c.args.packet.now c.drop_for-dropped.result c.drop_answer.result c.requires.standing c.tell.ensures c.requires.first
    c.drop_for-dropped.ensures.dropped c.drop_for-dropped.ensures.kept c.drop_for-dropped.ensures.full c.drop_answer.ensures
