use Rattle.e3_step.proofs.Pieces.{on_do_is}
use Rattle.e3_step.proofs.operation_rules.on_do.Goals as goal

pub returns-in_ok-on_asked-in-Q : goal.returns-in_ok-on_asked-in-Q
returns-in_ok-on_asked-in-Q g c =
    on_do_is (g.P.Past.at c.args.p.now) c.args.f c.args.t.now c.args.n c.args.op.now c.asked_of-q.result c.args.made.now c.on_asked.new.made c.in-Q.ensures c.asked_of-q.ensures
    c.in_ok-on_asked-in-Q.ensures
