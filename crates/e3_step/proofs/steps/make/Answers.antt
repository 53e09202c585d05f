use Rattle.e3_step.proofs.SoFar.{left_first, left_next, so_far_once, so_far_taken}
use Rattle.e3_step.proofs.steps.make.Goals as goal

pub and_grants-requires : goal.and_grants-requires
and_grants-requires g c = so_far_taken (g.P.Past.at c.args.p.now) c.args.input.now c.take.new.made c.requires.input c.in_ok-take.ensures

pub settle_once-requires : goal.settle_once-requires
settle_once-requires g c =
    so_far_once 2 (g.P.Past.at c.args.p.now) c.and_grants.new.made
    (left_first (g.P.Past.at c.args.p.now) c.args.input.now c.take.new.made c.and_grants.new.made c.requires.input c.in_ok-take.ensures c.in_ok-and_grants.ensures)

pub settle_once-requires-2 : goal.settle_once-requires-2
settle_once-requires-2 g c =
    so_far_once 1 (g.P.Past.at c.args.p.now) c.settle_once.new.made
    (left_next 2 (g.P.Past.at c.args.p.now) c.and_grants.new.made c.settle_once.new.made
    (left_first (g.P.Past.at c.args.p.now) c.args.input.now c.take.new.made c.and_grants.new.made c.requires.input c.in_ok-take.ensures c.in_ok-and_grants.ensures)
    c.in_ok-settle_once.ensures)

pub settle_once-requires-3 : goal.settle_once-requires-3
settle_once-requires-3 g c =
    so_far_once 0 (g.P.Past.at c.args.p.now) c.settle_once-2.new.made
    (left_next 1 (g.P.Past.at c.args.p.now) c.settle_once.new.made c.settle_once-2.new.made
    (left_next 2 (g.P.Past.at c.args.p.now) c.and_grants.new.made c.settle_once.new.made
    (left_first (g.P.Past.at c.args.p.now) c.args.input.now c.take.new.made c.and_grants.new.made c.requires.input c.in_ok-take.ensures c.in_ok-and_grants.ensures)
    c.in_ok-settle_once.ensures) c.in_ok-settle_once-2.ensures)
