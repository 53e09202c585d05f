use Rattle.e3_step.proofs.Pieces.{handled_is}
use Rattle.e3_step.proofs.SoFar.{so_far_heard, so_far_unhandled}
use Rattle.e3_step.proofs.steps.handled.Goals as goal

pub on_message-requires : goal.on_message-requires
on_message-requires g c = so_far_unhandled (g.P.Past.at c.args.p.now) c.args.made.now c.args.m.now c.requires

pub and_grants-requires : goal.and_grants-requires
and_grants-requires g c =
    so_far_heard (g.P.Past.at c.args.p.now) c.site.result c.args.m.now c.args.made.now c.on_message.new.made c.site.ensures c.in_ok-on_message.ensures c.requires

pub returns : goal.returns
returns g c =
    handled_is (g.P.Past.at c.args.p.now) c.site.result c.args.m.now c.args.made.now c.on_message.new.made c.and_grants.new.made c.len-seen.result c.site.ensures
    c.in_ok-on_message.ensures c.len-seen.ensures c.in_ok-and_grants.ensures
