use Rattle.e3_fleet.proofs.crew.Taking.{through_worked}
use Rattle.e3_fleet.proofs.crew.Turning.{worked_none, worked_on}
use Rattle.e3_turn.specs.Passes.{seen_by}
use Rattle.e3_fleet.proofs.crew.working.give_packets.Goals as goal

pub loop-init : goal.loop-init
loop-init g c = record {
  pass = c.requires.pass;
  worked = worked_none g.D.Disk.meaning (seen_by c.args.pass.now) c.args.node.now c.requires.knows;
}

pub take_few-requires-clause-through : goal.take_few-requires-clause-through
take_few-requires-clause-through g c =
    through_worked g.D.Disk.meaning (seen_by c.args.pass.now) (seen_by c.loop.pass) c.args.node.now c.loop.node c.requires.knows.played.given
    c.loop.invariant.worked c.requires.through

pub loop-preserved : goal.loop-preserved
loop-preserved g c = record {
  pass = c.take_few.ensures.pass;
  worked = worked_on g.D.Disk.meaning (seen_by c.args.pass.now) (seen_by c.loop.pass) (seen_by c.take_few.new.pass)
      c.args.node.now c.loop.node c.take_few.new.node c.loop.invariant.worked c.take_few.ensures.worked;
}

pub returns-then-not-branch-clause-worked : goal.returns-then-not-branch-clause-worked
returns-then-not-branch-clause-worked g c =
    worked_on g.D.Disk.meaning (seen_by c.args.pass.now) (seen_by c.loop.pass) (seen_by c.take_few.new.pass)
    c.args.node.now c.loop.node c.take_few.new.node c.loop.invariant.worked c.take_few.ensures.worked

pub returns-in_err-take_few-clause-worked : goal.returns-in_err-take_few-clause-worked
returns-in_err-take_few-clause-worked g c =
    worked_on g.D.Disk.meaning (seen_by c.args.pass.now) (seen_by c.loop.pass) (seen_by c.take_few.new.pass)
    c.args.node.now c.loop.node c.take_few.new.node c.loop.invariant.worked c.take_few.ensures.worked
