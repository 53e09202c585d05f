use Rattle.std.proofs.Common.{arith}
use Rattle.e3_fleet.proofs.crew.Taking.{through_worked}
use Rattle.e3_fleet.proofs.crew.Turning.{worked_none, worked_on}
use Rattle.e3_turn.specs.Passes.{seen_by}
use Rattle.e3_fleet.proofs.crew.working.take_few.Goals as goal

pub give_few-requires-clause-through : goal.give_few-requires-clause-through
give_few-requires-clause-through g c =
    through_worked g.D.Disk.meaning (seen_by c.args.pass.now) (seen_by c.next_packets.new.pass) c.args.node.now c.args.node.now
    c.requires.knows.played.given c.in_ok-few.ensures.promised c.requires.through

pub returns-clause-worked : goal.returns-clause-worked
returns-clause-worked g c =
    worked_on g.D.Disk.meaning (seen_by c.args.pass.now) (seen_by c.next_packets.new.pass) (seen_by c.give_few.new.pass)
    c.args.node.now c.args.node.now c.give_few.new.node c.in_ok-few.ensures.promised c.give_few.ensures.worked

pub returns-in_err-give_few-clause-worked : goal.returns-in_err-give_few-clause-worked
returns-in_err-give_few-clause-worked g c =
    worked_on g.D.Disk.meaning (seen_by c.args.pass.now) (seen_by c.next_packets.new.pass) (seen_by c.give_few.new.pass)
    c.args.node.now c.args.node.now c.give_few.new.node c.in_ok-few.ensures.promised c.give_few.ensures.worked

pub returns-in_err-memory-clause-worked : goal.returns-in_err-memory-clause-worked
returns-in_err-memory-clause-worked g c =
    worked_none g.D.Disk.meaning (seen_by c.args.pass.now) c.args.node.now c.requires.knows

pub next_packets-requires-clause-pass : goal.next_packets-requires-clause-pass
next_packets-requires-clause-pass g c = c.requires.pass

pub next_packets-requires-clause-knows : goal.next_packets-requires-clause-knows
next_packets-requires-clause-knows g c = c.requires.knows

pub give_few-requires-clause-pass : goal.give_few-requires-clause-pass
give_few-requires-clause-pass g c = c.next_packets.ensures.pass

pub give_few-requires-clause-knows : goal.give_few-requires-clause-knows
give_few-requires-clause-knows g c = c.in_ok-few.ensures.promised.knows

pub returns-in_err-few-clause-worked : goal.returns-in_err-few-clause-worked
returns-in_err-few-clause-worked g c = c.in_err-few.ensures.kept

pub returns-in_err-few-clause-pass : goal.returns-in_err-few-clause-pass
returns-in_err-few-clause-pass g c = c.next_packets.ensures.pass

pub returns-in_err-give_few-clause-pass : goal.returns-in_err-give_few-clause-pass
returns-in_err-give_few-clause-pass g c = c.give_few.ensures.pass

pub returns-clause-pass : goal.returns-clause-pass
returns-clause-pass g c = c.give_few.ensures.pass

pub give_few-requires-clause-empty : goal.give_few-requires-clause-empty
give_few-requires-clause-empty g c = c.in_ok-memory.ensures.empty

pub give_few-requires-clause-enough : goal.give_few-requires-clause-enough
give_few-requires-clause-enough g c =
    let few = c.in_ok-few.ensures.few in
    let enough = c.in_ok-memory.ensures.enough in
    omega (arith, few, enough)
