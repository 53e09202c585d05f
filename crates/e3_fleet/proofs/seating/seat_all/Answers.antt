use Rattle.std.proofs.Common.{◌∙◌, arith}
use Rattle.e3_fleet.proofs.seating.seat_all.Goals as goal

pub seat_next-requires-clause-blank : goal.seat_next-requires-clause-blank
seat_next-requires-clause-blank g c = c.loop-seated.invariant.blank

pub seat_next-requires-clause-seated : goal.seat_next-requires-clause-seated
seat_next-requires-clause-seated g c = c.loop-seated.invariant.nodes_seated

pub returns-in_err-seat_next-clause-seated : goal.returns-in_err-seat_next-clause-seated
returns-in_err-seat_next-clause-seated g c = c.seat_next.ensures.seated

pub returns-in_err-seat_next-clause-disks : goal.returns-in_err-seat_next-clause-disks
returns-in_err-seat_next-clause-disks g c = c.seat_next.ensures.disks ∙ c.loop-seated.invariant.joined

pub loop-seated-preserved : goal.loop-seated-preserved
loop-seated-preserved g c =
    let more = c.in_ok-seat_next.ensures.more in
    let number = c.loop-seated.invariant.number in
    let room = c.loop-seated.invariant.room in
    let grown = c.seat_next.ensures.workers_room in
    record {
      nodes_seated = c.seat_next.ensures.seated;
      number = omega (arith, more, number);
      joined = c.seat_next.ensures.disks ∙ c.loop-seated.invariant.joined;
      blank = c.seat_next.ensures.blank;
      room = omega (arith, room, grown);
      capacity = c.seat_next.ensures.disks_room ∙ c.loop-seated.invariant.capacity;
    }

pub returns-clause-seated : goal.returns-clause-seated
returns-clause-seated g c = c.loop-seated.invariant.nodes_seated

pub returns-clause-disks : goal.returns-clause-disks
returns-clause-disks g c = c.loop-seated.invariant.joined
