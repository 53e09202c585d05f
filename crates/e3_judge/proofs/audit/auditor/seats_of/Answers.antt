use Rattle.std.proofs.Common.{◌≡◌, ◌+◌, ◌++◌, ◌∷◌, [], List, length, length-append, subst, sym, arith}
use Rattle.e3_judge.specs.declared.audit.seat.Seat.{Seat}
use Rattle.e3_judge.specs.audit.Seats.{SeatsStand}
use Rattle.e3_judge.proofs.audit.Seats.{seats_more}
use Rattle.e3_judge.proofs.audit.auditor.seats_of.Goals as goal

pub loop-made-preserved : goal.loop-made-preserved
loop-made-preserved c =
    let long : length (c.loop-made.seats ++ c.new.result ∷ []) ≡ length c.loop-made.seats + 1 = length-append c.loop-made.seats (c.new.result ∷ []) in
    rw c.in_ok-push.ensures.ok (record {
      count = omega (arith, long, c.loop-made.invariant.count);
      stand = λ sc. seats_more sc c.loop-made.seats c.new.result c.new.ensures (c.loop-made.invariant.stand sc);
    })

pub returns-clause-stand : goal.returns-clause-stand
returns-clause-stand c = λ sc. subst (λ (l : List Seat). SeatsStand sc [] l) (sym c.into_vec.ensures) (c.loop-made.invariant.stand sc)
