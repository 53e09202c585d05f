use Rattle.std.proofs.Common.{add-one, arith, refl}
use Rattle.e3_judge.proofs.Numbering.{numbered_next}
use Rattle.e3_judge.proofs.sites.numbered.Goals as goal

pub loop-out-preserved : goal.loop-out-preserved
loop-out-preserved c =
    let was = c.loop-out.invariant in
    let more = numbered_next c.args.first c.args.outs.now c.loop-out.out-index c.out-item.result c.loop-out-test.true c.out-item.is in
    record {
      so_far = rw (c.in_ok-push.ensures.ok, add-one, more, c.copy-packet.ensures, was.so_far, was.next) refl;
      next = omega (arith, c.in_ok-number.ensures, was.next);
    }
