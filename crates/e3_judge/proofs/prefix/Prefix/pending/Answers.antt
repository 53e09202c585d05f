use Rattle.std.proofs.Common.{add-one, refl}
use Rattle.e3_judge.proofs.CopiesLeft.{left_next}
use Rattle.e3_judge.proofs.prefix.Prefix.pending.Goals as goal

pub loop-i-preserved : goal.loop-i-preserved
loop-i-preserved c =
    let next = left_next c.args.self.now.scenario.now c.args.self.now.entries.now c.args.self.now.entries.now c.loop-i.i c.index-self-i.result c.loop-i-test.true c.index-self-i.is in
    rw (c.in_ok-add_left.ensures, c.loop-i.invariant, add-one, next, ← c.index-self-i.is) refl
