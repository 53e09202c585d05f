use Rattle.std.proofs.Common.{◌≡◌, ◌-◌, take, drop, length, arith}
use Rattle.std.proofs.Math.Seq.{take-add}
use Rattle.std.proofs.lemmas.Grind.{common_steps}
use Rattle.e3_outside.proofs.Streams.{Appends-then}
use Rattle.e3_outside.proofs.sink.write_all.Goals as goal

pub loop-done-preserved : goal.loop-done-preserved
loop-done-preserved g c =
    let wrote = c.in_ok-done.ensures.appended in
    let all : take (length c.args.text.now - c.loop-done.done) (drop c.loop-done.done c.args.text.now) ≡ drop c.loop-done.done c.args.text.now = grind (arith, common_steps) in
    let took = c.in_ok-done.ensures.some in
    record {
      written = rw (take-add c.loop-done.done c.in_ok-done.field-0 c.args.text.now) (Appends-then _ _ _ _ _ c.loop-done.invariant.written (rw all at wrote));
      bound = grind (arith, common_steps, took);
      never_falls = omega (arith, c.in_ok-done.ensures.never_falls);
      no_call = λ empty. absurd (omega (arith, empty, took));
    }
