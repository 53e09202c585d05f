use Rattle.std.proofs.Common.{◌∙◌, sym, ap, length, ◌++◌, ◌∷◌, []}
use Rattle.e3_gate_runs.proofs.Local.{length-numbered, numbered-push_from_zero, mark}
use Rattle.e3_gate_runs.proofs.turns.worker.put_marks.Goals as goal

pub put_one-requires-clause-number : goal.put_one-requires-clause-number
put_one-requires-clause-number g c = sym (ap length c.loop-number.invariant.marks ∙ length-numbered c.args.owner 0 c.loop-number.number)

pub loop-number-preserved : goal.loop-number-preserved
loop-number-preserved g c =
    let i = c.loop-number.invariant in
    let e = c.if-not-put_one.ensures in
    record {
      idle = e.idle;
      same = record { owners = e.same.owners ∙ i.same.owners; last = e.same.last ∙ i.same.last };
      marks = e.marks ∙ ap (λ l. l ++ mark c.args.owner c.loop-number.number ∷ []) i.marks ∙ numbered-push_from_zero c.args.owner c.loop-number.number;
    }
