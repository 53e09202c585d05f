use Rattle.std.proofs.Common.{◌++◌, ◌∷◌, [], inl, inr, ap, sym, ◌∙◌, not}
use Rattle.e3_world.specs.declared.lives.Asked.{Asked}
use Rattle.e3_places.specs.Standing.{is_left}
use Rattle.e3_places.proofs.Looping.{filter_next, one_if}
use Rattle.e3_places.proofs.behind.add_left.Goals.{then-not-decided_in+in_ok-push, else-not-decided_in}
use Rattle.e3_places.proofs.behind.add_left.Goals as goal

pub loop-a-preserved : goal.loop-a-preserved
loop-a-preserved c =
    filter_next (is_left c.args.records.now) c.args.asked.now c.loop-a.a-index c.a-item.result c.args.out.now c.loop-a.out c.if-not-decided_in.out c.loop-a-test.true c.a-item.is
    c.loop-a.invariant
    (one_if (is_left c.args.records.now c.a-item.result) c.a-item.result c.loop-a.out c.if-not-decided_in.out (elim c.if-not-decided_in.branch [
      | then-not-decided_in+in_ok-push w ↦ inl (
        ap not (sym c.decided_in.ensures ∙ w.if-not-decided_in.true),
        w.out-is ∙ w.in_ok-push.ensures.ok ∙ ap (λ (x : Asked). c.loop-a.out ++ x ∷ []) w.copy_asked.ensures,
      )
      | else-not-decided_in w ↦ inr (ap not (sym c.decided_in.ensures ∙ w.if-not-decided_in.false), w.out-is)
    ]))
