use Rattle.std.proofs.Common.{◌++◌, ◌∷◌, [], inl, inr, ap, sym, ◌∙◌, ℕ, Bool, List}
use Rattle.e3_places.specs.Granting.{is_restless}
use Rattle.e3_places.proofs.Looping.{filter_next, one_if}
use Rattle.e3_places.proofs.granting.add_restless.Goals.{then-branch+in_ok-push, else-branch}
use Rattle.e3_places.proofs.granting.add_restless.Goals as goal

pub loop-name-preserved : goal.loop-name-preserved
loop-name-preserved c =
    let doings = c.args.doings.now in
    let test : List ℕ → Bool = is_restless doings.places.now.names.entries doings.new.now doings.records.now doings.events.now doings.outs.now in
    filter_next test c.args.names.now c.loop-name.name-index c.name-item.result c.args.out.now c.loop-name.out c.if-branch.out c.loop-name-test.true c.name-item.is c.loop-name.invariant
    (one_if (test c.name-item.result) c.name-item.result c.loop-name.out c.if-branch.out (elim c.if-branch.branch [
      | then-branch+in_ok-push w ↦ inl (
        sym c.in_ok-is_restless.ensures ∙ w.if-branch.true,
        w.out-is ∙ w.in_ok-push.ensures.ok ∙ ap (λ (n : List ℕ). c.loop-name.out ++ n ∷ []) w.copy.ensures,
      )
      | else-branch w ↦ inr (sym c.in_ok-is_restless.ensures ∙ w.if-branch.false, w.out-is)
    ]))
