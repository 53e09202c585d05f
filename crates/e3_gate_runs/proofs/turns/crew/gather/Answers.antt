use Rattle.std.proofs.Common.{◌≡◌, ◌+◌, ◌<◌, ◌∙◌, ap, sym, subst, arith, length, ◌∷◌, []}
use Rattle.std.specs.Prelude.{slice_index_or}
use Rattle.e3_gate_runs.specs.declared.turns.worker.Worker.{Worker}
use Rattle.e3_gate_runs.specs.Marks.{marks_of}
use Rattle.e3_gate_runs.specs.Workers.{HasPass, seen_of}
use Rattle.e3_gate_runs.proofs.Dealing.{gathered_more, changed_more, unchanged_more, same_member, marks_more}
use Rattle.e3_gate_runs.proofs.turns.crew.gather.Goals as goal

pub take_pass-theirs-requires : goal.take_pass-theirs-requires
take_pass-theirs-requires c =
    let lt : c.loop-worker.worker-index < length c.loop-worker.workers = omega (arith, c.loop-worker.auto.workers, c.loop-worker-test.true) in
    let w = c.worker-item.result in
    subst (λ (z : Worker). HasPass c.args.lock.now z) (sym (same_member c.args.workers.now c.loop-worker.workers c.loop-worker.worker-index w w lt c.loop-worker.invariant.later)) (c.requires.workers c.loop-worker.worker-index w c.loop-worker-test.true).0

pub loop-worker-preserved : goal.loop-worker-preserved
loop-worker-preserved c =
    let lt : c.loop-worker.worker-index < length c.loop-worker.workers = omega (arith, c.loop-worker.auto.workers, c.loop-worker-test.true) in
    let i = c.loop-worker.invariant in
    let e = c.join.ensures in
    let p = c.take_pass-theirs.ensures in
    let w = c.worker-item.result in
    let at = λ (d : Worker). same_member c.args.workers.now c.loop-worker.workers c.loop-worker.worker-index d w lt i.later in
    let owner = ap (λ (z : Worker). z.owner) (at w) ∙ (c.requires.workers c.loop-worker.worker-index w c.loop-worker-test.true).1 in
    record {
      idle = e.idle;
      owned = e.owners ∙ gathered_more (length c.args.workers.now) c.loop-worker.worker-index _ _ _ i.owned p.pass.owner_is owner;
      lasts = e.last ∙ i.lasts;
      marks = marks_more _ (length c.args.workers.now) c.loop-worker.worker-index _ _ _ _ _ (λ i d. marks_of (i + 1) (seen_of (slice_index_or c.args.workers.now i d))) i.owned (p.pass.owner_is ∙ ap (λ o. o ∷ []) owner) e.seen e.agree i.marks
          (λ d. ap (marks_of (c.loop-worker.worker-index + 1)) (p.seen ∙ ap seen_of (at d)));
      same = changed_more (λ (x y : Worker). y.done ≡ x.done) c.args.workers.now c.loop-worker.workers c.loop-worker.worker-index _ lt i.same (λ d. p.same.2 ∙ ap (λ (z : Worker). z.done) (at d));
      later = unchanged_more c.args.workers.now c.loop-worker.workers c.loop-worker.worker-index _ i.later;
    }
