use Rattle.std.proofs.Common.{refl, ◌<◌, ◌∙◌, ap, arith, length}
use Rattle.e3_gate_runs.specs.declared.turns.worker.Worker.{Worker}
use Rattle.e3_gate_runs.specs.Workers.{Dealt}
use Rattle.e3_gate_runs.proofs.Dealing.{can_split, keeps_one, left_more, changed_more, unchanged_more, same_member}
use Rattle.e3_gate_runs.proofs.turns.crew.deal.Goals as goal

pub split-requires-clause-owns : goal.split-requires-clause-owns
split-requires-clause-owns c =
    let lt : c.loop-worker.worker-index < length c.loop-worker.workers = omega (arith, c.loop-worker.auto.workers, c.loop-worker-test.true) in
    let w = c.worker-item.result in
    can_split _ _ _ _ c.loop-worker.invariant.owned (ap (λ (z : Worker). z.owner) (same_member c.args.workers.now c.loop-worker.workers c.loop-worker.worker-index w w lt c.loop-worker.invariant.later) ∙ c.requires.numbered c.loop-worker.worker-index w c.loop-worker-test.true) c.loop-worker-test.true

pub split-requires-clause-keeps : goal.split-requires-clause-keeps
split-requires-clause-keeps c = keeps_one _ _ _ c.loop-worker.invariant.owned c.loop-worker-test.true

pub loop-worker-preserved : goal.loop-worker-preserved
loop-worker-preserved c =
    let lt : c.loop-worker.worker-index < length c.loop-worker.workers = omega (arith, c.loop-worker.auto.workers, c.loop-worker-test.true) in
    let i = c.loop-worker.invariant in
    let e = c.split.ensures in
    let w = c.worker-item.result in
    let at = λ (d : Worker). same_member c.args.workers.now c.loop-worker.workers c.loop-worker.worker-index d w lt i.later in
    let owner = λ (d : Worker). ap (λ (z : Worker). z.owner) (at d) ∙ c.requires.numbered c.loop-worker.worker-index d c.loop-worker-test.true in
    record {
      idle = e.idle.0;
      owned = e.owners.0 ∙ left_more _ _ _ _ i.owned (owner w);
      lasts = e.last.0 ∙ i.lasts;
      saw = e.seen.0 ∙ i.saw;
      dealt = changed_more (Dealt c.args.lock.now) c.args.workers.now c.loop-worker.workers c.loop-worker.worker-index _ lt i.dealt
          (λ d. record {
            pass = (c.split.result, refl, record { idle = e.idle.1; owner_is = e.owners.1; below = (let a = owner w in let b = e.last.1 in let l = i.lasts in let m = c.requires.owners.1 in let t = c.loop-worker-test.true in omega arith) });
            none = e.seen.1 ∙ i.saw;
            owner = ap (λ (z : Worker). z.owner) (at d);
            count = ap (λ (z : Worker). z.count) (at d);
          });
      later = unchanged_more c.args.workers.now c.loop-worker.workers c.loop-worker.worker-index _ i.later;
    }
