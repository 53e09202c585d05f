use Rattle.std.proofs.Common.{◌<◌, ◌∙◌, ℕ, ap, arith, length}
use Rattle.e3_fleet.specs.crew.Workers.{HasItems}
use Rattle.e3_fleet.specs.declared.crew.worker.Worker.{Worker}
use Rattle.e3_world.specs.Items.{inputs_to}
use Rattle.e3_fleet.proofs.crew.Members.{changed_more, kept_at, same_member, unchanged_more}
use Rattle.e3_fleet.proofs.crew.settling.hand_out.Goals as goal

pub loop-worker-preserved : goal.loop-worker-preserved
loop-worker-preserved g c =
    let lt : c.loop-worker.worker-index < length c.loop-worker.workers = omega (arith, c.loop-worker.auto.workers, c.loop-worker-test.true) in
    let i = c.loop-worker.invariant in
    let k = c.loop-worker.worker-index in
    let at = λ (d : Worker g.row.D.Denot). same_member c.args.workers.now c.loop-worker.workers k d c.worker-item.result lt i.later in
    record {
      handed = changed_more (HasItems c.args.inputs.now) c.args.workers.now c.loop-worker.workers k _ lt i.handed (λ d. record {
        node = ap (λ (z : Worker g.row.D.Denot). z.node) (at d);
        items = c.in_ok-items.ensures ∙ ap (λ (s : ℕ). inputs_to s c.args.inputs.now) (c.site.ensures ∙ ap (λ (z : Worker g.row.D.Denot). z.node.site) (at d));
      });
      later = unchanged_more c.args.workers.now c.loop-worker.workers k _ i.later;
    }

pub returns-in_err-items-clause-same : goal.returns-in_err-items-clause-same
returns-in_err-items-clause-same g c =
    let lt : c.loop-worker.worker-index < length c.loop-worker.workers = omega (arith, c.loop-worker.auto.workers, c.loop-worker-test.true) in
    let i = c.loop-worker.invariant in
    let k = c.loop-worker.worker-index in
    λ j d low. kept_at (λ (z : Worker g.row.D.Denot). z.node) c.args.workers.now c.loop-worker.workers k _ lt (λ (n : ℕ) (e : Worker g.row.D.Denot) less. (i.handed n e less).node) i.later
    (λ e. ap (λ (z : Worker g.row.D.Denot). z.node) (same_member c.args.workers.now c.loop-worker.workers k e c.worker-item.result lt i.later)) j d

pub returns-clause-same : goal.returns-clause-same
returns-clause-same g c = λ i d low.
    let end = c.loop-worker-test.false in
    (c.loop-worker.invariant.handed i d (omega (arith, low, end))).node

pub returns-clause-items : goal.returns-clause-items
returns-clause-items g c = λ i d low.
    let end = c.loop-worker-test.false in
    (c.loop-worker.invariant.handed i d (omega (arith, low, end))).items
