use Rattle.std.proofs.Common.{◌≡◌, ◌⊎◌, ◌∷◌, [], inl, inr, ◌<◌, ◌≤◌, ◌+◌, ℕ, refl, ◌∙◌, ap, arith, length}
use Rattle.e3_turn.specs.Passes.{owners_of, seen_by}
use Rattle.e3_fleet.specs.declared.crew.worker.Worker.{Worker}
use Rattle.e3_fleet.specs.crew.Workers.{IsDealt}
use Rattle.e3_fleet.proofs.crew.Dealing.{apart, sooner, still_owns, two_owners}
use Rattle.e3_fleet.proofs.crew.Members.{changed_more, unchanged_more, same_member}
use Rattle.e3_fleet.proofs.crew.forks.deal.Goals as goal

pub loop-worker-init : goal.loop-worker-init
loop-worker-init g c = record {
  idle = c.requires.idle;
  owns = λ o which low. c.requires.all o (let last = c.requires.last in omega (arith, last, low));
  lasts = refl;
  saw = refl;
  dealt = λ i d none. absurd (omega (arith, none));
  later = λ i d low. refl;
}

pub split-requires-clause-owns : goal.split-requires-clause-owns
split-requires-clause-owns g c =
    let lt : c.loop-worker.worker-index < length c.loop-worker.workers = omega (arith, c.loop-worker.auto.workers, c.loop-worker-test.true) in
    let w = c.worker-item.result in
    let at = c.loop-worker-test.true in
    let is : c.site.result ≡ c.loop-worker.worker-index + 1 = c.site.ensures
    ∙ ap (λ (z : Worker g.row.D.Denot). z.node.site) (same_member c.args.workers.now c.loop-worker.workers c.loop-worker.worker-index w w lt c.loop-worker.invariant.later)
    ∙ c.requires.sites c.loop-worker.worker-index w at in
    c.loop-worker.invariant.owns c.site.result (inr (omega (arith, is))) (omega (arith, is, at))

pub split-requires-clause-keeps : goal.split-requires-clause-keeps
split-requires-clause-keeps g c =
    let lt : c.loop-worker.worker-index < length c.loop-worker.workers = omega (arith, c.loop-worker.auto.workers, c.loop-worker-test.true) in
    let at = c.loop-worker-test.true in
    two_owners 0 (c.loop-worker.worker-index + 1) (owners_of c.loop-worker.pass) (λ same. omega (arith, same))
    (c.loop-worker.invariant.owns 0 (inl refl) (omega arith))
    (c.loop-worker.invariant.owns (c.loop-worker.worker-index + 1) (inr (omega arith)) (omega (arith, at)))

pub loop-worker-preserved : goal.loop-worker-preserved
loop-worker-preserved g c =
    let lt : c.loop-worker.worker-index < length c.loop-worker.workers = omega (arith, c.loop-worker.auto.workers, c.loop-worker-test.true) in
    let i = c.loop-worker.invariant in
    let e = c.split.ensures in
    let w = c.worker-item.result in
    let test = c.loop-worker-test.true in
    let at = λ (d : Worker g.row.D.Denot). same_member c.args.workers.now c.loop-worker.workers c.loop-worker.worker-index d w lt i.later in
    let site : c.site.result ≡ c.loop-worker.worker-index + 1 = c.site.ensures ∙ ap (λ (z : Worker g.row.D.Denot). z.node.site) (at w) ∙ c.requires.sites c.loop-worker.worker-index w test in
    let kept = λ (o : ℕ) (which : (o ≡ 0) ⊎ (c.loop-worker.worker-index + 1 < o)) (low : o ≤ length c.args.workers.now).
    still_owns o c.site.result (owners_of c.loop-worker.pass) (owners_of c.split.new.pass) e.owners.0 (apart c.loop-worker.worker-index o c.site.result which site)
    (i.owns c.site.result (inr (omega (arith, site))) (omega (arith, site, test))) (i.owns o (sooner c.loop-worker.worker-index o which) low) in
    record {
      idle = e.idle.0;
      owns = kept;
      lasts = e.last.0 ∙ i.lasts;
      saw = e.seen.0 ∙ i.saw;
      dealt = changed_more (IsDealt c.args.wire.now (seen_by c.args.pass.now)) c.args.workers.now c.loop-worker.workers c.loop-worker.worker-index _ lt i.dealt
          (λ d. record {
            pass = (c.split.result, refl, record { idle = e.idle.1; owner_is = e.owners.1 ∙ ap (λ o. o ∷ []) c.site.ensures });
            seen = e.seen.1 ∙ i.saw;
            node = ap (λ (z : Worker g.row.D.Denot). z.node) (at d);
            items = ap (λ (z : Worker g.row.D.Denot). z.items) (at d);
          });
      later = unchanged_more c.args.workers.now c.loop-worker.workers c.loop-worker.worker-index _ i.later;
    }

pub returns-clause-dealt : goal.returns-clause-dealt
returns-clause-dealt g c = λ i d low.
    let end = c.loop-worker-test.false in
    c.loop-worker.invariant.dealt i d (omega (arith, low, end))
