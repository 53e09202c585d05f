use Rattle.std.proofs.Common.{◌≡◌, ◌+◌, ◌<◌, ◌∷◌, [], ℕ, refl, sym, subst, ◌∙◌, ap, arith, length}
use Rattle.std.specs.Prelude.{slice_index_or}
use Rattle.e3_turn.specs.Passes.{Owns, last_of, owners_of, seen_by}
use Rattle.e3_fleet.specs.declared.crew.worker.Worker.{Worker}
use Rattle.e3_fleet.specs.crew.Workers.{HasPass, KeepsItsOwn, seen_of}
use Rattle.e3_wire.specs.Wires.{IsPlayed}
use Rattle.e3_fleet.proofs.crew.Dealing.{added_none, each_more, joined_first, joined_played, added_on, owns_more}
use Rattle.e3_fleet.proofs.crew.Members.{changed_more, unchanged_more, same_member}
use Rattle.e3_fleet.proofs.crew.forks.gather.Goals as goal

pub loop-worker-init : goal.loop-worker-init
loop-worker-init g c = record {
  idle = c.requires.idle;
  owns = λ o low. (let none : o ≡ 0 = omega (arith, low) in let P : ℕ → Type 0 = λ p. Owns c.args.pass.now p in subst P (sym none) c.requires.driver);
  lasts = refl;
  played = c.requires.played;
  driver = added_none 0 (seen_by c.args.pass.now);
  each = λ i d none. absurd (omega (arith, none));
  same = λ i d none. absurd (omega (arith, none));
  later = λ i d low. refl;
}

pub take_pass-theirs-requires : goal.take_pass-theirs-requires
take_pass-theirs-requires g c =
    let lt : c.loop-worker.worker-index < length c.loop-worker.workers = omega (arith, c.loop-worker.auto.workers, c.loop-worker-test.true) in
    let w = c.worker-item.result in
    subst (λ (z : Worker g.row.D.Denot). HasPass c.args.wire.now z) (sym (same_member c.args.workers.now c.loop-worker.workers c.loop-worker.worker-index w w lt c.loop-worker.invariant.later))
    (c.requires.passes c.loop-worker.worker-index w c.loop-worker-test.true).0

pub loop-worker-preserved : goal.loop-worker-preserved
loop-worker-preserved g c =
    let lt : c.loop-worker.worker-index < length c.loop-worker.workers = omega (arith, c.loop-worker.auto.workers, c.loop-worker-test.true) in
    let i = c.loop-worker.invariant in
    let e = c.join.ensures in
    let p = c.take_pass-theirs.ensures in
    let w = c.worker-item.result in
    let k = c.loop-worker.worker-index in
    let at = λ (d : Worker g.row.D.Denot). same_member c.args.workers.now c.loop-worker.workers k d w lt i.later in
    let test = c.loop-worker-test.true in
    let owner : owners_of c.take_pass-theirs.result ≡ (k + 1) ∷ [] = p.pass.owner_is ∙ ap (λ o. o ∷ []) (ap (λ (z : Worker g.row.D.Denot). z.node.site) (at w) ∙ (c.requires.passes k w test).1) in
    let theirs : seen_by c.take_pass-theirs.result ≡ seen_of (slice_index_or c.args.workers.now k w) = p.seen ∙ ap seen_of (at w) in
    record {
      idle = e.idle;
      owns = owns_more k (owners_of c.loop-worker.pass) (owners_of c.take_pass-theirs.result) (owners_of c.join.new.pass) e.owners owner i.owns;
      lasts = e.last ∙ i.lasts;
      played = joined_played (seen_by c.loop-worker.pass) (seen_by c.take_pass-theirs.result) (seen_by c.join.new.pass) e.seen i.played
          (subst IsPlayed (sym theirs) (c.requires.each_played k w test));
      driver = added_on 0 (seen_by c.args.pass.now) (seen_by c.loop-worker.pass) (seen_by c.join.new.pass) i.driver
          (joined_first (last_of c.loop-worker.pass) 0 (owners_of c.loop-worker.pass) (owners_of c.take_pass-theirs.result) (seen_by c.loop-worker.pass) (seen_by c.take_pass-theirs.result)
          (seen_by c.join.new.pass) e.seen e.agree (i.owns 0 (omega arith)));
      each = each_more (last_of c.loop-worker.pass) k (owners_of c.loop-worker.pass) (owners_of c.take_pass-theirs.result) (seen_by c.loop-worker.pass) (seen_by c.take_pass-theirs.result)
          (seen_by c.join.new.pass) (λ (j : ℕ) (d : Worker g.row.D.Denot). seen_of (slice_index_or c.args.workers.now j d)) e.seen e.agree i.owns owner i.each
          (λ d. p.seen ∙ ap seen_of (at d));
      same = changed_more (λ (x y : Worker g.row.D.Denot). KeepsItsOwn x y) c.args.workers.now c.loop-worker.workers k _ lt i.same (λ d. record {
        node = p.same.node ∙ ap (λ (z : Worker g.row.D.Denot). z.node) (at d);
        items = p.same.items ∙ ap (λ (z : Worker g.row.D.Denot). z.items) (at d);
        ended = p.same.ended ∙ ap (λ (z : Worker g.row.D.Denot). z.ended) (at d);
      });
      later = unchanged_more c.args.workers.now c.loop-worker.workers k _ i.later;
    }

pub returns-clause-all : goal.returns-clause-all
returns-clause-all g c = λ o low.
    let end = c.loop-worker-test.false in
    c.loop-worker.invariant.owns o (omega (arith, low, end))

pub returns-clause-each : goal.returns-clause-each
returns-clause-each g c = λ i d low.
    let end = c.loop-worker-test.false in
    c.loop-worker.invariant.each i d (omega (arith, low, end))

pub returns-clause-same : goal.returns-clause-same
returns-clause-same g c = λ i d low.
    let end = c.loop-worker-test.false in
    c.loop-worker.invariant.same i d (omega (arith, low, end))
