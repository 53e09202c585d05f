-- a site that was asked is from 1 to 64, and there is room for one that did not acknowledge yet
use Rattle.std.proofs.Common.{◌≡◌, ◌∙◌, ◌+◌, ◌++◌, ◌∷◌, [], ap, sym, subst, true, arith, length, List, ℕ}
use Rattle.std.proofs.lemmas.Grind.{common_steps}
use Rattle.e3_types.specs.Sets.{ascends, with_site}
use Rattle.e3_world.specs.Gatherings.{Round}
use Rattle.e3_commit.specs.Senders.{set_of}
use Rattle.e3_commit.proofs.Gathering.{ack_counts, acked_longer, asked_within, snoc_set}
use Rattle.e3_commit.proofs.acks.Acks.add.Goals as goal

pub with-acked-requires-clause-low : goal.with-acked-requires-clause-low
with-acked-requires-clause-low c =
    let counts = ack_counts c.args.self.now c.args.from c.args.n c.args.dir (sym c.counts.ensures ∙ c.if-counts.true) in
    let up : ascends 0 c.args.self.now.to ≡ true = subst (λ (a : Round). ascends 0 a.to ≡ true) c.self.view_is c.count.ensures.ascending in
    (asked_within 0 c.args.self.now.to c.args.from up counts.0).0

pub with-acked-requires-clause-high : goal.with-acked-requires-clause-high
with-acked-requires-clause-high c =
    let counts = ack_counts c.args.self.now c.args.from c.args.n c.args.dir (sym c.counts.ensures ∙ c.if-counts.true) in
    let up : ascends 0 c.args.self.now.to ≡ true = subst (λ (a : Round). ascends 0 a.to ≡ true) c.self.view_is c.count.ensures.ascending in
    (asked_within 0 c.args.self.now.to c.args.from up counts.0).1

pub push-requires : goal.push-requires
push-requires c =
    let counts = ack_counts c.args.self.now c.args.from c.args.n c.args.dir (sym c.counts.ensures ∙ c.if-counts.true) in
    let set = c.self.invariant.0 ∙ ap (λ (a : Round). set_of a.acked) c.self.view_is in
    let longer = acked_longer c.args.self.now c.self.inside.acked c.args.from set counts.1 in
    let same : length c.with-acked.result ≡ length (with_site c.args.from c.self.inside.acked) = ap (λ (l : List ℕ). length l) c.with-acked.ensures in
    (omega arith, omega (arith, longer, same, c.count-then-counts.ensures.number, c.count-then-counts.ensures.few, c.self.invariant.1))

pub invariant_of-self : goal.invariant_of-self
invariant_of-self c =
    let counts = ack_counts c.args.self.now c.args.from c.args.n c.args.dir (sym c.counts.ensures ∙ c.if-counts.true) in
    let set = c.self.invariant.0 ∙ ap (λ (a : Round). set_of a.acked) c.self.view_is in
    let longer = acked_longer c.args.self.now c.self.inside.acked c.args.from set counts.1 in
    let same : length c.with-acked.result ≡ length (with_site c.args.from c.self.inside.acked) = ap (λ (l : List ℕ). length l) c.with-acked.ensures in
    let pushed : length c.push.new.self.items ≡ length (c.self.inside.arrivals.items ++ c.args.from ∷ []) = ap (λ (l : List ℕ). length l) c.push.ensures.items in
    let one : length (c.self.inside.arrivals.items ++ c.args.from ∷ []) ≡ length c.self.inside.arrivals.items + 1 = grind (arith, common_steps) in (
      c.with-acked.ensures ∙ ap (with_site c.args.from) c.self.invariant.0 ∙ sym (snoc_set c.self.inside.arrivals.items c.args.from)
          ∙ ap set_of (sym c.push.ensures.items),
      omega (arith, longer, same, pushed, one, c.self.invariant.1),
    )
