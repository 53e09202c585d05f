use Rattle.std.proofs.Common.{◌-◌, ◌∙◌, ap, arith, subst, sym, List, ℕ}
use Rattle.e3_disk.specs.Images.{Torn}
use Rattle.e3_disk.specs.Padding.{Cells}
use Rattle.e3_disk.specs.Stored.{Stored}
use Rattle.e3_disk.proofs.Padding.{settled_is}
use Rattle.e3_disk.proofs.Tearing.{torn_same}
use Rattle.e3_disk.proofs.store.Store.settle.Goals as goal

pub returns-clause-durable : goal.returns-clause-durable
returns-clause-durable c =
    let s = c.args.self.now in
    c.put_range.ensures.written ∙ settled_is s.from (s.to - s.from) s.durable.bytes s.content.bytes s.range.1 (omega (arith, s.range.0, s.range.2, s.within.0)) s.torn
    ∙ sym (ap (λ (x : Cells). x.bytes) c.reach.ensures.same)

pub invariant_of-self-clause-torn : goal.invariant_of-self-clause-torn
invariant_of-self-clause-torn c =
    let s = c.args.self.now in
    let durable = c.put_range.ensures.written
    ∙ settled_is s.from (s.to - s.from) s.durable.bytes s.content.bytes s.range.1 (omega (arith, s.range.0, s.range.2, s.within.0)) s.torn
    ∙ sym (ap (λ (x : Cells). x.bytes) c.reach.ensures.same) in
    subst (λ (x : List ℕ). Torn c.args.place (c.args.place - c.args.place) c.put_range.new.self.bytes x) durable
    (torn_same c.args.place (c.args.place - c.args.place) c.put_range.new.self.bytes)

pub returns-clause-after : goal.returns-clause-after
returns-clause-after c =
    let s = c.args.self.now in
    let p = c.args.place in
    let durable = c.put_range.ensures.written
    ∙ settled_is s.from (s.to - s.from) s.durable.bytes s.content.bytes s.range.1 (omega (arith, s.range.0, s.range.2, s.within.0)) s.torn in
    let F : List ℕ → Stored = λ l. record { content = l; durable = c.put_range.new.self.bytes; from = p; to = p } in
    let G : List ℕ → Stored = λ l. record { content = s.content.bytes; durable = l; from = p; to = p } in
    ap F (ap (λ (x : Cells). x.bytes) c.reach.ensures.same) ∙ ap G durable
