use Rattle.std.proofs.Common.{◌-◌, ◌≤◌, ◌∙◌, ap, arith, drop, length, length-take, subst, sym, take, List, ℕ}
use Rattle.e3_disk.specs.Images.{Torn}
use Rattle.e3_disk.specs.Leaves.{kept_by}
use Rattle.e3_disk.specs.Padding.{Cells}
use Rattle.e3_disk.proofs.Padding.{kept_length}
use Rattle.e3_disk.proofs.Tearing.{holds_torn, torn_none, torn_same, widen}
use Rattle.e3_disk.proofs.store.Store.stop.Goals as goal

pub invariant_of-self-clause-torn : goal.invariant_of-self-clause-torn
invariant_of-self-clause-torn c =
    let d = c.keep_range.new.durable.bytes in
    subst (λ (x : List ℕ). Torn 0 0 d x) (sym (ap (λ (x : Cells). x.bytes) c.set.ensures)) (torn_same 0 0 d)

pub returns-clause-only : goal.returns-clause-only
returns-clause-only c = λ image torn.
    let d = c.keep_range.new.durable.bytes in
    torn_none 0 d image (omega arith) torn ∙ sym (ap (λ (x : Cells). x.bytes) c.set.ensures)

pub returns-clause-images : goal.returns-clause-images
returns-clause-images c = λ image torn.
    let s = c.args.self.now in
    let d = c.keep_range.new.durable.bytes in
    let w = take (s.to - s.from) (drop s.from s.content.bytes) in
    let k = kept_by c.args.leave w in
    let few : length w ≤ s.to - s.from = omega (arith, length-take (s.to - s.from) (drop s.from s.content.bytes)) in
    subst (λ (x : List ℕ). Torn s.from (s.to - s.from) s.durable.bytes x) (sym (torn_none 0 d image (omega arith) torn))
    (widen s.from (length k) s.from (s.to - s.from) s.durable.bytes d (omega arith) (omega (arith, kept_length c.args.leave w, few))
    (holds_torn s.from s.durable.bytes k d s.range.1 c.keep_range.ensures.kept))
