use Rattle.std.proofs.Common.{◌+◌, ◌-◌, ◌≡◌, min, max, length, arith}
use Rattle.e3_disk.proofs.Tearing.{between, compose, first_torn, holds_torn, second_torn, widen}
use Rattle.e3_disk.proofs.store.Store.write_near.Goals as goal

pub returns-clause-images : goal.returns-clause-images
returns-clause-images c = λ image torn.
    let s = c.args.self.now in
    let p = s.from in
    let n = s.to - s.from in
    let q = c.args.place in
    let m = length c.args.bytes.now in
    let f = c.min-self.result in
    let t = c.max-self.result in
    let a = s.durable.bytes in
    let hf : f ≡ min p q = c.min-self.ensures in
    let ht : t ≡ max (p + n) (q + m) = omega arith in
    let b = between p n q m f t a image (omega arith) hf ht (omega arith) (omega arith) torn in (
      b,
      first_torn p n q m f t a image (omega arith) hf ht (omega arith) (omega arith) torn,
      second_torn p n q m f t a image (omega arith) hf ht (omega arith) (omega arith) torn,
    )

pub invariant_of-self-clause-torn : goal.invariant_of-self-clause-torn
invariant_of-self-clause-torn c =
    let s = c.args.self.now in
    let f = c.min-self.result in
    let t = c.max-self.result in
    let q = c.args.place in
    let m = length c.args.bytes.now in
    let new = c.put_at.new.self.bytes in
    compose f (t - f) s.durable.bytes s.content.bytes new
    (widen s.from (s.to - s.from) f (t - f) s.durable.bytes s.content.bytes (omega (arith, c.min-self.ensures)) (omega (arith, c.min-self.ensures, c.max-self.ensures, s.range.0)) s.torn)
    (widen q m f (t - f) s.content.bytes new (omega (arith, c.min-self.ensures)) (omega (arith, c.min-self.ensures, c.max-self.ensures))
    (holds_torn q s.content.bytes c.args.bytes.now new c.requires.within c.put_at.ensures.written))
