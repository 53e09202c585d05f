use Rattle.std.proofs.Common.{◌≡◌, ◌+◌, ◌-◌, ◌≤◌, ◌++◌, ◌∙◌, ap, arith, drop, length, min, replicate, take, List, ℕ}
use Rattle.e3_disk.specs.Padding.{Cells, padded}
use Rattle.e3_disk.proofs.Padding.{read_is}
use Rattle.e3_disk.proofs.cells.Cells.read.Goals as goal

pub returns : goal.returns
returns c =
    let xs = c.self.inside.front.items in
    let b = c.self.inside.blank in
    let p = c.args.place in
    let n = length c.args.into.now in
    let f = c.min-from.result in
    let t = c.min-to.result in
    let bytes : padded b xs ≡ c.args.self.now.bytes = ap (λ (v : Cells). v.bytes) c.self.view_is in
    let within : p + n ≤ length (padded b xs) = omega (arith, c.requires, ap length bytes) in
    let from : f ≡ min p (length xs) = omega (arith, c.min-from.ensures, c.len.ensures) in
    let to : t ≡ min (p + n) (length xs) = omega (arith, c.min-to.ensures, c.len-2.ensures) in
    ap (λ (l : List ℕ). l ++ drop (t - f) c.fill.new.bytes) (c.copy_from_slice.ensures.after ∙ ap (λ (l : List ℕ). take (t - f) (drop f l)) c.deref.ensures.value)
    ∙ ap (λ (l : List ℕ). take (t - f) (drop f xs) ++ drop (t - f) l) c.fill.ensures
    ∙ ap (λ (k : ℕ). take (t - k) (drop k xs) ++ drop (t - k) (replicate n 0)) from
    ∙ ap (λ (k : ℕ). take (k - min p (length xs)) (drop (min p (length xs)) xs) ++ drop (k - min p (length xs)) (replicate n 0)) to
    ∙ read_is b p n xs within
    ∙ ap (λ (l : List ℕ). take n (drop p l)) bytes
