use Rattle.std.proofs.Common.{◌≡◌, ◌∙◌, ◌≤◌, ap, arith, length, List, ℕ}
use Rattle.e3_disk.specs.Images.{overwritten}
use Rattle.e3_disk.specs.Padding.{Cells, padded}
use Rattle.e3_disk.proofs.Padding.{padded-over}
use Rattle.e3_disk.proofs.cells.Cells.put_at.Goals as goal

pub returns-clause-written : goal.returns-clause-written
returns-clause-written c =
    let b = c.self.inside.blank in
    let xs = c.self.inside.front.items in
    let bs = c.args.bytes.now in
    let bytes : padded b xs ≡ c.args.self.now.bytes = ap (λ (v : Cells). v.bytes) (c.self.view_is ∙ c.reach.ensures.same) in
    let touched = ap (λ (v : Cells). v.touched) (c.self.view_is ∙ c.reach.ensures.same) in
    let within : c.args.place ≤ length xs = omega (arith, touched) in
    ap (λ (l : List ℕ). padded b l) c.overwrite.ensures.written ∙ padded-over b c.args.place xs bs within ∙ ap (λ (o : List ℕ). overwritten o c.args.place bs) bytes
