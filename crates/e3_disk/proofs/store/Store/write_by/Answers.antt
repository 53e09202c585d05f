use Rattle.std.proofs.Common.{◌≡◌, ◌+◌, ◌∙◌, ◌&&◌, ℕ, Bool, true, false, nat_le, if◌then◌else◌, List, length, ap, refl}
use Rattle.e3_disk.specs.Images.{overwritten}
use Rattle.e3_disk.specs.Memory.{stored_of}
use Rattle.e3_disk.specs.Stored.{Stored, settled}
use Rattle.e3_disk.proofs.Tearing.{torn_same}
use Rattle.e3_disk.proofs.store.Store.write_by.Goals as goal

-- what a read gives is the same, whether or not it is made durable first
same_content : (near : Bool) (place : ℕ) (s : Stored) → (if near then s else settled place s).content ≡ s.content
same_content true place s = refl
same_content false place s = refl

pub returns-in-Go-clause-written : goal.returns-in-Go-clause-written
returns-in-Go-clause-written c =
    let s = stored_of c.args.self.now in
    let place = c.args.place in
    let end = place + length c.args.bytes.now in
    ap (λ (s : Stored). s.content) c.write.ensures.after
    ∙ ap (λ (old : List ℕ). overwritten old place c.args.bytes.now) (same_content (nat_le place s.to && nat_le s.from end) place s)

pub returns-in-Fail-clause-images : goal.returns-in-Fail-clause-images
returns-in-Fail-clause-images c = λ image torn. (image, torn, torn_same c.args.place (length c.args.bytes.now) image)
