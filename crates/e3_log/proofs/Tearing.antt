-- What is torn of the only image.
use Rattle.std.proofs.Common.{ℕ, List, subst}
use Rattle.e3_disk.specs.Images.{Torn, Tears, Only}

pub only_torn : (place n : ℕ) (content : List ℕ) (old new : List ℕ → Type 0) → Only content old → Tears place n old new → (c : List ℕ) → new c → Torn place n content c
only_torn place n content old new only tears c at =
    let from = tears c at in
    subst (λ (d : List ℕ). Torn place n d c) (only from.0 from.1) from.2
