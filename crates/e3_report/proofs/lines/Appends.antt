-- Texts that are put together piece by piece.
use Rattle.std.proofs.Common.{◌≡◌, List, ◌++◌, append_assoc, refl}

-- two pieces, one after the other
pub join_two : {X : Type 0} (all out first second : List X) → all ≡ out ++ first → all ++ second ≡ out ++ (first ++ second)
join_two all out first second e = rw (e, append_assoc) refl
