-- What is expected of a coordinator's own site.
use Rattle.std.specs.Prelude.{◌∷◌, [], ℕ, List, length}
use Rattle.e3_world.specs.declared.lives.Expected.{Expected}
use Rattle.e3_world.specs.declared.lives.Performed.{Performed}

-- what is expected of the coordinator itself, which has done these in this incarnation
abbrev pub own_expected : ℕ → List Performed → Expected
own_expected inc [] = record { inc = 0; count = 0 }
own_expected inc (p ∷ ps) = record { inc = inc; count = length (p ∷ ps) }
