-- Sites as a set.
use Rattle.std.specs.Prelude.{[], ℕ, List, fold}
use Rattle.e3_types.specs.Sets.{with_site}

-- these sites as a set
abbrev pub set_of : List ℕ → List ℕ
set_of sites = fold (λ set site. with_site site set) [] sites
