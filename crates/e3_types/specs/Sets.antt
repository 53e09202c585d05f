-- Sets of sites, read as ascending lists of their numbers.
use Rattle.std.specs.Prelude.{◌==◌, ◌&&◌, ◌++◌, ◌∷◌, [], ℕ, nat_le, nat_lt, Bool, true, not, List, filter}
use Rattle.std.specs.List.{list_any, list_all}

-- the numbers ascend strictly, above the first number and up to 64
abbrev pub ascends : ℕ → List ℕ → Bool
ascends low [] = true
ascends low (site ∷ sites) = nat_lt low site && nat_le site 64 && ascends site sites

-- the numbers are a set of sites: strictly ascending, from 1 to 64
abbrev pub is_set : List ℕ → Bool
is_set sites = ascends 0 sites

-- the site is in the set
abbrev pub has_site : List ℕ → ℕ → Bool
has_site sites site = list_any (λ x. x == site) sites

-- the set with this site in its place
abbrev pub with_site : ℕ → List ℕ → List ℕ
with_site site sites = filter (λ x. nat_lt x site) sites ++ site ∷ filter (λ x. nat_lt site x) sites

-- the sites of the set but this one
abbrev pub others : ℕ → List ℕ → List ℕ
others site sites = filter (λ x. not (x == site)) sites

-- all sites of the first set are in the second
abbrev pub is_within : List ℕ → List ℕ → Bool
is_within some all = list_all (has_site all) some
