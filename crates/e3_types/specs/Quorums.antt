-- The weight of sites, and which of them are a quorum. Site k has the k-th weight.
use Rattle.std.specs.Prelude.{◌-◌, ◌*◌, ℕ, nat_lt, Bool, List, map, sum, slice_index}

-- the sum of the weights of these sites
abbrev pub weight_of : List ℕ → List ℕ → ℕ
weight_of weights sites = sum (map (λ site. slice_index weights (site - 1)) sites)

-- these members have more than half of the weight of all: twice their weight exceeds it
abbrev pub is_quorum : List ℕ → List ℕ → List ℕ → Bool
is_quorum weights members all = nat_lt (weight_of weights all) (2 * weight_of weights members)
