-- Which lists of numbers are weights of sites, and which sites have one. Site k has the k-th weight.
use Rattle.std.specs.Prelude.{◌≡◌, ◌&&◌, ◌∷◌, [], if◌then◌else◌, ℕ, suc, nat_le, nat_lt, Bool, List, length, Option, Some, None}
use Rattle.std.specs.List.{list_all}
use Rattle.e3_quorum.specs.declared.weights.WeightFault.{WeightFault}
use Rattle.e3_quorum.specs.declared.weights.WeightFault.TheVariants.{Count, Range, NoMemory}

-- the first weight that is not from 1 to 1,000, where the first of these is that of this site
abbrev pub range_fault : ℕ → List ℕ → Option WeightFault
range_fault site [] = None
range_fault site (weight ∷ weights) =
    if nat_le 1 weight && nat_le weight 1000 then range_fault (suc site) weights else Some (Range site weight)

-- what keeps a list of numbers from being weights, if anything does: their count, and else the first out of range
abbrev pub weight_fault : List ℕ → Option WeightFault
weight_fault weights =
    if nat_lt 0 (length weights) && nat_le (length weights) 16 then range_fault 1 weights else Some (Count (length weights))

-- why there are no weights: by their own fault, or for want of memory
abbrev pub Refuses : List ℕ → WeightFault → Type 0
Refuses weights NoMemory = weight_fault weights ≡ None
Refuses weights fault = weight_fault weights ≡ Some fault

-- each of these sites has a weight
abbrev pub have_weights : List ℕ → List ℕ → Bool
have_weights weights sites = list_all (λ site. nat_le site (length weights)) sites
