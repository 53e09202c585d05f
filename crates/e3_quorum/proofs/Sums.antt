-- Bounds on weights, and the weight of one site more.
use Rattle.std.specs.Prelude.{◌≡◌, ◌+◌, ◌-◌, ◌*◌, ◌<◌, ◌≤◌, ◌++◌, ◌∷◌, [], ℕ, List, slice_index, length}
use Rattle.std.proofs.Common.{arith, ◌∙◌, get_or, Fits, w32}
use Rattle.std.proofs.lemmas.Grind.{common_steps}
use Rattle.std.proofs.lemmas.List.Sums.{sum_by-append}
use Rattle.e3_types.specs.Quorums.{weight_of}

-- the weights of two lists of sites add up
pub weight_append : (weights xs ys : List ℕ) → weight_of weights (xs ++ ys) ≡ weight_of weights xs + weight_of weights ys
weight_append weights xs ys = grind (arith, common_steps, sum_by-append (λ x. x))

-- the first site adds its weight
pub weight_cons : (weights sites : List ℕ) (site : ℕ) → weight_of weights (site ∷ sites) ≡ slice_index weights (site - 1) + weight_of weights sites
weight_cons weights sites site = weight_append weights (site ∷ []) sites ∙ (omega arith)

weight_small : (weights sites : List ℕ) → ((k : ℕ) → Fits w32 (get_or weights k 0)) → weight_of weights sites ≤ 4294967295 * length sites
weight_small weights [] fits = omega arith
weight_small weights (site ∷ sites) fits =
    omega (arith, weight_small weights sites fits, weight_cons weights sites site, fits (site - 1))

-- 64 sites have less than 2 ^ 38
pub weight_few : (weights sites : List ℕ) → ((k : ℕ) → Fits w32 (get_or weights k 0)) → length sites ≤ 64 → weight_of weights sites < 274877906944
weight_few weights sites fits few = omega (arith, weight_small weights sites fits)
