-- The set of all sites, and one more.
use Rattle.std.proofs.Common.{add-one, ◌≡◌, ◌+◌, ◌<◌, ℕ, zero, suc, true, false, [], ◌∷◌, filter, nat_lt, refl, arith}
use Rattle.std.proofs.lemmas.List.Elements.{filter-append}
use Rattle.std.proofs.lemmas.Bool.Decides.{nat_tests}
use Rattle.e3_types.specs.Sets.{with_site}
use Rattle.e3_world.specs.Packets.{sites_to}

below_all : (k s : ℕ) → k < s → filter (λ x. nat_lt x s) (sites_to k) ≡ sites_to k
below_all zero s h = refl
below_all (suc k) s h =
    let here : nat_lt (suc k) s ≡ true = grind (arith, nat_tests) in
    rw (filter-append (λ x. nat_lt x s) (sites_to k) (suc k ∷ []), below_all k s (omega arith), here) refl

above_none : (k s : ℕ) → k < s → filter (λ x. nat_lt s x) (sites_to k) ≡ []
above_none zero s h = refl
above_none (suc k) s h =
    let here : nat_lt s (suc k) ≡ false = grind (arith, nat_tests) in
    rw (filter-append (λ x. nat_lt s x) (sites_to k) (suc k ∷ []), above_none k s (omega arith), here) refl

pub next_site : (k : ℕ) → with_site (k + 1) (sites_to k) ≡ sites_to (k + 1)
next_site k = rw (add-one, below_all k (suc k) (omega arith), above_none k (suc k) (omega arith)) refl
