-- All sites of a scenario, by their numbers.
use Rattle.std.proofs.Common.{◌≡◌, ◌+◌, ◌==◌, ◌&&◌, ◌||◌, ℕ, zero, suc, Bool, false, [], ◌∷◌, refl, ap, sym, arith, ◌∙◌, nat_le, add-one}
use Rattle.std.specs.List.{list_all}
use Rattle.std.proofs.lemmas.List.Folds.{list_any-append, list_all-append}
use Rattle.std.proofs.Math.Bool.{and-true}
use Rattle.e3_types.specs.Sets.{has_site}
use Rattle.e3_world.specs.Packets.{sites_to}

-- the numbers from 1 to n have those from 1 to n
has_test : (n s : ℕ) (b c : Bool) → nat_le 1 s && nat_le s n ≡ b → (suc n == s) ≡ c → b || (c || false) ≡ (nat_le 1 s && nat_le s (suc n))
has_test n s b c old new = grind (arith, old, new)

pub has_from_one : (n s : ℕ) → has_site (sites_to n) s ≡ (nat_le 1 s && nat_le s n)
has_from_one zero s = grind arith
has_from_one (suc n) s =
    list_any-append (λ x. x == s) (sites_to n) (suc n ∷ []) ∙ ap (λ b. b || (suc n == s || false)) (has_from_one n s)
    ∙ has_test n s _ _ refl refl

-- what holds of all sites, with one more
pub all_next : (p : ℕ → Bool) (n : ℕ) → list_all p (sites_to (n + 1)) ≡ (list_all p (sites_to n) && p (n + 1))
all_next p n =
    ap (λ k. list_all p (sites_to k)) (add-one n) ∙ list_all-append p (sites_to n) (suc n ∷ [])
    ∙ ap (λ b. list_all p (sites_to n) && b) (and-true (p (suc n))) ∙ ap (λ k. list_all p (sites_to n) && p k) (sym (add-one n))
