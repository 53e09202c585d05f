-- No set of sites has one above 64.
use Rattle.std.proofs.Common.{◌≡◌, ◌≤◌, ℕ, Bool, true, false, List, [], ◌∷◌, refl, arith, eqb, eqb-true}
use Rattle.std.proofs.lemmas.Grind.{common_steps}
use Rattle.e3_types.specs.Sets.{ascends, has_site}

pub has_low : (low site : ℕ) (sites : List ℕ) → ascends low sites ≡ true → has_site sites site ≡ true → site ≤ 64
has_low low site [] up has = absurd cc
has_low low site (x ∷ xs) up has =
    let small : x ≤ 64 = grind (arith, common_steps, up) in
    let rest : ascends x xs ≡ true = grind (arith, common_steps, up) in
    by (eqb x site) refl small (λ k. has_low x site xs rest k)
  where
    by : (b : Bool) → eqb x site ≡ b → x ≤ 64 → (has_site xs site ≡ true → site ≤ 64) → site ≤ 64
    by true here small more = (let same : x ≡ site = eqb-true x site here in omega (arith, same, small))
    by false other small more = more (grind (arith, common_steps, other, has))
