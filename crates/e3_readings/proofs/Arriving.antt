-- The operations that came to a site, behind one more step.
use Rattle.std.specs.Prelude.{◌≡◌, ◌++◌, ◌∷◌, [], ℕ, List, fold}
use Rattle.std.proofs.Common.{ap, ◌∙◌, arith}
use Rattle.std.proofs.lemmas.Grind.{common_steps}
use Rattle.std.proofs.lemmas.List.Sums.{fold-append}
use Rattle.e3_world.specs.declared.lives.Moment.{Moment}
use Rattle.e3_world.specs.Operations.{Arrived, and_arrived, arrivals, arrived_by, taken_up}

-- the fold over steps keeps them
arrived_steps : (site : ℕ) (was : Arrived) (steps : List Moment) → (fold (arrived_by site) was steps).steps ≡ was.steps ++ steps
arrived_steps site was [] = grind (arith, common_steps)
arrived_steps site was (m ∷ ms) = arrived_steps site (arrived_by site was m) ms ∙ grind (arith, common_steps)

-- the arrivals behind one more step
pub arrivals_push : (site : ℕ) (steps : List Moment) (m : Moment) → arrivals site (steps ++ m ∷ []) ≡ and_arrived (arrivals site steps) m (taken_up site steps m)
arrivals_push site steps m =
    let was : Arrived = record { steps = []; asked = [] } in
    ap (λ (a : Arrived). a.asked) (fold-append (arrived_by site) was steps (m ∷ []))
    ∙ ap (λ (ss : List Moment). and_arrived (arrivals site steps) m (taken_up site ss m)) (arrived_steps site was steps)
