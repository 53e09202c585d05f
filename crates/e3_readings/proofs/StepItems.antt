-- The items of a step by its number in the code.
use Rattle.std.proofs.Common.{◌≡◌, ◌-◌, ◌≤◌, ℕ, zero, suc, ap, arith}
use Rattle.std.specs.Prelude.{slice_get}
use Rattle.e3_types.specs.declared.scenarios.Scenario.{Scenario}
use Rattle.e3_world.specs.Packets.{step_items, items_or}

pub items_from : (sc : Scenario) (n : ℕ) → 1 ≤ n → step_items sc n ≡ items_or (slice_get sc.steps (n - 1))
items_from sc zero some = absurd (omega (arith, some))
items_from sc (suc k) some = ap (λ j. items_or (slice_get sc.steps j)) (omega arith)
