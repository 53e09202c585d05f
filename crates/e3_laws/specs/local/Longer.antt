-- Scenarios that go on otherwise.
use Rattle.std.specs.Prelude.{◌≡◌, ◌≤◌, ℕ, List, length}
use Rattle.e3_types.specs.declared.entries.Entry.{Entry}
use Rattle.e3_types.specs.declared.scenarios.Item.{Item}
use Rattle.e3_types.specs.declared.scenarios.Scenario.{Scenario}
use Rattle.e3_world.specs.Legal.{IsLegal}
use Rattle.e3_world.specs.Packets.{lines, step_items}

-- the scenario with the same keys and these steps
abbrev pub with_steps : Scenario → List (List Item) → Scenario
with_steps sc steps = record sc { steps = steps }

-- these steps are at least so many, and the first so many of them are the scenario's
pub record BeginAlike (sc : Scenario) (steps : List (List Item)) (n : ℕ) : Type 0 where
  pub many : n ≤ length steps
  pub same : (k : ℕ) → k ≤ n → step_items (with_steps sc steps) k ≡ step_items sc k

-- A legal history is legal for every scenario with the same keys whose steps begin with those of its lines.
abbrev pub LegalForLonger : Type 0
LegalForLonger = (sc : Scenario) (steps : List (List Item)) (h : List Entry) → IsLegal sc h → BeginAlike sc steps (lines h) →
    IsLegal (with_steps sc steps) h
