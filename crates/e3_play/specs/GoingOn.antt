-- What each call of the driver keeps of its sites.
use Rattle.std.specs.Prelude.{◌≡◌, ℕ}
use Rattle.e3_types.specs.declared.scenarios.Scenario.{Scenario}

-- All parts stand for the history, what they came of before they came of still, and the scenario and the bound are the same.
pub record SitesGoOn {S : Type 0} (standing : S → Type 0) (came : S → S → Type 0) (scenario_in : S → Scenario) (most_in : S → ℕ) (before now : S) : Type 0 where
  pub stands : standing now
  pub since : (start : S) → came start before → came start now
  pub scenario : scenario_in now ≡ scenario_in before
  pub most : most_in now ≡ most_in before
