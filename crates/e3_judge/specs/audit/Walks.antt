-- How far a walk over a history came.
use Rattle.std.specs.Prelude.{◌≡◌, ◌≤◌, true, List, length, take}
use Rattle.e3_types.specs.declared.entries.Entry.{Entry}
use Rattle.e3_types.specs.declared.scenarios.Scenario.{Scenario}
use Rattle.e3_world.specs.Legal.{IsLegal, is_through}
use Rattle.e3_judge.specs.declared.audit.walking.Walked.{Walked}

-- the entries before the place are legal; where it is said that all before the next line is through, the place is the end,
-- and it is
pub record IsWalked (sc : Scenario) (history : List Entry) (w : Walked) : Type 0 where
  pub within : w.passed ≤ length history
  pub legal : IsLegal sc (take w.passed history)
  pub whole : w.through ≡ true → w.passed ≡ length history
  pub through : w.through ≡ true → is_through sc history ≡ true
