-- What the tests and the judge's answer mean.
use Rattle.std.specs.Prelude.{◌≡◌, ◌↔◌, ℕ, Bool, true, List, Option, Some, None, IfSome, take, slice_get}
use Rattle.std.specs.Bool.{Decides}
use Rattle.e3_types.specs.declared.entries.Entry.{Entry}
use Rattle.e3_types.specs.declared.scenarios.Scenario.{Scenario}
use Rattle.e3_world.specs.Items.{is_up_at}
use Rattle.e3_world.specs.Legal.{IsLegal, IsWhole, Guard}
use Rattle.e3_judge.specs.declared.breach.Breach.{Breach}
use Rattle.e3_judge.specs.Checks.{is_site, checks, first_failing, first_breach, is_whole}

-- the test of two is true exactly where the two are equal
abbrev pub IsExact : {X : Type 0} → (X → X → Bool) → Type 0
IsExact {X} same = (x y : X) → Decides (same x y) (x ≡ y)

-- in a legal history a site that is up is one of the scenario
abbrev pub UpIsSite : Type 0
UpIsSite = (sc : Scenario) (h : List Entry) (site : ℕ) → IsLegal sc h → is_up_at h site ≡ true → is_site sc site ≡ true

-- behind a legal history, the checks of an entry all pass exactly where its guard holds
abbrev pub ChecksAreGuard : Type 0
ChecksAreGuard = (sc : Scenario) (h : List Entry) (e : Entry) → IsLegal sc h → (first_failing (checks sc h e) ≡ None) ↔ Guard sc h e

-- The history breaks the rules here: the entries before this place are legal, and the guard of the entry at it does not
-- hold. The check that is named is the first of the entry's that fails.
pub record IsBreach (sc : Scenario) (h : List Entry) (b : Breach) : Type 0 where
  pub entry : Entry
  pub there : slice_get h b.at ≡ Some entry
  pub legal_before : IsLegal sc (take b.at h)
  pub broken : Guard sc (take b.at h) entry → ⊥
  pub named : first_failing (checks sc (take b.at h) entry) ≡ Some b.guard

-- What a judge says of a history: the first entry that fails a guard, with the first that it fails; none exactly where the
-- history is legal; and what is named breaks the rules.
pub record IsJudged (sc : Scenario) (h : List Entry) (breach : Option Breach) : Type 0 where
  pub found : breach ≡ first_breach sc h
  pub legal : (breach ≡ None) ↔ IsLegal sc h
  pub broken : IfSome breach (IsBreach sc h)

-- no breach is found exactly where the history is legal
abbrev pub NoBreachIsLegal : Type 0
NoBreachIsLegal = (sc : Scenario) (h : List Entry) → (first_breach sc h ≡ None) ↔ IsLegal sc h

-- what is found is a breach
abbrev pub BreachIsBroken : Type 0
BreachIsBroken = (sc : Scenario) (h : List Entry) (b : Breach) → first_breach sc h ≡ Some b → IsBreach sc h b

-- the test of a whole history is true exactly where it is legal and went through the whole scenario
abbrev pub WholeIsWhole : Type 0
WholeIsWhole = (sc : Scenario) (h : List Entry) → Decides (is_whole sc h) (IsWhole sc h)
