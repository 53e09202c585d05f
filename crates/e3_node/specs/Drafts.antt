-- A step that is ready to be made.
use Rattle.std.specs.Prelude.{◌≡◌, ◌<◌, ◌^◌, ◌∷◌, [], ℕ, List, length}
use Rattle.std.specs.List.{AllByRecursion as Each}
use Rattle.e3_codec.specs.Fields.{AllCanBeReadBack}
use Rattle.e3_site.specs.StandsAlike.{StandsAlike}
use Rattle.e3_node.specs.Telling.{IsOfSite}
use Rattle.e3_node.specs.declared.drafts.Draft.{Draft}
use Rattle.e3_site.specs.SiteView.{HasRoomFor, IsPlanOf, SiteView, planned_step}
use Rattle.e3_types.specs.Spelling.{spelling}
use Rattle.e3_types.specs.declared.entries.Entry.{Entry}
use Rattle.e3_types.specs.declared.entries.Input.{Input}
use Rattle.e3_types.specs.declared.records.Record.{Record}
use Rattle.e3_types.specs.declared.scenarios.Scenario.{Scenario}
use Rattle.e3_world.specs.declared.lives.Incarnation.{Incarnation}

-- All that the step of an input, and the fall that may stand in its place, take memory for; what it records can be read
-- back from the log of the site whose it is.
pub record IsDraft (i : Input) (draft : Draft) : Type 0 where
  pub body_is : draft.body ≡ spelling draft.plan.step.records
  pub back : (site : ℕ) → Each (IsOfSite site) draft.plan.step.records → AllCanBeReadBack site draft.plan.step.records
  pub inputs_are : draft.inputs ≡ i ∷ []

-- The draft is of what the input makes the site do in this incarnation, and the new value has room for it: it can be done
-- there without memory.
pub record IsReady (now : Incarnation) (i : Input) (old new : SiteView) (draft : Draft) : Type 0 where
  pub drafted : IsDraft i draft
  pub made : draft.plan.step ≡ planned_step now old i
  pub few : length draft.plan.step.outs < 2 ^ 32
  pub of_site : IsPlanOf draft.plan new
  pub room : HasRoomFor draft.plan new

-- for every history for which the old value stands, by whatever records, the new one does
abbrev pub StandsOnBy : SiteView → SiteView → Type 0
StandsOnBy old new = (sc : Scenario) (history : List Entry) (site : ℕ) (rose : List Record) → StandsAlike sc history site rose old → StandsAlike sc history site rose new

-- the new value is the old one, but for spare room
pub record IsAsBefore (old new : SiteView) : Type 0 where
  pub same : new ≡ record old { tables = new.tables }
  pub stands : StandsOnBy old new
