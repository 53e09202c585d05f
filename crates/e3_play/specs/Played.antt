-- The steps of a scenario, and how far the driver is with one.
use Rattle.std.specs.Prelude.{◌≡◌, ◌≢◌, ◌⊎◌, ◌≤◌, ◌∷◌, [], ℕ, true, List, length}
use Rattle.e3_play.specs.Settled.{StaysInStep, is_asking, is_parted}
use Rattle.e3_types.specs.declared.entries.Entry.{Entry}
use Rattle.e3_types.specs.declared.scenarios.Item.{Item}
use Rattle.e3_types.specs.declared.scenarios.Item.TheVariants as item
use Rattle.e3_types.specs.declared.scenarios.Scenario.{Scenario}
use Rattle.e3_world.specs.Items.{plan_of, since_line, taken_at}
use Rattle.e3_world.specs.Legal.{IsLegal, begins_with_parts, is_through}
use Rattle.e3_world.specs.Packets.{lines, pending, present_items}
use Rattle.e3_world.specs.Progress.{Delivering}
use Rattle.e3_world.specs.declared.names.Addressed.{Addressed}

-- the step is a crash, a restart, a recovery or a stop, of a site that exists; a stop counts from 1
abbrev pub StandsAlone : Scenario → List Item → Type 0
StandsAlone sc (item.Crash site ∷ []) = Unit {0}
StandsAlone sc (item.Restart site ∷ []) = (1 ≤ site) × (site ≤ length sc.weights)
StandsAlone sc (item.Recover sites ∷ []) = Unit {0}
StandsAlone sc (item.Stop site calls leave ∷ []) = (1 ≤ calls) × (1 ≤ site) × (site ≤ length sc.weights)
StandsAlone sc _ = ⊥

-- a step of a scenario that keeps the rules
abbrev pub IsStep : Scenario → List Item → Type 0
IsStep sc items = (is_asking items ≡ true) ⊎ StandsAlone sc items

-- the parts that the step asks for are set, and the sites have taken nothing of it yet
pub record IsAsked (start history : List Entry) (items : List Item) : Type 0 where
  pub grown : StaysInStep start history
  pub fresh : (site : ℕ) → taken_at history site ≡ []
  pub parted : is_parted items ≡ true → begins_with_parts (since_line history) ≡ true

-- so many steps are through, nothing is pending, and the next line may come
pub record IsSettled (sc : Scenario) (history : List Entry) (done : ℕ) : Type 0 where
  pub legal : IsLegal sc history
  pub at : lines history ≡ done
  pub none : pending sc history ≡ []
  pub through : is_through sc history ≡ true

-- the line of a step is entered, nothing else of it, and nothing is pending
pub record IsFresh (sc : Scenario) (history : List Entry) (items : List Item) : Type 0 where
  pub legal : IsLegal sc history
  pub begun : lines history ≢ 0
  pub present : present_items sc history ≡ items
  pub fresh : since_line history ≡ []
  pub none : pending sc history ≡ []

-- A step is entered but for what the sites do of it: these inputs are what it asks of them. Whatever sites enter, once what it
-- asks is done and nothing is pending so many steps are through.
pub record IsReady (sc : Scenario) (done : ℕ) (history : List Entry) (inputs : List Addressed) : Type 0 where
  pub begun : lines history ≢ 0
  pub form : is_asking (present_items sc history) ≡ true
  pub asked : inputs ≡ plan_of sc history
  pub fresh : (site : ℕ) → taken_at history site ≡ []
  pub settles : (now : List Entry) → StaysInStep history now → Delivering sc now → pending sc now ≡ [] → IsSettled sc now done
