-- What a site keeps, what it stands for, and what a plan of it is.
use Rattle.std.specs.Prelude.{◌++◌, ◌∷◌, [], if◌then◌else◌, ℕ, suc, nat_lt, List, map}
use Rattle.e3_site.specs.declared.past.tables.Behind.{Behind}
use Rattle.e3_site.specs.declared.past.tables.Tables.{Tables}
use Rattle.e3_site.specs.past.Standing.{TablesStand}
use Rattle.e3_site.specs.past.Stepping.{HasRoom, IsMadeOf}
use Rattle.e3_types.specs.declared.entries.Act.TheVariants.{Step}
use Rattle.e3_types.specs.declared.entries.Entry.{Entry}
use Rattle.e3_types.specs.declared.entries.Input.{Input}
use Rattle.e3_types.specs.declared.records.Record.{Record}
use Rattle.e3_world.specs.declared.lives.Incarnation.{Incarnation}
use Rattle.e3_world.specs.declared.lives.Made.{Made}
use Rattle.e3_world.specs.declared.lives.SiteStep.{SiteStep}
use Rattle.e3_world.specs.Lives.{life_of}
use Rattle.e3_world.specs.Moves.{unnumbered, unnumbered_input}
use Rattle.e3_world.specs.Steps.{step_of}

-- the weights of all sites, that of site 1 first; the site's number; the inputs that it took; and its tables
pub record SiteView : Type 0 where
  pub weights : List ℕ
  pub site : ℕ
  pub inputs : ℕ
  pub tables : Tables

-- the value stands for a site in this incarnation: its tables are those of the incarnation's life
abbrev pub Stands : Incarnation → SiteView → Type 0
Stands now s = TablesStand s.site (life_of now) s.tables

-- the incarnation of a site that rose with this log and made no step since
abbrev pub risen_with : List Record → Incarnation
risen_with log = record { rose = log; since = [] }

-- the site did the step last
abbrev pub with_step : Incarnation → SiteStep → Incarnation
with_step was step = record { rose = was.rose; since = was.since ++ step ∷ [] }

-- a step as a site keeps it: its packets, and one that it took, have no number
abbrev pub step_kept : Input → Made → SiteStep
step_kept i made = record { input = unnumbered_input i; records = made.records; outs = map unnumbered made.outs; told = made.told }

-- what an input makes a site in this incarnation do, as the site keeps it
abbrev pub planned_step : Incarnation → SiteView → Input → SiteStep
planned_step now s i = step_kept i (step_of s.weights s.site now i)

-- a plan: the step, and what it makes of the tables
pub record PlanView : Type 0 where
  pub step : SiteStep
  pub behind : Behind

-- what the plan makes of tables is what its step makes of the value's
abbrev pub IsPlanOf : PlanView → SiteView → Type 0
IsPlanOf plan s = IsMadeOf s.tables plan.step plan.behind

-- the value's tables have room for what the plan makes of them
abbrev pub HasRoomFor : PlanView → SiteView → Type 0
HasRoomFor plan s = HasRoom s.tables plan.behind

-- one more, up to the greatest number of the count's type
abbrev pub count_on : ℕ → ℕ
count_on n = if nat_lt n 4294967295 then suc n else n

-- the entry of a step
abbrev pub entry_of_plan : ℕ → Input → SiteStep → Entry
entry_of_plan owner i step = record { owner = owner; act = Step i step.records step.outs step.told }
