-- The laws of sites that stand for alike incarnations.
use Rattle.std.specs.Prelude.{◌≡◌, ◌++◌, ◌∷◌, [], ℕ, List, fold}
use Rattle.e3_types.specs.declared.entries.Entry.{Entry}
use Rattle.e3_types.specs.declared.entries.Input.{Input}
use Rattle.e3_types.specs.declared.records.Record.{Record}
use Rattle.e3_types.specs.declared.scenarios.Scenario.{Scenario}
use Rattle.e3_world.specs.declared.lives.SiteStep.{SiteStep}
use Rattle.e3_world.specs.Items.{add_txn, open_at}
use Rattle.e3_world.specs.Legal.{entry_of, made_by}
use Rattle.e3_world.specs.Lives.{incarnation_of, life_of}
use Rattle.e3_world.specs.Moves.{log_of, moves_of}
use Rattle.e3_readings.specs.Opens.{open_in}
use Rattle.e3_world.specs.Brief.{brief}
use Rattle.e3_world.specs.Orderly.{IsOrderly}
use Rattle.e3_site.specs.StandsAlike.{IsLogInOrder, StandsAlike, now_with}
use Rattle.e3_site.specs.SiteView.{SiteView, Stands, planned_step, risen_with, step_kept, with_step}
use Rattle.e3_site.specs.StandsFor.{IsRisenWith, StandsFor}

-- what stands for a site exactly stands so too, by the log that the site rose with
abbrev pub ExactIsAlike : Type 0
ExactIsAlike = (sc : Scenario) (h : List Entry) (site : ℕ) (s : SiteView) → StandsFor sc h site s → StandsAlike sc h site (incarnation_of (moves_of sc h site)).rose s

-- so does what rose with these records, where the site's last move is the rise with a log of the same brief
abbrev pub RisesAlike : Type 0
RisesAlike = (sc : Scenario) (h : List Entry) (site : ℕ) (s : SiteView) (records log : List Record) → s.weights ≡ sc.weights → s.site ≡ site → Stands (risen_with records) s →
    IsRisenWith sc h site log → IsOrderly site records → IsOrderly site log → brief records ≡ brief log → StandsAlike sc h site records s

-- the step of the incarnation that the value stands for is the one that the history makes
abbrev pub PlansAlike : Type 0
PlansAlike = (sc : Scenario) (h : List Entry) (site : ℕ) (rose : List Record) (s : SiteView) (i : Input) → StandsAlike sc h site rose s → IsLogInOrder site (log_of sc h site) →
    planned_step (now_with rose sc h site) s i ≡ step_kept i (made_by sc h site i)

-- and what is open in that incarnation is open in the history
abbrev pub ListsOpenAlike : Type 0
ListsOpenAlike = (sc : Scenario) (h : List Entry) (site : ℕ) (rose : List Record) (s : SiteView) → StandsAlike sc h site rose s → IsOrderly site (log_of sc h site) →
    open_in s.site (life_of (now_with rose sc h site)) ≡ fold add_txn [] (open_at sc h site)

-- a value of the same weights and number that stands for the same incarnation stands for the site too, in each history with
-- these moves of it
abbrev pub StillAlike : Type 0
StillAlike = (sc : Scenario) (h k : List Entry) (site : ℕ) (rose : List Record) (old new : SiteView) → StandsAlike sc h site rose old → moves_of sc h site ≡ moves_of sc k site →
    new.weights ≡ old.weights → new.site ≡ old.site → Stands (now_with rose sc h site) new → StandsAlike sc k site rose new

-- one that stands for it with the step that the history makes stands for the site behind the entry of this step
abbrev pub GoesOnAlike : Type 0
GoesOnAlike = (sc : Scenario) (h : List Entry) (site : ℕ) (rose : List Record) (i : Input) (old new : SiteView) (step : SiteStep) → StandsAlike sc h site rose old →
    step ≡ step_kept i (made_by sc h site i) → new.weights ≡ old.weights → new.site ≡ old.site → Stands (with_step (now_with rose sc h site) step) new →
    StandsAlike sc (h ++ entry_of sc h site i ∷ []) site rose new
