-- What it is that a site of the program stands for a site of a history, and what its steps are then.
use Rattle.std.specs.Prelude.{◌≡◌, ◌++◌, ◌∷◌, [], ℕ, List, fold}
use Rattle.e3_types.specs.declared.entries.Entry.{Entry}
use Rattle.e3_types.specs.declared.entries.Input.{Input}
use Rattle.e3_types.specs.declared.records.Record.{Record}
use Rattle.e3_types.specs.declared.scenarios.Scenario.{Scenario}
use Rattle.e3_types.specs.declared.transactions.Txn.{Txn}
use Rattle.e3_world.specs.declared.lives.Incarnation.{Incarnation}
use Rattle.e3_world.specs.declared.lives.SiteStep.{SiteStep}
use Rattle.e3_world.specs.Items.{add_txn, open_at}
use Rattle.e3_world.specs.Legal.{entry_of, made_by}
use Rattle.e3_world.specs.Lives.{incarnation_of}
use Rattle.e3_world.specs.Moves.{Move, Rose, log_of, moves_of}
use Rattle.e3_site.specs.SiteView.{SiteView, Stands, step_kept}

-- the value has the site's number and the scenario's weights, and stands for the incarnation that the site's moves make
pub record StandsFor (sc : Scenario) (history : List Entry) (site : ℕ) (s : SiteView) : Type 0 where
  pub weights_are : s.weights ≡ sc.weights
  pub site_is : s.site ≡ site
  pub stands : Stands (incarnation_of (moves_of sc history site)) s

-- the last move of the site is a rise, and its log is this one
pub record IsRisenWith (sc : Scenario) (history : List Entry) (site : ℕ) (log : List Record) : Type 0 where
  pub before : List Move
  pub inc : ℕ
  pub records : List Record
  pub last : moves_of sc history site ≡ before ++ record { site = site; did = Rose inc records } ∷ []
  pub log_is : log ≡ log_of sc history site

-- the value stands for every history whose weights are its own and in which the site's last move is the rise with this log
abbrev pub StandsRisen : List Record → SiteView → Type 0
StandsRisen log s =
    (sc : Scenario) (history : List Entry) → s.weights ≡ sc.weights → IsRisenWith sc history s.site log → StandsFor sc history s.site s

-- The step is the one that each history makes of the input for which the value stands and that has the site in this
-- incarnation.
abbrev pub PlansStep : Incarnation → SiteView → Input → SiteStep → Type 0
PlansStep now s i step =
    (sc : Scenario) (history : List Entry) → StandsFor sc history s.site s → incarnation_of (moves_of sc history s.site) ≡ now
    → step ≡ step_kept i (made_by sc history s.site i)

-- Where the old value stands for a history, the new one stands for the history with the step entry of any input of which
-- the history makes this step.
abbrev pub StandsOn : SiteView → SiteStep → SiteView → Type 0
StandsOn old step new =
    (sc : Scenario) (history : List Entry) (i : Input) → StandsFor sc history old.site old → step ≡ step_kept i (made_by sc history old.site i)
    → StandsFor sc (history ++ entry_of sc history old.site i ∷ []) old.site new

-- for every history for which the old value stands the new one does
abbrev pub StandsStill : SiteView → SiteView → Type 0
StandsStill old new = (sc : Scenario) (history : List Entry) (site : ℕ) → StandsFor sc history site old → StandsFor sc history site new

-- where the value stands for a history, these are the transactions that are open at the site there
abbrev pub ListsOpen : SiteView → List Txn → Type 0
ListsOpen s txns =
    (sc : Scenario) (history : List Entry) → StandsFor sc history s.site s → txns ≡ fold add_txn [] (open_at sc history s.site)
