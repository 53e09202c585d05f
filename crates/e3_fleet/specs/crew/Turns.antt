-- What a site and its disk came to while others went on.
use Rattle.std.specs.Prelude.{◌≡◌, ◌≤◌, ◌++◌, ◌∷◌, [], ℕ, true, false, List, Result, Ok, Err, length}
use Rattle.e3_disk.specs.Meters.{Keeps, Meters}
use Rattle.e3_laws.specs.local.Others.{AreOthers}
use Rattle.e3_laws.specs.local.Workers.{AtItems}
use Rattle.e3_node.specs.Batches.{FellOverAll, stepped}
use Rattle.e3_node.specs.Ends.{FellOver}
use Rattle.e3_node.specs.site_log.Ends.{IsReason, Takes, calls_for}
use Rattle.e3_node.specs.Turns.{Meanwhile}
use Rattle.e3_node.specs.declared.fault.InputFault.{InputFault}
use Rattle.e3_node.specs.declared.fault.InputFault.TheVariants as input_fault
use Rattle.e3_play.specs.Entering.{AfterInput}
use Rattle.e3_play.specs.declared.sites.RunFault.{RunFault}
use Rattle.e3_play.specs.declared.sites.RunFault.TheVariants as run_fault
use Rattle.e3_types.specs.declared.entries.Entry.{Entry}
use Rattle.e3_types.specs.declared.entries.Input.{Input}
use Rattle.e3_types.specs.declared.entries.Why.{Why}
use Rattle.e3_types.specs.declared.scenarios.Scenario.{Scenario}
use Rattle.e3_world.specs.Items.{is_up_at}
use Rattle.e3_world.specs.Legal.{entry_of, made_by, records_by}
use Rattle.e3_world.specs.Moves.{log_of}

-- a step of a site that was up: what was left of an arm of its disk pays for the frame
pub record IsStepBy (sc : Scenario) (history : List Entry) (site : ℕ) (i : Input) (now : List Entry) (old new : Meters) : Type 0 where
  pub up : is_up_at history site ≡ true
  pub entered : now ≡ history ++ entry_of sc history site i ∷ []
  pub keeps : Keeps old new
  pub takes : Takes (calls_for (made_by sc history site i).records) old new

-- a fall of a site that was up, for this reason
pub record IsFallBy (sc : Scenario) (history : List Entry) (site : ℕ) (i : Input) (why : Why) (now : List Entry) (old new : Meters) : Type 0 where
  pub up : is_up_at history site ≡ true
  pub entered : FellOver sc history site i why now
  pub keeps : Keeps old new
  pub reason : IsReason why (log_of sc history site) (made_by sc history site i).records old new

-- the steps of a batch of a site that was up, of eight inputs at most: what was left of an arm pays for their one frame
pub record AreStepsBy (sc : Scenario) (history : List Entry) (site : ℕ) (inputs : List Input) (now : List Entry) (old new : Meters) : Type 0 where
  pub up : is_up_at history site ≡ true
  pub few : length inputs ≤ 8
  pub entered : now ≡ stepped sc history site inputs
  pub keeps : Keeps old new
  pub takes : Takes (calls_for (records_by sc history site inputs)) old new

-- a fall over a batch, for this reason
pub record IsFallOver (sc : Scenario) (history : List Entry) (site : ℕ) (inputs : List Input) (why : Why) (now : List Entry) (old new : Meters) : Type 0 where
  pub up : is_up_at history site ≡ true
  pub entered : FellOverAll sc history site inputs why now
  pub keeps : Keeps old new
  pub reason : IsReason why (log_of sc history site) (records_by sc history site inputs) old new

-- The history came of the first, and the numbers of the site's disk of the first numbers, by steps and falls of the site, one
-- by one or in batches, and by entries of others, which leave the disk as it is.
pub data WentOn (sc : Scenario) (site : ℕ) (start : List Entry) (first : Meters) : List Entry → Meters → Type 0 where
  AtStart : WentOn sc site start first start first
  BehindOthers : (before more now : List Entry) (m : Meters) → WentOn sc site start first before m → AreOthers site more →
      now ≡ before ++ more → WentOn sc site start first now m
  BehindStep : (before now : List Entry) (i : Input) (m n : Meters) → WentOn sc site start first before m →
      IsStepBy sc before site i now m n → WentOn sc site start first now n
  BehindFall : (before now : List Entry) (i : Input) (why : Why) (m n : Meters) → WentOn sc site start first before m →
      IsFallBy sc before site i why now m n → WentOn sc site start first now n
  BehindSteps : (before now : List Entry) (inputs : List Input) (m n : Meters) → WentOn sc site start first before m →
      AreStepsBy sc before site inputs now m n → WentOn sc site start first now n
  BehindFallOver : (before now : List Entry) (inputs : List Input) (why : Why) (m n : Meters) → WentOn sc site start first before m →
      IsFallOver sc before site inputs why now m n → WentOn sc site start first now n

-- what an input is to a worker: its site may fall over it, or be down and pass it over, and the worker goes on
abbrev pub given : {A : Type 0} → Result A InputFault → Result (Unit {0}) RunFault
given (Ok done) = Ok tt
given (Err input_fault.HistoryFull) = Err run_fault.HistoryFull
given (Err input_fault.NoMemory) = Err run_fault.NoMemory
given (Err fault) = Ok tt

-- The site took an input behind what others entered meanwhile; or it was down.
pub record HasTaken (sc : Scenario) (site : ℕ) (i : Input) (before now : List Entry) : Type 0 where
  pub up : is_up_at before site ≡ true → (met : List Entry) × Meanwhile site before met × AfterInput sc met site i now
  pub down : is_up_at before site ≡ false → Meanwhile site before now

-- so many of the items of the present step are done, where the site is up
abbrev pub AreDone : Scenario → List Entry → ℕ → List Input → ℕ → Type 0
AreDone sc history site items done = is_up_at history site ≡ true → AtItems sc history site items done
