-- What a call with several packets makes of a history.
use Rattle.std.specs.Prelude.{◌≡◌, ◌≢◌, ◌⊎◌, ◌+◌, ◌<◌, ◌++◌, ◌∷◌, [], ℕ, List, Result, Ok, Err, length, map, take}
use Rattle.e3_disk.specs.Meters.{Meters}
use Rattle.e3_log.specs.Stands.{LogState}
use Rattle.e3_node.specs.Ends.{HasRoomBehind, IsOneFrame, OnLogs}
use Rattle.e3_node.specs.NodeView.{disk_of}
use Rattle.e3_node.specs.Turns.{Meanwhile}
use Rattle.e3_node.specs.declared.fault.InputFault.{InputFault}
use Rattle.e3_node.specs.declared.fault.InputFault.TheVariants as input_fault
use Rattle.e3_node.specs.declared.state.State.{State}
use Rattle.e3_node.specs.declared.state.State.TheVariants.{Down, Up}
use Rattle.e3_node.specs.site_log.Ends.{HasRoom, IsReason, Takes, calls_for, size_of}
use Rattle.e3_types.specs.declared.entries.Act.TheVariants.{Fall, Step}
use Rattle.e3_types.specs.declared.entries.Entry.{Entry}
use Rattle.e3_types.specs.declared.entries.Input.{Input}
use Rattle.e3_types.specs.declared.entries.Why.{Why}
use Rattle.e3_types.specs.declared.entries.Why.TheVariants.{Fault}
use Rattle.e3_types.specs.declared.scenarios.Scenario.{Scenario}
use Rattle.e3_world.specs.declared.lives.Made.{Made}
use Rattle.e3_world.specs.Items.{inputs_of}
use Rattle.e3_world.specs.Legal.{entry_of, made_by, records_by}
use Rattle.e3_world.specs.Moves.{log_of, unnumbered}

-- the history with the steps of these inputs, each behind those before it
abbrev pub stepped : Scenario → List Entry → ℕ → List Input → List Entry
stepped sc history site [] = history
stepped sc history site (i ∷ inputs) = stepped sc (history ++ entry_of sc history site i ∷ []) site inputs

-- the inputs of steps
abbrev pub inputs_in : List Entry → List Input
inputs_in [] = []
inputs_in (e ∷ es) = inputs_of e.act ++ inputs_in es

-- the entry of a step, its packets without numbers
abbrev pub unnumbered_of : ℕ → Input → Made → Entry
unnumbered_of site i made = record { owner = site; act = Step i made.records (map unnumbered made.outs) made.told }

-- the entries of these steps
abbrev pub unnumbered_steps : Scenario → List Entry → ℕ → List Input → List Entry
unnumbered_steps sc history site [] = []
unnumbered_steps sc history site (i ∷ inputs) =
    unnumbered_of site i (made_by sc history site i) ∷ unnumbered_steps sc (history ++ entry_of sc history site i ∷ []) site inputs

-- the fall over these inputs
abbrev pub fall_over : Scenario → List Entry → ℕ → List Input → Why → Entry
fall_over sc history site inputs why = record { owner = site; act = Fall inputs (records_by sc history site inputs) why }

-- the site fell over these inputs for this reason: their steps record something, and the fall is entered in their place
pub record FellOverAll (sc : Scenario) (history : List Entry) (site : ℕ) (inputs : List Input) (why : Why) (more : List Entry) : Type 0 where
  pub some : records_by sc history site inputs ≢ []
  pub entered : more ≡ history ++ fall_over sc history site inputs why ∷ []

-- Fewer than all of these inputs fill a frame: the first n record something, and the frame of that has room behind this log, but
-- with the records of the next it would have none.
pub record FillFrame {D : Type 0} (meters : D → Meters) (log : LogState D) (sc : Scenario) (history : List Entry) (site : ℕ) (inputs : List Input) (n : ℕ) : Type 0 where
  pub fewer : n < length inputs
  pub some : records_by sc history site (take n inputs) ≢ []
  pub room : HasRoom meters log (size_of (records_by sc history site (take n inputs)))
  pub full : HasRoom meters log (size_of (records_by sc history site (take (n + 1) inputs))) → ⊥

module _ {D : Type 0} (meters : D → Meters) where
  -- One frame takes the first n of these inputs: all of them, or those that fill it.
  abbrev pub FrameTakes : LogState D → Scenario → List Entry → ℕ → List Input → ℕ → Type 0
  FrameTakes log sc history site inputs n = (n ≡ length inputs) ⊎ FillFrame meters log sc history site inputs n

  -- so it is behind the log of a site that is up
  abbrev pub OneFrameTakes : State D → Scenario → List Entry → ℕ → List Input → ℕ → Type 0
  OneFrameTakes (Down disk logged) sc history site inputs n = ⊥
  OneFrameTakes (Up s log rose logged) sc history site inputs n = FrameTakes log sc history site inputs n

  -- The site made the steps of these inputs behind what others entered: their records are one frame, or none. It took its calls of
  -- an arm.
  pub record HasSteppedAll (sc : Scenario) (before more : List Entry) (site : ℕ) (inputs : List Input) (old new : State D) : Type 0 where
    pub now : List Entry
    pub meanwhile : Meanwhile site before now
    pub entered : more ≡ stepped sc now site inputs
    pub takes : Takes (calls_for (records_by sc before site inputs)) (meters (disk_of old)) (meters (disk_of new))
    pub frame : OnLogs (IsOneFrame meters (log_of sc before site) (records_by sc before site inputs)) old new

  -- or it fell over them, and the reason is true: for want of room only where their frame had none behind the log
  pub record HasFallenOverAll (sc : Scenario) (before more : List Entry) (site : ℕ) (inputs : List Input) (why : Why) (old : State D) (disk : D) : Type 0 where
    pub now : List Entry
    pub meanwhile : Meanwhile site before now
    pub fell : FellOverAll sc now site inputs why more
    pub reason : IsReason why (log_of sc before site) (records_by sc before site inputs) (meters (disk_of old)) (meters disk)
    pub room : HasRoomBehind meters old (records_by sc before site inputs) → why ≡ Fault

  -- It did so with the first of these inputs alone: memory was wanting for the one behind those.
  abbrev pub EndedShort : Scenario → List Entry → List Entry → ℕ → List Input → State D → State D → Type 0
  EndedShort sc before more site inputs old new = (n : ℕ) × (n < length inputs)
      × (HasSteppedAll sc before more site (take n inputs) old new
      ⊎ ((why : Why) × HasFallenOverAll sc before more site (take n inputs) why old (disk_of new)))

  -- How a batch ended: with the steps of as many of its inputs as one frame takes, and that many are told; or a fall over so many;
  -- or so with those before the one that memory was wanting for, of whose frame no more is said. Else, where they are not all, their
  -- frame has room behind the log, so that no turn comes for it, and no fall but for a fault of the disk. A site that was down did
  -- nothing. No batch is refused for a full history.
  abbrev pub BatchEnded : Scenario → List Entry → List Entry → ℕ → List Input → State D → State D → Result ℕ InputFault → Type 0
  BatchEnded sc before more site inputs old new (Ok n) =
      OneFrameTakes old sc before site inputs n × HasSteppedAll sc before more site (take n inputs) old new
  BatchEnded sc before more site inputs old new (Err (input_fault.Fell why)) =
      (n : ℕ) × OneFrameTakes old sc before site inputs n × HasFallenOverAll sc before more site (take n inputs) why old (disk_of new)
  BatchEnded sc before more site inputs old new (Err input_fault.Down) = (more ≡ before) × (new ≡ old)
  BatchEnded sc before more site inputs old new (Err input_fault.NoMemory) = EndedShort sc before more site inputs old new
  BatchEnded sc before more site inputs old new (Err input_fault.HistoryFull) = ⊥
