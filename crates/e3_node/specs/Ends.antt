-- How the calls of a node end.
use Rattle.std.specs.Prelude.{◌≡◌, ◌≢◌, ◌⊎◌, ◌++◌, ◌∷◌, [], ℕ, Bool, true, false, List}
use Rattle.e3_disk.specs.Meters.{Meters}
use Rattle.e3_node.specs.declared.fault.CutFault.{CutFault}
use Rattle.e3_node.specs.declared.fault.CutFault.TheVariants as cut_fault
use Rattle.e3_node.specs.declared.fault.InputFault.{InputFault}
use Rattle.e3_node.specs.declared.fault.InputFault.TheVariants as input_fault
use Rattle.e3_node.specs.declared.fault.RiseFault.{RiseFault}
use Rattle.e3_node.specs.declared.fault.RiseFault.TheVariants as rise_fault
use Rattle.e3_node.specs.declared.state.State.{State}
use Rattle.e3_node.specs.declared.state.State.TheVariants.{Down, Up}
use Rattle.e3_log.specs.Stands.{LogState}
use Rattle.e3_play.specs.Entering.{fall_of}
use Rattle.e3_types.specs.declared.entries.Act.TheVariants.{Rise, RiseFall}
use Rattle.e3_types.specs.declared.entries.Entry.{Entry}
use Rattle.e3_types.specs.declared.entries.Input.{Input}
use Rattle.e3_types.specs.declared.entries.Why.{Why}
use Rattle.e3_types.specs.declared.records.Record.{Record}
use Rattle.e3_types.specs.Spelling.{spelling}
use Rattle.e3_types.specs.declared.scenarios.Scenario.{Scenario}
use Rattle.e3_wire.specs.declared.fault.WireFault.{WireFault}
use Rattle.e3_wire.specs.declared.fault.WireFault.TheVariants as wire_fault
use Rattle.e3_world.specs.Brief.{brief}
use Rattle.e3_world.specs.Legal.{IsRise, made_by}
use Rattle.e3_world.specs.Moves.{rise_records}
use Rattle.e3_node.specs.Bodies.{IsKeptExactly, IsRead, log_with}
use Rattle.e3_node.specs.site_log.Bodies.{joined}
use Rattle.e3_node.specs.site_log.Ends.{HasRoom, IsBehind, IsReason, IsTurned, size_of}

-- A relation of the logs of a site that was up and is up.
abbrev pub OnLogs : {D : Type 0} → (LogState D → LogState D → Type 0) → State D → State D → Type 0
OnLogs P (Up s old rose logged) (Up t new risen count) = P old new
OnLogs P old new = ⊥

-- What a log is behind one that had the records of this log, once these are written: as it was where there are none. Else they
-- are one frame, behind the frames before it; or, where it had no room there, behind the brief of this log, in the other region.
abbrev pub IsOneFrame : {D : Type 0} → (D → Meters) → List Record → List Record → LogState D → LogState D → Type 0
IsOneFrame meters log [] old new = new ≡ old
IsOneFrame meters log (r ∷ rs) old new = IsBehind old (r ∷ rs) new
    ⊎ ((HasRoom meters old (size_of (r ∷ rs)) → ⊥) × IsTurned meters old (spelling (brief log)) (r ∷ rs) new)

-- The frame of these records has room behind the log of a site that is up.
abbrev pub HasRoomBehind : {D : Type 0} → (D → Meters) → State D → List Record → Type 0
HasRoomBehind meters (Up s log rose logged) records = HasRoom meters log (size_of records)
HasRoomBehind meters (Down disk logged) records = ⊥

-- the site fell over an input for this reason: its step records something, and the fall is entered in its place
pub record FellOver (sc : Scenario) (history : List Entry) (site : ℕ) (i : Input) (why : Why) (more : List Entry) : Type 0 where
  pub some : (made_by sc history site i).records ≢ []
  pub entered : more ≡ history ++ fall_of sc history site i why ∷ []

-- The site rose in this incarnation, and kept its open tail or not: what its disk was read as is what the rise keeps.
pub record HasRisen (sc : Scenario) (history : List Entry) (site inc : ℕ) (more : List Entry) (capacity : ℕ) (image : List ℕ → Type 0) : Type 0 where
  pub kept : Bool
  pub allowed : IsRise sc history site kept inc
  pub entered : more ≡ history ++ record { owner = site; act = Rise kept inc } ∷ []
  pub read : IsRead sc history site capacity kept image
  pub exactly : IsKeptExactly sc history site kept (joined read.reads.lists)

-- The rise of the site failed for this reason: its records are those of a rise behind what it kept.
pub record HasFailedToRise (sc : Scenario) (history : List Entry) (site : ℕ) (why : Why) (more : List Entry) (old new : Meters)
    (image : List ℕ → Type 0) : Type 0 where
  pub kept : Bool
  pub inc : ℕ
  pub allowed : IsRise sc history site kept inc
  pub entered : more ≡ history ++ record { owner = site; act = RiseFall kept inc why } ∷ []
  pub read : IsRead sc history site old.capacity kept image
  pub exactly : IsKeptExactly sc history site kept (joined read.reads.lists)
  pub reason : IsReason why (log_with sc history site kept) (rise_records sc site inc (log_with sc history site kept)) old new

-- the fault has an entry
abbrev pub is_fall : InputFault → Bool
is_fall (input_fault.Fell why) = true
is_fall _ = false

-- what a claim that was refused is to a rise, an input and a cut
abbrev pub rise_fault_of : WireFault → RiseFault
rise_fault_of wire_fault.HistoryFull = rise_fault.HistoryFull
rise_fault_of wire_fault.NoMemory = rise_fault.NoMemory

abbrev pub input_fault_of : WireFault → InputFault
input_fault_of wire_fault.HistoryFull = input_fault.HistoryFull
input_fault_of wire_fault.NoMemory = input_fault.NoMemory

abbrev pub cut_fault_of : WireFault → CutFault
cut_fault_of wire_fault.HistoryFull = cut_fault.HistoryFull
cut_fault_of wire_fault.NoMemory = cut_fault.NoMemory
