-- The steps of some inputs, made and not yet entered.
use Rattle.std.specs.Prelude.{◌≡◌, ◌≢◌, ◌+◌, ◌≤◌, ◌<◌, ◌++◌, ◌∷◌, [], ℕ, List, Option, Some, None, Result, Ok, Err, IfOk, OnErr, length, take}
use Rattle.std.specs.List.{AllByRecursion as Each}
use Rattle.e3_codec.specs.Fields.{AllCanBeReadBack}
use Rattle.e3_disk.specs.Meters.{Meters}
use Rattle.e3_log.specs.Stands.{LogState}
use Rattle.e3_node.specs.Batches.{FrameTakes, unnumbered_steps, stepped}
use Rattle.e3_node.specs.Briefing.{HasBody, IsBriefOf}
use Rattle.e3_node.specs.Several.{claims_for}
use Rattle.e3_node.specs.Telling.{IsOfSite}
use Rattle.e3_node.specs.declared.batching.Batch.{Batch}
use Rattle.e3_node.specs.declared.batching.Lengthened.{Lengthened}
use Rattle.e3_node.specs.declared.drafts.Draft.{Draft}
use Rattle.e3_node.specs.declared.briefing.Room.{Room}
use Rattle.e3_node.specs.declared.briefing.Room.TheVariants as room
use Rattle.e3_node.specs.declared.fault.InputFault.{InputFault}
use Rattle.e3_node.specs.declared.fault.InputFault.TheVariants as input_fault
use Rattle.e3_site.specs.SiteView.{SiteView}
use Rattle.e3_node.specs.site_log.Ends.{HasRoom, HasRoomUnlessShort, IsShortIf, size_of}
use Rattle.e3_node.specs.declared.site_log.writing.Short.{Short}
use Rattle.e3_site.specs.StandsAlike.{StandsAlike}
use Rattle.e3_turn.specs.Passes.{GrewByOthers}
use Rattle.e3_types.specs.Spelling.{spelling}
use Rattle.e3_types.specs.declared.entries.Entry.{Entry}
use Rattle.e3_types.specs.declared.entries.Input.{Input}
use Rattle.e3_types.specs.declared.records.Record.{Record}
use Rattle.e3_types.specs.declared.scenarios.Scenario.{Scenario}
use Rattle.e3_wire.specs.Claims.{APass}
use Rattle.e3_wire.specs.Marks.{belongs, entries_of, scenario_of}
use Rattle.e3_wire.specs.Wires.{IsPlayed}
use Rattle.e3_wire.specs.declared.marks.Mark.{Mark}
use Rattle.e3_wire.specs.declared.marks.Mark.TheVariants as mark
use Rattle.e3_world.specs.Legal.{records_by}
use Rattle.e3_world.specs.Moves.{log_of}

-- where a batch is made, behind this history and these marks, at a site that rose with these records and had counted so many
-- inputs; and its inputs so far
pub record BatchAt : Type 0 where
  pub scenario : Scenario
  pub history : List Entry
  pub site : ℕ
  pub rose : List Record
  pub marks : List Mark
  pub first : ℕ
  pub done : List Input

-- the first of two, if there is one
abbrev pub first_of : Option Short → Option Short → Option Short
first_of (Some new) old = Some new
first_of None old = old

-- what is said of the short log where there is room
abbrev pub IfReady : Room → (Option Short → Type 0) → Type 0
IfReady (room.Ready short) P = P short
IfReady room.Full P = Unit {0}

-- A batch has the steps of these inputs behind a history, and the site stands behind them. It counted no more inputs since
-- the first. Behind the marks of the history a place and the room of its packets are claimed for each. The log is turned for it
-- unless its frame has room.
pub record IsBatch {D : Type 0} (meters : D → Meters) (on_disk : LogState D) (sc : Scenario) (history : List Entry) (site : ℕ) (rose : List Record) (marks : List Mark) (first : ℕ) (done : List Input) (batch : Batch)
    (s : SiteView) (now : List Mark) : Type 0 where
  pub steps_are : batch.steps.items ≡ unnumbered_steps sc history site done
  pub records_are : batch.records ≡ records_by sc history site done
  pub body_is : batch.body ≡ spelling (records_by sc history site done)
  pub back : Each (IsOfSite site) (records_by sc history site done) → AllCanBeReadBack site (records_by sc history site done)
  pub stands : StandsAlike sc (stepped sc history site done) site rose s
  pub inputs : s.inputs ≤ first + length done
  pub claimed : now ≡ marks ++ claims_for (unnumbered_steps sc history site done)
  pub short : IsShortIf site (log_of sc history site) batch.short
  pub body : HasBody batch.short
  pub due : records_by sc history site done ≢ [] → HasRoomUnlessShort meters on_disk (log_of sc history site) batch.short (length batch.body)

-- What a batch has with the step of a draft. While the batch records nothing the site tells the brief of the log, and a short
-- log is one of that log. Where the batch had no short log, the frame of both has room behind the log, or a short log is there now.
pub record IsLonger {D : Type 0} (meters : D → Meters) (on_disk : LogState D) (batch : Batch) (s : SiteView) (draft : Draft) (longer : Lengthened) : Type 0 where
  pub records : longer.records ≡ batch.records ++ draft.plan.step.records
  pub body : longer.body ≡ batch.body ++ draft.body
  pub short : (log : List Record) → (batch.records ≡ [] → IsBriefOf s log) → IsShortIf s.site log longer.short
  pub has_body : HasBody longer.short
  pub due : (log : List Record) → (batch.records ≡ [] → IsBriefOf s log) → longer.records ≢ [] → batch.short ≡ None →
      HasRoomUnlessShort meters on_disk log longer.short (length longer.body)

-- A batch records something and its log is not turned, and behind the log its frame has no room for what the step of a draft
-- records: so it takes no more.
abbrev pub TakesNoMore : {D : Type 0} → (D → Meters) → LogState D → Batch → Draft → Type 0
TakesNoMore meters on_disk batch draft = (batch.records ≢ []) × (batch.short ≡ None) × (HasRoom meters on_disk (length (batch.body ++ draft.body)) → ⊥)

-- want of memory is the only refusal
abbrev pub OnlyForMemory : {A : Type 0} → Result A InputFault → Type 0
OnlyForMemory (Ok done) = Unit {0}
OnlyForMemory (Err input_fault.NoMemory) = Unit {0}
OnlyForMemory (Err fault) = ⊥

-- a batch made there
abbrev pub IsBatchAt : {D : Type 0} → (D → Meters) → LogState D → BatchAt → Batch → SiteView → List Mark → Type 0
IsBatchAt meters on_disk at batch s now = IsBatch meters on_disk at.scenario at.history at.site at.rose at.marks at.first at.done batch s now

-- Its steps record something, and the frame of that has room behind the log of a site that has one; with the step of one more
-- input it would have none.
abbrev pub HasNoMoreRoom : {D : Type 0} → (D → Meters) → LogState D → BatchAt → Input → Type 0
HasNoMoreRoom meters on_disk at i =
    (records_by at.scenario at.history at.site at.done ≢ [])
    × (log_of at.scenario at.history at.site ≢ [] → HasRoom meters on_disk (size_of (records_by at.scenario at.history at.site at.done)))
    × (HasRoom meters on_disk (size_of (records_by at.scenario at.history at.site (at.done ++ i ∷ []))) → ⊥)

-- So many of the inputs were added to a batch: where none was refused, as many as one frame takes, and that many are told.
pub record AreAdded {D : Type 0} (meters : D → Meters) (on_disk : LogState D) (sc : Scenario) (history : List Entry) (site : ℕ) (inputs : List Input) (answer : Result ℕ InputFault) (count : ℕ) : Type 0 where
  pub within : count ≤ length inputs
  pub all : IfOk answer (λ n. (n ≡ count) × FrameTakes meters on_disk sc history site inputs count)
  pub short : OnErr answer (count < length inputs)

-- What others put is behind what the pass had seen. Behind that all falls that was promised to the site, and a batch has the
-- first of the inputs, as many as were added.
pub record HasPlanned {D : Type 0} (meters : D → Meters) (on_disk : LogState D) (p : APass) (site : ℕ) (rose : List Record) (first : ℕ) (inputs : List Input) (answer : Result ℕ InputFault) (batch : Batch) (s : SiteView)
    (now : List Mark) : Type 0 where
  pub between : List Mark
  pub grew : GrewByOthers belongs p between
  pub played : IsPlayed between
  pub count : ℕ
  pub added : AreAdded meters on_disk (scenario_of between) (entries_of between) site inputs answer count
  pub made : IsBatch meters on_disk (scenario_of between) (entries_of between) site rose (between ++ mark.Freed site ∷ []) first (take count inputs) batch s now
