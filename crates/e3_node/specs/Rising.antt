-- A rise of a site over its disk.
use Rattle.std.specs.Prelude.{◌≡◌, ◌⊎◌, ◌<◌, ◌≤◌, ◌^◌, ◌++◌, ◌∷◌, [], ℕ, Bool, suc, nat_lt, List, Result, Ok, Err, length}
use Rattle.std.specs.List.{flat_map}
use Rattle.e3_codec.specs.Fields.{AllCanBeReadBack}
use Rattle.e3_codec.specs.Places.{FirstBad}
use Rattle.e3_disk.specs.Meaning.{Meaning}
use Rattle.e3_disk.specs.Meters.{Meters, HasFailed}
use Rattle.e3_log.specs.declared.fault.OpenCause.{OpenCause}
use Rattle.e3_log.specs.declared.fault.OpenCause.TheVariants as causes
use Rattle.e3_node.specs.Bodies.{DiskTells, IsRead, log_with}
use Rattle.e3_node.specs.NodeStands.{IsUp}
use Rattle.e3_node.specs.declared.fault.RiseFault.{RiseFault}
use Rattle.e3_node.specs.declared.fault.RiseFault.TheVariants as rise_fault
use Rattle.e3_node.specs.declared.readying.Readied.{Readied}
use Rattle.e3_node.specs.declared.readying.Unready.{Unready}
use Rattle.e3_node.specs.declared.readying.Unready.TheVariants as unready
use Rattle.e3_node.specs.declared.readying.Wish.{Wish}
use Rattle.e3_node.specs.declared.rising.Raised.{Raised}
use Rattle.e3_node.specs.declared.rising.Raised.TheVariants.{Risen, Failed, Missed, NoMemory, Foreign}
use Rattle.e3_node.specs.declared.state.State.{State}
use Rattle.e3_node.specs.declared.state.State.TheVariants.{Down, Up}
use Rattle.e3_log.specs.Stands.{LogState}
use Rattle.e3_site.specs.Rebuilt.{IsRebuilt, StandsForEach}
use Rattle.e3_site.specs.SiteView.{SiteView}
use Rattle.e3_node.specs.site_log.Ends.{IsReason, Takes}
use Rattle.e3_types.specs.Spelling.{spelling}
use Rattle.e3_types.specs.declared.entries.Act.TheVariants as act
use Rattle.e3_types.specs.declared.entries.Entry.{Entry}
use Rattle.e3_types.specs.declared.entries.Why.{Why}
use Rattle.e3_types.specs.declared.records.Record.{Record}
use Rattle.e3_types.specs.declared.records.Record.TheVariants as log
use Rattle.e3_types.specs.declared.scenarios.Scenario.{Scenario}
use Rattle.e3_types.specs.declared.transactions.Row.{Row}
use Rattle.e3_node.specs.SharedStands.{SharedGoesOn}
use Rattle.e3_wire.specs.Marks.{entries_of}
use Rattle.e3_wire.specs.declared.marks.Mark.{Mark}
use Rattle.e3_world.specs.Given.{IsGiven}
use Rattle.e3_world.specs.Legal.{IsLegal, IsRise, IsRising}
use Rattle.e3_world.specs.Logs.{logged_inc}
use Rattle.e3_world.specs.Orderly.{IsOrderly}
use Rattle.e3_world.specs.Moves.{rise_records, rows_at}

-- what a rise takes with it to the disk is this site's
pub record IsWish (site : ℕ) (weights : List ℕ) (rows : List Row) (wish : Wish) : Type 0 where
  pub site_is : wish.site ≡ site
  pub weights_are : wish.weights ≡ weights
  pub rows_are : wish.rows ≡ rows

-- the birth, where the log is empty
abbrev pub born_by : Wish → List Record → List Record
born_by wish [] = log.Birth 1 wish.site wish.weights wish.rows ∷ []
born_by wish (r ∷ rs) = []

-- the records of a rise behind a log
abbrev pub records_by : Wish → ℕ → List Record → List Record
records_by wish inc records = born_by wish records ++ log.Inc inc ∷ []

-- A rise over a disk with these bodies that is ready to be made: what they spell is kept, all of it. A number tells whether a
-- tail is in it.
pub record IsReady (wish : Wish) (logged : ℕ) (bodies : List (List ℕ)) (ready : Readied) : Type 0 where
  pub read : List Record
  pub back : AllCanBeReadBack wish.site read
  pub spelled : flat_map (λ body. body) bodies ≡ spelling read
  pub few : length read < 2 ^ 64
  pub kept_is : ready.kept ≡ nat_lt logged (length read)
  pub inc_is : ready.inc ≡ suc (logged_inc read)
  pub records_are : ready.records ≡ records_by wish ready.inc read
  pub body_is : ready.body ≡ spelling ready.records
  pub fits : AllCanBeReadBack wish.site ready.records
  pub rose_is : ready.rose ≡ read ++ ready.records
  pub read_is : ready.read ≡ length read
  pub risen : IsRebuilt wish.site (read ++ ready.records) ready.up
  pub stands : StandsForEach (read ++ ready.records) ready.up

-- behind some whole records no record of the site begins
abbrev pub NoRecords : ℕ → List ℕ → Type 0
NoRecords site body = (at : ℕ) × FirstBad site body at

-- one of these bodies is no list of records of the site
abbrev pub SomeIsBad : ℕ → List (List ℕ) → Type 0
SomeIsBad site [] = ⊥
SomeIsBad site (body ∷ bodies) = NoRecords site body ⊎ SomeIsBad site bodies

-- what these bodies spell, with the rise behind it, is not orderly
pub record IsDisordered (wish : Wish) (bodies : List (List ℕ)) : Type 0 where
  pub read : List Record
  pub inc : ℕ
  pub back : AllCanBeReadBack wish.site read
  pub spelled : flat_map (λ body. body) bodies ≡ spelling read
  pub inc_is : inc ≡ suc (logged_inc read)
  pub breaks : ¬ IsOrderly wish.site (read ++ records_by wish inc read)

-- the bodies are not those of the site's log
abbrev pub IsForeign : Wish → List (List ℕ) → Type 0
IsForeign wish bodies = SomeIsBad wish.site bodies ⊎ IsDisordered wish bodies

-- whatever records of the site these bodies spell, 32 bits count the incarnation behind them
abbrev pub NextIsCounted : ℕ → List (List ℕ) → Type 0
NextIsCounted site bodies =
    (read : List Record) → AllCanBeReadBack site read → flat_map (λ body. body) bodies ≡ spelling read → suc (logged_inc read) < 2 ^ 32

-- In this history the site may rise, and it has these weights and first rows.
pub record MayRise (sc : Scenario) (history : List Entry) (wish : Wish) : Type 0 where
  pub given : IsGiven sc
  pub legal : IsLegal sc history
  pub rising : IsRising sc history wish.site
  pub some : 1 ≤ wish.site
  pub weights_are : wish.weights ≡ sc.weights
  pub rows_are : wish.rows ≡ rows_at wish.site sc.rows

-- The disk has a history, of which it tells by so many records. The site may rise in it, and 32 bits count one entry more.
pub record HasHistory {D : Type 0} (meaning : Meaning D) (wish : Wish) (logged : ℕ) (disk : D) : Type 0 where
  pub scenario : Scenario
  pub history : List Entry
  pub may : MayRise scenario history wish
  pub tells : DiskTells scenario history wish.site (meaning.meters disk).capacity logged (meaning.image disk)
  pub few : suc (length history) < 2 ^ 32

-- the entry of a rise, and of a failed one
abbrev pub rise_of : ℕ → Bool → ℕ → Entry
rise_of site kept inc = record { owner = site; act = act.Rise kept inc }

abbrev pub rise_fall_of : ℕ → Bool → ℕ → Why → Entry
rise_fall_of site kept inc why = record { owner = site; act = act.RiseFall kept inc why }

-- the site rose over a disk: it stands for the history with its rise
pub record HasRaised {D : Type 0} (meaning : Meaning D) (sc : Scenario)
    (history : List Entry) (site : ℕ) (old : D) (s : SiteView) (l : LogState D) (rose : List Record) (logged : ℕ) (kept : Bool) (inc : ℕ) : Type 0 where
  pub allowed : IsRise sc history site kept inc
  pub read : IsRead sc history site (meaning.meters old).capacity kept (meaning.image old)
  pub up : IsUp meaning sc (history ++ rise_of site kept inc ∷ []) site s l rose logged

-- the rise failed: the disk stands for the history with the failed rise
pub record HasNotRaised {D : Type 0} (meaning : Meaning D) (sc : Scenario)
    (history : List Entry) (site : ℕ) (old new : D) (logged : ℕ) (kept : Bool) (inc : ℕ) (why : Why) : Type 0 where
  pub allowed : IsRise sc history site kept inc
  pub read : IsRead sc history site (meaning.meters old).capacity kept (meaning.image old)
  pub stands : DiskTells sc (history ++ rise_fall_of site kept inc why ∷ []) site (meaning.meters new).capacity logged (meaning.image new)
  pub reason : IsReason why (log_with sc history site kept) (rise_records sc site inc (log_with sc history site kept)) (meaning.meters old) (meaning.meters new)

-- what a rise makes of a disk; a log that is not the site's comes of no disk that stands
abbrev pub RiseMakes : {D : Type 0} → Meaning D → Scenario → List Entry → ℕ → D → State D → Raised → Type 0
RiseMakes meaning sc history site old (Up s l rose logged) (Risen kept inc) = HasRaised meaning sc history site old s l rose logged kept inc
RiseMakes meaning sc history site old (Down new logged) (Failed kept inc why) = HasNotRaised meaning sc history site old new logged kept inc why
RiseMakes meaning sc history site old (Down new logged) Missed =
    DiskTells sc history site (meaning.meters new).capacity logged (meaning.image new) × HasFailed (meaning.meters old).faults (meaning.meters new).faults
RiseMakes meaning sc history site old (Down new logged) NoMemory = DiskTells sc history site (meaning.meters new).capacity logged (meaning.image new)
RiseMakes meaning sc history site old _ _ = ⊥

-- the same for each history in which the site may rise and of which the disk tells, by so many records
abbrev pub RiseOver : {D : Type 0} → Meaning D → Wish → ℕ → D → State D → Raised → Type 0
RiseOver meaning wish logged old new raised = (sc : Scenario) (history : List Entry) → MayRise sc history wish →
    DiskTells sc history wish.site (meaning.meters old).capacity logged (meaning.image old) → RiseMakes meaning sc history wish.site old new raised

-- what it takes of an arm, where its frame takes so many calls and what is before it so many
abbrev pub RiseTakes : ℕ → Raised → Meters → Meters → Type 0
RiseTakes n (Risen kept inc) old new = Takes n old new
RiseTakes n NoMemory old new = Takes 0 old new
RiseTakes n _ old new = Unit {0}

-- what a log that could not be opened makes of a rise
abbrev pub raised_of : OpenCause → Raised
raised_of causes.Failed = Missed
raised_of (causes.Damaged at) = Foreign
raised_of causes.NoMemory = NoMemory

-- what a log that was not read does, or what it wanted memory for
abbrev pub raised_by : Unready → Raised
raised_by unready.NoMemory = NoMemory
raised_by unready.Foreign = Foreign

-- the entries that come of a rise
abbrev pub entered_by : ℕ → Raised → List Entry
entered_by site (Risen kept inc) = rise_of site kept inc ∷ []
entered_by site (Failed kept inc why) = rise_fall_of site kept inc why ∷ []
entered_by site Missed = record { owner = site; act = act.Miss } ∷ []
entered_by site _ = []

-- what is told of a rise
abbrev pub told_of : Raised → Result ℕ RiseFault
told_of (Risen kept inc) = Ok inc
told_of (Failed kept inc why) = Err (rise_fault.Failed why)
told_of Missed = Err rise_fault.Missed
told_of _ = Err rise_fault.NoMemory

-- what a rise makes is allowed
abbrev pub IsAllowed : Scenario → List Entry → ℕ → Raised → Type 0
IsAllowed sc history site (Risen kept inc) = IsRise sc history site kept inc
IsAllowed sc history site (Failed kept inc why) = IsRise sc history site kept inc
IsAllowed sc history site Missed = IsRising sc history site
IsAllowed sc history site NoMemory = Unit {0}
IsAllowed sc history site Foreign = ⊥

-- what became of a rise is entered, and what is shared goes on
pub record RiseIsEntered (site : ℕ) (r : Raised) (before now : List Mark) : Type 0 where
  pub on : SharedGoesOn before now
  pub entries : entries_of now ≡ entries_of before ++ entered_by site r
