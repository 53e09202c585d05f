-- What is always true of the marks, and what an entry asks of them.
use Rattle.std.specs.Prelude.{◌≡◌, ◌≢◌, ◌<◌, ◌≤◌, ◌-◌, ◌^◌, ◌↔◌, ◌∷◌, [], ◌++◌, ℕ, true, List, length, min, take, Option, Some, None, Result, Err, OnOk, OnErr}
use Rattle.e3_types.specs.declared.entries.Act.{Act}
use Rattle.e3_types.specs.declared.entries.Act.TheVariants.{Drop, Step}
use Rattle.e3_types.specs.declared.entries.Entry.{Entry}
use Rattle.e3_types.specs.declared.entries.Input.{Input}
use Rattle.e3_types.specs.declared.entries.Input.TheVariants as input
use Rattle.e3_types.specs.declared.messages.Packet.{Packet}
use Rattle.e3_types.specs.declared.scenarios.Scenario.{Scenario}
use Rattle.e3_laws.specs.local.Least.{AreFirstTo, IsLeastTo, queue_to}
use Rattle.e3_laws.specs.local.Others.{Allows}
use Rattle.e3_net.specs.Stands.{NetStands}
use Rattle.e3_net.specs.Traffic.{Traffic}
use Rattle.e3_world.specs.Given.{IsGiven}
use Rattle.e3_world.specs.Items.{inputs_of}
use Rattle.e3_world.specs.Legal.{IsLegal, first_pending, numbered}
use Rattle.e3_world.specs.Packets.{is_calm, outs_of, present_items}
use Rattle.e3_wire.specs.declared.fault.WireFault.{WireFault}
use Rattle.e3_wire.specs.declared.fault.WireFault.TheVariants.{HistoryFull}
use Rattle.e3_wire.specs.declared.marks.Mark.{Mark}
use Rattle.e3_wire.specs.declared.marks.Mark.TheVariants as mark
use Rattle.e3_wire.specs.Marks.{AreFew, entries_of, last_owner, most_of, note_of, scenario_of, used_of}

-- The scenario of the marks keeps the rules, their history is legal for it, and with the promised places it is no longer
-- than it may be, which is 2,000,000 entries at most; 32 bits count the packets of each promise.
pub record IsPlayed (marks : List Mark) : Type 0 where
  pub given : IsGiven (scenario_of marks)
  pub legal : IsLegal (scenario_of marks) (entries_of marks)
  pub within : used_of marks ≤ most_of marks
  pub few : most_of marks ≤ 2000000
  pub promises : AreFew marks

-- and the network stands for the history
pub record WireStands (marks : List Mark) (traffic : Traffic) : Type 0 where
  pub played : IsPlayed marks
  pub net : NetStands (scenario_of marks) (entries_of marks) traffic

-- the packet of a delivery is the least pending one to its site
abbrev pub TakesLeast : Scenario → List Entry → ℕ → Input → Type 0
TakesLeast sc history site (input.Deliver packet) = IsLeastTo sc history site packet
TakesLeast sc history site i = Unit {0}

-- One input takes the least packet to the site, or none; several take the first ones, in their order.
abbrev pub TakesInTurn : Scenario → List Entry → ℕ → List Input → Type 0
TakesInTurn sc history site [] = Unit {0}
TakesInTurn sc history site (i ∷ []) = TakesLeast sc history site i
TakesInTurn sc history site (i ∷ j ∷ inputs) = AreFirstTo sc history site (i ∷ j ∷ inputs)

-- An entry of a site may be entered behind these marks: it is allowed there but for the numbers of its packets, it takes
-- the first packets to its site or none, a place and room for its packets are promised to the site, and 32 bits count them.
pub record MayEnterBehind (marks : List Mark) (e : Entry) : Type 0 where
  pub site : 1 ≤ e.owner
  pub exists : e.owner ≤ last_owner marks
  pub allowed : Allows (scenario_of marks) (entries_of marks) e
  pub takes : TakesInTurn (scenario_of marks) (entries_of marks) e.owner (inputs_of e.act)
  pub place : 1 ≤ (note_of e.owner marks).places
  pub room : length (outs_of e.act) ≤ (note_of e.owner marks).room
  pub few : length (outs_of e.act) < 2 ^ 32

-- the last of these marks promises an owner a place and room for so many packets
pub record EndsInPromise (owner outs : ℕ) (before marks : List Mark) : Type 0 where
  pub exists : owner ≤ last_owner before
  pub is : marks ≡ before ++ mark.Place owner outs ∷ []

-- how many places are neither used nor promised
abbrev pub places_left : List Mark → ℕ
places_left marks = most_of marks - used_of marks

-- the first pending packets to a site, so many at most, and no more than there are places left
abbrev pub first_few : List Mark → ℕ → ℕ → List Packet
first_few marks site most = take (min most (places_left marks)) (queue_to (scenario_of marks) (entries_of marks) site)

-- some packet to the site is asked for and pending, and no place is left for it
abbrev pub HasNoPlaceFor : List Mark → ℕ → ℕ → Type 0
HasNoPlaceFor marks site most = (1 ≤ most) × (queue_to (scenario_of marks) (entries_of marks) site ≢ []) × (most_of marks ≤ used_of marks)

-- The driver entered an act behind these marks, or was refused and changed nothing. It is refused for a full history exactly
-- where entries and promised places are as many as there may be entries.
pub record IsDriven (act : Act) (before now : List Mark) (answer : Result (Unit {0}) WireFault) : Type 0 where
  pub entered : OnOk answer (now ≡ before ++ mark.Entered (record { owner = 0; act = act }) ∷ [])
  pub kept : OnErr answer (now ≡ before)
  pub full : (answer ≡ Err HistoryFull) ↔ (most_of before ≤ used_of before)

-- in a recover step the first pending packet goes to this site
abbrev pub IsInTurn : Scenario → List Entry → ℕ → Type 0
IsInTurn sc history site = is_calm (present_items sc history) ≡ true → (p : Packet) → first_pending sc history ≡ Some p → p.to ≡ site

-- the least pending packet to the site was dropped, with this number; or none was pending to it, and nothing is changed
abbrev pub IsDroppedFor : ℕ → Option ℕ → List Mark → List Mark → Type 0
IsDroppedFor site None before now = ((p : Packet) → IsLeastTo (scenario_of before) (entries_of before) site p → ⊥) × (now ≡ before)
IsDroppedFor site (Some number) before now = (p : Packet) × IsLeastTo (scenario_of before) (entries_of before) site p × (p.number ≡ number)
    × (now ≡ before ++ mark.Entered (record { owner = 0; act = Drop number }) ∷ [])

-- the act with its packets numbered from this number on
abbrev pub act_on : ℕ → Act → Act
act_on n (Step i records outs events) = Step i records (numbered n outs) events
act_on n act = act
