-- Packets one after the other, and histories that are full.
use Rattle.std.specs.Prelude.{◌≡◌, ◌⊎◌, [], ℕ, true, List, Some, length}
use Rattle.e3_types.specs.declared.entries.Entry.{Entry}
use Rattle.e3_types.specs.declared.entries.Input.{Input}
use Rattle.e3_types.specs.declared.messages.Packet.{Packet}
use Rattle.e3_types.specs.declared.scenarios.Scenario.{Scenario}
use Rattle.e3_world.specs.Items.{RecoveryRound, due_round, is_up_at, items_through}
use Rattle.e3_world.specs.Legal.{IsCut, IsLine, IsNextItem, IsParts, IsRising, IsWhole, first_pending}
use Rattle.e3_world.specs.Packets.{is_calm, pending, present_items}
use Rattle.e3_play.specs.Entering.{AfterPacket}
use Rattle.e3_play.specs.Settled.{is_asking}

-- The second history came of the first by packets alone: each was the first that was pending then, and was delivered, or
-- dropped where its site was down.
pub data Delivers (sc : Scenario) (start : List Entry) : List Entry → Type 0 where
  Nothing : Delivers sc start start
  Then : (history more : List Entry) (p : Packet) → Delivers sc start history → first_pending sc history ≡ Some p →
      AfterPacket sc history p more → Delivers sc start more

-- The next item of a site that is up is due.
pub record IsItemDue (sc : Scenario) (history : List Entry) : Type 0 where
  pub site : ℕ
  pub item : Input
  pub up : is_up_at history site ≡ true
  pub next : IsNextItem sc history site item

-- A packet is due, the first that is pending: all items are through.
pub record IsPacketDue (sc : Scenario) (history : List Entry) : Type 0 where
  pub packet : Packet
  pub first : first_pending sc history ≡ Some packet
  pub through : items_through sc history ≡ true

-- A round of a recovery step is due: nothing is pending.
pub record IsRoundDue (sc : Scenario) (history : List Entry) : Type 0 where
  pub round : RecoveryRound
  pub due : due_round sc history ≡ Some round
  pub settled : pending sc history ≡ []

-- what a step that asks sites may lack: an item or a packet
abbrev pub IsItemOrPacket : Scenario → List Entry → Type 0
IsItemOrPacket sc history = IsItemDue sc history ⊎ IsPacketDue sc history

-- what a recovery step may lack: a packet or a round
abbrev pub IsPacketOrRound : Scenario → List Entry → Type 0
IsPacketOrRound sc history = IsPacketDue sc history ⊎ IsRoundDue sc history

-- What is due behind a history: a rise, of a site that has its turn to rise at first or in its restart; the line of the next
-- step; the parts of a split or a merge; the cut of a crash; in a step that asks sites an item or a packet; in a recovery
-- step a packet or a round. Each is what the history may go on with.
pub data IsOwed (sc : Scenario) (history : List Entry) : Type 0 where
  ARise : (site : ℕ) → IsRising sc history site → IsOwed sc history
  ALine : (number : ℕ) → IsLine sc history number → IsOwed sc history
  TheParts : (parts : List (List ℕ)) → IsParts sc history parts → IsOwed sc history
  ACut : (site : ℕ) → IsCut sc history site → IsOwed sc history
  OfSites : is_asking (present_items sc history) ≡ true → IsItemOrPacket sc history → IsOwed sc history
  OfRecovery : is_calm (present_items sc history) ≡ true → IsPacketOrRound sc history → IsOwed sc history

-- The history has as many entries as it may have, and a further one is due, of which this is said. So it did not go through
-- the whole scenario.
pub record IsFullBefore (owes : Scenario → List Entry → Type 0) (sc : Scenario) (history : List Entry) (most : ℕ) : Type 0 where
  pub full : length history ≡ most
  pub owed : owes sc history
  pub unfinished : ¬ IsWhole sc history

-- whatever is due
abbrev pub IsFull : Scenario → List Entry → ℕ → Type 0
IsFull sc history most = IsFullBefore IsOwed sc history most
