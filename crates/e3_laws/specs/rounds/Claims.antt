-- What a recovery step keeps: its packets are a queue, and its first packet comes next.
use Rattle.std.specs.Prelude.{◌≡◌, ◌++◌, ◌∷◌, [], ℕ, suc, true, false, List, length}
use Rattle.std.specs.List.{list_any}
use Rattle.e3_types.specs.declared.entries.Entry.{Entry}
use Rattle.e3_types.specs.declared.entries.Input.TheVariants as input
use Rattle.e3_types.specs.declared.messages.Packet.{Packet}
use Rattle.e3_types.specs.declared.scenarios.Item.{Item}
use Rattle.e3_types.specs.declared.scenarios.Item.TheVariants as item
use Rattle.e3_types.specs.declared.scenarios.Scenario.{Scenario}
use Rattle.e3_types.specs.Sets.{is_within}
use Rattle.e3_world.specs.Given.{IsGiven}
use Rattle.e3_world.specs.Items.{is_up_at}
use Rattle.e3_world.specs.Legal.{IsLegal, Guard, entry_of, made_by, numbered}
use Rattle.e3_world.specs.Packets.{is_calm, parts_of, pending, present_items, sent}
use Rattle.e3_laws.specs.rounds.Queues.{IsCounted, IsQueue, are_within, falls}

-- In every legal history packets are numbered as they are sent, and none is taken that was not sent.
abbrev pub HistoriesAreCounted : Type 0
HistoriesAreCounted = (sc : Scenario) (h : List Entry) → IsGiven sc → IsLegal sc h → IsCounted sc h

-- Where nothing is pending the queue is empty.
abbrev pub QueueBegins : Type 0
QueueBegins = (sc : Scenario) (h : List Entry) → IsCounted sc h → pending sc h ≡ [] → IsQueue sc h []

-- What is pending is the queue, in its order.
abbrev pub QueueIsPending : Type 0
QueueIsPending = (sc : Scenario) (h : List Entry) (queue : List Packet) → IsQueue sc h queue → pending sc h ≡ queue

-- In a calm network a delivery of the first packet leaves the others, and the packets that it sends within their parts
-- behind them.
abbrev pub DeliveryShifts : Type 0
DeliveryShifts = (sc : Scenario) (h : List Entry) (p : Packet) (ps : List Packet) → IsQueue sc h (p ∷ ps) → is_calm (present_items sc h) ≡ true →
    are_within (parts_of sc h) (made_by sc h p.to (input.Deliver p)).outs ≡ true →
    IsQueue sc (h ++ entry_of sc h p.to (input.Deliver p) ∷ [])
    (ps ++ numbered (suc (length (sent h))) (made_by sc h p.to (input.Deliver p)).outs)

-- In a recover step with a packet pending whose receiver is up, all that may come but a fall is the delivery of the least.
abbrev pub DeliveryIsForced : Type 0
DeliveryIsForced = (sc : Scenario) (h : List Entry) (e : Entry) (group : List ℕ) (items : List Item) (p : Packet) (ps : List Packet) → IsGiven sc →
    present_items sc h ≡ item.Recover group ∷ items → pending sc h ≡ p ∷ ps → is_up_at h p.to ≡ true → falls e.act ≡ false → Guard sc h e →
    e ≡ entry_of sc h p.to (input.Deliver p)

-- The group of a recover step lies in one part.
abbrev pub GroupInOnePart : Type 0
GroupInOnePart = (sc : Scenario) (h : List Entry) (group : List ℕ) (items : List Item) → IsGiven sc → IsLegal sc h →
    present_items sc h ≡ item.Recover group ∷ items → list_any (is_within group) (parts_of sc h) ≡ true
