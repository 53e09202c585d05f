-- The packets of a history: which were sent, how many copies of each there are, and which are pending.
use Rattle.std.specs.Prelude.{◌==◌, ◌++◌, ◌∷◌, [], if◌then◌else◌, ℕ, zero, suc, nat_lt, Bool, true, false, List, length, fold, map, filter, count_by, sum, Option, Some, None, slice_get}
use Rattle.std.specs.List.{flat_map}
use Rattle.e3_types.specs.declared.entries.Act.{Act}
use Rattle.e3_types.specs.declared.entries.Act.TheVariants.{Step, Fall, Drop, Parts, Line}
use Rattle.e3_types.specs.declared.entries.Entry.{Entry}
use Rattle.e3_types.specs.declared.entries.Input.{Input}
use Rattle.e3_types.specs.declared.scenarios.Item.{Item}
use Rattle.e3_types.specs.declared.messages.Packet.{Packet}
use Rattle.e3_types.specs.declared.scenarios.Scenario.{Scenario}
use Rattle.e3_types.specs.declared.entries.Input.TheVariants as input
use Rattle.e3_types.specs.declared.scenarios.Item.TheVariants as item
use Rattle.e3_world.specs.Fate.{Fate, fate_by, copies_of}

-- the packets of an act
abbrev pub outs_of : Act → List Packet
outs_of (Step i records outs events) = outs
outs_of _ = []

-- all packets of a history, in the order of their numbers
abbrev pub sent : List Entry → List Packet
sent history = flat_map (λ e. outs_of e.act) history

-- the entry is a line
abbrev pub is_line : Entry → Bool
is_line e = by e.act
  where
    by : Act → Bool
    by (Line number) = true
    by _ = false

-- how many lines there are
abbrev pub lines : List Entry → ℕ
lines history = count_by is_line history

-- the items, or none
abbrev pub items_or : Option (List Item) → List Item
items_or (Some items) = items
items_or None = []

-- the items of the step with this number, counted from 1
abbrev pub step_items : Scenario → ℕ → List Item
step_items sc zero = []
step_items sc (suc k) = items_or (slice_get sc.steps k)

-- the items of the present step
abbrev pub present_items : Scenario → List Entry → List Item
present_items sc history = step_items sc (lines history)

-- the numbers from 1 to this one
abbrev pub sites_to : ℕ → List ℕ
sites_to zero = []
sites_to (suc n) = sites_to n ++ suc n ∷ []

-- all sites of the scenario, in ascending order
abbrev pub all_sites : Scenario → List ℕ
all_sites sc = sites_to (length sc.weights)

-- the parts of the network are those of the last Parts entry; at first all sites are one part
abbrev pub parts_of : Scenario → List Entry → List (List ℕ)
parts_of sc history = fold (λ was e. by was e.act) (all_sites sc ∷ []) history
  where
    by : List (List ℕ) → Act → List (List ℕ)
    by was (Parts parts) = parts
    by was _ = was

-- the network is calm in a recover step
abbrev pub is_calm : List Item → Bool
is_calm (item.Recover sites ∷ items) = true
is_calm _ = false

-- the fate of a packet, by the parts, the calm and the scenario's luck where it is sent
abbrev pub fate_of : Scenario → List Entry → Packet → Fate
fate_of sc before packet =
    fate_by (parts_of sc before) (is_calm (present_items sc before)) sc.loss sc.repeat sc.luck packet

-- the input is the delivery of the packet with this number
abbrev pub takes_input : ℕ → Input → Bool
takes_input number (input.Deliver packet) = packet.number == number
takes_input number _ = false

-- how many copies of the packet an act takes: by a delivery or a drop
abbrev pub taken_by : ℕ → Act → ℕ
taken_by number (Step i records outs events) = if takes_input number i then 1 else 0
taken_by number (Fall inputs records why) = count_by (takes_input number) inputs
taken_by number (Drop packet) = if packet == number then 1 else 0
taken_by number _ = 0

-- how many copies of the packet were taken
abbrev pub taken : ℕ → List Entry → ℕ
taken number history = sum (map (λ e. taken_by number e.act) history)

-- the packets with a copy left, in the order of their numbers: as many as its fate says, less those taken
abbrev pub left_after : Scenario → List Entry → List Entry → List Entry → List Packet
left_after sc all before [] = []
left_after sc all before (e ∷ rest) =
    filter (λ p. nat_lt (taken p.number all) (copies_of (fate_of sc before p))) (outs_of e.act)
    ++ left_after sc all (before ++ e ∷ []) rest

-- the pending packets of a history
abbrev pub pending : Scenario → List Entry → List Packet
pending sc history = left_after sc history [] history
