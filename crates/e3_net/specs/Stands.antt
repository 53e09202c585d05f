-- A network stands for a history: it is as the history has it.
use Rattle.std.specs.Prelude.{◌≡◌, ◌-◌, ◌<◌, ◌++◌, ◌∷◌, [], ℕ, Bool, true, false, List, length, map, Some}
use Rattle.std.specs.List.{flat_map}
use Rattle.e3_types.specs.declared.entries.Act.{Act}
use Rattle.e3_types.specs.declared.entries.Act.TheVariants.{Rise, RiseFall, Miss, Cut}
use Rattle.e3_types.specs.declared.entries.Entry.{Entry}
use Rattle.e3_types.specs.declared.entries.Input.{Input}
use Rattle.e3_types.specs.declared.entries.Input.TheVariants as input
use Rattle.e3_types.specs.declared.messages.Packet.{Packet}
use Rattle.e3_types.specs.declared.scenarios.Scenario.{Scenario}
use Rattle.e3_world.specs.Fate.{copies_of}
use Rattle.e3_world.specs.Legal.{numbered}
use Rattle.e3_world.specs.Packets.{outs_of, sent, parts_of, present_items, is_calm, fate_of, taken}
use Rattle.e3_net.specs.declared.waiting.Waiting.{Waiting}
use Rattle.e3_net.specs.Traffic.{Traffic, wait, packet_to, takes}

-- a packet that is sent behind these entries, with as many copies as its fate gives
abbrev pub given : Scenario → List Entry → Packet → Waiting
given sc before p = record { packet = p; copies = copies_of (fate_of sc before p) }

-- each packet that was sent in these entries, with as many copies as its fate gives
abbrev pub given_after : Scenario → List Entry → List Entry → List Waiting
given_after sc before [] = []
given_after sc before (e ∷ rest) = map (given sc before) (outs_of e.act) ++ given_after sc (before ++ e ∷ []) rest

-- those with copies left, where so many of the packet of each number are away
abbrev pub without : (ℕ → ℕ) → List Waiting → List Waiting
without away ws = flat_map (λ w. wait w.packet (w.copies - away w.packet.number)) ws

-- the packets of a history with the copies that are left: as many as their fates give, less those taken
abbrev pub waiting_of : Scenario → List Entry → List Waiting
waiting_of sc history = without (λ number. taken number history) (given_after sc [] history)

-- The network has the luck of the scenario, and the parts, the calm and the packets of the history. In that the packets
-- are numbered from 1, and only what was sent was taken.
pub record NetStands (sc : Scenario) (history : List Entry) (net : Traffic) : Type 0 where
  pub luck : net.luck ≡ sc.luck
  pub loss : net.loss ≡ sc.loss
  pub repeat : net.repeat ≡ sc.repeat
  pub parts : net.parts ≡ parts_of sc history
  pub calm : net.calm ≡ is_calm (present_items sc history)
  pub count : net.sent ≡ length (sent history)
  pub waiting : net.waiting ≡ waiting_of sc history
  pub numbers : sent history ≡ numbered 1 (sent history)
  pub untaken : (number : ℕ) → net.sent < number → taken number history ≡ 0

-- the act neither sends nor takes a packet, and changes neither the parts nor the step
abbrev pub is_quiet : Act → Bool
is_quiet (Rise kept inc) = true
is_quiet (RiseFall kept inc why) = true
is_quiet Miss = true
is_quiet Cut = true
is_quiet _ = false

-- the network behind an input: that of a delivery takes a copy for its receiver
abbrev pub behind_input : Traffic → Input → Traffic
behind_input net (input.Deliver packet) = takes packet.to net
behind_input net _ = net

-- the input, where it is a delivery, is that of the least packet to its receiver
abbrev pub IsNext : Traffic → Input → Type 0
IsNext net (input.Deliver packet) = packet_to packet.to net ≡ Some packet
IsNext net _ = Unit {0}

-- the network behind some inputs
abbrev pub behind_inputs : Traffic → List Input → Traffic
behind_inputs net [] = net
behind_inputs net (i ∷ inputs) = behind_inputs (behind_input net i) inputs

-- each of these inputs, where it is a delivery, is that of the least packet to its receiver, behind those before it
abbrev pub AreNext : Traffic → List Input → Type 0
AreNext net [] = Unit {0}
AreNext net (i ∷ inputs) = IsNext net i × AreNext (behind_input net i) inputs
