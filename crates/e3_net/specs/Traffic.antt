-- The traffic of a network: what decides the fates of packets, and the packets that wait to be delivered.
use Rattle.std.specs.Prelude.{◌==◌, ◌-◌, ◌++◌, ◌∷◌, [], if◌then◌else◌, ℕ, zero, suc, Bool, false, List, find, replicate, Option, option_map}
use Rattle.e3_types.specs.declared.messages.Message.{Message}
use Rattle.e3_types.specs.declared.messages.Packet.{Packet}
use Rattle.e3_world.specs.Fate.{fate_by, copies_of}
use Rattle.e3_world.specs.Packets.{sites_to}
use Rattle.e3_net.specs.declared.waiting.Waiting.{Waiting}

-- The luck, the loss and the repeat of a scenario; the parts of the network, and whether it is calm; how many packets
-- were sent; and those that are pending, with the copies that are left, in ascending order of their numbers.
pub record Traffic : Type 0 where
  pub luck : ℕ
  pub loss : ℕ
  pub repeat : ℕ
  pub parts : List (List ℕ)
  pub calm : Bool
  pub sent : ℕ
  pub waiting : List Waiting

-- A network as contracts see it: its traffic, and for how many more packets there is room.
pub record NetView : Type 0 where
  pub traffic : Traffic
  pub room : ℕ

-- At first all sites are one part, it is not calm, and nothing was sent.
abbrev pub fresh : ℕ → ℕ → ℕ → ℕ → Traffic
fresh sites luck loss repeat =
    record { luck = luck; loss = loss; repeat = repeat; parts = sites_to sites ∷ []; calm = false; sent = 0; waiting = [] }

-- how many copies a packet gets that is sent now
abbrev pub copies_now : Traffic → Packet → ℕ
copies_now net packet = copies_of (fate_by net.parts net.calm net.loss net.repeat net.luck packet)

-- so many copies of a packet wait
abbrev pub wait : Packet → ℕ → List Waiting
wait packet zero = []
wait packet (suc more) = record { packet = packet; copies = suc more } ∷ []

-- the next packet, with this sender, receiver and message
abbrev pub next_packet : Traffic → ℕ → ℕ → Message → Packet
next_packet net sender receiver msg = record { number = suc net.sent; «from» = sender; to = receiver; msg = msg }

-- it is sent: it waits in as many copies as its fate gives
abbrev pub sends : Traffic → ℕ → ℕ → Message → Traffic
sends net sender receiver msg = record net {
  sent = suc net.sent;
  waiting = net.waiting ++ wait (next_packet net sender receiver msg) (copies_now net (next_packet net sender receiver msg));
}

-- packets are sent, one after the other
abbrev pub sends_all : Traffic → List Packet → Traffic
sends_all net [] = net
sends_all net (p ∷ ps) = sends_all (sends net p.«from» p.to p.msg) ps

-- the packet goes to the site
abbrev pub goes_to : ℕ → Waiting → Bool
goes_to site w = w.packet.to == site

-- the pending packet to the site with the least number
abbrev pub packet_to : ℕ → Traffic → Option Packet
packet_to site net = option_map (λ w. w.packet) (find (goes_to site) net.waiting)

-- the packets that wait for the site, each as often as it has copies left, in ascending order of their numbers
abbrev pub queue_in : ℕ → List Waiting → List Packet
queue_in site [] = []
queue_in site (w ∷ ws) = if goes_to site w then replicate w.copies w.packet ++ queue_in site ws else queue_in site ws

-- one copy less of the first packet to the site
abbrev pub less_one_to : ℕ → List Waiting → List Waiting
less_one_to site [] = []
less_one_to site (w ∷ ws) = if goes_to site w then wait w.packet (w.copies - 1) ++ ws else w ∷ less_one_to site ws

-- a copy of the pending packet to the site with the least number is taken
abbrev pub takes : ℕ → Traffic → Traffic
takes site net = record net { waiting = less_one_to site net.waiting }
