-- The packets on their way to a site.
use Rattle.std.specs.Prelude.{◌≡◌, ◌==◌, ◌++◌, ◌∷◌, [], ℕ, false, List, Some, find, map}
use Rattle.e3_net.specs.Stands.{waiting_of}
use Rattle.e3_net.specs.Traffic.{queue_in}
use Rattle.e3_types.specs.declared.entries.Entry.{Entry}
use Rattle.e3_types.specs.declared.entries.Input.{Input}
use Rattle.e3_types.specs.declared.entries.Input.TheVariants as input
use Rattle.e3_types.specs.declared.messages.Packet.{Packet}
use Rattle.e3_types.specs.declared.scenarios.Scenario.{Scenario}
use Rattle.e3_world.specs.Packets.{pending}

-- of the pending packets to the site it has the least number
abbrev pub IsLeastTo : Scenario → List Entry → ℕ → Packet → Type 0
IsLeastTo sc history site p = find (λ q. q.to == site) (pending sc history) ≡ Some p

-- the packets to the site, each as often as it has copies left, in ascending order of their numbers
abbrev pub queue_to : Scenario → List Entry → ℕ → List Packet
queue_to sc history site = queue_in site (waiting_of sc history)

-- these inputs deliver the first packets to the site, in their order
pub record AreFirstTo (sc : Scenario) (history : List Entry) (site : ℕ) (inputs : List Input) : Type 0 where
  pub packets : List Packet
  pub rest : List Packet
  pub deliver : inputs ≡ map input.Deliver packets
  pub first : queue_to sc history site ≡ packets ++ rest

-- none of these is an entry of the driver
abbrev pub AreOfSites : List Entry → Type 0
AreOfSites [] = Unit {0}
AreOfSites (e ∷ more) = ((e.owner == 0) ≡ false) × AreOfSites more
