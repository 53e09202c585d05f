-- The entries of a driver on one thread: what it took and sent, as it calls the network.
use Rattle.std.proofs.Common.{◌≡◌, false, List, [], ◌∷◌, ◌++◌, Some, subst, refl, ℕ}
use Rattle.e3_types.specs.declared.entries.Act.TheVariants.{Fall}
use Rattle.e3_types.specs.declared.entries.Entry.{Entry}
use Rattle.e3_types.specs.declared.entries.Input.{Input}
use Rattle.e3_types.specs.declared.entries.Input.TheVariants as input
use Rattle.e3_types.specs.declared.entries.Why.{Why}
use Rattle.e3_types.specs.declared.messages.Packet.{Packet}
use Rattle.e3_types.specs.declared.records.Record.{Record}
use Rattle.e3_types.specs.declared.scenarios.Scenario.{Scenario}
use Rattle.e3_world.specs.Items.{is_delivery}
use Rattle.e3_world.specs.Legal.{entry_of, made_by}
use Rattle.e3_net.specs.Traffic.{Traffic, packet_to, sends_all, takes}
use Rattle.e3_net.specs.Stands.{IsNext, NetStands, behind_input}
use Rattle.e3_net.proofs.Keeping.{entered_keeps, fall_keeps}
use Rattle.e3_net.proofs.Showing.{goes_there, is_next}

-- an input that is no delivery takes nothing
pub item_next : (net : Traffic) (i : Input) → is_delivery i ≡ false → IsNext net i
item_next net (input.Begin sites) is = tt
item_next net (input.Do t op) is = tt
item_next net (input.Commit t) is = tt
item_next net (input.Cancel t) is = tt
item_next net (input.Expire t) is = tt
item_next net (input.Elect t group) is = tt
item_next net (input.Deliver p) is = absurd cc

pub item_takes_none : (net : Traffic) (i : Input) → is_delivery i ≡ false → behind_input net i ≡ net
item_takes_none net (input.Begin sites) is = refl
item_takes_none net (input.Do t op) is = refl
item_takes_none net (input.Commit t) is = refl
item_takes_none net (input.Cancel t) is = refl
item_takes_none net (input.Expire t) is = refl
item_takes_none net (input.Elect t group) is = refl
item_takes_none net (input.Deliver p) is = absurd cc

-- the step of an input that is no delivery: its packets are sent
pub item_enters : (sc : Scenario) (h : List Entry) (net : Traffic) (site : ℕ) (i : Input) → NetStands sc h net → is_delivery i ≡ false →
    NetStands sc (h ++ entry_of sc h site i ∷ []) (sends_all net (made_by sc h site i).outs)
item_enters sc h net site i was is =
    subst (λ (t : Traffic). NetStands sc (h ++ entry_of sc h site i ∷ []) (sends_all t (made_by sc h site i).outs)) (item_takes_none net i is)
    (entered_keeps sc h net site i was (item_next net i is))

-- the step of a delivery: the packet is taken, and then the packets are sent
pub delivery_enters : (sc : Scenario) (h : List Entry) (net : Traffic) (site : ℕ) (p : Packet) → NetStands sc h net → packet_to site net ≡ Some p →
    NetStands sc (h ++ entry_of sc h site (input.Deliver p) ∷ []) (sends_all (takes site net) (made_by sc h site (input.Deliver p)).outs)
delivery_enters sc h net site p was taken =
    subst (λ s. NetStands sc (h ++ entry_of sc h site (input.Deliver p) ∷ []) (sends_all (takes s net) (made_by sc h site (input.Deliver p)).outs))
    (goes_there net site p taken)
    (entered_keeps sc h net site (input.Deliver p) was (is_next net site p taken))

-- a fall over one input that is no delivery
pub item_falls : (sc : Scenario) (h : List Entry) (net : Traffic) (site : ℕ) (i : Input) (records : List Record) (why : Why) → NetStands sc h net →
    is_delivery i ≡ false → NetStands sc (h ++ record { owner = site; act = Fall (i ∷ []) records why } ∷ []) net
item_falls sc h net site i records why was is =
    subst (NetStands sc (h ++ record { owner = site; act = Fall (i ∷ []) records why } ∷ [])) (item_takes_none net i is)
    (fall_keeps sc h net site (i ∷ []) records why was (item_next net i is, tt))

-- a fall over a delivery: the packet is taken
pub delivery_falls : (sc : Scenario) (h : List Entry) (net : Traffic) (site : ℕ) (p : Packet) (records : List Record) (why : Why) → NetStands sc h net →
    packet_to site net ≡ Some p →
    NetStands sc (h ++ record { owner = site; act = Fall (input.Deliver p ∷ []) records why } ∷ []) (takes site net)
delivery_falls sc h net site p records why was taken =
    subst (λ s. NetStands sc (h ++ record { owner = site; act = Fall (input.Deliver p ∷ []) records why } ∷ []) (takes s net)) (goes_there net site p taken)
    (fall_keeps sc h net site (input.Deliver p ∷ []) records why was (is_next net site p taken, tt))
