-- What entries take of the network, and that the network goes on to stand for the history.
use Rattle.std.proofs.Common.{◌≡◌, ◌≤◌, ℕ, zero, suc, List, [], ◌∷◌, ◌++◌, append_assoc, length, ◌∙◌, ap, sym, subst, refl, arith}
use Rattle.std.specs.Prelude.{Some}
use Rattle.e3_types.specs.declared.entries.Act.{Act}
use Rattle.e3_types.specs.declared.entries.Act.TheVariants.{Step, Fall, Rise, RiseFall, Miss, Cut, Drop, Parts, Line}
use Rattle.e3_types.specs.declared.entries.Entry.{Entry}
use Rattle.e3_types.specs.declared.entries.Input.{Input}
use Rattle.e3_types.specs.declared.entries.Input.TheVariants as input
use Rattle.e3_types.specs.declared.entries.Why.{Why}
use Rattle.e3_types.specs.declared.messages.Packet.{Packet}
use Rattle.e3_types.specs.declared.records.Record.{Record}
use Rattle.e3_types.specs.declared.scenarios.Scenario.{Scenario}
use Rattle.e3_world.specs.Items.{inputs_of}
use Rattle.e3_world.specs.Legal.{IsLegal}
use Rattle.e3_world.specs.Packets.{outs_of}
use Rattle.e3_laws.specs.local.Least.{AreOfSites, IsLeastTo}
use Rattle.e3_laws.specs.local.Others.{Allows, AreOthers, AreWaiting, IsWaiting, numbered_on}
use Rattle.e3_laws.proofs.local.Least.{least_is, least_is_pending, least_stays}
use Rattle.e3_laws.proofs.local.Queues.{first_are_next, first_are_waiting, queue_stays}
use Rattle.e3_net.specs.Stands.{AreNext, IsNext, NetStands, behind_inputs}
use Rattle.e3_net.specs.Traffic.{Traffic, packet_to, queue_in, sends_all}
use Rattle.e3_net.proofs.Keeping.{fall_keeps, quiet_keeps, stands_waits, step_keeps}
use Rattle.e3_wire.specs.Marks.{used_by}
use Rattle.e3_wire.specs.declared.marks.Note.{Note}
use Rattle.e3_wire.specs.Wires.{TakesLeast, TakesInTurn}

-- the least packet is the next of the network, and pending
next_of : (sc : Scenario) (h : List Entry) (net : Traffic) (site : ℕ) (i : Input) → NetStands sc h net → TakesLeast sc h site i → IsNext net i
next_of sc h net site (input.Begin sites) was least = tt
next_of sc h net site (input.Do t op) was least = tt
next_of sc h net site (input.Commit t) was least = tt
next_of sc h net site (input.Cancel t) was least = tt
next_of sc h net site (input.Expire t) was least = tt
next_of sc h net site (input.Elect t group) was least = tt
next_of sc h net site (input.Deliver p) was least =
    let to : p.to ≡ site = (least_is_pending sc h site p least).1 in
    let P : ℕ → Type 0 = λ s. packet_to s net ≡ Some p in
    subst P (sym to) (ap (λ ws. packet_to site (record net { waiting = ws })) was.waiting ∙ sym (least_is sc h site) ∙ least)

nexts_of : (sc : Scenario) (h : List Entry) (net : Traffic) (site : ℕ) (inputs : List Input) → NetStands sc h net → TakesInTurn sc h site inputs → AreNext net inputs
nexts_of sc h net site [] was least = tt
nexts_of sc h net site (i ∷ []) was least = (next_of sc h net site i was least, tt)
nexts_of sc h net site (i ∷ j ∷ inputs) was first =
    subst (AreNext net) (sym first.deliver)
    (first_are_next net site first.packets first.rest (stands_waits sc h net was) (ap (queue_in site) was.waiting ∙ first.first))

waits_of : (sc : Scenario) (h : List Entry) (site : ℕ) (i : Input) → TakesLeast sc h site i → IsWaiting sc h i
waits_of sc h site (input.Begin sites) least = tt
waits_of sc h site (input.Do t op) least = tt
waits_of sc h site (input.Commit t) least = tt
waits_of sc h site (input.Cancel t) least = tt
waits_of sc h site (input.Expire t) least = tt
waits_of sc h site (input.Elect t group) least = tt
waits_of sc h site (input.Deliver p) least = (least_is_pending sc h site p least).0

pub all_wait : (sc : Scenario) (h : List Entry) (site : ℕ) (inputs : List Input) → IsLegal sc h → TakesInTurn sc h site inputs → AreWaiting sc h site inputs
all_wait sc h site [] legal least = tt
all_wait sc h site (i ∷ []) legal least = (waits_of sc h site i least, tt)
all_wait sc h site (i ∷ j ∷ inputs) legal first = first_are_waiting sc h site (i ∷ j ∷ inputs) legal first

-- and it stays so behind entries of others
least_on : (sc : Scenario) (h more : List Entry) (site : ℕ) (i : Input) → ((p : Packet) → IsLeastTo sc h site p → IsLeastTo sc (h ++ more) site p) →
    TakesLeast sc h site i → TakesLeast sc (h ++ more) site i
least_on sc h more site (input.Begin sites) stays least = tt
least_on sc h more site (input.Do t op) stays least = tt
least_on sc h more site (input.Commit t) stays least = tt
least_on sc h more site (input.Cancel t) stays least = tt
least_on sc h more site (input.Expire t) stays least = tt
least_on sc h more site (input.Elect t group) stays least = tt
least_on sc h more site (input.Deliver p) stays least = stays p least

pub turn_on : (sc : Scenario) (h more : List Entry) (site : ℕ) (inputs : List Input) → IsLegal sc (h ++ more) → AreOthers site more → AreOfSites more →
    TakesInTurn sc h site inputs → TakesInTurn sc (h ++ more) site inputs
turn_on sc h more site [] legal others sites least = tt
turn_on sc h more site (i ∷ []) legal others sites least = least_on sc h more site i (λ p. least_stays sc h more site p legal others sites) least
turn_on sc h more site (i ∷ j ∷ inputs) legal others sites first =
    let stays = queue_stays sc h more site legal others sites in
    record {
      packets = first.packets;
      rest = first.rest ++ stays.0;
      deliver = first.deliver;
      first = stays.1 ∙ ap (λ (l : List Packet). l ++ stays.0) first.first ∙ append_assoc first.packets first.rest stays.0;
    }

-- the network goes on
pub net_on : (sc : Scenario) (h : List Entry) (net : Traffic) (o : ℕ) (act : Act) → 1 ≤ o → NetStands sc h net → Allows sc h (record { owner = o; act = act }) → TakesInTurn sc h o (inputs_of act) →
    NetStands sc (h ++ numbered_on h (record { owner = o; act = act }) ∷ []) (sends_all (behind_inputs net (inputs_of act)) (outs_of act))
net_on sc h net zero act some was may takes = absurd (omega (arith, some))
net_on sc h net (suc s) (Step i records outs events) some was may takes = step_keeps sc h net (suc s) i records outs events was (next_of sc h net (suc s) i was takes)
net_on sc h net (suc s) (Fall inputs records why) some was may takes = fall_keeps sc h net (suc s) inputs records why was (nexts_of sc h net (suc s) inputs was takes)
net_on sc h net (suc s) (Rise kept inc) some was may takes = quiet_keeps sc h net (record { owner = suc s; act = Rise kept inc }) was refl
net_on sc h net (suc s) (RiseFall kept inc why) some was may takes = quiet_keeps sc h net (record { owner = suc s; act = RiseFall kept inc why }) was refl
net_on sc h net (suc s) Miss some was may takes = quiet_keeps sc h net (record { owner = suc s; act = Miss }) was refl
net_on sc h net (suc s) Cut some was may takes = quiet_keeps sc h net (record { owner = suc s; act = Cut }) was refl
net_on sc h net (suc s) (Drop packet) some was may takes = absurd may
net_on sc h net (suc s) (Parts parts) some was may takes = absurd may
net_on sc h net (suc s) (Line number) some was may takes = absurd may

-- a fall has an input
some_input : (sc : Scenario) (h : List Entry) (s : ℕ) (inputs : List Input) (records : List Record) (why : Why) →
    Allows sc h (record { owner = suc s; act = Fall inputs records why }) → 1 ≤ length inputs
some_input sc h s [] records why may = absurd (may.some may.made)
some_input sc h s (i ∷ inputs) records why may = omega arith

-- an entry of a site uses one place at least
pub used : (sc : Scenario) (h : List Entry) (o : ℕ) (act : Act) (w : Note) → 1 ≤ o → Allows sc h (record { owner = o; act = act }) → 1 ≤ w.places →
    suc ((used_by w (numbered_on h (record { owner = o; act = act })).act).places) ≤ w.places
used sc h zero act w some may place = absurd (omega (arith, some))
used sc h (suc s) (Step i records outs events) w some may place = omega (arith, place)
used sc h (suc s) (Fall inputs records why) w some may place = omega (arith, place, some_input sc h s inputs records why may)
used sc h (suc s) (Rise kept inc) w some may place = omega (arith, place)
used sc h (suc s) (RiseFall kept inc why) w some may place = omega (arith, place)
used sc h (suc s) Miss w some may place = omega (arith, place)
used sc h (suc s) Cut w some may place = omega (arith, place)
used sc h (suc s) (Drop packet) w some may place = absurd may
used sc h (suc s) (Parts parts) w some may place = absurd may
used sc h (suc s) (Line number) w some may place = absurd may
