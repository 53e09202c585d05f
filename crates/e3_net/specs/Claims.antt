-- What each kind of entry asks of a network, so that it goes on to stand for the history; and what such a network shows.
use Rattle.std.specs.Prelude.{◌≡◌, ◌≢◌, ◌≤◌, ◌++◌, ◌∷◌, [], ℕ, suc, true, List, length, map, Some, None, Contains}
use Rattle.e3_types.specs.declared.entries.Act.TheVariants.{Step, Fall, Drop, Parts, Line}
use Rattle.e3_types.specs.declared.entries.Entry.{Entry}
use Rattle.e3_types.specs.declared.entries.Input.{Input}
use Rattle.e3_types.specs.declared.entries.Told.{Told}
use Rattle.e3_types.specs.declared.entries.Why.{Why}
use Rattle.e3_types.specs.declared.messages.Packet.{Packet}
use Rattle.e3_types.specs.declared.records.Record.{Record}
use Rattle.e3_types.specs.declared.scenarios.Scenario.{Scenario}
use Rattle.e3_world.specs.Legal.{numbered, first_pending}
use Rattle.e3_world.specs.Packets.{is_calm, lines, pending, sent, step_items}
use Rattle.e3_net.specs.Traffic.{Traffic, fresh, sends_all, packet_to, takes}
use Rattle.e3_net.specs.Stands.{NetStands, is_quiet, IsNext, behind_input, AreNext, behind_inputs}

-- a new network stands for the history without entries
abbrev pub FreshStands : Type 0
FreshStands = (sc : Scenario) → NetStands sc [] (fresh (length sc.weights) sc.luck sc.loss sc.repeat)

-- a rise, a failed or a missed one, and a cut change nothing
abbrev pub QuietKeeps : Type 0
QuietKeeps = (sc : Scenario) (h : List Entry) (net : Traffic) (e : Entry) → NetStands sc h net → is_quiet e.act ≡ true →
    NetStands sc (h ++ e ∷ []) net

-- at the line of the next step it is calm where that is a recover step
abbrev pub LineKeeps : Type 0
LineKeeps = (sc : Scenario) (h : List Entry) (net : Traffic) (owner number : ℕ) → NetStands sc h net →
    NetStands sc (h ++ record { owner = owner; act = Line number } ∷ [])
    (record net { calm = is_calm (step_items sc (suc (lines h))) })

-- the network has the parts of the entry
abbrev pub PartsKeep : Type 0
PartsKeep = (sc : Scenario) (h : List Entry) (net : Traffic) (owner : ℕ) (parts : List (List ℕ)) → NetStands sc h net →
    NetStands sc (h ++ record { owner = owner; act = Parts parts } ∷ []) (record net { parts = parts })

-- a step takes its input's packet, and sends its packets one after the other; they have the next numbers
abbrev pub StepKeeps : Type 0
StepKeeps = (sc : Scenario) (h : List Entry) (net : Traffic) (owner : ℕ) (i : Input) (records : List Record)
    (outs : List Packet) (told : List Told) → NetStands sc h net → IsNext net i →
    NetStands sc (h ++ record { owner = owner; act = Step i records (numbered (suc (length (sent h))) outs) told } ∷ [])
    (sends_all (behind_input net i) outs)

-- a fall takes the packets of its inputs, one after the other
abbrev pub FallKeeps : Type 0
FallKeeps = (sc : Scenario) (h : List Entry) (net : Traffic) (owner : ℕ) (inputs : List Input) (records : List Record)
    (why : Why) → NetStands sc h net → AreNext net inputs →
    NetStands sc (h ++ record { owner = owner; act = Fall inputs records why } ∷ []) (behind_inputs net inputs)

-- a drop takes its packet
abbrev pub DropKeeps : Type 0
DropKeeps = (sc : Scenario) (h : List Entry) (net : Traffic) (owner site : ℕ) (p : Packet) → NetStands sc h net →
    packet_to site net ≡ Some p →
    NetStands sc (h ++ record { owner = owner; act = Drop p.number } ∷ []) (takes site net)

-- the packets that wait are those that are pending, in the same order
abbrev pub PendingAre : Type 0
PendingAre = (sc : Scenario) (h : List Entry) (net : Traffic) → NetStands sc h net →
    pending sc h ≡ map (λ w. w.packet) net.waiting

-- what is taken for a site is pending, and goes there
abbrev pub TakenIsPending : Type 0
TakenIsPending = (sc : Scenario) (h : List Entry) (net : Traffic) (site : ℕ) (p : Packet) → NetStands sc h net →
    packet_to site net ≡ Some p → Contains (pending sc h) p × (p.to ≡ site)

-- no packet that is pending to the site has a lower number
abbrev pub TakenIsLeast : Type 0
TakenIsLeast = (sc : Scenario) (h : List Entry) (net : Traffic) (site : ℕ) (p : Packet) → NetStands sc h net →
    packet_to site net ≡ Some p → (q : Packet) → Contains (pending sc h) q → q.to ≡ site → p.number ≤ q.number

-- where nothing is taken for a site, nothing is pending to it
abbrev pub NothingPending : Type 0
NothingPending = (sc : Scenario) (h : List Entry) (net : Traffic) (site : ℕ) → NetStands sc h net →
    packet_to site net ≡ None → (p : Packet) → Contains (pending sc h) p → p.to ≢ site

-- what is taken for the receiver of the least pending packet is that packet
abbrev pub FirstIsTaken : Type 0
FirstIsTaken = (sc : Scenario) (h : List Entry) (net : Traffic) (p : Packet) → NetStands sc h net →
    first_pending sc h ≡ Some p → packet_to p.to net ≡ Some p
