-- Handling packets comes to an end.
use Rattle.std.specs.Prelude.{◌≡◌, ◌<◌, ◌⊎◌, ◌++◌, ◌∷◌, [], ℕ, true, List, Some}
use Rattle.std.specs.List.{list_all}
use Rattle.e3_types.specs.declared.entries.Act.{Act}
use Rattle.e3_types.specs.declared.entries.Act.TheVariants.{Step, Fall, Drop}
use Rattle.e3_types.specs.declared.entries.Entry.{Entry}
use Rattle.e3_types.specs.declared.entries.Input.TheVariants as input
use Rattle.e3_types.specs.declared.messages.Message.TheVariants as msg
use Rattle.e3_types.specs.declared.messages.Packet.{Packet}
use Rattle.e3_types.specs.declared.scenarios.Scenario.{Scenario}
use Rattle.e3_types.specs.declared.transactions.Answer.{Answer}
use Rattle.e3_types.specs.declared.transactions.Txn.{Txn}
use Rattle.e3_world.specs.declared.lives.Incarnation.{Incarnation}
use Rattle.e3_world.specs.Given.{IsGiven}
use Rattle.e3_world.specs.Legal.{Guard, IsLegal, first_pending}
use Rattle.e3_world.specs.Sound.{txn_in}
use Rattle.e3_world.specs.Steps.{step_of}
use Rattle.e3_laws.specs.steps.Waiting.{is_answer, ranks_below}
use Rattle.e3_laws.specs.local.Dooms.{Dooms}
use Rattle.e3_laws.specs.local.Measures.{begun, is_below, measure, takes_packet}

-- A step that takes an answer to an operation sends nothing, or it dooms the transaction.
abbrev pub AnswersEndOrDoom : Type 0
AnswersEndOrDoom = (weights : List ℕ) (site : ℕ) (now : Incarnation) (packet : Packet) (t : Txn) (n inc : ℕ) (answer : Answer) →
    packet.msg ≡ msg.Done t n inc answer →
    ((step_of weights site now (input.Deliver packet)).outs ≡ [])
    ⊎ Dooms site now t (step_of weights site now (input.Deliver packet))

-- A step that takes a packet sends only packets that rank below it, or it takes an answer and dooms its transaction. This
-- holds of every site with any log and any life, legal or not.
abbrev pub PacketsSettle : Type 0
PacketsSettle = (weights : List ℕ) (site : ℕ) (now : Incarnation) (packet : Packet) →
    (list_all (λ p. ranks_below p.msg packet.msg) (step_of weights site now (input.Deliver packet)).outs ≡ true)
    ⊎ ((is_answer packet.msg ≡ true) × Dooms site now (txn_in packet.msg) (step_of weights site now (input.Deliver packet)))

-- An entry that takes a packet begins no transaction.
abbrev pub DeliveriesBeginNothing : Type 0
DeliveriesBeginNothing = (sc : Scenario) (h : List Entry) (e : Entry) → IsGiven sc → IsLegal sc h → Guard sc h e →
    takes_packet e.act ≡ true → begun (h ++ e ∷ []) ≡ begun h

-- An entry that takes a packet lowers the measure.
abbrev pub TakingLowers : Type 0
TakingLowers = (sc : Scenario) (h : List Entry) (e : Entry) → IsGiven sc → IsLegal sc h → Guard sc h e →
    takes_packet e.act ≡ true → is_below (measure sc (h ++ e ∷ [])) (measure sc h) ≡ true

-- From the history on, packets come to an end: whichever entry takes the next packet, and whichever takes one behind it, no
-- such run goes on for ever.
pub data Settles (sc : Scenario) : List Entry → Type 0 where
  Ends : (history : List Entry) → ((e : Entry) → Guard sc history e → takes_packet e.act ≡ true → Settles sc (history ++ e ∷ [])) →
      Settles sc history

-- Every legal history settles, in whatever order sites take packets.
abbrev pub PacketsEnd : Type 0
PacketsEnd = (sc : Scenario) (h : List Entry) → IsGiven sc → IsLegal sc h → Settles sc h

-- The act takes the first pending packet, and nothing else.
abbrev pub TakesFirst : Scenario → List Entry → Act → Type 0
TakesFirst sc history (Step (input.Deliver p) records outs events) = first_pending sc history ≡ Some p
TakesFirst sc history (Fall (input.Deliver p ∷ []) records why) = first_pending sc history ≡ Some p
TakesFirst sc history (Drop number) = (p : Packet) × (first_pending sc history ≡ Some p) × (p.number ≡ number)
TakesFirst sc history _ = ⊥

-- Each history has a number that falls with each such entry. So a driver that always takes the first pending packet enters
-- no more for packets than this number, whatever the bound on entries.
abbrev pub EntriesAreCounted : Type 0
EntriesAreCounted = (sc : Scenario) → IsGiven sc → (left : List Entry → ℕ)
    × ((h : List Entry) (e : Entry) → IsLegal sc h → Guard sc h e → TakesFirst sc h e.act → left (h ++ e ∷ []) < left h)
