-- What every step of a site and every legal history keeps.
use Rattle.std.specs.Prelude.{◌≡◌, ◌&&◌, ◌++◌, [], ℕ, true, false, List, map}
use Rattle.std.specs.List.{list_all}
use Rattle.e3_types.specs.declared.entries.Entry.{Entry}
use Rattle.e3_types.specs.declared.entries.Input.{Input}
use Rattle.e3_types.specs.declared.entries.Input.TheVariants as input
use Rattle.e3_types.specs.declared.messages.Message.{Message}
use Rattle.e3_types.specs.declared.messages.Packet.{Packet}
use Rattle.e3_types.specs.declared.scenarios.Scenario.{Scenario}
use Rattle.e3_world.specs.declared.lives.At.{At}
use Rattle.e3_world.specs.declared.lives.Incarnation.{Incarnation}
use Rattle.e3_world.specs.declared.lives.Made.{Made}
use Rattle.e3_world.specs.Legal.{IsLegal, made_by, entry_of}
use Rattle.e3_world.specs.Moves.{own_entries, unnumbered, unnumbered_input}
use Rattle.e3_world.specs.Packets.{outs_of}
use Rattle.e3_world.specs.Steps.{handled, step_of}
use Rattle.e3_laws.specs.steps.Waiting.{is_answer, may_wait, ranks_below}

-- Handling a message that a site may have for itself makes only messages wait that it may have for itself, and each of
-- them ranks below the one that is handled.
abbrev pub OwnRanksFall : Type 0
OwnRanksFall = (a : At) (made : Made) (m : Message) → may_wait a m ≡ true →
    list_all (λ n. may_wait a n && ranks_below n m) (handled a (record made { own = [] }) m).own ≡ true

-- So the list of a step's own messages is empty at its end, whatever the input.
abbrev pub OwnMessagesEnd : Type 0
OwnMessagesEnd = (weights : List ℕ) (site : ℕ) (now : Incarnation) (i : Input) → (step_of weights site now i).own ≡ []

-- A step that takes a packet sends only packets that rank below it, unless it takes an answer to an operation.
abbrev pub PacketRanksFall : Type 0
PacketRanksFall = (weights : List ℕ) (site : ℕ) (now : Incarnation) (packet : Packet) → is_answer packet.msg ≡ false →
    list_all (λ p. ranks_below p.msg packet.msg) (step_of weights site now (input.Deliver packet)).outs ≡ true

-- Every prefix of a legal history is legal.
abbrev pub PrefixIsLegal : Type 0
PrefixIsLegal = (sc : Scenario) (front more : List Entry) → IsLegal sc (front ++ more) → IsLegal sc front

-- A step depends on the site's own entries alone.
abbrev pub StepIsOwn : Type 0
StepIsOwn = (sc : Scenario) (h k : List Entry) (site : ℕ) (i : Input) → own_entries site h ≡ own_entries site k → made_by sc h site i ≡ made_by sc k site i

-- All that the rest of the history adds to a step's entry are the numbers of its packets.
abbrev pub NumbersAreAll : Type 0
NumbersAreAll = (sc : Scenario) (h : List Entry) (site : ℕ) (i : Input) →
    map unnumbered (outs_of (entry_of sc h site i).act) ≡ map unnumbered (made_by sc h site i).outs

-- The number of a packet that a step takes is nothing to it.
abbrev pub TakenNumberIsNothing : Type 0
TakenNumberIsNothing = (weights : List ℕ) (site : ℕ) (now : Incarnation) (i : Input) →
    step_of weights site now (unnumbered_input i) ≡ step_of weights site now i
