-- The operations of a transaction that came to a site, and their answers, as a card keeps them.
use Rattle.std.specs.Prelude.{◌==◌, ◌++◌, ◌∷◌, [], if◌then◌else◌, ℕ, Bool, List, filter, Option, Some, None}
use Rattle.std.specs.List.{list_any, flat_map}
use Rattle.e3_types.specs.declared.entries.Input.{Input}
use Rattle.e3_types.specs.declared.entries.Told.{Told}
use Rattle.e3_types.specs.declared.messages.Message.{Message}
use Rattle.e3_types.specs.declared.messages.Packet.{Packet}
use Rattle.e3_types.specs.declared.transactions.Answer.{Answer}
use Rattle.e3_types.specs.declared.transactions.Txn.{Txn}
use Rattle.e3_types.specs.declared.entries.Told.TheVariants as told
use Rattle.e3_types.specs.declared.messages.Message.TheVariants as msg
use Rattle.e3_types.specs.Same.{same_txn}
use Rattle.e3_world.specs.declared.lives.Asked.{Asked}
use Rattle.e3_world.specs.declared.lives.Moment.{Moment}
use Rattle.e3_world.specs.declared.lives.Performed.{Performed}
use Rattle.e3_world.specs.Operations.{arrivals}
use Rattle.e3_readings.specs.Bringing.{brought, is_new_to}
use Rattle.e3_cards.specs.declared.card.Heard.{Heard}
use Rattle.e3_cards.specs.declared.seen.Seen.{Seen}
use Rattle.e3_cards.specs.Seeing.{seen_state}

-- the answer to an operation of the transaction that an event tells
abbrev pub heard_told : Txn → Told → List Heard
heard_told t (told.Op u n answer) = if same_txn t u then record { n = n; answer = answer } ∷ [] else []
heard_told t _ = []

-- the answer to an operation of the transaction in a packet
abbrev pub heard_sent : Txn → Packet → List Heard
heard_sent t packet = by packet.msg
  where
    by : Message → List Heard
    by (msg.Done u n inc answer) = if same_txn t u then record { n = n; answer = answer } ∷ [] else []
    by _ = []

-- the answers to operations of the transaction that a step shows
abbrev pub heard_in : Txn → List Told → List Packet → List Heard
heard_in t events outs = flat_map (heard_told t) events ++ flat_map (heard_sent t) outs

-- the answers to operations of the transaction that these steps show
abbrev pub heard_of : Txn → List Moment → List Heard
heard_of t steps = flat_map (λ m. heard_in t m.told m.outs) steps

-- the operations of the transaction that came to the site
abbrev pub came_of : ℕ → Txn → List Moment → List Asked
came_of site t steps = filter (λ a. same_txn t a.txn) (arrivals site steps)

-- the operation, where it is this transaction's
abbrev pub mine : Txn → Option Asked → Option Asked
mine t None = None
mine t (Some a) = if same_txn t a.txn then Some a else None

-- the operation of the transaction that a step takes up at its site, where so many of it were issued before
abbrev pub taken_of : ℕ → Txn → ℕ → Input → List Told → Option Asked
taken_of site t count i events = mine t (brought site count i events)

-- the operations that came, with the one that is taken up now: it counts in q, and once
abbrev pub came_by : Seen → List Asked → Option Asked → List Asked
came_by s came None = came
came_by s came (Some a) = if is_new_to (seen_state s) came a then came ++ a ∷ [] else came

-- the first answer to the operation of this number, if there is one, with the operation
abbrev pub performed_in : List Heard → Asked → List Performed
performed_in heard a = by (filter (λ h. a.n == h.n) heard)
  where
    by : List Heard → List Performed
    by [] = []
    by (h ∷ hs) = record { n = a.n; op = a.op; answer = h.answer } ∷ []

-- the operation of this number has an answer
abbrev pub has_heard : List Heard → Asked → Bool
has_heard heard a = list_any (λ h. a.n == h.n) heard

-- the answer to the operation of this number, if there is one
abbrev pub answer_in : List Heard → ℕ → Option Answer
answer_in [] n = None
answer_in (h ∷ hs) n = if n == h.n then Some h.answer else answer_in hs n
