-- The operations that a coordinator issued, as a card keeps them: which answers it told, and which answers of other sites
-- count.
use Rattle.std.specs.Prelude.{◌==◌, ◌&&◌, ◌∷◌, [], if◌then◌else◌, ℕ, suc, List}
use Rattle.std.specs.List.{list_any, flat_map}
use Rattle.e3_types.specs.declared.entries.Input.{Input}
use Rattle.e3_types.specs.declared.entries.Told.{Told}
use Rattle.e3_types.specs.declared.messages.Message.{Message}
use Rattle.e3_types.specs.declared.transactions.Txn.{Txn}
use Rattle.e3_types.specs.declared.entries.Input.TheVariants as input
use Rattle.e3_types.specs.declared.entries.Told.TheVariants as told
use Rattle.e3_types.specs.declared.messages.Message.TheVariants as msg
use Rattle.e3_types.specs.Same.{same_txn}
use Rattle.e3_world.specs.declared.lives.Expected.{Expected}
use Rattle.e3_world.specs.declared.lives.Moment.{Moment}
use Rattle.e3_world.specs.Operations.{tells_op}
use Rattle.e3_cards.specs.declared.card.Counted.{Counted}

-- the number of the operation of the transaction whose answer an event tells
abbrev pub number_told : Txn → Told → List ℕ
number_told t (told.Op u n answer) = if same_txn t u then n ∷ [] else []
number_told t _ = []

-- the numbers of the operations of the transaction whose answers these steps tell
abbrev pub numbers_told : Txn → List Moment → List ℕ
numbers_told t steps = flat_map (λ m. flat_map (number_told t) m.told) steps

-- an answer of site f counts where these events tell it
abbrev pub counted_with : Txn → List Told → ℕ → Message → List Counted
counted_with t events f (msg.Done u n inc answer) =
    if same_txn t u && list_any (tells_op t n) events then record { site = f; inc = inc } ∷ [] else []
counted_with t events f _ = []

-- the answer to an operation of the transaction that counts with a step
abbrev pub counted_in : Txn → Input → List Told → List Counted
counted_in t (input.Deliver packet) events = counted_with t events packet.«from» packet.msg
counted_in t _ events = []

-- the answers to operations of the transaction that count with these steps
abbrev pub counted_of : Txn → List Moment → List Counted
counted_of t steps = flat_map (λ m. counted_in t m.input m.told) steps

-- what is expected of a site behind one more answer that counts
abbrev pub expect_by : ℕ → Expected → Counted → Expected
expect_by site was c = if c.site == site then record { inc = c.inc; count = suc was.count } else was
