-- The operation that an input brings to a site, by how many of its transaction were issued before; and whether it is a new one.
use Rattle.std.specs.Prelude.{◌==◌, ◌&&◌, if◌then◌else◌, ℕ, suc, Bool, not, List, length, Option, Some, None}
use Rattle.std.specs.List.{list_any}
use Rattle.e3_types.specs.declared.entries.Input.{Input}
use Rattle.e3_types.specs.declared.entries.Input.TheVariants as input
use Rattle.e3_types.specs.declared.entries.Told.{Told}
use Rattle.e3_types.specs.declared.messages.Message.{Message}
use Rattle.e3_types.specs.declared.messages.Message.TheVariants as msg
use Rattle.e3_types.specs.declared.transactions.State.{State}
use Rattle.e3_types.specs.declared.transactions.State.TheVariants.{Q}
use Rattle.e3_types.specs.Same.{same_state}
use Rattle.e3_world.specs.declared.lives.Asked.{Asked}
use Rattle.e3_world.specs.declared.lives.Moment.{Moment}
use Rattle.e3_world.specs.Logs.{key_of}
use Rattle.e3_world.specs.Operations.{is_refusal, issued, same_asked}

-- how many operations of the transaction of a Do input these steps issued
abbrev pub issued_before : Input → List Moment → ℕ
issued_before (input.Do t op) steps = length (issued t steps)
issued_before _ steps = 0

-- the operation of a Do message
abbrev pub asked_in : Message → Option Asked
asked_in (msg.Do t n op) = Some (record { txn = t; n = n; op = op })
asked_in _ = None

-- the operation that an input brings to the site, where so many of its transaction were issued before and these events are told:
-- that of a Do packet, or of a Do input for a key of the site's own that was not refused
abbrev pub brought : ℕ → ℕ → Input → List Told → Option Asked
brought site count (input.Deliver packet) events = asked_in packet.msg
brought site count (input.Do t op) events =
    if not (list_any is_refusal events) && (key_of op).site == site then Some (record { txn = t; n = suc count; op = op }) else None
brought site count _ events = None

-- an operation whose transaction is in this state is new where these came before: the state is q, and it is none of these
abbrev pub is_new_to : State → List Asked → Asked → Bool
is_new_to state came a = same_state state Q && not (list_any (same_asked a) came)
