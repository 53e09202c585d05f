-- A client beside its coordinator's steps: what the definitions of a history read of the transaction off these.
use Rattle.std.specs.Prelude.{◌≡◌, ◌==◌, ◌&&◌, ◌||◌, ◌++◌, ◌∷◌, [], if◌then◌else◌, ℕ, suc, Bool, true, false, not, List, length, fold, map, Some, is_none, slice_get}
use Rattle.std.specs.List.{list_any, flat_map}
use Rattle.e3_types.specs.declared.entries.Input.{Input}
use Rattle.e3_types.specs.declared.entries.Input.TheVariants as input
use Rattle.e3_types.specs.declared.entries.Told.{Told}
use Rattle.e3_types.specs.declared.messages.Message.{Message}
use Rattle.e3_types.specs.declared.messages.Message.TheVariants as msg
use Rattle.e3_types.specs.declared.transactions.Dir.TheVariants.{Commit}
use Rattle.e3_types.specs.declared.transactions.State.{State}
use Rattle.e3_types.specs.declared.transactions.Txn.{Txn}
use Rattle.e3_types.specs.Same.{same_txn}
use Rattle.e3_world.specs.declared.lives.At.{At}
use Rattle.e3_world.specs.declared.lives.Made.{Made}
use Rattle.e3_world.specs.declared.lives.Moment.{Moment}
use Rattle.e3_world.specs.Logs.{decision, key_of}
use Rattle.e3_world.specs.Making.{attempt_now, is_present, log_now, state_now}
use Rattle.e3_world.specs.Operations.{expected_by, issued, issued_in, kept_reason, op_told, reason_in, tells_op}
use Rattle.e3_client.specs.declared.client.Issued.{Issued}
use Rattle.e3_client.specs.Clients.{Kept, expected, unanswered}

-- the operation of number n is answered, where the first of these has number first
abbrev pub is_answered_from : ℕ → ℕ → List Issued → Bool
is_answered_from first n [] = false
is_answered_from first n (op ∷ ops) = (first == n && not (is_none op.answered)) || is_answered_from (suc first) n ops

-- the operation of this number is answered
abbrev pub is_answered : ℕ → List Issued → Bool
is_answered n ops = is_answered_from 1 n ops

-- A client keeps what its coordinator's steps of the incarnation say of the transaction: the sites of the operations that were
-- issued, which of them were answered, at most the last unanswered; what is expected of each other site; and the first reason
-- that was told.
pub record IsKept (coordinator : ℕ) (steps : List Moment) (k : Kept) : Type 0 where
  pub sites : map (λ op. op.site) k.ops ≡ map (λ op. (key_of op).site) (issued k.txn steps)
  pub told : (n : ℕ) → is_answered n k.ops ≡ op_told k.txn n steps
  pub last : (n : ℕ) → unanswered k.ops ≡ Some n → n ≡ length k.ops
  pub heard : (site : ℕ) → (coordinator == site) ≡ false → expected site k.ops ≡ fold (expected_by k.txn site) (record { inc = 0; count = 0 }) steps
  pub why : k.why ≡ slice_get (kept_reason k.txn steps) 0

-- a step issues no operation of the transaction, and tells none of its answers and no reason
pub record IsQuiet (t : Txn) (m : Moment) : Type 0 where
  pub issues : issued_in t m.input m.told ≡ []
  pub tells : (n : ℕ) → list_any (tells_op t n) m.told ≡ false
  pub reasons : flat_map (reason_in t) m.told ≡ []

-- a step with one more event
abbrev pub and_told : Moment → Told → Moment
and_told m e = record m { told = m.told ++ e ∷ [] }

-- the input is a packet with an answer to this operation
abbrev pub is_answer : Txn → ℕ → Input → Bool
is_answer t n (input.Deliver packet) = by packet.msg
  where
    by : Message → Bool
    by (msg.Done u m inc answer) = m == n && same_txn t u
    by _ = false
is_answer t n _ = false

-- the input is a packet with this site's answer to this operation, under this incarnation
abbrev pub is_answer_of : ℕ → ℕ → Txn → ℕ → Input → Bool
is_answer_of f inc t n (input.Deliver packet) = by packet.«from» packet.msg
  where
    by : ℕ → Message → Bool
    by g (msg.Done u m i answer) = g == f && i == inc && (m == n && same_txn t u)
    by g _ = false
is_answer_of f inc t n _ = false

-- an answer comes with this input: that of another site by its packet, the coordinator's own with any input but such a packet
abbrev pub brings : ℕ → ℕ → ℕ → Txn → ℕ → Input → Bool
brings coordinator f inc t n i = if coordinator == f then not (is_answer t n i) else is_answer_of f inc t n i

-- The client of a transaction of the present incarnation, as a step reads it: its steps, and state and attempt by the log with
-- what the step made. A transaction that committed was told no reason.
pub record StandsAt (a : At) (made : Made) (k : Kept) (state : State) (attempt : ℕ) : Type 0 where
  pub kept : IsKept a.site a.life.steps k
  pub present : is_present a k.txn ≡ true
  pub state_is : state ≡ state_now a k.txn made
  pub attempt_is : attempt ≡ attempt_now a k.txn made
  pub reason : decision k.txn (log_now a made) ≡ Some Commit → kept_reason k.txn a.life.steps ≡ []
