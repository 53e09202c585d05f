-- Which names and transactions a step touches: all others keep what stands there.
use Rattle.std.specs.Prelude.{◌||◌, ◌++◌, ◌∷◌, [], ℕ, Bool, List, map, filter, Option, Some, None}
use Rattle.std.specs.List.{flat_map}
use Rattle.e3_types.specs.declared.entries.Told.{Told}
use Rattle.e3_types.specs.declared.entries.Told.TheVariants as told
use Rattle.e3_types.specs.declared.messages.Packet.{Packet}
use Rattle.e3_types.specs.declared.records.Record.{Record}
use Rattle.e3_types.specs.declared.records.Record.TheVariants as log
use Rattle.e3_types.specs.declared.transactions.Txn.{Txn}
use Rattle.e3_world.specs.declared.lives.Asked.{Asked}
use Rattle.e3_world.specs.Logs.{key_of}
use Rattle.e3_readings.specs.Answering.{answered_txns}
use Rattle.e3_places.specs.declared.keys.TxnId.{TxnId}
use Rattle.e3_places.specs.declared.places.Claims.{Claims}
use Rattle.e3_places.specs.declared.places.Standing.{Standing}
use Rattle.e3_places.specs.Standing.{cast_of, decided_in, is_heard}
use Rattle.e3_places.specs.Keeping.{txn_id, claims_at}

-- the name that an operation is on
abbrev pub name_of : Asked → List ℕ
name_of a = (key_of a.op).name

-- the transaction of a decision
abbrev pub decided_txns : Record → List Txn
decided_txns (log.Decision t dir) = t ∷ []
decided_txns _ = []

-- the transaction of an event that answers an operation
abbrev pub told_txns : Told → List Txn
told_txns (told.Op t n answer) = t ∷ []
told_txns _ = []

-- the transactions that a step decides, and those of which it answers an operation
abbrev pub reached : List Record → List Told → List Packet → List Txn
reached rs events outs = flat_map decided_txns rs ++ (flat_map told_txns events ++ flat_map answered_txns outs)

-- the step decides the operation's transaction, or answers it
abbrev pub is_moved : List Record → List Told → List Packet → Standing → Bool
is_moved rs events outs s = decided_in rs s.asked.txn || is_heard events outs s.asked

-- the names of those operations of a transaction that the step moves, and of its votes where it is decided
abbrev pub moved_names : List Record → List Told → List Packet → Claims → List (List ℕ)
moved_names rs events outs claims =
    map (λ s. name_of s.asked) (filter (is_moved rs events outs) claims.standing) ++ map name_of (filter (λ a. decided_in rs a.txn) claims.votes)

-- the operation that is taken up, and those of the step's votes
abbrev pub added : Option Standing → List Record → List Asked
added None rs = cast_of rs
added (Some new) rs = new.asked ∷ cast_of rs

-- the names that a step touches
abbrev pub names_touched : List (TxnId × Claims) → Option Standing → List Record → List Told → List Packet → List (List ℕ)
names_touched txns new rs events outs =
    map name_of (added new rs) ++ flat_map (λ t. moved_names rs events outs (claims_at txns (txn_id t))) (reached rs events outs)

-- the transactions that it touches, as keys
abbrev pub keys_touched : Option Standing → List Record → List Told → List Packet → List TxnId
keys_touched new rs events outs = map (λ a. txn_id a.txn) (added new rs) ++ map txn_id (reached rs events outs)
