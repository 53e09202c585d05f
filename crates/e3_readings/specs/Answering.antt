-- The transaction of which a packet answers an operation.
use Rattle.std.specs.Prelude.{◌∷◌, [], List}
use Rattle.e3_types.specs.declared.messages.Message.{Message}
use Rattle.e3_types.specs.declared.messages.Message.TheVariants as msg
use Rattle.e3_types.specs.declared.messages.Packet.{Packet}
use Rattle.e3_types.specs.declared.transactions.Txn.{Txn}

-- the transaction of a packet that answers an operation
abbrev pub answered_txns : Packet → List Txn
answered_txns packet = by packet.msg
  where
    by : Message → List Txn
    by (msg.Done t n inc answer) = t ∷ []
    by _ = []
