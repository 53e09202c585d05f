-- The inputs of sites, as a trace has them.
use Rattle.std.specs.Prelude.{◌++◌, List, ℕ, codes}
use Rattle.std.specs.Fmt.{decimal}
use Rattle.e3_types.specs.declared.entries.Input.{Input}
use Rattle.e3_types.specs.declared.entries.Input.TheVariants as input
use Rattle.e3_types.specs.declared.transactions.Op.{Op}
use Rattle.e3_types.specs.declared.transactions.Op.TheVariants.{Read, Write}
use Rattle.e3_types.specs.declared.transactions.Txn.{Txn}
use Rattle.e3_report.specs.lines.Texts.{sites_text, txn_text, key_text}

-- an operation: `read KEY`, or `write KEY VALUE`; an empty value leaves the space before it
unfoldable pub operation_text : Op → List ℕ
operation_text (Read key) = codes "read " ++ key_text key
operation_text (Write key val) = codes "write " ++ key_text key ++ codes " " ++ val

-- `begin SITES`
unfoldable pub begin_input : List ℕ → List ℕ
begin_input sites = codes "begin " ++ sites_text sites

-- `do T read KEY`, `do T write KEY VALUE`
unfoldable pub do_input : Txn → Op → List ℕ
do_input t op = codes "do " ++ txn_text t ++ codes " " ++ operation_text op

-- `elect T SITES`
unfoldable pub elect_input : Txn → List ℕ → List ℕ
elect_input t sites = codes "elect " ++ txn_text t ++ codes " " ++ sites_text sites

-- an input; a packet that is delivered is named by its number
unfoldable pub input_text : Input → List ℕ
input_text (input.Begin sites) = begin_input sites
input_text (input.Do t op) = do_input t op
input_text (input.Commit t) = codes "commit " ++ txn_text t
input_text (input.Cancel t) = codes "cancel " ++ txn_text t
input_text (input.Expire t) = codes "expire " ++ txn_text t
input_text (input.Elect t sites) = elect_input t sites
input_text (input.Deliver packet) = codes "deliver " ++ decimal packet.number
