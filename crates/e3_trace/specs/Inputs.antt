-- The inputs of sites: how each is read behind what earlier lines tell.
use Rattle.std.specs.Prelude.{ℕ, List, codes, bytes_eq, None, option_and_then, if◌then◌else◌}
use Rattle.e3_types.specs.declared.entries.Input.{Input}
use Rattle.e3_types.specs.declared.entries.Input.TheVariants as input
use Rattle.e3_types.specs.declared.transactions.Op.{Op}
use Rattle.e3_types.specs.declared.transactions.Txn.{Txn}
use Rattle.e3_trace.specs.Cuts.{cut, Form, made_of, pair_of}
use Rattle.e3_report.specs.lines.Marks.{space}
use Rattle.e3_trace.specs.Fields.{Known, sites_of, op_of, txn_of, sent_of}

-- the call of an operation
abbrev pub do_from : Txn × Op → Input
do_from p = input.Do p.0 p.1

-- the call of an election
abbrev pub elect_from : Txn × List ℕ → Input
elect_from p = input.Elect p.0 p.1

-- an input of this verb
unfoldable pub input_by : Known → List ℕ → Form Input
input_by known verb text =
    if bytes_eq verb (codes "begin") then made_of input.Begin sites_of text
    else if bytes_eq verb (codes "do") then made_of do_from (pair_of space (txn_of known) op_of) text
    else if bytes_eq verb (codes "commit") then made_of input.Commit (txn_of known) text
    else if bytes_eq verb (codes "cancel") then made_of input.Cancel (txn_of known) text
    else if bytes_eq verb (codes "expire") then made_of input.Expire (txn_of known) text
    else if bytes_eq verb (codes "elect") then made_of elect_from (pair_of space (txn_of known) sites_of) text
    else if bytes_eq verb (codes "deliver") then made_of input.Deliver (sent_of known) text
    else None

-- an input; a packet that is delivered is named by its number
unfoldable pub input_of : Known → Form Input
input_of known text = option_and_then (λ p. input_by known p.0 p.1) (cut space text)
