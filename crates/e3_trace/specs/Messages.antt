-- The messages of sites: how each is read behind what earlier lines tell.
use Rattle.std.specs.Prelude.{ℕ, Bool, true, false, List, codes, bytes_eq, Some, None, option_and_then, if◌then◌else◌}
use Rattle.e3_types.specs.declared.messages.Message.{Message}
use Rattle.e3_types.specs.declared.messages.Message.TheVariants as msg
use Rattle.e3_types.specs.declared.transactions.Call.{Call}
use Rattle.e3_types.specs.declared.transactions.Dir.{Dir}
use Rattle.e3_types.specs.declared.transactions.Txn.{Txn}
use Rattle.e3_trace.specs.Cuts.{cut, Form, made_of, pair_of}
use Rattle.e3_report.specs.lines.Marks.{space}
use Rattle.e3_trace.specs.Fields.{Known, u32_of, dir_of, state_of, op_of, answer_of, txn_of}

-- a transaction and a number
abbrev pub numbered_of : Known → Form (Txn × ℕ)
numbered_of known = pair_of space (txn_of known) u32_of

-- the call of an election, of an incarnation and a count
abbrev pub call_from : ℕ × ℕ → Call
call_from p = record { inc = p.0; seq = p.1 }

-- a transaction, a number and a direction
abbrev pub attempt_of : Known → Form (Txn × (ℕ × Dir))
attempt_of known = pair_of space (txn_of known) (pair_of space u32_of dir_of)

-- `do T N read KEY`, `do T N write KEY VALUE`
unfoldable pub do_of : Known → Form Message
do_of known text = made_of (λ p. msg.Do p.0 p.1.0 p.1.1) (pair_of space (txn_of known) (pair_of space u32_of op_of)) text

-- `done T N INC` and the answer
unfoldable pub done_of : Known → Form Message
done_of known text =
    made_of (λ p. msg.Done p.0 p.1.0 p.1.1.0 p.1.1.1)
    (pair_of space (txn_of known) (pair_of space u32_of (pair_of space u32_of answer_of))) text

-- `died T N OLDER`
unfoldable pub died_of : Known → Form Message
died_of known text = made_of (λ p. msg.Died p.0 p.1.0 p.1.1) (pair_of space (txn_of known) (pair_of space u32_of (txn_of known))) text

-- `ask T INC SEQ`
unfoldable pub ask_of : Known → Form Message
ask_of known text = made_of (λ p. msg.Ask p.0 (call_from p.1)) (pair_of space (txn_of known) (pair_of space u32_of u32_of)) text

-- `last T INC SEQ ELECTED`
unfoldable pub last_of : Known → Form Message
last_of known text =
    made_of (λ p. msg.LastElected p.0 (record { inc = p.1.0; seq = p.1.1.0 }) p.1.1.1)
    (pair_of space (txn_of known) (pair_of space u32_of (pair_of space u32_of u32_of))) text

-- `elected T N`
unfoldable pub elected_of : Known → Form Message
elected_of known text = made_of (λ p. msg.Elected p.0 p.1) (numbered_of known) text

-- `report T N STATE ATTEMPT`
unfoldable pub site_report_of : Known → Form Message
site_report_of known text =
    made_of (λ p. msg.Report p.0 p.1.0 p.1.1.0 p.1.1.1)
    (pair_of space (txn_of known) (pair_of space u32_of (pair_of space state_of u32_of))) text

-- `votereq T INC COUNT`
unfoldable pub votereq_of : Known → Form Message
votereq_of known text = made_of (λ p. msg.VoteReq p.0 p.1.0 p.1.1) (pair_of space (txn_of known) (pair_of space u32_of u32_of)) text

-- `yes` or `no`
abbrev pub yes_of : Form Bool
yes_of text = if bytes_eq text (codes "yes") then Some true else if bytes_eq text (codes "no") then Some false else None

-- `vote T yes`, `vote T no`
unfoldable pub vote_of : Known → Form Message
vote_of known text = made_of (λ p. msg.Vote p.0 p.1) (pair_of space (txn_of known) yes_of) text

-- `pre T N DIR`
unfoldable pub pre_of : Known → Form Message
pre_of known text = made_of (λ p. msg.Pre p.0 p.1.0 p.1.1) (attempt_of known) text

-- `ack T N DIR`
unfoldable pub ack_of : Known → Form Message
ack_of known text = made_of (λ p. msg.Ack p.0 p.1.0 p.1.1) (attempt_of known) text

-- `decide T DIR`
unfoldable pub decide_of : Known → Form Message
decide_of known text = made_of (λ p. msg.Decide p.0 p.1) (pair_of space (txn_of known) dir_of) text

-- a message of an election or of a decision, of this verb
unfoldable pub deciding_by : Known → List ℕ → Form Message
deciding_by known verb text =
    if bytes_eq verb (codes "ask") then ask_of known text
    else if bytes_eq verb (codes "last") then last_of known text
    else if bytes_eq verb (codes "elected") then elected_of known text
    else if bytes_eq verb (codes "report") then site_report_of known text
    else if bytes_eq verb (codes "ack") then ack_of known text
    else if bytes_eq verb (codes "decide") then decide_of known text
    else None

-- a message of this verb
unfoldable pub message_by : Known → List ℕ → Form Message
message_by known verb text =
    if bytes_eq verb (codes "do") then do_of known text
    else if bytes_eq verb (codes "done") then done_of known text
    else if bytes_eq verb (codes "died") then died_of known text
    else if bytes_eq verb (codes "votereq") then votereq_of known text
    else if bytes_eq verb (codes "vote") then vote_of known text
    else if bytes_eq verb (codes "pre") then pre_of known text
    else deciding_by known verb text

-- a message
unfoldable pub message_of : Known → Form Message
message_of known text = option_and_then (λ p. message_by known p.0 p.1) (cut space text)
