-- The messages of sites, as a trace has them.
use Rattle.std.specs.Prelude.{◌++◌, List, ℕ, Bool, true, false, codes}
use Rattle.std.specs.Fmt.{decimal}
use Rattle.e3_types.specs.declared.messages.Message.{Message}
use Rattle.e3_types.specs.declared.messages.Message.TheVariants as msg
use Rattle.e3_types.specs.declared.transactions.Answer.{Answer}
use Rattle.e3_types.specs.declared.transactions.Call.{Call}
use Rattle.e3_types.specs.declared.transactions.Dir.{Dir}
use Rattle.e3_types.specs.declared.transactions.Op.{Op}
use Rattle.e3_types.specs.declared.transactions.State.{State}
use Rattle.e3_types.specs.declared.transactions.Txn.{Txn}
use Rattle.e3_report.specs.lines.Events.{answer_text}
use Rattle.e3_report.specs.lines.Texts.{txn_text, dir_text, state_text}
use Rattle.e3_report.specs.lines.Inputs.{operation_text}

-- a transaction and a number: `T N`
unfoldable pub txn_and_number : Txn → ℕ → List ℕ
txn_and_number t n = txn_text t ++ codes " " ++ decimal n

-- a transaction and the call of an election: `T INC SEQ`
unfoldable pub txn_and_call : Txn → Call → List ℕ
txn_and_call t call = txn_text t ++ codes " " ++ decimal call.inc ++ codes " " ++ decimal call.seq

-- a transaction, a number and a direction: `T N DIR`
unfoldable pub txn_and_attempt : Txn → ℕ → Dir → List ℕ
txn_and_attempt t n dir = txn_and_number t n ++ codes " " ++ dir_text dir

-- `do T N read KEY`, `do T N write KEY VALUE`
unfoldable pub do_message : Txn → ℕ → Op → List ℕ
do_message t n op = codes "do " ++ txn_and_number t n ++ codes " " ++ operation_text op

-- `done T N INC` and the answer
unfoldable pub done_message : Txn → ℕ → ℕ → Answer → List ℕ
done_message t n inc answer = codes "done " ++ txn_and_number t n ++ codes " " ++ decimal inc ++ codes " " ++ answer_text answer

-- `died T N OLDER`
unfoldable pub died_message : Txn → ℕ → Txn → List ℕ
died_message t n older = codes "died " ++ txn_and_number t n ++ codes " " ++ txn_text older

-- `last T INC SEQ ELECTED`
unfoldable pub last_message : Txn → Call → ℕ → List ℕ
last_message t call elected = codes "last " ++ txn_and_call t call ++ codes " " ++ decimal elected

-- `report T N STATE ATTEMPT`
unfoldable pub report_message : Txn → ℕ → State → ℕ → List ℕ
report_message t n state attempt =
    codes "report " ++ txn_and_number t n ++ codes " " ++ state_text state ++ codes " " ++ decimal attempt

-- `votereq T INC COUNT`
unfoldable pub votereq_message : Txn → ℕ → ℕ → List ℕ
votereq_message t inc count = codes "votereq " ++ txn_and_number t inc ++ codes " " ++ decimal count

-- ` yes` or ` no`
unfoldable pub yes_text : Bool → List ℕ
yes_text true = codes " yes"
yes_text false = codes " no"

-- `vote T yes`, `vote T no`
unfoldable pub vote_message : Txn → Bool → List ℕ
vote_message t agreed = codes "vote " ++ txn_text t ++ yes_text agreed

-- `decide T DIR`
unfoldable pub decide_message : Txn → Dir → List ℕ
decide_message t dir = codes "decide " ++ txn_text t ++ codes " " ++ dir_text dir

-- a message
unfoldable pub message_text : Message → List ℕ
message_text (msg.Do t n op) = do_message t n op
message_text (msg.Done t n inc answer) = done_message t n inc answer
message_text (msg.Died t n older) = died_message t n older
message_text (msg.Ask t call) = codes "ask " ++ txn_and_call t call
message_text (msg.LastElected t call elected) = last_message t call elected
message_text (msg.Elected t n) = codes "elected " ++ txn_and_number t n
message_text (msg.Report t n state attempt) = report_message t n state attempt
message_text (msg.VoteReq t inc count) = votereq_message t inc count
message_text (msg.Vote t agreed) = vote_message t agreed
message_text (msg.Pre t n dir) = codes "pre " ++ txn_and_attempt t n dir
message_text (msg.Ack t n dir) = codes "ack " ++ txn_and_attempt t n dir
message_text (msg.Decide t dir) = decide_message t dir
