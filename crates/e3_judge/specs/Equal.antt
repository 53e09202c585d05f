-- Tests of equality of what an entry has.
use Rattle.std.specs.Prelude.{◌==◌, ◌&&◌, ◌∷◌, [], Bool, true, false, List, Option, Some, None}
use Rattle.e3_types.specs.declared.transactions.Answer.{Answer}
use Rattle.e3_types.specs.declared.transactions.Answer.TheVariants.{Absent, Value, Written}
use Rattle.e3_types.specs.declared.transactions.NumOp.{NumOp}
use Rattle.e3_types.specs.declared.transactions.Op.{Op}
use Rattle.e3_types.specs.declared.transactions.Op.TheVariants.{Read, Write}
use Rattle.e3_types.specs.declared.transactions.Row.{Row}
use Rattle.e3_types.specs.declared.entries.Input.{Input}
use Rattle.e3_types.specs.declared.entries.Refusal.{Refusal}
use Rattle.e3_types.specs.declared.entries.Told.{Told}
use Rattle.e3_types.specs.declared.messages.Message.{Message}
use Rattle.e3_types.specs.declared.messages.Packet.{Packet}
use Rattle.e3_types.specs.declared.records.Record.{Record}
use Rattle.e3_types.specs.declared.verdicts.Verdict.{Verdict}
use Rattle.e3_types.specs.declared.entries.Input.TheVariants as input
use Rattle.e3_types.specs.declared.entries.Refusal.TheVariants as refusal
use Rattle.e3_types.specs.declared.entries.Told.TheVariants as told
use Rattle.e3_types.specs.declared.messages.Message.TheVariants as msg
use Rattle.e3_types.specs.declared.records.Record.TheVariants as log
use Rattle.e3_types.specs.declared.verdicts.Verdict.TheVariants as verdict
use Rattle.e3_types.specs.Same.{same_numbers, same_txn, same_key, same_dir, same_state, same_call}

-- the two lists have as many members, and each is the same as the other's in its place
abbrev pub same_list : {X : Type 0} → (X → X → Bool) → List X → List X → Bool
same_list same [] [] = true
same_list same (x ∷ xs) (y ∷ ys) = same x y && same_list same xs ys
same_list same [] (y ∷ ys) = false
same_list same (x ∷ xs) [] = false

-- the two truths are one
abbrev pub same_truth : Bool → Bool → Bool
same_truth true true = true
same_truth false false = true
same_truth _ _ = false

-- the two answers are one
abbrev pub same_answer : Answer → Answer → Bool
same_answer Absent Absent = true
same_answer (Value v) (Value w) = same_numbers v w
same_answer Written Written = true
same_answer _ _ = false

-- the two operations are one
abbrev pub same_op : Op → Op → Bool
same_op (Read k) (Read l) = same_key k l
same_op (Write k v) (Write l w) = same_key k l && same_numbers v w
same_op _ _ = false

-- the two numbered operations are one
abbrev pub same_num_op : NumOp → NumOp → Bool
same_num_op o p = o.n == p.n && same_op o.op p.op

-- the two rows are one
abbrev pub same_row : Row → Row → Bool
same_row r s = same_numbers r.name s.name && same_numbers r.val s.val

-- the two records are one
abbrev pub same_record : Record → Record → Bool
same_record (log.Birth f s w r) (log.Birth g t x q) = f == g && s == t && same_numbers w x && same_list same_row r q
same_record (log.Inc n) (log.Inc m) = n == m
same_record (log.Vote t o) (log.Vote u p) = same_txn t u && same_list same_num_op o p
same_record (log.Join t n) (log.Join u m) = same_txn t u && n == m
same_record (log.Attempt t n d) (log.Attempt u m e) = same_txn t u && n == m && same_dir d e
same_record (log.Decision t d) (log.Decision u e) = same_txn t u && same_dir d e
same_record _ _ = false

-- the two messages are one
abbrev pub same_message : Message → Message → Bool
same_message (msg.Do t n o) (msg.Do u m p) = same_txn t u && n == m && same_op o p
same_message (msg.Done t n i a) (msg.Done u m j b) = same_txn t u && n == m && i == j && same_answer a b
same_message (msg.Died t n o) (msg.Died u m p) = same_txn t u && n == m && same_txn o p
same_message (msg.Ask t c) (msg.Ask u d) = same_txn t u && same_call c d
same_message (msg.LastElected t c e) (msg.LastElected u d f) = same_txn t u && same_call c d && e == f
same_message (msg.Elected t n) (msg.Elected u m) = same_txn t u && n == m
same_message (msg.Report t n s a) (msg.Report u m r b) = same_txn t u && n == m && same_state s r && a == b
same_message (msg.VoteReq t i c) (msg.VoteReq u j d) = same_txn t u && i == j && c == d
same_message (msg.Vote t y) (msg.Vote u z) = same_txn t u && same_truth y z
same_message (msg.Pre t n d) (msg.Pre u m e) = same_txn t u && n == m && same_dir d e
same_message (msg.Ack t n d) (msg.Ack u m e) = same_txn t u && n == m && same_dir d e
same_message (msg.Decide t d) (msg.Decide u e) = same_txn t u && same_dir d e
same_message _ _ = false

-- the two packets are one, their numbers too
abbrev pub same_packet : Packet → Packet → Bool
same_packet p q = p.number == q.number && p.«from» == q.«from» && p.to == q.to && same_message p.msg q.msg

-- the two inputs are one
abbrev pub same_input : Input → Input → Bool
same_input (input.Begin s) (input.Begin t) = same_numbers s t
same_input (input.Do t o) (input.Do u p) = same_txn t u && same_op o p
same_input (input.Commit t) (input.Commit u) = same_txn t u
same_input (input.Cancel t) (input.Cancel u) = same_txn t u
same_input (input.Expire t) (input.Expire u) = same_txn t u
same_input (input.Elect t g) (input.Elect u h) = same_txn t u && same_numbers g h
same_input (input.Deliver p) (input.Deliver q) = same_packet p q
same_input _ _ = false

-- the two refusals are one
abbrev pub same_refusal : Refusal → Refusal → Bool
same_refusal refusal.NoTxn refusal.NoTxn = true
same_refusal (refusal.Busy n) (refusal.Busy m) = n == m
same_refusal (refusal.Over d) (refusal.Over e) = same_dir d e
same_refusal (refusal.Died t) (refusal.Died u) = same_txn t u
same_refusal (refusal.Doomed s h n) (refusal.Doomed t i m) = s == t && h == i && n == m
same_refusal (refusal.TooLate n) (refusal.TooLate m) = n == m
same_refusal _ _ = false

-- the two verdicts are one
abbrev pub same_verdict : Verdict → Verdict → Bool
same_verdict verdict.Abort verdict.Abort = true
same_verdict verdict.Commit verdict.Commit = true
same_verdict verdict.PreCommit verdict.PreCommit = true
same_verdict verdict.PreAbort verdict.PreAbort = true
same_verdict (verdict.Block h t) (verdict.Block i u) = h == i && t == u
same_verdict _ _ = false

-- the two events are one
abbrev pub same_told : Told → Told → Bool
same_told (told.Began t) (told.Began u) = same_txn t u
same_told (told.Op t n a) (told.Op u m b) = same_txn t u && n == m && same_answer a b
same_told (told.Ended t d) (told.Ended u e) = same_txn t u && same_dir d e
same_told (told.Died t o) (told.Died u p) = same_txn t u && same_txn o p
same_told (told.Doomed t s h n) (told.Doomed u r i m) = same_txn t u && s == r && h == i && n == m
same_told (told.Refused t r) (told.Refused u s) = same_txn t u && same_refusal r s
same_told (told.Kept t s) (told.Kept u r) = same_txn t u && same_state s r
same_told (told.Verdict t n v) (told.Verdict u m w) = same_txn t u && n == m && same_verdict v w
same_told _ _ = false

-- there is a value, and it is this one
abbrev pub is_some : {X : Type 0} → (X → X → Bool) → Option X → X → Bool
is_some same None x = false
is_some same (Some y) x = same y x
