-- What is written of a part of a line has no line's end.
use Rattle.std.proofs.Common.{◌≡◌, ℕ, Bool, true, false, List, ◌++◌, refl}
use Rattle.std.specs.Prelude.{codes}
use Rattle.std.specs.Fmt.{decimal}
use Rattle.e3_types.specs.declared.entries.Input.{Input}
use Rattle.e3_types.specs.declared.entries.Input.TheVariants as input
use Rattle.e3_types.specs.declared.entries.Refusal.{Refusal}
use Rattle.e3_types.specs.declared.entries.Refusal.TheVariants as refusal
use Rattle.e3_types.specs.declared.entries.Told.{Told}
use Rattle.e3_types.specs.declared.entries.Told.TheVariants as told
use Rattle.e3_types.specs.declared.entries.Why.{Why}
use Rattle.e3_types.specs.declared.entries.Why.TheVariants.{Fault, Full}
use Rattle.e3_types.specs.declared.messages.Message.{Message}
use Rattle.e3_types.specs.declared.messages.Message.TheVariants as msg
use Rattle.e3_types.specs.declared.transactions.Answer.{Answer}
use Rattle.e3_types.specs.declared.transactions.Answer.TheVariants.{Absent, Value, Written}
use Rattle.e3_types.specs.declared.transactions.Dir.TheVariants.{Abort, Commit}
use Rattle.e3_types.specs.declared.transactions.Key.{Key}
use Rattle.e3_types.specs.declared.transactions.Op.{Op}
use Rattle.e3_types.specs.declared.transactions.Op.TheVariants.{Read, Write}
use Rattle.e3_types.specs.declared.transactions.Txn.{Txn}
use Rattle.e3_types.specs.declared.verdicts.Verdict.{Verdict}
use Rattle.e3_types.specs.declared.verdicts.Verdict.TheVariants as verdict
use Rattle.e3_report.specs.lines.Texts.{sites_text, txn_text, key_text, dir_text, state_text, kept_text}
use Rattle.e3_report.specs.lines.Events.{answer_text, ended_text, doom_text, refusal_text, block_text, verdict_text, op_text, election_text, began_text, died_text, refused_text, kept_state_text, told_of as told_words, of_txn, told_text, why_text}
use Rattle.e3_report.specs.lines.Inputs.{operation_text, begin_input, do_input, elect_input, input_text}
use Rattle.e3_report.specs.lines.Messages.{txn_and_number, txn_and_call, txn_and_attempt, do_message, done_message, died_message, last_message, report_message, votereq_message, yes_text, vote_message, decide_message, message_text}
use Rattle.e3_report.specs.lines.Marks.{feed}
use Rattle.e3_trace.specs.Fields.{Known}
use Rattle.e3_trace.specs.Tellable.{IsShort, IsLong, lacks, IsKey, HasNumbers, IsOp, IsAnswer, InputTells, MessageTells, RefusalTells, IsVerdict, EventTells, IsWhy}
use Rattle.e3_trace.proofs.Cutting.{lacks_join}
use Rattle.e3_trace.proofs.Lists.{sites_lack}
use Rattle.e3_trace.proofs.Numbers.{number_lacks}
use Rattle.e3_trace.proofs.Sentences.{has_numbers}
use Rattle.e3_trace.proofs.Words.{widen, txn_lacks, key_lacks, dir_lacks, state_lacks}

-- the text is within a line
abbrev pub InLine : List ℕ → Type 0
InLine text = lacks feed text ≡ true

-- two texts within a line, joined
pub also : (a b : List ℕ) → InLine a → InLine b → InLine (a ++ b)
also a b p q = lacks_join feed a b p q

-- numbers
pub short_in : (n : ℕ) → IsShort n → InLine (decimal n)
short_in n h = number_lacks feed n refl (widen n h)

pub long_in : (n : ℕ) → IsLong n → InLine (decimal n)
long_in n h = number_lacks feed n refl h

-- a text with a number behind it, with a space between them; and with any other text
pub and_short : (a : List ℕ) (n : ℕ) → InLine a → IsShort n → InLine (a ++ codes " " ++ decimal n)
and_short a n p h = also (a ++ codes " ") (decimal n) (also a (codes " ") p refl) (short_in n h)

pub and_text : (a b : List ℕ) → InLine a → InLine b → InLine (a ++ codes " " ++ b)
and_text a b p q = also (a ++ codes " ") b (also a (codes " ") p refl) q

-- transactions, operations, answers
pub txn_in : (t : Txn) → HasNumbers t → InLine (txn_text t)
txn_in t has = txn_lacks feed t refl refl has

key_in : (key : Key) → IsKey key → InLine (key_text key)
key_in key is = key_lacks feed key refl refl refl refl is

op_in : (op : Op) → IsOp op → InLine (operation_text op)
unfolding operation_text
op_in (Read key) is = key_in key is
op_in (Write key val) is = and_text (codes "write " ++ key_text key) val (key_in key is.0) is.1.one

answer_in : (answer : Answer) → IsAnswer answer → InLine (answer_text answer)
unfolding answer_text
answer_in Written is = refl
answer_in Absent is = refl
answer_in (Value val) is = is.one

-- inputs
pub input_in : (known : Known) (i : Input) → InputTells known i → InLine (input_text i)
unfolding input_text begin_input do_input elect_input
input_in known (input.Begin sites) is = sites_lack feed sites refl refl is
input_in known (input.Do t op) is = and_text (codes "do " ++ txn_text t) (operation_text op) (txn_in t is.0.numbers) (op_in op is.1)
input_in known (input.Commit t) is = txn_in t is.numbers
input_in known (input.Cancel t) is = txn_in t is.numbers
input_in known (input.Expire t) is = txn_in t is.numbers
input_in known (input.Elect t group) is = and_text (codes "elect " ++ txn_text t) (sites_text group) (txn_in t is.0.numbers) (sites_lack feed group refl refl is.1)
input_in known (input.Deliver packet) is = long_in packet.number is.0

-- a transaction and a number
numbered_in : (t : Txn) (n : ℕ) → HasNumbers t → IsShort n → InLine (txn_and_number t n)
unfolding txn_and_number
numbered_in t n has short = and_short (txn_text t) n (txn_in t has) short

-- messages
pub message_in : (known : Known) (m : Message) → MessageTells known m → InLine (message_text m)
unfolding message_text do_message done_message died_message last_message report_message votereq_message vote_message decide_message txn_and_call txn_and_attempt yes_text
message_in known (msg.Do t n op) is = and_text (codes "do " ++ txn_and_number t n) (operation_text op) (numbered_in t n is.0.numbers is.1.0) (op_in op is.1.1)
message_in known (msg.Done t n inc answer) is =
    and_text (codes "done " ++ txn_and_number t n ++ codes " " ++ decimal inc) (answer_text answer)
    (and_short (codes "done " ++ txn_and_number t n) inc (numbered_in t n is.0.numbers is.1.0) is.1.1.0) (answer_in answer is.1.1.1)
message_in known (msg.Died t n older) is = and_text (codes "died " ++ txn_and_number t n) (txn_text older) (numbered_in t n is.0.numbers is.1.0) (txn_in older is.1.1.numbers)
message_in known (msg.Ask t call) is = and_short (codes "ask " ++ txn_text t ++ codes " " ++ decimal call.inc) call.seq (and_short (codes "ask " ++ txn_text t) call.inc (txn_in t is.0.numbers) is.1.0) is.1.1
message_in known (msg.LastElected t call elected) is =
    and_short (codes "last " ++ txn_text t ++ codes " " ++ decimal call.inc ++ codes " " ++ decimal call.seq) elected
    (and_short (codes "last " ++ txn_text t ++ codes " " ++ decimal call.inc) call.seq (and_short (codes "last " ++ txn_text t) call.inc (txn_in t is.0.numbers) is.1.0) is.1.1.0) is.1.1.1
message_in known (msg.Elected t n) is = numbered_in t n is.0.numbers is.1
message_in known (msg.Report t n state attempt) is =
    and_short (codes "report " ++ txn_and_number t n ++ codes " " ++ state_text state) attempt
    (and_text (codes "report " ++ txn_and_number t n) (state_text state) (numbered_in t n is.0.numbers is.1.0) (state_lacks state).1) is.1.1
message_in known (msg.VoteReq t inc count) is = and_short (codes "votereq " ++ txn_and_number t inc) count (numbered_in t inc is.0.numbers is.1.0) is.1.1
message_in known (msg.Vote t true) is = also (txn_text t) (codes " yes") (txn_in t is.numbers) refl
message_in known (msg.Vote t false) is = also (txn_text t) (codes " no") (txn_in t is.numbers) refl
message_in known (msg.Pre t n dir) is = and_text (codes "pre " ++ txn_and_number t n) (dir_text dir) (numbered_in t n is.0.numbers is.1) (dir_lacks dir)
message_in known (msg.Ack t n dir) is = and_text (codes "ack " ++ txn_and_number t n) (dir_text dir) (numbered_in t n is.0.numbers is.1) (dir_lacks dir)
message_in known (msg.Decide t dir) is = and_text (codes "decide " ++ txn_text t) (dir_text dir) (txn_in t is.numbers) (dir_lacks dir)

-- what is told
pub of_in : (a : List ℕ) (m n : ℕ) → InLine a → IsLong m → IsLong n → InLine (a ++ decimal m ++ codes " of " ++ decimal n)
of_in a m n p hm hn = also (a ++ decimal m ++ codes " of ") (decimal n) (also (a ++ decimal m) (codes " of ") (also a (decimal m) p (long_in m hm)) refl) (long_in n hn)

verdict_in : (v : Verdict) → IsVerdict v → InLine (verdict_text v)
unfolding verdict_text block_text
verdict_in verdict.Abort is = refl
verdict_in verdict.Commit is = refl
verdict_in verdict.PreCommit is = refl
verdict_in verdict.PreAbort is = refl
verdict_in (verdict.Block have total) is = of_in (codes "block ") have total refl is.0 is.1

doom_in : (a : List ℕ) (site had now : ℕ) → InLine a → IsShort site → IsShort had → IsShort now → InLine (a ++ decimal site ++ codes " " ++ decimal had ++ codes " " ++ decimal now)
doom_in a site had now p hs hh hn =
    and_short (a ++ decimal site ++ codes " " ++ decimal had) now (and_short (a ++ decimal site) had (also a (decimal site) p (short_in site hs)) hh) hn

refusal_in : (known : Known) (why : Refusal) → RefusalTells known why → InLine (refusal_text why)
unfolding refusal_text doom_text
refusal_in known refusal.NoTxn is = refl
refusal_in known (refusal.Busy op) is = short_in op is
refusal_in known (refusal.Over dir) is = dir_lacks dir
refusal_in known (refusal.Died older) is = txn_in older is.numbers
refusal_in known (refusal.Doomed site had now) is = doom_in (codes "doomed ") site had now refl is.0 is.1.0 is.1.1
refusal_in known (refusal.TooLate attempt) is = short_in attempt is

words_in : (known : Known) (e : Told) → EventTells known e → InLine (told_words e)
unfolding told_words began_text op_text ended_text died_text doom_text refused_text kept_state_text election_text
words_in known (told.Began t) is = sites_lack feed t.sites refl refl is.1
words_in known (told.Op t n answer) is = and_text (codes "op " ++ decimal n) (answer_text answer) (short_in n is.1.0) (answer_in answer is.1.1)
words_in known (told.Ended t Commit) is = refl
words_in known (told.Ended t Abort) is = refl
words_in known (told.Died t older) is = txn_in older is.1.numbers
words_in known (told.Doomed t site had now) is = doom_in (codes "doomed ") site had now refl is.1.0 is.1.1.0 is.1.1.1
words_in known (told.Refused t why) is = refusal_in known why is.1
words_in known (told.Kept t state) is = (state_lacks state).1
words_in known (told.Verdict t n v) is = and_text (codes "election " ++ decimal n) (verdict_text v) (short_in n is.1.0) (verdict_in v is.1.1)

pub told_in : (known : Known) (e : Told) → EventTells known e → InLine (told_text e)
unfolding told_text
told_in known e is = and_text (txn_text (of_txn e)) (told_words e) (txn_in (of_txn e) (has_numbers known e is)) (words_in known e is)

-- why a site fell
pub why_in : (why : Why) → IsWhy why → InLine (why_text why)
unfolding why_text
why_in Fault is = refl
why_in (Full need room) is = of_in (codes "full ") need room refl is.0 is.1

pub kept_in : (kept : Bool) → InLine (kept_text kept)
unfolding kept_text
kept_in true = refl
kept_in false = refl
