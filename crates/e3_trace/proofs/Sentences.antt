-- Inputs, messages and what is told are read from what is written of them.
use Rattle.std.proofs.Common.{◌≡◌, ℕ, Bool, true, false, List, ◌∷◌, ◌++◌, Option, Some, refl, ap, ◌∙◌, append_assoc}
use Rattle.std.specs.Prelude.{option_map, option_and_then, codes}
use Rattle.std.specs.Fmt.{decimal}
use Rattle.e3_types.specs.declared.entries.Input.{Input}
use Rattle.e3_types.specs.declared.entries.Input.TheVariants as input
use Rattle.e3_types.specs.declared.entries.Refusal.{Refusal}
use Rattle.e3_types.specs.declared.entries.Refusal.TheVariants as refusal
use Rattle.e3_types.specs.declared.entries.Told.{Told}
use Rattle.e3_types.specs.declared.entries.Told.TheVariants as told
use Rattle.e3_types.specs.declared.messages.Message.{Message}
use Rattle.e3_types.specs.declared.messages.Message.TheVariants as msg
use Rattle.e3_types.specs.declared.transactions.Answer.{Answer}
use Rattle.e3_types.specs.declared.transactions.Dir.{Dir}
use Rattle.e3_types.specs.declared.transactions.Dir.TheVariants.{Abort, Commit}
use Rattle.e3_types.specs.declared.transactions.Op.{Op}
use Rattle.e3_types.specs.declared.transactions.State.{State}
use Rattle.e3_types.specs.declared.transactions.Txn.{Txn}
use Rattle.e3_types.specs.declared.verdicts.Verdict.{Verdict}
use Rattle.e3_types.specs.declared.verdicts.Verdict.TheVariants as verdict
use Rattle.e3_report.specs.lines.Texts.{sites_text, txn_text, dir_text, state_text}
use Rattle.e3_report.specs.lines.Events.{answer_text, ended_text, doom_text, refusal_text, block_text, verdict_text, op_text, election_text, began_text, died_text, refused_text, kept_state_text, told_of as told_words, of_txn, told_text}
use Rattle.e3_report.specs.lines.Inputs.{operation_text, begin_input, do_input, elect_input, input_text}
use Rattle.e3_report.specs.lines.Messages.{txn_and_number, txn_and_call, txn_and_attempt, do_message, done_message, died_message, last_message, report_message, votereq_message, yes_text, vote_message, decide_message, message_text}
use Rattle.e3_trace.specs.Cuts.{pair_of, behind}
use Rattle.e3_report.specs.lines.Marks.{space}
use Rattle.e3_trace.specs.Events.{of_of, block_from, verdict_of, doom_of, doomed_from, refusal_by, refusal_of, event_by, event_of, began_of, told_by, told_of}
use Rattle.e3_trace.specs.Fields.{Known, u32_of, u64_of, sites_of, dir_of, state_of, op_of, answer_of, txn_from, named, txn_of, packet_at, sent_of}
use Rattle.e3_trace.specs.Inputs.{do_from, elect_from, input_by, input_of}
use Rattle.e3_trace.specs.Messages.{call_from, do_of, done_of, died_of, ask_of, last_of, elected_of, site_report_of, votereq_of, yes_of, vote_of, pre_of, ack_of, decide_of, deciding_by, message_by, message_of}
use Rattle.e3_trace.specs.Tellable.{IsShort, IsLong, HasNumbers, IsBegun, InputTells, MessageTells, RefusalTells, IsVerdict, EventTells}
use Rattle.e3_trace.proofs.Chains.{IsWord, two, three, four, two_again, three_again, four_again}
use Rattle.e3_trace.proofs.Cutting.{cut_join, pair_again}
use Rattle.e3_trace.proofs.Lists.{sites_again}
use Rattle.e3_trace.proofs.Numbers.{short_again, long_again, number_lacks}
use Rattle.e3_trace.proofs.Words.{widen, joined, txn_again, txn_name_again, txn_lacks, dir_again, state_again, state_lacks, op_again, answer_again}

-- words that are fields
pub short_word : (n : ℕ) → IsShort n → IsWord u32_of (decimal n) n
short_word n h = record { whole = number_lacks space n refl (widen n h); read = short_again n h }

pub long_word : (n : ℕ) → IsLong n → IsWord u64_of (decimal n) n
long_word n h = record { whole = number_lacks space n refl h; read = long_again n h }

pub txn_word : (known : Known) (t : Txn) → IsBegun known t → IsWord (txn_of known) (txn_text t) t
txn_word known t is = record { whole = txn_lacks space t refl refl is.numbers; read = txn_again known t is }

pub state_word : (state : State) → IsWord state_of (state_text state) state
state_word state = record { whole = (state_lacks state).0; read = state_again state }

-- a form behind a value that is made of another
pub made : {A B : Type 0} (make : A → B) (o : Option A) (x : A) → o ≡ Some x → option_map make o ≡ Some (make x)
made make o x e = rw e refl

-- a packet that was sent
sent_by : {A : Type 0} (o : Option ℕ) (n : ℕ) (look : ℕ → Option A) (x : A) → o ≡ Some n → look n ≡ Some x → option_and_then look o ≡ Some x
sent_by o n look x e f = rw (e, f) refl

-- inputs
pub input_again : (known : Known) (i : Input) → InputTells known i → input_of known (input_text i) ≡ Some i
unfolding input_of input_by input_text begin_input do_input elect_input sent_of
input_again known (input.Begin sites) is = made input.Begin (sites_of (sites_text sites)) sites (sites_again sites is)
input_again known (input.Do t op) is =
    made do_from (pair_of space (txn_of known) op_of (two (txn_text t) (operation_text op))) (t, op)
    (two_again (txn_of known) op_of (txn_text t) (operation_text op) t op (txn_word known t is.0) (op_again op is.1))
input_again known (input.Commit t) is = made input.Commit (txn_of known (txn_text t)) t (txn_again known t is)
input_again known (input.Cancel t) is = made input.Cancel (txn_of known (txn_text t)) t (txn_again known t is)
input_again known (input.Expire t) is = made input.Expire (txn_of known (txn_text t)) t (txn_again known t is)
input_again known (input.Elect t group) is =
    made elect_from (pair_of space (txn_of known) sites_of (two (txn_text t) (sites_text group))) (t, group)
    (two_again (txn_of known) sites_of (txn_text t) (sites_text group) t group (txn_word known t is.0) (sites_again group is.1))
input_again known (input.Deliver packet) is =
    made input.Deliver (option_and_then (packet_at known) (u64_of (decimal packet.number))) packet
    (sent_by (u64_of (decimal packet.number)) packet.number (packet_at known) packet (long_again packet.number is.0) is.1)

-- messages
pub message_again : (known : Known) (m : Message) → MessageTells known m → message_of known (message_text m) ≡ Some m
unfolding message_of message_by deciding_by do_of done_of died_of ask_of last_of elected_of site_report_of votereq_of vote_of pre_of ack_of decide_of message_text do_message done_message died_message last_message report_message votereq_message vote_message decide_message txn_and_number txn_and_call txn_and_attempt yes_text
message_again known (msg.Do t n op) is =
    made (λ (p : Txn × (ℕ × Op)). msg.Do p.0 p.1.0 p.1.1) (pair_of space (txn_of known) (pair_of space u32_of op_of) (three (txn_text t) (decimal n) (operation_text op))) (t, (n, op))
    (three_again (txn_of known) u32_of op_of (txn_text t) (decimal n) (operation_text op) t n op (txn_word known t is.0) (short_word n is.1.0) (op_again op is.1.1))
message_again known (msg.Done t n inc answer) is =
    made (λ (p : Txn × (ℕ × (ℕ × Answer))). msg.Done p.0 p.1.0 p.1.1.0 p.1.1.1)
    (pair_of space (txn_of known) (pair_of space u32_of (pair_of space u32_of answer_of)) (four (txn_text t) (decimal n) (decimal inc) (answer_text answer))) (t, (n, (inc, answer)))
    (four_again (txn_of known) u32_of u32_of answer_of (txn_text t) (decimal n) (decimal inc) (answer_text answer) t n inc answer
    (txn_word known t is.0) (short_word n is.1.0) (short_word inc is.1.1.0) (answer_again answer is.1.1.1))
message_again known (msg.Died t n older) is =
    made (λ (p : Txn × (ℕ × Txn)). msg.Died p.0 p.1.0 p.1.1) (pair_of space (txn_of known) (pair_of space u32_of (txn_of known)) (three (txn_text t) (decimal n) (txn_text older))) (t, (n, older))
    (three_again (txn_of known) u32_of (txn_of known) (txn_text t) (decimal n) (txn_text older) t n older (txn_word known t is.0) (short_word n is.1.0) (txn_again known older is.1.1))
message_again known (msg.Ask t call) is =
    made (λ (p : Txn × (ℕ × ℕ)). msg.Ask p.0 (call_from p.1)) (pair_of space (txn_of known) (pair_of space u32_of u32_of) (three (txn_text t) (decimal call.inc) (decimal call.seq))) (t, (call.inc, call.seq))
    (three_again (txn_of known) u32_of u32_of (txn_text t) (decimal call.inc) (decimal call.seq) t call.inc call.seq (txn_word known t is.0) (short_word call.inc is.1.0) (short_again call.seq is.1.1))
message_again known (msg.LastElected t call elected) is =
    made (λ (p : Txn × (ℕ × (ℕ × ℕ))). msg.LastElected p.0 (record { inc = p.1.0; seq = p.1.1.0 }) p.1.1.1)
    (pair_of space (txn_of known) (pair_of space u32_of (pair_of space u32_of u32_of)) (four (txn_text t) (decimal call.inc) (decimal call.seq) (decimal elected))) (t, (call.inc, (call.seq, elected)))
    (four_again (txn_of known) u32_of u32_of u32_of (txn_text t) (decimal call.inc) (decimal call.seq) (decimal elected) t call.inc call.seq elected
    (txn_word known t is.0) (short_word call.inc is.1.0) (short_word call.seq is.1.1.0) (short_again elected is.1.1.1))
message_again known (msg.Elected t n) is =
    made (λ (p : Txn × ℕ). msg.Elected p.0 p.1) (pair_of space (txn_of known) u32_of (two (txn_text t) (decimal n))) (t, n)
    (two_again (txn_of known) u32_of (txn_text t) (decimal n) t n (txn_word known t is.0) (short_again n is.1))
message_again known (msg.Report t n state attempt) is =
    made (λ (p : Txn × (ℕ × (State × ℕ))). msg.Report p.0 p.1.0 p.1.1.0 p.1.1.1)
    (pair_of space (txn_of known) (pair_of space u32_of (pair_of space state_of u32_of)) (four (txn_text t) (decimal n) (state_text state) (decimal attempt))) (t, (n, (state, attempt)))
    (four_again (txn_of known) u32_of state_of u32_of (txn_text t) (decimal n) (state_text state) (decimal attempt) t n state attempt
    (txn_word known t is.0) (short_word n is.1.0) (state_word state) (short_again attempt is.1.1))
message_again known (msg.VoteReq t inc count) is =
    made (λ (p : Txn × (ℕ × ℕ)). msg.VoteReq p.0 p.1.0 p.1.1) (pair_of space (txn_of known) (pair_of space u32_of u32_of) (three (txn_text t) (decimal inc) (decimal count))) (t, (inc, count))
    (three_again (txn_of known) u32_of u32_of (txn_text t) (decimal inc) (decimal count) t inc count (txn_word known t is.0) (short_word inc is.1.0) (short_again count is.1.1))
message_again known (msg.Vote t true) is =
    made (λ (p : Txn × Bool). msg.Vote p.0 p.1) (pair_of space (txn_of known) yes_of (txn_text t ++ space ∷ codes "yes")) (t, true)
    (pair_again space (txn_of known) yes_of (txn_text t) (codes "yes") t true (txn_lacks space t refl refl is.numbers) (txn_again known t is) refl)
message_again known (msg.Vote t false) is =
    made (λ (p : Txn × Bool). msg.Vote p.0 p.1) (pair_of space (txn_of known) yes_of (txn_text t ++ space ∷ codes "no")) (t, false)
    (pair_again space (txn_of known) yes_of (txn_text t) (codes "no") t false (txn_lacks space t refl refl is.numbers) (txn_again known t is) refl)
message_again known (msg.Pre t n dir) is =
    made (λ (p : Txn × (ℕ × Dir)). msg.Pre p.0 p.1.0 p.1.1) (pair_of space (txn_of known) (pair_of space u32_of dir_of) (three (txn_text t) (decimal n) (dir_text dir))) (t, (n, dir))
    (three_again (txn_of known) u32_of dir_of (txn_text t) (decimal n) (dir_text dir) t n dir (txn_word known t is.0) (short_word n is.1) (dir_again dir))
message_again known (msg.Ack t n dir) is =
    made (λ (p : Txn × (ℕ × Dir)). msg.Ack p.0 p.1.0 p.1.1) (pair_of space (txn_of known) (pair_of space u32_of dir_of) (three (txn_text t) (decimal n) (dir_text dir))) (t, (n, dir))
    (three_again (txn_of known) u32_of dir_of (txn_text t) (decimal n) (dir_text dir) t n dir (txn_word known t is.0) (short_word n is.1) (dir_again dir))
message_again known (msg.Decide t dir) is =
    made (λ (p : Txn × Dir). msg.Decide p.0 p.1) (pair_of space (txn_of known) dir_of (two (txn_text t) (dir_text dir))) (t, dir)
    (two_again (txn_of known) dir_of (txn_text t) (dir_text dir) t dir (txn_word known t is) (dir_again dir))

-- verdicts
pub of_again : (a b : ℕ) → IsLong a → IsLong b → of_of ((decimal a ++ codes " of ") ++ decimal b) ≡ Some (a, b)
unfolding of_of
of_again a b ha hb =
    ap (pair_of space u64_of (behind (codes "of") u64_of)) (append_assoc (decimal a) (codes " of ") (decimal b))
    ∙ pair_again space u64_of (behind (codes "of") u64_of) (decimal a) (codes "of " ++ decimal b) a b (number_lacks space a refl ha) (long_again a ha) (long_again b hb)

verdict_again : (v : Verdict) → IsVerdict v → verdict_of (verdict_text v) ≡ Some v
unfolding verdict_of verdict_text block_text
verdict_again verdict.Abort is = refl
verdict_again verdict.Commit is = refl
verdict_again verdict.PreCommit is = refl
verdict_again verdict.PreAbort is = refl
verdict_again (verdict.Block have total) is =
    made block_from (of_of ((decimal have ++ codes " of ") ++ decimal total)) (have, total) (of_again have total is.0 is.1)

-- refusals
doom_again : (site had now : ℕ) → IsShort site → IsShort had → IsShort now → doom_of (three (decimal site) (decimal had) (decimal now)) ≡ Some (site, (had, now))
doom_again site had now hs hh hn = three_again u32_of u32_of u32_of (decimal site) (decimal had) (decimal now) site had now (short_word site hs) (short_word had hh) (short_again now hn)

refusal_again : (known : Known) (why : Refusal) → RefusalTells known why → refusal_of known (refusal_text why) ≡ Some why
unfolding refusal_of refusal_by refusal_text doom_text
refusal_again known refusal.NoTxn is = refl
refusal_again known (refusal.Busy op) is = made refusal.Busy (u32_of (decimal op)) op (short_again op is)
refusal_again known (refusal.Over dir) is = made refusal.Over (dir_of (dir_text dir)) dir (dir_again dir)
refusal_again known (refusal.Died older) is = made refusal.Died (txn_of known (txn_text older)) older (txn_again known older is)
refusal_again known (refusal.Doomed site had now) is =
    made doomed_from (doom_of (three (decimal site) (decimal had) (decimal now))) (site, (had, now)) (doom_again site had now is.0 is.1.0 is.1.1)
refusal_again known (refusal.TooLate attempt) is = made refusal.TooLate (u32_of (decimal attempt)) attempt (short_again attempt is)

-- what is told of a transaction that was begun
begun_by : {A : Type 0} (o : Option Txn) (t : Txn) (next : Txn → Option A) (x : A) → o ≡ Some t → next t ≡ Some x → option_and_then next o ≡ Some x
begun_by o t next x e f = rw (e, f) refl

by_again : (known : Known) (e : Told) → EventTells known e → told_by known ((of_txn e).site, ((of_txn e).inc, (of_txn e).seq)) (told_words e) ≡ Some e
unfolding told_by began_of event_of event_by told_words began_text op_text ended_text died_text doom_text refused_text kept_state_text election_text
by_again known (told.Began t) is =
    made (λ (sites : List ℕ). told.Began (txn_from (t.site, (t.inc, t.seq)) sites)) (sites_of (sites_text t.sites)) t.sites (sites_again t.sites is.1)
by_again known (told.Op t n answer) is =
    begun_by (named known (t.site, (t.inc, t.seq))) t (λ u. event_of known u (op_text n answer)) (told.Op t n answer) is.0.begun
    (made (λ (p : ℕ × Answer). told.Op t p.0 p.1) (pair_of space u32_of answer_of (two (decimal n) (answer_text answer))) (n, answer)
    (two_again u32_of answer_of (decimal n) (answer_text answer) n answer (short_word n is.1.0) (answer_again answer is.1.1)))
by_again known (told.Ended t Commit) is = begun_by (named known (t.site, (t.inc, t.seq))) t (λ u. event_of known u (codes "committed")) (told.Ended t Commit) is.begun refl
by_again known (told.Ended t Abort) is = begun_by (named known (t.site, (t.inc, t.seq))) t (λ u. event_of known u (codes "aborted")) (told.Ended t Abort) is.begun refl
by_again known (told.Died t older) is =
    begun_by (named known (t.site, (t.inc, t.seq))) t (λ u. event_of known u (died_text older)) (told.Died t older) is.0.begun
    (made (λ (o : Txn). told.Died t o) (txn_of known (txn_text older)) older (txn_again known older is.1))
by_again known (told.Doomed t site had now) is =
    begun_by (named known (t.site, (t.inc, t.seq))) t (λ u. event_of known u (doom_text site had now)) (told.Doomed t site had now) is.0.begun
    (made (λ (p : ℕ × (ℕ × ℕ)). told.Doomed t p.0 p.1.0 p.1.1) (doom_of (three (decimal site) (decimal had) (decimal now))) (site, (had, now)) (doom_again site had now is.1.0 is.1.1.0 is.1.1.1))
by_again known (told.Refused t why) is =
    begun_by (named known (t.site, (t.inc, t.seq))) t (λ u. event_of known u (refused_text why)) (told.Refused t why) is.0.begun
    (made (λ (w : Refusal). told.Refused t w) (refusal_of known (refusal_text why)) why (refusal_again known why is.1))
by_again known (told.Kept t state) is =
    begun_by (named known (t.site, (t.inc, t.seq))) t (λ u. event_of known u (kept_state_text state)) (told.Kept t state) is.begun
    (made (λ (s : State). told.Kept t s) (state_of (state_text state)) state (state_again state))
by_again known (told.Verdict t n v) is =
    begun_by (named known (t.site, (t.inc, t.seq))) t (λ u. event_of known u (election_text n v)) (told.Verdict t n v) is.0.begun
    (made (λ (p : ℕ × Verdict). told.Verdict t p.0 p.1) (pair_of space u32_of verdict_of (two (decimal n) (verdict_text v))) (n, v)
    (two_again u32_of verdict_of (decimal n) (verdict_text v) n v (short_word n is.1.0) (verdict_again v is.1.1)))

pub has_numbers : (known : Known) (e : Told) → EventTells known e → HasNumbers (of_txn e)
has_numbers known (told.Began t) is = is.0
has_numbers known (told.Op t n answer) is = is.0.numbers
has_numbers known (told.Ended t dir) is = is.numbers
has_numbers known (told.Died t older) is = is.0.numbers
has_numbers known (told.Doomed t site had now) is = is.0.numbers
has_numbers known (told.Refused t why) is = is.0.numbers
has_numbers known (told.Kept t state) is = is.numbers
has_numbers known (told.Verdict t n v) is = is.0.numbers

told_cut : (known : Known) (t : Txn) (text : List ℕ) (e : Told) → HasNumbers t → told_by known (t.site, (t.inc, t.seq)) text ≡ Some e → told_of known (two (txn_text t) text) ≡ Some e
unfolding told_of
told_cut known t text e has by =
    rw (joined space (txn_text t) text, cut_join space (txn_text t) text (txn_lacks space t refl refl has), txn_name_again t has, by) refl

-- what a step tells
pub told_again : (known : Known) (e : Told) → EventTells known e → told_of known (told_text e) ≡ Some e
unfolding told_text
told_again known e is = told_cut known (of_txn e) (told_words e) e (has_numbers known e is) (by_again known e is)
