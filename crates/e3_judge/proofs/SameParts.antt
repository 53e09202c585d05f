-- The tests of equality are true exactly where the two are equal.
use Rattle.std.proofs.Common.{◌≡◌, ℕ, Bool, true, false, List, [], ◌∷◌, Option, Some, None, refl}
use Rattle.std.specs.Bool.{Decides}
use Rattle.std.proofs.lemmas.Bool.Decides.{Decides-eqb, Decides-and, Decides-like}
use Rattle.e3_types.specs.declared.transactions.Answer.TheVariants.{Absent, Value, Written}
use Rattle.e3_types.specs.declared.transactions.Call.{Call}
use Rattle.e3_types.specs.declared.transactions.Dir.TheVariants as dir
use Rattle.e3_types.specs.declared.transactions.Key.{Key}
use Rattle.e3_types.specs.declared.transactions.NumOp.{NumOp}
use Rattle.e3_types.specs.declared.transactions.Op.{Op}
use Rattle.e3_types.specs.declared.transactions.Op.TheVariants.{Read, Write}
use Rattle.e3_types.specs.declared.transactions.Row.{Row}
use Rattle.e3_types.specs.declared.transactions.State.TheVariants.{Q, W, Pc, Pa, C, A}
use Rattle.e3_types.specs.declared.transactions.Txn.{Txn}
use Rattle.e3_types.specs.declared.messages.Message.{Message}
use Rattle.e3_types.specs.declared.messages.Packet.{Packet}
use Rattle.e3_types.specs.declared.entries.Input.TheVariants as input
use Rattle.e3_types.specs.declared.entries.Refusal.TheVariants as refusal
use Rattle.e3_types.specs.declared.entries.Told.TheVariants as told
use Rattle.e3_types.specs.declared.messages.Message.TheVariants as msg
use Rattle.e3_types.specs.declared.records.Record.TheVariants as log
use Rattle.e3_types.specs.declared.verdicts.Verdict.TheVariants as verdict
use Rattle.e3_types.specs.Same.{same_numbers, same_txn, same_key, same_dir, same_state, same_call}
use Rattle.e3_judge.specs.Claims.{IsExact}
use Rattle.e3_judge.specs.Equal.{same_list, same_truth, same_answer, same_op, same_num_op, same_row, same_record, same_message, same_packet, same_input, same_refusal, same_verdict, same_told, is_some}

-- of lists, where it is of their members
pub exact_list : {X : Type 0} → (same : X → X → Bool) → IsExact same → IsExact (same_list same)
exact_list same exact [] [] = (λ e. refl, λ e. refl)
exact_list same exact (x ∷ xs) (y ∷ ys) =
    Decides-like _ (λ p. cc) (λ e. (cc, cc)) (Decides-and _ _ (exact x y) (exact_list same exact xs ys))
exact_list same exact [] (y ∷ ys) = (λ e. absurd cc, λ e. absurd cc)
exact_list same exact (x ∷ xs) [] = (λ e. absurd cc, λ e. absurd cc)

pub exact_numbers : IsExact same_numbers
exact_numbers [] [] = (λ e. refl, λ e. refl)
exact_numbers (x ∷ xs) (y ∷ ys) =
    Decides-like _ (λ p. cc) (λ e. (cc, cc)) (Decides-and _ _ (Decides-eqb x y) (exact_numbers xs ys))
exact_numbers [] (y ∷ ys) = (λ e. absurd cc, λ e. absurd cc)
exact_numbers (x ∷ xs) [] = (λ e. absurd cc, λ e. absurd cc)

pub exact_some : {X : Type 0} → (same : X → X → Bool) → IsExact same → (o : Option X) (x : X) → Decides (is_some same o x) (o ≡ Some x)
exact_some same exact None x = (λ e. absurd cc, λ e. absurd cc)
exact_some same exact (Some y) x = Decides-like _ (λ p. cc) (λ e. cc) (exact y x)

-- transactions and their parts
abbrev txn : ℕ → ℕ → ℕ → List ℕ → Txn
txn site inc seq sites = record { site = site; inc = inc; seq = seq; sites = sites }

txn_of_parts : (t u : Txn) → (((t.site ≡ u.site) × (t.inc ≡ u.inc)) × (t.seq ≡ u.seq)) × (t.sites ≡ u.sites) → t ≡ u
txn_of_parts t u p = let e : txn t.site t.inc t.seq t.sites ≡ txn u.site u.inc u.seq u.sites = cc in e

pub exact_txn : IsExact same_txn
exact_txn t u = Decides-like _ (txn_of_parts t u) (λ e. (((cc, cc), cc), cc))
    (Decides-and _ _ (Decides-and _ _ (Decides-and _ _ (Decides-eqb t.site u.site) (Decides-eqb t.inc u.inc)) (Decides-eqb t.seq u.seq)) (exact_numbers t.sites u.sites))

abbrev key : ℕ → List ℕ → Key
key site name = record { site = site; name = name }

pub exact_key : IsExact same_key
exact_key k l = Decides-like _ (λ p. let e : key k.site k.name ≡ key l.site l.name = cc in e) (λ e. (cc, cc)) (Decides-and _ _ (Decides-eqb k.site l.site) (exact_numbers k.name l.name))

abbrev call : ℕ → ℕ → Call
call inc seq = record { inc = inc; seq = seq }

pub exact_call : IsExact same_call
exact_call c d = Decides-like _ (λ p. let e : call c.inc c.seq ≡ call d.inc d.seq = cc in e) (λ e. (cc, cc)) (Decides-and _ _ (Decides-eqb c.inc d.inc) (Decides-eqb c.seq d.seq))

pub exact_dir : IsExact same_dir
exact_dir dir.Abort dir.Abort = (λ e. refl, λ e. refl)
exact_dir dir.Commit dir.Commit = (λ e. refl, λ e. refl)
exact_dir _ _ = (λ e. absurd cc, λ e. absurd cc)

pub exact_state : IsExact same_state
exact_state Q Q = (λ e. refl, λ e. refl)
exact_state W W = (λ e. refl, λ e. refl)
exact_state Pc Pc = (λ e. refl, λ e. refl)
exact_state Pa Pa = (λ e. refl, λ e. refl)
exact_state C C = (λ e. refl, λ e. refl)
exact_state A A = (λ e. refl, λ e. refl)
exact_state _ _ = (λ e. absurd cc, λ e. absurd cc)

pub exact_truth : IsExact same_truth
exact_truth true true = (λ e. refl, λ e. refl)
exact_truth false false = (λ e. refl, λ e. refl)
exact_truth _ _ = (λ e. absurd cc, λ e. absurd cc)

pub exact_answer : IsExact same_answer
exact_answer Absent Absent = (λ e. refl, λ e. refl)
exact_answer (Value v) (Value w) = Decides-like _ (λ p. cc) (λ e. cc) (exact_numbers v w)
exact_answer Written Written = (λ e. refl, λ e. refl)
exact_answer _ _ = (λ e. absurd cc, λ e. absurd cc)

pub exact_op : IsExact same_op
exact_op (Read k) (Read l) = Decides-like _ (λ p. cc) (λ e. cc) (exact_key k l)
exact_op (Write k v) (Write l w) = Decides-like _ (λ p. cc) (λ e. (cc, cc)) (Decides-and _ _ (exact_key k l) (exact_numbers v w))
exact_op _ _ = (λ e. absurd cc, λ e. absurd cc)

abbrev num_op : ℕ → Op → NumOp
num_op n op = record { n = n; op = op }

pub exact_num_op : IsExact same_num_op
exact_num_op o p = Decides-like _ (λ parts. let e : num_op o.n o.op ≡ num_op p.n p.op = cc in e) (λ e. (cc, cc)) (Decides-and _ _ (Decides-eqb o.n p.n) (exact_op o.op p.op))

abbrev row : List ℕ → List ℕ → Row
row name val = record { name = name; val = val }

pub exact_row : IsExact same_row
exact_row r s = Decides-like _ (λ p. let e : row r.name r.val ≡ row s.name s.val = cc in e) (λ e. (cc, cc)) (Decides-and _ _ (exact_numbers r.name s.name) (exact_numbers r.val s.val))

-- what a log, a step and a packet have
pub exact_record : IsExact same_record
exact_record (log.Birth f s w r) (log.Birth g t x q) = Decides-like _ (λ p. cc) (λ e. (((cc, cc), cc), cc))
    (Decides-and _ _ (Decides-and _ _ (Decides-and _ _ (Decides-eqb f g) (Decides-eqb s t)) (exact_numbers w x)) (exact_list same_row exact_row r q))
exact_record (log.Inc n) (log.Inc m) = Decides-like _ (λ p. cc) (λ e. cc) (Decides-eqb n m)
exact_record (log.Vote t o) (log.Vote u p) = Decides-like _ (λ e. cc) (λ e. (cc, cc))
    (Decides-and _ _ (exact_txn t u) (exact_list same_num_op exact_num_op o p))
exact_record (log.Join t n) (log.Join u m) = Decides-like _ (λ p. cc) (λ e. (cc, cc))
    (Decides-and _ _ (exact_txn t u) (Decides-eqb n m))
exact_record (log.Attempt t n d) (log.Attempt u m e) = Decides-like _ (λ p. cc) (λ e. ((cc, cc), cc))
    (Decides-and _ _ (Decides-and _ _ (exact_txn t u) (Decides-eqb n m)) (exact_dir d e))
exact_record (log.Decision t d) (log.Decision u e) = Decides-like _ (λ p. cc) (λ e. (cc, cc))
    (Decides-and _ _ (exact_txn t u) (exact_dir d e))
exact_record _ _ = (λ e. absurd cc, λ e. absurd cc)

pub exact_message : IsExact same_message
exact_message (msg.Do t n o) (msg.Do u m p) = Decides-like _ (λ e. cc) (λ e. ((cc, cc), cc))
    (Decides-and _ _ (Decides-and _ _ (exact_txn t u) (Decides-eqb n m)) (exact_op o p))
exact_message (msg.Done t n i a) (msg.Done u m j b) = Decides-like _ (λ e. cc) (λ e. (((cc, cc), cc), cc))
    (Decides-and _ _ (Decides-and _ _ (Decides-and _ _ (exact_txn t u) (Decides-eqb n m)) (Decides-eqb i j)) (exact_answer a b))
exact_message (msg.Died t n o) (msg.Died u m p) = Decides-like _ (λ e. cc) (λ e. ((cc, cc), cc))
    (Decides-and _ _ (Decides-and _ _ (exact_txn t u) (Decides-eqb n m)) (exact_txn o p))
exact_message (msg.Ask t c) (msg.Ask u d) = Decides-like _ (λ e. cc) (λ e. (cc, cc))
    (Decides-and _ _ (exact_txn t u) (exact_call c d))
exact_message (msg.LastElected t c n) (msg.LastElected u d m) = Decides-like _ (λ e. cc) (λ e. ((cc, cc), cc))
    (Decides-and _ _ (Decides-and _ _ (exact_txn t u) (exact_call c d)) (Decides-eqb n m))
exact_message (msg.Elected t n) (msg.Elected u m) = Decides-like _ (λ e. cc) (λ e. (cc, cc))
    (Decides-and _ _ (exact_txn t u) (Decides-eqb n m))
exact_message (msg.Report t n s a) (msg.Report u m r b) = Decides-like _ (λ e. cc) (λ e. (((cc, cc), cc), cc))
    (Decides-and _ _ (Decides-and _ _ (Decides-and _ _ (exact_txn t u) (Decides-eqb n m)) (exact_state s r)) (Decides-eqb a b))
exact_message (msg.VoteReq t i c) (msg.VoteReq u j d) = Decides-like _ (λ e. cc) (λ e. ((cc, cc), cc))
    (Decides-and _ _ (Decides-and _ _ (exact_txn t u) (Decides-eqb i j)) (Decides-eqb c d))
exact_message (msg.Vote t y) (msg.Vote u z) = Decides-like _ (λ e. cc) (λ e. (cc, cc))
    (Decides-and _ _ (exact_txn t u) (exact_truth y z))
exact_message (msg.Pre t n d) (msg.Pre u m b) = Decides-like _ (λ e. cc) (λ e. ((cc, cc), cc))
    (Decides-and _ _ (Decides-and _ _ (exact_txn t u) (Decides-eqb n m)) (exact_dir d b))
exact_message (msg.Ack t n d) (msg.Ack u m b) = Decides-like _ (λ e. cc) (λ e. ((cc, cc), cc))
    (Decides-and _ _ (Decides-and _ _ (exact_txn t u) (Decides-eqb n m)) (exact_dir d b))
exact_message (msg.Decide t d) (msg.Decide u b) = Decides-like _ (λ e. cc) (λ e. (cc, cc))
    (Decides-and _ _ (exact_txn t u) (exact_dir d b))
exact_message _ _ = (λ e. absurd cc, λ e. absurd cc)

abbrev packet : ℕ → ℕ → ℕ → Message → Packet
packet number sender to message = record { number = number; «from» = sender; to = to; msg = message }

packet_of_parts : (p q : Packet) → (((p.number ≡ q.number) × (p.«from» ≡ q.«from»)) × (p.to ≡ q.to)) × (p.msg ≡ q.msg) → p ≡ q
packet_of_parts p q parts =
    let e : packet p.number p.«from» p.to p.msg ≡ packet q.number q.«from» q.to q.msg = cc in e

pub exact_packet : IsExact same_packet
exact_packet p q = Decides-like _ (packet_of_parts p q) (λ e. (((cc, cc), cc), cc))
    (Decides-and _ _ (Decides-and _ _ (Decides-and _ _ (Decides-eqb p.number q.number) (Decides-eqb p.«from» q.«from»)) (Decides-eqb p.to q.to)) (exact_message p.msg q.msg))

pub exact_input : IsExact same_input
exact_input (input.Begin s) (input.Begin t) = Decides-like _ (λ e. cc) (λ e. cc) (exact_numbers s t)
exact_input (input.Do t o) (input.Do u p) = Decides-like _ (λ e. cc) (λ e. (cc, cc))
    (Decides-and _ _ (exact_txn t u) (exact_op o p))
exact_input (input.Commit t) (input.Commit u) = Decides-like _ (λ e. cc) (λ e. cc) (exact_txn t u)
exact_input (input.Cancel t) (input.Cancel u) = Decides-like _ (λ e. cc) (λ e. cc) (exact_txn t u)
exact_input (input.Expire t) (input.Expire u) = Decides-like _ (λ e. cc) (λ e. cc) (exact_txn t u)
exact_input (input.Elect t g) (input.Elect u h) = Decides-like _ (λ e. cc) (λ e. (cc, cc))
    (Decides-and _ _ (exact_txn t u) (exact_numbers g h))
exact_input (input.Deliver p) (input.Deliver q) = Decides-like _ (λ e. cc) (λ e. cc) (exact_packet p q)
exact_input _ _ = (λ e. absurd cc, λ e. absurd cc)

pub exact_refusal : IsExact same_refusal
exact_refusal refusal.NoTxn refusal.NoTxn = (λ e. refl, λ e. refl)
exact_refusal (refusal.Busy n) (refusal.Busy m) = Decides-like _ (λ e. cc) (λ e. cc) (Decides-eqb n m)
exact_refusal (refusal.Over d) (refusal.Over b) = Decides-like _ (λ e. cc) (λ e. cc) (exact_dir d b)
exact_refusal (refusal.Died t) (refusal.Died u) = Decides-like _ (λ e. cc) (λ e. cc) (exact_txn t u)
exact_refusal (refusal.Doomed s h n) (refusal.Doomed t i m) = Decides-like _ (λ e. cc) (λ e. ((cc, cc), cc))
    (Decides-and _ _ (Decides-and _ _ (Decides-eqb s t) (Decides-eqb h i)) (Decides-eqb n m))
exact_refusal (refusal.TooLate n) (refusal.TooLate m) = Decides-like _ (λ e. cc) (λ e. cc) (Decides-eqb n m)
exact_refusal _ _ = (λ e. absurd cc, λ e. absurd cc)

pub exact_verdict : IsExact same_verdict
exact_verdict verdict.Abort verdict.Abort = (λ e. refl, λ e. refl)
exact_verdict verdict.Commit verdict.Commit = (λ e. refl, λ e. refl)
exact_verdict verdict.PreCommit verdict.PreCommit = (λ e. refl, λ e. refl)
exact_verdict verdict.PreAbort verdict.PreAbort = (λ e. refl, λ e. refl)
exact_verdict (verdict.Block h t) (verdict.Block i u) = Decides-like _ (λ e. cc) (λ e. (cc, cc))
    (Decides-and _ _ (Decides-eqb h i) (Decides-eqb t u))
exact_verdict _ _ = (λ e. absurd cc, λ e. absurd cc)

pub exact_told : IsExact same_told
exact_told (told.Began t) (told.Began u) = Decides-like _ (λ e. cc) (λ e. cc) (exact_txn t u)
exact_told (told.Op t n a) (told.Op u m b) = Decides-like _ (λ e. cc) (λ e. ((cc, cc), cc))
    (Decides-and _ _ (Decides-and _ _ (exact_txn t u) (Decides-eqb n m)) (exact_answer a b))
exact_told (told.Ended t d) (told.Ended u b) = Decides-like _ (λ e. cc) (λ e. (cc, cc))
    (Decides-and _ _ (exact_txn t u) (exact_dir d b))
exact_told (told.Died t o) (told.Died u p) = Decides-like _ (λ e. cc) (λ e. (cc, cc))
    (Decides-and _ _ (exact_txn t u) (exact_txn o p))
exact_told (told.Doomed t s h n) (told.Doomed u r i m) = Decides-like _ (λ e. cc) (λ e. (((cc, cc), cc), cc))
    (Decides-and _ _ (Decides-and _ _ (Decides-and _ _ (exact_txn t u) (Decides-eqb s r)) (Decides-eqb h i)) (Decides-eqb n m))
exact_told (told.Refused t r) (told.Refused u s) = Decides-like _ (λ e. cc) (λ e. (cc, cc))
    (Decides-and _ _ (exact_txn t u) (exact_refusal r s))
exact_told (told.Kept t s) (told.Kept u r) = Decides-like _ (λ e. cc) (λ e. (cc, cc))
    (Decides-and _ _ (exact_txn t u) (exact_state s r))
exact_told (told.Verdict t n v) (told.Verdict u m w) = Decides-like _ (λ e. cc) (λ e. ((cc, cc), cc))
    (Decides-and _ _ (Decides-and _ _ (exact_txn t u) (Decides-eqb n m)) (exact_verdict v w))
exact_told _ _ = (λ e. absurd cc, λ e. absurd cc)
