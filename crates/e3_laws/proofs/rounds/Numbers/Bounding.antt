-- In a legal history the numbers of a transaction's elections are bounded: in all logs, in records in doubt, in packets, and in
-- what elections in progress have heard. Each entry raises the bound by 18 at most.
use Rattle.std.proofs.Common.{◌≡◌, ◌==◌, ◌+◌, ◌≤◌, ◌++◌, ◌∷◌, [], ℕ, suc, max, Bool, true, false, not, List, Option, Some, None, inl, inr, refl, ap, sym, subst, ◌∙◌, if◌then◌else◌, fold, map, nat_le, arith, eqb-true}
use Rattle.std.specs.Prelude.{Contains}
use Rattle.std.specs.List.{list_all}
use Rattle.std.proofs.lemmas.Bool.{and_parts}
use Rattle.std.proofs.lemmas.Grind.{common_steps}
use Rattle.std.proofs.lemmas.List.Elements.{Contains-append_cases}
use Rattle.e3_types.specs.declared.entries.Entry.{Entry}
use Rattle.e3_types.specs.declared.entries.Input.{Input}
use Rattle.e3_types.specs.declared.entries.Input.TheVariants as input
use Rattle.e3_types.specs.declared.messages.Message.{Message}
use Rattle.e3_types.specs.declared.messages.Message.TheVariants as msg
use Rattle.e3_types.specs.declared.messages.Packet.{Packet}
use Rattle.e3_types.specs.declared.records.Record.{Record}
use Rattle.e3_types.specs.declared.records.Record.TheVariants as log
use Rattle.e3_types.specs.declared.scenarios.Scenario.{Scenario}
use Rattle.e3_types.specs.declared.transactions.Txn.{Txn}
use Rattle.e3_types.specs.Same.{same_txn}
use Rattle.e3_world.specs.Gatherings.{Election, Elections}
use Rattle.e3_world.specs.declared.lives.Life.{Life}
use Rattle.e3_world.specs.declared.lives.Made.{Made}
use Rattle.e3_world.specs.Elections.{election_by, greatest_heard}
use Rattle.e3_world.specs.Legal.{IsDue, entry_of, made_by, numbered}
use Rattle.e3_world.specs.Lives.{life_at}
use Rattle.e3_world.specs.Logs.{last_elected, last_elected_by}
use Rattle.e3_world.specs.Moves.{Past, Tail, log_of, moves_of, open_tail, own_entries, past_of, unnumbered, unnumbered_input}
use Rattle.e3_world.specs.Packets.{outs_of, sent}
use Rattle.e3_world.specs.Steps.{step_at}
use Rattle.e3_world.proofs.InTrail.{pending_sent}
use Rattle.e3_world.proofs.Pushes.{life_log_at, past_push}
use Rattle.e3_world.proofs.Readings.{own_other, own_same}
use Rattle.e3_laws.proofs.rounds.Deliveries.Gathering.{elections_of, elections_on, life_on}
use Rattle.e3_laws.proofs.rounds.Numbers.Hearing.{awaits, heard_low}
use Rattle.e3_laws.proofs.rounds.Numbers.Inputs.{Goes, InputLow, at, elects_of, goes, moment, now_at}
use Rattle.e3_laws.proofs.rounds.Numbers.Low.{is_low, low_message, low_packet, low_record}
use Rattle.e3_laws.proofs.steps.Moving.{log_on, log_still, moves_still, sent_push}
use Rattle.e3_laws.proofs.steps.Lists.{both_all}
use Rattle.e3_laws.proofs.steps.Packets.{only_one}

-- the records that are in doubt
abbrev pub doubted : Option Tail → List Record
doubted None = []
doubted (Some tail) = tail.records

-- all numbers of the transaction's elections are within the bound
pub record Bounded (sc : Scenario) (h : List Entry) (t : Txn) (b : ℕ) : Type 0 where
  pub some : 1 ≤ b
  pub logs : (s : ℕ) → list_all (low_record t b) (log_of sc h s) ≡ true
  pub tails : (s : ℕ) → list_all (low_record t b) (doubted (open_tail sc h s)) ≡ true
  pub packets : list_all (low_packet t b) (sent h) ≡ true
  pub elections : (s : ℕ) → heard_low b (now_at s t (life_at (moves_of sc h s))) ≡ true

-- a greater bound
all_more : {X : Type 0} (p q : X → Bool) (xs : List X) → ((x : X) → p x ≡ true → q x ≡ true) → list_all p xs ≡ true → list_all q xs ≡ true
all_more p q [] more all = refl
all_more p q (x ∷ xs) more all =
    let parts = and_parts (p x) (list_all p xs) all in
    rw (more x parts.0) (all_more p q xs more parts.1)

more_low : (t : Txn) (b c : ℕ) (u : Txn) (n : ℕ) → b ≤ c → is_low t b u n ≡ true → is_low t c u n ≡ true
more_low t b c u n less is = by (same_txn t u) refl
  where
    up : nat_le n b ≡ true → nat_le n c ≡ true
    up low = grind (arith, common_steps, less, low)

    by : (d : Bool) → same_txn t u ≡ d → is_low t c u n ≡ true
    by true same = rw same (up ((let here : is_low t b u n ≡ nat_le n b = rw same refl in sym here) ∙ is))
    by false other = rw other refl

more_record : (t : Txn) (b c : ℕ) (r : Record) → b ≤ c → low_record t b r ≡ true → low_record t c r ≡ true
more_record t b c (log.Join u n) less is = more_low t b c u n less is
more_record t b c (log.Birth format site weights born) less is = refl
more_record t b c (log.Inc n) less is = refl
more_record t b c (log.Vote u ops) less is = refl
more_record t b c (log.Attempt u n dir) less is = refl
more_record t b c (log.Decision u dir) less is = refl

more_message : (t : Txn) (b c : ℕ) (m : Message) → b ≤ c → low_message t b m ≡ true → low_message t c m ≡ true
more_message t b c (msg.LastElected u call n) less is = more_low t b c u n less is
more_message t b c (msg.Elected u n) less is = more_low t b c u n less is
more_message t b c (msg.Do u n op) less is = refl
more_message t b c (msg.Done u n inc answer) less is = refl
more_message t b c (msg.Died u n older) less is = refl
more_message t b c (msg.Ask u call) less is = refl
more_message t b c (msg.Report u n st attempt) less is = refl
more_message t b c (msg.VoteReq u inc count) less is = refl
more_message t b c (msg.Vote u said) less is = refl
more_message t b c (msg.Pre u n dir) less is = refl
more_message t b c (msg.Ack u n dir) less is = refl
more_message t b c (msg.Decide u dir) less is = refl

more_packet : (t : Txn) (b c : ℕ) (p : Packet) → b ≤ c → low_packet t b p ≡ true → low_packet t c p ≡ true
more_packet t b c p less is =
    let parts = and_parts (low_message t b p.msg) (not (p.to == p.«from»)) is in
    rw (more_message t b c p.msg less parts.0, parts.1) refl

pub more_records : (t : Txn) (b c : ℕ) (rs : List Record) → b ≤ c → list_all (low_record t b) rs ≡ true → list_all (low_record t c) rs ≡ true
more_records t b c rs less all = all_more (low_record t b) (low_record t c) rs (λ r is. more_record t b c r less is) all

pub more_packets : (t : Txn) (b c : ℕ) (ps : List Packet) → b ≤ c → list_all (low_packet t b) ps ≡ true → list_all (low_packet t c) ps ≡ true
more_packets t b c ps less all = all_more (low_packet t b) (low_packet t c) ps (λ p is. more_packet t b c p less is) all

pub more_heard : (b c : ℕ) (o : Option Election) → b ≤ c → heard_low b o ≡ true → heard_low c o ≡ true
more_heard b c None less is = refl
more_heard b c (Some e) less is = up (greatest_heard e) is
  where
    up : (n : ℕ) → nat_le n b ≡ true → nat_le n c ≡ true
    up n low = grind (arith, common_steps, less, low)

pub more_bounded : (sc : Scenario) (h : List Entry) (t : Txn) (b c : ℕ) → b ≤ c → Bounded sc h t b → Bounded sc h t c
more_bounded sc h t b c less was = record {
  some = (let one : 1 ≤ b = was.some in omega (arith, one, less));
  logs = λ s. more_records t b c (log_of sc h s) less (was.logs s);
  tails = λ s. more_records t b c (doubted (open_tail sc h s)) less (was.tails s);
  packets = more_packets t b c (sent h) less was.packets;
  elections = λ s. more_heard b c (now_at s t (life_at (moves_of sc h s))) less (was.elections s);
}

-- the last number of a log keeps the bound
elected_from : (t : Txn) (b k : ℕ) (rs : List Record) → k ≤ b → list_all (low_record t b) rs ≡ true → fold (last_elected_by t) k rs ≤ b
elected_from t b k [] less all = less
elected_from t b k (r ∷ rs) less all =
    let parts = and_parts (low_record t b r) (list_all (low_record t b) rs) all in
    elected_from t b (last_elected_by t k r) rs (one r parts.0) parts.1
  where
    most : (n : ℕ) → nat_le n b ≡ true → max k n ≤ b
    most n is = grind (arith, common_steps, is, less)

    one : (r : Record) → low_record t b r ≡ true → last_elected_by t k r ≤ b
    one (log.Join u n) is = by (same_txn t u) refl
      where
        by : (d : Bool) → same_txn t u ≡ d → (if same_txn t u then max k n else k) ≤ b
        by true same = rw same (most n ((let here : is_low t b u n ≡ nat_le n b = rw same refl in sym here) ∙ is))
        by false other = rw other less
    one (log.Birth format site weights born) is = less
    one (log.Inc n) is = less
    one (log.Vote u ops) is = less
    one (log.Attempt u n dir) is = less
    one (log.Decision u dir) is = less

pub elected_low : (t : Txn) (b : ℕ) (rs : List Record) → 1 ≤ b → list_all (low_record t b) rs ≡ true → last_elected t rs ≤ b
elected_low t b rs some all = elected_from t b 1 rs some all

one_of : {X : Type 0} (P : X → Bool) (xs : List X) (x : X) → list_all P xs ≡ true → Contains xs x → P x ≡ true
one_of P [] x all has = absurd (omega (arith, has.1))
one_of P (y ∷ ys) x all has = elim (Contains-append_cases (y ∷ []) ys x has) [
  | inl first ↦ subst (λ z. P z ≡ true) (only_one y x first) (and_parts (P y) (list_all P ys) all).0
  | inr more ↦ one_of P ys x (and_parts (P y) (list_all P ys) all).1 more
]

due_low : (sc : Scenario) (h : List Entry) (t : Txn) (b s : ℕ) (i : Input) → Bounded sc h t b → IsDue sc h s i → InputLow t b s (unnumbered_input i)
due_low sc h t b s (input.Deliver p) was due =
    let parts = and_parts (low_message t b p.msg) (not (p.to == p.«from»)) (one_of (low_packet t b) (sent h) p was.packets (pending_sent sc h p due.is_pending)) in
    (parts.0, back p.«from» (subst (λ x. not (x == p.«from») ≡ true) due.to parts.1))
  where
    back : (f : ℕ) → not (s == f) ≡ true → (f == s) ≡ false
    back f is = grind (arith, common_steps, is)
due_low sc h t b s (input.Begin sites) was due = tt
due_low sc h t b s (input.Do u op) was due = tt
due_low sc h t b s (input.Commit u) was due = tt
due_low sc h t b s (input.Cancel u) was due = tt
due_low sc h t b s (input.Expire u) was due = tt
due_low sc h t b s (input.Elect u group) was due = tt

elects_unnumbered : (t : Txn) (i : Input) → elects_of t (unnumbered_input i) ≡ elects_of t i
elects_unnumbered t (input.Deliver p) = refl
elects_unnumbered t (input.Begin sites) = refl
elects_unnumbered t (input.Do u op) = refl
elects_unnumbered t (input.Commit u) = refl
elects_unnumbered t (input.Cancel u) = refl
elects_unnumbered t (input.Expire u) = refl
elects_unnumbered t (input.Elect u group) = refl

numbered_low : (t : Txn) (b n : ℕ) (ps : List Packet) → list_all (low_packet t b) ps ≡ true → list_all (low_packet t b) (numbered n ps) ≡ true
numbered_low t b n [] all = refl
numbered_low t b n (p ∷ ps) all =
    let parts = and_parts (low_packet t b p) (list_all (low_packet t b) ps) all in
    rw parts.0 (numbered_low t b (suc n) ps parts.1)

-- what a site awaits
abbrev pub awaits_at : Scenario → List Entry → Txn → ℕ → ℕ
awaits_at sc h t s = awaits (now_at s t (life_at (moves_of sc h s)))

-- a step with an input that is due: its records keep a bound, all do behind it, and it rises with the Elects alone, but for what was awaited
pub record Stepped (sc : Scenario) (h : List Entry) (t : Txn) (s limit : ℕ) (i : Input) : Type 0 where
  pub top : ℕ
  pub bounded : Bounded sc (h ++ entry_of sc h s i ∷ []) t top
  pub records : list_all (low_record t top) (made_by sc h s i).records ≡ true
  pub within : top + awaits_at sc (h ++ entry_of sc h s i ∷ []) t s ≤ limit + elects_of t i

pub stepped : (sc : Scenario) (h : List Entry) (t : Txn) (b s limit : ℕ) (i : Input) → Bounded sc h t b → b + awaits_at sc h t s ≤ limit → IsDue sc h s i → Stepped sc h t s limit i
stepped sc h t b s limit i was few due = record {
  top = one.top;
  bounded = record {
    some = (let first : 1 ≤ b = was.some in let up : b ≤ one.top = one.above in omega (arith, first, up));
    logs = λ x. log_now x (s == x) refl;
    tails = λ x. tail_now x (s == x) refl;
    packets =
        ap (list_all (low_packet t one.top)) (sent_push h e)
        ∙ both_all (low_packet t one.top) (sent h) (outs_of e.act) (more_packets t b one.top (sent h) one.above was.packets) (numbered_low t one.top _ made.outs one.low.outs);
    elections = λ x. election_now x (s == x) refl;
  };
  records = one.low.records;
  within = (
      let awaited : one.top + awaits (election_after) ≤ limit + elects_of t (unnumbered_input i) = one.fits.within in
      let same : awaits_at sc (h ++ e ∷ []) t s ≡ awaits (election_after) = ap awaits election_is in
      let counted : elects_of t (unnumbered_input i) ≡ elects_of t i = elects_unnumbered t i in
      omega (arith, awaited, same, counted)
      );
}
  where
    e : Entry
    e = entry_of sc h s i

    life : Life
    life = life_at (moves_of sc h s)

    made : Made
    made = made_by sc h s i

    election_after : Option Election
    election_after = (election_by s life.inc t (elections_of s t life) (moment life (unnumbered_input i) made.records (map unnumbered made.outs) made.told)).now

    log_is : life.log ≡ log_of sc h s
    log_is = life_log_at (moves_of sc h s)

    one : Goes t b (limit + elects_of t (unnumbered_input i)) (step_at (at sc.weights s life (unnumbered_input i))) (election_after)
    one = goes t b limit sc.weights s life (elections_of s t life) (unnumbered_input i) made.records (map unnumbered made.outs) made.told
        (elected_low t b life.log was.some (ap (list_all (low_record t b)) log_is ∙ was.logs s)) refl (record { heard = was.elections s; within = few }) (due_low sc h t b s i was due)

    election_is : now_at s t (life_at (moves_of sc (h ++ e ∷ []) s)) ≡ election_after
    election_is = ap (λ (l : Life). (elections_of s t l).now) (life_on sc h s i) ∙ ap (λ (x : Elections). x.now) (elections_on s t life i made)

    log_now : (x : ℕ) (c : Bool) → (s == x) ≡ c → list_all (low_record t one.top) (log_of sc (h ++ e ∷ []) x) ≡ true
    log_now x false other = ap (list_all (low_record t one.top)) (log_still sc h s x i other) ∙ more_records t b one.top (log_of sc h x) one.above (was.logs x)
    log_now x true is =
        subst (λ y. list_all (low_record t one.top) (log_of sc (h ++ e ∷ []) y) ≡ true) (eqb-true s x is)
        (ap (list_all (low_record t one.top)) (log_on sc h s i)
        ∙ both_all (low_record t one.top) (log_of sc h s) made.records (more_records t b one.top (log_of sc h s) one.above (was.logs s)) one.low.records)

    tail_is : (x : ℕ) (c : Bool) → (s == x) ≡ c → open_tail sc (h ++ e ∷ []) x ≡ open_tail sc h x
    tail_is x false other = ap (λ l. (past_of sc x l).tail) (own_other x h e other)
    tail_is x true is = ap (λ l. (past_of sc x l).tail) (own_same x h e is) ∙ ap (λ (p : Past). p.tail) (past_push sc x (own_entries x h) e)

    tail_now : (x : ℕ) (c : Bool) → (s == x) ≡ c → list_all (low_record t one.top) (doubted (open_tail sc (h ++ e ∷ []) x)) ≡ true
    tail_now x c is = ap (λ o. list_all (low_record t one.top) (doubted o)) (tail_is x c is) ∙ more_records t b one.top (doubted (open_tail sc h x)) one.above (was.tails x)

    election_now : (x : ℕ) (c : Bool) → (s == x) ≡ c → heard_low one.top (now_at x t (life_at (moves_of sc (h ++ e ∷ []) x))) ≡ true
    election_now x false other =
        ap (λ l. heard_low one.top (now_at x t (life_at l))) (moves_still sc h s x i other) ∙ more_heard b one.top (now_at x t (life_at (moves_of sc h x))) one.above (was.elections x)
    election_now x true is =
        subst (λ y. heard_low one.top (now_at y t (life_at (moves_of sc (h ++ e ∷ []) y))) ≡ true) (eqb-true s x is)
        (ap (heard_low one.top) election_is ∙ one.fits.heard)
