-- Each entry of a legal history raises the bound of the numbers of a transaction's elections by 18 at most.
use Rattle.std.proofs.Common.{◌≡◌, ◌==◌, ◌+◌, ◌*◌, ◌≤◌, ◌++◌, ◌∷◌, [], ℕ, zero, suc, Bool, true, false, List, length, append-nil, append_assoc, Option, Some, None, refl, ap, sym, subst, ◌∙◌, map, nat_lt, arith, eqb-true, if◌then◌else◌}
use Rattle.std.specs.List.{list_all}
use Rattle.e3_types.specs.declared.entries.Act.{Act}
use Rattle.e3_types.specs.declared.entries.Act.TheVariants.{Step, Fall, Rise, RiseFall, Miss, Cut, Drop, Parts, Line}
use Rattle.e3_types.specs.declared.entries.Entry.{Entry}
use Rattle.e3_types.specs.declared.entries.Input.{Input}
use Rattle.e3_types.specs.declared.entries.Input.TheVariants as input
use Rattle.e3_types.specs.declared.entries.Why.{Why}
use Rattle.e3_types.specs.declared.entries.Why.TheVariants.{Fault, Full}
use Rattle.e3_types.specs.declared.records.Record.{Record}
use Rattle.e3_types.specs.declared.scenarios.Scenario.{Scenario}
use Rattle.e3_types.specs.declared.transactions.Txn.{Txn}
use Rattle.e3_types.specs.Same.{same_txn}
use Rattle.e3_world.specs.Gatherings.{Election}
use Rattle.e3_world.specs.Given.{IsGiven}
use Rattle.e3_world.specs.Legal.{AreDue, Guard, LegalAfter, entry_of, made_by, records_by}
use Rattle.e3_world.specs.Lives.{life_at, life_of}
use Rattle.e3_world.specs.Moves.{Move, Past, Rose, Silent, Tail, kept_moves, left_by, log_by, log_of, moves_of, moves_of_act, open_tail, own_entries, past_by, past_of, unnumbered_input, rise_records, tail_of_act}
use Rattle.e3_world.specs.Packets.{outs_of, sent}
use Rattle.e3_world.proofs.Pushes.{incarnation_push, past_push}
use Rattle.e3_world.proofs.Readings.{own_other, own_same}
use Rattle.e3_world.proofs.Turns.{self}
use Rattle.e3_laws.specs.rounds.Numbers.{NumbersStayLow}
use Rattle.e3_laws.proofs.rounds.Numbers.Bounding.{Bounded, Stepped, awaits_at, doubted, elected_low, more_bounded, more_heard, more_packets, more_records, stepped}
use Rattle.e3_laws.proofs.rounds.Numbers.Electing.{elects_in, fall_few}
use Rattle.e3_laws.proofs.rounds.Numbers.Hearing.{awaits, heard_low}
use Rattle.e3_laws.proofs.rounds.Numbers.Inputs.{elects_of, now_at}
use Rattle.e3_laws.proofs.rounds.Numbers.Low.{low_packet, low_record}
use Rattle.e3_laws.proofs.steps.Lists.{both_all}
use Rattle.e3_laws.proofs.steps.Moving.{log_append, sent_push}

-- what an act leaves at its owner, behind what was there
record Left (sc : Scenario) (t : Txn) (c o : ℕ) (w : Past) (act : Act) : Type 0 where
  log : list_all (low_record t c) (log_by (w.moves ++ moves_of_act sc o w act)) ≡ true
  tail : list_all (low_record t c) (doubted (tail_of_act sc o w act)) ≡ true
  packets : list_all (low_packet t c) (outs_of act) ≡ true
  election : heard_low c (now_at o t (life_at (w.moves ++ moves_of_act sc o w act))) ≡ true

abbrev was_at : Scenario → List Entry → ℕ → Past
was_at sc h o = past_of sc o (own_entries o h)

left_bounded : (sc : Scenario) (h : List Entry) (t : Txn) (b c o : ℕ) (act : Act) → b ≤ c → Bounded sc h t b → Left sc t c o (was_at sc h o) act →
    Bounded sc (h ++ record { owner = o; act = act } ∷ []) t c
left_bounded sc h t b c o act less was left = record {
  some = (let one : 1 ≤ b = was.some in omega (arith, one, less));
  logs = λ s. log_now s (o == s) refl;
  tails = λ s. tail_now s (o == s) refl;
  packets = ap (list_all (low_packet t c)) (sent_push h e) ∙ both_all (low_packet t c) (sent h) (outs_of act) (more_packets t b c (sent h) less was.packets) left.packets;
  elections = λ s. election_now s (o == s) refl;
}
  where
    e : Entry
    e = record { owner = o; act = act }

    past_is : past_of sc o (own_entries o (h ++ e ∷ [])) ≡ past_by sc o (was_at sc h o) e
    past_is = ap (past_of sc o) (own_same o h e (self o)) ∙ past_push sc o (own_entries o h) e

    log_now : (s : ℕ) (d : Bool) → (o == s) ≡ d → list_all (low_record t c) (log_of sc (h ++ e ∷ []) s) ≡ true
    log_now s false other =
        ap (λ l. list_all (low_record t c) (log_by (past_of sc s l).moves)) (own_other s h e other) ∙ more_records t b c (log_of sc h s) less (was.logs s)
    log_now s true is =
        subst (λ x. list_all (low_record t c) (log_of sc (h ++ e ∷ []) x) ≡ true) (eqb-true o s is)
        (ap (λ (p : Past). list_all (low_record t c) (log_by p.moves)) past_is ∙ left.log)

    tail_now : (s : ℕ) (d : Bool) → (o == s) ≡ d → list_all (low_record t c) (doubted (open_tail sc (h ++ e ∷ []) s)) ≡ true
    tail_now s false other =
        ap (λ l. list_all (low_record t c) (doubted (past_of sc s l).tail)) (own_other s h e other) ∙ more_records t b c (doubted (open_tail sc h s)) less (was.tails s)
    tail_now s true is =
        subst (λ x. list_all (low_record t c) (doubted (open_tail sc (h ++ e ∷ []) x)) ≡ true) (eqb-true o s is)
        (ap (λ (p : Past). list_all (low_record t c) (doubted p.tail)) past_is ∙ left.tail)

    election_now : (s : ℕ) (d : Bool) → (o == s) ≡ d → heard_low c (now_at s t (life_at (moves_of sc (h ++ e ∷ []) s))) ≡ true
    election_now s false other =
        ap (λ l. heard_low c (now_at s t (life_at (past_of sc s l).moves))) (own_other s h e other) ∙ more_heard b c (now_at s t (life_at (moves_of sc h s))) less (was.elections s)
    election_now s true is =
        subst (λ x. heard_low c (now_at x t (life_at (moves_of sc (h ++ e ∷ []) x))) ≡ true) (eqb-true o s is)
        (ap (λ (p : Past). heard_low c (now_at o t (life_at p.moves))) past_is ∙ left.election)

-- an act that moves nothing
still : (sc : Scenario) (h : List Entry) (t : Txn) (b c o : ℕ) (act : Act) → b ≤ c → Bounded sc h t b → moves_of_act sc o (was_at sc h o) act ≡ [] → outs_of act ≡ [] →
    list_all (low_record t c) (doubted (tail_of_act sc o (was_at sc h o) act)) ≡ true → Left sc t c o (was_at sc h o) act
still sc h t b c o act less was none sends tail = record {
  log = ap (λ l. list_all (low_record t c) (log_by l)) same ∙ more_records t b c (log_of sc h o) less (was.logs o);
  tail = tail;
  packets = ap (list_all (low_packet t c)) sends;
  election = ap (λ l. heard_low c (now_at o t (life_at l))) same ∙ more_heard b c (now_at o t (life_at (moves_of sc h o))) less (was.elections o);
}
  where
    same : (was_at sc h o).moves ++ moves_of_act sc o (was_at sc h o) act ≡ moves_of sc h o
    same = ap (λ l. moves_of sc h o ++ l) none ∙ append-nil (moves_of sc h o)

rise_low : (sc : Scenario) (t : Txn) (c s inc : ℕ) (l : List Record) → list_all (low_record t c) (rise_records sc s inc l) ≡ true
rise_low sc t c s inc [] = refl
rise_low sc t c s inc (r ∷ rs) = refl

kept_low : (t : Txn) (c s : ℕ) (kept : Bool) (tail : Option Tail) → list_all (low_record t c) (doubted tail) ≡ true → list_all (low_record t c) (log_by (kept_moves s kept tail)) ≡ true
kept_low t c s true (Some tail) low = both_all (low_record t c) tail.records [] low refl
kept_low t c s true None low = refl
kept_low t c s false tail low = refl

left_by_low : (t : Txn) (c : ℕ) (why : Why) (inputs : List Input) (rs : List Record) → list_all (low_record t c) rs ≡ true → list_all (low_record t c) (doubted (left_by why inputs rs)) ≡ true
left_by_low t c Fault inputs rs low = low
left_by_low t c (Full need room) inputs rs low = refl

-- behind a move that is no step an incarnation has no election
rose_none : (c o : ℕ) (t : Txn) (xs : List Move) (s inc : ℕ) (rs : List Record) → heard_low c (now_at o t (life_at (xs ++ record { site = s; did = Rose inc rs } ∷ []))) ≡ true
rose_none c o t xs s inc rs = ap (λ i. heard_low c (now_at o t (life_of i))) (incarnation_push xs (record { site = s; did = Rose inc rs }))

silent_none : (c o : ℕ) (t : Txn) (xs : List Move) (s : ℕ) (inputs : List Input) (rs : List Record) → heard_low c (now_at o t (life_at (xs ++ record { site = s; did = Silent inputs rs } ∷ []))) ≡ true
silent_none c o t xs s inputs rs = ap (λ i. heard_low c (now_at o t (life_of i))) (incarnation_push xs (record { site = s; did = Silent inputs rs }))

rises : (sc : Scenario) (h : List Entry) (t : Txn) (b c o inc : ℕ) (kept : Bool) → b ≤ c → Bounded sc h t b → Left sc t c o (was_at sc h o) (Rise kept inc)
rises sc h t b c o inc kept less was = record {
  log = ap (list_all (low_record t c)) (log_append moves (silent ++ rose ∷ []))
      ∙ both_all (low_record t c) (log_by moves) (log_by (silent ++ rose ∷ [])) (more_records t b c (log_by moves) less (was.logs o))
      (ap (list_all (low_record t c)) (log_append silent (rose ∷ []))
      ∙ both_all (low_record t c) (log_by silent) (log_by (rose ∷ [])) (kept_low t c o kept (was_at sc h o).tail tail_low)
      (both_all (low_record t c) records [] (rise_low sc t c o inc (log_by (moves ++ silent))) refl));
  tail = refl;
  packets = refl;
  election = ap (λ l. heard_low c (now_at o t (life_at l))) (sym (append_assoc moves silent (rose ∷ []))) ∙ rose_none c o t (moves ++ silent) o inc records;
}
  where
    moves : List Move
    moves = moves_of sc h o

    silent : List Move
    silent = kept_moves o kept (was_at sc h o).tail

    records : List Record
    records = rise_records sc o inc (log_by (moves ++ silent))

    rose : Move
    rose = record { site = o; did = Rose inc records }

    tail_low : list_all (low_record t c) (doubted (was_at sc h o).tail) ≡ true
    tail_low = more_records t b c (doubted (was_at sc h o).tail) less (was.tails o)

kept_none : (sc : Scenario) (h : List Entry) (t : Txn) (b c o : ℕ) (kept : Bool) (tail : Option Tail) → b ≤ c → Bounded sc h t b →
    heard_low c (now_at o t (life_at (moves_of sc h o ++ kept_moves o kept tail))) ≡ true
kept_none sc h t b c o true (Some tail) less was = silent_none c o t (moves_of sc h o) o tail.inputs tail.records
kept_none sc h t b c o true None less was =
    ap (λ l. heard_low c (now_at o t (life_at l))) (append-nil (moves_of sc h o)) ∙ more_heard b c (now_at o t (life_at (moves_of sc h o))) less (was.elections o)
kept_none sc h t b c o false tail less was =
    ap (λ l. heard_low c (now_at o t (life_at l))) (append-nil (moves_of sc h o)) ∙ more_heard b c (now_at o t (life_at (moves_of sc h o))) less (was.elections o)

fails_to_rise : (sc : Scenario) (h : List Entry) (t : Txn) (b c o inc : ℕ) (kept : Bool) (why : Why) → b ≤ c → Bounded sc h t b → Left sc t c o (was_at sc h o) (RiseFall kept inc why)
fails_to_rise sc h t b c o inc kept why less was = record {
  log = ap (list_all (low_record t c)) (log_append (moves_of sc h o) (kept_moves o kept (was_at sc h o).tail))
      ∙ both_all (low_record t c) (log_of sc h o) (log_by (kept_moves o kept (was_at sc h o).tail)) (more_records t b c (log_of sc h o) less (was.logs o))
      (kept_low t c o kept (was_at sc h o).tail (more_records t b c (doubted (was_at sc h o).tail) less (was.tails o)));
  tail = left_by_low t c why [] _ (rise_low sc t c o inc (log_by (moves_of sc h o ++ kept_moves o kept (was_at sc h o).tail)));
  packets = refl;
  election = kept_none sc h t b c o kept (was_at sc h o).tail less was;
}

-- the records that a fall leaves in doubt
fall_low : (sc : Scenario) (h : List Entry) (t : Txn) (b s limit : ℕ) (inputs : List Input) → Bounded sc h t b → b + awaits_at sc h t s ≤ limit → AreDue sc h s inputs →
    list_all (low_record t (limit + elects_in t inputs)) (records_by sc h s inputs) ≡ true
fall_low sc h t b s limit [] was few due = refl
fall_low sc h t b s limit (i ∷ inputs) was few due =
    let one : Stepped sc h t s limit i = stepped sc h t b s limit i was few due.0 in
    let room : one.top + awaits_at sc (h ++ entry_of sc h s i ∷ []) t s ≤ limit + elects_of t i = one.within in
    let all : ℕ = limit + (elects_of t i + elects_in t inputs) in
    let top_less : one.top ≤ limit + (elects_of t i + elects_in t inputs) = omega (arith, room) in
    let same : (limit + elects_of t i) + elects_in t inputs ≡ limit + (elects_of t i + elects_in t inputs) = omega arith in
    both_all (low_record t all) (made_by sc h s i).records (records_by sc (h ++ entry_of sc h s i ∷ []) s inputs)
    (more_records t one.top all (made_by sc h s i).records top_less one.records)
    (subst (λ k. list_all (low_record t k) (records_by sc (h ++ entry_of sc h s i ∷ []) s inputs) ≡ true) same
    (fall_low sc (h ++ entry_of sc h s i ∷ []) t one.top s (limit + elects_of t i) inputs one.bounded room due.1))

awaits_one : (o : Option Election) → awaits o ≤ 1
awaits_one None = omega arith
awaits_one (Some e) = one (nat_lt (length e.heard) (length e.group))
  where
    one : (d : Bool) → (if d then 1 else 0) ≤ 1
    one true = omega arith
    one false = omega arith

elects_one : (t : Txn) (i : Input) → elects_of t i ≤ 1
elects_one t (input.Elect u group) = one (same_txn t u)
  where
    one : (d : Bool) → (if d then 1 else 0) ≤ 1
    one true = omega arith
    one false = omega arith
elects_one t (input.Begin sites) = omega arith
elects_one t (input.Do u op) = omega arith
elects_one t (input.Commit u) = omega arith
elects_one t (input.Cancel u) = omega arith
elects_one t (input.Expire u) = omega arith
elects_one t (input.Deliver p) = omega arith

quiet : (sc : Scenario) (h : List Entry) (t : Txn) (b o : ℕ) (act : Act) → Bounded sc h t b → moves_of_act sc o (was_at sc h o) act ≡ [] → outs_of act ≡ [] →
    tail_of_act sc o (was_at sc h o) act ≡ (was_at sc h o).tail → Bounded sc (h ++ record { owner = o; act = act } ∷ []) t (b + 18)
quiet sc h t b o act was none sends tail =
    left_bounded sc h t b (b + 18) o act (omega arith) was
    (still sc h t b (b + 18) o act (omega arith) was none sends
    (ap (λ x. list_all (low_record t (b + 18)) (doubted x)) tail ∙ more_records t b (b + 18) (doubted (open_tail sc h o)) (omega arith) (was.tails o)))

-- each act
act_bounded : (sc : Scenario) (h : List Entry) (t : Txn) (b o : ℕ) (act : Act) → IsGiven sc → Bounded sc h t b → Guard sc h (record { owner = o; act = act }) →
    Bounded sc (h ++ record { owner = o; act = act } ∷ []) t (b + 18)
act_bounded sc h t b zero (Step i records outs events) given was guard = absurd guard
act_bounded sc h t b (suc s) (Step i records outs events) given was guard =
    let awaited : awaits_at sc h t (suc s) ≤ 1 = awaits_one (now_at (suc s) t (life_at (moves_of sc h (suc s)))) in
    let one : Stepped sc h t (suc s) (b + 1) i = stepped sc h t b (suc s) (b + 1) i was (omega (arith, awaited)) guard.due in
    let within : one.top + awaits_at sc (h ++ entry_of sc h (suc s) i ∷ []) t (suc s) ≤ (b + 1) + elects_of t i = one.within in
    let few : elects_of t i ≤ 1 = elects_one t i in
    let less : one.top ≤ b + 18 = omega (arith, within, few) in
    subst (λ x. Bounded sc (h ++ x ∷ []) t (b + 18)) (sym guard.made) (more_bounded sc (h ++ entry_of sc h (suc s) i ∷ []) t one.top (b + 18) less one.bounded)
act_bounded sc h t b zero (Fall inputs records why) given was guard = absurd guard
act_bounded sc h t b (suc s) (Fall inputs records why) given was guard =
    let awaited : awaits_at sc h t (suc s) ≤ 1 = awaits_one (now_at (suc s) t (life_at (moves_of sc h (suc s)))) in
    let few : elects_in t inputs ≤ 17 = fall_few sc t h (suc s) inputs given guard.due in
    let less : (b + 1) + elects_in t inputs ≤ b + 18 = omega (arith, few) in
    let low : list_all (low_record t (b + 18)) (records_by sc h (suc s) inputs) ≡ true =
    more_records t ((b + 1) + elects_in t inputs) (b + 18) (records_by sc h (suc s) inputs) less (fall_low sc h t b (suc s) (b + 1) inputs was (omega (arith, awaited)) guard.due) in
    left_bounded sc h t b (b + 18) (suc s) (Fall inputs records why) (omega arith) was
    (still sc h t b (b + 18) (suc s) (Fall inputs records why) (omega arith) was refl refl
    (left_by_low t (b + 18) why (map unnumbered_input inputs) records (ap (list_all (low_record t (b + 18))) guard.made ∙ low)))
act_bounded sc h t b o (Rise kept inc) given was guard = left_bounded sc h t b (b + 18) o (Rise kept inc) (omega arith) was (rises sc h t b (b + 18) o inc kept (omega arith) was)
act_bounded sc h t b o (RiseFall kept inc why) given was guard =
    left_bounded sc h t b (b + 18) o (RiseFall kept inc why) (omega arith) was (fails_to_rise sc h t b (b + 18) o inc kept why (omega arith) was)
act_bounded sc h t b o Miss given was guard = quiet sc h t b o Miss was refl refl refl
act_bounded sc h t b o Cut given was guard = quiet sc h t b o Cut was refl refl refl
act_bounded sc h t b o (Drop number) given was guard = quiet sc h t b o (Drop number) was refl refl refl
act_bounded sc h t b o (Parts parts) given was guard = quiet sc h t b o (Parts parts) was refl refl refl
act_bounded sc h t b o (Line number) given was guard = quiet sc h t b o (Line number) was refl refl refl

all_bounded : (sc : Scenario) (t : Txn) (before rest : List Entry) (b : ℕ) → IsGiven sc → Bounded sc before t b → LegalAfter sc before rest →
    Bounded sc (before ++ rest) t (b + 18 * length rest)
all_bounded sc t before [] b given was legal =
    subst (λ l. Bounded sc l t (b + 18 * 0)) (sym (append-nil before)) (more_bounded sc before t b (b + 18 * 0) (omega arith) was)
all_bounded sc t before (e ∷ rest) b given was legal =
    let one : Bounded sc (before ++ e ∷ []) t (b + 18) = act_bounded sc before t b e.owner e.act given was legal.0 in
    let all : Bounded sc ((before ++ e ∷ []) ++ rest) t ((b + 18) + 18 * length rest) = all_bounded sc t (before ++ e ∷ []) rest (b + 18) given one legal.1 in
    let less : (b + 18) + 18 * length rest ≤ b + 18 * suc (length rest) = omega arith in
    more_bounded sc (before ++ e ∷ rest) t ((b + 18) + 18 * length rest) (b + 18 * suc (length rest)) less
    (subst (λ l. Bounded sc l t ((b + 18) + 18 * length rest)) (append_assoc before (e ∷ []) rest) all)

pub numbers_stay_low : NumbersStayLow
numbers_stay_low sc h t s given legal =
    let was : Bounded sc h t (1 + 18 * length h) =
    all_bounded sc t [] h 1 given (record { some = omega arith; logs = λ s. refl; tails = λ s. refl; packets = refl; elections = λ s. refl }) legal in
    elected_low t (1 + 18 * length h) (log_of sc h s) was.some (was.logs s)
