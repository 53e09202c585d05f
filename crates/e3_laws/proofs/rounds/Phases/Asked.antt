-- The first phase of a round: its calls are answered, one after the other.
use Rattle.std.proofs.Common.{◌≡◌, ◌==◌, ◌+◌, ℕ, suc, Bool, true, false, List, [], ◌∷◌, ◌++◌, append-nil, append_assoc, length, length-append, ◌∙◌, ap, sym, subst, refl, map, arith, eqb-true, ◌||◌}
use Rattle.std.proofs.lemmas.List.{map-append}
use Rattle.e3_types.specs.declared.entries.Entry.{Entry}
use Rattle.e3_types.specs.declared.entries.Input.TheVariants as input
use Rattle.e3_types.specs.declared.messages.Message.{Message}
use Rattle.e3_types.specs.declared.messages.Message.TheVariants as msg
use Rattle.e3_types.specs.declared.messages.Packet.{Packet}
use Rattle.e3_types.specs.declared.scenarios.Scenario.{Scenario}
use Rattle.e3_types.specs.declared.transactions.Call.{Call}
use Rattle.e3_types.specs.declared.transactions.Txn.{Txn}
use Rattle.e3_types.specs.Sets.{has_site, others}
use Rattle.e3_world.specs.declared.lives.Made.{Made}
use Rattle.e3_world.specs.Elections.{next_call}
use Rattle.e3_world.specs.Fate.{same_part}
use Rattle.e3_world.specs.Items.{RecoveryRound}
use Rattle.e3_world.specs.Legal.{entry_of, made_by, numbered}
use Rattle.e3_world.specs.Lives.{life_at}
use Rattle.e3_world.specs.Logs.{last_elected}
use Rattle.e3_world.specs.Moves.{log_of, moves_of, unnumbered}
use Rattle.e3_world.specs.Packets.{is_calm, parts_of, pending, present_items, sent}
use Rattle.e3_world.proofs.Turns.{self}
use Rattle.e3_laws.specs.rounds.Queues.{IsCounted, IsQueue, are_within}
use Rattle.e3_laws.specs.rounds.Rounds.{elect_entry, is_own, verdicts_told}
use Rattle.e3_laws.proofs.rounds.Deliveries.Delivering.{Entered, entered_on}
use Rattle.e3_world.proofs.Numbers.{unnumber_numbered}
use Rattle.e3_laws.proofs.steps.Moving.{log_on, log_still, moves_still, place, place_log}
use Rattle.e3_laws.proofs.rounds.Deliveries.Queue.{delivery_shifts, queue_begins, queue_entry}
use Rattle.e3_laws.proofs.rounds.Phases.Rows.{Takes, mail, makes, row_ask, row_elect}
use Rattle.e3_laws.proofs.rounds.Deliveries.Walking.{Next, Rest, goes_on}
use Rattle.e3_laws.proofs.steps.Tests.{same_self, or_true}

-- the call of a round
abbrev pub call_of : Scenario → List Entry → RecoveryRound → Call
call_of sc start r = next_call (life_at (moves_of sc start r.elector)).inc (life_at (moves_of sc start r.elector)).steps

-- the call to a member, and its answer
abbrev pub ask : Scenario → List Entry → RecoveryRound → ℕ → Packet
ask sc start r = mail r.elector (msg.Ask r.txn (call_of sc start r))

abbrev pub answer : Scenario → List Entry → RecoveryRound → ℕ → Packet
answer sc start r m = mail m (msg.LastElected r.txn (call_of sc start r) (last_elected r.txn (log_of sc start m))) r.elector

-- These members have answered, those are still to be asked: the queue has the calls that are left, and behind them the answers.
-- No log has changed, and the elector has made nothing but its Elect.
pub record Asked (sc : Scenario) (start : List Entry) (r : RecoveryRound) (h : List Entry) (done todo : List ℕ) : Type 0 where
  pub queue : List Packet
  pub is_queue : IsQueue sc h queue
  pub unnumbered_queue : map unnumbered queue ≡ map (ask sc start r) todo ++ map (answer sc start r) done
  pub logs : (s : ℕ) → log_of sc h s ≡ log_of sc start s
  pub elector : moves_of sc h r.elector ≡ moves_of sc (start ++ elect_entry sc start r ∷ []) r.elector
  pub entered : Entered start h r (1 + length done) []

-- the first of a queue that is known but for the numbers
record First (q : Packet) (rest queue : List Packet) : Type 0 where
  p : Packet
  ps : List Packet
  is : queue ≡ p ∷ ps
  first : unnumbered p ≡ q
  others : map unnumbered ps ≡ rest

first_of : (queue : List Packet) (q : Packet) (rest : List Packet) → map unnumbered queue ≡ q ∷ rest → First q rest queue
first_of [] q rest is = absurd cc
first_of (p ∷ ps) q rest is = record { p = p; ps = ps; is = refl; first = cc; others = cc }

-- a member is asked, and answers
pub asked_on : (sc : Scenario) (start : List Entry) (r : RecoveryRound) (h more : List Entry) (done todo : List ℕ) (m : ℕ) →
    has_site r.members m ≡ true → has_site r.members r.elector ≡ true → (r.elector == m) ≡ false → (m == r.elector) ≡ false →
    Rest sc r.members h more → Asked sc start r h done (m ∷ todo) →
    (e : Entry) × (later : List Entry) × (more ≡ e ∷ later) × Rest sc r.members (h ++ e ∷ []) later × Asked sc start r (h ++ e ∷ []) (done ++ m ∷ []) todo
asked_on sc start r h more done todo m member leads from_other to_other rest was = (e, next.later, next.is, next.rest, now)
  where
    t : Txn
    t = r.txn

    first : First (ask sc start r m) (map (ask sc start r) todo ++ map (answer sc start r) done) was.queue
    first = first_of was.queue _ _ was.unnumbered_queue

    p : Packet
    p = first.p

    to : p.to ≡ m
    to = ap (λ (q : Packet). q.to) first.first

    queue : IsQueue sc h (p ∷ first.ps)
    queue = subst (IsQueue sc h) first.is was.is_queue

    next : Next sc r.members h more p
    next = goes_on sc r.members h more p first.ps rest queue (subst (λ s. has_site r.members s ≡ true) (sym to) member)

    e : Entry
    e = entry_of sc h p.to (input.Deliver p)

    takes : Takes (place sc h p.to (input.Deliver p)) r.elector (msg.Ask t (call_of sc start r))
    takes = record {
      packet = unnumbered p;
      is = refl;
      sender = ap (λ (q : Packet). q.«from») first.first;
      says = ap (λ (q : Packet). q.msg) first.first;
      away = subst (λ s. (r.elector == s) ≡ false) (sym to) from_other;
    }

    log_is : (place sc h p.to (input.Deliver p)).life.log ≡ log_of sc start m
    log_is = place_log sc h p.to (input.Deliver p) ∙ was.logs p.to ∙ ap (log_of sc start) to

    made : made_by sc h p.to (input.Deliver p) ≡ makes [] (answer sc start r m ∷ [])
    made =
        row_ask (place sc h p.to (input.Deliver p)) r.elector t (call_of sc start r) takes
        ∙ ap (λ l. makes [] (mail p.to (msg.LastElected t (call_of sc start r) (last_elected t l)) r.elector ∷ [])) log_is
        ∙ ap (λ s. makes [] (mail s (msg.LastElected t (call_of sc start r) (last_elected t (log_of sc start m))) r.elector ∷ [])) to

    calm : is_calm (present_items sc h) ≡ true
    calm = ap is_calm rest.recovers

    within : are_within (parts_of sc h) (made_by sc h p.to (input.Deliver p)).outs ≡ true
    within = ap (λ (x : Made). are_within (parts_of sc h) x.outs) made ∙ (let one : same_part (parts_of sc h) m r.elector ≡ true = rest.together m r.elector member leads in rw one refl)

    now : Asked sc start r (h ++ e ∷ []) (done ++ m ∷ []) todo
    now = record {
      queue = first.ps ++ numbered (suc (length (sent h))) (made_by sc h p.to (input.Deliver p)).outs;
      is_queue = delivery_shifts sc h p first.ps queue calm within;
      unnumbered_queue =
          map-append unnumbered first.ps (numbered (suc (length (sent h))) (made_by sc h p.to (input.Deliver p)).outs)
          ∙ ap (λ l. l ++ map unnumbered (numbered (suc (length (sent h))) (made_by sc h p.to (input.Deliver p)).outs)) first.others
          ∙ ap (λ l. (map (ask sc start r) todo ++ map (answer sc start r) done) ++ l) (unnumber_numbered (suc (length (sent h))) (made_by sc h p.to (input.Deliver p)).outs ∙ ap (λ (x : Made). map unnumbered x.outs) made)
          ∙ append_assoc (map (ask sc start r) todo) (map (answer sc start r) done) (answer sc start r m ∷ [])
          ∙ ap (λ l. map (ask sc start r) todo ++ l) (sym (map-append (answer sc start r) done (m ∷ [])));
      logs = λ s. log_now s (p.to == s) refl;
      elector = moves_still sc h p.to r.elector (input.Deliver p) (subst (λ s. (s == r.elector) ≡ false) (sym to) to_other) ∙ was.elector;
      entered = subst (λ n. Entered start (h ++ e ∷ []) r n []) (let one : length (done ++ m ∷ []) ≡ length done + 1 = length-append done (m ∷ []) in let long : suc (1 + length done) ≡ 1 + length (done ++ m ∷ []) = omega (arith, one) in long)
          (entered_on start h r (1 + length done) [] e was.entered mine quiet);
    }
      where
        log_now : (s : ℕ) (b : Bool) → (p.to == s) ≡ b → log_of sc (h ++ e ∷ []) s ≡ log_of sc start s
        log_now s false other = log_still sc h p.to s (input.Deliver p) other ∙ was.logs s
        log_now s true is =
            let same : p.to ≡ s = eqb-true p.to s is in
            subst (λ u. log_of sc (h ++ e ∷ []) u ≡ log_of sc start u) same
            (log_on sc h p.to (input.Deliver p) ∙ ap (λ (x : Made). log_of sc h p.to ++ x.records) made ∙ append-nil (log_of sc h p.to) ∙ was.logs p.to)

        mine : is_own r e ≡ true
        mine = let says : p.msg ≡ msg.Ask t (call_of sc start r) = ap (λ (q : Packet). q.msg) first.first in
            let sent_by : has_site r.members p.«from» ≡ true = ap (λ (q : Packet). has_site r.members q.«from») first.first ∙ leads in rw (sent_by, says, same_self t) refl

        quiet : verdicts_told t (e ∷ []) ≡ []
        quiet = rw made refl

-- what an elector sends to the others of its group stays in its part
pub within_all : (parts : List (List ℕ)) (s : ℕ) (m : Message) (xs : List ℕ) → ((x : ℕ) → has_site xs x ≡ true → same_part parts s x ≡ true) →
    are_within parts (map (mail s m) (others s xs)) ≡ true
within_all parts s m [] each = refl
within_all parts s m (x ∷ xs) each =
    by (within_all parts s m xs (λ y has. each y (ap (λ b. (x == y) || b) has ∙ or_true (x == y)))) (x == s) refl
  where
    by : are_within parts (map (mail s m) (others s xs)) ≡ true → (b : Bool) → (x == s) ≡ b → are_within parts (map (mail s m) (others s (x ∷ xs))) ≡ true
    by rest true is = rw is rest
    by rest false is =
        let here : same_part parts s x ≡ true = each x (rw (self x) refl) in
        rw (is, here) rest

pub unnumbered_mails : (s : ℕ) (m : Message) (xs : List ℕ) → map unnumbered (map (mail s m) xs) ≡ map (mail s m) xs
unnumbered_mails s m [] = refl
unnumbered_mails s m (x ∷ xs) = ap (λ l. mail s m x ∷ l) (unnumbered_mails s m xs)

-- the phase begins with the Elect of a group of several members
pub asked_begins : (sc : Scenario) (start : List Entry) (r : RecoveryRound) → IsCounted sc start → pending sc start ≡ [] →
    is_calm (present_items sc start) ≡ true → (1 == length r.members) ≡ false →
    ((x : ℕ) → has_site r.members x ≡ true → same_part (parts_of sc start) r.elector x ≡ true) →
    Asked sc start r (start ++ elect_entry sc start r ∷ []) [] (others r.elector r.members)
asked_begins sc start r counted none calm several together = record {
  queue = numbered (suc (length (sent start))) (made_by sc start r.elector (input.Elect r.txn r.members)).outs;
  is_queue = queue_entry sc start r.elector (input.Elect r.txn r.members) [] counted calm tt (queue_begins sc start counted none).waiting within;
  unnumbered_queue =
      unnumber_numbered (suc (length (sent start))) (made_by sc start r.elector (input.Elect r.txn r.members)).outs
      ∙ ap (λ (x : Made). map unnumbered x.outs) made
      ∙ unnumbered_mails r.elector (msg.Ask r.txn (call_of sc start r)) (others r.elector r.members)
      ∙ sym (append-nil (map (ask sc start r) (others r.elector r.members)));
  logs = λ s. log_now s (r.elector == s) refl;
  elector = refl;
  entered = record { round = elect_entry sc start r ∷ []; is = refl; count = rw (same_self r.txn) refl; says = rw made refl };
}
  where
    made : made_by sc start r.elector (input.Elect r.txn r.members) ≡ makes [] (map (ask sc start r) (others r.elector r.members))
    made = row_elect (place sc start r.elector (input.Elect r.txn r.members)) r.txn r.members refl several

    within : are_within (parts_of sc start) (made_by sc start r.elector (input.Elect r.txn r.members)).outs ≡ true
    within = ap (λ (x : Made). are_within (parts_of sc start) x.outs) made ∙ within_all (parts_of sc start) r.elector (msg.Ask r.txn (call_of sc start r)) r.members together

    log_now : (s : ℕ) (b : Bool) → (r.elector == s) ≡ b → log_of sc (start ++ elect_entry sc start r ∷ []) s ≡ log_of sc start s
    log_now s false other = log_still sc start r.elector s (input.Elect r.txn r.members) other
    log_now s true is =
        let same : r.elector ≡ s = eqb-true r.elector s is in
        subst (λ u. log_of sc (start ++ elect_entry sc start r ∷ []) u ≡ log_of sc start u) same
        (log_on sc start r.elector (input.Elect r.txn r.members) ∙ ap (λ (x : Made). log_of sc start r.elector ++ x.records) made ∙ append-nil (log_of sc start r.elector))
