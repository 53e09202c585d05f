-- The round of a group of one: its elector has the verdict in the step that takes the Elect.
use Rattle.std.proofs.Common.{◌≡◌, ◌==◌, ◌||◌, ℕ, suc, max, Bool, true, false, List, [], ◌∷◌, ◌++◌, length, ◌∙◌, ap, sym, subst, refl, map, nat_lt, nat_le, arith, eqb-true}
use Rattle.std.proofs.lemmas.Grind.{common_steps}
use Rattle.e3_types.specs.declared.entries.Act.TheVariants.{Step}
use Rattle.e3_types.specs.declared.entries.Entry.{Entry}
use Rattle.e3_types.specs.declared.entries.Input.{Input}
use Rattle.e3_types.specs.declared.entries.Input.TheVariants as input
use Rattle.e3_types.specs.declared.entries.Told.TheVariants as told
use Rattle.e3_types.specs.declared.messages.Message.TheVariants as msg
use Rattle.e3_types.specs.declared.messages.Packet.{Packet}
use Rattle.e3_types.specs.declared.records.Record.TheVariants as log
use Rattle.e3_types.specs.declared.scenarios.Scenario.{Scenario}
use Rattle.e3_types.specs.declared.transactions.Dir.{Dir}
use Rattle.e3_types.specs.declared.transactions.Txn.{Txn}
use Rattle.e3_types.specs.declared.verdicts.Verdict.{Verdict}
use Rattle.e3_types.specs.declared.verdicts.Verdict.TheVariants as verdict
use Rattle.e3_types.specs.Sets.{others}
use Rattle.e3_types.specs.Verdicts.{verdict_of}
use Rattle.e3_world.specs.declared.lives.At.{At}
use Rattle.e3_world.specs.declared.lives.Made.{Made}
use Rattle.e3_world.specs.ElectionRules.{and_verdict}
use Rattle.e3_world.specs.Items.{RecoveryRound}
use Rattle.e3_world.specs.Legal.{made_by, numbered}
use Rattle.e3_world.specs.Logs.{is_undecided, last_attempt, last_elected, state_of}
use Rattle.e3_world.specs.Making.{nothing, and_cast}
use Rattle.e3_world.specs.Moves.{log_of, unnumbered}
use Rattle.e3_world.specs.Packets.{is_calm, parts_of, pending, present_items, sent}
use Rattle.e3_world.specs.Steps.{on_input, step_at}
use Rattle.e3_world.proofs.Turns.{self}
use Rattle.e3_laws.specs.rounds.Queues.{IsCounted, IsQueue}
use Rattle.e3_laws.specs.rounds.Rounds.{elect_entry, verdicts_told}
use Rattle.e3_laws.proofs.rounds.Phases.Decided.{Decided, late_unnumbered, late_staying}
use Rattle.e3_laws.proofs.steps.Deciding.{AddsAnswers, step_adds_answers}
use Rattle.e3_laws.proofs.rounds.Deliveries.Delivering.{Entered, unnumbered_staying}
use Rattle.e3_laws.proofs.rounds.Phases.Joined.{number_of, site_report}
use Rattle.e3_world.proofs.Numbers.{unnumber_numbered}
use Rattle.e3_laws.proofs.steps.Moving.{log_on, place, place_log}
use Rattle.e3_laws.proofs.rounds.Deliveries.Queue.{queue_begins, queue_entry, queue_entry_any, queue_is_pending, staying}
use Rattle.e3_laws.proofs.rounds.Phases.Rows.{cast_is, mail, makes, now_attempt, now_elected, now_state, step_without_grants}
use Rattle.e3_laws.proofs.rounds.Tail.{late_answers, no_verdict, no_verdicts}
use Rattle.e3_laws.proofs.rounds.Phases.Turning.{Concludes, said_first}
use Rattle.e3_laws.proofs.steps.Tests.{same_self}
use Rattle.e3_laws.proofs.steps.Lists.{both_all}

-- the number that a site joins alone
abbrev pub own_number : Txn → At → ℕ
own_number t a = suc (max 0 (last_elected t a.life.log))

at_least : (k : ℕ) → nat_le k (max 0 k) ≡ true
at_least k = grind (arith, common_steps)

row_alone : (a : At) (t : Txn) (s : ℕ) → (s == a.site) ≡ true → nat_lt (max 0 (last_elected t a.life.log)) 4294967295 ≡ true →
    on_input a (input.Elect t (s ∷ [])) nothing
    ≡ and_verdict a t (own_number t a) (s ∷ []) (record { site = a.site; state = state_of t a.life.log; attempt = last_attempt t a.life.log } ∷ []) (makes (log.Join t (own_number t a) ∷ []) [])
row_alone a t s mine low = rw (mine, now_elected a t, low, at_least (last_elected t a.life.log)) (rw mine (rw (now_state a t, now_attempt a t) refl))

-- the elector of a group of one, with the verdict that it has
abbrev pub alone_at : Scenario → List Entry → RecoveryRound → At
alone_at sc start r = place sc start r.elector (input.Elect r.txn r.members)

pub alone_input : (sc : Scenario) (start : List Entry) (r : RecoveryRound) → r.members ≡ r.elector ∷ [] → nat_lt (max 0 (last_elected r.txn (log_of sc start r.elector))) 4294967295 ≡ true →
    on_input (alone_at sc start r) (input.Elect r.txn r.members) nothing
    ≡ and_verdict (alone_at sc start r) r.txn (number_of sc start r []) r.members (site_report sc start r.txn r.elector ∷ []) (makes (log.Join r.txn (number_of sc start r []) ∷ []) [])
alone_input sc start r one low =
    let a : At = alone_at sc start r in
    let log_is : a.life.log ≡ log_of sc start r.elector = place_log sc start r.elector (input.Elect r.txn r.members) in
    let P : List ℕ → Type 0 = λ ms. on_input a (input.Elect r.txn ms) nothing
    ≡ and_verdict a r.txn (own_number r.txn a) ms (record { site = a.site; state = state_of r.txn a.life.log; attempt = last_attempt r.txn a.life.log } ∷ []) (makes (log.Join r.txn (own_number r.txn a) ∷ []) []) in
    let made : P r.members = subst P (sym one) (row_alone a r.txn r.elector (self r.elector) (ap (λ l. nat_lt (max 0 (last_elected r.txn l)) 4294967295) log_is ∙ low)) in
    made ∙ ap (λ l. and_verdict a r.txn (suc (max 0 (last_elected r.txn l))) r.members (record { site = r.elector; state = state_of r.txn l; attempt = last_attempt r.txn l } ∷ [])
    (makes (log.Join r.txn (suc (max 0 (last_elected r.txn l))) ∷ []) [])) log_is

-- it decides at once: there is nobody to tell
pub alone_concludes : (sc : Scenario) (start : List Entry) (r : RecoveryRound) (dir : Dir) (n : ℕ) (v : Verdict) (x : Made) → r.members ≡ r.elector ∷ [] →
    IsCounted sc start → pending sc start ≡ [] → is_calm (present_items sc start) ≡ true →
    on_input (alone_at sc start r) (input.Elect r.txn r.members) nothing ≡ and_cast (alone_at sc start r) r.members (msg.Decide r.txn dir) x →
    Concludes r.txn n v (log_of sc start r.elector) x →
    Decided sc start r start dir (start ++ elect_entry sc start r ∷ []) 1 (record { site = r.elector; verdict = v } ∷ []) [] []
alone_concludes sc start r dir n v x one counted none calm row concludes = record {
  queue = staying (parts_of sc start) (numbered (suc (length (sent start))) (made_by sc start r.elector i).outs);
  is_queue = queue_entry_any sc start r.elector i [] counted calm tt (queue_begins sc start counted none).waiting;
  lates = lates;
  unnumbered_queue = unnumbered_staying (parts_of sc start) (numbered (suc (length (sent start))) (made_by sc start r.elector i).outs)
      ∙ ap (staying (parts_of sc start)) (unnumber_numbered (suc (length (sent start))) (made_by sc start r.elector i).outs ∙ ap (map unnumbered) outs_are);
  are_late = late_staying r (parts_of sc start) (map unnumbered follows.dones) (late_unnumbered r follows.dones ∙ late_answers r r.elector follows.dones follows.are_answers);
  logs = λ s has. absurd cc;
  decided = λ s has. only s has (r.elector == s) refl;
  entered = record {
    round = elect_entry sc start r ∷ [];
    is = refl;
    count = rw (same_self t) refl;
    says =
        ap (λ l. verdicts_told t (record { owner = r.elector; act = Step i made.records (numbered (suc (length (sent start))) made.outs) l } ∷ [])) told_is
        ∙ said_first t n v r.elector i made.records (numbered (suc (length (sent start))) made.outs) (concludes.more ++ follows.ops)
        (both_all no_verdict concludes.more follows.ops concludes.told_no_verdict (no_verdicts follows.ops follows.tell_answers));
  };
}
  where
    t : Txn
    t = r.txn

    i : Input
    i = input.Elect r.txn r.members

    a : At
    a = alone_at sc start r

    made : Made
    made = made_by sc start r.elector i

    nobody : others r.elector r.members ≡ []
    nobody = ap (others r.elector) one ∙ rw (self r.elector) refl

    first : Made
    first = record x { outs = x.outs ++ map (mail r.elector (msg.Decide t dir)) (others r.elector r.members) }

    follows : AddsAnswers a first (step_at a)
    follows = step_adds_answers a first (row ∙ cast_is a (msg.Decide t dir) r.members x) concludes.own

    outs_are : made.outs ≡ follows.dones
    outs_are = follows.outs ∙ ap (λ l. (l ++ map (mail r.elector (msg.Decide t dir)) (others r.elector r.members)) ++ follows.dones) concludes.outs
        ∙ ap (λ l. map (mail r.elector (msg.Decide t dir)) l ++ follows.dones) nobody

    lates : List Packet
    lates = staying (parts_of sc start) (map unnumbered follows.dones)

    told_is : made.told ≡ told.Verdict t n v ∷ (concludes.more ++ follows.ops)
    told_is = follows.told ∙ ap (λ l. l ++ follows.ops) concludes.told

    decides : is_undecided t (log_of sc (start ++ elect_entry sc start r ∷ []) r.elector) ≡ false
    decides = ap (is_undecided t) (log_on sc start r.elector i ∙ ap (λ rs. log_of sc start r.elector ++ rs) follows.records) ∙ concludes.decided

    only : (s : ℕ) → ((r.elector == s) || false) ≡ true → (b : Bool) → (r.elector == s) ≡ b → is_undecided t (log_of sc (start ++ elect_entry sc start r ∷ []) s) ≡ false
    only s has true is = subst (λ u. is_undecided t (log_of sc (start ++ elect_entry sc start r ∷ []) u) ≡ false) (eqb-true r.elector s is) decides
    only s has false is = absurd (let clash : false ≡ true = sym (ap (λ b. b || false) is) ∙ has in cc)

-- it is blocked: it tells so, and nothing is pending
pub alone_blocked : (sc : Scenario) (start : List Entry) (r : RecoveryRound) (have total : ℕ) → r.members ≡ r.elector ∷ [] →
    IsCounted sc start → pending sc start ≡ [] → is_calm (present_items sc start) ≡ true → nat_lt (max 0 (last_elected r.txn (log_of sc start r.elector))) 4294967295 ≡ true →
    verdict_of sc.weights r.txn.sites (site_report sc start r.txn r.elector ∷ []) ≡ verdict.Block have total →
    (pending sc (start ++ elect_entry sc start r ∷ []) ≡ []) × Entered start (start ++ elect_entry sc start r ∷ []) r 1 (record { site = r.elector; verdict = verdict.Block have total } ∷ [])
alone_blocked sc start r have total one counted none calm low blocked = (
  nothing_left,
  record {
    round = elect_entry sc start r ∷ [];
    is = refl;
    count = rw (same_self t) refl;
    says =
        ap (λ (y : Made). verdicts_told t (record { owner = r.elector; act = Step i y.records (numbered (suc (length (sent start))) y.outs) y.told } ∷ [])) made
        ∙ said_first t n (verdict.Block have total) r.elector i (log.Join t n ∷ []) [] [] refl;
  },
)
  where
    t : Txn
    t = r.txn

    n : ℕ
    n = number_of sc start r []

    i : Input
    i = input.Elect r.txn r.members

    makes_now : Made
    makes_now = record { records = log.Join t n ∷ []; outs = []; told = told.Verdict t n (verdict.Block have total) ∷ []; own = [] }

    row : and_verdict (alone_at sc start r) t n r.members (site_report sc start t r.elector ∷ []) (makes (log.Join t n ∷ []) []) ≡ makes_now
    row = rw blocked refl

    made : made_by sc start r.elector i ≡ makes_now
    made = step_without_grants (alone_at sc start r) makes_now (alone_input sc start r one low ∙ row) refl refl

    queue : IsQueue sc (start ++ elect_entry sc start r ∷ []) (numbered (suc (length (sent start))) (made_by sc start r.elector i).outs)
    queue = queue_entry sc start r.elector i [] counted calm tt (queue_begins sc start counted none).waiting (rw made refl)

    nothing_left : pending sc (start ++ elect_entry sc start r ∷ []) ≡ []
    nothing_left = queue_is_pending sc (start ++ elect_entry sc start r ∷ []) _ queue ∙ ap (λ (y : Made). numbered (suc (length (sent start))) y.outs) made
