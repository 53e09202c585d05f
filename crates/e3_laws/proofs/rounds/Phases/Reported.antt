-- The fourth phase of a round: the elector takes the reports, one after the other; with the last one it has a verdict.
use Rattle.std.proofs.Common.{◌≡◌, ◌==◌, ◌||◌, ◌+◌, ℕ, suc, Bool, true, false, List, [], ◌∷◌, ◌++◌, append-nil, append_assoc, Some, ◌∙◌, ap, sym, subst, refl, map, count_by, arith, eqb-true}
use Rattle.std.specs.List.{list_any}
use Rattle.std.proofs.lemmas.List.{map-append}
use Rattle.std.proofs.lemmas.List.Sums.{sum_by-append}
use Rattle.std.proofs.lemmas.Grind.{flat_map-append}
use Rattle.e3_types.specs.declared.entries.Entry.{Entry}
use Rattle.e3_types.specs.declared.entries.Input.TheVariants as input
use Rattle.e3_types.specs.declared.entries.Told.TheVariants as told
use Rattle.e3_types.specs.declared.messages.Packet.{Packet}
use Rattle.e3_types.specs.declared.scenarios.Scenario.{Scenario}
use Rattle.e3_types.specs.declared.transactions.Txn.{Txn}
use Rattle.e3_types.specs.declared.verdicts.SiteReport.{SiteReport}
use Rattle.e3_types.specs.declared.verdicts.Verdict.TheVariants as verdict
use Rattle.e3_types.specs.Sets.{has_site}
use Rattle.e3_types.specs.Verdicts.{verdict_of}
use Rattle.e3_world.specs.Gatherings.{Election, Elections}
use Rattle.e3_world.specs.declared.lives.Life.{Life}
use Rattle.e3_world.specs.declared.lives.Made.{Made}
use Rattle.e3_world.specs.Elections.{all_reported, election_by, take_report}
use Rattle.e3_world.specs.Items.{RecoveryRound}
use Rattle.e3_world.specs.Legal.{entry_of, made_by}
use Rattle.e3_world.specs.Lives.{life_at}
use Rattle.e3_world.specs.Logs.{last_attempt, state_of}
use Rattle.e3_world.specs.Making.{nothing}
use Rattle.e3_world.specs.Moves.{log_of, moves_of, unnumbered}
use Rattle.e3_world.specs.Packets.{pending}
use Rattle.e3_world.specs.Steps.{step_at}
use Rattle.e3_world.proofs.Turns.{self}
use Rattle.e3_laws.specs.rounds.Queues.{IsQueue}
use Rattle.e3_laws.specs.rounds.Rounds.{is_own, verdicts_at, verdicts_told}
use Rattle.e3_laws.proofs.rounds.Deliveries.Delivering.{Delivery, Entered, deliver, entered_next, taking}
use Rattle.e3_laws.proofs.rounds.Deliveries.Gathering.{elections_of, elections_on, group_at, group_on, life_on, life_with}
use Rattle.e3_laws.proofs.rounds.Phases.Joined.{Joined, join_of, number_of, numbered_election, report_mail, site_report}
use Rattle.e3_laws.proofs.steps.Moving.{log_on, log_still}
use Rattle.e3_laws.proofs.rounds.Deliveries.Queue.{queue_is_pending}
use Rattle.e3_laws.proofs.rounds.Phases.Rows.{row_block, row_report}
use Rattle.e3_laws.proofs.rounds.Deliveries.Walking.{Rest}
use Rattle.e3_laws.proofs.steps.Tests.{same_self}

-- All have joined; the elector has these members' reports, those of the others are pending.
pub record Reported (sc : Scenario) (start : List Entry) (r : RecoveryRound) (all : List ℕ) (h : List Entry) (own : ℕ) (done todo : List ℕ) : Type 0 where
  pub queue : List Packet
  pub is_queue : IsQueue sc h queue
  pub unnumbered_queue : map unnumbered queue ≡ map (report_mail sc start r (number_of sc start r all)) todo
  pub logs : (s : ℕ) → log_of sc h s ≡ log_of sc start s ++ join_of r (number_of sc start r all) all s
  pub gathered : (elections_of r.elector r.txn (life_at (moves_of sc h r.elector))).now ≡ Some (numbered_election sc start r all done)
  pub grouped : group_at sc h r.elector r.txn ≡ r.members
  pub entered : Entered start h r own []

pub reported_begins : (sc : Scenario) (start : List Entry) (r : RecoveryRound) (all : List ℕ) (h : List Entry) (own : ℕ) → Joined sc start r all h own all [] →
    Reported sc start r all h own [] all
reported_begins sc start r all h own was = record {
  queue = was.queue;
  is_queue = was.is_queue;
  unnumbered_queue = was.unnumbered_queue;
  logs = was.logs;
  gathered = was.gathered;
  grouped = was.grouped;
  entered = was.entered;
}

reporters : (sc : Scenario) (start : List Entry) (t : Txn) (xs : List ℕ) (m : ℕ) → list_any (λ h. h.site == m) (map (site_report sc start t) xs) ≡ has_site xs m
reporters sc start t [] m = refl
reporters sc start t (x ∷ xs) m = ap (λ b. (x == m) || b) (reporters sc start t xs m)

pub takes : (sc : Scenario) (start : List Entry) (r : RecoveryRound) (all done : List ℕ) (m : ℕ) → has_site r.members m ≡ true → has_site (r.elector ∷ done) m ≡ false →
    take_report (numbered_election sc start r all done) (number_of sc start r all) (site_report sc start r.txn m) ≡ Some (numbered_election sc start r all (done ++ m ∷ []))
takes sc start r all done m member fresh =
    rw (self (number_of sc start r all), member, new)
    (ap (λ (l : List SiteReport). let e : Election = record (numbered_election sc start r all []) { reports = l } in Some e)
    (sym (map-append (site_report sc start r.txn) (r.elector ∷ done) (m ∷ []))))
  where
    new : list_any (λ h. h.site == m) (map (site_report sc start r.txn) (r.elector ∷ done)) ≡ false
    new = reporters sc start r.txn (r.elector ∷ done) m ∙ fresh

-- a report comes, and others are awaited
pub reported_on : (sc : Scenario) (start : List Entry) (r : RecoveryRound) (all : List ℕ) (h more : List Entry) (own : ℕ) (done todo : List ℕ) (m : ℕ) →
    has_site r.members m ≡ true → has_site r.members r.elector ≡ true → (m == r.elector) ≡ false → has_site (r.elector ∷ done) m ≡ false →
    all_reported (numbered_election sc start r all (done ++ m ∷ [])) ≡ false →
    Rest sc r.members h more → Reported sc start r all h own done (m ∷ todo) →
    (e : Entry) × (later : List Entry) × (more ≡ e ∷ later) × Rest sc r.members (h ++ e ∷ []) later × Reported sc start r all (h ++ e ∷ []) (suc own) (done ++ m ∷ []) todo
reported_on sc start r all h more own done todo m member leads away fresh awaits rest was =
    (e, d.later, d.is, d.on, now)
  where
    t : Txn
    t = r.txn

    n : ℕ
    n = number_of sc start r all

    q : Packet
    q = report_mail sc start r n m

    d : Delivery sc r.members h more q (map (report_mail sc start r n) todo)
    d = deliver sc r.members h more was.queue q (map (report_mail sc start r n) todo) rest was.is_queue was.unnumbered_queue leads

    e : Entry
    e = entry_of sc h r.elector (input.Deliver d.p)

    life : Life
    life = life_at (moves_of sc h r.elector)

    next : Election
    next = numbered_election sc start r all (done ++ m ∷ [])

    take_is : take_report (numbered_election sc start r all done) n (site_report sc start t m) ≡ Some next
    take_is = takes sc start r all done m member fresh

    step : step_at (taking sc h q) ≡ nothing
    step = row_report (taking sc h q) m t n (state_of t (log_of sc start m)) (last_attempt t (log_of sc start m)) (numbered_election sc start r all done) next
        (record { packet = q; is = refl; sender = refl; says = refl; away = away }) was.gathered take_is awaits

    made : made_by sc h r.elector (input.Deliver d.p) ≡ nothing
    made = d.made ∙ step

    after : Packet → Type 0
    after x = (election_by r.elector life.inc t (elections_of r.elector t life) (record { before = life.log; input = input.Deliver x; records = []; outs = []; told = [] })).now ≡ Some next

    reports : after q
    reports = rw (was.gathered, same_self t, take_is) refl

    now : Reported sc start r all (h ++ e ∷ []) (suc own) (done ++ m ∷ []) todo
    now = let shifted = d.shifts nothing step refl in record {
      queue = shifted.0;
      is_queue = shifted.1;
      unnumbered_queue = shifted.2 ∙ append-nil (map (report_mail sc start r n) todo);
      logs = λ s. log_now s (r.elector == s) refl;
      gathered =
          ap (λ (l : Life). (elections_of r.elector t l).now) (life_on sc h r.elector (input.Deliver d.p))
          ∙ ap (λ (x : Made). (elections_of r.elector t (life_with life (input.Deliver d.p) x)).now) made
          ∙ ap (λ (x : Elections). x.now) (elections_on r.elector t life (input.Deliver d.p) nothing)
          ∙ subst after (sym d.same) reports;
      grouped = group_on sc h r.elector r.elector t d.p ∙ was.grouped;
      entered = entered_next sc start h more q (map (report_mail sc start r n) todo) r own [] nothing d was.entered member (same_self t) step refl;
    }
      where
        log_now : (s : ℕ) (b : Bool) → (r.elector == s) ≡ b → log_of sc (h ++ e ∷ []) s ≡ log_of sc start s ++ join_of r n all s
        log_now s false other = log_still sc h r.elector s (input.Deliver d.p) other ∙ was.logs s
        log_now s true is =
            subst (λ u. log_of sc (h ++ e ∷ []) u ≡ log_of sc start u ++ join_of r n all u) (eqb-true r.elector s is)
            (log_on sc h r.elector (input.Deliver d.p) ∙ ap (λ (x : Made). log_of sc h r.elector ++ x.records) made ∙ append-nil (log_of sc h r.elector) ∙ was.logs r.elector)

-- With the last report the verdict is Block: it is told, and nothing is pending.
pub block_ends : (sc : Scenario) (start : List Entry) (r : RecoveryRound) (all : List ℕ) (h more : List Entry) (own have total : ℕ) (done : List ℕ) (m : ℕ) →
    has_site r.members m ≡ true → has_site r.members r.elector ≡ true → (m == r.elector) ≡ false → has_site (r.elector ∷ done) m ≡ false →
    all_reported (numbered_election sc start r all (done ++ m ∷ [])) ≡ true →
    verdict_of sc.weights r.txn.sites (map (site_report sc start r.txn) (r.elector ∷ (done ++ m ∷ []))) ≡ verdict.Block have total →
    Rest sc r.members h more → Reported sc start r all h own done (m ∷ []) →
    (e : Entry) × (later : List Entry) × (more ≡ e ∷ later) × Rest sc r.members (h ++ e ∷ []) later × (pending sc (h ++ e ∷ []) ≡ [])
    × Entered start (h ++ e ∷ []) r (suc own) (record { site = r.elector; verdict = verdict.Block have total } ∷ [])
block_ends sc start r all h more own have total done m member leads away fresh complete blocked rest was =
    (e, d.later, d.is, d.on, none, now)
  where
    t : Txn
    t = r.txn

    n : ℕ
    n = number_of sc start r all

    q : Packet
    q = report_mail sc start r n m

    d : Delivery sc r.members h more q []
    d = deliver sc r.members h more was.queue q [] rest was.is_queue was.unnumbered_queue leads

    e : Entry
    e = entry_of sc h r.elector (input.Deliver d.p)

    told_it : Made
    told_it = record { records = []; outs = []; told = told.Verdict t n (verdict.Block have total) ∷ []; own = [] }

    step : step_at (taking sc h q) ≡ told_it
    step = row_block (taking sc h q) m t n (state_of t (log_of sc start m)) (last_attempt t (log_of sc start m)) (numbered_election sc start r all done) (numbered_election sc start r all (done ++ m ∷ [])) have total
        (record { packet = q; is = refl; sender = refl; says = refl; away = away }) was.gathered (takes sc start r all done m member fresh) complete blocked

    no_packets : (ps : List Packet) → map unnumbered ps ≡ [] → ps ≡ []
    no_packets [] is = refl
    no_packets (p ∷ ps) is = absurd cc

    none : pending sc (h ++ e ∷ []) ≡ []
    none = let shifted = d.shifts told_it step refl in queue_is_pending sc (h ++ e ∷ []) shifted.0 shifted.1 ∙ no_packets shifted.0 shifted.2

    mine : is_own r e ≡ true
    mine =
        let says : d.p.msg ≡ q.msg = ap (λ (x : Packet). x.msg) d.same in
        let sent_by : has_site r.members d.p.«from» ≡ true = ap (λ (x : Packet). has_site r.members x.«from») d.same ∙ member in
        rw (sent_by, says, same_self t) refl

    says : verdicts_told t (e ∷ []) ≡ record { site = r.elector; verdict = verdict.Block have total } ∷ []
    says = let told_is : (made_by sc h r.elector (input.Deliver d.p)).told ≡ told.Verdict t n (verdict.Block have total) ∷ [] = ap (λ (x : Made). x.told) (d.made ∙ step) in rw (told_is, same_self t) refl

    now : Entered start (h ++ e ∷ []) r (suc own) (record { site = r.elector; verdict = verdict.Block have total } ∷ [])
    now = record {
      round = was.entered.round ++ e ∷ [];
      is = ap (λ l. l ++ e ∷ []) was.entered.is ∙ append_assoc start was.entered.round (e ∷ []);
      count = sum_by-append _ was.entered.round (e ∷ []) ∙ (let one : count_by (is_own r) (e ∷ []) ≡ 1 = rw mine refl in let before : count_by (is_own r) was.entered.round ≡ own = was.entered.count in
          let sum_is : count_by (is_own r) was.entered.round + count_by (is_own r) (e ∷ []) ≡ suc own = omega (arith, one, before) in sum_is);
      says = flat_map-append (verdicts_at t) was.entered.round (e ∷ []) ∙ ap (λ l. l ++ verdicts_told t (e ∷ [])) was.entered.says ∙ says;
    }
