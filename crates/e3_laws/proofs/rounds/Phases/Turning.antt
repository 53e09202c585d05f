-- With the last report the elector has a verdict: an attempt begins, or the decision at once.
use Rattle.std.proofs.Common.{◌≡◌, ◌==◌, ◌||◌, ℕ, suc, Bool, true, false, List, [], ◌∷◌, ◌++◌, append-nil, Some, ◌∙◌, ap, sym, subst, refl, map, eqb-true, length, nat_lt}
use Rattle.std.specs.List.{list_all}
use Rattle.std.proofs.lemmas.List.{map-append}
use Rattle.std.proofs.lemmas.List.Elements.{filter-append}
use Rattle.e3_types.specs.declared.entries.Act.TheVariants.{Step}
use Rattle.e3_types.specs.declared.entries.Entry.{Entry}
use Rattle.e3_types.specs.declared.entries.Input.{Input}
use Rattle.e3_types.specs.declared.entries.Input.TheVariants as input
use Rattle.e3_types.specs.declared.entries.Told.{Told}
use Rattle.e3_types.specs.declared.entries.Told.TheVariants as told
use Rattle.e3_types.specs.declared.messages.Message.TheVariants as msg
use Rattle.e3_types.specs.declared.messages.Packet.{Packet}
use Rattle.e3_types.specs.declared.records.Record.{Record}
use Rattle.e3_types.specs.declared.records.Record.TheVariants as log
use Rattle.e3_types.specs.declared.scenarios.Scenario.{Scenario}
use Rattle.e3_types.specs.declared.transactions.Dir.{Dir}
use Rattle.e3_types.specs.declared.transactions.Txn.{Txn}
use Rattle.e3_types.specs.declared.verdicts.Verdict.{Verdict}
use Rattle.e3_types.specs.Quorums.{is_quorum}
use Rattle.e3_types.specs.Sets.{has_site, others}
use Rattle.e3_types.specs.Verdicts.{verdict_of}
use Rattle.e3_world.specs.Gatherings.{Rounds}
use Rattle.e3_world.specs.declared.lives.At.{At}
use Rattle.e3_world.specs.declared.lives.Life.{Life}
use Rattle.e3_world.specs.declared.lives.Made.{Made}
use Rattle.e3_world.specs.Elections.{all_reported}
use Rattle.e3_world.specs.Fate.{same_part}
use Rattle.e3_world.specs.Items.{RecoveryRound}
use Rattle.e3_world.specs.Legal.{entry_of, made_by, numbered}
use Rattle.e3_world.specs.Lives.{life_at}
use Rattle.e3_world.specs.Logs.{is_undecided, last_attempt, last_elected, state_of}
use Rattle.e3_world.specs.Making.{nothing, and_cast}
use Rattle.e3_world.specs.Messages.{on_message}
use Rattle.e3_world.specs.Moves.{log_of, moves_of, unnumbered}
use Rattle.e3_world.specs.Packets.{parts_of, sent}
use Rattle.e3_world.specs.Rounds.{round_by}
use Rattle.e3_world.specs.Steps.{step_at}
use Rattle.e3_world.proofs.Pushes.{life_log_at}
use Rattle.e3_world.proofs.Turns.{self}
use Rattle.e3_laws.specs.rounds.Queues.{are_within}
use Rattle.e3_laws.specs.rounds.Rounds.{verdicts_told}
use Rattle.e3_laws.proofs.rounds.Phases.Acknowledged.{all_stay, round_with}
use Rattle.e3_laws.proofs.rounds.Phases.Asked.{unnumbered_mails, within_all}
use Rattle.e3_laws.proofs.rounds.Phases.Decided.{Decided, decide_mail, late_unnumbered, late_staying}
use Rattle.e3_laws.proofs.steps.Deciding.{AddsAnswers}
use Rattle.e3_laws.proofs.rounds.Deliveries.Delivering.{Delivery, deliver, entered_told, own_next, taking}
use Rattle.e3_laws.proofs.rounds.Deliveries.Gathering.{life_on, life_with, rounds_of, rounds_on}
use Rattle.e3_laws.proofs.rounds.Phases.Joined.{number_of, numbered_election, report_mail, site_report}
use Rattle.e3_laws.proofs.steps.Moving.{log_on, log_still}
use Rattle.e3_laws.proofs.rounds.Deliveries.Queue.{staying}
use Rattle.e3_laws.proofs.rounds.Phases.Reported.{Reported, takes}
use Rattle.e3_laws.proofs.rounds.Phases.Rows.{cast_is}
use Rattle.e3_laws.proofs.rounds.Tail.{late_answers, no_verdict, no_verdicts, none_said}
use Rattle.e3_laws.proofs.rounds.Deliveries.Walking.{Rest}
use Rattle.e3_laws.proofs.rounds.Phases.Winning.{follows_message, pre_of, row_attempt}
use Rattle.e3_laws.proofs.rounds.Phases.Won.{Prepared, attempt_of, others_apart, pre_mail}
use Rattle.e3_laws.proofs.steps.Tests.{same_self}
use Rattle.e3_laws.proofs.steps.Lists.{both_all}

-- an entry tells one verdict, and behind it events that are none
pub said_first : (t : Txn) (n : ℕ) (v : Verdict) (o : ℕ) (i : Input) (rs : List Record) (outs : List Packet) (rest : List Told) → list_all no_verdict rest ≡ true →
    verdicts_told t (record { owner = o; act = Step i rs outs (told.Verdict t n v ∷ rest) } ∷ []) ≡ record { site = o; verdict = v } ∷ []
said_first t n v o i rs outs rest all = rw (same_self t, none_said t o i rs outs rest all) refl

-- the verdict asks for an attempt, and the elector alone is no quorum: it attempts, and asks the others to
pub prepared_begins : (sc : Scenario) (start : List Entry) (r : RecoveryRound) (all : List ℕ) (dir : Dir) (h more : List Entry) (own : ℕ) (done : List ℕ) (m : ℕ) →
    has_site r.members m ≡ true → has_site r.members r.elector ≡ true → (m == r.elector) ≡ false → has_site (r.elector ∷ done) m ≡ false →
    all_reported (numbered_election sc start r all (done ++ m ∷ [])) ≡ true →
    verdict_of sc.weights r.txn.sites (map (site_report sc start r.txn) (r.elector ∷ (done ++ m ∷ []))) ≡ pre_of dir →
    is_undecided r.txn (log_of sc h r.elector) ≡ true → (last_elected r.txn (log_of sc h r.elector) == number_of sc start r all) ≡ true →
    nat_lt (last_attempt r.txn (log_of sc h r.elector)) (number_of sc start r all) ≡ true → (number_of sc start r all == 1) ≡ false →
    is_quorum sc.weights (r.elector ∷ []) r.txn.sites ≡ false →
    Rest sc r.members h more → Reported sc start r all h own done (m ∷ []) →
    (e : Entry) × (later : List Entry) × (more ≡ e ∷ later) × Rest sc r.members (h ++ e ∷ []) later
    × Prepared sc start r h (number_of sc start r all) dir (h ++ e ∷ []) (suc own) (record { site = r.elector; verdict = pre_of dir } ∷ []) [] (others r.elector r.members)
prepared_begins sc start r all dir h more own done m member leads away fresh complete asks undecided joined untried later_number alone rest was =
    (e, d.later, d.is, d.on, now)
  where
    t : Txn
    t = r.txn

    n : ℕ
    n = number_of sc start r all

    q : Packet
    q = report_mail sc start r n m

    d : Delivery sc r.members h more q []
    d = deliver sc r.members h more was.queue q [] rest was.is_queue was.unnumbered_queue leads

    e : Entry
    e = entry_of sc h r.elector (input.Deliver d.p)

    life : Life
    life = life_at (moves_of sc h r.elector)

    log_is : life.log ≡ log_of sc h r.elector
    log_is = life_log_at (moves_of sc h r.elector)

    makes_now : Made
    makes_now = record {
      records = log.Attempt t n dir ∷ [];
      outs = map (pre_mail r n dir) (others r.elector r.members);
      told = told.Verdict t n (pre_of dir) ∷ [];
      own = [];
    }

    step : step_at (taking sc h q) ≡ makes_now
    step = row_attempt (taking sc h q) m t n (state_of t (log_of sc start m)) (last_attempt t (log_of sc start m)) (numbered_election sc start r all done) (numbered_election sc start r all (done ++ m ∷ [])) dir
        (record { packet = q; is = refl; sender = refl; says = refl; away = away }) was.gathered (takes sc start r all done m member fresh) complete asks
        (ap (is_undecided t) log_is ∙ undecided) (ap (λ l. last_elected t l == n) log_is ∙ joined) (ap (λ l. nat_lt (last_attempt t l) n) log_is ∙ untried) alone

    made : made_by sc h r.elector (input.Deliver d.p) ≡ makes_now
    made = d.made ∙ step

    within : are_within (parts_of sc h) makes_now.outs ≡ true
    within = within_all (parts_of sc h) r.elector (msg.Pre t n dir) r.members (λ x has. rest.together r.elector x leads has)

    After : Packet → Type 0
    After x =
        (round_by r.elector t (rounds_of r.elector t life)
        (record { before = life.log; input = input.Deliver x; records = log.Attempt t n dir ∷ []; outs = map unnumbered makes_now.outs; told = makes_now.told })).now ≡ Some (round_with r n dir [])

    begins : After q
    begins = rw (same_self t, later_number, was.grouped) refl

    says : verdicts_told t (e ∷ []) ≡ record { site = r.elector; verdict = pre_of dir } ∷ []
    says =
        let told_is : (made_by sc h r.elector (input.Deliver d.p)).told ≡ told.Verdict t n (pre_of dir) ∷ [] = ap (λ (x : Made). x.told) made in
        rw (told_is, same_self t) refl

    now : Prepared sc start r h n dir (h ++ e ∷ []) (suc own) (record { site = r.elector; verdict = pre_of dir } ∷ []) [] (others r.elector r.members)
    now = let shifted = d.shifts makes_now step within in record {
      queue = shifted.0;
      is_queue = shifted.1;
      unnumbered_queue = shifted.2 ∙ unnumbered_mails r.elector (msg.Pre t n dir) (others r.elector r.members) ∙ sym (append-nil (map (pre_mail r n dir) (others r.elector r.members)));
      logs = λ x. log_now x (r.elector == x) refl;
      round =
          ap (λ (l : Life). (rounds_of r.elector t l).now) (life_on sc h r.elector (input.Deliver d.p))
          ∙ ap (λ (x : Made). (rounds_of r.elector t (life_with life (input.Deliver d.p) x)).now) made
          ∙ ap (λ (x : Rounds). x.now) (rounds_on r.elector t life (input.Deliver d.p) makes_now)
          ∙ subst After (sym d.same) begins;
      entered = entered_told start h r own [] (record { site = r.elector; verdict = pre_of dir } ∷ []) e was.entered (own_next sc h more q [] r d member (same_self t)) says;
    }
      where
        log_now : (x : ℕ) (b : Bool) → (r.elector == x) ≡ b → log_of sc (h ++ e ∷ []) x ≡ log_of sc h x ++ attempt_of r n dir [] x
        log_now x false other = log_still sc h r.elector x (input.Deliver d.p) other ∙ sym (append-nil (log_of sc h x)) ∙ rw other refl
        log_now x true is =
            subst (λ u. log_of sc (h ++ e ∷ []) u ≡ log_of sc h u ++ attempt_of r n dir [] u) (eqb-true r.elector x is)
            (log_on sc h r.elector (input.Deliver d.p) ∙ ap (λ (x : Made). log_of sc h r.elector ++ x.records) made ∙ rw (self r.elector) refl)

-- what an elector makes that decides with its verdict, but for what it sends
pub record Concludes (t : Txn) (n : ℕ) (v : Verdict) (l : List Record) (made : Made) : Type 0 where
  pub outs : made.outs ≡ []
  pub own : made.own ≡ []
  pub decided : is_undecided t (l ++ made.records) ≡ false
  pub more : List Told
  pub told : made.told ≡ told.Verdict t n v ∷ more
  pub told_no_verdict : list_all no_verdict more ≡ true

-- the verdict decides, or the elector alone is a quorum: the decision goes to the others at once
pub conclusion_begins : (sc : Scenario) (start : List Entry) (r : RecoveryRound) (all : List ℕ) (dir : Dir) (v : Verdict) (x : Made) (h more : List Entry) (own : ℕ) (done : List ℕ) (m : ℕ) →
    has_site r.members m ≡ true → has_site r.members r.elector ≡ true → (m == r.elector) ≡ false →
    on_message (taking sc h (report_mail sc start r (number_of sc start r all) m)) m (report_mail sc start r (number_of sc start r all) m).msg nothing
    ≡ and_cast (taking sc h (report_mail sc start r (number_of sc start r all) m)) r.members (msg.Decide r.txn dir) x →
    Concludes r.txn (number_of sc start r all) v (log_of sc h r.elector) x →
    Rest sc r.members h more → Reported sc start r all h own done (m ∷ []) →
    (e : Entry) × (later : List Entry) × (more ≡ e ∷ later) × Rest sc r.members (h ++ e ∷ []) later
    × Decided sc start r h dir (h ++ e ∷ []) (suc own) (record { site = r.elector; verdict = v } ∷ []) [] (others r.elector r.members)
    × (log_of sc (h ++ e ∷ []) r.elector ≡ log_of sc h r.elector ++ x.records)
conclusion_begins sc start r all dir v x h more own done m member leads away row concludes rest was =
    (e, d.later, d.is, d.on, now, log_is)
  where
    t : Txn
    t = r.txn

    n : ℕ
    n = number_of sc start r all

    q : Packet
    q = report_mail sc start r n m

    d : Delivery sc r.members h more q []
    d = deliver sc r.members h more was.queue q [] rest was.is_queue was.unnumbered_queue leads

    e : Entry
    e = entry_of sc h r.elector (input.Deliver d.p)

    a : At
    a = taking sc h q

    mails : List Packet
    mails = map (decide_mail r dir) (others r.elector r.members)

    first : Made
    first = record x { outs = x.outs ++ mails }

    follows : AddsAnswers a first (step_at a)
    follows = follows_message a m q.msg first (record { packet = q; is = refl; sender = refl; says = refl; away = away }) (row ∙ cast_is a (msg.Decide t dir) r.members x) concludes.own

    outs_are : (step_at a).outs ≡ mails ++ follows.dones
    outs_are = follows.outs ∙ ap (λ l. (l ++ mails) ++ follows.dones) concludes.outs

    lates : List Packet
    lates = staying (parts_of sc h) (map unnumbered follows.dones)

    mails_stay : staying (parts_of sc h) mails ≡ mails
    mails_stay = all_stay (parts_of sc h) mails (within_all (parts_of sc h) r.elector (msg.Decide t dir) r.members (λ y has. rest.together r.elector y leads has))

    sent_are : staying (parts_of sc h) (map unnumbered (step_at a).outs) ≡ mails ++ lates
    sent_are =
        ap (λ l. staying (parts_of sc h) (map unnumbered l)) outs_are
        ∙ ap (staying (parts_of sc h)) (map-append unnumbered mails follows.dones)
        ∙ filter-append (λ p. same_part (parts_of sc h) p.«from» p.to) (map unnumbered mails) (map unnumbered follows.dones)
        ∙ ap (λ l. staying (parts_of sc h) l ++ lates) (unnumbered_mails r.elector (msg.Decide t dir) (others r.elector r.members))
        ∙ ap (λ l. l ++ lates) mails_stay

    says : verdicts_told t (e ∷ []) ≡ record { site = r.elector; verdict = v } ∷ []
    says =
        let made : Made = made_by sc h r.elector (input.Deliver d.p) in
        let told_is : made.told ≡ told.Verdict t n v ∷ (concludes.more ++ follows.ops) = ap (λ (y : Made). y.told) d.made ∙ follows.told ∙ ap (λ l. l ++ follows.ops) concludes.told in
        ap (λ l. verdicts_told t (record { owner = r.elector; act = Step (input.Deliver d.p) made.records e_outs l } ∷ [])) told_is
        ∙ said_first t n v r.elector (input.Deliver d.p) made.records e_outs (concludes.more ++ follows.ops)
        (both_all no_verdict concludes.more follows.ops concludes.told_no_verdict (no_verdicts follows.ops follows.tell_answers))
      where
        e_outs : List Packet
        e_outs = numbered (suc (length (sent h))) (made_by sc h r.elector (input.Deliver d.p)).outs

    log_is : log_of sc (h ++ e ∷ []) r.elector ≡ log_of sc h r.elector ++ x.records
    log_is = log_on sc h r.elector (input.Deliver d.p) ∙ ap (λ (y : Made). log_of sc h r.elector ++ y.records) d.made ∙ ap (λ rs. log_of sc h r.elector ++ rs) follows.records

    decides : is_undecided t (log_of sc (h ++ e ∷ []) r.elector) ≡ false
    decides = ap (is_undecided t) log_is ∙ concludes.decided

    now : Decided sc start r h dir (h ++ e ∷ []) (suc own) (record { site = r.elector; verdict = v } ∷ []) [] (others r.elector r.members)
    now = record {
      queue = d.shifts_any.0;
      is_queue = d.shifts_any.1;
      lates = lates;
      unnumbered_queue = d.shifts_any.2 ∙ sent_are;
      are_late = late_staying r (parts_of sc h) (map unnumbered follows.dones) (late_unnumbered r follows.dones ∙ late_answers r r.elector follows.dones follows.are_answers);
      logs = λ s has. log_still sc h r.elector s (input.Deliver d.p) (others_apart r.elector r.members s has);
      decided = λ s has. only s has (r.elector == s) refl;
      entered = entered_told start h r own [] (record { site = r.elector; verdict = v } ∷ []) e was.entered (own_next sc h more q [] r d member (same_self t)) says;
    }
      where
        only : (s : ℕ) → ((r.elector == s) || false) ≡ true → (b : Bool) → (r.elector == s) ≡ b → is_undecided t (log_of sc (h ++ e ∷ []) s) ≡ false
        only s has true is = subst (λ u. is_undecided t (log_of sc (h ++ e ∷ []) u) ≡ false) (eqb-true r.elector s is) decides
        only s has false is = absurd (let clash : false ≡ true = sym (ap (λ b. b || false) is) ∙ has in cc)
