-- The third phase of a round: with the last answer the elector joins its number, and the members join it and report.
use Rattle.std.proofs.Common.{◌≡◌, ◌==◌, ◌||◌, ℕ, suc, Bool, true, false, List, [], ◌∷◌, ◌++◌, append-nil, append_assoc, Some, ◌∙◌, ap, sym, subst, refl, map, eqb-true, nat_lt, nat_le, if◌then◌else◌}
use Rattle.std.proofs.lemmas.List.{map-append}
use Rattle.std.proofs.lemmas.List.Folds.{list_any-append}
use Rattle.e3_types.specs.declared.entries.Entry.{Entry}
use Rattle.e3_types.specs.declared.entries.Input.TheVariants as input
use Rattle.e3_types.specs.declared.messages.Message.TheVariants as msg
use Rattle.e3_types.specs.declared.messages.Packet.{Packet}
use Rattle.e3_types.specs.declared.records.Record.{Record}
use Rattle.e3_types.specs.declared.records.Record.TheVariants as log
use Rattle.e3_types.specs.declared.scenarios.Scenario.{Scenario}
use Rattle.e3_types.specs.declared.transactions.Txn.{Txn}
use Rattle.e3_types.specs.declared.verdicts.SiteReport.{SiteReport}
use Rattle.e3_types.specs.Sets.{has_site, others}
use Rattle.e3_world.specs.Gatherings.{Election, Elections}
use Rattle.e3_world.specs.declared.lives.Life.{Life}
use Rattle.e3_world.specs.declared.lives.Made.{Made}
use Rattle.e3_world.specs.Elections.{all_heard, election_by, greatest_heard, hear}
use Rattle.e3_world.specs.Fate.{same_part}
use Rattle.e3_world.specs.Items.{RecoveryRound}
use Rattle.e3_world.specs.Legal.{entry_of, made_by}
use Rattle.e3_world.specs.Lives.{life_at}
use Rattle.e3_world.specs.Logs.{last_attempt, last_elected, state_of}
use Rattle.e3_world.specs.Moves.{log_of, moves_of, unnumbered}
use Rattle.e3_world.specs.Packets.{parts_of}
use Rattle.e3_world.specs.Steps.{step_at}
use Rattle.e3_world.proofs.Pushes.{life_log_at}
use Rattle.e3_world.proofs.Turns.{self}
use Rattle.e3_laws.specs.rounds.Queues.{IsQueue, are_within}
use Rattle.e3_laws.proofs.rounds.Phases.Asked.{answer, call_of, unnumbered_mails, within_all}
use Rattle.e3_laws.proofs.rounds.Deliveries.Delivering.{Delivery, Entered, deliver, entered_next, taking}
use Rattle.e3_laws.proofs.rounds.Deliveries.Gathering.{elections_of, elections_on, group_at, group_on, life_on, life_with}
use Rattle.e3_laws.proofs.rounds.Phases.Heard.{Heard, election, hears, named}
use Rattle.e3_laws.proofs.steps.Moving.{log_on, log_still, moves_still}
use Rattle.e3_laws.proofs.rounds.Phases.Rows.{mail, makes, row_elected, row_join}
use Rattle.e3_laws.proofs.rounds.Deliveries.Walking.{Rest}
use Rattle.e3_laws.proofs.steps.Tests.{same_self}

-- the number of a round's election
abbrev pub number_of : Scenario → List Entry → RecoveryRound → List ℕ → ℕ
number_of sc start r all = suc (greatest_heard (election sc start r all))

-- what a member reports
abbrev pub site_report : Scenario → List Entry → Txn → ℕ → SiteReport
site_report sc start t m = record { site = m; state = state_of t (log_of sc start m); attempt = last_attempt t (log_of sc start m) }

-- the election once these members have reported, besides the elector
abbrev pub numbered_election : Scenario → List Entry → RecoveryRound → List ℕ → List ℕ → Election
numbered_election sc start r all reported = record {
  call = call_of sc start r;
  group = r.members;
  heard = map (named sc start r.txn) (r.elector ∷ all);
  number = Some (number_of sc start r all);
  reports = map (site_report sc start r.txn) (r.elector ∷ reported);
}

abbrev pub number_mail : RecoveryRound → ℕ → ℕ → Packet
number_mail r n = mail r.elector (msg.Elected r.txn n)

abbrev pub report_mail : Scenario → List Entry → RecoveryRound → ℕ → ℕ → Packet
report_mail sc start r n m = mail m (msg.Report r.txn n (state_of r.txn (log_of sc start m)) (last_attempt r.txn (log_of sc start m))) r.elector

-- what the phase has added to the log of a site
abbrev pub join_of : RecoveryRound → ℕ → List ℕ → ℕ → List Record
join_of r n joined s = if has_site (r.elector ∷ joined) s then log.Join r.txn n ∷ [] else []

-- All were heard; the elector and these members have joined the number; those are still to be told of it.
pub record Joined (sc : Scenario) (start : List Entry) (r : RecoveryRound) (all : List ℕ) (h : List Entry) (own : ℕ) (done todo : List ℕ) : Type 0 where
  pub queue : List Packet
  pub is_queue : IsQueue sc h queue
  pub unnumbered_queue : map unnumbered queue ≡ map (number_mail r (number_of sc start r all)) todo ++ map (report_mail sc start r (number_of sc start r all)) done
  pub logs : (s : ℕ) → log_of sc h s ≡ log_of sc start s ++ join_of r (number_of sc start r all) done s
  pub gathered : (elections_of r.elector r.txn (life_at (moves_of sc h r.elector))).now ≡ Some (numbered_election sc start r all [])
  pub grouped : group_at sc h r.elector r.txn ≡ r.members
  pub entered : Entered start h r own []

-- with the last answer the phase begins
pub joined_begins : (sc : Scenario) (start : List Entry) (r : RecoveryRound) (h more : List Entry) (own : ℕ) (done : List ℕ) (m s : ℕ) (ss : List ℕ) →
    has_site r.members m ≡ true → has_site r.members r.elector ≡ true → (m == r.elector) ≡ false → has_site (r.elector ∷ done) m ≡ false →
    all_heard (election sc start r (done ++ m ∷ [])) ≡ true → nat_lt (greatest_heard (election sc start r (done ++ m ∷ []))) 4294967295 ≡ true →
    nat_le (last_elected r.txn (log_of sc start r.elector)) (greatest_heard (election sc start r (done ++ m ∷ []))) ≡ true →
    others r.elector r.members ≡ s ∷ ss →
    Rest sc r.members h more → Heard sc start r h own done (m ∷ []) →
    (e : Entry) × (later : List Entry) × (more ≡ e ∷ later) × Rest sc r.members (h ++ e ∷ []) later
    × Joined sc start r (done ++ m ∷ []) (h ++ e ∷ []) (suc own) [] (others r.elector r.members)
joined_begins sc start r h more own done m s ss member leads away fresh heard_all low above several rest was =
    (e, d.later, d.is, d.on, now)
  where
    t : Txn
    t = r.txn

    q : Packet
    q = answer sc start r m

    all : List ℕ
    all = done ++ m ∷ []

    n : ℕ
    n = number_of sc start r all

    d : Delivery sc r.members h more q []
    d = deliver sc r.members h more was.queue q [] rest was.is_queue was.unnumbered_queue leads

    e : Entry
    e = entry_of sc h r.elector (input.Deliver d.p)

    life : Life
    life = life_at (moves_of sc h r.elector)

    log_is : life.log ≡ log_of sc start r.elector
    log_is = life_log_at (moves_of sc h r.elector) ∙ was.logs r.elector

    hear_is : hear (election sc start r done) m (call_of sc start r) (last_elected t (log_of sc start m)) ≡ Some (election sc start r all)
    hear_is = hears sc start r done m member fresh

    makes_now : Made
    makes_now = makes (log.Join t n ∷ []) (map (number_mail r n) (others r.elector r.members))

    step : step_at (taking sc h q) ≡ makes_now
    step = row_join (taking sc h q) m t (call_of sc start r) (last_elected t (log_of sc start m)) (election sc start r done) (election sc start r all) s ss
        (record { packet = q; is = refl; sender = refl; says = refl; away = away }) was.gathered hear_is heard_all low
        (ap (λ l. nat_le (last_elected t l) (greatest_heard (election sc start r all))) log_is ∙ above) several

    made : made_by sc h r.elector (input.Deliver d.p) ≡ makes_now
    made = d.made ∙ step

    within : are_within (parts_of sc h) makes_now.outs ≡ true
    within = within_all (parts_of sc h) r.elector (msg.Elected t n) r.members (λ x has. rest.together r.elector x leads has)

    after : List Record → Packet → Type 0
    after l x =
        (election_by r.elector life.inc t (elections_of r.elector t life)
        (record { before = l; input = input.Deliver x; records = log.Join t n ∷ []; outs = map unnumbered makes_now.outs; told = [] })).now ≡ Some (numbered_election sc start r all [])

    joins : after (log_of sc start r.elector) q
    joins = rw (was.gathered, same_self t, hear_is, heard_all, same_self t) refl

    now : Joined sc start r all (h ++ e ∷ []) (suc own) [] (others r.elector r.members)
    now = let shifted = d.shifts makes_now step within in record {
      queue = shifted.0;
      is_queue = shifted.1;
      unnumbered_queue = shifted.2 ∙ unnumbered_mails r.elector (msg.Elected t n) (others r.elector r.members) ∙ sym (append-nil (map (number_mail r n) (others r.elector r.members)));
      logs = λ x. log_now x (r.elector == x) refl;
      gathered =
          ap (λ (l : Life). (elections_of r.elector t l).now) (life_on sc h r.elector (input.Deliver d.p))
          ∙ ap (λ (x : Made). (elections_of r.elector t (life_with life (input.Deliver d.p) x)).now) made
          ∙ ap (λ (x : Elections). x.now) (elections_on r.elector t life (input.Deliver d.p) makes_now)
          ∙ subst (after life.log) (sym d.same) (subst (λ l. after l q) (sym log_is) joins);
      grouped = group_on sc h r.elector r.elector t d.p ∙ was.grouped;
      entered = entered_next sc start h more q [] r own [] makes_now d was.entered member (same_self t) step refl;
    }
      where
        log_now : (x : ℕ) (b : Bool) → (r.elector == x) ≡ b → log_of sc (h ++ e ∷ []) x ≡ log_of sc start x ++ join_of r n [] x
        log_now x false other = log_still sc h r.elector x (input.Deliver d.p) other ∙ was.logs x ∙ sym (append-nil (log_of sc start x)) ∙ rw other refl
        log_now x true is =
            subst (λ u. log_of sc (h ++ e ∷ []) u ≡ log_of sc start u ++ join_of r n [] u) (eqb-true r.elector x is)
            (log_on sc h r.elector (input.Deliver d.p) ∙ ap (λ (x : Made). log_of sc h r.elector ++ x.records) made ∙ ap (λ l. l ++ log.Join t n ∷ []) (was.logs r.elector) ∙ rw (self r.elector) refl)

-- a member is told the number: it joins, and reports
pub joined_on : (sc : Scenario) (start : List Entry) (r : RecoveryRound) (all : List ℕ) (h more : List Entry) (own : ℕ) (done todo : List ℕ) (m : ℕ) →
    has_site r.members m ≡ true → has_site r.members r.elector ≡ true → (r.elector == m) ≡ false → (m == r.elector) ≡ false → has_site (r.elector ∷ done) m ≡ false →
    nat_lt (last_elected r.txn (log_of sc start m)) (number_of sc start r all) ≡ true →
    Rest sc r.members h more → Joined sc start r all h own done (m ∷ todo) →
    (e : Entry) × (later : List Entry) × (more ≡ e ∷ later) × Rest sc r.members (h ++ e ∷ []) later × Joined sc start r all (h ++ e ∷ []) (suc own) (done ++ m ∷ []) todo
joined_on sc start r all h more own done todo m member leads from_other to_other fresh below rest was =
    (e, d.later, d.is, d.on, now)
  where
    t : Txn
    t = r.txn

    n : ℕ
    n = number_of sc start r all

    q : Packet
    q = number_mail r n m

    left : List Packet
    left = map (number_mail r n) todo ++ map (report_mail sc start r n) done

    d : Delivery sc r.members h more q left
    d = deliver sc r.members h more was.queue q left rest was.is_queue was.unnumbered_queue member

    e : Entry
    e = entry_of sc h m (input.Deliver d.p)

    log_same : log_of sc h m ≡ log_of sc start m
    log_same = was.logs m ∙ (let none : log_of sc start m ++ join_of r n done m ≡ log_of sc start m ++ [] = rw fresh refl in none) ∙ append-nil (log_of sc start m)

    log_is : (taking sc h q).life.log ≡ log_of sc start m
    log_is = life_log_at (moves_of sc h m) ∙ log_same

    makes_now : Made
    makes_now = makes (log.Join t n ∷ []) (report_mail sc start r n m ∷ [])

    step : step_at (taking sc h q) ≡ makes_now
    step =
        row_elected (taking sc h q) r.elector t n (record { packet = q; is = refl; sender = refl; says = refl; away = from_other }) (ap (λ l. nat_lt (last_elected t l) n) log_is ∙ below)
        ∙ ap (λ l. makes (log.Join t n ∷ []) (mail m (msg.Report t n (state_of t l) (last_attempt t l)) r.elector ∷ [])) log_is

    made : made_by sc h m (input.Deliver d.p) ≡ makes_now
    made = d.made ∙ step

    within : are_within (parts_of sc h) makes_now.outs ≡ true
    within = let one : same_part (parts_of sc h) m r.elector ≡ true = rest.together m r.elector member leads in rw one refl

    now : Joined sc start r all (h ++ e ∷ []) (suc own) (done ++ m ∷ []) todo
    now = let shifted = d.shifts makes_now step within in record {
      queue = shifted.0;
      is_queue = shifted.1;
      unnumbered_queue =
          shifted.2 ∙ append_assoc (map (number_mail r n) todo) (map (report_mail sc start r n) done) (report_mail sc start r n m ∷ [])
          ∙ ap (λ l. map (number_mail r n) todo ++ l) (sym (map-append (report_mail sc start r n) done (m ∷ [])));
      logs = λ x. log_now x (m == x) refl;
      gathered = ap (λ l. (elections_of r.elector t (life_at l)).now) (moves_still sc h m r.elector (input.Deliver d.p) to_other) ∙ was.gathered;
      grouped = group_on sc h r.elector m t d.p ∙ was.grouped;
      entered = entered_next sc start h more q left r own [] makes_now d was.entered leads (same_self t) step refl;
    }
      where
        or_false : (b : Bool) → (b || false) ≡ b
        or_false true = refl
        or_false false = refl

        or_true : (b : Bool) → (b || true) ≡ true
        or_true true = refl
        or_true false = refl

        same_sites : (x : ℕ) → (m == x) ≡ false → has_site (r.elector ∷ (done ++ m ∷ [])) x ≡ has_site (r.elector ∷ done) x
        same_sites x other = list_any-append (λ y. y == x) (r.elector ∷ done) (m ∷ []) ∙ rw other (or_false (has_site (r.elector ∷ done) x))

        its_site : has_site (r.elector ∷ (done ++ m ∷ [])) m ≡ true
        its_site = list_any-append (λ y. y == m) (r.elector ∷ done) (m ∷ []) ∙ rw (self m) (or_true (has_site (r.elector ∷ done) m))

        log_now : (x : ℕ) (b : Bool) → (m == x) ≡ b → log_of sc (h ++ e ∷ []) x ≡ log_of sc start x ++ join_of r n (done ++ m ∷ []) x
        log_now x false other =
            log_still sc h m x (input.Deliver d.p) other ∙ was.logs x
            ∙ ap (λ b. log_of sc start x ++ (if b then log.Join t n ∷ [] else [])) (sym (same_sites x other))
        log_now x true is =
            subst (λ u. log_of sc (h ++ e ∷ []) u ≡ log_of sc start u ++ join_of r n (done ++ m ∷ []) u) (eqb-true m x is)
            (log_on sc h m (input.Deliver d.p) ∙ ap (λ (x : Made). log_of sc h m ++ x.records) made ∙ ap (λ l. l ++ log.Join t n ∷ []) log_same
            ∙ ap (λ b. log_of sc start m ++ (if b then log.Join t n ∷ [] else [])) (sym its_site))
