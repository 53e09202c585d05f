-- The phase of acknowledgements: the elector counts them until they make a quorum; then it decides.
use Rattle.std.proofs.Common.{◌≡◌, ◌==◌, ◌&&◌, ℕ, suc, Bool, true, false, List, [], ◌∷◌, ◌++◌, append-nil, Some, None, ◌∙◌, ap, sym, subst, refl, map, eqb-true}
use Rattle.std.specs.List.{list_all}
use Rattle.std.proofs.lemmas.Bool.{and_parts}
use Rattle.std.proofs.lemmas.List.Elements.{filter-append}
use Rattle.std.proofs.lemmas.List.{map-append}
use Rattle.e3_types.specs.declared.entries.Entry.{Entry}
use Rattle.e3_types.specs.declared.entries.Input.TheVariants as input
use Rattle.e3_types.specs.declared.messages.Message.TheVariants as msg
use Rattle.e3_types.specs.declared.messages.Packet.{Packet}
use Rattle.e3_types.specs.declared.records.Record.{Record}
use Rattle.e3_types.specs.declared.records.Record.TheVariants as log
use Rattle.e3_types.specs.declared.scenarios.Scenario.{Scenario}
use Rattle.e3_types.specs.declared.transactions.Dir.{Dir}
use Rattle.e3_types.specs.declared.transactions.Dir.TheVariants.{Abort, Commit}
use Rattle.e3_types.specs.declared.transactions.Txn.{Txn}
use Rattle.e3_types.specs.Quorums.{is_quorum}
use Rattle.e3_types.specs.Same.{same_dir}
use Rattle.e3_types.specs.Sets.{has_site, others}
use Rattle.e3_world.specs.Gatherings.{Round, Rounds}
use Rattle.e3_world.specs.declared.lives.At.{At}
use Rattle.e3_world.specs.declared.lives.Life.{Life}
use Rattle.e3_world.specs.declared.lives.Made.{Made}
use Rattle.e3_world.specs.Fate.{same_part}
use Rattle.e3_world.specs.Items.{RecoveryRound}
use Rattle.e3_world.specs.Legal.{entry_of, made_by, numbered}
use Rattle.e3_world.specs.Lives.{life_at}
use Rattle.e3_world.specs.Logs.{is_undecided}
use Rattle.e3_world.specs.Making.{nothing, and_decide, is_coordinator, is_present, may_decide}
use Rattle.e3_world.specs.Moves.{log_of, moves_of, unnumbered}
use Rattle.e3_world.specs.Packets.{parts_of}
use Rattle.e3_world.specs.Rounds.{count_ack, round_by}
use Rattle.e3_world.specs.Steps.{step_at}
use Rattle.e3_world.proofs.Turns.{self}
use Rattle.e3_laws.specs.rounds.Queues.{IsQueue, are_within}
use Rattle.e3_laws.specs.rounds.Rounds.{ToldVerdict, is_own, verdicts_told}
use Rattle.e3_laws.proofs.rounds.Phases.Asked.{unnumbered_mails, within_all}
use Rattle.e3_laws.proofs.rounds.Phases.Decided.{decide_mail, decides_now, late_unnumbered, late_staying}
use Rattle.e3_laws.proofs.steps.Deciding.{AddsAnswers}
use Rattle.e3_laws.proofs.rounds.Deliveries.Delivering.{Delivery, Entered, deliver, entered_next, entered_on, taking}
use Rattle.e3_laws.proofs.rounds.Deliveries.Gathering.{life_on, life_with, rounds_of, rounds_on}
use Rattle.e3_laws.proofs.steps.Moving.{log_on, log_still}
use Rattle.e3_laws.proofs.rounds.Deliveries.Queue.{staying}
use Rattle.e3_laws.proofs.rounds.Phases.Rows.{mail, row_ack}
use Rattle.e3_laws.proofs.rounds.Tail.{is_late, late_answers, no_verdict, no_verdicts, none_said, quiet_decide}
use Rattle.e3_laws.proofs.rounds.Deliveries.Walking.{Rest}
use Rattle.e3_laws.proofs.rounds.Phases.Winning.{decision_made, row_win}
use Rattle.e3_laws.proofs.steps.Tests.{same_self}
use Rattle.e3_laws.proofs.steps.Lists.{both_all}

abbrev pub ack_mail : RecoveryRound → ℕ → Dir → ℕ → Packet
ack_mail r n dir m = mail m (msg.Ack r.txn n dir) r.elector

-- the round in which these members have acknowledged
abbrev pub round_with : RecoveryRound → ℕ → Dir → List ℕ → Round
round_with r n dir done = record { n = n; dir = dir; to = others r.elector r.members; acked = done }

-- All members have attempted; these have acknowledged, and are no quorum with the elector; the other acknowledgements are pending.
pub record Acknowledged (sc : Scenario) (start : List Entry) (r : RecoveryRound) (base : List Entry) (n : ℕ) (dir : Dir) (h : List Entry) (own : ℕ) (said : List ToldVerdict) (done todo : List ℕ) : Type 0 where
  pub queue : List Packet
  pub is_queue : IsQueue sc h queue
  pub unnumbered_queue : map unnumbered queue ≡ map (ack_mail r n dir) todo
  pub logs : (s : ℕ) → log_of sc h s ≡ log_of sc base s
  pub round : (rounds_of r.elector r.txn (life_at (moves_of sc h r.elector))).now ≡ Some (round_with r n dir done)
  pub entered : Entered start h r own said

same_dir_self : (d : Dir) → same_dir d d ≡ true
same_dir_self Abort = refl
same_dir_self Commit = refl

counts : (r : RecoveryRound) (n : ℕ) (dir : Dir) (done : List ℕ) (m : ℕ) → has_site (others r.elector r.members) m ≡ true → has_site done m ≡ false →
    count_ack (round_with r n dir done) m n dir ≡ round_with r n dir (done ++ m ∷ [])
counts r n dir done m member fresh = rw (self n, same_dir_self dir, member, fresh) refl

-- an acknowledgement that makes no quorum yet
pub acknowledged_on : (sc : Scenario) (start : List Entry) (r : RecoveryRound) (base : List Entry) (n : ℕ) (dir : Dir) (h more : List Entry) (own : ℕ) (said : List ToldVerdict) (done todo : List ℕ) (m : ℕ) →
    has_site r.members m ≡ true → has_site r.members r.elector ≡ true → (m == r.elector) ≡ false → has_site (others r.elector r.members) m ≡ true → has_site done m ≡ false →
    is_quorum sc.weights (r.elector ∷ (done ++ m ∷ [])) r.txn.sites ≡ false →
    Rest sc r.members h more → Acknowledged sc start r base n dir h own said done (m ∷ todo) →
    (e : Entry) × (later : List Entry) × (more ≡ e ∷ later) × Rest sc r.members (h ++ e ∷ []) later × Acknowledged sc start r base n dir (h ++ e ∷ []) (suc own) said (done ++ m ∷ []) todo
acknowledged_on sc start r base n dir h more own said done todo m member leads away receives fresh few rest was =
    (e, d.later, d.is, d.on, now)
  where
    t : Txn
    t = r.txn

    q : Packet
    q = ack_mail r n dir m

    d : Delivery sc r.members h more q (map (ack_mail r n dir) todo)
    d = deliver sc r.members h more was.queue q (map (ack_mail r n dir) todo) rest was.is_queue was.unnumbered_queue leads

    e : Entry
    e = entry_of sc h r.elector (input.Deliver d.p)

    life : Life
    life = life_at (moves_of sc h r.elector)

    count_is : count_ack (round_with r n dir done) m n dir ≡ round_with r n dir (done ++ m ∷ [])
    count_is = counts r n dir done m receives fresh

    step : step_at (taking sc h q) ≡ nothing
    step = row_ack (taking sc h q) m t n dir (round_with r n dir done) (record { packet = q; is = refl; sender = refl; says = refl; away = away }) was.round
        (ap (λ (x : Round). is_quorum sc.weights (r.elector ∷ x.acked) t.sites) count_is ∙ few)

    made : made_by sc h r.elector (input.Deliver d.p) ≡ nothing
    made = d.made ∙ step

    after : Packet → Type 0
    after x = (round_by r.elector t (rounds_of r.elector t life) (record { before = life.log; input = input.Deliver x; records = []; outs = []; told = [] })).now ≡ Some (round_with r n dir (done ++ m ∷ []))

    counted : after q
    counted = rw (was.round, same_self t) (ap (λ (x : Round). Some x) count_is)

    now : Acknowledged sc start r base n dir (h ++ e ∷ []) (suc own) said (done ++ m ∷ []) todo
    now = let shifted = d.shifts nothing step refl in record {
      queue = shifted.0;
      is_queue = shifted.1;
      unnumbered_queue = shifted.2 ∙ append-nil (map (ack_mail r n dir) todo);
      logs = λ s. log_now s (r.elector == s) refl;
      round =
          ap (λ (l : Life). (rounds_of r.elector t l).now) (life_on sc h r.elector (input.Deliver d.p))
          ∙ ap (λ (x : Made). (rounds_of r.elector t (life_with life (input.Deliver d.p) x)).now) made
          ∙ ap (λ (x : Rounds). x.now) (rounds_on r.elector t life (input.Deliver d.p) nothing)
          ∙ subst after (sym d.same) counted;
      entered = entered_next sc start h more q (map (ack_mail r n dir) todo) r own said nothing d was.entered member (same_self t) step refl;
    }
      where
        log_now : (s : ℕ) (b : Bool) → (r.elector == s) ≡ b → log_of sc (h ++ e ∷ []) s ≡ log_of sc base s
        log_now s false other = log_still sc h r.elector s (input.Deliver d.p) other ∙ was.logs s
        log_now s true is =
            subst (λ u. log_of sc (h ++ e ∷ []) u ≡ log_of sc base u) (eqb-true r.elector s is)
            (log_on sc h r.elector (input.Deliver d.p) ∙ ap (λ (x : Made). log_of sc h r.elector ++ x.records) made ∙ append-nil (log_of sc h r.elector) ∙ was.logs r.elector)

-- The elector has decided; acknowledgements are left, behind them its decision to the others, and behind that late packets.
pub record Won (sc : Scenario) (start : List Entry) (r : RecoveryRound) (base : List Entry) (n : ℕ) (dir : Dir) (h : List Entry) (own : ℕ) (said : List ToldVerdict) (todo : List ℕ) : Type 0 where
  pub queue : List Packet
  pub is_queue : IsQueue sc h queue
  pub lates : List Packet
  pub unnumbered_queue : map unnumbered queue ≡ map (ack_mail r n dir) todo ++ (map (decide_mail r dir) (others r.elector r.members) ++ lates)
  pub are_late : list_all (is_late r) lates ≡ true
  pub logs : (s : ℕ) → (r.elector == s) ≡ false → log_of sc h s ≡ log_of sc base s
  pub decided : is_undecided r.txn (log_of sc h r.elector) ≡ false
  pub round : (rounds_of r.elector r.txn (life_at (moves_of sc h r.elector))).now ≡ None
  pub entered : Entered start h r own said

decide_parts : (a : At) (t : Txn) (dir : Dir) → ((and_decide a t dir nothing).records ≡ log.Decision t dir ∷ []) × ((and_decide a t dir nothing).outs ≡ [])
decide_parts a t dir = by (is_coordinator a t && is_present a t) refl
  where
    by : (b : Bool) → (is_coordinator a t && is_present a t) ≡ b → ((and_decide a t dir nothing).records ≡ log.Decision t dir ∷ []) × ((and_decide a t dir nothing).outs ≡ [])
    by true is = (rw is refl, rw is refl)
    by false is = (rw is refl, rw is refl)

-- what stays within parts is all there
pub all_stay : (parts : List (List ℕ)) (ps : List Packet) → are_within parts ps ≡ true → staying parts ps ≡ ps
all_stay parts [] all = refl
all_stay parts (p ∷ ps) all =
    let both = and_parts (same_part parts p.«from» p.to) (are_within parts ps) all in
    rw both.0 (ap (λ l. p ∷ l) (all_stay parts ps both.1))

pub others_again : (s : ℕ) (xs : List ℕ) → others s (others s xs) ≡ others s xs
others_again s [] = refl
others_again s (x ∷ xs) = by (others_again s xs) (x == s) refl
  where
    by : others s (others s xs) ≡ others s xs → (b : Bool) → (x == s) ≡ b → others s (others s (x ∷ xs)) ≡ others s (x ∷ xs)
    by rest true is = rw is rest
    by rest false is = rw (is, is) (ap (λ l. x ∷ l) rest)

-- the acknowledgement that makes the quorum
pub won_begins : (sc : Scenario) (start : List Entry) (r : RecoveryRound) (base : List Entry) (n : ℕ) (dir : Dir) (h more : List Entry) (own : ℕ) (said : List ToldVerdict) (done todo : List ℕ) (m : ℕ) →
    has_site r.members m ≡ true → has_site r.members r.elector ≡ true → (m == r.elector) ≡ false → has_site (others r.elector r.members) m ≡ true → has_site done m ≡ false →
    is_quorum sc.weights (r.elector ∷ (done ++ m ∷ [])) r.txn.sites ≡ true →
    may_decide (taking sc h (ack_mail r n dir m)) r.txn dir nothing ≡ true →
    Rest sc r.members h more → Acknowledged sc start r base n dir h own said done (m ∷ todo) →
    (e : Entry) × (later : List Entry) × (more ≡ e ∷ later) × Rest sc r.members (h ++ e ∷ []) later × Won sc start r base n dir (h ++ e ∷ []) (suc own) said todo
won_begins sc start r base n dir h more own said done todo m member leads away receives fresh enough may rest was =
    (e, d.later, d.is, d.on, now)
  where
    t : Txn
    t = r.txn

    q : Packet
    q = ack_mail r n dir m

    d : Delivery sc r.members h more q (map (ack_mail r n dir) todo)
    d = deliver sc r.members h more was.queue q (map (ack_mail r n dir) todo) rest was.is_queue was.unnumbered_queue leads

    e : Entry
    e = entry_of sc h r.elector (input.Deliver d.p)

    life : Life
    life = life_at (moves_of sc h r.elector)

    a : At
    a = taking sc h q

    mails : List Packet
    mails = map (decide_mail r dir) (others r.elector r.members)

    count_is : count_ack (round_with r n dir done) m n dir ≡ round_with r n dir (done ++ m ∷ [])
    count_is = counts r n dir done m receives fresh

    follows : AddsAnswers a (decision_made a t dir (others r.elector r.members)) (step_at a)
    follows =
        let same : count_ack (round_with r n dir done) m n dir ≡ round_with r n dir (done ++ m ∷ []) = count_is in
        let P : Round → Type 0 = λ (x : Round). AddsAnswers a (decision_made a t dir x.to) (step_at a) in
        subst P same (row_win a m t n dir (round_with r n dir done) (record { packet = q; is = refl; sender = refl; says = refl; away = away }) was.round
        (ap (λ (x : Round). x.n == n) same ∙ self n) (ap (λ (x : Round). same_dir x.dir dir) same ∙ same_dir_self dir) may
        (ap (λ (x : Round). is_quorum sc.weights (r.elector ∷ x.acked) t.sites) same ∙ enough))

    outs_are : (step_at a).outs ≡ mails ++ follows.dones
    outs_are =
        follows.outs
        ∙ ap (λ l. (l ++ map (decide_mail r dir) (others r.elector (others r.elector r.members))) ++ follows.dones) (decide_parts a t dir).1
        ∙ ap (λ l. map (decide_mail r dir) l ++ follows.dones) (others_again r.elector r.members)

    lates : List Packet
    lates = staying (parts_of sc h) (map unnumbered follows.dones)

    mails_stay : staying (parts_of sc h) mails ≡ mails
    mails_stay = all_stay (parts_of sc h) mails (within_all (parts_of sc h) r.elector (msg.Decide t dir) r.members (λ x has. rest.together r.elector x leads has))

    sent_are : staying (parts_of sc h) (map unnumbered (step_at a).outs) ≡ mails ++ lates
    sent_are =
        ap (λ l. staying (parts_of sc h) (map unnumbered l)) outs_are
        ∙ ap (staying (parts_of sc h)) (map-append unnumbered mails follows.dones)
        ∙ filter-append (λ p. same_part (parts_of sc h) p.«from» p.to) (map unnumbered mails) (map unnumbered follows.dones)
        ∙ ap (λ l. staying (parts_of sc h) l ++ lates) (unnumbered_mails r.elector (msg.Decide t dir) (others r.elector r.members))
        ∙ ap (λ l. l ++ lates) mails_stay

    records_are : (step_at a).records ≡ log.Decision t dir ∷ []
    records_are = follows.records ∙ (decide_parts a t dir).0

    After : Packet → List Record → Type 0
    After x rs = (round_by r.elector t (rounds_of r.elector t life) (record { before = life.log; input = input.Deliver x; records = rs; outs = map unnumbered (step_at a).outs; told = (step_at a).told })).now ≡ None

    ended : After q (log.Decision t dir ∷ [])
    ended = rw (was.round, same_self t) refl

    says_none : list_all no_verdict (made_by sc h r.elector (input.Deliver d.p)).told ≡ true
    says_none =
        ap (λ (x : Made). list_all no_verdict x.told) d.made ∙ ap (list_all no_verdict) follows.told
        ∙ both_all no_verdict (and_decide a t dir nothing).told follows.ops (quiet_decide r a t dir).says (no_verdicts follows.ops follows.tell_answers)

    mine : is_own r e ≡ true
    mine =
        let says : d.p.msg ≡ msg.Ack t n dir = ap (λ (x : Packet). x.msg) d.same in
        let sent_by : has_site r.members d.p.«from» ≡ true = ap (λ (x : Packet). has_site r.members x.«from») d.same ∙ member in
        rw (sent_by, says, same_self t) refl

    silent : verdicts_told t (e ∷ []) ≡ []
    silent = rw (none_said t r.elector (input.Deliver d.p) (made_by sc h r.elector (input.Deliver d.p)).records (numbered _ (made_by sc h r.elector (input.Deliver d.p)).outs) (made_by sc h r.elector (input.Deliver d.p)).told says_none) refl

    now : Won sc start r base n dir (h ++ e ∷ []) (suc own) said todo
    now = record {
      queue = d.shifts_any.0;
      is_queue = d.shifts_any.1;
      lates = lates;
      unnumbered_queue = d.shifts_any.2 ∙ ap (λ l. map (ack_mail r n dir) todo ++ l) sent_are;
      are_late = late_staying r (parts_of sc h) (map unnumbered follows.dones) (late_unnumbered r follows.dones ∙ late_answers r r.elector follows.dones follows.are_answers);
      logs = λ s other. log_still sc h r.elector s (input.Deliver d.p) other ∙ was.logs s;
      decided =
          ap (is_undecided t) (log_on sc h r.elector (input.Deliver d.p) ∙ ap (λ (x : Made). log_of sc h r.elector ++ x.records) d.made ∙ ap (λ rs. log_of sc h r.elector ++ rs) records_are)
          ∙ decides_now t (log_of sc h r.elector) dir;
      round =
          ap (λ (l : Life). (rounds_of r.elector t l).now) (life_on sc h r.elector (input.Deliver d.p))
          ∙ ap (λ (x : Made). (rounds_of r.elector t (life_with life (input.Deliver d.p) x)).now) d.made
          ∙ ap (λ (x : Rounds). x.now) (rounds_on r.elector t life (input.Deliver d.p) (step_at a))
          ∙ subst (λ x. After x (step_at a).records) (sym d.same) (subst (After q) (sym records_are) ended);
      entered = entered_on start h r own said e was.entered mine silent;
    }
