-- The last phase of a round: the elector's decision is delivered to the members, one after the other; behind it come answers to
-- operations that the decisions free, some of them to other parts.
use Rattle.std.proofs.Common.{◌≡◌, ◌==◌, ◌&&◌, ◌||◌, ◌⊎◌, inl, inr, ℕ, suc, Bool, true, false, List, [], ◌∷◌, ◌++◌, append-nil, append_assoc, None, is_none, ◌∙◌, ap, sym, subst, refl, map, eqb-true}
use Rattle.std.specs.List.{list_all}
use Rattle.std.proofs.lemmas.Bool.{and_parts}
use Rattle.std.proofs.lemmas.Grind.{fold-append}
use Rattle.std.proofs.lemmas.List.Folds.{list_any-append}
use Rattle.e3_types.specs.declared.entries.Entry.{Entry}
use Rattle.e3_types.specs.declared.entries.Input.TheVariants as input
use Rattle.e3_types.specs.declared.messages.Message.TheVariants as msg
use Rattle.e3_types.specs.declared.messages.Packet.{Packet}
use Rattle.e3_types.specs.declared.records.Record.{Record}
use Rattle.e3_types.specs.declared.records.Record.TheVariants as log
use Rattle.e3_types.specs.declared.scenarios.Scenario.{Scenario}
use Rattle.e3_types.specs.declared.transactions.Dir.{Dir}
use Rattle.e3_types.specs.declared.transactions.Dir.TheVariants.{Abort, Commit}
use Rattle.e3_types.specs.declared.transactions.Txn.{Txn}
use Rattle.e3_types.specs.Sets.{has_site}
use Rattle.e3_world.specs.declared.lives.At.{At}
use Rattle.e3_world.specs.declared.lives.Made.{Made}
use Rattle.e3_world.specs.Fate.{same_part}
use Rattle.e3_world.specs.Items.{RecoveryRound}
use Rattle.e3_world.specs.Legal.{entry_of, made_by, numbered}
use Rattle.e3_world.specs.Logs.{decision_by, has_voted, is_undecided}
use Rattle.e3_world.specs.Making.{nothing, and_decide, is_coordinator, is_present, may_decide}
use Rattle.e3_world.specs.Messages.{on_message}
use Rattle.e3_world.specs.Moves.{log_of, moves_of, unnumbered}
use Rattle.e3_world.specs.Packets.{parts_of}
use Rattle.e3_world.specs.Steps.{step_at}
use Rattle.e3_world.proofs.Pushes.{life_log_at}
use Rattle.e3_world.proofs.Turns.{self}
use Rattle.e3_laws.specs.rounds.Queues.{IsQueue}
use Rattle.e3_laws.specs.rounds.Rounds.{ToldVerdict, is_own, verdicts_told}
use Rattle.e3_laws.proofs.steps.Deciding.{AddsAnswers, step_adds_answers}
use Rattle.e3_laws.proofs.rounds.Deliveries.Delivering.{Delivery, Entered, deliver, entered_on, taking}
use Rattle.e3_laws.proofs.steps.Moving.{log_on, log_still}
use Rattle.e3_laws.proofs.rounds.Deliveries.Queue.{queue_is_pending, staying}
use Rattle.e3_laws.proofs.rounds.Phases.Rows.{mail}
use Rattle.e3_laws.proofs.rounds.Tail.{Quiet, Tail, is_late, late_answers, no_verdict, no_verdicts, none_said, quiet_choice, quiet_decide, quiet_nothing}
use Rattle.e3_laws.proofs.rounds.Deliveries.Walking.{Rest}
use Rattle.e3_laws.proofs.steps.Tests.{same_self}
use Rattle.e3_laws.proofs.steps.Lists.{both_all}

abbrev pub decide_mail : RecoveryRound → Dir → ℕ → Packet
decide_mail r dir = mail r.elector (msg.Decide r.txn dir)

-- a log fits a decision: a commit needs the vote
abbrev pub fits : Txn → Dir → List Record → Bool
fits t Abort l = true
fits t Commit l = has_voted t l

-- The elector and these members have decided; to those the decision is on its way, and behind it are late packets.
pub record Decided (sc : Scenario) (start : List Entry) (r : RecoveryRound) (base : List Entry) (dir : Dir) (h : List Entry) (own : ℕ) (said : List ToldVerdict) (done todo : List ℕ) : Type 0 where
  pub queue : List Packet
  pub is_queue : IsQueue sc h queue
  pub lates : List Packet
  pub unnumbered_queue : map unnumbered queue ≡ map (decide_mail r dir) todo ++ lates
  pub are_late : list_all (is_late r) lates ≡ true
  pub logs : (s : ℕ) → has_site todo s ≡ true → log_of sc h s ≡ log_of sc base s
  pub decided : (s : ℕ) → has_site (r.elector ∷ done) s ≡ true → is_undecided r.txn (log_of sc h s) ≡ false
  pub entered : Entered start h r own said

-- what a log with the decision says
pub decides_now : (t : Txn) (l : List Record) (dir : Dir) → is_undecided t (l ++ log.Decision t dir ∷ []) ≡ false
decides_now t l dir = ap is_none (fold-append (decision_by t) None l (log.Decision t dir ∷ [])) ∙ rw (same_self t) refl

decide_records : (a : At) (t : Txn) (dir : Dir) → (and_decide a t dir nothing).records ≡ log.Decision t dir ∷ []
decide_records a t dir = by (is_coordinator a t && is_present a t) refl
  where
    by : (b : Bool) → (is_coordinator a t && is_present a t) ≡ b → (and_decide a t dir nothing).records ≡ log.Decision t dir ∷ []
    by true is = rw is refl
    by false is = rw is refl

pub may_is : (a : At) (t : Txn) (dir : Dir) → may_decide a t dir nothing ≡ (is_undecided t a.life.log && fits t dir a.life.log)
may_is a t Abort = ap (is_undecided t) (append-nil a.life.log) ∙ one (is_undecided t a.life.log)
  where
    one : (b : Bool) → b ≡ (b && true)
    one true = refl
    one false = refl
may_is a t Commit = ap (λ l. is_undecided t l && has_voted t l) (append-nil a.life.log)

-- a site that takes the decision has decided then
decided_by : (a : At) (f : ℕ) (t : Txn) (dir : Dir) → (is_undecided t a.life.log ≡ false) ⊎ (fits t dir a.life.log ≡ true) →
    is_undecided t (a.life.log ++ (on_message a f (msg.Decide t dir) nothing).records) ≡ false
decided_by a f t dir either = by (may_decide a t dir nothing) refl
  where
    by : (b : Bool) → may_decide a t dir nothing ≡ b → is_undecided t (a.life.log ++ (on_message a f (msg.Decide t dir) nothing).records) ≡ false
    by true is = rw is (ap (λ rs. is_undecided t (a.life.log ++ rs)) (decide_records a t dir) ∙ decides_now t a.life.log dir)
    by false is = rw is (ap (is_undecided t) (append-nil a.life.log) ∙ already either)
      where
        none : (is_undecided t a.life.log && fits t dir a.life.log) ≡ false
        none = sym (may_is a t dir) ∙ is

        already : (is_undecided t a.life.log ≡ false) ⊎ (fits t dir a.life.log ≡ true) → is_undecided t a.life.log ≡ false
        already (inl off) = off
        already (inr fit) = choose (is_undecided t a.life.log) refl
          where
            choose : (b : Bool) → is_undecided t a.life.log ≡ b → is_undecided t a.life.log ≡ false
            choose false off = off
            choose true on = absurd (let both : (is_undecided t a.life.log && fits t dir a.life.log) ≡ true = rw (on, fit) refl in let clash : true ≡ false = sym both ∙ none in cc)

pub late_unnumbered : (r : RecoveryRound) (ps : List Packet) → list_all (is_late r) (map unnumbered ps) ≡ list_all (is_late r) ps
late_unnumbered r [] = refl
late_unnumbered r (p ∷ ps) = ap (λ b. is_late r p && b) (late_unnumbered r ps)

pub late_staying : (r : RecoveryRound) (parts : List (List ℕ)) (ps : List Packet) → list_all (is_late r) ps ≡ true → list_all (is_late r) (staying parts ps) ≡ true
late_staying r parts [] all = refl
late_staying r parts (p ∷ ps) all =
    let both = and_parts (is_late r p) (list_all (is_late r) ps) all in
    by (late_staying r parts ps both.1) both.0 (same_part parts p.«from» p.to) refl
  where
    by : list_all (is_late r) (staying parts ps) ≡ true → is_late r p ≡ true → (b : Bool) → same_part parts p.«from» p.to ≡ b →
        list_all (is_late r) (staying parts (p ∷ ps)) ≡ true
    by rest here true is = rw (is, here) rest
    by rest here false is = rw is rest

-- a member takes the decision
pub decided_on : (sc : Scenario) (start : List Entry) (r : RecoveryRound) (base : List Entry) (dir : Dir) (h more : List Entry) (own : ℕ) (said : List ToldVerdict) (done todo : List ℕ) (m : ℕ) →
    has_site r.members m ≡ true → has_site r.members r.elector ≡ true → (r.elector == m) ≡ false → has_site todo m ≡ false →
    (is_undecided r.txn (log_of sc base m) ≡ false) ⊎ (fits r.txn dir (log_of sc base m) ≡ true) →
    Rest sc r.members h more → Decided sc start r base dir h own said done (m ∷ todo) →
    (e : Entry) × (later : List Entry) × (more ≡ e ∷ later) × Rest sc r.members (h ++ e ∷ []) later × Decided sc start r base dir (h ++ e ∷ []) (suc own) said (done ++ m ∷ []) todo
decided_on sc start r base dir h more own said done todo m member leads other_site apart either rest was =
    (e, d.later, d.is, d.on, now)
  where
    t : Txn
    t = r.txn

    q : Packet
    q = decide_mail r dir m

    left : List Packet
    left = map (decide_mail r dir) todo ++ was.lates

    d : Delivery sc r.members h more q left
    d = deliver sc r.members h more was.queue q left rest was.is_queue was.unnumbered_queue member

    e : Entry
    e = entry_of sc h m (input.Deliver d.p)

    a : At
    a = taking sc h q

    first : Made
    first = on_message a r.elector (msg.Decide t dir) nothing

    quiet : Quiet r first
    quiet = quiet_choice r (may_decide a t dir nothing) _ nothing (quiet_decide r a t dir) (quiet_nothing r)

    follows : AddsAnswers a first (step_at a)
    follows = step_adds_answers a first refl quiet.own

    log_is : a.life.log ≡ log_of sc base m
    log_is = life_log_at (moves_of sc h m) ∙ was.logs m (rw (self m) refl)

    outs_late : list_all (is_late r) (step_at a).outs ≡ true
    outs_late = ap (list_all (is_late r)) follows.outs ∙ both_all (is_late r) first.outs follows.dones quiet.outs (late_answers r m follows.dones follows.are_answers)

    says_none : list_all no_verdict (made_by sc h m (input.Deliver d.p)).told ≡ true
    says_none = ap (λ (x : Made). list_all no_verdict x.told) d.made ∙ ap (list_all no_verdict) follows.told ∙ both_all no_verdict first.told follows.ops quiet.says (no_verdicts follows.ops follows.tell_answers)

    either_now : (is_undecided t a.life.log ≡ false) ⊎ (fits t dir a.life.log ≡ true)
    either_now = subst (λ l. (is_undecided t l ≡ false) ⊎ (fits t dir l ≡ true)) (sym log_is) either

    decides : is_undecided t (log_of sc (h ++ e ∷ []) m) ≡ false
    decides =
        ap (is_undecided t) (log_on sc h m (input.Deliver d.p) ∙ ap (λ (x : Made). log_of sc h m ++ x.records) d.made ∙ ap (λ rs. log_of sc h m ++ rs) follows.records
        ∙ ap (λ l. l ++ first.records) (sym (life_log_at (moves_of sc h m))))
        ∙ decided_by a r.elector t dir either_now

    now : Decided sc start r base dir (h ++ e ∷ []) (suc own) said (done ++ m ∷ []) todo
    now = record {
      queue = d.shifts_any.0;
      is_queue = d.shifts_any.1;
      lates = was.lates ++ staying (parts_of sc h) (map unnumbered (step_at a).outs);
      unnumbered_queue = d.shifts_any.2 ∙ append_assoc (map (decide_mail r dir) todo) was.lates (staying (parts_of sc h) (map unnumbered (step_at a).outs));
      are_late = both_all (is_late r) was.lates (staying (parts_of sc h) (map unnumbered (step_at a).outs)) was.are_late
          (late_staying r (parts_of sc h) (map unnumbered (step_at a).outs) (late_unnumbered r (step_at a).outs ∙ outs_late));
      logs = λ s has. log_still sc h m s (input.Deliver d.p) (differs s has) ∙ was.logs s (ap (λ b. (m == s) || b) has ∙ or_true (m == s));
      decided = λ s has. decided_now s has (m == s) refl;
      entered = entered_on start h r own said e was.entered mine silent;
    }
      where
        or_true : (b : Bool) → (b || true) ≡ true
        or_true true = refl
        or_true false = refl

        or_false : (b : Bool) → (b || false) ≡ b
        or_false true = refl
        or_false false = refl

        differs : (s : ℕ) → has_site todo s ≡ true → (m == s) ≡ false
        differs s has = by (m == s) refl
          where
            by : (b : Bool) → (m == s) ≡ b → (m == s) ≡ false
            by false is = is
            by true is = absurd (let here : has_site todo m ≡ true = ap (has_site todo) (eqb-true m s is) ∙ has in let clash : true ≡ false = sym here ∙ apart in cc)

        decided_now : (s : ℕ) → has_site (r.elector ∷ (done ++ m ∷ [])) s ≡ true → (b : Bool) → (m == s) ≡ b → is_undecided t (log_of sc (h ++ e ∷ []) s) ≡ false
        decided_now s has true is = subst (λ u. is_undecided t (log_of sc (h ++ e ∷ []) u) ≡ false) (eqb-true m s is) decides
        decided_now s has false is =
            ap (is_undecided t) (log_still sc h m s (input.Deliver d.p) is)
            ∙ was.decided s (sym (list_any-append (λ y. y == s) (r.elector ∷ done) (m ∷ []) ∙ rw is (or_false (has_site (r.elector ∷ done) s))) ∙ has)

        mine : is_own r e ≡ true
        mine =
            let says : d.p.msg ≡ msg.Decide t dir = ap (λ (x : Packet). x.msg) d.same in
            let sent_by : has_site r.members d.p.«from» ≡ true = ap (λ (x : Packet). has_site r.members x.«from») d.same ∙ leads in
            rw (sent_by, says, same_self t) refl

        silent : verdicts_told t (e ∷ []) ≡ []
        silent = rw (none_said t m (input.Deliver d.p) (made_by sc h m (input.Deliver d.p)).records (numbered _ (made_by sc h m (input.Deliver d.p)).outs) (made_by sc h m (input.Deliver d.p)).told says_none) refl

-- once all have it, the tail begins
pub tail_begins : (sc : Scenario) (start : List Entry) (r : RecoveryRound) (base : List Entry) (dir : Dir) (h : List Entry) (own : ℕ) (said : List ToldVerdict) (done : List ℕ) →
    ((s : ℕ) → has_site r.members s ≡ true → has_site (r.elector ∷ done) s ≡ true) → Decided sc start r base dir h own said done [] → Tail sc r h
tail_begins sc start r base dir h own said done each was = record {
  late = ap (list_all (is_late r)) (queue_is_pending sc h was.queue was.is_queue) ∙ sym (late_unnumbered r was.queue) ∙ ap (list_all (is_late r)) was.unnumbered_queue ∙ was.are_late;
  decided = λ s member. was.decided s (each s member);
}
