-- Two phases of a round: the members are asked to attempt, one after the other; and acknowledgements come when the elector has
-- decided.
use Rattle.std.proofs.Common.{◌≡◌, ◌==◌, ◌||◌, ℕ, suc, Bool, true, false, List, [], ◌∷◌, ◌++◌, append-nil, append_assoc, Some, None, ◌∙◌, ap, sym, subst, refl, map, eqb-true, eq-eqb, if◌then◌else◌}
use Rattle.std.proofs.lemmas.Bool.{ne_eqb}
use Rattle.std.proofs.lemmas.List.{map-append}
use Rattle.std.proofs.lemmas.List.Folds.{list_any-append}
use Rattle.e3_types.specs.declared.entries.Entry.{Entry}
use Rattle.e3_types.specs.declared.entries.Input.TheVariants as input
use Rattle.e3_types.specs.declared.messages.Message.TheVariants as msg
use Rattle.e3_types.specs.declared.messages.Packet.{Packet}
use Rattle.e3_types.specs.declared.records.Record.{Record}
use Rattle.e3_types.specs.declared.records.Record.TheVariants as log
use Rattle.e3_types.specs.declared.scenarios.Scenario.{Scenario}
use Rattle.e3_types.specs.declared.transactions.Dir.{Dir}
use Rattle.e3_types.specs.declared.transactions.Txn.{Txn}
use Rattle.e3_types.specs.Sets.{has_site, others}
use Rattle.e3_world.specs.Gatherings.{Rounds}
use Rattle.e3_world.specs.declared.lives.Life.{Life}
use Rattle.e3_world.specs.declared.lives.Made.{Made}
use Rattle.e3_world.specs.Fate.{same_part}
use Rattle.e3_world.specs.Items.{RecoveryRound}
use Rattle.e3_world.specs.Legal.{entry_of, made_by}
use Rattle.e3_world.specs.Lives.{life_at}
use Rattle.e3_world.specs.Logs.{is_undecided, last_attempt, last_elected}
use Rattle.e3_world.specs.Making.{nothing}
use Rattle.e3_world.specs.Moves.{log_of, moves_of, unnumbered}
use Rattle.e3_world.specs.Packets.{parts_of}
use Rattle.e3_world.specs.Rounds.{round_by}
use Rattle.e3_world.specs.Steps.{step_at}
use Rattle.e3_world.proofs.Pushes.{life_log_at}
use Rattle.e3_world.proofs.Turns.{self}
use Rattle.e3_laws.specs.rounds.Queues.{IsQueue, are_within}
use Rattle.e3_laws.specs.rounds.Rounds.{ToldVerdict}
use Rattle.e3_laws.proofs.rounds.Phases.Acknowledged.{Acknowledged, Won, ack_mail, round_with}
use Rattle.e3_laws.proofs.rounds.Phases.Decided.{Decided, decide_mail}
use Rattle.e3_laws.proofs.rounds.Deliveries.Delivering.{Delivery, Entered, deliver, entered_next, taking}
use Rattle.e3_laws.proofs.rounds.Deliveries.Gathering.{life_on, life_with, rounds_of, rounds_on}
use Rattle.e3_laws.proofs.steps.Moving.{log_on, log_still, moves_still}
use Rattle.e3_laws.proofs.rounds.Phases.Rows.{mail, makes, row_pre}
use Rattle.e3_laws.proofs.rounds.Deliveries.Walking.{Rest}
use Rattle.e3_laws.proofs.rounds.Phases.Winning.{row_ack_late}
use Rattle.e3_laws.proofs.steps.Tests.{same_self}

abbrev pub pre_mail : RecoveryRound → ℕ → Dir → ℕ → Packet
pre_mail r n dir = mail r.elector (msg.Pre r.txn n dir)

abbrev pub attempt_of : RecoveryRound → ℕ → Dir → List ℕ → ℕ → List Record
attempt_of r n dir tried s = if has_site (r.elector ∷ tried) s then log.Attempt r.txn n dir ∷ [] else []

-- The elector and these members have attempted, those are still to be asked to.
pub record Prepared (sc : Scenario) (start : List Entry) (r : RecoveryRound) (base : List Entry) (n : ℕ) (dir : Dir) (h : List Entry) (own : ℕ) (said : List ToldVerdict) (done todo : List ℕ) : Type 0 where
  pub queue : List Packet
  pub is_queue : IsQueue sc h queue
  pub unnumbered_queue : map unnumbered queue ≡ map (pre_mail r n dir) todo ++ map (ack_mail r n dir) done
  pub logs : (s : ℕ) → log_of sc h s ≡ log_of sc base s ++ attempt_of r n dir done s
  pub round : (rounds_of r.elector r.txn (life_at (moves_of sc h r.elector))).now ≡ Some (round_with r n dir [])
  pub entered : Entered start h r own said

pub prepared_on : (sc : Scenario) (start : List Entry) (r : RecoveryRound) (base : List Entry) (n : ℕ) (dir : Dir) (h more : List Entry) (own : ℕ) (said : List ToldVerdict) (done todo : List ℕ) (m : ℕ) →
    has_site r.members m ≡ true → has_site r.members r.elector ≡ true → (r.elector == m) ≡ false → (m == r.elector) ≡ false → has_site (r.elector ∷ done) m ≡ false →
    is_undecided r.txn (log_of sc base m) ≡ true → (last_elected r.txn (log_of sc base m) == n) ≡ true → (last_attempt r.txn (log_of sc base m) == n) ≡ false →
    Rest sc r.members h more → Prepared sc start r base n dir h own said done (m ∷ todo) →
    (e : Entry) × (later : List Entry) × (more ≡ e ∷ later) × Rest sc r.members (h ++ e ∷ []) later × Prepared sc start r base n dir (h ++ e ∷ []) (suc own) said (done ++ m ∷ []) todo
prepared_on sc start r base n dir h more own said done todo m member leads from_other to_other fresh undecided joined untried rest was =
    (e, d.later, d.is, d.on, now)
  where
    t : Txn
    t = r.txn

    q : Packet
    q = pre_mail r n dir m

    left : List Packet
    left = map (pre_mail r n dir) todo ++ map (ack_mail r n dir) done

    d : Delivery sc r.members h more q left
    d = deliver sc r.members h more was.queue q left rest was.is_queue was.unnumbered_queue member

    e : Entry
    e = entry_of sc h m (input.Deliver d.p)

    log_same : log_of sc h m ≡ log_of sc base m
    log_same = was.logs m ∙ (let none : log_of sc base m ++ attempt_of r n dir done m ≡ log_of sc base m ++ [] = rw fresh refl in none) ∙ append-nil (log_of sc base m)

    log_is : (taking sc h q).life.log ≡ log_of sc base m
    log_is = life_log_at (moves_of sc h m) ∙ log_same

    makes_now : Made
    makes_now = makes (log.Attempt t n dir ∷ []) (ack_mail r n dir m ∷ [])

    step : step_at (taking sc h q) ≡ makes_now
    step = row_pre (taking sc h q) r.elector t n dir (record { packet = q; is = refl; sender = refl; says = refl; away = from_other })
        (ap (is_undecided t) log_is ∙ undecided) (ap (λ l. last_elected t l == n) log_is ∙ joined) (ap (λ l. last_attempt t l == n) log_is ∙ untried)

    made : made_by sc h m (input.Deliver d.p) ≡ makes_now
    made = d.made ∙ step

    within : are_within (parts_of sc h) makes_now.outs ≡ true
    within = let one : same_part (parts_of sc h) m r.elector ≡ true = rest.together m r.elector member leads in rw one refl

    now : Prepared sc start r base n dir (h ++ e ∷ []) (suc own) said (done ++ m ∷ []) todo
    now = let shifted = d.shifts makes_now step within in record {
      queue = shifted.0;
      is_queue = shifted.1;
      unnumbered_queue =
          shifted.2 ∙ append_assoc (map (pre_mail r n dir) todo) (map (ack_mail r n dir) done) (ack_mail r n dir m ∷ [])
          ∙ ap (λ l. map (pre_mail r n dir) todo ++ l) (sym (map-append (ack_mail r n dir) done (m ∷ [])));
      logs = λ x. log_now x (m == x) refl;
      round = ap (λ l. (rounds_of r.elector t (life_at l)).now) (moves_still sc h m r.elector (input.Deliver d.p) to_other) ∙ was.round;
      entered = entered_next sc start h more q left r own said makes_now d was.entered leads (same_self t) step refl;
    }
      where
        or_false : (b : Bool) → (b || false) ≡ b
        or_false true = refl
        or_false false = refl

        or_true : (b : Bool) → (b || true) ≡ true
        or_true true = refl
        or_true false = refl

        same_sites : (x : ℕ) → (m == x) ≡ false → has_site (r.elector ∷ (done ++ m ∷ [])) x ≡ has_site (r.elector ∷ done) x
        same_sites x other = list_any-append (λ y. y == x) (r.elector ∷ done) (m ∷ []) ∙ rw other (or_false (has_site (r.elector ∷ done) x))

        its_site : has_site (r.elector ∷ (done ++ m ∷ [])) m ≡ true
        its_site = list_any-append (λ y. y == m) (r.elector ∷ done) (m ∷ []) ∙ rw (self m) (or_true (has_site (r.elector ∷ done) m))

        log_now : (x : ℕ) (b : Bool) → (m == x) ≡ b → log_of sc (h ++ e ∷ []) x ≡ log_of sc base x ++ attempt_of r n dir (done ++ m ∷ []) x
        log_now x false other =
            log_still sc h m x (input.Deliver d.p) other ∙ was.logs x
            ∙ ap (λ b. log_of sc base x ++ (if b then log.Attempt t n dir ∷ [] else [])) (sym (same_sites x other))
        log_now x true is =
            subst (λ u. log_of sc (h ++ e ∷ []) u ≡ log_of sc base u ++ attempt_of r n dir (done ++ m ∷ []) u) (eqb-true m x is)
            (log_on sc h m (input.Deliver d.p) ∙ ap (λ (x : Made). log_of sc h m ++ x.records) made ∙ ap (λ l. l ++ log.Attempt t n dir ∷ []) log_same
            ∙ ap (λ b. log_of sc base m ++ (if b then log.Attempt t n dir ∷ [] else [])) (sym its_site))

-- once all have attempted, their acknowledgements are the queue
pub acknowledged_begins : (sc : Scenario) (start : List Entry) (r : RecoveryRound) (base : List Entry) (n : ℕ) (dir : Dir) (h : List Entry) (own : ℕ) (said : List ToldVerdict) (all : List ℕ) →
    Prepared sc start r base n dir h own said all [] → Acknowledged sc start r h n dir h own said [] all
acknowledged_begins sc start r base n dir h own said all was = record {
  queue = was.queue;
  is_queue = was.is_queue;
  unnumbered_queue = was.unnumbered_queue;
  logs = λ s. refl;
  round = was.round;
  entered = was.entered;
}

-- an acknowledgement that comes late
pub won_on : (sc : Scenario) (start : List Entry) (r : RecoveryRound) (base : List Entry) (n : ℕ) (dir : Dir) (h more : List Entry) (own : ℕ) (said : List ToldVerdict) (todo : List ℕ) (m : ℕ) →
    has_site r.members m ≡ true → has_site r.members r.elector ≡ true → (m == r.elector) ≡ false →
    Rest sc r.members h more → Won sc start r base n dir h own said (m ∷ todo) →
    (e : Entry) × (later : List Entry) × (more ≡ e ∷ later) × Rest sc r.members (h ++ e ∷ []) later × Won sc start r base n dir (h ++ e ∷ []) (suc own) said todo
won_on sc start r base n dir h more own said todo m member leads away rest was =
    (e, d.later, d.is, d.on, now)
  where
    t : Txn
    t = r.txn

    q : Packet
    q = ack_mail r n dir m

    left : List Packet
    left = map (ack_mail r n dir) todo ++ (map (decide_mail r dir) (others r.elector r.members) ++ was.lates)

    d : Delivery sc r.members h more q left
    d = deliver sc r.members h more was.queue q left rest was.is_queue was.unnumbered_queue leads

    e : Entry
    e = entry_of sc h r.elector (input.Deliver d.p)

    life : Life
    life = life_at (moves_of sc h r.elector)

    step : step_at (taking sc h q) ≡ nothing
    step = row_ack_late (taking sc h q) m t n dir (record { packet = q; is = refl; sender = refl; says = refl; away = away }) was.round

    made : made_by sc h r.elector (input.Deliver d.p) ≡ nothing
    made = d.made ∙ step

    After : Packet → Type 0
    After x = (round_by r.elector t (rounds_of r.elector t life) (record { before = life.log; input = input.Deliver x; records = []; outs = []; told = [] })).now ≡ None

    none : After q
    none = rw (was.round, same_self t) refl

    now : Won sc start r base n dir (h ++ e ∷ []) (suc own) said todo
    now = let shifted = d.shifts nothing step refl in record {
      queue = shifted.0;
      is_queue = shifted.1;
      lates = was.lates;
      unnumbered_queue = shifted.2 ∙ append-nil left;
      are_late = was.are_late;
      logs = λ s other. log_still sc h r.elector s (input.Deliver d.p) other ∙ was.logs s other;
      decided =
          ap (is_undecided t) (log_on sc h r.elector (input.Deliver d.p) ∙ ap (λ (x : Made). log_of sc h r.elector ++ x.records) made ∙ append-nil (log_of sc h r.elector)) ∙ was.decided;
      round =
          ap (λ (l : Life). (rounds_of r.elector t l).now) (life_on sc h r.elector (input.Deliver d.p))
          ∙ ap (λ (x : Made). (rounds_of r.elector t (life_with life (input.Deliver d.p) x)).now) made
          ∙ ap (λ (x : Rounds). x.now) (rounds_on r.elector t life (input.Deliver d.p) nothing)
          ∙ subst After (sym d.same) none;
      entered = entered_next sc start h more q left r own said nothing d was.entered member (same_self t) step refl;
    }

-- the others are not the elector
pub others_apart : (s : ℕ) (xs : List ℕ) (x : ℕ) → has_site (others s xs) x ≡ true → (s == x) ≡ false
others_apart s [] x has = absurd cc
others_apart s (y ∷ xs) x has = by (others_apart s xs x) (y == s) refl
  where
    last : (has_site (others s xs) x ≡ true → (s == x) ≡ false) → (y == s) ≡ false → (b : Bool) → (y == x) ≡ b → (b || has_site (others s xs) x) ≡ true → (s == x) ≡ false
    last rest apart true is found = ne_eqb s x (λ e. let same : y ≡ s = eqb-true y x is ∙ sym e in let clash : true ≡ false = sym (eq-eqb y s same) ∙ apart in cc)
    last rest apart false is found = rest found

    by : (has_site (others s xs) x ≡ true → (s == x) ≡ false) → (b : Bool) → (y == s) ≡ b → (s == x) ≡ false
    by rest true is = rest (sym (let same : has_site (others s (y ∷ xs)) x ≡ has_site (others s xs) x = rw is refl in same) ∙ has)
    by rest false is =
        last rest is (y == x) refl (sym (let same : has_site (others s (y ∷ xs)) x ≡ ((y == x) || has_site (others s xs) x) = rw is refl in same) ∙ has)

-- once no acknowledgement is left, the decision is delivered
pub decided_begins : (sc : Scenario) (start : List Entry) (r : RecoveryRound) (base : List Entry) (n : ℕ) (dir : Dir) (h : List Entry) (own : ℕ) (said : List ToldVerdict) →
    Won sc start r base n dir h own said [] → Decided sc start r base dir h own said [] (others r.elector r.members)
decided_begins sc start r base n dir h own said was = record {
  queue = was.queue;
  is_queue = was.is_queue;
  lates = was.lates;
  unnumbered_queue = was.unnumbered_queue;
  are_late = was.are_late;
  logs = λ s has. was.logs s (others_apart r.elector r.members s has);
  decided = λ s has. only s has (r.elector == s) refl;
  entered = was.entered;
}
  where
    only : (s : ℕ) → ((r.elector == s) || false) ≡ true → (b : Bool) → (r.elector == s) ≡ b → is_undecided r.txn (log_of sc h s) ≡ false
    only s has true is = subst (λ u. is_undecided r.txn (log_of sc h u) ≡ false) (eqb-true r.elector s is) was.decided
    only s has false is = absurd (let clash : false ≡ true = sym (ap (λ b. b || false) is) ∙ has in cc)
