-- The second phase of a round: the elector hears the answers, one after the other.
use Rattle.std.proofs.Common.{◌≡◌, ◌==◌, ◌||◌, ◌+◌, ℕ, suc, Bool, true, false, List, [], ◌∷◌, ◌++◌, append-nil, length, Some, None, ◌∙◌, ap, sym, subst, refl, map, count_by, eqb-true}
use Rattle.std.specs.List.{list_any}
use Rattle.std.proofs.lemmas.List.{map-append}
use Rattle.e3_types.specs.declared.entries.Entry.{Entry}
use Rattle.e3_types.specs.declared.entries.Input.{Input}
use Rattle.e3_types.specs.declared.entries.Input.TheVariants as input
use Rattle.e3_types.specs.declared.messages.Packet.{Packet}
use Rattle.e3_types.specs.declared.records.Record.{Record}
use Rattle.e3_types.specs.declared.scenarios.Scenario.{Scenario}
use Rattle.e3_types.specs.declared.transactions.Call.{Call}
use Rattle.e3_types.specs.declared.transactions.Txn.{Txn}
use Rattle.e3_types.specs.Same.{same_call}
use Rattle.e3_types.specs.Sets.{has_site, others}
use Rattle.e3_world.specs.Gatherings.{Election, Elections, Rounds}
use Rattle.e3_world.specs.declared.elections.Named.{Named}
use Rattle.e3_world.specs.declared.lives.Life.{Life}
use Rattle.e3_world.specs.declared.lives.Made.{Made}
use Rattle.e3_world.specs.Elections.{all_heard, election_by, hear, is_elect}
use Rattle.e3_world.specs.Items.{RecoveryRound}
use Rattle.e3_world.specs.Legal.{entry_of, made_by}
use Rattle.e3_world.specs.Lives.{life_at}
use Rattle.e3_world.specs.Logs.{last_elected}
use Rattle.e3_world.specs.Making.{nothing}
use Rattle.e3_world.specs.Moves.{log_of, moves_of, unnumbered}
use Rattle.e3_world.specs.Steps.{step_at}
use Rattle.e3_world.proofs.Pushes.{life_log_at}
use Rattle.e3_world.proofs.Turns.{self}
use Rattle.e3_laws.specs.rounds.Queues.{IsQueue}
use Rattle.e3_laws.proofs.rounds.Phases.Asked.{Asked, answer, ask, call_of}
use Rattle.e3_laws.proofs.rounds.Deliveries.Delivering.{Delivery, Entered, deliver, entered_next, taking}
use Rattle.e3_laws.proofs.rounds.Deliveries.Gathering.{calls_are, elections_of, elections_on, group_at, group_on, rounds_of, rounds_on, life_on, life_with}
use Rattle.e3_laws.proofs.steps.Moving.{log_on, log_still, place}
use Rattle.e3_laws.proofs.rounds.Phases.Rows.{makes, row_elect, row_last}
use Rattle.e3_laws.proofs.rounds.Deliveries.Walking.{Rest}
use Rattle.e3_laws.proofs.steps.Tests.{same_self}

-- what a member named
abbrev pub named : Scenario → List Entry → Txn → ℕ → Named
named sc start t m = record { site = m; elected = last_elected t (log_of sc start m) }

-- the election in which these members were heard, besides the elector
abbrev pub election : Scenario → List Entry → RecoveryRound → List ℕ → Election
election sc start r done = record {
  call = call_of sc start r;
  group = r.members;
  heard = map (named sc start r.txn) (r.elector ∷ done);
  number = None;
  reports = [];
}

-- These members were heard, the answers of those are still pending, in this order. No log has changed, and so many entries of
-- the round were its own.
pub record Heard (sc : Scenario) (start : List Entry) (r : RecoveryRound) (h : List Entry) (own : ℕ) (done todo : List ℕ) : Type 0 where
  pub queue : List Packet
  pub is_queue : IsQueue sc h queue
  pub unnumbered_queue : map unnumbered queue ≡ map (answer sc start r) todo
  pub logs : (s : ℕ) → log_of sc h s ≡ log_of sc start s
  pub gathered : (elections_of r.elector r.txn (life_at (moves_of sc h r.elector))).now ≡ Some (election sc start r done)
  pub grouped : group_at sc h r.elector r.txn ≡ r.members
  pub entered : Entered start h r own []

same_call_self : (c : Call) → same_call c c ≡ true
same_call_self c = rw (self c.inc, self c.seq) refl

names : (sc : Scenario) (start : List Entry) (t : Txn) (xs : List ℕ) (m : ℕ) → list_any (λ h. h.site == m) (map (named sc start t) xs) ≡ has_site xs m
names sc start t [] m = refl
names sc start t (x ∷ xs) m = ap (λ b. (x == m) || b) (names sc start t xs m)

pub hears : (sc : Scenario) (start : List Entry) (r : RecoveryRound) (done : List ℕ) (m : ℕ) → has_site r.members m ≡ true → has_site (r.elector ∷ done) m ≡ false →
    hear (election sc start r done) m (call_of sc start r) (last_elected r.txn (log_of sc start m)) ≡ Some (election sc start r (done ++ m ∷ []))
hears sc start r done m member fresh =
    rw (same_call_self (call_of sc start r), member, new)
    (ap (λ (l : List Named). let e : Election = record { call = call_of sc start r; group = r.members; heard = l; number = None; reports = [] } in Some e)
    (sym (map-append (named sc start r.txn) (r.elector ∷ done) (m ∷ []))))
  where
    new : list_any (λ h. h.site == m) (map (named sc start r.txn) (r.elector ∷ done)) ≡ false
    new = names sc start r.txn (r.elector ∷ done) m ∙ fresh

-- a member is heard, and others are awaited
pub heard_on : (sc : Scenario) (start : List Entry) (r : RecoveryRound) (h more : List Entry) (own : ℕ) (done todo : List ℕ) (m : ℕ) →
    has_site r.members m ≡ true → has_site r.members r.elector ≡ true → (m == r.elector) ≡ false → has_site (r.elector ∷ done) m ≡ false →
    all_heard (election sc start r (done ++ m ∷ [])) ≡ false →
    Rest sc r.members h more → Heard sc start r h own done (m ∷ todo) →
    (e : Entry) × (later : List Entry) × (more ≡ e ∷ later) × Rest sc r.members (h ++ e ∷ []) later × Heard sc start r (h ++ e ∷ []) (suc own) (done ++ m ∷ []) todo
heard_on sc start r h more own done todo m member leads away fresh awaits rest was =
    (e, d.later, d.is, d.on, now)
  where
    t : Txn
    t = r.txn

    q : Packet
    q = answer sc start r m

    d : Delivery sc r.members h more q (map (answer sc start r) todo)
    d = deliver sc r.members h more was.queue q (map (answer sc start r) todo) rest was.is_queue was.unnumbered_queue leads

    e : Entry
    e = entry_of sc h r.elector (input.Deliver d.p)

    life : Life
    life = life_at (moves_of sc h r.elector)

    next : Election
    next = election sc start r (done ++ m ∷ [])

    hear_is : hear (election sc start r done) m (call_of sc start r) (last_elected t (log_of sc start m)) ≡ Some next
    hear_is = hears sc start r done m member fresh

    step : step_at (taking sc h q) ≡ nothing
    step = row_last (taking sc h q) m t (call_of sc start r) (last_elected t (log_of sc start m)) (election sc start r done) next
        (record { packet = q; is = refl; sender = refl; says = refl; away = away }) was.gathered hear_is awaits

    made : made_by sc h r.elector (input.Deliver d.p) ≡ nothing
    made = d.made ∙ step

    heard : (x : Packet) → x ≡ q →
        (election_by r.elector life.inc t (elections_of r.elector t life) (record { before = life.log; input = input.Deliver x; records = []; outs = []; told = [] })).now ≡ Some next
    heard x is = subst (λ (x : Packet). (election_by r.elector life.inc t (elections_of r.elector t life) (record { before = life.log; input = input.Deliver x; records = []; outs = []; told = [] })).now ≡ Some next) (sym is)
        (rw (was.gathered, same_self t, hear_is, awaits) refl)

    now : Heard sc start r (h ++ e ∷ []) (suc own) (done ++ m ∷ []) todo
    now = let shifted = d.shifts nothing step refl in record {
      queue = shifted.0;
      is_queue = shifted.1;
      unnumbered_queue = shifted.2 ∙ append-nil (map (answer sc start r) todo);
      logs = λ s. log_now s (r.elector == s) refl;
      gathered =
          ap (λ (l : Life). (elections_of r.elector t l).now) (life_on sc h r.elector (input.Deliver d.p))
          ∙ ap (λ (x : Made). (elections_of r.elector t (life_with life (input.Deliver d.p) x)).now) made
          ∙ ap (λ (x : Elections). x.now) (elections_on r.elector t life (input.Deliver d.p) nothing)
          ∙ heard (unnumbered d.p) d.same;
      grouped = group_on sc h r.elector r.elector t d.p ∙ was.grouped;
      entered = entered_next sc start h more q (map (answer sc start r) todo) r own [] nothing d was.entered member (same_self t) step refl;
    }
      where
        log_now : (s : ℕ) (b : Bool) → (r.elector == s) ≡ b → log_of sc (h ++ e ∷ []) s ≡ log_of sc start s
        log_now s false other = log_still sc h r.elector s (input.Deliver d.p) other ∙ was.logs s
        log_now s true is =
            subst (λ u. log_of sc (h ++ e ∷ []) u ≡ log_of sc start u) (eqb-true r.elector s is)
            (log_on sc h r.elector (input.Deliver d.p) ∙ ap (λ (x : Made). log_of sc h r.elector ++ x.records) made ∙ append-nil (log_of sc h r.elector) ∙ was.logs r.elector)

-- once all have answered, the phase begins
pub heard_begins : (sc : Scenario) (start : List Entry) (r : RecoveryRound) (h : List Entry) (all : List ℕ) → (1 == length r.members) ≡ false →
    Asked sc start r h all [] → Heard sc start r h (1 + length all) [] all
heard_begins sc start r h all several was = record {
  queue = was.queue;
  is_queue = was.is_queue;
  unnumbered_queue = was.unnumbered_queue;
  logs = was.logs;
  gathered =
      ap (λ l. (elections_of r.elector t (life_at l)).now) was.elector
      ∙ ap (λ (l : Life). (elections_of r.elector t l).now) (life_on sc start r.elector i)
      ∙ ap (λ (x : Made). (elections_of r.elector t (life_with life i x)).now) made
      ∙ ap (λ (x : Elections). x.now) (elections_on r.elector t life i makes_now)
      ∙ begins (elections_of r.elector t life).calls (count_by is_elect life.steps) (calls_are r.elector t life) life.log (life_log_at (moves_of sc start r.elector));
  grouped =
      ap (λ l. (rounds_of r.elector t (life_at l)).group) was.elector
      ∙ ap (λ (l : Life). (rounds_of r.elector t l).group) (life_on sc start r.elector i)
      ∙ ap (λ (x : Rounds). x.group) (rounds_on r.elector t life i (made_by sc start r.elector i))
      ∙ rw (same_self t) refl;
  entered = was.entered;
}
  where
    t : Txn
    t = r.txn

    i : Input
    i = input.Elect r.txn r.members

    life : Life
    life = life_at (moves_of sc start r.elector)

    makes_now : Made
    makes_now = makes [] (map (ask sc start r) (others r.elector r.members))

    made : made_by sc start r.elector i ≡ makes_now
    made = row_elect (place sc start r.elector i) r.txn r.members refl several

    begun_as : ℕ → List Record → Election
    begun_as calls l = record {
      call = record { inc = life.inc; seq = suc calls };
      group = r.members;
      heard = record { site = r.elector; elected = last_elected t l } ∷ [];
      number = None;
      reports = [];
    }

    begins : (calls count : ℕ) → calls ≡ count → (l : List Record) → l ≡ log_of sc start r.elector →
        (election_by r.elector life.inc t (record { calls = calls; now = (elections_of r.elector t life).now })
        (record { before = l; input = i; records = []; outs = map unnumbered makes_now.outs; told = [] })).now ≡ Some (record (begun_as count (log_of sc start r.elector)) { number = None })
    begins calls count same l log_is = rw (same_self t, several) (ap (λ k. Some (begun_as k l)) same ∙ ap (λ x. Some (begun_as count x)) log_is)
