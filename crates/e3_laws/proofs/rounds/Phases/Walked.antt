-- The phases of a round, each from its first step to its last, and one after the other up to the last report.
use Rattle.std.proofs.Common.{◌≡◌, ◌==◌, ◌+◌, ◌*◌, ℕ, suc, true, false, List, [], ◌∷◌, ◌++◌, append-nil, append_assoc, length, length-append, ◌∙◌, ap, sym, subst, refl, map, arith, eq-eqb, nat_lt, nat_le}
use Rattle.std.proofs.lemmas.Bool.{ne_eqb}
use Rattle.e3_types.specs.declared.entries.Entry.{Entry}
use Rattle.e3_types.specs.declared.scenarios.Scenario.{Scenario}
use Rattle.e3_types.specs.Sets.{has_site, others}
use Rattle.e3_world.specs.Elections.{greatest_heard}
use Rattle.e3_world.specs.Items.{RecoveryRound}
use Rattle.e3_world.specs.Logs.{last_elected}
use Rattle.e3_world.specs.Moves.{log_of}
use Rattle.e3_laws.proofs.rounds.Phases.Asked.{Asked, asked_on}
use Rattle.e3_laws.proofs.rounds.Phases.Heard.{Heard, election, heard_begins, heard_on, named}
use Rattle.e3_laws.proofs.rounds.Phases.Joined.{Joined, joined_begins, joined_on, number_of, site_report}
use Rattle.e3_laws.proofs.rounds.Phases.Reported.{Reported, reported_begins, reported_on}
use Rattle.e3_laws.proofs.rounds.Deliveries.Walking.{Rest}

-- a phase by what is done and what is to do, with the own entries so far
abbrev pub Phase : Type 1
Phase = List Entry → ℕ → List ℕ → List ℕ → Type 0

-- one more step of a phase
abbrev pub OneStep : Scenario → RecoveryRound → Phase → (List ℕ → ℕ → List ℕ → Type 0) → Type 0
OneStep sc r P C = (h more : List Entry) (own : ℕ) (done todo : List ℕ) (m : ℕ) → C done m todo → Rest sc r.members h more → P h own done (m ∷ todo) →
    (e : Entry) × (later : List Entry) × (more ≡ e ∷ later) × Rest sc r.members (h ++ e ∷ []) later × P (h ++ e ∷ []) (suc own) (done ++ m ∷ []) todo

-- a condition of each step
abbrev pub Each : (List ℕ → ℕ → List ℕ → Type 0) → List ℕ → List ℕ → Type 0
Each C done [] = Unit {0}
Each C done (m ∷ todo) = C done m todo × Each C (done ++ m ∷ []) todo

-- where a walk ends
pub record Walked (sc : Scenario) (r : RecoveryRound) (h more : List Entry) (Q : List Entry → Type 0) : Type 0 where
  pub now : List Entry
  pub later : List Entry
  pub is : now ++ later ≡ h ++ more
  pub rest : Rest sc r.members now later
  pub phase : Q now

pub walk : (sc : Scenario) (r : RecoveryRound) (P : Phase) (C : List ℕ → ℕ → List ℕ → Type 0) → OneStep sc r P C →
    (h more : List Entry) (own : ℕ) (done todo : List ℕ) → Each C done todo → Rest sc r.members h more → P h own done todo →
    Walked sc r h more (λ now. P now (own + length todo) (done ++ todo) [])
walk sc r P C step h more own done [] each rest was = record {
  now = h;
  later = more;
  is = refl;
  rest = rest;
  phase = subst (λ l. P h (own + 0) l []) (sym (append-nil done)) (subst (λ n. P h n done []) (let same : own ≡ own + 0 = omega arith in same) was);
}
walk sc r P C step h more own done (m ∷ todo) each rest was =
    let one = step h more own done todo m each.0 rest was in
    let end = walk sc r P C step (h ++ one.0 ∷ []) one.1 (suc own) (done ++ m ∷ []) todo each.1 one.3 one.4 in
    record {
      now = end.now;
      later = end.later;
      is = end.is ∙ append_assoc h (one.0 ∷ []) one.1 ∙ ap (λ l. h ++ l) (sym one.2);
      rest = end.rest;
      phase = subst (λ l. P end.now (own + suc (length todo)) l []) (append_assoc done (m ∷ []) todo)
          (subst (λ n. P end.now n ((done ++ m ∷ []) ++ todo) []) (let same : suc own + length todo ≡ own + suc (length todo) = omega arith in same) end.phase);
    }

-- a walk behind another
pub and_then : (sc : Scenario) (r : RecoveryRound) (h more : List Entry) (Q R : List Entry → Type 0) → (w : Walked sc r h more Q) → Walked sc r w.now w.later R → Walked sc r h more R
and_then sc r h more Q R w v = record { now = v.now; later = v.later; is = v.is ∙ w.is; rest = v.rest; phase = v.phase }

-- one step is a walk
pub one_walked : (sc : Scenario) (r : RecoveryRound) (h more : List Entry) (Q : List Entry → Type 0) →
    (e : Entry) × (later : List Entry) × (more ≡ e ∷ later) × Rest sc r.members (h ++ e ∷ []) later × Q (h ++ e ∷ []) → Walked sc r h more Q
one_walked sc r h more Q step = record {
  now = h ++ step.0 ∷ [];
  later = step.1;
  is = append_assoc h (step.0 ∷ []) step.1 ∙ ap (λ l. h ++ l) (sym step.2);
  rest = step.3;
  phase = step.4;
}

-- a walk behind one step
pub step_then : (sc : Scenario) (r : RecoveryRound) (h more : List Entry) (Q P : List Entry → Type 0) →
    (one : (e : Entry) × (later : List Entry) × (more ≡ e ∷ later) × Rest sc r.members (h ++ e ∷ []) later × P (h ++ e ∷ [])) →
    Walked sc r (h ++ one.0 ∷ []) one.1 Q → Walked sc r h more Q
step_then sc r h more Q P one w = record {
  now = w.now;
  later = w.later;
  is = w.is ∙ append_assoc h (one.0 ∷ []) one.1 ∙ ap (λ l. h ++ l) (sym one.2);
  rest = w.rest;
  phase = w.phase;
}

-- what is known of each member but the elector, where it is its turn
pub record Turn (r : RecoveryRound) (done : List ℕ) (m : ℕ) (todo : List ℕ) : Type 0 where
  pub member : has_site r.members m ≡ true
  pub receives : has_site (others r.elector r.members) m ≡ true
  pub from_other : (r.elector == m) ≡ false
  pub away : (m == r.elector) ≡ false
  pub fresh : has_site (r.elector ∷ done) m ≡ false
  pub once : has_site todo m ≡ false
  pub long : length r.members ≡ suc (length done + suc (length todo))

-- all but the last
abbrev pub But : ℕ → RecoveryRound → List ℕ → ℕ → List ℕ → Type 0
But z r done m todo = Turn r done m (todo ++ z ∷ [])

pub but_last : (r : RecoveryRound) (z : ℕ) (done todo : List ℕ) → Each (Turn r) done (todo ++ z ∷ []) → Each (But z r) done todo × Turn r (done ++ todo) z []
but_last r z done [] each = (tt, subst (λ l. Turn r l z []) (sym (append-nil done)) each.0)
but_last r z done (m ∷ todo) each =
    let rest = but_last r z (done ++ m ∷ []) todo each.1 in
    ((each.0, rest.0), subst (λ l. Turn r l z []) (append_assoc done (m ∷ []) todo) rest.1)

map_length : {X Y : Type 0} (f : X → Y) (xs : List X) → length (map f xs) ≡ length xs
map_length f [] = refl
map_length f (x ∷ xs) = ap suc (map_length f xs)

-- how many there are behind a step
counts : {Y : Type 0} (f : ℕ → Y) (s m : ℕ) (done : List ℕ) → length (map f (s ∷ (done ++ m ∷ []))) ≡ suc (suc (length done))
counts f s m done = map_length f (s ∷ (done ++ m ∷ [])) ∙ ap suc (length-append done (m ∷ [])) ∙ (let same : suc (length done + 1) ≡ suc (suc (length done)) = omega arith in same)

not_all : {Y : Type 0} (f : ℕ → Y) (r : RecoveryRound) (z m : ℕ) (done todo : List ℕ) → But z r done m todo → (length (map f (r.elector ∷ (done ++ m ∷ []))) == length r.members) ≡ false
not_all f r z m done todo turn =
    let many = counts f r.elector m done in
    let long : length r.members ≡ suc (length done + suc (length (todo ++ z ∷ []))) = turn.long in
    let tail : length (todo ++ z ∷ []) ≡ length todo + 1 = length-append todo (z ∷ []) in
    ne_eqb _ _ (λ e. let clash : ⊥ = omega (arith, many, long, tail, e) in clash)

pub all_of : {Y : Type 0} (f : ℕ → Y) (r : RecoveryRound) (z : ℕ) (done : List ℕ) → Turn r done z [] → (length (map f (r.elector ∷ (done ++ z ∷ []))) == length r.members) ≡ true
all_of f r z done turn =
    let many = counts f r.elector z done in
    let long : length r.members ≡ suc (length done + 1) = turn.long in
    eq-eqb _ _ (let same : length (map f (r.elector ∷ (done ++ z ∷ []))) ≡ length r.members = omega (arith, many, long) in same)

-- from the calls to the last report, which is still to come
pub to_last_report : (sc : Scenario) (start : List Entry) (r : RecoveryRound) (h more : List Entry) (init : List ℕ) (z s : ℕ) (ss : List ℕ) →
    others r.elector r.members ≡ init ++ z ∷ [] → others r.elector r.members ≡ s ∷ ss → (1 == length r.members) ≡ false → has_site r.members r.elector ≡ true →
    Each (Turn r) [] (init ++ z ∷ []) →
    nat_lt (greatest_heard (election sc start r (init ++ z ∷ []))) 4294967295 ≡ true →
    nat_le (last_elected r.txn (log_of sc start r.elector)) (greatest_heard (election sc start r (init ++ z ∷ []))) ≡ true →
    ((m : ℕ) → has_site r.members m ≡ true → nat_lt (last_elected r.txn (log_of sc start m)) (number_of sc start r (init ++ z ∷ [])) ≡ true) →
    Rest sc r.members h more → Asked sc start r h [] (init ++ z ∷ []) →
    Walked sc r h more (λ now. (own : ℕ) × (own ≡ 4 * suc (length init)) × Reported sc start r (init ++ z ∷ []) now own init (z ∷ []))
to_last_report sc start r h more init z s ss all_are several many leads each low above below rest was =
    and_then sc r h more _ _ asked
    (and_then sc r asked.now asked.later _ _ heard
    (and_then sc r heard.now heard.later _ _ number
    (and_then sc r number.now number.later _ _ joined (record {
      now = reported.now;
      later = reported.later;
      is = reported.is;
      rest = reported.rest;
      phase = (_, sum_is, reported.phase);
    }))))
  where
    all : List ℕ
    all = init ++ z ∷ []

    last : Each (But z r) [] init × Turn r init z []
    last = but_last r z [] init each

    asked : Walked sc r h more (λ now. Asked sc start r now all [])
    asked = walk sc r (λ h own done todo. Asked sc start r h done todo) (Turn r)
        (λ h more own done todo m turn rest was. asked_on sc start r h more done todo m turn.member leads turn.from_other turn.away rest was) h more 0 [] all each rest was

    heard : Walked sc r asked.now asked.later (λ now. Heard sc start r now ((1 + length all) + length init) init (z ∷ []))
    heard = walk sc r (λ h own done todo. Heard sc start r h own done (todo ++ z ∷ [])) (But z r)
        (λ h more own done todo m turn rest was. heard_on sc start r h more own done (todo ++ z ∷ []) m turn.member leads turn.away turn.fresh (not_all (named sc start r.txn) r z m done todo turn) rest was)
        asked.now asked.later (1 + length all) [] init last.0 asked.rest (heard_begins sc start r asked.now all many asked.phase)

    number : Walked sc r heard.now heard.later (λ now. Joined sc start r all now (suc ((1 + length all) + length init)) [] (others r.elector r.members))
    number = one_walked sc r heard.now heard.later _
        (joined_begins sc start r heard.now heard.later ((1 + length all) + length init) init z s ss last.1.member leads last.1.away last.1.fresh (all_of (named sc start r.txn) r z init last.1) low above several heard.rest heard.phase)

    joined : Walked sc r number.now number.later (λ now. Joined sc start r all now (suc ((1 + length all) + length init) + length all) all [])
    joined = walk sc r (λ h own done todo. Joined sc start r all h own done todo) (Turn r)
        (λ h more own done todo m turn rest was. joined_on sc start r all h more own done todo m turn.member leads turn.from_other turn.away turn.fresh (below m turn.member) rest was)
        number.now number.later (suc ((1 + length all) + length init)) [] all each number.rest (subst (λ l. Joined sc start r all number.now (suc ((1 + length all) + length init)) [] l) all_are number.phase)

    reported : Walked sc r joined.now joined.later (λ now. Reported sc start r all now ((suc ((1 + length all) + length init) + length all) + length init) init (z ∷ []))
    reported = walk sc r (λ h own done todo. Reported sc start r all h own done (todo ++ z ∷ [])) (But z r)
        (λ h more own done todo m turn rest was. reported_on sc start r all h more own done (todo ++ z ∷ []) m turn.member leads turn.away turn.fresh (not_all (site_report sc start r.txn) r z m done todo turn) rest was)
        joined.now joined.later (suc ((1 + length all) + length init) + length all) [] init last.0 joined.rest
        (reported_begins sc start r all joined.now (suc ((1 + length all) + length init) + length all) joined.phase)

    sum_is : (suc ((1 + length all) + length init) + length all) + length init ≡ 4 * suc (length init)
    sum_is = let long : length all ≡ length init + 1 = length-append init (z ∷ []) in omega (arith, long)
