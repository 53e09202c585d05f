-- What the steps of a trail tell stands in their sites' logs, if each move is what its inputs make.
use Rattle.std.proofs.Common.{◌≡◌, ◌⊎◌, inl, inr, ◌∷◌, [], ◌++◌, ◌==◌, ℕ, true, false, List, map, sym, ap, subst, ◌∙◌, append-nil, append_assoc, eqb-true, eq-eqb}
use Rattle.std.specs.List.{flat_map}
use Rattle.std.proofs.lemmas.Bool.{cases_eq, false_from_ne_true}
use Rattle.e3_types.specs.declared.entries.Input.{Input}
use Rattle.e3_types.specs.declared.entries.Input.TheVariants as input
use Rattle.e3_types.specs.declared.entries.Told.{Told}
use Rattle.e3_types.specs.declared.messages.Packet.{Packet}
use Rattle.e3_types.specs.declared.records.Record.{Record}
use Rattle.e3_types.specs.declared.records.Record.TheVariants as log
use Rattle.e3_types.specs.declared.scenarios.Scenario.{Scenario}
use Rattle.e3_types.specs.declared.transactions.Txn.{Txn}
use Rattle.e3_world.specs.declared.lives.At.{At}
use Rattle.e3_world.specs.declared.lives.Incarnation.{Incarnation}
use Rattle.e3_world.specs.declared.lives.Life.{Life}
use Rattle.e3_world.specs.declared.lives.Made.{Made}
use Rattle.e3_world.specs.declared.lives.Moment.{Moment}
use Rattle.e3_world.specs.Lives.{present_log, incarnation_of, life_of, life_by, life_at}
use Rattle.e3_world.specs.Moves.{Did, Stepped, Silent, Rose, Move, moves_at, unnumbered, unnumbered_input}
use Rattle.e3_world.specs.Sound.{sends, WasSent, step_move}
use Rattle.e3_world.specs.Steps.{step_of, step_at}
use Rattle.e3_world.proofs.Pushes.{incarnation_push, life_push}
use Rattle.e3_laws.specs.agreement.Logs.{IsIn}
use Rattle.e3_laws.specs.agreement.Marks.{Mark, sent_of, situation_of}
use Rattle.e3_laws.specs.agreement.Rules.{letter, Came}
use Rattle.e3_laws.specs.agreement.Weights.{party_of}
use Rattle.e3_laws.proofs.agreement.Protocol.Keep.{law}
use Rattle.e3_laws.proofs.agreement.Protocol.Shares.{majorities_overlap}
use Rattle.e3_laws.specs.agreement.Rows.{MayTake, WasHeard, IsFromAway, Stands, Good}
use Rattle.e3_laws.specs.agreement.Trails.{marks_of, IsMadeMove, MadeAfter, IsMade}
use Rattle.e3_laws.specs.agreement.Views.{words_of}
use Rattle.e3_laws.proofs.agreement.Refinement.Following.{SentOk, OutsOk, Delivers, TrailOk, made_ok, in_from_contains, in_map_to, moves_here, moves_there}
use Rattle.e3_laws.proofs.agreement.Refinement.Growing.{here, site_step, elect_fits, takes_unnumbered}
use Rattle.e3_laws.proofs.agreement.Refinement.Lists.{in_left}
use Rattle.e3_laws.proofs.agreement.Refinement.Whole.{good_step}
use Rattle.e3_laws.proofs.agreement.Histories.{made_append}
use Rattle.e3_laws.proofs.agreement.Saying.{AllStood, Tells}
use Rattle.e3_laws.proofs.agreement.Stepping.{tells_step}
use Rattle.e3_laws.proofs.agreement.Protocol.Reached.{in_parts}

-- the place of a step
abbrev pub place : Scenario → ℕ → Life → Input → At
place sc x life i = record { weights = sc.weights; site = x; life = life; input = unnumbered_input i }

delivered : (before : List Move) (i : Input) → WasSent before i → Delivers before i
delivered before (input.Deliver packet) was = in_from_contains (flat_map sends before) packet was
delivered before (input.Begin sites) was = tt
delivered before (input.Do u op) was = tt
delivered before (input.Commit u) was = tt
delivered before (input.Cancel u) was = tt
delivered before (input.Expire u) was = tt
delivered before (input.Elect u group) was = tt

-- a packet that is taken was heard
heard : (sc : Scenario) (t : Txn) (before : List Move) (marks : List Mark) (x : ℕ) (life : Life) (i : Input) → SentOk t before marks → MayTake x i → Delivers before i
    → WasHeard (here sc t marks x life i) (unnumbered_input i)
heard sc t before marks x life (input.Deliver packet) ok fits was = λ w k.
    subst (λ y. Came (sent_of marks) packet.«from» y w) fits
    (ok packet was (letter packet.«from» packet.to w) (in_map_to (letter packet.«from» packet.to) w (words_of t packet.msg) k))
heard sc t before marks x life (input.Begin sites) ok fits was = tt
heard sc t before marks x life (input.Do u op) ok fits was = tt
heard sc t before marks x life (input.Commit u) ok fits was = tt
heard sc t before marks x life (input.Cancel u) ok fits was = tt
heard sc t before marks x life (input.Expire u) ok fits was = tt
heard sc t before marks x life (input.Elect u group) ok fits was = tt

-- it comes from another site
away : (before : List Move) (x : ℕ) (i : Input) → OutsOk before → MayTake x i → Delivers before i → IsFromAway x (unnumbered_input i)
away before x (input.Deliver packet) ok fits was =
    let apart : (packet.to == packet.«from») ≡ false = ok packet was in
    false_from_ne_true (packet.«from» == x) (λ q. (let same : (packet.to == packet.«from») ≡ true = eq-eqb packet.to packet.«from» (fits ∙ sym (eqb-true packet.«from» x q)) in cc))
away before x (input.Begin sites) ok fits was = tt
away before x (input.Do u op) ok fits was = tt
away before x (input.Commit u) ok fits was = tt
away before x (input.Cancel u) ok fits was = tt
away before x (input.Expire u) ok fits was = tt
away before x (input.Elect u group) ok fits was = tt

-- what stands before a step behind such moves, for each transaction
pub stands_before : (sc : Scenario) (before : List Move) (x : ℕ) (i : Input) → IsMade sc before → MayTake x i → WasSent before i
    → (t : Txn) → Stands (here sc t (marks_of sc t before) x (life_at (moves_at x before)) i)
stands_before sc before x i made fits was t =
    let marks : List Mark = marks_of sc t before in
    let ok : TrailOk sc t before marks = made_ok sc t before made in
    let came : Delivers before i = delivered before i was in
    record {
      kept = law (party_of sc.weights t) (situation_of marks) (majorities_overlap sc.weights t) ok.reach;
      well = ok.well;
      reads = (ok.sites x).reads;
      taken = heard sc t before marks x (life_at (moves_at x before)) i ok.sent fits came;
      away = away before x i ok.outs fits came;
      fits = elect_fits x i fits;
      left = (ok.sites x).left i;
    }

-- what the site sends comes from itself
pub sends_own : (sc : Scenario) (before : List Move) (x : ℕ) (i : Input) → IsMade sc before → MayTake x i → WasSent before i → (t : Txn)
    → (p : Packet) → IsIn p (step_of sc.weights x (incarnation_of (moves_at x before)) i).outs → p.«from» ≡ x
sends_own sc before x i made fits was t p k =
    let stands = stands_before sc before x i made fits was t in
    let good : Good (here sc t (marks_of sc t before) x (life_at (moves_at x before)) i) (step_at (place sc x (life_at (moves_at x before)) i)) =
    good_step (here sc t (marks_of sc t before) x (life_at (moves_at x before)) i) stands (takes_unnumbered x i fits) in
    (good.outs p k).0

-- what the steps of a life told stands in its log
abbrev pub LifeTells : Life → Type 0
LifeTells life = (m : Moment) → IsIn m life.steps → (e : Told) → IsIn e m.told → AllStood life.log e

pub step_tells : (sc : Scenario) (before : List Move) (x : ℕ) (i : Input) → IsMade sc before → MayTake x i → WasSent before i → LifeTells (life_at (moves_at x before))
    → Tells (place sc x (life_at (moves_at x before)) i) (step_of sc.weights x (incarnation_of (moves_at x before)) i)
step_tells sc before x i made fits was keeps =
    tells_step (place sc x (life_at (moves_at x before)) i) (λ t. situation_of (marks_of sc t before)) (λ t. stands_before sc before x i made fits was t) keeps

-- with one more step
life_tells : (sc : Scenario) (x : ℕ) (life : Life) (i : Input) (made : Made) → LifeTells life → Tells (place sc x life i) made → LifeTells (life_by life (site_step i made))
life_tells sc x life i made old new m k = by m (in_parts m life.steps (this ∷ []) k)
  where
    this : Moment
    this = record { before = life.log; input = unnumbered_input i; records = made.records; outs = map unnumbered made.outs; told = made.told }

    by : (m : Moment) → IsIn m life.steps ⊎ IsIn m (this ∷ []) → (e : Told) → IsIn e m.told → AllStood (life.log ++ made.records) e
    by m (inl q) e j s says = in_left (log.Decision s.txn s.dir) life.log made.records (old m q e j s says)
    by m (inr (inl same)) e j s says = new.told e (subst (λ (z : Moment). IsIn e z.told) same j) s says
    by m (inr (inr q)) e j s says = absurd q

pub life_steps : (sc : Scenario) (x : ℕ) (mine : List Move) (i : Input)
    → life_at (mine ++ step_move sc x mine i ∷ []) ≡ life_by (life_at mine) (site_step i (step_of sc.weights x (incarnation_of mine) i))
life_steps sc x mine i = ap life_of (incarnation_push mine (step_move sc x mine i)) ∙ life_push (incarnation_of mine) (site_step i (step_of sc.weights x (incarnation_of mine) i))

-- a life without steps
fresh : (i : Incarnation) (rose : List Record) → i ≡ record { rose = rose; since = [] } → LifeTells (life_of i)
fresh i rose is = subst (λ (z : Incarnation). LifeTells (life_of z)) (sym is) (λ m k. absurd k)

move_tells : (sc : Scenario) (before : List Move) (x : ℕ) (d : Did) → IsMade sc before → IsMadeMove sc before (record { site = x; did = d }) → LifeTells (life_at (moves_at x before))
    → LifeTells (life_at (moves_at x before ++ record { site = x; did = d } ∷ []))
move_tells sc before x (Stepped s) made now keeps =
    subst (λ (m : Move). LifeTells (life_at (moves_at x before ++ m ∷ []))) (sym now.made)
    (subst LifeTells (sym (life_steps sc x (moves_at x before) s.input))
    (life_tells sc x (life_at (moves_at x before)) s.input (step_of sc.weights x (incarnation_of (moves_at x before)) s.input) keeps (step_tells sc before x s.input made now.takes now.was_sent keeps)))
move_tells sc before x (Silent inputs records) made now keeps =
    fresh (incarnation_of (moves_at x before ++ record { site = x; did = Silent inputs records } ∷ [])) (present_log (incarnation_of (moves_at x before)) ++ records)
    (incarnation_push (moves_at x before) (record { site = x; did = Silent inputs records }))
move_tells sc before x (Rose inc records) made now keeps =
    fresh (incarnation_of (moves_at x before ++ record { site = x; did = Rose inc records } ∷ [])) (present_log (incarnation_of (moves_at x before)) ++ records)
    (incarnation_push (moves_at x before) (record { site = x; did = Rose inc records }))

lives_tell : (sc : Scenario) (before rest : List Move) → IsMade sc before → MadeAfter sc before rest → ((x : ℕ) → LifeTells (life_at (moves_at x before)))
    → (x : ℕ) → LifeTells (life_at (moves_at x (before ++ rest)))
lives_tell sc before [] made more keeps x = subst (λ z. LifeTells (life_at (moves_at x z))) (sym (append-nil before)) (keeps x)
lives_tell sc before (m ∷ rest) made more keeps x =
    subst (λ z. LifeTells (life_at (moves_at x z))) (append_assoc before (m ∷ []) rest)
    (lives_tell sc (before ++ m ∷ []) rest (made_append sc [] before (m ∷ []) made (more.0, tt)) more.1 (λ y. now y (cases_eq y m.site)) x)
  where
    now : (y : ℕ) → (y ≡ m.site) ⊎ (y ≡ m.site → ⊥) → LifeTells (life_at (moves_at y (before ++ m ∷ [])))
    now y (inl same) =
        subst (λ z. LifeTells (life_at (moves_at z (before ++ m ∷ [])))) (sym same)
        (subst (λ z. LifeTells (life_at z)) (sym (moves_here before m)) (move_tells sc before m.site m.did made more.0 (keeps m.site)))
    now y (inr other) = subst (λ z. LifeTells (life_at z)) (sym (moves_there y before m other)) (keeps y)

-- what each site's present incarnation told stands in its log
pub made_lives_tell : (sc : Scenario) (trail : List Move) → IsMade sc trail → (x : ℕ) → LifeTells (life_at (moves_at x trail))
made_lives_tell sc trail made x = lives_tell sc [] trail tt made (λ y m k. absurd k) x
