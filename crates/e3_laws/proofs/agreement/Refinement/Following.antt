-- The marks of a trail whose moves are what their inputs make may be made.
use Rattle.std.proofs.Common.{false, true, ◌≡◌, ◌⊎◌, inl, inr, ◌∷◌, [], ◌++◌, ◌==◌, ℕ, zero, suc, List, map, refl, sym, ap, subst, ◌∙◌, arith, eqb-true, eq-eqb, append-nil, append_assoc}
use Rattle.std.specs.Prelude.{Contains}
use Rattle.std.specs.List.{flat_map}
use Rattle.std.proofs.lemmas.Bool.{cases_eq, cond-true, cond-false, false_from_ne_true}
use Rattle.std.proofs.lemmas.List.Concat.{flat_map-append}
use Rattle.std.proofs.lemmas.List.Elements.{Contains-append_cases, filter-append}
use Rattle.e3_types.specs.declared.entries.Input.{Input}
use Rattle.e3_types.specs.declared.entries.Input.TheVariants as input
use Rattle.e3_types.specs.declared.messages.Packet.{Packet}
use Rattle.e3_types.specs.declared.records.Record.{Record}
use Rattle.e3_types.specs.declared.records.Record.TheVariants as log
use Rattle.e3_types.specs.declared.transactions.Dir.TheVariants.{Commit}
use Rattle.e3_types.specs.declared.scenarios.Scenario.{Scenario}
use Rattle.e3_types.specs.declared.transactions.Txn.{Txn}
use Rattle.e3_world.specs.declared.lives.Incarnation.{Incarnation}
use Rattle.e3_world.specs.declared.lives.Life.{Life}
use Rattle.e3_world.specs.declared.lives.Made.{Made}
use Rattle.e3_world.specs.declared.lives.SiteStep.{SiteStep}
use Rattle.e3_world.specs.Lives.{present_log, incarnation_of, life_of, life_by, life_at}
use Rattle.e3_world.specs.Moves.{Did, Stepped, Silent, Rose, Move, moves_at, log_by, rise_records, unnumbered, unnumbered_input}
use Rattle.e3_world.specs.Sound.{sends, WasSent, step_move, records_in_turn}
use Rattle.e3_world.specs.Steps.{step_of}
use Rattle.e3_world.proofs.Pushes.{incarnation_push, life_push, log_push, present_is_log, life_log_at}
use Rattle.e3_laws.specs.agreement.Logs.{IsIn}
use Rattle.e3_laws.specs.agreement.Rules.{Party, Letter, letter, Reachable, Start, Came}
use Rattle.e3_laws.specs.agreement.Marks.{Mark, behind, log_of, sent_of, situation_of, AllowedAfter, Allowed}
use Rattle.e3_laws.specs.agreement.Weights.{party_of}
use Rattle.e3_laws.specs.agreement.Views.{notes_of, leader_of, words_of, letters_in, letters_of}
use Rattle.e3_laws.specs.agreement.Trails.{silent_marks, marks_in, marks_after, marks_of, TakenInTurn, IsMadeTail, IsMadeRise, IsMadeMove, MadeAfter, IsMade}
use Rattle.e3_laws.specs.agreement.Rows.{IsWell, MayTake, IsFromAway, Reads, WasHeard}
use Rattle.e3_laws.proofs.agreement.Refinement.Lists.{in_map, in_left, in_right}
use Rattle.e3_laws.proofs.agreement.Refinement.Readings.{reads_more}
use Rattle.e3_laws.proofs.agreement.Refinement.Growing.{here, SiteOk, sent_stays, site_stays, step_mark, site_step, Stepping, stepping}
use Rattle.e3_laws.proofs.agreement.Protocol.Reached.{in_parts, sent_more}

pub in_from_contains : {X : Type 0} (xs : List X) (x : X) → Contains xs x → IsIn x xs
in_from_contains [] x has = absurd (omega (arith, has.1))
in_from_contains (y ∷ ys) x has = elim (Contains-append_cases (y ∷ []) ys x has) [
  | inl first ↦ inl (sym (only y x first))
  | inr rest ↦ inr (in_from_contains ys x rest)
]
  where
    only : {X : Type 0} (y x : X) → Contains (y ∷ []) x → y ≡ x
    only y x (zero, low, is) = is
    only y x (suc k, low, is) = absurd (omega (arith, low))

-- the letters of the packets that moves sent are among those of the marks
abbrev pub SentOk : Txn → List Move → List Mark → Type 0
SentOk t before marks = (p : Packet) → IsIn p (flat_map sends before) → (q : Letter) → IsIn q (letters_in t p) → IsIn q (sent_of marks)

sent_later : (t : Txn) (before : List Move) (marks : List Mark) (m : Mark) → SentOk t before marks → SentOk t before (marks ++ m ∷ [])
sent_later t before marks m ok p k q j = sent_stays marks m q (ok p k q j)

pub in_map_to : {X Y : Type 0} (f : X → Y) (x : X) (xs : List X) → IsIn x xs → IsIn (f x) (map f xs)
in_map_to f x [] k = absurd k
in_map_to f x (y ∷ ys) (inl e) = inl (ap f e)
in_map_to f x (y ∷ ys) (inr k) = inr (in_map_to f x ys k)

-- what a step takes was heard
-- the packet that an input delivers is among the packets that these moves sent
abbrev pub Delivers : List Move → Input → Type 0
Delivers before (input.Deliver packet) = IsIn packet (flat_map sends before)
Delivers before i = Unit {0}

was_heard : (sc : Scenario) (t : Txn) (before : List Move) (marks : List Mark) (x : ℕ) (life : Life) (i : Input) → SentOk t before marks → MayTake x i → Delivers before i
    → WasHeard (here sc t marks x life i) (unnumbered_input i)
was_heard sc t before marks x life (input.Deliver packet) ok fits was = λ w k.
    subst (λ y. Came (sent_of marks) packet.«from» y w) fits
    (ok packet was (letter packet.«from» packet.to w) (in_map_to (letter packet.«from» packet.to) w (words_of t packet.msg) k))
was_heard sc t before marks x life (input.Begin sites) ok fits was = tt
was_heard sc t before marks x life (input.Do u op) ok fits was = tt
was_heard sc t before marks x life (input.Commit u) ok fits was = tt
was_heard sc t before marks x life (input.Cancel u) ok fits was = tt
was_heard sc t before marks x life (input.Expire u) ok fits was = tt
was_heard sc t before marks x life (input.Elect u group) ok fits was = tt

-- packets go to other sites than those that send them
abbrev pub OutsOk : List Move → Type 0
OutsOk before = (p : Packet) → IsIn p (flat_map sends before) → (p.to == p.«from») ≡ false

from_away : (before : List Move) (x : ℕ) (i : Input) → OutsOk before → MayTake x i → Delivers before i → IsFromAway x (unnumbered_input i)
from_away before x (input.Deliver packet) ok fits was =
    let apart : (packet.to == packet.«from») ≡ false = ok packet was in
    false_from_ne_true (packet.«from» == x) (λ q. (let same : (packet.to == packet.«from») ≡ true = eq-eqb packet.to packet.«from» (fits ∙ sym (eqb-true packet.«from» x q)) in cc))
from_away before x (input.Begin sites) ok fits was = tt
from_away before x (input.Do u op) ok fits was = tt
from_away before x (input.Commit u) ok fits was = tt
from_away before x (input.Cancel u) ok fits was = tt
from_away before x (input.Expire u) ok fits was = tt
from_away before x (input.Elect u group) ok fits was = tt

-- what is sent to x among all these moves, was sent by the first of them
abbrev SentFirst : List Move → List Move → ℕ → Type 0
SentFirst before all x = (p : Packet) → IsIn p (flat_map sends all) → p.to ≡ x → IsIn p (flat_map sends before)

delivers : (before all : List Move) (x : ℕ) (i : Input) → SentFirst before all x → MayTake x i → WasSent all i → Delivers before i
delivers before all x (input.Deliver packet) first fits was = first packet (in_from_contains (flat_map sends all) packet was) fits
delivers before all x (input.Begin sites) first fits was = tt
delivers before all x (input.Do u op) first fits was = tt
delivers before all x (input.Commit u) first fits was = tt
delivers before all x (input.Cancel u) first fits was = tt
delivers before all x (input.Expire u) first fits was = tt
delivers before all x (input.Elect u group) first fits was = tt

leader_unnumbered : (x : ℕ) (i : Input) → leader_of x (unnumbered_input i) ≡ leader_of x i
leader_unnumbered x (input.Deliver packet) = refl
leader_unnumbered x (input.Begin sites) = refl
leader_unnumbered x (input.Do u op) = refl
leader_unnumbered x (input.Commit u) = refl
leader_unnumbered x (input.Cancel u) = refl
leader_unnumbered x (input.Expire u) = refl
leader_unnumbered x (input.Elect u group) = refl

letters_unnumbered : (t : Txn) (ps : List Packet) → letters_of t (map unnumbered ps) ≡ letters_of t ps
letters_unnumbered t [] = refl
letters_unnumbered t (p ∷ ps) = ap (λ z. letters_in t p ++ z) (letters_unnumbered t ps)

allowed_append : (g : Party) (before xs ys : List Mark) → AllowedAfter g before xs → AllowedAfter g (before ++ xs) ys → AllowedAfter g before (xs ++ ys)
allowed_append g before [] ys a b = subst (λ z. AllowedAfter g z ys) (append-nil before) b
allowed_append g before (m ∷ xs) ys a b =
    (a.0, allowed_append g (before ++ m ∷ []) xs ys a.1 (subst (λ z. AllowedAfter g z ys) (sym (append_assoc before (m ∷ []) xs)) b))

-- the move of a step, and the life behind it
abbrev made_at : Scenario → ℕ → List Move → Input → Made
made_at sc x mine i = step_of sc.weights x (incarnation_of mine) i

life_steps : (sc : Scenario) (x : ℕ) (mine : List Move) (i : Input) → life_at (mine ++ step_move sc x mine i ∷ []) ≡ life_by (life_at mine) (site_step i (made_at sc x mine i))
life_steps sc x mine i = ap life_of (incarnation_push mine (step_move sc x mine i)) ∙ life_push (incarnation_of mine) (site_step i (made_at sc x mine i))

-- the marks of inputs whose steps nobody saw
pub record Chain (sc : Scenario) (t : Txn) (before : List Move) (marks : List Mark) (x : ℕ) (records : List Record) : Type 0 where
  pub reach : Reachable (party_of sc.weights t) (situation_of marks)
  pub sent : SentOk t before marks
  pub well : (p : Letter) → IsIn p (sent_of marks) → IsWell t p
  pub reads : Reads t records (log_of x marks)
  pub others : (y : ℕ) → (y ≡ x → ⊥) → SiteOk sc t marks y (life_at (moves_at y before))

pub sends_with : (before : List Move) (m : Move) → flat_map sends (before ++ m ∷ []) ≡ flat_map sends before ++ sends m
sends_with before m = flat_map-append sends before (m ∷ []) ∙ ap (λ z. flat_map sends before ++ z) (append-nil (sends m))

first_more : (before all : List Move) (x : ℕ) (m : Move) → SentFirst before all x → ((p : Packet) → IsIn p (sends m) → p.to ≡ x → ⊥) → SentFirst before (all ++ m ∷ []) x
first_more before all x m first none p k q = by (in_parts p (flat_map sends all) (sends m) (subst (λ z. IsIn p z) (sends_with all m) k))
  where
    by : IsIn p (flat_map sends all) ⊎ IsIn p (sends m) → IsIn p (flat_map sends before)
    by (inl old) = first p old q
    by (inr new) = absurd (none p new q)

-- a step sends nothing to its own site
none_here : (x : ℕ) (made : Made) → ((p : Packet) → IsIn p made.outs → (p.«from» ≡ x) × ((p.to == x) ≡ false)) → (p : Packet) → IsIn p (map unnumbered made.outs) → p.to ≡ x → ⊥
none_here x made outs p k q =
    let f = in_map unnumbered p made.outs k in
    let apart : (f.0.to == x) ≡ false = (outs f.0 f.1).1 in
    let to : p.to ≡ f.0.to = ap (λ (z : Packet). z.to) f.2 in
    let same : (f.0.to == x) ≡ true = eq-eqb f.0.to x (sym to ∙ q) in
    cc

silent_ok : (sc : Scenario) (t : Txn) (before all : List Move) (marks : List Mark) (x : ℕ) (mine : List Move) (inputs : List Input)
    → Reachable (party_of sc.weights t) (situation_of marks) → SentOk t before marks → OutsOk before → ((p : Letter) → IsIn p (sent_of marks) → IsWell t p) → SiteOk sc t marks x (life_at mine)
    → ((y : ℕ) → (y ≡ x → ⊥) → SiteOk sc t marks y (life_at (moves_at y before))) → SentFirst before all x → TakenInTurn sc all x mine inputs
    → AllowedAfter (party_of sc.weights t) marks (silent_marks sc t x mine inputs)
    × Chain sc t before (marks ++ silent_marks sc t x mine inputs) x (log_by mine ++ records_in_turn sc x mine inputs)
silent_ok sc t before all marks x mine [] reach sent outs well ok others first fit = (
  tt,
  subst (λ z. Chain sc t before z x (log_by mine ++ [])) (sym (append-nil marks)) (record {
    reach = reach;
    sent = sent;
    well = well;
    reads = subst (λ z. Reads t z (log_of x marks)) (life_log_at mine ∙ sym (append-nil (log_by mine))) ok.reads;
    others = others;
  }),
)
silent_ok sc t before all marks x mine (i ∷ inputs) reach sent outs well ok others first fit =
    let made : Made = made_at sc x mine i in
    let mark : Mark = step_mark t x i made [] in
    let came : Delivers before i = delivers before all x i first fit.0 fit.1 in
    let step : Stepping sc t marks x (life_at mine) i [] = stepping sc t marks x (life_at mine) i [] reach ok well fit.0 (was_heard sc t before marks x (life_at mine) i sent fit.0 came) (from_away before x i outs fit.0 came) (λ p k. absurd k) in
    let same : mark ≡ record { site = x; notes = notes_of t (leader_of x i) made.records; sends = [] } =
    ap (λ e. let m : Mark = record { site = x; notes = notes_of t e made.records; sends = [] } in m) (leader_unnumbered x i) in
    let rest = silent_ok sc t before (all ++ step_move sc x mine i ∷ []) (marks ++ mark ∷ []) x (mine ++ step_move sc x mine i ∷ []) inputs step.reach (sent_later t before marks mark sent) outs step.well
    (subst (λ z. SiteOk sc t (marks ++ mark ∷ []) x z) (sym (life_steps sc x mine i)) step.site)
    (λ y other. site_stays sc t (party_of sc.weights t) marks mark y (life_at (moves_at y before)) other (others y other)) (first_more before all x (step_move sc x mine i) first (λ p k q. none_here x made step.outs p k q)) fit.2 in
    let logs : log_by (mine ++ step_move sc x mine i ∷ []) ++ records_in_turn sc x (mine ++ step_move sc x mine i ∷ []) inputs ≡ log_by mine ++ records_in_turn sc x mine (i ∷ inputs) =
    ap (λ z. z ++ records_in_turn sc x (mine ++ step_move sc x mine i ∷ []) inputs) (log_push mine (step_move sc x mine i))
    ∙ append_assoc (log_by mine) made.records (records_in_turn sc x (mine ++ step_move sc x mine i ∷ []) inputs) in
    subst (λ (m : Mark). AllowedAfter (party_of sc.weights t) marks (m ∷ silent_marks sc t x (mine ++ step_move sc x mine i ∷ []) inputs)
    × Chain sc t before (marks ++ m ∷ silent_marks sc t x (mine ++ step_move sc x mine i ∷ []) inputs) x (log_by mine ++ records_in_turn sc x mine (i ∷ inputs))) same (
      (step.may, rest.0),
      subst (λ z. Chain sc t before (marks ++ mark ∷ silent_marks sc t x (mine ++ step_move sc x mine i ∷ []) inputs) x z) logs
          (subst (λ z. Chain sc t before z x (log_by (mine ++ step_move sc x mine i ∷ []) ++ records_in_turn sc x (mine ++ step_move sc x mine i ∷ []) inputs))
          (append_assoc marks (mark ∷ []) (silent_marks sc t x (mine ++ step_move sc x mine i ∷ []) inputs)) rest.1),
    )

-- the moves of the site of a move, and of another
pub moves_here : (before : List Move) (m : Move) → moves_at m.site (before ++ m ∷ []) ≡ moves_at m.site before ++ m ∷ []
moves_here before m = filter-append (λ k. k.site == m.site) before (m ∷ []) ∙ ap (λ z. moves_at m.site before ++ z) (cond-true (m.site == m.site) (m ∷ []) [] (eq-eqb m.site m.site refl))

pub moves_there : (x : ℕ) (before : List Move) (m : Move) → (x ≡ m.site → ⊥) → moves_at x (before ++ m ∷ []) ≡ moves_at x before
moves_there x before m other =
    filter-append (λ k. k.site == x) before (m ∷ [])
    ∙ ap (λ z. moves_at x before ++ z) (cond-false (m.site == x) (m ∷ []) [] (false_from_ne_true (m.site == x) (λ q. other (sym (eqb-true m.site x q)))))
    ∙ append-nil (moves_at x before)

-- what is carried along a trail
pub record TrailOk (sc : Scenario) (t : Txn) (before : List Move) (marks : List Mark) : Type 0 where
  pub reach : Reachable (party_of sc.weights t) (situation_of marks)
  pub sent : SentOk t before marks
  pub outs : OutsOk before
  pub well : (p : Letter) → IsIn p (sent_of marks) → IsWell t p
  pub sites : (x : ℕ) → SiteOk sc t marks x (life_at (moves_at x before))

-- with a move of one site
sites_with : (sc : Scenario) (t : Txn) (before : List Move) (m : Move) (marks : List Mark) → SiteOk sc t marks m.site (life_at (moves_at m.site before ++ m ∷ []))
    → ((y : ℕ) → (y ≡ m.site → ⊥) → SiteOk sc t marks y (life_at (moves_at y before))) → (x : ℕ) → SiteOk sc t marks x (life_at (moves_at x (before ++ m ∷ [])))
sites_with sc t before m marks own others x = go (cases_eq x m.site)
  where
    go : (x ≡ m.site) ⊎ (x ≡ m.site → ⊥) → SiteOk sc t marks x (life_at (moves_at x (before ++ m ∷ [])))
    go (inl same) =
        subst (λ y. SiteOk sc t marks y (life_at (moves_at y (before ++ m ∷ [])))) (sym same)
        (subst (λ z. SiteOk sc t marks m.site (life_at z)) (sym (moves_here before m)) own)
    go (inr other) = subst (λ z. SiteOk sc t marks x (life_at z)) (sym (moves_there x before m other)) (others x other)

-- a move that sends nothing
sent_quiet : (t : Txn) (before : List Move) (m : Move) (marks : List Mark) → sends m ≡ [] → SentOk t before marks → SentOk t (before ++ m ∷ []) marks
sent_quiet t before m marks none ok p k q j =
    ok p (subst (λ z. IsIn p z) (sends_with before m ∙ ap (λ z. flat_map sends before ++ z) none ∙ append-nil (flat_map sends before)) k) q j

outs_quiet : (before : List Move) (m : Move) → sends m ≡ [] → OutsOk before → OutsOk (before ++ m ∷ [])
outs_quiet before m none ok p k = ok p (subst (λ z. IsIn p z) (sends_with before m ∙ ap (λ z. flat_map sends before ++ z) none ∙ append-nil (flat_map sends before)) k)

in_letters : (t : Txn) (p : Packet) (ps : List Packet) (q : Letter) → IsIn p ps → IsIn q (letters_in t p) → IsIn q (letters_of t ps)
in_letters t p [] q k j = absurd k
in_letters t p (r ∷ ps) q (inl e) j = in_left q (letters_in t r) (letters_of t ps) (subst (λ (z : Packet). IsIn q (letters_in t z)) e j)
in_letters t p (r ∷ ps) q (inr k) j = in_right q (letters_in t r) (letters_of t ps) (in_letters t p ps q k j)

-- a rise writes nothing of a transaction
rise_notes : (sc : Scenario) (t : Txn) (e site inc : ℕ) (records : List Record) → notes_of t e (rise_records sc site inc records) ≡ []
rise_notes sc t e site inc [] = refl
rise_notes sc t e site inc (r ∷ rs) = refl

-- a life without steps
fresh_site : (sc : Scenario) (t : Txn) (marks : List Mark) (x : ℕ) (i : Incarnation) → i.since ≡ [] → Reads t i.rose (log_of x marks) → SiteOk sc t marks x (life_of i)
fresh_site sc t marks x i none reads =
    subst (λ (z : List SiteStep). SiteOk sc t marks x (life_of (record { rose = i.rose; since = z }))) (sym none) (record { reads = reads; left = λ j m k. absurd k })

abbrev MoveOk : Scenario → Txn → List Move → List Mark → Move → Type 0
MoveOk sc t before marks m = AllowedAfter (party_of sc.weights t) marks (marks_in sc t before m) × TrailOk sc t (before ++ m ∷ []) (marks ++ marks_in sc t before m)

-- a rise, or a failed one
rise_ok : (sc : Scenario) (t : Txn) (before : List Move) (marks : List Mark) (m : Move) (inc : ℕ) (records : List Record) → TrailOk sc t before marks → IsMadeRise sc before m.site inc records
    → sends m ≡ [] → life_at (moves_at m.site before ++ m ∷ []) ≡ life_of (record { rose = present_log (incarnation_of (moves_at m.site before)) ++ records; since = [] })
    → TrailOk sc t (before ++ m ∷ []) (marks ++ [])
rise_ok sc t before marks m inc records ok sound quiet life =
    subst (λ z. TrailOk sc t (before ++ m ∷ []) z) (sym (append-nil marks)) (record {
      reach = ok.reach;
      sent = sent_quiet t before m marks quiet ok.sent;
      outs = outs_quiet before m quiet ok.outs;
      well = ok.well;
      sites = sites_with sc t before m marks (subst (λ z. SiteOk sc t marks m.site z) (sym life) own) (λ y other. ok.sites y);
    })
  where
    mine : List Move
    mine = moves_at m.site before

    was : Reads t (present_log (incarnation_of mine)) (log_of m.site marks)
    was = subst (λ z. Reads t z (log_of m.site marks)) (life_log_at mine ∙ sym (present_is_log mine)) (ok.sites m.site).reads

    none : notes_of t 0 records ≡ []
    none = ap (notes_of t 0) sound ∙ rise_notes sc t 0 m.site inc (log_by mine)

    now : Reads t (present_log (incarnation_of mine) ++ records) (log_of m.site marks)
    now = subst (λ ns. Reads t (present_log (incarnation_of mine) ++ records) (behind (log_of m.site marks) ns)) none (reads_more t 0 (present_log (incarnation_of mine)) (log_of m.site marks) records was)

    own : SiteOk sc t marks m.site (life_of (record { rose = present_log (incarnation_of mine) ++ records; since = [] }))
    own = fresh_site sc t marks m.site (record { rose = present_log (incarnation_of mine) ++ records; since = [] }) refl now

-- the inputs of a tail that was kept
tail_ok : (sc : Scenario) (t : Txn) (before : List Move) (marks : List Mark) (x : ℕ) (i : Input) (inputs : List Input) (records : List Record) → TrailOk sc t before marks
    → IsMadeTail sc before x (i ∷ inputs) records → MoveOk sc t before marks (record { site = x; did = Silent (i ∷ inputs) records })
tail_ok sc t before marks x i inputs records ok sound = (
  chain.0,
  record {
    reach = chain.1.reach;
    sent = sent_quiet t before m later refl chain.1.sent;
    outs = outs_quiet before m refl ok.outs;
    well = chain.1.well;
    sites = sites_with sc t before m later (subst (λ z. SiteOk sc t later x z) (sym life) own) chain.1.others;
  },
)
  where
    m : Move
    m = record { site = x; did = Silent (i ∷ inputs) records }

    mine : List Move
    mine = moves_at x before

    later : List Mark
    later = marks ++ silent_marks sc t x mine (i ∷ inputs)

    chain : AllowedAfter (party_of sc.weights t) marks (silent_marks sc t x mine (i ∷ inputs)) × Chain sc t before later x (log_by mine ++ records_in_turn sc x mine (i ∷ inputs))
    chain = silent_ok sc t before before marks x mine (i ∷ inputs) ok.reach ok.sent ok.outs ok.well (ok.sites x) (λ y other. ok.sites y) (λ p k q. k) sound.takes

    life : life_at (mine ++ m ∷ []) ≡ life_of (record { rose = present_log (incarnation_of mine) ++ records; since = [] })
    life = ap life_of (incarnation_push mine m)

    own : SiteOk sc t later x (life_of (record { rose = present_log (incarnation_of mine) ++ records; since = [] }))
    own = fresh_site sc t later x (record { rose = present_log (incarnation_of mine) ++ records; since = [] }) refl
        (subst (λ z. Reads t z (log_of x later)) (ap (λ z. log_by mine ++ z) (sym sound.made) ∙ ap (λ z. z ++ records) (sym (present_is_log mine))) chain.1.reads)

-- a step
step_ok : (sc : Scenario) (t : Txn) (before : List Move) (marks : List Mark) (x : ℕ) (i : Input) → TrailOk sc t before marks → MayTake x i → WasSent before i
    → MoveOk sc t before marks (step_move sc x (moves_at x before) i)
step_ok sc t before marks x i ok fits was =
    subst (λ (k : Mark). AllowedAfter (party_of sc.weights t) marks (k ∷ []) × TrailOk sc t (before ++ m ∷ []) (marks ++ k ∷ [])) same (
      (step.may, tt),
      record {
        reach = step.reach;
        sent = sent;
        outs = outs;
        well = step.well;
        sites = sites_with sc t before m (marks ++ mark ∷ []) (subst (λ z. SiteOk sc t (marks ++ mark ∷ []) x z) (sym (life_steps sc x mine i)) step.site)
            (λ y other. site_stays sc t (party_of sc.weights t) marks mark y (life_at (moves_at y before)) other (ok.sites y));
      },
    )
  where
    mine : List Move
    mine = moves_at x before

    made : Made
    made = made_at sc x mine i

    m : Move
    m = step_move sc x mine i

    came : Delivers before i
    came = delivers before before x i (λ p k q. k) fits was

    mark : Mark
    mark = step_mark t x i made (letters_of t made.outs)

    step : Stepping sc t marks x (life_at mine) i (letters_of t made.outs)
    step = stepping sc t marks x (life_at mine) i (letters_of t made.outs) ok.reach (ok.sites x) ok.well fits (was_heard sc t before marks x (life_at mine) i ok.sent fits came) (from_away before x i ok.outs fits came) (λ p k. k)

    same : mark ≡ record { site = x; notes = notes_of t (leader_of x (unnumbered_input i)) made.records; sends = letters_of t (map unnumbered made.outs) }
    same = ap (λ ls. let k : Mark = record { site = x; notes = notes_of t (leader_of x (unnumbered_input i)) made.records; sends = ls } in k) (sym (letters_unnumbered t made.outs))

    outs : OutsOk (before ++ m ∷ [])
    outs p k = by (in_parts p (flat_map sends before) (map unnumbered made.outs) (subst (λ z. IsIn p z) (sends_with before m) k))
      where
        by : IsIn p (flat_map sends before) ⊎ IsIn p (map unnumbered made.outs) → (p.to == p.«from») ≡ false
        by (inl old) = ok.outs p old
        by (inr new) =
            let f = in_map unnumbered p made.outs new in
            let o = step.outs f.0 f.1 in
            subst (λ (z : Packet). (z.to == z.«from») ≡ false) (sym f.2) (subst (λ y. (f.0.to == y) ≡ false) (sym o.0) o.1)

    sent : SentOk t (before ++ m ∷ []) (marks ++ mark ∷ [])
    sent p k q j = by (in_parts p (flat_map sends before) (map unnumbered made.outs) (subst (λ z. IsIn p z) (sends_with before m) k))
      where
        by : IsIn p (flat_map sends before) ⊎ IsIn p (map unnumbered made.outs) → IsIn q (sent_of (marks ++ mark ∷ []))
        by (inl old) = sent_stays marks mark q (ok.sent p old q j)
        by (inr new) =
            subst (λ z. IsIn q z) (sym (sent_more marks mark))
            (in_right q (sent_of marks) (letters_of t made.outs) (subst (λ z. IsIn q z) (letters_unnumbered t made.outs) (in_letters t p (map unnumbered made.outs) q new j)))

move_ok : (sc : Scenario) (t : Txn) (before : List Move) (marks : List Mark) (x : ℕ) (d : Did) → TrailOk sc t before marks → IsMadeMove sc before (record { site = x; did = d })
    → MoveOk sc t before marks (record { site = x; did = d })
move_ok sc t before marks x (Stepped s) ok sound =
    subst (λ (m : Move). MoveOk sc t before marks m) (sym sound.made) (step_ok sc t before marks x s.input ok sound.takes sound.was_sent)
move_ok sc t before marks x (Silent [] records) ok sound =
    (tt, rise_ok sc t before marks (record { site = x; did = Silent [] records }) sound.0 records ok sound.1 refl (ap life_of (incarnation_push (moves_at x before) (record { site = x; did = Silent [] records }))))
move_ok sc t before marks x (Silent (i ∷ inputs) records) ok sound = tail_ok sc t before marks x i inputs records ok sound
move_ok sc t before marks x (Rose inc records) ok sound =
    (tt, rise_ok sc t before marks (record { site = x; did = Rose inc records }) inc records ok sound refl (ap life_of (incarnation_push (moves_at x before) (record { site = x; did = Rose inc records }))))

pub trail_ok : (sc : Scenario) (t : Txn) (before rest : List Move) (marks : List Mark) → TrailOk sc t before marks → MadeAfter sc before rest
    → AllowedAfter (party_of sc.weights t) marks (marks_after sc t before rest) × TrailOk sc t (before ++ rest) (marks ++ marks_after sc t before rest)
trail_ok sc t before [] marks ok sound =
    (tt, subst (λ z. TrailOk sc t z (marks ++ [])) (sym (append-nil before)) (subst (λ z. TrailOk sc t before z) (sym (append-nil marks)) ok))
trail_ok sc t before (m ∷ rest) marks ok sound =
    let now : MoveOk sc t before marks m = move_ok sc t before marks m.site m.did ok sound.0 in
    let more = trail_ok sc t (before ++ m ∷ []) rest (marks ++ marks_in sc t before m) now.1 sound.1 in (
      allowed_append (party_of sc.weights t) marks (marks_in sc t before m) (marks_after sc t (before ++ m ∷ []) rest) now.0 more.0,
      subst (λ z. TrailOk sc t z (marks ++ marks_after sc t before (m ∷ rest))) (append_assoc before (m ∷ []) rest)
          (subst (λ z. TrailOk sc t ((before ++ m ∷ []) ++ rest) z) (append_assoc marks (marks_in sc t before m) (marks_after sc t (before ++ m ∷ []) rest)) more.1),
    )

-- at first nothing was done
none : {P : Type 0} (c : Record) (front after : List Record) → [] ≡ front ++ c ∷ after → P
none c [] after is = cc
none c (x ∷ front) after is = cc

pub start_ok : (sc : Scenario) (t : Txn) → TrailOk sc t [] []
start_ok sc t = record {
  reach = Start (λ x. refl) refl;
  sent = λ p k. absurd k;
  outs = λ p k. absurd k;
  well = λ p k. absurd k;
  sites = λ x. record {
    reads = record { elects = refl; attempts = refl; decides = refl; tries = refl; votes = refl; holds = λ u n d same k. absurd k; keeps = λ u d same k. absurd k; commits = λ u front after same is o. none (log.Decision u Commit) front after is };
    left = λ i m k. absurd k;
  };
}

-- the marks of such a trail may be made
pub made_allowed : (sc : Scenario) (t : Txn) (trail : List Move) → IsMade sc trail → Allowed (party_of sc.weights t) (marks_of sc t trail)
made_allowed sc t trail sound = (trail_ok sc t [] trail [] (start_ok sc t) sound).0

-- and what is carried stands behind it
pub made_ok : (sc : Scenario) (t : Txn) (trail : List Move) → IsMade sc trail → TrailOk sc t trail (marks_of sc t trail)
made_ok sc t trail sound = (trail_ok sc t [] trail [] (start_ok sc t) sound).1
