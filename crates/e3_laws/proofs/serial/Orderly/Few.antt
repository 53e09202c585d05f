-- No operation of a vote has a number above 64.
use Rattle.std.proofs.Common.{◌≡◌, inl, inr, ◌==◌, ◌++◌, ◌∷◌, [], ℕ, suc, ◌≤◌, Bool, true, false, List, Option, Some, None, length, refl, sym, subst, ap, ◌∙◌, if◌then◌else◌, append-nil, append_assoc, eqb-true, eq-eqb, nat_le, le-leb, arith}
use Rattle.std.specs.List.{list_all, AllByRecursion as Each}
use Rattle.std.proofs.lemmas.Bool.{and_from, true≢false}
use Rattle.e3_types.specs.declared.entries.Input.{Input}
use Rattle.e3_types.specs.declared.entries.Input.TheVariants as input
use Rattle.e3_types.specs.declared.messages.Message.{Message}
use Rattle.e3_types.specs.declared.messages.Message.TheVariants as msg
use Rattle.e3_types.specs.declared.messages.Packet.{Packet}
use Rattle.e3_types.specs.declared.records.Record.{Record}
use Rattle.e3_types.specs.declared.records.Record.TheVariants as log
use Rattle.e3_types.specs.declared.scenarios.Scenario.{Scenario}
use Rattle.e3_types.specs.declared.transactions.NumOp.{NumOp}
use Rattle.e3_types.specs.declared.transactions.Op.{Op}
use Rattle.e3_types.specs.declared.transactions.Txn.{Txn}
use Rattle.e3_world.specs.declared.lives.Asked.{Asked}
use Rattle.e3_world.specs.declared.lives.At.{At}
use Rattle.e3_world.specs.declared.lives.Life.{Life}
use Rattle.e3_world.specs.declared.lives.Moment.{Moment}
use Rattle.e3_world.specs.Lives.{life_at}
use Rattle.e3_world.specs.Logs.{key_of, logged_inc}
use Rattle.e3_world.specs.Moves.{Did, Stepped, Silent, Rose, Move, moves_at, log_by}
use Rattle.e3_world.specs.Operations.{arrivals, and_arrived, issued, issued_in, taken_up}
use Rattle.e3_world.specs.Sound.{Fits, FitsDo, FitsMessage, FitsPacket, FitsIssue, step_move, FitInTurn, records_in_turn, IsSoundMove, SoundAfter, IsSound}
use Rattle.e3_world.specs.Steps.{step_at}
use Rattle.e3_world.proofs.Pushes.{life_log_at}
use Rattle.e3_laws.proofs.agreement.Refinement.Following.{moves_here, moves_there}
use Rattle.e3_laws.proofs.serial.Step.Arrivals.{arrivals_push}
use Rattle.e3_laws.proofs.serial.Lists.Entries.{In}
use Rattle.e3_laws.proofs.serial.Site.Keeping.{IsRising, next, no_vote}
use Rattle.e3_laws.proofs.serial.Lists.Members.{in_append, in_split}
use Rattle.e3_laws.proofs.serial.Site.Recording.{VoteMade, rule_made, shaped_records, vote_done}
use Rattle.e3_laws.proofs.serial.Step.Shapes.{FromAway, step_shape}
use Rattle.e3_laws.proofs.serial.Site.Sites.{place, life_step, life_silent, life_rose, fits_unnumbered, fits_away, rise_rising, run_in_turn, run_log}
use Rattle.e3_laws.proofs.serial.Step.Steadying.{IsMoment, arrived_in, taken_own}
use Rattle.e3_laws.proofs.serial.Step.Stepping.{moment, is_moment}

-- no operation of these has a number above 64
abbrev pub OpsAreFew : List NumOp → Type 0
OpsAreFew ops = list_all (λ o. nat_le o.n 64) ops ≡ true

-- nor does one in a vote of these records
abbrev pub VotesAreFew : List Record → Type 0
VotesAreFew records = (t : Txn) (ops : List NumOp) → In (log.Vote t ops) records → OpsAreFew ops

-- nor does one that came to the site
record Few (site : ℕ) (life : Life) : Type 0 where
  pub came : (q : Asked) → In q (arrivals site life.steps) → q.n ≤ 64
  pub votes : VotesAreFew life.log

abbrev IfFew : Option Asked → Type 0
IfFew None = Unit {0}
IfFew (Some q) = q.n ≤ 64

-- what a step takes up
taken_few : (weights : List ℕ) (a : At) (m : Moment) → IsMoment a m → Fits weights a.site a.life a.input → IfFew (taken_up a.site a.life.steps m)
taken_few weights a m is fits = by a.input refl fits
  where
    said : (packet : Packet) (x : Message) → a.input ≡ input.Deliver packet → packet.msg ≡ x → FitsPacket weights a.site a.life packet → IfFew (taken_up a.site a.life.steps m)
    said packet (msg.Do t n op) takes says fit =
        let f : FitsDo a.site a.life packet.«from» t n op = subst (λ x. FitsMessage a.site a.life packet.«from» x) says fit.message in
        rw (is.same_input, takes, says) f.high
    said packet x takes says fit = rw (is.same_input, takes, says) tt

    own : (t : Txn) (op : Op) (l : List Op) → a.input ≡ input.Do t op → issued_in t (input.Do t op) m.told ≡ l → FitsIssue weights a.site a.life t (key_of op) →
        IfFew (taken_up a.site a.life.steps m)
    own t op [] takes some fit = rw (is.same_input, takes, some) tt
    own t op (o ∷ os) takes some fit =
        subst (λ z. IfFew z) (sym (taken_own a.site a.life.steps m t op o os (is.same_input ∙ takes) some)) (here ((key_of op).site == a.site) refl)
      where
        here : (b : Bool) → ((key_of op).site == a.site) ≡ b →
            IfFew (if (key_of op).site == a.site then Some (record { txn = t; n = suc (length (issued t a.life.steps)); op = op }) else None)
        here true at = rw at (let few = fit.few in omega (arith, few))
        here false at = rw at tt

    by : (i : Input) → a.input ≡ i → Fits weights a.site a.life i → IfFew (taken_up a.site a.life.steps m)
    by (input.Deliver p) takes fit = said p p.msg takes refl fit
    by (input.Do t op) takes fit = own t op (issued_in t (input.Do t op) m.told) takes refl fit
    by i takes fit = rw (is.same_input, takes) tt

all_from : {X : Type 0} (p : X → Bool) (xs : List X) → ((x : X) → In x xs → p x ≡ true) → list_all p xs ≡ true
all_from p [] h = refl
all_from p (x ∷ xs) h = and_from (p x) (list_all p xs) (h x (inl refl)) (all_from p xs (λ y k. h y (inr k)))

-- one more step
module _ (weights : List ℕ) (a : At) (fits : Fits weights a.site a.life a.input) (away : FromAway a.site a.input) (k : Few a.site a.life) where
  came_few : (q : Asked) → In q (arrivals a.site (a.life.steps ++ moment a ∷ [])) → q.n ≤ 64
  came_few q h =
      by (taken_up a.site a.life.steps (moment a)) (taken_few weights a (moment a) (is_moment a) fits) (subst (λ l. In q l) (arrivals_push a.site a.life.steps (moment a)) h)
    where
      by : (o : Option Asked) → IfFew o → In q (and_arrived (arrivals a.site a.life.steps) (moment a) o) → q.n ≤ 64
      by None few i = k.came q i
      by (Some x) few i = elim (arrived_in (arrivals a.site a.life.steps) (moment a) (Some x) q i) [
        | inl old ↦ k.came q old
        | inr new ↦ (let e : x ≡ q = cc in subst (λ (y : Asked). y.n ≤ 64) e few)
      ]

  -- a vote has what was done, and that came before
  made_few : (before : List Record) (t : Txn) (ops : List NumOp) → VoteMade a before t ops → OpsAreFew ops
  made_few before t ops v = all_from (λ o. nat_le o.n 64) ops (λ o h. (let d = vote_done a before t ops v o h in
      le-leb o.n 64 (subst (λ z. z ≤ 64) d.5 (k.came d.0 d.1))))

  new_few : (t : Txn) (ops : List NumOp) → In (log.Vote t ops) (step_at a).records → OpsAreFew ops
  new_few t ops h = elim (step_shape a away) [
    | inl refused ↦ absurd (subst (λ l. In (log.Vote t ops) l) refused.records h)
    | inr s ↦ (let r = in_split s.rule.records (log.Vote t ops) (subst (λ l. In (log.Vote t ops) l) (shaped_records a (step_at a) s) h) in
        made_few r.0 t ops (rule_made a s.rule s.ruled r.0 r.1 (log.Vote t ops) r.2))
  ]

  few_next : Few a.site (next a)
  few_next = record {
    came = came_few;
    votes = λ t ops h. elim (in_append a.life.log (step_at a).records (log.Vote t ops) h) [ inl old ↦ k.votes t ops old | inr new ↦ new_few t ops new ];
  }

step_few : (sc : Scenario) (site : ℕ) (mine : List Move) (i : Input) → Fits sc.weights site (life_at mine) i → Few site (life_at mine) →
    Few site (life_at (mine ++ step_move sc site mine i ∷ []))
step_few sc site mine i fits k = subst (λ l. Few site l) (sym (life_step sc site mine i))
    (few_next sc.weights (place sc.weights site (life_at mine) i) (fits_unnumbered sc.weights site (life_at mine) i fits) (fits_away sc.weights site (life_at mine) i fits) k)

-- a site that starts anew over this log
rest_few : (site inc : ℕ) (records : List Record) → VotesAreFew records → Few site (record { log = records; inc = inc; steps = [] })
rest_few site inc records votes = record { came = λ q h. absurd h; votes = votes }

rise_few : (mine : List Move) (site : ℕ) (rs : List Record) → Each IsRising rs → Few site (life_at mine) → VotesAreFew (log_by mine ++ rs)
rise_few mine site rs all k t ops h = elim (in_append (log_by mine) rs (log.Vote t ops) h) [
  | inl old ↦ k.votes t ops (subst (λ l. In (log.Vote t ops) l) (sym (life_log_at mine)) old)
  | inr new ↦ absurd (no_vote rs t ops all new)
]

-- the inputs of a tail, one after the other
run_few : (sc : Scenario) (before : List Move) (site : ℕ) (inputs : List Input) (mine : List Move) → FitInTurn sc before site mine inputs → Few site (life_at mine) →
    Few site (life_at (run_in_turn sc site mine inputs))
run_few sc before site [] mine fits k = k
run_few sc before site (i ∷ inputs) mine fits k =
    run_few sc before site inputs (mine ++ step_move sc site mine i ∷ []) fits.2 (step_few sc site mine i fits.0 k)

tail_few : (sc : Scenario) (before : List Move) (site : ℕ) (mine : List Move) (inputs : List Input) (rs : List Record) → FitInTurn sc before site mine inputs →
    rs ≡ records_in_turn sc site mine inputs → Few site (life_at mine) → VotesAreFew (log_by mine ++ rs)
tail_few sc before site mine inputs rs fits made k =
    let ran : List Move = run_in_turn sc site mine inputs in
    subst (λ l. VotesAreFew l) (life_log_at ran ∙ run_log sc site inputs mine ∙ ap (λ l. log_by mine ++ l) (sym made)) (run_few sc before site inputs mine fits k).votes

-- one more move of a site
move_few : (sc : Scenario) (before : List Move) (m : Move) → IsSoundMove sc before m → Few m.site (life_at (moves_at m.site before)) → Few m.site (life_at (moves_at m.site before ++ m ∷ []))
move_few sc before m sound k = by m.did refl sound
  where
    mine : List Move
    mine = moves_at m.site before

    silent : (inputs : List Input) (rs : List Record) → m.did ≡ Silent inputs rs → VotesAreFew (log_by (moves_at m.site before) ++ rs) → Few m.site (life_at (moves_at m.site before ++ m ∷ []))
    silent inputs rs is votes = subst (λ d. Few m.site (life_at (moves_at m.site before ++ record { site = m.site; did = d } ∷ []))) (sym is)
        (subst (λ l. Few m.site l) (sym (life_silent m.site (moves_at m.site before) inputs rs)) (rest_few m.site (logged_inc (log_by (moves_at m.site before) ++ rs)) _ votes))

    by : (d : Did) → m.did ≡ d → IsSoundMove sc before (record { site = m.site; did = d }) → Few m.site (life_at (moves_at m.site before ++ m ∷ []))
    by (Stepped s) is h = subst (λ x. Few m.site (life_at (moves_at m.site before ++ x ∷ []))) (sym (here is ∙ h.made)) (step_few sc m.site (moves_at m.site before) s.input h.fits k)
      where
        here : m.did ≡ Stepped s → m ≡ record { site = m.site; did = Stepped s }
        here e = λ i. record { site = m.site; did = e i }
    by (Silent [] rs) is h = silent [] rs is (rise_few (moves_at m.site before) m.site rs
        (subst (λ l. Each IsRising l) (sym h.1.made) (rise_rising sc m.site h.0 (log_by (moves_at m.site before)))) k)
    by (Silent (i ∷ inputs) rs) is h = silent (i ∷ inputs) rs is (tail_few sc before m.site (moves_at m.site before) (i ∷ inputs) rs h.fits h.made k)
    by (Rose inc rs) is h = subst (λ d. Few m.site (life_at (moves_at m.site before ++ record { site = m.site; did = d } ∷ []))) (sym is)
        (subst (λ l. Few m.site l) (sym (life_rose m.site (moves_at m.site before) inc rs)) (rest_few m.site (logged_inc (log_by (moves_at m.site before) ++ rs)) _
        (rise_few (moves_at m.site before) m.site rs (subst (λ l. Each IsRising l) (sym h.made) (rise_rising sc m.site inc (log_by (moves_at m.site before)))) k)))

-- all sites
abbrev AllFew : List Move → Type 0
AllFew trail = (site : ℕ) → Few site (life_at (moves_at site trail))

push_few : (sc : Scenario) (before : List Move) (m : Move) → IsSoundMove sc before m → AllFew before → AllFew (before ++ m ∷ [])
push_few sc before m sound k site = by (m.site == site) refl
  where
    by : (b : Bool) → (m.site == site) ≡ b → Few site (life_at (moves_at site (before ++ m ∷ [])))
    by true e = subst (λ x. Few x (life_at (moves_at x (before ++ m ∷ [])))) (eqb-true m.site site e)
        (subst (λ l. Few m.site (life_at l)) (sym (moves_here before m)) (move_few sc before m sound (k m.site)))
    by false e = subst (λ l. Few site (life_at l)) (sym (moves_there site before m (λ q. true≢false (sym (eq-eqb m.site site (sym q)) ∙ e)))) (k site)

after_few : (sc : Scenario) (rest before : List Move) → SoundAfter sc before rest → AllFew before → AllFew (before ++ rest)
after_few sc [] before sound k = λ site. subst (λ l. Few site (life_at (moves_at site l))) (sym (append-nil before)) (k site)
after_few sc (m ∷ rest) before sound k = λ site. subst (λ l. Few site (life_at (moves_at site l))) (append_assoc before (m ∷ []) rest)
    (after_few sc rest (before ++ m ∷ []) sound.1 (push_few sc before m sound.0 k) site)

-- the votes of a sound trail
pub votes_are_few : (sc : Scenario) (trail : List Move) (site : ℕ) → IsSound sc trail → VotesAreFew (log_by (moves_at site trail))
votes_are_few sc trail site sound =
    subst (λ l. VotesAreFew l) (life_log_at (moves_at site trail)) (after_few sc trail [] sound (λ s. rest_few s 0 [] (λ t ops h. absurd h)) site).votes
