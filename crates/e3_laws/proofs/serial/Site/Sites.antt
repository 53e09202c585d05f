-- What each site keeps along a sound trail.
use Rattle.std.proofs.Common.{◌≡◌, ◌≢◌, ◌⊎◌, inl, inr, ◌==◌, ◌++◌, ◌∷◌, [], ℕ, Bool, true, false, List, map, refl, sym, subst, ap, ◌∙◌, append-nil, append_assoc, eqb-true, eq-eqb}
use Rattle.std.specs.List.{AllByRecursion as Each}
use Rattle.std.proofs.lemmas.Bool.{true≢false, false_from_ne_true}
use Rattle.e3_types.specs.declared.entries.Input.{Input}
use Rattle.e3_types.specs.declared.entries.Input.TheVariants as input
use Rattle.e3_types.specs.declared.records.Record.{Record}
use Rattle.e3_types.specs.declared.records.Record.TheVariants as log
use Rattle.e3_types.specs.declared.scenarios.Scenario.{Scenario}
use Rattle.e3_types.specs.Locks.{front}
use Rattle.e3_world.specs.declared.lives.At.{At}
use Rattle.e3_world.specs.declared.lives.Life.{Life}
use Rattle.e3_world.specs.Logs.{logged_inc}
use Rattle.e3_world.specs.Sound.{Fits}
use Rattle.e3_world.specs.Steps.{step_at, step_of}
use Rattle.e3_laws.proofs.serial.Step.Shapes.{FromAway, step_shape}
use Rattle.e3_laws.proofs.serial.Step.Steadying.{others_lack}
use Rattle.e3_world.specs.Moves.{unnumbered}
use Rattle.e3_laws.proofs.serial.Site.Recording.{RecordMade, rule_made, shaped_records}
use Rattle.e3_laws.proofs.serial.Site.Keeping.{Keeps, next, append_split, step_keeps, IsRising, rise_keeps, start_keeps}
use Rattle.e3_world.specs.Lives.{incarnation_of, life_of, life_at}
use Rattle.e3_world.specs.Moves.{Did, Stepped, Silent, Rose, Move, moves_at, recorded, log_by, birth, rise_records, unnumbered_input}
use Rattle.e3_world.specs.Sound.{step_move, has_risen, FitInTurn, records_in_turn, IsSoundMove, SoundAfter, IsSound}
use Rattle.e3_world.proofs.Pushes.{incarnation_push, life_push, log_push, present_is_log, life_log_at}
use Rattle.e3_laws.proofs.agreement.Refinement.Following.{moves_here, moves_there}
use Rattle.e3_laws.proofs.steps.Lists.{fold_last}

-- whether a record may stand first, and where
abbrev pub Born : Scenario → ℕ → List Record → Record → Type 0
Born sc site before (log.Birth f n w rows) = (before ≡ []) × (log.Birth f n w rows ≡ birth sc site)
Born sc site before r = before ≢ []

abbrev pub AllBorn : Scenario → ℕ → List Record → Type 0
AllBorn sc site records = (before after : List Record) (r : Record) → records ≡ before ++ r ∷ after → Born sc site before r

-- what a site keeps behind its moves
pub record SiteKeeps (sc : Scenario) (site : ℕ) (mine : List Move) : Type 0 where
  pub keeps : Keeps site (life_at mine)
  pub born : AllBorn sc site (log_by mine)
  pub risen : has_risen mine ≡ true → log_by mine ≢ []

-- the life behind a move
life_rest : (mine : List Move) (rs : List Record) → Life
life_rest mine rs = record { log = log_by mine ++ rs; inc = logged_inc (log_by mine ++ rs); steps = [] }

abbrev rested : List Record → Life
rested records = record { log = records; inc = logged_inc records; steps = [] }

pub life_silent : (site : ℕ) (mine : List Move) (inputs : List Input) (rs : List Record) → life_at (mine ++ record { site = site; did = Silent inputs rs } ∷ []) ≡ rested (log_by mine ++ rs)
life_silent site mine inputs rs = ap life_of (incarnation_push mine (record { site = site; did = Silent inputs rs })) ∙ ap (λ l. rested (l ++ rs)) (present_is_log mine)

pub life_rose : (site : ℕ) (mine : List Move) (inc : ℕ) (rs : List Record) → life_at (mine ++ record { site = site; did = Rose inc rs } ∷ []) ≡ rested (log_by mine ++ rs)
life_rose site mine inc rs = ap life_of (incarnation_push mine (record { site = site; did = Rose inc rs })) ∙ ap (λ l. rested (l ++ rs)) (present_is_log mine)

-- the place of a step
abbrev pub place : List ℕ → ℕ → Life → Input → At
place weights site life i = record { weights = weights; site = site; life = life; input = unnumbered_input i }

pub life_step : (sc : Scenario) (site : ℕ) (mine : List Move) (i : Input) → life_at (mine ++ step_move sc site mine i ∷ []) ≡ next (place sc.weights site (life_at mine) i)
life_step sc site mine i =
    ap life_of (incarnation_push mine (step_move sc site mine i))
    ∙ life_push (incarnation_of mine) (record {
      input = unnumbered_input i;
      records = (step_of sc.weights site (incarnation_of mine) i).records;
      outs = map unnumbered (step_of sc.weights site (incarnation_of mine) i).outs;
      told = (step_of sc.weights site (incarnation_of mine) i).told;
    })

-- what fits a site fits it without the packet's number
pub fits_unnumbered : (weights : List ℕ) (site : ℕ) (life : Life) (i : Input) → Fits weights site life i → Fits weights site life (unnumbered_input i)
fits_unnumbered weights site life (input.Deliver packet) f = record { among = f.among; to = f.to; sender = f.sender; message = f.message }
fits_unnumbered weights site life (input.Begin sites) f = f
fits_unnumbered weights site life (input.Do t op) f = f
fits_unnumbered weights site life (input.Commit t) f = f
fits_unnumbered weights site life (input.Cancel t) f = f
fits_unnumbered weights site life (input.Expire t) f = f
fits_unnumbered weights site life (input.Elect t group) f = f

pub fits_away : (weights : List ℕ) (site : ℕ) (life : Life) (i : Input) → Fits weights site life i → FromAway site (unnumbered_input i)
fits_away weights site life (input.Deliver packet) f = false_from_ne_true _ (λ y. others_lack site packet.«from» (Rattle.e3_world.specs.Sound.txn_in packet.msg).sites f.sender (eqb-true packet.«from» site y))
fits_away weights site life (input.Begin sites) f = tt
fits_away weights site life (input.Do t op) f = tt
fits_away weights site life (input.Commit t) f = tt
fits_away weights site life (input.Cancel t) f = tt
fits_away weights site life (input.Expire t) f = tt
fits_away weights site life (input.Elect t group) f = tt

-- a list with more is not empty
more_some : {X : Type 0} (xs ys : List X) → xs ≢ [] → xs ++ ys ≢ []
more_some [] ys some e = some refl
more_some (x ∷ xs) ys some e = cc

front_some : {X : Type 0} (xs before : List X) → before ≡ xs → xs ≢ [] → before ≢ []
front_some xs before e some z = some (sym e ∙ z)

-- records of transactions are born behind others
born_later : (sc : Scenario) (site : ℕ) (before : List Record) (r : Record) → before ≢ [] → (IsRising r → ⊥) ⊎ ((n : ℕ) × (r ≡ log.Inc n)) → Born sc site before r
born_later sc site before (log.Birth f n w rows) some (inl h) = absurd (h tt)
born_later sc site before (log.Birth f n w rows) some (inr h) = absurd (let e : log.Birth f n w rows ≡ log.Inc h.0 = h.1 in cc)
born_later sc site before (log.Inc n) some h = some
born_later sc site before (log.Vote t ops) some h = some
born_later sc site before (log.Join t n) some h = some
born_later sc site before (log.Attempt t n d) some h = some
born_later sc site before (log.Decision t d) some h = some

no_rising : (a : At) (before : List Record) (r : Record) → RecordMade a before r → IsRising r → ⊥
no_rising a before (log.Birth f n w rows) m h = m
no_rising a before (log.Inc n) m h = m
no_rising a before (log.Vote t ops) m h = h
no_rising a before (log.Decision t d) m h = h
no_rising a before (log.Join t n) m h = h
no_rising a before (log.Attempt t n d) m h = h

-- the records of a step, over those before it
pub step_record : (a : At) → FromAway a.site a.input → (before after : List Record) (r : Record) → (step_at a).records ≡ before ++ r ∷ after → IsRising r → ⊥
step_record a away before after r e h = elim (step_shape a away) [
  | inl refused ↦ none before (sym refused.records ∙ e)
  | inr s ↦ no_rising a before r (rule_made a s.rule s.ruled before after r (sym (shaped_records a (step_at a) s) ∙ e)) h
]
  where
    none : (l : List Record) → [] ≡ l ++ r ∷ after → ⊥
    none [] q = cc
    none (x ∷ l) q = cc

-- a step
pub step_site : (sc : Scenario) (site : ℕ) (mine : List Move) (i : Input) → SiteKeeps sc site mine → has_risen mine ≡ true → Fits sc.weights site (life_at mine) i → SiteKeeps sc site (mine ++ step_move sc site mine i ∷ [])
step_site sc site mine i k up fits = record {
  keeps = subst (λ l. Keeps site l) (sym (life_step sc site mine i)) (step_keeps sc.weights a k.keeps (fits_unnumbered sc.weights site (life_at mine) i fits) away);
  born = λ before after r e. born before after r (append_split (log_by mine) (recorded (step_move sc site mine i)) before r after (sym (log_push mine (step_move sc site mine i)) ∙ e));
  risen = λ u e. more_some (log_by mine) (recorded (step_move sc site mine i)) (k.risen up) (sym (log_push mine (step_move sc site mine i)) ∙ e);
}
  where
    a : At
    a = place sc.weights site (life_at mine) i

    away : FromAway site (unnumbered_input i)
    away = fits_away sc.weights site (life_at mine) i fits

    born : (before after : List Record) (r : Record) → ((rest : List Record) × (log_by mine ≡ before ++ r ∷ rest)) ⊎ ((front : List Record) × (before ≡ log_by mine ++ front) × (recorded (step_move sc site mine i) ≡ front ++ r ∷ after)) → Born sc site before r
    born before after r (inl old) = k.born before old.0 r old.1
    born before after r (inr x) = born_later sc site before r (λ e. more_some (log_by mine) x.0 (k.risen up) (sym x.1 ∙ e))
        (inl (step_record (place sc.weights site (life_at mine) i) away x.0 after r x.2))

-- the records of a rise
pub rise_rising : (sc : Scenario) (site inc : ℕ) (records : List Record) → Each IsRising (rise_records sc site inc records)
rise_rising sc site inc [] = (tt, (tt, tt))
rise_rising sc site inc (r ∷ rs) = (tt, tt)

rise_born : (sc : Scenario) (site inc : ℕ) (records : List Record) → AllBorn sc site records → AllBorn sc site (records ++ rise_records sc site inc records)
rise_born sc site inc [] born [] after r e = let p : birth sc site ≡ r = cc in subst (λ z. Born sc site [] z) p (refl, refl)
rise_born sc site inc [] born (x ∷ []) after r e = let p : log.Inc inc ≡ r = cc in subst (λ z. Born sc site (x ∷ []) z) p (λ q. cc)
rise_born sc site inc [] born (x ∷ y ∷ before) after r e = absurd (none before (let p : [] ≡ before ++ r ∷ after = cc in p))
  where
    none : (l : List Record) → [] ≡ l ++ r ∷ after → ⊥
    none [] q = cc
    none (z ∷ l) q = cc
rise_born sc site inc (x ∷ records) born before after r e = by (append_split (x ∷ records) (log.Inc inc ∷ []) before r after e)
  where
    one : (front : List Record) → log.Inc inc ∷ [] ≡ front ++ r ∷ after → r ≡ log.Inc inc
    one [] q = let p : log.Inc inc ≡ r = cc in sym p
    one (z ∷ []) q = absurd (let p : [] ≡ r ∷ after = cc in cc)
    one (z ∷ w ∷ front) q = absurd (let p : [] ≡ (w ∷ front) ++ r ∷ after = cc in cc)

    by : ((rest : List Record) × (x ∷ records ≡ before ++ r ∷ rest)) ⊎ ((front : List Record) × (before ≡ (x ∷ records) ++ front) × (log.Inc inc ∷ [] ≡ front ++ r ∷ after)) → Born sc site before r
    by (inl old) = born before old.0 r old.1
    by (inr z) = born_later sc site before r (λ q. more_some (x ∷ records) z.0 (λ w. cc) (sym z.1 ∙ q)) (inr (inc, one z.0 z.2))

pub rise_some : (sc : Scenario) (site inc : ℕ) (records : List Record) → records ++ rise_records sc site inc records ≢ []
rise_some sc site inc [] e = cc
rise_some sc site inc (r ∷ rs) e = cc

-- a life of the log that the moves make
log_same : (mine : List Move) → (life_at mine).log ≡ log_by mine
log_same mine = life_log_at mine

rest_keeps : (site : ℕ) (mine : List Move) (rs : List Record) → Each IsRising rs → Keeps site (life_at mine) → Keeps site (rested (log_by mine ++ rs))
rest_keeps site mine rs all k = subst (λ l. Keeps site (record { log = l ++ rs; inc = logged_inc (log_by mine ++ rs); steps = [] })) (life_log_at mine) (rise_keeps site (life_at mine) (logged_inc (log_by mine ++ rs)) rs all k)

pub silent_down : (site : ℕ) (mine : List Move) (inputs : List Input) (rs : List Record) → has_risen (mine ++ record { site = site; did = Silent inputs rs } ∷ []) ≡ false
silent_down site mine inputs rs = fold_last _ false mine (record { site = site; did = Silent inputs rs })

pub step_up : (sc : Scenario) (site : ℕ) (mine : List Move) (i : Input) → has_risen mine ≡ true → has_risen (mine ++ step_move sc site mine i ∷ []) ≡ true
step_up sc site mine i up = fold_last _ false mine (step_move sc site mine i) ∙ up

-- a tail without inputs, and a rise
rest_born : (sc : Scenario) (site : ℕ) (mine : List Move) (m : Move) (inc : ℕ) → recorded m ≡ rise_records sc site inc (log_by mine) → AllBorn sc site (log_by mine) → AllBorn sc site (log_by (mine ++ m ∷ []))
rest_born sc site mine m inc is born before after r e =
    rise_born sc site inc (log_by mine) born before after r (ap (λ l. log_by mine ++ l) (sym is) ∙ sym (log_push mine m) ∙ e)

silent_site : (sc : Scenario) (site : ℕ) (mine : List Move) (inc : ℕ) (inputs : List Input) (rs : List Record) → rs ≡ rise_records sc site inc (log_by mine) → SiteKeeps sc site mine →
    SiteKeeps sc site (mine ++ record { site = site; did = Silent inputs rs } ∷ [])
silent_site sc site mine inc inputs rs is k = record {
  keeps = subst (λ l. Keeps site l) (sym (life_silent site mine inputs rs)) (rest_keeps site mine rs (subst (λ l. Each IsRising l) (sym is) (rise_rising sc site inc (log_by mine))) k.keeps);
  born = rest_born sc site mine (record { site = site; did = Silent inputs rs }) inc is k.born;
  risen = λ u. absurd (true≢false (sym u ∙ silent_down site mine inputs rs));
}

rose_site : (sc : Scenario) (site : ℕ) (mine : List Move) (inc : ℕ) (rs : List Record) → rs ≡ rise_records sc site inc (log_by mine) → SiteKeeps sc site mine →
    SiteKeeps sc site (mine ++ record { site = site; did = Rose inc rs } ∷ [])
rose_site sc site mine inc rs is k = record {
  keeps = subst (λ l. Keeps site l) (sym (life_rose site mine inc rs)) (rest_keeps site mine rs (subst (λ l. Each IsRising l) (sym is) (rise_rising sc site inc (log_by mine))) k.keeps);
  born = rest_born sc site mine (record { site = site; did = Rose inc rs }) inc is k.born;
  risen = λ u e. rise_some sc site inc (log_by mine) (ap (λ l. log_by mine ++ l) (sym is) ∙ sym (log_push mine (record { site = site; did = Rose inc rs })) ∙ e);
}

-- the inputs of a tail, one after the other
abbrev pub run_in_turn : Scenario → ℕ → List Move → List Input → List Move
run_in_turn sc site mine [] = mine
run_in_turn sc site mine (i ∷ inputs) = run_in_turn sc site (mine ++ step_move sc site mine i ∷ []) inputs

pub run_site : (sc : Scenario) (before : List Move) (site : ℕ) (inputs : List Input) (mine : List Move) → has_risen mine ≡ true → FitInTurn sc before site mine inputs → SiteKeeps sc site mine →
    SiteKeeps sc site (run_in_turn sc site mine inputs)
run_site sc before site [] mine up fits k = k
run_site sc before site (i ∷ inputs) mine up fits k =
    run_site sc before site inputs (mine ++ step_move sc site mine i ∷ []) (step_up sc site mine i up) fits.2 (step_site sc site mine i k up fits.0)

pub run_log : (sc : Scenario) (site : ℕ) (inputs : List Input) (mine : List Move) → log_by (run_in_turn sc site mine inputs) ≡ log_by mine ++ records_in_turn sc site mine inputs
run_log sc site [] mine = sym (append-nil (log_by mine))
run_log sc site (i ∷ inputs) mine =
    run_log sc site inputs (mine ++ step_move sc site mine i ∷ [])
    ∙ ap (λ l. l ++ records_in_turn sc site (mine ++ step_move sc site mine i ∷ []) inputs) (log_push mine (step_move sc site mine i))
    ∙ append_assoc (log_by mine) (recorded (step_move sc site mine i)) (records_in_turn sc site (mine ++ step_move sc site mine i ∷ []) inputs)

-- a tail that was kept
tail_site : (sc : Scenario) (before : List Move) (site : ℕ) (mine : List Move) (inputs : List Input) (rs : List Record) → has_risen mine ≡ true → FitInTurn sc before site mine inputs →
    rs ≡ records_in_turn sc site mine inputs → SiteKeeps sc site mine → SiteKeeps sc site (mine ++ record { site = site; did = Silent inputs rs } ∷ [])
tail_site sc before site mine inputs rs up fits is k = record {
  keeps = subst (λ l. Keeps site l) (sym (life_silent site mine inputs rs))
      (subst (λ l. Keeps site (rested l)) (append-nil (log_by (run_in_turn sc site mine inputs)) ∙ log)
      (rest_keeps site (run_in_turn sc site mine inputs) [] tt (run_site sc before site inputs mine up fits k).keeps));
  born = λ prior after r e. (run_site sc before site inputs mine up fits k).born prior after r (log ∙ sym (log_push mine (record { site = site; did = Silent inputs rs })) ∙ e);
  risen = λ u. absurd (true≢false (sym u ∙ silent_down site mine inputs rs));
}
  where
    log : log_by (run_in_turn sc site mine inputs) ≡ log_by mine ++ rs
    log = run_log sc site inputs mine ∙ ap (λ l. log_by mine ++ l) (sym is)

-- one more move of a site
move_site : (sc : Scenario) (before : List Move) (m : Move) → IsSoundMove sc before m → SiteKeeps sc m.site (moves_at m.site before) → SiteKeeps sc m.site (moves_at m.site before ++ m ∷ [])
move_site sc before m sound k = by m.did refl sound
  where
    Ends : Move → Type 0
    Ends x = SiteKeeps sc m.site (moves_at m.site before ++ x ∷ [])

    by : (d : Did) → m.did ≡ d → IsSoundMove sc before (record { site = m.site; did = d }) → SiteKeeps sc m.site (moves_at m.site before ++ m ∷ [])
    by (Stepped s) is h = subst (λ x. SiteKeeps sc m.site (moves_at m.site before ++ x ∷ [])) (sym (here is ∙ h.made)) (step_site sc m.site (moves_at m.site before) s.input k h.risen h.fits)
      where
        here : m.did ≡ Stepped s → m ≡ record { site = m.site; did = Stepped s }
        here e = λ i. record { site = m.site; did = e i }
    by (Silent [] rs) is h = subst (λ d. SiteKeeps sc m.site (moves_at m.site before ++ record { site = m.site; did = d } ∷ [])) (sym is) (silent_site sc m.site (moves_at m.site before) h.0 [] rs h.1.made k)
    by (Silent (i ∷ inputs) rs) is h = subst (λ d. SiteKeeps sc m.site (moves_at m.site before ++ record { site = m.site; did = d } ∷ [])) (sym is)
        (tail_site sc before m.site (moves_at m.site before) (i ∷ inputs) rs h.risen h.fits h.made k)
    by (Rose inc rs) is h = subst (λ d. SiteKeeps sc m.site (moves_at m.site before ++ record { site = m.site; did = d } ∷ [])) (sym is) (rose_site sc m.site (moves_at m.site before) inc rs h.made k)

-- all sites
abbrev pub AllKeep : Scenario → List Move → Type 0
AllKeep sc trail = (site : ℕ) → SiteKeeps sc site (moves_at site trail)

pub move_keeps : (sc : Scenario) (before : List Move) (m : Move) → IsSoundMove sc before m → AllKeep sc before → AllKeep sc (before ++ m ∷ [])
move_keeps sc before m sound k site = by (m.site == site) refl
  where
    by : (b : Bool) → (m.site == site) ≡ b → SiteKeeps sc site (moves_at site (before ++ m ∷ []))
    by true e = subst (λ x. SiteKeeps sc x (moves_at x (before ++ m ∷ []))) (eqb-true m.site site e)
        (subst (λ l. SiteKeeps sc m.site l) (sym (moves_here before m)) (move_site sc before m sound (k m.site)))
    by false e = subst (λ l. SiteKeeps sc site l) (sym (moves_there site before m (λ q. true≢false (sym (eq-eqb m.site site (sym q)) ∙ e)))) (k site)

start_site : (sc : Scenario) (site : ℕ) → SiteKeeps sc site []
start_site sc site = record { keeps = start_keeps site 0; born = λ before after r e. absurd (none before r after e); risen = λ u. absurd (true≢false (sym u)) }
  where
    none : (before : List Record) (r : Record) (after : List Record) → [] ≡ before ++ r ∷ after → ⊥
    none [] r after e = cc
    none (x ∷ before) r after e = cc

after_keep : (sc : Scenario) (rest before : List Move) → SoundAfter sc before rest → AllKeep sc before → AllKeep sc (before ++ rest)
after_keep sc [] before sound k = λ site. subst (λ l. SiteKeeps sc site (moves_at site l)) (sym (append-nil before)) (k site)
after_keep sc (m ∷ rest) before sound k = λ site. subst (λ l. SiteKeeps sc site (moves_at site l)) (append_assoc before (m ∷ []) rest)
    (after_keep sc rest (before ++ m ∷ []) sound.1 (move_keeps sc before m sound.0 k) site)

pub all_keep : (sc : Scenario) (trail : List Move) → IsSound sc trail → AllKeep sc trail
all_keep sc trail sound = after_keep sc trail [] sound (start_site sc)
