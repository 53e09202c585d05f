-- Over all sites of a legal history whoever waits is older than all whom it waits for, so no chain of waits comes back.
use Rattle.std.proofs.Common.{◌≡◌, ◌⊎◌, inl, inr, ◌==◌, ◌++◌, ◌∷◌, [], ℕ, Bool, true, false, List, refl, sym, subst, ap, ◌∙◌, append-nil, append_assoc, eqb-true, eq-eqb}
use Rattle.std.proofs.lemmas.Bool.{true≢false}
use Rattle.e3_types.specs.declared.entries.Entry.{Entry}
use Rattle.e3_types.specs.declared.entries.Input.{Input}
use Rattle.e3_types.specs.declared.locks.Lock.{Lock}
use Rattle.e3_types.specs.declared.scenarios.Scenario.{Scenario}
use Rattle.e3_types.specs.declared.transactions.Txn.{Txn}
use Rattle.e3_types.specs.Locks.{conflicts, opposes}
use Rattle.e3_types.specs.Same.{is_older}
use Rattle.e3_types.proofs.Orders.{older_irreflexive, older_transitive}
use Rattle.e3_laws.proofs.agreement.Refinement.Following.{moves_here, moves_there}
use Rattle.e3_world.specs.declared.lives.Life.{Life}
use Rattle.e3_world.specs.Given.{IsGiven}
use Rattle.e3_world.specs.Legal.{IsLegal}
use Rattle.e3_world.specs.Lives.{life_at}
use Rattle.e3_world.specs.Logs.{is_undecided, mode_of}
use Rattle.e3_world.specs.Moves.{Did, Stepped, Silent, Rose, Move, moves_at, moves_of, trail_of}
use Rattle.e3_world.specs.Operations.{arrivals, is_answered, waiting, holders, queue}
use Rattle.e3_world.specs.Sound.{Fits, step_move, IsSoundMove, SoundAfter, IsSound}
use Rattle.e3_world.proofs.Trails.{trail_moves}
use Rattle.e3_laws.specs.steps.Trails.{TrailsAreSound}
use Rattle.e3_laws.proofs.serial.Lists.Entries.{In, Sorted, name_of}
use Rattle.e3_laws.proofs.serial.Lists.Members.{in_append, in_front, in_back, at_in, sorted_filter, sorted_around}
use Rattle.e3_laws.proofs.serial.Lists.Facts.{contains_at}
use Rattle.e3_laws.proofs.serial.Step.Stepping.{waits_parts}
use Rattle.e3_laws.proofs.serial.Site.Holding.{held_for}
use Rattle.e3_laws.proofs.serial.Site.Sites.{SiteKeeps, AllKeep, place, life_silent, life_rose, life_step, fits_unnumbered, fits_away, move_keeps, all_keep}
use Rattle.e3_laws.specs.serial.Waits.{OlderWaits, NoCycle}
use Rattle.e3_laws.specs.serial.Waiters.{wanted, in_its_way, WaitsAt, WaitsThrough}
use Rattle.e3_laws.proofs.serial.Waits.Clashing.{opposed_parts, mode_clash, against_lock, queue_in}
use Rattle.e3_laws.proofs.serial.Waits.Standing.{Younger, EldersWait, elders_start, elders_push}

-- one more move of a site
move_elders : (sc : Scenario) (before : List Move) (m : Move) → IsSoundMove sc before m → SiteKeeps sc m.site (moves_at m.site before) → EldersWait m.site (life_at (moves_at m.site before)) →
    EldersWait m.site (life_at (moves_at m.site before ++ m ∷ []))
move_elders sc before m sound k w = by m.did refl sound
  where
    step : (i : Input) → Fits sc.weights m.site (life_at (moves_at m.site before)) i → EldersWait m.site (life_at (moves_at m.site before ++ step_move sc m.site (moves_at m.site before) i ∷ []))
    step i fits = subst (λ l. EldersWait m.site l) (sym (life_step sc m.site (moves_at m.site before) i))
        (elders_push sc.weights (place sc.weights m.site (life_at (moves_at m.site before)) i) k.keeps (fits_unnumbered sc.weights m.site (life_at (moves_at m.site before)) i fits)
        (fits_away sc.weights m.site (life_at (moves_at m.site before)) i fits) w)

    rest : (d : Did) → m.did ≡ d → (life_at (moves_at m.site before ++ record { site = m.site; did = d } ∷ [])).steps ≡ [] → EldersWait m.site (life_at (moves_at m.site before ++ m ∷ []))
    rest d is none = elders_start m.site (life_at (moves_at m.site before ++ m ∷ []))
        (ap (λ d. (life_at (moves_at m.site before ++ record { site = m.site; did = d } ∷ [])).steps) is ∙ none)

    by : (d : Did) → m.did ≡ d → IsSoundMove sc before (record { site = m.site; did = d }) → EldersWait m.site (life_at (moves_at m.site before ++ m ∷ []))
    by (Stepped s) is h = subst (λ x. EldersWait m.site (life_at (moves_at m.site before ++ x ∷ []))) (sym (here ∙ h.made)) (step s.input h.fits)
      where
        here : m ≡ record { site = m.site; did = Stepped s }
        here = λ i. record { site = m.site; did = is i }
    by (Silent inputs rs) is h = rest (Silent inputs rs) is (ap (λ (l : Life). l.steps) (life_silent m.site (moves_at m.site before) inputs rs))
    by (Rose inc rs) is h = rest (Rose inc rs) is (ap (λ (l : Life). l.steps) (life_rose m.site (moves_at m.site before) inc rs))

-- all sites
abbrev pub AllElders : List Move → Type 0
AllElders trail = (site : ℕ) → EldersWait site (life_at (moves_at site trail))

moves_elders : (sc : Scenario) (before : List Move) (m : Move) → IsSoundMove sc before m → AllKeep sc before → AllElders before → AllElders (before ++ m ∷ [])
moves_elders sc before m sound k w site = by (m.site == site) refl
  where
    by : (b : Bool) → (m.site == site) ≡ b → EldersWait site (life_at (moves_at site (before ++ m ∷ [])))
    by true e = subst (λ x. EldersWait x (life_at (moves_at x (before ++ m ∷ [])))) (eqb-true m.site site e)
        (subst (λ l. EldersWait m.site (life_at l)) (sym (moves_here before m)) (move_elders sc before m sound (k m.site) (w m.site)))
    by false e = subst (λ l. EldersWait site (life_at l)) (sym (moves_there site before m (λ q. true≢false (sym (eq-eqb m.site site (sym q)) ∙ e)))) (w site)

after_elders : (sc : Scenario) (rest before : List Move) → SoundAfter sc before rest → AllKeep sc before → AllElders before → AllElders (before ++ rest)
after_elders sc [] before sound k w = λ site. subst (λ l. EldersWait site (life_at (moves_at site l))) (sym (append-nil before)) (w site)
after_elders sc (m ∷ rest) before sound k w = λ site. subst (λ l. EldersWait site (life_at (moves_at site l))) (append_assoc before (m ∷ []) rest)
    (after_elders sc rest (before ++ m ∷ []) sound.1 (move_keeps sc before m sound.0 k) (moves_elders sc before m sound.0 k w) site)

pub all_elders : (sc : Scenario) (trail : List Move) → IsSound sc trail → AllElders trail
all_elders sc trail sound = after_elders sc trail [] sound (all_keep sc [] tt) (λ site. elders_start site (life_at []) refl)

-- whoever waits at such a site is older than whom it waits for
pub older_at : (site : ℕ) (life : Life) → EldersWait site life → (t u : Txn) → WaitsAt site life t u → is_older t u ≡ true
older_at site life w t u at = by (in_append (holders site (name_of at.one.op) life.log life.steps) (queue (name_of at.one.op) at.ahead) l.0 l.1)
  where
    waits : In at.one (waiting site life.log life.steps)
    waits = subst (λ l. In at.one l) (sym at.waits) (in_back at.ahead (at.one ∷ at.behind) at.one (inl refl))

    parts : In at.one (arrivals site life.steps) × (is_undecided at.one.txn life.log ≡ true) × (is_answered life.steps at.one ≡ false)
    parts = waits_parts site life.log life.steps at.one waits

    l : (l : Lock) × In l (holders site (name_of at.one.op) life.log life.steps ++ queue (name_of at.one.op) at.ahead) × (opposes (wanted at.one) l ≡ true) × (l.txn ≡ u)
    l =
        let c = contains_at (in_its_way site life at.ahead at.one) u at.other in
        against_lock (wanted at.one) (holders site (name_of at.one.op) life.log life.steps ++ queue (name_of at.one.op) at.ahead) u (at_in (in_its_way site life at.ahead at.one) c.0 u c.1)

    from : is_older at.one.txn l.0.txn ≡ true → is_older t u ≡ true
    from h = subst (λ z. is_older z u ≡ true) at.its (subst (λ z. is_older at.one.txn z ≡ true) l.3 h)

    by : In l.0 (holders site (name_of at.one.op) life.log life.steps) ⊎ In l.0 (queue (name_of at.one.op) at.ahead) → is_older t u ≡ true
    by (inl h) =
        let f = held_for site (name_of at.one.op) life.log life.steps l.0 h in
        let o = opposed_parts (wanted at.one) l.0 l.2 in
        from (w.holders at.one parts.0 (parts.1, parts.2) l.0.txn f.op f.undecided f.holds o.0
        (mode_clash at.one.op f.op (sym f.name_is) (subst (λ m. conflicts m (mode_of at.one.op) ≡ true) (sym f.mode_is) o.1)))
    by (inr h) =
        let x = queue_in (name_of at.one.op) at.ahead l.0 h in
        let o = opposed_parts (wanted at.one) l.0 l.2 in
        let younger = (sorted_around (Younger life.log life.steps) at.ahead at.one at.behind (subst (λ l. Sorted (Younger life.log life.steps) l) at.waits
        (sorted_filter (Younger life.log life.steps) _ (arrivals site life.steps) w.ahead))).0 x.0 x.1 in
        let p = waits_parts site life.log life.steps x.0 (subst (λ l. In x.0 l) (sym at.waits) (in_front at.ahead (at.one ∷ at.behind) x.0 x.1)) in
        from (subst (λ z. is_older at.one.txn z ≡ true) x.3 (younger (p.1, p.2) (parts.1, parts.2) (λ e. o.0 (e ∙ x.3))
        (mode_clash at.one.op x.0.op (sym x.2) (subst (λ m. conflicts m (mode_of at.one.op) ≡ true) (sym x.4) o.1))))

pub older_waits : TrailsAreSound → OlderWaits
older_waits sound sc h given legal t u waits =
    older_at waits.0 (life_at (moves_of sc h waits.0))
    (subst (λ l. EldersWait waits.0 (life_at l)) (trail_moves sc waits.0 h) (all_elders sc (trail_of sc h) (sound sc h given legal) waits.0)) t u waits.1

-- through a chain too
older_through : OlderWaits → (sc : Scenario) (h : List Entry) → IsGiven sc → IsLegal sc h → (t : Txn) (between : List Txn) (u : Txn) → WaitsThrough sc h t between u → is_older t u ≡ true
older_through older sc h given legal t [] u waits = older sc h given legal t u waits
older_through older sc h given legal t (v ∷ between) u waits =
    older_transitive t v u (older sc h given legal t v waits.0) (older_through older sc h given legal v between u waits.1)

pub no_cycle : OlderWaits → NoCycle
no_cycle older sc h given legal t between waits = true≢false (sym (older_through older sc h given legal t between t waits) ∙ older_irreflexive t)
