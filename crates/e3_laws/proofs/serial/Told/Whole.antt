-- The stories of all sites along a sound trail.
use Rattle.std.proofs.Common.{◌≡◌, ◌⊎◌, inl, inr, ◌==◌, ◌++◌, ◌∷◌, [], ℕ, suc, ◌<◌, Bool, true, false, List, fold, map, refl, sym, subst, ap, ◌∙◌, append-nil, append_assoc, eqb-true, eq-eqb, arith, Contains}
use Rattle.std.specs.List.{flat_map, AllByRecursion as Each}
use Rattle.std.proofs.lemmas.Bool.{true≢false}
use Rattle.std.proofs.lemmas.Grind.{flat_map-append}
use Rattle.e3_types.specs.declared.entries.Input.{Input}
use Rattle.e3_types.specs.declared.entries.Input.TheVariants as input
use Rattle.e3_types.specs.declared.messages.Packet.{Packet}
use Rattle.e3_types.specs.declared.records.Record.{Record}
use Rattle.e3_types.specs.declared.records.Record.TheVariants as log
use Rattle.e3_types.specs.declared.scenarios.Scenario.{Scenario}
use Rattle.e3_types.specs.declared.transactions.NumOp.{NumOp}
use Rattle.e3_types.specs.declared.transactions.Op.{Op}
use Rattle.e3_types.specs.declared.transactions.Txn.{Txn}
use Rattle.e3_world.specs.declared.lives.At.{At}
use Rattle.e3_world.specs.Logs.{logged_inc}
use Rattle.e3_world.specs.Operations.{issued_in}
use Rattle.e3_world.specs.Steps.{step_of}
use Rattle.e3_laws.proofs.serial.Lists.Entries.{In}
use Rattle.e3_laws.proofs.serial.Lists.Members.{in_append, in_front, filter_in}
use Rattle.e3_world.specs.Moves.{unnumbered}
use Rattle.e3_laws.proofs.serial.Step.Stepping.{in_flat}
use Rattle.e3_laws.proofs.serial.Site.Holding.{in_flat_from}
use Rattle.e3_laws.proofs.serial.Lists.Members.{in_split}
use Rattle.e3_laws.proofs.serial.Site.Keeping.{rising_in, append_split, IsRising}
use Rattle.e3_world.specs.declared.lives.SiteStep.{SiteStep}
use Rattle.e3_world.specs.Lives.{incarnation_of, life_at}
use Rattle.e3_world.specs.Moves.{Did, Stepped, Silent, Rose, Move, moves_at, recorded, log_by, rise_records, unnumbered_input}
use Rattle.e3_world.specs.Sound.{sends, WasSent, step_move, has_risen, IsSoundStep, FitInTurn, records_in_turn, IsSoundMove, SoundAfter, IsSound}
use Rattle.e3_world.proofs.Pushes.{log_push, life_log_at}
use Rattle.e3_laws.proofs.agreement.Refinement.Following.{moves_here, moves_there, in_from_contains}
use Rattle.e3_laws.proofs.serial.Site.Sites.{rise_rising, silent_down, run_in_turn, run_log, life_silent, life_rose, step_record, step_up, fits_unnumbered, fits_away, step_site, SiteKeeps, place, life_step, AllKeep, move_keeps, all_keep}
use Rattle.e3_laws.proofs.serial.Told.Stories.{VoteOf, Story, GoesOn, story_on, story_start}
use Rattle.e3_world.specs.Serial.{issued_by}
use Rattle.e3_laws.proofs.serial.Told.Running.{Running, run_push}
use Rattle.e3_laws.proofs.serial.Told.Rested.{story_running, story_rest}
use Rattle.e3_laws.proofs.serial.Told.Helping.{inc_same}
use Rattle.e3_laws.proofs.serial.Told.Stepped.{SentWell}
use Rattle.e3_laws.proofs.serial.Told.GoingOn.{IsNext, story_step}
use Rattle.e3_laws.proofs.serial.Lists.Facts.{is_in}

-- what a transaction's coordinator issued
abbrev pub iss_of : List Move → Txn → List Op
iss_of before t = issued_by t (moves_at t.site before)

abbrev pub AllStories : List Move → Type 0
AllStories before = (site : ℕ) → Story (flat_map sends before) (iss_of before) site (moves_at site before)

-- all packets are without numbers
abbrev pub AllUnnumbered : List Move → Type 0
AllUnnumbered before = (p : Packet) → In p (flat_map sends before) → unnumbered p ≡ p

-- a packet was sent by some site
pub sent_at : (before : List Move) (p : Packet) → In p (flat_map sends before) → (s : ℕ) × In p (flat_map sends (moves_at s before))
sent_at before p h =
    let r = in_flat sends before p h in
    (r.0.site, in_flat_from sends (moves_at r.0.site before) r.0 p (filter_in (λ m. m.site == r.0.site) before r.0 r.1 (eq-eqb r.0.site r.0.site refl)) r.2)

pub stories_well : (before : List Move) → AllStories before → SentWell (flat_map sends before) (iss_of before)
stories_well before stories = record {
  home = λ p t inc count h says. (let s = sent_at before p h in (stories s.0).source p s.1 ∙ sym ((stories s.0).asks p t inc count s.1 says).own);
  does = λ p t n op h says. (let s = sent_at before p h in (stories s.0).does p t n op s.1 says);
  dones = λ p t n inc v h says. (let s = sent_at before p h in let g = (stories s.0).dones p t n inc v s.1 says in (g.op, g.nth, g.here ∙ sym ((stories s.0).source p s.1)));
}

-- what a move issues
abbrev issue_of : Txn → Did → List Op
issue_of t (Stepped s) = issued_in t s.input s.told
issue_of t (Silent inputs records) = []
issue_of t (Rose inc records) = []

moves_issued : (t : Txn) (mine : List Move) (m : Move) → issued_by t (mine ++ m ∷ []) ≡ issued_by t mine ++ issue_of t m.did
moves_issued t mine m = flat_map-append _ mine (m ∷ []) ∙ ap (λ l. issued_by t mine ++ l) (last m.did refl)
  where
    last : (d : Did) → m.did ≡ d → issued_by t (m ∷ []) ≡ issue_of t d
    last (Stepped s) e = rw e (append-nil (issued_in t s.input s.told))
    last (Silent inputs records) e = rw e refl
    last (Rose inc records) e = rw e refl

iss_own : (before : List Move) (m : Move) (t : Txn) → t.site ≡ m.site → iss_of (before ++ m ∷ []) t ≡ iss_of before t ++ issue_of t m.did
iss_own before m t own =
    ap (λ s. issued_by t (moves_at s (before ++ m ∷ []))) own ∙ ap (issued_by t) (moves_here before m) ∙ moves_issued t (moves_at m.site before) m
    ∙ ap (λ s. issued_by t (moves_at s before) ++ issue_of t m.did) (sym own)

iss_other : (before : List Move) (m : Move) (t : Txn) → (t.site ≡ m.site → ⊥) → iss_of (before ++ m ∷ []) t ≡ iss_of before t
iss_other before m t other = ap (issued_by t) (moves_there t.site before m other)

iss_on : (before : List Move) (m : Move) → GoesOn (iss_of before) (iss_of (before ++ m ∷ []))
iss_on before m t = by (t.site == m.site) refl
  where
    by : (b : Bool) → (t.site == m.site) ≡ b → (rest : List Op) × (iss_of (before ++ m ∷ []) t ≡ iss_of before t ++ rest)
    by true e = (issue_of t m.did, iss_own before m t (eqb-true t.site m.site e))
    by false e = ([], iss_other before m t (λ q. true≢false (sym (eq-eqb t.site m.site q) ∙ e)) ∙ sym (append-nil (iss_of before t)))

sends_on : (before : List Move) (m : Move) (p : Packet) → In p (flat_map sends before) → In p (flat_map sends (before ++ m ∷ []))
sends_on before m p h = subst (λ l. In p l) (sym (flat_map-append sends before (m ∷ []))) (in_front (flat_map sends before) (flat_map sends (m ∷ [])) p h)

-- the incarnation of a rise
rise_inc : (sc : Scenario) (site inc : ℕ) (records : List Record) → logged_inc (records ++ rise_records sc site inc records) ≡ inc
rise_inc sc site inc [] = refl
rise_inc sc site inc (r ∷ rs) = go rs (Rattle.e3_world.specs.Logs.logged_inc_by 0 r)
  where
    go : (xs : List Record) (n : ℕ) → fold Rattle.e3_world.specs.Logs.logged_inc_by n (xs ++ log.Inc inc ∷ []) ≡ inc
    go [] n = refl
    go (x ∷ xs) n = go xs (Rattle.e3_world.specs.Logs.logged_inc_by n x)

-- a rise, or a failed one
module _ (sc : Scenario) (sent : List Packet) (iss : Txn → List Op) (site : ℕ) (mine : List Move) (inc : ℕ) (rs : List Record) (next_inc : inc ≡ suc (logged_inc (log_by mine)))
    (made : rs ≡ rise_records sc site inc (log_by mine)) (story : Story sent iss site mine) where
  rise_grows : logged_inc (log_by mine ++ rs) ≡ inc
  rise_grows = ap (λ l. logged_inc (log_by mine ++ l)) made ∙ rise_inc sc site inc (log_by mine)

  rise_votes : (before after : List Record) (t : Txn) (ops : List NumOp) → log_by mine ++ rs ≡ before ++ log.Vote t ops ∷ after → VoteOf sent iss site mine before t ops
  rise_votes before after t ops e = elim (append_split (log_by mine) rs before (log.Vote t ops) after e) [
    | inl old ↦ story.votes before old.0 t ops old.1
    | inr new ↦ absurd (rising_in rs new.0 (log.Vote t ops) after (subst (λ l. Each IsRising l) (sym made) (rise_rising sc site inc (log_by mine))) new.2)
  ]

  rise_less : logged_inc (log_by mine) < logged_inc (log_by mine ++ rs)
  rise_less = let e = rise_grows in omega (arith, e, next_inc)

  pub silent_story : (inputs : List Input) → Story sent iss site (mine ++ record { site = site; did = Silent inputs rs } ∷ [])
  silent_story inputs = story_rest sent iss site mine (record { site = site; did = Silent inputs rs }) rs
      (record { life = life_silent site mine inputs rs; quiet = refl; untold = refl; records = refl }) (inl (silent_down site mine inputs rs)) (let l = rise_less in omega (arith, l)) story rise_votes

  pub rose_story : Story sent iss site (mine ++ record { site = site; did = Rose inc rs } ∷ [])
  rose_story = story_rest sent iss site mine (record { site = site; did = Rose inc rs }) rs
      (record { life = life_rose site mine inc rs; quiet = refl; untold = refl; records = refl }) (inr rise_less) (let l = rise_less in omega (arith, l)) story rise_votes

unnumbered_deliver : (i : Input) (p : Packet) → unnumbered_input i ≡ input.Deliver p → (packet : Packet) × (i ≡ input.Deliver packet) × (p ≡ unnumbered packet)
unnumbered_deliver (input.Deliver packet) p e = (packet, refl, (let one : unnumbered packet ≡ p = cc in sym one))
unnumbered_deliver (input.Begin sites) p e = absurd (cc)
unnumbered_deliver (input.Do t op) p e = absurd (cc)
unnumbered_deliver (input.Commit t) p e = absurd (cc)
unnumbered_deliver (input.Cancel t) p e = absurd (cc)
unnumbered_deliver (input.Expire t) p e = absurd (cc)
unnumbered_deliver (input.Elect t g) p e = absurd (cc)

-- a packet that is taken was sent
taken_sent : (before : List Move) → AllUnnumbered before → (i : Input) → WasSent before i → (p : Packet) → unnumbered_input i ≡ input.Deliver p → In p (flat_map sends before)
taken_sent before no_numbers i was p e =
    let d = unnumbered_deliver i p e in
    let c : Contains (flat_map sends before) d.0 = subst (λ z. WasSent before z) d.1 was in
    let h : In d.0 (flat_map sends before) = is_in d.0 (flat_map sends before) (in_from_contains (flat_map sends before) d.0 c) in
    subst (λ z. In z (flat_map sends before)) (sym (no_numbers d.0 h) ∙ sym d.2) h

-- the inputs of a tail, over what the site said before
run_turn : (sc : Scenario) (before : List Move) (site : ℕ) (mine : List Move) → AllUnnumbered before → SentWell (flat_map sends before) (iss_of before) →
    (inputs : List Input) (virtual : List Move) → has_risen virtual ≡ true → FitInTurn sc before site virtual inputs → SiteKeeps sc site virtual →
    Running (flat_map sends before) (iss_of before) site mine (life_at virtual) → Running (flat_map sends before) (iss_of before) site mine (life_at (run_in_turn sc site virtual inputs))
run_turn sc before site mine no_numbers well [] virtual up fits k r = r
run_turn sc before site mine no_numbers well (i ∷ inputs) virtual up fits k r =
    run_turn sc before site mine no_numbers well inputs (virtual ++ step_move sc site virtual i ∷ []) (step_up sc site virtual i up) fits.2 (step_site sc site virtual i k up fits.0)
    (subst (λ l. Running (flat_map sends before) (iss_of before) site mine l) (sym (life_step sc site virtual i))
    (run_push sc.weights (place sc.weights site (life_at virtual) i) k.keeps (fits_unnumbered sc.weights site (life_at virtual) i fits.0) (fits_away sc.weights site (life_at virtual) i fits.0)
    (flat_map sends before) (iss_of before) mine r (λ p e. taken_sent before no_numbers i fits.1 p e) well.home))

run_incs : (sc : Scenario) (before : List Move) (site : ℕ) (inputs : List Input) (virtual : List Move) → FitInTurn sc before site virtual inputs →
    logged_inc (log_by (run_in_turn sc site virtual inputs)) ≡ logged_inc (log_by virtual)
run_incs sc before site [] virtual fits = refl
run_incs sc before site (i ∷ inputs) virtual fits =
    run_incs sc before site inputs (virtual ++ step_move sc site virtual i ∷ []) fits.2
    ∙ ap logged_inc (log_push virtual (step_move sc site virtual i))
    ∙ inc_same (log_by virtual) (recorded (step_move sc site virtual i)) (λ r h rising. (let z = in_split (recorded (step_move sc site virtual i)) r h in
    step_record (place sc.weights site (life_at virtual) i) (fits_away sc.weights site (life_at virtual) i fits.0) z.0 z.1 r z.2 rising))

-- a tail that was kept
tail_story : (sc : Scenario) (before : List Move) (site : ℕ) (mine : List Move) (inputs : List Input) (rs : List Record) → AllUnnumbered before → SentWell (flat_map sends before) (iss_of before) →
    has_risen mine ≡ true → FitInTurn sc before site mine inputs → rs ≡ records_in_turn sc site mine inputs → SiteKeeps sc site mine → Story (flat_map sends before) (iss_of before) site mine →
    Story (flat_map sends before) (iss_of before) site (mine ++ record { site = site; did = Silent inputs rs } ∷ [])
tail_story sc before site mine inputs rs no_numbers well up fits made k story =
    story_rest (flat_map sends before) (iss_of before) site mine (record { site = site; did = Silent inputs rs }) rs
    (record { life = life_silent site mine inputs rs; quiet = refl; untold = refl; records = refl }) (inl (silent_down site mine inputs rs))
    (let e : logged_inc (log_by mine ++ rs) ≡ logged_inc (log_by mine) = ap logged_inc (sym log) ∙ run_incs sc before site inputs mine fits in omega (arith, e)) story
    (λ b after t ops e. (run_turn sc before site mine no_numbers well inputs mine up fits k (story_running (flat_map sends before) (iss_of before) site mine up story)).votes b after t ops
    (life_log_at (run_in_turn sc site mine inputs) ∙ log ∙ e))
  where
    log : log_by (run_in_turn sc site mine inputs) ≡ log_by mine ++ rs
    log = run_log sc site inputs mine ∙ ap (λ l. log_by mine ++ l) (sym made)

-- one move of the site, without what it sends and issues
own_story : (sc : Scenario) (before : List Move) (m : Move) → IsSoundMove sc before m → AllKeep sc before → AllStories before → AllUnnumbered before →
    Story (flat_map sends (before ++ m ∷ [])) (iss_of (before ++ m ∷ [])) m.site (moves_at m.site before ++ m ∷ [])
own_story sc before m sound keep stories no_numbers = by m.did refl sound
  where
    well : SentWell (flat_map sends before) (iss_of before)
    well = stories_well before stories

    story : Story (flat_map sends before) (iss_of before) m.site (moves_at m.site before)
    story = stories m.site

    rest : (x : Move) → m ≡ x → ((t : Txn) → issue_of t m.did ≡ []) → Story (flat_map sends before) (iss_of before) m.site (moves_at m.site before ++ x ∷ []) →
        Story (flat_map sends (before ++ m ∷ [])) (iss_of (before ++ m ∷ [])) m.site (moves_at m.site before ++ m ∷ [])
    rest x e none s = story_on (flat_map sends before) (flat_map sends (before ++ m ∷ [])) (iss_of before) (iss_of (before ++ m ∷ [])) m.site (moves_at m.site before ++ m ∷ [])
        (λ t own. iss_own before m t own ∙ ap (λ l. iss_of before t ++ l) (none t) ∙ append-nil (iss_of before t)) (iss_on before m) (sends_on before m)
        (subst (λ z. Story (flat_map sends before) (iss_of before) m.site (moves_at m.site before ++ z ∷ [])) (sym e) s)

    same : (d : Did) → m.did ≡ d → m ≡ record { site = m.site; did = d }
    same d e = λ i. record { site = m.site; did = e i }

    step : (s : SiteStep) → m.did ≡ Stepped s → IsSoundStep sc before m s.input → Story (flat_map sends (before ++ m ∷ [])) (iss_of (before ++ m ∷ [])) m.site (moves_at m.site before ++ m ∷ [])
    step s e h =
        story_step sc.weights a (keep m.site).keeps (fits_unnumbered sc.weights m.site (life_at (moves_at m.site before)) s.input h.fits) (fits_away sc.weights m.site (life_at (moves_at m.site before)) s.input h.fits)
        (flat_map sends before) (iss_of before) (iss_of (before ++ m ∷ [])) (moves_at m.site before) h.risen refl story (λ p q. taken_sent before no_numbers s.input h.was_sent p q) well
        (λ t own. iss_own before m t own ∙ ap (λ d. iss_of before t ++ issue_of t d) (ap (λ (z : Move). z.did) h.made)) (iss_on before m)
        (flat_map sends (before ++ m ∷ [])) (sends_on before m) m
        (subst (λ z. IsNext a (moves_at m.site before) z) (sym h.made) (record {
          life = life_step sc m.site (moves_at m.site before) s.input;
          sends_are = refl;
          tells_are = refl;
          records_are = refl;
          risen = step_up sc m.site (moves_at m.site before) s.input h.risen;
        }))
      where
        a : At
        a = place sc.weights m.site (life_at (moves_at m.site before)) s.input

    by : (d : Did) → m.did ≡ d → IsSoundMove sc before (record { site = m.site; did = d }) → Story (flat_map sends (before ++ m ∷ [])) (iss_of (before ++ m ∷ [])) m.site (moves_at m.site before ++ m ∷ [])
    by (Stepped s) e h = step s e (subst (λ z. IsSoundStep sc before z s.input) (sym (same (Stepped s) e)) h)
    by (Silent [] rs) e h = rest (record { site = m.site; did = Silent [] rs }) (same (Silent [] rs) e) (λ t. ap (issue_of t) e)
        (silent_story sc (flat_map sends before) (iss_of before) m.site (moves_at m.site before) h.0 rs h.1.next h.1.made story [])
    by (Silent (i ∷ inputs) rs) e h = rest (record { site = m.site; did = Silent (i ∷ inputs) rs }) (same (Silent (i ∷ inputs) rs) e) (λ t. ap (issue_of t) e)
        (tail_story sc before m.site (moves_at m.site before) (i ∷ inputs) rs no_numbers well h.risen h.fits h.made (keep m.site) story)
    by (Rose inc rs) e h = rest (record { site = m.site; did = Rose inc rs }) (same (Rose inc rs) e) (λ t. ap (issue_of t) e)
        (rose_story sc (flat_map sends before) (iss_of before) m.site (moves_at m.site before) inc rs h.next h.made story)

-- what a move sends has no numbers
move_unnumbered : (sc : Scenario) (before : List Move) (m : Move) → IsSoundMove sc before m → (p : Packet) → In p (sends m) → unnumbered p ≡ p
move_unnumbered sc before m sound p h = by m.did refl sound
  where
    no_numbers : (ps : List Packet) → In p (map unnumbered ps) → unnumbered p ≡ p
    no_numbers [] x = absurd x
    no_numbers (q ∷ ps) (inl e) = subst (λ z. unnumbered z ≡ z) e refl
    no_numbers (q ∷ ps) (inr x) = no_numbers ps x

    quiet : (d : Did) → m.did ≡ d → sends (record { site = m.site; did = d }) ≡ [] → unnumbered p ≡ p
    quiet d e none = absurd (subst (λ l. In p l) (ap (λ d. sends (record { site = m.site; did = d })) e ∙ none) h)

    step : (s : SiteStep) → m.did ≡ Stepped s → IsSoundMove sc before (record { site = m.site; did = Stepped s }) → unnumbered p ≡ p
    step s e x = no_numbers (step_of sc.weights m.site (incarnation_of (moves_at m.site before)) s.input).outs
        (subst (λ l. In p l) (ap (λ d. sends (record { site = m.site; did = d })) e ∙ ap sends x.made) h)

    by : (d : Did) → m.did ≡ d → IsSoundMove sc before (record { site = m.site; did = d }) → unnumbered p ≡ p
    by (Stepped s) e x = step s e x
    by (Silent inputs rs) e x = quiet (Silent inputs rs) e refl
    by (Rose inc rs) e x = quiet (Rose inc rs) e refl

pub record Stands (sc : Scenario) (before : List Move) : Type 0 where
  pub keep : AllKeep sc before
  pub stories : AllStories before
  pub no_numbers : AllUnnumbered before

move_stands : (sc : Scenario) (before : List Move) (m : Move) → IsSoundMove sc before m → Stands sc before → Stands sc (before ++ m ∷ [])
move_stands sc before m sound s = record {
  keep = move_keeps sc before m sound s.keep;
  stories = λ site. by site (m.site == site) refl;
  no_numbers = λ p h. unnumbered_all p (in_append (flat_map sends before) (flat_map sends (m ∷ [])) p (subst (λ l. In p l) (flat_map-append sends before (m ∷ [])) h));
}
  where
    unnumbered_all : (p : Packet) → In p (flat_map sends before) ⊎ In p (flat_map sends (m ∷ [])) → unnumbered p ≡ p
    unnumbered_all p (inl old) = s.no_numbers p old
    unnumbered_all p (inr new) = move_unnumbered sc before m sound p (subst (λ l. In p l) (append-nil (sends m)) new)

    by : (site : ℕ) (b : Bool) → (m.site == site) ≡ b → Story (flat_map sends (before ++ m ∷ [])) (iss_of (before ++ m ∷ [])) site (moves_at site (before ++ m ∷ []))
    by site true e = subst (λ x. Story (flat_map sends (before ++ m ∷ [])) (iss_of (before ++ m ∷ [])) x (moves_at x (before ++ m ∷ []))) (eqb-true m.site site e)
        (subst (λ l. Story (flat_map sends (before ++ m ∷ [])) (iss_of (before ++ m ∷ [])) m.site l) (sym (moves_here before m)) (own_story sc before m sound s.keep s.stories s.no_numbers))
    by site false e =
        let other : site ≡ m.site → ⊥ = λ q. true≢false (sym (eq-eqb m.site site (sym q)) ∙ e) in
        subst (λ l. Story (flat_map sends (before ++ m ∷ [])) (iss_of (before ++ m ∷ [])) site l) (sym (moves_there site before m other))
        (story_on (flat_map sends before) (flat_map sends (before ++ m ∷ [])) (iss_of before) (iss_of (before ++ m ∷ [])) site (moves_at site before)
        (λ t own. iss_other before m t (λ q. other (sym own ∙ q))) (iss_on before m) (sends_on before m) (s.stories site))

after_stands : (sc : Scenario) (rest before : List Move) → SoundAfter sc before rest → Stands sc before → Stands sc (before ++ rest)
after_stands sc [] before sound s = subst (λ l. Stands sc l) (sym (append-nil before)) s
after_stands sc (m ∷ rest) before sound s = subst (λ l. Stands sc l) (append_assoc before (m ∷ []) rest) (after_stands sc rest (before ++ m ∷ []) sound.1 (move_stands sc before m sound.0 s))

pub all_stand : (sc : Scenario) (trail : List Move) → IsSound sc trail → Stands sc trail
all_stand sc trail sound = after_stands sc trail [] sound (record { keep = all_keep sc [] tt; stories = λ site. story_start site; no_numbers = λ p h. absurd h })
