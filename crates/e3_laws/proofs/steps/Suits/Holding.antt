-- All that is sent, recorded, told and bound in a legal history of a given scenario meets its bounds.
use Rattle.std.proofs.Common.{◌≡◌, ◌==◌, ◌+◌, ◌++◌, ◌∷◌, [], ℕ, zero, suc, Bool, true, false, List, Option, Some, None, refl, sym, subst, ap, ◌∙◌, inl, inr, ◌⊎◌, fold, map, count_by, arith, append-nil, append_assoc, eqb-true, eq-eqb, length, take}
use Rattle.std.specs.List.{flat_map, AllByRecursion as Each}
use Rattle.e3_types.specs.declared.entries.Act.{Act}
use Rattle.e3_types.specs.declared.entries.Act.TheVariants.{Step, Fall, Rise, RiseFall, Miss, Cut, Drop, Parts, Line}
use Rattle.e3_types.specs.declared.entries.Entry.{Entry}
use Rattle.e3_types.specs.declared.entries.Input.{Input}
use Rattle.e3_types.specs.declared.entries.Why.{Why}
use Rattle.e3_types.specs.declared.entries.Why.TheVariants.{Fault}
use Rattle.e3_types.specs.declared.messages.Packet.{Packet}
use Rattle.e3_types.specs.declared.records.Record.{Record}
use Rattle.e3_types.specs.declared.scenarios.Scenario.{Scenario}
use Rattle.e3_world.specs.declared.lives.Incarnation.{Incarnation}
use Rattle.e3_world.specs.declared.lives.Life.{Life}
use Rattle.e3_world.specs.declared.lives.Made.{Made}
use Rattle.e3_world.specs.declared.lives.Moment.{Moment}
use Rattle.e3_world.specs.declared.lives.SiteStep.{SiteStep}
use Rattle.e3_world.specs.declared.names.Binding.{Binding}
use Rattle.e3_world.specs.Given.{IsGiven}
use Rattle.e3_world.specs.Items.{AroundLine, around_by, to_line, inputs_of, inputs_at, is_up_at, binding_by}
use Rattle.e3_world.specs.Legal.{Guard, IsLegal, LegalAfter, IsDue, AreDue, numbered, made_by, entry_of, records_by}
use Rattle.e3_world.specs.Lives.{present_log, incarnation_of, life_of, life_at, life_by}
use Rattle.e3_world.specs.Moves.{Move, Did, Stepped, Silent, Rose, Past, Tail, own_entries, past_of, past_by, moves_of, moves_of_act, tail_of_act, kept_moves, left_by, log_by, rise_records, unnumbered, unnumbered_input}
use Rattle.e3_world.specs.Packets.{sent, outs_of, is_line, lines, present_items}
use Rattle.e3_world.specs.Progress.{up_behind}
use Rattle.e3_world.proofs.Guards.{lines_push}
use Rattle.e3_world.proofs.Pushes.{past_push, incarnation_push, life_push, life_log}
use Rattle.e3_world.proofs.Readings.{to_push, own_same, own_other, up_same}
use Rattle.e3_laws.specs.steps.Bounds.{Suits, SuitsLog, BeginsOwn, GoesBetween}
use Rattle.e3_laws.proofs.steps.Each.{each-append, each-push, IfAny}
use Rattle.e3_laws.proofs.steps.Suits.Keeping.{Goes, Keeps}
use Rattle.e3_laws.proofs.steps.Suits.Inputs.{place, step_keeps, suits_unnumbered}
use Rattle.e3_laws.proofs.steps.Suits.Turns.{TookInTurn, AsksNone, at_line, quiet_turn, step_turn, rising_none, step_input, since_at_line}
use Rattle.e3_laws.proofs.steps.Suits.Binding.{takes_begin, Binds, IsBound, binding_push, quiet_binds, step_binds}
use Rattle.e3_laws.proofs.steps.Suits.Suiting.{LifeSuits, due_input_suits}
use Rattle.e3_laws.proofs.steps.Moving.{sent_push}
use Rattle.e3_laws.proofs.steps.Items.{binding}

-- what holds of a site: of its life, and of the records that may be on its disk
pub record SiteSuits (weights : List ℕ) (site : ℕ) (past : Past) : Type 0 where
  pub life : LifeSuits weights site (life_at past.moves)
  pub tail : IfAny (λ tail. Each (SuitsLog weights site) tail.records) past.tail

-- what holds of a history
pub record Bounded (sc : Scenario) (h : List Entry) : Type 0 where
  pub sent : Each (GoesBetween sc.weights) (sent h)
  pub sites : (s : ℕ) → SiteSuits sc.weights s (past_of sc s (own_entries s h))
  pub took : TookInTurn sc h
  pub binds : Binds sc h

-- what holds of a history and of it up to its last line
pub record Holds (sc : Scenario) (h : List Entry) : Type 0 where
  pub now : Bounded sc h
  pub line : Bounded sc (to_line h)

life_stepped : (weights : List ℕ) (site : ℕ) (mine : List Move) (st : SiteStep) → LifeSuits weights site (life_at mine) → Suits weights site st.input →
    Each (BeginsOwn weights site) st.told → Each (SuitsLog weights site) st.records → LifeSuits weights site (life_at (mine ++ record { site = site; did = Stepped st } ∷ []))
life_stepped weights site mine st was fit told records =
    let P : Life → Type 0 = LifeSuits weights site in
    let same : life_at (mine ++ record { site = site; did = Stepped st } ∷ []) ≡ life_by (life_at mine) st =
    ap life_of (incarnation_push mine (record { site = site; did = Stepped st })) ∙ life_push (incarnation_of mine) st in
    let m : Moment = record { before = (life_at mine).log; input = st.input; records = st.records; outs = st.outs; told = st.told } in
    subst P (sym same) (record {
      steps = each-push (λ m. Suits weights site m.input) (life_at mine).steps m was.steps fit;
      told = each-push (λ m. Each (BeginsOwn weights site) m.told) (life_at mine).steps m was.told told;
      log = each-append (SuitsLog weights site) (life_at mine).log st.records was.log records;
    })

-- a silent move, and a rise
life_risen : (weights : List ℕ) (site : ℕ) (mine : List Move) (did : Did) (records : List Record) → LifeSuits weights site (life_at mine) →
    Each (SuitsLog weights site) records →
    incarnation_of (mine ++ record { site = site; did = did } ∷ []) ≡ record { rose = present_log (incarnation_of mine) ++ records; since = [] } →
    LifeSuits weights site (life_at (mine ++ record { site = site; did = did } ∷ []))
life_risen weights site mine did records was more same =
    let P : Incarnation → Type 0 = λ i. LifeSuits weights site (life_of i) in
    let Q : List Record → Type 0 = Each (SuitsLog weights site) in
    subst P (sym same) (record {
      steps = tt;
      told = tt;
      log = each-append (SuitsLog weights site) (present_log (incarnation_of mine)) records (subst Q (life_log (incarnation_of mine)) was.log) more;
    })

rise_suits : (sc : Scenario) (site inc : ℕ) (records : List Record) → Each (SuitsLog sc.weights site) (rise_records sc site inc records)
rise_suits sc site inc [] = (tt, (tt, tt))
rise_suits sc site inc (r ∷ rs) = (tt, tt)

-- a tail that is kept
kept_suits : (sc : Scenario) (site : ℕ) (w : Past) (kept : Bool) (o : Option Tail) → LifeSuits sc.weights site (life_at w.moves) →
    IfAny (λ tail. Each (SuitsLog sc.weights site) tail.records) o → LifeSuits sc.weights site (life_at (w.moves ++ kept_moves site kept o))
kept_suits sc site w true (Some tail) life this = life_risen sc.weights site w.moves (Silent tail.inputs tail.records) tail.records life this
    (incarnation_push w.moves (record { site = site; did = Silent tail.inputs tail.records }))
kept_suits sc site w true None life this = let P : List Move → Type 0 = λ l. LifeSuits sc.weights site (life_at l) in subst P (sym (append-nil w.moves)) life
kept_suits sc site w false o life this = let P : List Move → Type 0 = λ l. LifeSuits sc.weights site (life_at l) in subst P (sym (append-nil w.moves)) life

rise_past : (sc : Scenario) (site : ℕ) (w : Past) (kept : Bool) (inc : ℕ) → SiteSuits sc.weights site w →
    SiteSuits sc.weights site (past_by sc site w (record { owner = site; act = Rise kept inc }))
rise_past sc site w kept inc was =
    let mine : List Move = w.moves ++ kept_moves site kept w.tail in
    let records : List Record = rise_records sc site inc (log_by mine) in
    let P : List Move → Type 0 = λ l. LifeSuits sc.weights site (life_at l) in
    record {
      life = subst P (append_assoc w.moves (kept_moves site kept w.tail) (record { site = site; did = Rose inc records } ∷ []))
          (life_risen sc.weights site mine (Rose inc records) records (kept_suits sc site w kept w.tail was.life was.tail) (rise_suits sc site inc (log_by mine))
          (incarnation_push mine (record { site = site; did = Rose inc records })));
      tail = tt;
    }

left_suits : (weights : List ℕ) (site : ℕ) (why : Why) (inputs : List Input) (records : List Record) → Each (SuitsLog weights site) records →
    IfAny (λ tail. Each (SuitsLog weights site) tail.records) (left_by why inputs records)
left_suits weights site Fault inputs records all = all
left_suits weights site why inputs records all = tt

rise_fall_past : (sc : Scenario) (site : ℕ) (w : Past) (kept : Bool) (inc : ℕ) (why : Why) → SiteSuits sc.weights site w →
    SiteSuits sc.weights site (past_by sc site w (record { owner = site; act = RiseFall kept inc why }))
rise_fall_past sc site w kept inc why was = record {
  life = kept_suits sc site w kept w.tail was.life was.tail;
  tail = left_suits sc.weights site why [] _ (rise_suits sc site inc (log_by (w.moves ++ kept_moves site kept w.tail)));
}

fall_past : (sc : Scenario) (site : ℕ) (w : Past) (inputs : List Input) (records : List Record) (why : Why) → SiteSuits sc.weights site w →
    Each (SuitsLog sc.weights site) records → SiteSuits sc.weights site (past_by sc site w (record { owner = site; act = Fall inputs records why }))
fall_past sc site w inputs records why was all = record {
  life = let P : List Move → Type 0 = λ l. LifeSuits sc.weights site (life_at l) in subst P (sym (append-nil w.moves)) was.life;
  tail = left_suits sc.weights site why (map unnumbered_input inputs) records all;
}

-- an act that makes no move and leaves the tail
quiet_past : (sc : Scenario) (site : ℕ) (w : Past) (act : Act) → moves_of_act sc site w act ≡ [] → tail_of_act sc site w act ≡ w.tail → SiteSuits sc.weights site w →
    SiteSuits sc.weights site (past_by sc site w (record { owner = site; act = act }))
quiet_past sc site w act moves tail was = record {
  life = let P : List Move → Type 0 = λ l. LifeSuits sc.weights site (life_at l) in subst P (sym (ap (λ l. w.moves ++ l) moves ∙ append-nil w.moves)) was.life;
  tail = let Q : Option Tail → Type 0 = IfAny (λ tail. Each (SuitsLog sc.weights site) tail.records) in subst Q (sym tail) was.tail;
}

-- the sites behind one more entry
pub sites_push : (sc : Scenario) (h : List Entry) (owner : ℕ) (act : Act) → ((s : ℕ) → SiteSuits sc.weights s (past_of sc s (own_entries s h))) →
    SiteSuits sc.weights owner (past_by sc owner (past_of sc owner (own_entries owner h)) (record { owner = owner; act = act })) →
    (s : ℕ) → SiteSuits sc.weights s (past_of sc s (own_entries s (h ++ record { owner = owner; act = act } ∷ [])))
sites_push sc h owner act was this s = by (owner == s) refl
  where
    e : Entry
    e = record { owner = owner; act = act }

    by : (b : Bool) → (owner == s) ≡ b → SiteSuits sc.weights s (past_of sc s (own_entries s (h ++ e ∷ [])))
    by true is =
        let P : ℕ → Type 0 = λ x. SiteSuits sc.weights x (past_by sc x (past_of sc x (own_entries x h)) e) in
        let Q : Past → Type 0 = SiteSuits sc.weights s in
        subst Q (sym (ap (past_of sc s) (own_same s h e is) ∙ past_push sc s (own_entries s h) e)) (subst P (eqb-true owner s is) this)
    by false is = let Q : List Entry → Type 0 = λ l. SiteSuits sc.weights s (past_of sc s l) in subst Q (sym (own_other s h e is)) (was s)

numbered_go : (weights : List ℕ) (site n : ℕ) (ps : List Packet) → Each (Goes weights site) ps → Each (GoesBetween weights) (numbered n ps)
numbered_go weights site n [] all = tt
numbered_go weights site n (p ∷ ps) all = (record { heard = all.0.between.heard; other = all.0.between.other }, numbered_go weights site (suc n) ps all.1)

-- an input that is due at a site that is up, and its step
pub step_holds : (sc : Scenario) (h : List Entry) (site : ℕ) (i : Input) → IsGiven sc → is_up_at h site ≡ true → IsDue sc h site i → Holds sc h →
    Holds sc (h ++ entry_of sc h site i ∷ [])
step_holds sc h site i given up due was = record {
  now = record {
    sent = let P : List Packet → Type 0 = Each (GoesBetween sc.weights) in
        subst P (sym (sent_push h (entry_of sc h site i))) (each-append (GoesBetween sc.weights) (sent h) _ was.now.sent (numbered_go sc.weights site _ made.outs keeps.outs));
    sites = sites_push sc h site (entry_of sc h site i).act was.now.sites (record {
      life = life_stepped sc.weights site (moves_of sc h site)
          (record { input = unnumbered_input i; records = made.records; outs = map unnumbered (numbered (suc (length (sent h))) made.outs); told = made.told })
          (was.now.sites site).life (suits_unnumbered sc.weights site i fit) keeps.told keeps.records;
      tail = (was.now.sites site).tail;
    });
    took = step_turn sc h site i given was.now.took due;
    binds = step_binds sc h site i given was.now.took up was.now.binds due;
  };
  line = let P : List Entry → Type 0 = Bounded sc in subst P (sym (to_push h (entry_of sc h site i) refl)) was.line;
}
  where
    fit : Suits sc.weights site i
    fit = due_input_suits sc h site i given was.line.binds was.now.sent (λ s. (was.line.sites s).life) due

    made : Made
    made = made_by sc h site i

    keeps : Keeps (place sc.weights site (incarnation_of (moves_of sc h site)) i) (made_by sc h site i)
    keeps = step_keeps sc.weights site (incarnation_of (moves_of sc h site)) i (was.now.sites site).life.steps fit

-- the records of a fall
fall_records : (sc : Scenario) (inputs : List Input) (h : List Entry) (site : ℕ) → IsGiven sc → is_up_at h site ≡ true → AreDue sc h site inputs → Holds sc h →
    Each (SuitsLog sc.weights site) (records_by sc h site inputs)
fall_records sc [] h site given up due was = tt
fall_records sc (i ∷ inputs) h site given up due was =
    let fit : Suits sc.weights site i = due_input_suits sc h site i given was.line.binds was.now.sent (λ s. (was.line.sites s).life) due.0 in
    let keeps : _ = step_keeps sc.weights site (incarnation_of (moves_of sc h site)) i (was.now.sites site).life.steps fit in
    each-append (SuitsLog sc.weights site) (made_by sc h site i).records _ keeps.records
    (fall_records sc inputs (h ++ entry_of sc h site i ∷ []) site given (up_same h (entry_of sc h site i) site (eq-eqb site site refl) ∙ up) due.1
    (step_holds sc h site i given up due.0 was))

-- a history in two
pub split_from : (w : AroundLine) (h : List Entry) → (fold around_by w h).to ++ (fold around_by w h).since ≡ (w.to ++ w.since) ++ h
split_from w [] = sym (append-nil (w.to ++ w.since))
split_from w (e ∷ h) = split_from (around_by w e) h ∙ ap (λ l. l ++ h) (by (is_line e) refl) ∙ append_assoc (w.to ++ w.since) (e ∷ []) h
  where
    by : (b : Bool) → is_line e ≡ b → (around_by w e).to ++ (around_by w e).since ≡ (w.to ++ w.since) ++ e ∷ []
    by true is = rw is (append-nil ((w.to ++ w.since) ++ e ∷ []))
    by false is = rw is (sym (append_assoc w.to w.since (e ∷ [])))

pub to_at_line : (h : List Entry) (e : Entry) → is_line e ≡ true → to_line (h ++ e ∷ []) ≡ h ++ e ∷ []
to_at_line h e is =
    sym (append-nil (to_line (h ++ e ∷ []))) ∙ ap (λ l. to_line (h ++ e ∷ []) ++ l) (sym (since_at_line h e is)) ∙ split_from (record { to = []; since = [] }) (h ++ e ∷ [])

-- the lines of a history behind its next line
line_binds : (sc : Scenario) (h : List Entry) (number : ℕ) → number ≡ suc (lines h) → Binds sc h → Binds sc (h ++ record { owner = 0; act = Line number } ∷ [])
line_binds sc h number next was = record {
  number = ap (λ b. b.number) (binding_push sc h e) ∙ next ∙ (let one : lines (h ++ e ∷ []) ≡ lines h + count_by is_line (e ∷ []) = lines_push h e in omega (arith, one));
  counts = λ s. ap (λ b. count_by (λ x. x == s) b.begun_at) (binding_push sc h e)
      ∙ sym (ap (λ l. count_by takes_begin (flat_map (λ x. step_input x.act) (own_entries s l))) (since_at_line h e refl));
  bound = let P : Binding → Type 0 = λ b. Each (IsBound sc) b.bound in subst P (sym (binding_push sc h e)) was.bound;
}
  where
    e : Entry
    e = record { owner = 0; act = Line number }

-- an entry that is neither a line nor a step, and sends nothing
quiet_holds : (sc : Scenario) (h : List Entry) (owner : ℕ) (act : Act) → Holds sc h → is_line (record { owner = owner; act = act }) ≡ false →
    step_input act ≡ [] → outs_of act ≡ [] → binding_by sc (binding sc h) (record { owner = owner; act = act }) ≡ binding sc h →
    (up_behind (is_up_at h owner) act ≡ true → ((is_up_at h owner ≡ true) × (inputs_of act ≡ [])) ⊎ AsksNone (present_items sc h)) →
    SiteSuits sc.weights owner (past_by sc owner (past_of sc owner (own_entries owner h)) (record { owner = owner; act = act })) →
    Holds sc (h ++ record { owner = owner; act = act } ∷ [])
quiet_holds sc h owner act was stays none out same rises_by past = record {
  now = record {
    sent = let P : List Packet → Type 0 = Each (GoesBetween sc.weights) in
        subst P (sym (sent_push h e ∙ ap (λ l. sent h ++ l) out ∙ append-nil (sent h))) was.now.sent;
    sites = sites_push sc h owner act was.now.sites past;
    took = quiet_turn sc h e was.now.took stays none (λ s is. let P : ℕ → Type 0 = λ x.
        up_behind (is_up_at h x) act ≡ true → ((is_up_at h x ≡ true) × (inputs_of act ≡ [])) ⊎ AsksNone (present_items sc h) in subst P (eqb-true owner s is) rises_by);
    binds = quiet_binds sc h e was.now.binds stays same (λ s is. ap (count_by takes_begin) none);
  };
  line = let P : List Entry → Type 0 = Bounded sc in subst P (sym (to_push h e stays)) was.line;
}
  where
    e : Entry
    e = record { owner = owner; act = act }

line_holds : (sc : Scenario) (h : List Entry) (number : ℕ) → number ≡ suc (lines h) → Holds sc h → Holds sc (h ++ record { owner = 0; act = Line number } ∷ [])
line_holds sc h number next was = record { now = now; line = let P : List Entry → Type 0 = Bounded sc in subst P (sym (to_at_line h e refl)) now }
  where
    e : Entry
    e = record { owner = 0; act = Line number }

    now : Bounded sc (h ++ e ∷ [])
    now = record {
      sent = let P : List Packet → Type 0 = Each (GoesBetween sc.weights) in subst P (sym (sent_push h e ∙ append-nil (sent h))) was.now.sent;
      sites = sites_push sc h 0 (Line number) was.now.sites (quiet_past sc 0 (past_of sc 0 (own_entries 0 h)) (Line number) refl refl (was.now.sites 0));
      took = at_line sc h e refl;
      binds = line_binds sc h number next was.now.binds;
    }

-- each entry that meets its guard
pub guard_holds : (sc : Scenario) (h : List Entry) (owner : ℕ) (act : Act) → IsGiven sc → Holds sc h → Guard sc h (record { owner = owner; act = act }) →
    Holds sc (h ++ record { owner = owner; act = act } ∷ [])
guard_holds sc h zero (Line number) given was guard = line_holds sc h number guard.next was
guard_holds sc h zero (Parts parts) given was guard = quiet_holds sc h 0 (Parts parts) was refl refl refl refl (λ up. inl (up, refl))
    (quiet_past sc 0 (past_of sc 0 (own_entries 0 h)) (Parts parts) refl refl (was.now.sites 0))
guard_holds sc h zero (Drop number) given was guard = quiet_holds sc h 0 (Drop number) was refl refl refl refl (λ up. inl (up, refl))
    (quiet_past sc 0 (past_of sc 0 (own_entries 0 h)) (Drop number) refl refl (was.now.sites 0))
guard_holds sc h zero act given was guard = absurd guard
guard_holds sc h (suc s) (Step i records outs events) given was guard =
    let P : Entry → Type 0 = λ e. Holds sc (h ++ e ∷ []) in
    subst P (sym guard.made) (step_holds sc h (suc s) i given guard.up guard.due was)
guard_holds sc h (suc s) (Fall inputs records why) given was guard = quiet_holds sc h (suc s) (Fall inputs records why) was refl refl refl refl (λ up. absurd cc)
    (fall_past sc (suc s) (past_of sc (suc s) (own_entries (suc s) h)) inputs records why (was.now.sites (suc s))
    (let P : List Record → Type 0 = Each (SuitsLog sc.weights (suc s)) in subst P (sym guard.made) (fall_records sc inputs h (suc s) given guard.up guard.due was)))
guard_holds sc h (suc s) Cut given was guard = quiet_holds sc h (suc s) Cut was refl refl refl refl (λ up. absurd cc)
    (quiet_past sc (suc s) (past_of sc (suc s) (own_entries (suc s) h)) Cut refl refl (was.now.sites (suc s)))
guard_holds sc h (suc s) (Rise kept inc) given was guard = quiet_holds sc h (suc s) (Rise kept inc) was refl refl refl refl
    (λ up. inr (rising_none sc h (suc s) given guard.rising.turn))
    (rise_past sc (suc s) (past_of sc (suc s) (own_entries (suc s) h)) kept inc (was.now.sites (suc s)))
guard_holds sc h (suc s) (RiseFall kept inc why) given was guard = quiet_holds sc h (suc s) (RiseFall kept inc why) was refl refl refl refl (λ up. absurd cc)
    (rise_fall_past sc (suc s) (past_of sc (suc s) (own_entries (suc s) h)) kept inc why (was.now.sites (suc s)))
guard_holds sc h (suc s) Miss given was guard = quiet_holds sc h (suc s) Miss was refl refl refl refl (λ up. absurd cc)
    (quiet_past sc (suc s) (past_of sc (suc s) (own_entries (suc s) h)) Miss refl refl (was.now.sites (suc s)))
guard_holds sc h (suc s) act given was guard = absurd guard

pub first_holds : (sc : Scenario) → Holds sc []
first_holds sc = record { now = now; line = now }
  where
    now : Bounded sc []
    now = record {
      sent = tt;
      sites = λ s. record { life = record { steps = tt; told = tt; log = tt }; tail = tt };
      took = record { items = λ s up none. sym (take_nothing (inputs_at sc [] s)); idle = λ s none asks. refl; rounds = λ s group some. tt };
      binds = record { number = refl; counts = λ s. refl; bound = tt };
    }
      where
        take_nothing : (xs : List Input) → take 0 xs ≡ []
        take_nothing xs = refl

after_holds : (sc : Scenario) (before rest : List Entry) → IsGiven sc → Holds sc before → LegalAfter sc before rest → Holds sc (before ++ rest)
after_holds sc before [] given was legal = let P : List Entry → Type 0 = Holds sc in subst P (sym (append-nil before)) was
after_holds sc before (e ∷ rest) given was legal = let P : List Entry → Type 0 = Holds sc in
    subst P (append_assoc before (e ∷ []) rest) (after_holds sc (before ++ e ∷ []) rest given (guard_holds sc before e.owner e.act given was legal.0) legal.1)

-- every legal history of a given scenario
pub legal_holds : (sc : Scenario) (h : List Entry) → IsGiven sc → IsLegal sc h → Holds sc h
legal_holds sc h given legal = after_holds sc [] h given (first_holds sc) legal
