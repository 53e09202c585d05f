-- Incarnations of a site rise: each is above all that its log had before.
use Rattle.std.proofs.Common.{◌≡◌, ◌==◌, ◌++◌, ◌∷◌, [], ℕ, zero, suc, ◌≤◌, ◌<◌, Bool, true, false, List, Option, Some, None, refl, sym, subst, ap, ◌∙◌, inl, inr, ◌⊎◌, fold, map, arith, append-nil, append_assoc, eqb-true, eq-eqb, length, if◌then◌else◌}
use Rattle.std.specs.List.{AllByRecursion as Each}
use Rattle.std.proofs.lemmas.Grind.{fold-append}
use Rattle.e3_types.specs.declared.entries.Act.{Act}
use Rattle.e3_types.specs.declared.entries.Act.TheVariants.{Step, Fall, Rise, RiseFall, Miss, Cut, Drop, Parts, Line}
use Rattle.e3_types.specs.declared.entries.Entry.{Entry}
use Rattle.e3_types.specs.declared.entries.Input.{Input}
use Rattle.e3_types.specs.declared.entries.Why.{Why}
use Rattle.e3_types.specs.declared.entries.Why.TheVariants.{Fault}
use Rattle.e3_types.specs.declared.records.Record.{Record}
use Rattle.e3_types.specs.declared.records.Record.TheVariants as log
use Rattle.e3_types.specs.declared.scenarios.Scenario.{Scenario}
use Rattle.e3_world.specs.declared.lives.At.{At}
use Rattle.e3_world.specs.declared.lives.Made.{Made}
use Rattle.e3_world.specs.declared.lives.Moment.{Moment}
use Rattle.e3_world.specs.declared.lives.SiteStep.{SiteStep}
use Rattle.e3_world.specs.Given.{IsGiven}
use Rattle.e3_world.specs.Items.{is_up_at}
use Rattle.e3_world.specs.Legal.{Guard, IsDue, AreDue, numbered, made_by, entry_of, records_by}
use Rattle.e3_world.specs.Lives.{present_log, incarnation_of, life_of, life_at, life_by}
use Rattle.e3_world.specs.Logs.{logged_inc, logged_inc_by}
use Rattle.e3_world.specs.Moves.{Move, Stepped, Silent, Rose, Past, Tail, own_entries, past_of, past_by, moves_of, moves_of_act, tail_of_act, kept_moves, left_by, log_by, rise_records, open_tail, unnumbered, unnumbered_input}
use Rattle.e3_world.specs.Packets.{sent}
use Rattle.e3_world.specs.Progress.{up_behind}
use Rattle.e3_world.proofs.Pushes.{past_push, incarnation_push, life_push, log_push}
use Rattle.e3_world.proofs.Readings.{own_same, own_other, up_same, up_other}
use Rattle.e3_laws.specs.steps.Bounds.{Suits}
use Rattle.e3_laws.proofs.steps.Each.{each-append, IfAny}
use Rattle.e3_laws.proofs.steps.Suits.Inputs.{place}
use Rattle.e3_laws.proofs.steps.Suits.Suiting.{due_input_suits}
use Rattle.e3_laws.proofs.steps.Suits.Holding.{Holds, step_holds}
use Rattle.e3_laws.proofs.steps.Operations.Tracing.{OfTxn, Says, step_says}
use Rattle.e3_laws.proofs.steps.Moving.{log_append}

-- the last incarnation of a log
pub inc_from : (n : ℕ) (rs : List Record) → Each OfTxn rs → fold logged_inc_by n rs ≡ n
inc_from n [] all = refl
inc_from n (log.Birth format site weights rows ∷ rs) all = absurd all.0
inc_from n (log.Inc m ∷ rs) all = absurd all.0
inc_from n (r ∷ rs) all = inc_from n rs all.1

pub inc_more : (was rs : List Record) → Each OfTxn rs → logged_inc (was ++ rs) ≡ logged_inc was
inc_more was rs all = fold-append logged_inc_by 0 was rs ∙ inc_from (logged_inc was) rs all

pub inc_rise : (sc : Scenario) (site inc : ℕ) (was log : List Record) → logged_inc (was ++ rise_records sc site inc log) ≡ inc
inc_rise sc site inc was [] = fold-append logged_inc_by 0 was (rise_records sc site inc [])
inc_rise sc site inc was (r ∷ rs) = fold-append logged_inc_by 0 was (rise_records sc site inc (r ∷ rs))

-- what a step records is of transactions
pub says_records : {a : At} (made : Made) → Says a made → Each OfTxn made.records
says_records made (inl refused) = let P : List Record → Type 0 = Each OfTxn in subst P (sym refused.records) tt
says_records made (inr traces) = traces.records

-- what holds of a site that is up, and of its tail
pub record Clocked (past : Past) (up : Bool) : Type 0 where
  pub same : up ≡ true → (life_at past.moves).inc ≡ logged_inc (log_by past.moves)
  pub shut : up ≡ true → past.tail ≡ None
  pub tail : IfAny (λ tl. logged_inc (log_by past.moves) ≤ logged_inc (log_by past.moves ++ tl.records)) past.tail

-- a site that goes on in its incarnation, or rises in one above all before
abbrev pub GoesOn : Past → Bool → Past → List Moment → Type 0
GoesOn w up v more = (up ≡ true) × ((life_at v.moves).inc ≡ (life_at w.moves).inc) × ((life_at v.moves).steps ≡ (life_at w.moves).steps ++ more)

abbrev pub Begins : Past → Bool → Past → Type 0
Begins w up v = (logged_inc (log_by w.moves) < (life_at v.moves).inc) × ((life_at v.moves).steps ≡ []) × (up ≡ false)

-- how a site comes from one past to the next, with these steps
pub record Advances (w : Past) (up : Bool) (v : Past) (next : Bool) (more : List Moment) : Type 0 where
  pub logs : logged_inc (log_by w.moves) ≤ logged_inc (log_by v.moves)
  pub lives : next ≡ true → GoesOn w up v more ⊎ Begins w up v

-- the step of an act
abbrev pub moments_of : Past → Act → List Moment
moments_of w (Step i records outs events) =
    record { before = (life_at w.moves).log; input = unnumbered_input i; records = records; outs = map unnumbered outs; told = events } ∷ []
moments_of w _ = []

-- both
pub record Turns (w : Past) (up : Bool) (v : Past) (next : Bool) (more : List Moment) : Type 0 where
  pub clocked : Clocked v next
  pub advances : Advances w up v next more

pub stays : (w : Past) (up : Bool) → Clocked w up → Turns w up w up []
stays w up was = record {
  clocked = was;
  advances = record { logs = omega arith; lives = λ is. inl (is, refl, sym (append-nil (life_at w.moves).steps)) };
}

-- a step
stepped : (sc : Scenario) (site : ℕ) (w : Past) (st : SiteStep) → Clocked w true → Each OfTxn st.records →
    Turns w true (record { moves = w.moves ++ record { site = site; did = Stepped st } ∷ []; tail = w.tail }) true
    (record { before = (life_at w.moves).log; input = st.input; records = st.records; outs = st.outs; told = st.told } ∷ [])
stepped sc site w st was all = record {
  clocked = record {
    same = λ up. ap (λ l. l.inc) life ∙ was.same refl ∙ sym same;
    shut = was.shut;
    tail = let P : Option Tail → Type 0 = IfAny (λ tl. logged_inc (log_by (w.moves ++ m ∷ [])) ≤ logged_inc (log_by (w.moves ++ m ∷ []) ++ tl.records)) in
        subst P (sym (was.shut refl)) tt;
  };
  advances = record {
    logs = omega (arith, same);
    lives = λ up. inl (refl, ap (λ l. l.inc) life, ap (λ l. l.steps) life);
  };
}
  where
    m : Move
    m = record { site = site; did = Stepped st }

    life : life_at (w.moves ++ m ∷ []) ≡ life_by (life_at w.moves) st
    life = ap life_of (incarnation_push w.moves m) ∙ life_push (incarnation_of w.moves) st

    same : logged_inc (log_by (w.moves ++ m ∷ [])) ≡ logged_inc (log_by w.moves)
    same = ap logged_inc (log_push w.moves m) ∙ inc_more (log_by w.moves) st.records all

-- a tail that is kept
kept_log : (site : ℕ) (w : Past) (kept : Bool) (o : Option Tail) → IfAny (λ tl. logged_inc (log_by w.moves) ≤ logged_inc (log_by w.moves ++ tl.records)) o →
    logged_inc (log_by w.moves) ≤ logged_inc (log_by (w.moves ++ kept_moves site kept o))
kept_log site w true (Some tl) is = let same : _ = ap logged_inc (log_push w.moves (record { site = site; did = Silent tl.inputs tl.records })) in omega (arith, same, is)
kept_log site w true None is = let same : _ = ap (λ l. logged_inc (log_by l)) (append-nil w.moves) in omega (arith, same)
kept_log site w false o is = let same : _ = ap (λ l. logged_inc (log_by l)) (append-nil w.moves) in omega (arith, same)

-- a rise
risen : (sc : Scenario) (site : ℕ) (w : Past) (kept : Bool) (inc : ℕ) (up : Bool) → Clocked w up → inc ≡ suc (logged_inc (log_by (w.moves ++ kept_moves site kept w.tail))) → up ≡ false →
    Turns w up (past_by sc site w (record { owner = site; act = Rise kept inc })) true []
risen sc site w kept inc up was next down = record {
  clocked = record { same = λ is. life ∙ sym logs; shut = λ is. refl; tail = tt };
  advances = record { logs = omega (arith, logs, next, kept_log site w kept w.tail was.tail); lives = λ is. inr (omega (arith, life, next, kept_log site w kept w.tail was.tail), steps, down) };
}
  where
    mine : List Move
    mine = w.moves ++ kept_moves site kept w.tail

    records : List Record
    records = rise_records sc site inc (log_by mine)

    m : Move
    m = record { site = site; did = Rose inc records }

    whole : w.moves ++ (kept_moves site kept w.tail ++ m ∷ []) ≡ mine ++ m ∷ []
    whole = sym (append_assoc w.moves (kept_moves site kept w.tail) (m ∷ []))

    logs : logged_inc (log_by (w.moves ++ (kept_moves site kept w.tail ++ m ∷ []))) ≡ inc
    logs = ap (λ l. logged_inc (log_by l)) whole ∙ ap logged_inc (log_push mine m) ∙ inc_rise sc site inc (log_by mine) (log_by mine)

    life : (life_at (w.moves ++ (kept_moves site kept w.tail ++ m ∷ []))).inc ≡ inc
    life = ap (λ l. (life_at l).inc) whole ∙ ap (λ i. (life_of i).inc) (incarnation_push mine m)
        ∙ inc_rise sc site inc (present_log (incarnation_of mine)) (log_by mine)

    steps : (life_at (w.moves ++ (kept_moves site kept w.tail ++ m ∷ []))).steps ≡ []
    steps = ap (λ l. (life_at l).steps) whole ∙ ap (λ i. (life_of i).steps) (incarnation_push mine m)

-- a tail that is left
left_clock : (l : List Record) (why : Why) (inputs : List Input) (records : List Record) → logged_inc l ≤ logged_inc (l ++ records) →
    IfAny (λ tl. logged_inc l ≤ logged_inc (l ++ tl.records)) (left_by why inputs records)
left_clock l Fault inputs records is = is
left_clock l why inputs records is = tt

-- a rise that failed
rise_failed : (sc : Scenario) (site : ℕ) (w : Past) (kept : Bool) (inc : ℕ) (why : Why) (up : Bool) → Clocked w up →
    inc ≡ suc (logged_inc (log_by (w.moves ++ kept_moves site kept w.tail))) →
    Turns w up (past_by sc site w (record { owner = site; act = RiseFall kept inc why })) false []
rise_failed sc site w kept inc why up was next = record {
  clocked = record {
    same = λ is. absurd cc;
    shut = λ is. absurd cc;
    tail = left_clock (log_by mine) why [] (rise_records sc site inc (log_by mine)) (let now : _ = inc_rise sc site inc (log_by mine) (log_by mine) in omega (arith, now, next));
  };
  advances = record { logs = kept_log site w kept w.tail was.tail; lives = λ is. absurd cc };
}
  where
    mine : List Move
    mine = w.moves ++ kept_moves site kept w.tail

-- a fall
fallen : (sc : Scenario) (site : ℕ) (w : Past) (inputs : List Input) (records : List Record) (why : Why) (up : Bool) → Clocked w up → Each OfTxn records →
    Turns w up (past_by sc site w (record { owner = site; act = Fall inputs records why })) false []
fallen sc site w inputs records why up was all = record {
  clocked = record {
    same = λ is. absurd cc;
    shut = λ is. absurd cc;
    tail = left_clock (log_by (w.moves ++ [])) why (map unnumbered_input inputs) records (let now : _ = inc_more (log_by (w.moves ++ [])) records all in omega (arith, now));
  };
  advances = record { logs = (let same : _ = ap (λ l. logged_inc (log_by l)) (append-nil w.moves) in omega (arith, same)); lives = λ is. absurd cc };
}

-- an act that makes no move and leaves the tail, behind which the site is up where it was, or down
quiet_clock : (sc : Scenario) (site : ℕ) (w v : Past) (up next : Bool) → v ≡ w → (next ≡ true → up ≡ true) → Clocked w up → Turns w up v next []
quiet_clock sc site w v up next same ups was =
    let P : Past → Type 0 = λ x. Turns w up x next [] in
    subst P (sym same) (record {
      clocked = record { same = λ is. was.same (ups is); shut = λ is. was.shut (ups is); tail = was.tail };
      advances = record { logs = omega arith; lives = λ is. inl (ups is, refl, sym (append-nil (life_at w.moves).steps)) };
    })

quiet_past : (sc : Scenario) (site : ℕ) (w : Past) (e : Entry) → moves_of_act sc site w e.act ≡ [] → tail_of_act sc site w e.act ≡ w.tail → past_by sc site w e ≡ w
quiet_past sc site w e moves tail =
    ap (λ l. record { moves = w.moves ++ l; tail = tail_of_act sc site w e.act }) moves
    ∙ ap (λ l. record { moves = l; tail = tail_of_act sc site w e.act }) (append-nil w.moves) ∙ ap (λ o. record { moves = w.moves; tail = o }) tail

-- the records of a fall are of transactions
pub fall_of_txn : (sc : Scenario) (inputs : List Input) (h : List Entry) (site : ℕ) → IsGiven sc → is_up_at h site ≡ true → AreDue sc h site inputs → Holds sc h →
    Each OfTxn (records_by sc h site inputs)
fall_of_txn sc [] h site given up due was = tt
fall_of_txn sc (i ∷ inputs) h site given up due was =
    let fit : Suits sc.weights site i = due_input_suits sc h site i given was.line.binds was.now.sent (λ s. (was.line.sites s).life) due.0 in
    let says : _ = step_says sc.weights site (incarnation_of (moves_of sc h site)) i (was.now.sites site).life.steps fit in
    each-append OfTxn (made_by sc h site i).records _ (says_records (made_by sc h site i) says)
    (fall_of_txn sc inputs (h ++ entry_of sc h site i ∷ []) site given (up_same h (entry_of sc h site i) site (eq-eqb site site refl) ∙ up) due.1
    (step_holds sc h site i given up due.0 was))

-- what a step of a site says, where its input is due
pub due_says : (sc : Scenario) (h : List Entry) (site : ℕ) (i : Input) → IsGiven sc → IsDue sc h site i → Holds sc h →
    Says (place sc.weights site (incarnation_of (moves_of sc h site)) i) (made_by sc h site i)
due_says sc h site i given due was =
    let fit : Suits sc.weights site i = due_input_suits sc h site i given was.line.binds was.now.sent (λ s. (was.line.sites s).life) due in
    step_says sc.weights site (incarnation_of (moves_of sc h site)) i (was.now.sites site).life.steps fit

-- the clock of a site in a history, and its advance behind one more entry
abbrev pub ClockAt : Scenario → List Entry → ℕ → Type 0
ClockAt sc h s = Clocked (past_of sc s (own_entries s h)) (is_up_at h s)

abbrev pub more_at : Scenario → List Entry → Entry → ℕ → List Moment
more_at sc h e s = if e.owner == s then moments_of (past_of sc s (own_entries s h)) e.act else []

abbrev pub AdvanceAt : Scenario → List Entry → Entry → ℕ → Type 0
AdvanceAt sc h e s = Turns (past_of sc s (own_entries s h)) (is_up_at h s) (past_of sc s (own_entries s (h ++ e ∷ []))) (is_up_at (h ++ e ∷ []) s) (more_at sc h e s)

-- by the owner's own advance
by_owner : (sc : Scenario) (h : List Entry) (e : Entry) (s : ℕ) → ClockAt sc h s →
    ((e.owner == s) ≡ true → Turns (past_of sc s (own_entries s h)) (is_up_at h s) (past_by sc s (past_of sc s (own_entries s h)) e) (up_behind (is_up_at h s) e.act) (moments_of (past_of sc s (own_entries s h)) e.act)) → AdvanceAt sc h e s
by_owner sc h e s was mine = by (e.owner == s) refl
  where
    by : (b : Bool) → (e.owner == s) ≡ b → AdvanceAt sc h e s
    by true is =
        let w : Past = past_of sc s (own_entries s h) in
        let P : Past → Type 0 = λ v. Turns w (is_up_at h s) v (is_up_at (h ++ e ∷ []) s) (more_at sc h e s) in
        let Q : Bool → Type 0 = λ b. Turns w (is_up_at h s) (past_by sc s w e) b (more_at sc h e s) in
        let R : Bool → Type 0 = λ b. Turns w (is_up_at h s) (past_by sc s w e) (up_behind (is_up_at h s) e.act) (if b then moments_of w e.act else []) in
        subst P (sym (ap (past_of sc s) (own_same s h e is) ∙ past_push sc s (own_entries s h) e)) (subst Q (sym (up_same h e s is)) (subst R (sym is) (mine is)))
    by false is =
        let w : Past = past_of sc s (own_entries s h) in
        let P : Past → Type 0 = λ v. Turns w (is_up_at h s) v (is_up_at (h ++ e ∷ []) s) (more_at sc h e s) in
        let Q : Bool → Type 0 = λ b. Turns w (is_up_at h s) w b (more_at sc h e s) in
        let R : Bool → Type 0 = λ b. Turns w (is_up_at h s) w (is_up_at h s) (if b then moments_of w e.act else []) in
        subst P (sym (ap (past_of sc s) (own_other s h e is))) (subst Q (sym (up_other h e s is)) (subst R (sym is) (stays w (is_up_at h s) was)))

-- the incarnation of a site that steps
pub stepped_inc : (sc : Scenario) (h : List Entry) (site : ℕ) (i : Input) → (life_at (moves_of sc (h ++ entry_of sc h site i ∷ []) site)).inc ≡ (life_at (moves_of sc h site)).inc
stepped_inc sc h site i =
    let w : Past = past_of sc site (own_entries site h) in
    let st : SiteStep = record { input = unnumbered_input i; records = (made_by sc h site i).records; outs = map unnumbered (numbered (suc (length (sent h))) (made_by sc h site i).outs); told = (made_by sc h site i).told } in
    ap (λ p. (life_at p.moves).inc) (ap (past_of sc site) (own_same site h (entry_of sc h site i) (eq-eqb site site refl)) ∙ past_push sc site (own_entries site h) (entry_of sc h site i))
    ∙ ap (λ x. (life_of x).inc) (incarnation_push w.moves (record { site = site; did = Stepped st })) ∙ ap (λ l. l.inc) (life_push (incarnation_of w.moves) st)

pub step_advance : (sc : Scenario) (h : List Entry) (site : ℕ) (i : Input) → IsGiven sc → is_up_at h site ≡ true → IsDue sc h site i → Holds sc h →
    ((s : ℕ) → ClockAt sc h s) → (s : ℕ) → AdvanceAt sc h (entry_of sc h site i) s
step_advance sc h site i given up due was clocks s = by_owner sc h (entry_of sc h site i) s (clocks s) (λ is.
    let P : ℕ → Type 0 = λ x. Turns (past_of sc x (own_entries x h)) (is_up_at h x) (past_by sc x (past_of sc x (own_entries x h)) (entry_of sc h site i)) (is_up_at h x) (moments_of (past_of sc x (own_entries x h)) (entry_of sc h site i).act) in
    let Q : Bool → Type 0 = λ b. Clocked (past_of sc site (own_entries site h)) b in
    let R : Bool → Type 0 = λ b. Turns (past_of sc site (own_entries site h)) b (past_by sc site (past_of sc site (own_entries site h)) (entry_of sc h site i)) b (moments_of (past_of sc site (own_entries site h)) (entry_of sc h site i).act) in
    subst P (eqb-true site s is) (subst R (sym up) (stepped sc site (past_of sc site (own_entries site h)) _ (subst Q up (clocks site))
    (says_records (made_by sc h site i) (due_says sc h site i given due was)))))

-- an act that makes no move
quiet_advance : (sc : Scenario) (h : List Entry) (owner : ℕ) (act : Act) → ((s : ℕ) → ClockAt sc h s) →
    ((sc : Scenario) (s : ℕ) (w : Past) → (moves_of_act sc s w act ≡ []) × (tail_of_act sc s w act ≡ w.tail)) → ((was : Bool) → up_behind was act ≡ true → was ≡ true) → ((w : Past) → moments_of w act ≡ []) →
    (s : ℕ) → AdvanceAt sc h (record { owner = owner; act = act }) s
quiet_advance sc h owner act clocks none ups still s = by_owner sc h (record { owner = owner; act = act }) s (clocks s) (λ is.
    let w : Past = past_of sc s (own_entries s h) in
    let P : List Moment → Type 0 = λ l. Turns w (is_up_at h s) (past_by sc s w (record { owner = owner; act = act })) (up_behind (is_up_at h s) act) l in
    subst P (sym (still w)) (quiet_clock sc s w (past_by sc s w (record { owner = owner; act = act })) (is_up_at h s) (up_behind (is_up_at h s) act)
    (quiet_past sc s w (record { owner = owner; act = act }) (none sc s w).0 (none sc s w).1) (ups (is_up_at h s)) (clocks s)))

pub guard_advance : (sc : Scenario) (h : List Entry) (owner : ℕ) (act : Act) → IsGiven sc → Holds sc h → ((s : ℕ) → ClockAt sc h s) →
    Guard sc h (record { owner = owner; act = act }) → (s : ℕ) → AdvanceAt sc h (record { owner = owner; act = act }) s
guard_advance sc h zero (Line number) given was clocks guard s = quiet_advance sc h 0 (Line number) clocks (λ k x w. (refl, refl)) (λ was up. up) (λ w. refl) s
guard_advance sc h zero (Parts parts) given was clocks guard s = quiet_advance sc h 0 (Parts parts) clocks (λ k x w. (refl, refl)) (λ was up. up) (λ w. refl) s
guard_advance sc h zero (Drop number) given was clocks guard s = quiet_advance sc h 0 (Drop number) clocks (λ k x w. (refl, refl)) (λ was up. up) (λ w. refl) s
guard_advance sc h zero act given was clocks guard s = absurd guard
guard_advance sc h (suc o) (Step i records outs events) given was clocks guard s =
    let P : Entry → Type 0 = λ e. AdvanceAt sc h e s in
    subst P (sym guard.made) (step_advance sc h (suc o) i given guard.up guard.due was clocks s)
guard_advance sc h (suc o) (Fall inputs records why) given was clocks guard s = by_owner sc h _ s (clocks s) (λ is.
    fallen sc s (past_of sc s (own_entries s h)) inputs records why (is_up_at h s) (clocks s)
    (let P : List Record → Type 0 = Each OfTxn in subst P (sym guard.made) (fall_of_txn sc inputs h (suc o) given guard.up guard.due was)))
guard_advance sc h (suc o) Cut given was clocks guard s = quiet_advance sc h (suc o) Cut clocks (λ k x w. (refl, refl)) (λ was up. absurd cc) (λ w. refl) s
guard_advance sc h (suc o) (Rise kept inc) given was clocks guard s = by_owner sc h _ s (clocks s) (λ is.
    let P : ℕ → Type 0 = λ x. Turns (past_of sc x (own_entries x h)) (is_up_at h x) (past_by sc x (past_of sc x (own_entries x h)) (record { owner = x; act = Rise kept inc })) true [] in
    subst P (eqb-true (suc o) s is) (risen sc (suc o) (past_of sc (suc o) (own_entries (suc o) h)) kept inc (is_up_at h (suc o)) (clocks (suc o))
    (guard.next ∙ ap (λ l. suc (logged_inc l)) (sym (log_append (moves_of sc h (suc o)) (kept_moves (suc o) kept (open_tail sc h (suc o)))))) guard.rising.down))
guard_advance sc h (suc o) (RiseFall kept inc why) given was clocks guard s = by_owner sc h _ s (clocks s) (λ is.
    let P : ℕ → Type 0 = λ x. Turns (past_of sc x (own_entries x h)) (is_up_at h x) (past_by sc x (past_of sc x (own_entries x h)) (record { owner = x; act = RiseFall kept inc why })) false [] in
    subst P (eqb-true (suc o) s is) (rise_failed sc (suc o) (past_of sc (suc o) (own_entries (suc o) h)) kept inc why (is_up_at h (suc o)) (clocks (suc o))
    (guard.next ∙ ap (λ l. suc (logged_inc l)) (sym (log_append (moves_of sc h (suc o)) (kept_moves (suc o) kept (open_tail sc h (suc o))))))))
guard_advance sc h (suc o) Miss given was clocks guard s = quiet_advance sc h (suc o) Miss clocks (λ k x w. (refl, refl)) (λ was up. absurd cc) (λ w. refl) s
guard_advance sc h (suc o) act given was clocks guard s = absurd guard
