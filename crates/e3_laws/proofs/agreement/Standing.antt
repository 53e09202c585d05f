-- What a step of a legal history says stands in its site's log, with that step and ever after.
use Rattle.std.proofs.Common.{arith, ◌≡◌, ◌⊎◌, inl, inr, ◌∷◌, [], ◌++◌, ◌==◌, ℕ, zero, suc, Bool, true, false, List, length, refl, sym, ap, subst, ◌∙◌, append-nil, append_assoc}
use Rattle.std.specs.List.{flat_map}
use Rattle.std.proofs.lemmas.List.Concat.{flat_map-append}
use Rattle.e3_types.specs.declared.entries.Act.{Act}
use Rattle.e3_types.specs.declared.entries.Act.TheVariants.{Step, Fall, Rise, RiseFall, Miss, Cut, Drop, Parts, Line}
use Rattle.e3_types.specs.declared.entries.Entry.{Entry}
use Rattle.e3_types.specs.declared.entries.Input.{Input}
use Rattle.e3_types.specs.declared.entries.Told.{Told}
use Rattle.e3_types.specs.declared.messages.Packet.{Packet}
use Rattle.e3_types.specs.declared.records.Record.{Record}
use Rattle.e3_types.specs.declared.records.Record.TheVariants as log
use Rattle.e3_types.specs.declared.scenarios.Scenario.{Scenario}
use Rattle.e3_world.specs.declared.lives.Made.{Made}
use Rattle.e3_world.specs.Given.{IsGiven}
use Rattle.e3_world.specs.Items.{is_delivery}
use Rattle.e3_world.specs.Legal.{numbered, made_by, IsStep, Guard, LegalAfter, IsLegal}
use Rattle.e3_world.specs.Lives.{incarnation_of, life_at}
use Rattle.e3_world.specs.Moves.{Move, Past, own_entries, moves_at, moves_of, log_by, log_of, recorded, past_of, moves_of_act, trail_of, unnumbered_input}
use Rattle.e3_world.specs.Packets.{outs_of, sent}
use Rattle.e3_world.specs.Safe.{Said, said_told, said_msg, said_act, ToldStands}
use Rattle.e3_world.specs.Sound.{WasSent}
use Rattle.e3_world.proofs.Pushes.{legal_front, life_log_at, past_push, step_unnumbered}
use Rattle.e3_world.specs.Steps.{step_of}
use Rattle.std.proofs.lemmas.List.Elements.{Contains-append_right}
use Rattle.e3_world.proofs.Readings.{own_same, own_other}
use Rattle.e3_world.proofs.Trails.{trail_moves}
use Rattle.e3_laws.specs.agreement.Logs.{IsIn}
use Rattle.e3_laws.specs.agreement.Rows.{MayTake}
use Rattle.e3_laws.specs.agreement.Trails.{IsMade}
use Rattle.e3_laws.proofs.agreement.Refinement.Following.{in_from_contains}
use Rattle.e3_laws.proofs.agreement.Refinement.Lists.{in_flat_map, in_left, in_right}
use Rattle.e3_laws.proofs.agreement.Refinement.Voting.{contains_from_in}
use Rattle.e3_laws.specs.agreement.Histories.{ItemsFit}
use Rattle.e3_laws.proofs.agreement.Fitting.{given_fit}
use Rattle.e3_laws.proofs.agreement.Histories.{due_taken, past_here, legal_made, given_told}
use Rattle.e3_laws.proofs.agreement.Saying.{Stood, AllStood}
use Rattle.e3_laws.proofs.agreement.Telling.{made_lives_tell, step_tells, sends_own}
use Rattle.e3_laws.proofs.agreement.Protocol.Reached.{in_parts}

-- the log of a site with one more move or none
log_more : (sc : Scenario) (h : List Entry) (e : Entry) (s : ℕ) (r : Record) → IsIn r (log_of sc h s) → IsIn r (log_of sc (h ++ e ∷ []) s)
log_more sc h e s r k = by (e.owner == s) refl
  where
    by : (b : Bool) → (e.owner == s) ≡ b → IsIn r (log_of sc (h ++ e ∷ []) s)
    by true is =
        let more : List Move = moves_of_act sc s (past_of sc s (own_entries s h)) e.act in
        let mine : moves_of sc (h ++ e ∷ []) s ≡ moves_of sc h s ++ more = ap (λ z. (past_of sc s z).moves) (own_same s h e is) ∙ ap (λ (w : Past). w.moves) (past_push sc s (own_entries s h) e) in
        subst (λ z. IsIn r (log_by z)) (sym mine)
        (subst (λ z. IsIn r z) (sym (flat_map-append recorded (moves_of sc h s) more)) (in_left r (log_of sc h s) (log_by more) k))
    by false is = subst (λ z. IsIn r (log_by (past_of sc s z).moves)) (sym (own_other s h e is)) k

-- a record of a log stands in it ever after
log_grows : (sc : Scenario) (h more : List Entry) (s : ℕ) (r : Record) → IsIn r (log_of sc h s) → IsIn r (log_of sc (h ++ more) s)
log_grows sc h [] s r k = subst (λ z. IsIn r (log_of sc z s)) (sym (append-nil h)) k
log_grows sc h (e ∷ more) s r k = subst (λ z. IsIn r (log_of sc z s)) (append_assoc h (e ∷ []) more) (log_grows sc (h ++ e ∷ []) more s r (log_more sc h e s r k))

-- the log of a site behind its step
step_log : (sc : Scenario) (h : List Entry) (site : ℕ) (i : Input) (records : List Record) (outs : List Packet) (events : List Told)
    → log_of sc (h ++ record { owner = site; act = Step i records outs events } ∷ []) site ≡ log_of sc h site ++ records
step_log sc h site i records outs events =
    let e : Entry = record { owner = site; act = Step i records outs events } in
    ap (λ (w : Past). log_by w.moves) (past_here sc h e)
    ∙ flat_map-append recorded (moves_of sc h site) (moves_of_act sc site (past_of sc site (own_entries site h)) e.act)
    ∙ ap (λ z. log_of sc h site ++ z) (append-nil records)

pub numbered_from : (n : ℕ) (ps : List Packet) (p : Packet) → IsIn p (numbered n ps) → (q : Packet) × IsIn q ps × (p.«from» ≡ q.«from»)
numbered_from n [] p k = absurd k
numbered_from n (q ∷ ps) p (inl e) = (q, inl refl, ap (λ (z : Packet). z.«from») e)
numbered_from n (q ∷ ps) p (inr k) = let t = numbered_from (suc n) ps p k in (t.0, inr t.1, t.2)

-- what a step of a legal history says stands with it
step_stands : (sc : Scenario) (h : List Entry) (site : ℕ) (i : Input) (records : List Record) (outs : List Packet) (events : List Told) (s : Said)
    → IsGiven sc → IsLegal sc (h ++ record { owner = site; act = Step i records outs events } ∷ []) → IsStep sc h site i (Step i records outs events)
    → (is_delivery i ≡ false → MayTake site i) → IsIn s (said_act (Step i records outs events))
    → IsIn (log.Decision s.txn s.dir) (log_of sc (h ++ record { owner = site; act = Step i records outs events } ∷ []) site)
step_stands sc h site i records outs events s given legal step fits k = by (in_parts s (flat_map said_told events) (flat_map (λ (p : Packet). said_msg p.msg) outs) k)
  where
    e : Entry
    e = record { owner = site; act = Step i records outs events }

    made : Made
    made = made_by sc h site i

    is_made : IsMade sc (trail_of sc h)
    is_made = let front : IsLegal sc h = legal_front sc h (e ∷ []) legal in legal_made sc h front (given_fit sc h given front)

    taken : MayTake site (unnumbered_input i) × WasSent (trail_of sc h) (unnumbered_input i)
    taken = due_taken sc h site i step.due fits

    same_records : records ≡ made.records
    same_records = ap (λ (x : Entry). records_in x.act) step.made
      where
        records_in : Act → List Record
        records_in (Step j rs ps es) = rs
        records_in act = []

    same_events : events ≡ made.told
    same_events = ap (λ (x : Entry). told_in x.act) step.made
      where
        told_in : Act → List Told
        told_in (Step j rs ps es) = es
        told_in act = []

    same_outs : outs ≡ numbered (suc (length (sent h))) made.outs
    same_outs = ap (λ (x : Entry). outs_of x.act) step.made

    -- what the step of these moves tells stands behind them
    AllTold : List Move → Made → Type 0
    AllTold mine m = (x : Told) → IsIn x m.told → AllStood ((life_at mine).log ++ m.records) x

    tells : AllTold (moves_of sc h site) made
    tells =
        let now = step_tells sc (trail_of sc h) site (unnumbered_input i) is_made taken.0 taken.1 (made_lives_tell sc (trail_of sc h) is_made site) in
        subst (λ z. AllTold z (step_of sc.weights site (incarnation_of z) i)) (trail_moves sc site h)
        (subst (λ (m : Made). AllTold (moves_at site (trail_of sc h)) m) (step_unnumbered sc.weights site (incarnation_of (moves_at site (trail_of sc h))) i) now.told)

    -- and what it sends is its own
    own_outs : (p : Packet) → IsIn p made.outs → p.«from» ≡ site
    own_outs =
        subst (λ z. (p : Packet) → IsIn p (step_of sc.weights site (incarnation_of z) i).outs → p.«from» ≡ site) (trail_moves sc site h)
        (subst (λ (m : Made). (p : Packet) → IsIn p m.outs → p.«from» ≡ site) (step_unnumbered sc.weights site (incarnation_of (moves_at site (trail_of sc h))) i)
        (sends_own sc (trail_of sc h) site (unnumbered_input i) is_made taken.0 taken.1 s.txn))

    by : IsIn s (flat_map said_told events) ⊎ IsIn s (flat_map (λ (p : Packet). said_msg p.msg) outs) → IsIn (log.Decision s.txn s.dir) (log_of sc (h ++ e ∷ []) site)
    by (inl told_it) =
        let f = in_flat_map said_told s events told_it in
        let stood : Stood ((life_at (moves_of sc h site)).log ++ made.records) s = tells f.0 (subst (λ z. IsIn f.0 z) same_events f.1) s f.2 in
        subst (λ z. Stood z s) (sym (step_log sc h site i records outs events))
        (subst (λ z. Stood (log_of sc h site ++ z) s) (sym same_records) (subst (λ z. Stood (z ++ made.records) s) (life_log_at (moves_of sc h site)) stood))
    by (inr sent_it) =
        let f = in_flat_map (λ (p : Packet). said_msg p.msg) s outs sent_it in
        let n = numbered_from (suc (length (sent h))) made.outs f.0 (subst (λ z. IsIn f.0 z) same_outs f.1) in
        let mine : f.0.«from» ≡ site = n.2 ∙ own_outs n.0 n.1 in
        let was_sent : IsIn f.0 (sent (h ++ e ∷ [])) = subst (λ z. IsIn f.0 z) (sym (flat_map-append (λ (x : Entry). outs_of x.act) h (e ∷ []))) (in_right f.0 (sent h) (outs ++ []) (in_left f.0 outs [] f.1)) in
        subst (λ z. IsIn (log.Decision s.txn s.dir) (log_of sc (h ++ e ∷ []) z)) mine
        (in_from_contains (log_of sc (h ++ e ∷ []) f.0.«from») (log.Decision s.txn s.dir)
        (given_told sc (h ++ e ∷ []) given legal f.0 s (contains_from_in (sent (h ++ e ∷ [])) f.0 was_sent) (contains_from_in (said_msg f.0.msg) s f.2)))

-- the guard and the fit of the last entry
last_guard : (sc : Scenario) (before h : List Entry) (e : Entry) → LegalAfter sc before (h ++ e ∷ []) → Guard sc (before ++ h) e
last_guard sc before [] e legal = subst (λ z. Guard sc z e) (sym (append-nil before)) legal.0
last_guard sc before (x ∷ h) e legal = subst (λ z. Guard sc z e) (append_assoc before (x ∷ []) h) (last_guard sc (before ++ x ∷ []) h e legal.1)

-- what the last entry of a legal history says stands
last_stands : (sc : Scenario) (h : List Entry) (owner : ℕ) (act : Act) (s : Said) → IsGiven sc → IsLegal sc (h ++ record { owner = owner; act = act } ∷ []) → Guard sc h (record { owner = owner; act = act })
    → ItemsFit (record { owner = owner; act = act }) → IsIn s (said_act act) → IsIn (log.Decision s.txn s.dir) (log_of sc (h ++ record { owner = owner; act = act } ∷ []) owner)
last_stands sc h zero (Step i records outs events) s given legal guard fits k = absurd guard
last_stands sc h (suc n) (Step i records outs events) s given legal guard fits k =
    step_stands sc h (suc n) i records outs events s given legal guard (λ no_packet. fits i (0, omega arith, refl) no_packet) k
last_stands sc h owner (Fall inputs records why) s given legal guard fits k = absurd k
last_stands sc h owner (Rise kept inc) s given legal guard fits k = absurd k
last_stands sc h owner (RiseFall kept inc why) s given legal guard fits k = absurd k
last_stands sc h owner Miss s given legal guard fits k = absurd k
last_stands sc h owner Cut s given legal guard fits k = absurd k
last_stands sc h owner (Drop number) s given legal guard fits k = absurd k
last_stands sc h owner (Parts parts) s given legal guard fits k = absurd k
last_stands sc h owner (Line number) s given legal guard fits k = absurd k

-- in every legal history of a scenario that keeps the rules, what was told stands
pub given_stands : (sc : Scenario) (h : List Entry) → IsGiven sc → IsLegal sc h → ToldStands sc h
given_stands sc h given legal before after e t d is says = (
  contains_from_in (log_of sc (before ++ e ∷ []) e.owner) (log.Decision t d) now,
  λ more goes_on. contains_from_in (log_of sc (before ++ e ∷ more) e.owner) (log.Decision t d)
      (subst (λ z. IsIn (log.Decision t d) (log_of sc z e.owner)) (append_assoc before (e ∷ []) more) (log_grows sc (before ++ e ∷ []) more e.owner (log.Decision t d) now)),
)
  where
    front : IsLegal sc (before ++ e ∷ [])
    front = legal_front sc (before ++ e ∷ []) after (subst (λ z. IsLegal sc z) (is ∙ sym (append_assoc before (e ∷ []) after)) legal)

    fit : ItemsFit e
    fit = given_fit sc (before ++ e ∷ []) given front e (Contains-append_right before (e ∷ []) e (0, omega arith, refl))

    now : IsIn (log.Decision t d) (log_of sc (before ++ e ∷ []) e.owner)
    now = last_stands sc before e.owner e.act (record { txn = t; dir = d }) given front (last_guard sc [] before e front) fit (in_from_contains (said_act e.act) (record { txn = t; dir = d }) says)
