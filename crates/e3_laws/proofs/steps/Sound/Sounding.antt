-- The trail of a legal history of a given scenario is sound.
use Rattle.std.proofs.Common.{◌≡◌, ◌==◌, ◌++◌, ◌∷◌, [], ℕ, zero, suc, Bool, true, false, List, Option, Some, None, refl, sym, subst, ap, ◌∙◌, inl, inr, ◌⊎◌, map, arith, append-nil, append_assoc, eqb-true, eq-eqb}
use Rattle.std.specs.Prelude.{Contains}
use Rattle.std.specs.List.{flat_map}
use Rattle.std.proofs.lemmas.Bool.{eqb-false}
use Rattle.std.proofs.lemmas.Grind.{flat_map-append}
use Rattle.std.proofs.lemmas.List.Elements.{filter-append, Contains-append_left, Contains-append_right}
use Rattle.e3_types.specs.declared.entries.Act.{Act}
use Rattle.e3_types.specs.declared.entries.Act.TheVariants.{Step, Fall, Rise, RiseFall, Miss, Cut, Drop, Parts, Line}
use Rattle.e3_types.specs.declared.entries.Entry.{Entry}
use Rattle.e3_types.specs.declared.entries.Input.{Input}
use Rattle.e3_types.specs.declared.entries.Input.TheVariants as input
use Rattle.e3_types.specs.declared.entries.Why.{Why}
use Rattle.e3_types.specs.declared.entries.Why.TheVariants.{Fault}
use Rattle.e3_types.specs.declared.messages.Packet.{Packet}
use Rattle.e3_types.specs.declared.records.Record.{Record}
use Rattle.e3_types.specs.declared.scenarios.Scenario.{Scenario}
use Rattle.e3_world.specs.declared.lives.Life.{Life}
use Rattle.e3_world.specs.Given.{IsGiven}
use Rattle.e3_world.specs.Items.{is_up_at}
use Rattle.e3_world.specs.Legal.{Guard, IsLegal, LegalAfter, IsDue, AreDue, IsRise, made_by, entry_of, records_by}
use Rattle.e3_world.specs.Lives.{life_at}
use Rattle.e3_world.specs.Logs.{logged_inc}
use Rattle.e3_world.specs.Moves.{Move, Silent, Tail, own_entries, moves_at, past_of, moves_of, moves_of_act, tail_of_act, kept_moves, left_by, log_by, open_tail, recorded, rise_records, unnumbered, unnumbered_input, trail_after, trail_of}
use Rattle.e3_world.specs.Packets.{sent}
use Rattle.e3_world.specs.Sound.{Fits, WasSent, sends, step_move, has_risen, FitInTurn, records_in_turn, IsSoundRise, IsSoundMove, SoundAfter, IsSound}
use Rattle.e3_world.proofs.InTrail.{pending_sent, due_was_sent}
use Rattle.e3_world.proofs.Numbers.{entered_move, step_move_unnumbered}
use Rattle.e3_world.proofs.Pushes.{past_push}
use Rattle.e3_world.proofs.Readings.{own_same, own_other}
use Rattle.e3_world.proofs.UpIsRisen.{up_risen}
use Rattle.e3_world.proofs.Sending.{trail_sends}
use Rattle.e3_world.proofs.Trails.{trail_moves}
use Rattle.e3_laws.specs.steps.Bounds.{Suits}
use Rattle.e3_laws.proofs.steps.Suits.Suiting.{due_input_suits}
use Rattle.e3_laws.proofs.steps.Operations.Lasting.{Lasts, first_lasts, step_lasts, guard_lasts}
use Rattle.e3_laws.proofs.steps.Operations.Speaking.{moment_of, step_facts}
use Rattle.e3_laws.proofs.steps.Operations.Stepping.{Stepping}
use Rattle.e3_laws.proofs.steps.Operations.Fitting.{due_fits}
use Rattle.e3_laws.proofs.steps.Moving.{moves_on, log_append}
use Rattle.e3_laws.proofs.steps.Each.{IfAny}

-- a tail that is open would be sound if it were kept
abbrev pub TailSound : Scenario → List Move → ℕ → Option Tail → Type 0
TailSound sc trail s o = IfAny (λ tail. IsSoundMove sc trail (record { site = s; did = Silent tail.inputs tail.records })) o

-- the trail is sound, and so is each tail that is open
pub record Trailing (sc : Scenario) (h : List Entry) : Type 0 where
  pub sound : IsSound sc (trail_of sc h)
  pub tails : (s : ℕ) → TailSound sc (trail_of sc h) s (open_tail sc h s)

-- one more entry, one more move
after_trail : (sc : Scenario) (before xs ys : List Entry) → trail_after sc before (xs ++ ys) ≡ trail_after sc before xs ++ trail_after sc (before ++ xs) ys
after_trail sc before [] ys = ap (λ l. trail_after sc l ys) (sym (append-nil before))
after_trail sc before (e ∷ xs) ys =
    let m : List Move = moves_of_act sc e.owner (past_of sc e.owner (own_entries e.owner before)) e.act in
    ap (λ l. m ++ l) (after_trail sc (before ++ e ∷ []) xs ys)
    ∙ sym (append_assoc m (trail_after sc (before ++ e ∷ []) xs) (trail_after sc ((before ++ e ∷ []) ++ xs) ys))
    ∙ ap (λ l. (m ++ trail_after sc (before ++ e ∷ []) xs) ++ trail_after sc l ys) (append_assoc before (e ∷ []) xs)

pub trail_push : (sc : Scenario) (h : List Entry) (e : Entry) → trail_of sc (h ++ e ∷ []) ≡ trail_of sc h ++ moves_of_act sc e.owner (past_of sc e.owner (own_entries e.owner h)) e.act
trail_push sc h e = after_trail sc [] h (e ∷ []) ∙ ap (λ l. trail_of sc h ++ l) (append-nil (moves_of_act sc e.owner (past_of sc e.owner (own_entries e.owner h)) e.act))

sound_append : (sc : Scenario) (before xs ys : List Move) → SoundAfter sc before xs → SoundAfter sc (before ++ xs) ys → SoundAfter sc before (xs ++ ys)
sound_append sc before [] ys first more = let P : List Move → Type 0 = λ l. SoundAfter sc l ys in subst P (append-nil before) more
sound_append sc before (m ∷ xs) ys first more = (
  first.0,
  sound_append sc (before ++ m ∷ []) xs ys first.1
      (let P : List Move → Type 0 = λ l. SoundAfter sc l ys in subst P (sym (append_assoc before (m ∷ []) xs)) more),
)

-- a tail stays sound where its site makes no move
fits_later : (sc : Scenario) (before later : List Move) (s : ℕ) (mine : List Move) (inputs : List Input) → ((i : Input) → WasSent before i → WasSent later i) →
    FitInTurn sc before s mine inputs → FitInTurn sc later s mine inputs
fits_later sc before later s mine [] more all = tt
fits_later sc before later s mine (i ∷ inputs) more all = (all.0, more i all.1, fits_later sc before later s (mine ++ step_move sc s mine i ∷ []) inputs more all.2)

silent_later : (sc : Scenario) (before later : List Move) (s : ℕ) (inputs : List Input) (records : List Record) → moves_at s before ≡ moves_at s later →
    ((i : Input) → WasSent before i → WasSent later i) → IsSoundMove sc before (record { site = s; did = Silent inputs records }) →
    IsSoundMove sc later (record { site = s; did = Silent inputs records })
silent_later sc before later s [] records same more is = (
  is.0,
  (let P : List Move → Type 0 = λ l. is.0 ≡ suc (logged_inc (log_by l)) in
      let Q : List Move → Type 0 = λ l. records ≡ rise_records sc s is.0 (log_by l) in
      record { next = subst P same is.1.next; made = subst Q same is.1.made }),
)
silent_later sc before later s (i ∷ inputs) records same more is =
    let P : List Move → Type 0 = λ l. has_risen l ≡ true in
    let Q : List Move → Type 0 = λ l. FitInTurn sc later s l (i ∷ inputs) in
    let R : List Move → Type 0 = λ l. records ≡ records_in_turn sc s l (i ∷ inputs) in
    record {
      risen = subst P same is.risen;
      fits = subst Q same (fits_later sc before later s (moves_at s before) (i ∷ inputs) more is.fits);
      made = subst R same is.made;
    }

tail_later : (sc : Scenario) (before later : List Move) (s : ℕ) (o : Option Tail) → moves_at s before ≡ moves_at s later →
    ((i : Input) → WasSent before i → WasSent later i) → TailSound sc before s o → TailSound sc later s o
tail_later sc before later s None same more is = tt
tail_later sc before later s (Some tail) same more is = silent_later sc before later s tail.inputs tail.records same more is

sent_later : (before more : List Move) (i : Input) → WasSent before i → WasSent (before ++ more) i
sent_later before more (input.Deliver p) has = let P : List Packet → Type 0 = λ l. Contains l p in
    subst P (sym (flat_map-append sends before more)) (Contains-append_left (flat_map sends before) (flat_map sends more) p has)
sent_later before more i has = tt

-- the number of a packet does not matter
fits_unnumbered : (weights : List ℕ) (site : ℕ) (life : Life) (i : Input) → Fits weights site life i → Fits weights site life (unnumbered_input i)
fits_unnumbered weights site life (input.Deliver p) fit = record { among = fit.among; to = fit.to; sender = fit.sender; message = fit.message }
fits_unnumbered weights site life i fit = fit

-- a step's move
was_sent : (sc : Scenario) (h : List Entry) (site : ℕ) (i : Input) → IsDue sc h site i → WasSent (trail_of sc h) (unnumbered_input i)
was_sent sc h site (input.Deliver p) due = due_was_sent sc h site p due
was_sent sc h site i due = tt

step_sound : (sc : Scenario) (h : List Entry) (site : ℕ) (i : Input) → IsGiven sc → Lasts sc h → is_up_at h site ≡ true → IsDue sc h site i →
    IsSoundMove sc (trail_of sc h) (step_move sc site (moves_of sc h site) i)
step_sound sc h site i given was up due =
    let P : List Move → Type 0 = λ l. has_risen l ≡ true in
    let Q : List Move → Type 0 = λ l. Fits sc.weights site (life_at l) (unnumbered_input i) in
    record {
      risen = subst P (sym (trail_moves sc site h)) (up_risen sc site (own_entries site h) up);
      fits = subst Q (sym (trail_moves sc site h)) (fits_unnumbered sc.weights site (life_at (moves_of sc h site)) i (due_fits sc h site i given was up due));
      was_sent = was_sent sc h site i due;
      made = ap (λ l. step_move sc site l i) (sym (trail_moves sc site h)) ∙ sym (step_move_unnumbered sc site (moves_at site (trail_of sc h)) i);
    }

-- a packet that was sent was sent by a move of the trail
contains_unnumbered : (xs : List Packet) (x : Packet) → Contains xs x → Contains (map unnumbered xs) (unnumbered x)
contains_unnumbered [] x has = absurd (omega (arith, has.1))
contains_unnumbered (y ∷ ys) x (zero, low, is) = (0, omega arith, ap (λ z. unnumbered z) is)
contains_unnumbered (y ∷ ys) x (suc k, low, is) = Contains-append_right (unnumbered y ∷ []) (map unnumbered ys) (unnumbered x) (contains_unnumbered ys x (k, omega (arith, low), is))

-- what was sent up to here, but for what the site sends in the steps of its fall
abbrev SentBefore : List Entry → List Entry → ℕ → Type 0
SentBefore h k site = (p : Packet) → Contains (sent k) p → Contains (sent h) p ⊎ (p.«from» ≡ site)

fall_sent : (sc : Scenario) (h k : List Entry) (site : ℕ) (i : Input) → SentBefore h k site → Suits sc.weights site i → IsDue sc k site i → WasSent (trail_of sc h) (unnumbered_input i)
fall_sent sc h k site (input.Deliver p) old fit due = elim (old p (pending_sent sc k p due.is_pending)) [
  | inl has ↦ (let P : List Packet → Type 0 = λ l. Contains l (unnumbered p) in subst P (sym (trail_sends sc h)) (contains_unnumbered (sent h) p has))
  | inr own ↦ absurd (eqb-false p.«from» site fit.1 own)
]
fall_sent sc h k site i old fit due = tt

-- the inputs of a fall fit in turn, and make its records
record FallsWell (sc : Scenario) (h : List Entry) (site : ℕ) (mine : List Move) (inputs : List Input) (records : List Record) : Type 0 where
  pub fits : FitInTurn sc (trail_of sc h) site mine (map unnumbered_input inputs)
  pub made : records ≡ records_in_turn sc site mine (map unnumbered_input inputs)

fall_well : (sc : Scenario) (inputs : List Input) (h k : List Entry) (site : ℕ) → IsGiven sc → Lasts sc k → SentBefore h k site → is_up_at k site ≡ true → AreDue sc k site inputs →
    FallsWell sc h site (moves_of sc k site) inputs (records_by sc k site inputs)
fall_well sc [] h k site given was old up due = record { fits = tt; made = refl }
fall_well sc (i ∷ inputs) h k site given was old up due =
    let fit : Suits sc.weights site i = due_input_suits sc k site i given was.holds.line.binds was.holds.now.sent (λ s. (was.holds.line.sites s).life) due.0 in
    let facts : Stepping sc k (k ++ entry_of sc k site i ∷ []) site i (moment_of sc k site i) = step_facts sc k site i given was.holds was.fresh up due.0 in
    let more : FallsWell sc h site (moves_of sc (k ++ entry_of sc k site i ∷ []) site) inputs (records_by sc (k ++ entry_of sc k site i ∷ []) site inputs) =
    fall_well sc inputs h (k ++ entry_of sc k site i ∷ []) site given (step_lasts sc k site i given up due.0 was)
    (λ p has. elim (facts.sends p has) [
      | inl before ↦ old p before
      | inr new ↦ inr new.own
    ]) (facts.ups site ∙ up) due.1 in
    let same : moves_of sc (k ++ entry_of sc k site i ∷ []) site ≡ moves_of sc k site ++ step_move sc site (moves_of sc k site) (unnumbered_input i) ∷ [] =
    moves_on sc k site i ∙ ap (λ m. moves_of sc k site ++ m ∷ []) (sym (step_move_unnumbered sc site (moves_of sc k site) i)) in
    let P : List Move → Type 0 = λ l. FitInTurn sc (trail_of sc h) site l (map unnumbered_input inputs) in
    record {
      fits = (fits_unnumbered sc.weights site (life_at (moves_of sc k site)) i (due_fits sc k site i given was up due.0), fall_sent sc h k site i old fit due.0, subst P same more.fits);
      made = ap (λ l. (made_by sc k site i).records ++ l) (more.made ∙ ap (λ l. records_in_turn sc site l (map unnumbered_input inputs)) same)
          ∙ ap (λ m. recorded m ++ records_in_turn sc site (moves_of sc k site ++ step_move sc site (moves_of sc k site) (unnumbered_input i) ∷ []) (map unnumbered_input inputs))
          (sym (step_move_unnumbered sc site (moves_of sc k site) i));
    }

fall_move : (sc : Scenario) (h : List Entry) (site : ℕ) (inputs : List Input) (records : List Record) → has_risen (moves_at site (trail_of sc h)) ≡ true → (records ≡ [] → ⊥) →
    FallsWell sc h site (moves_at site (trail_of sc h)) inputs records → IsSoundMove sc (trail_of sc h) (record { site = site; did = Silent (map unnumbered_input inputs) records })
fall_move sc h site [] records risen some well = absurd (some well.made)
fall_move sc h site (i ∷ inputs) records risen some well = record { risen = risen; fits = well.fits; made = well.made }

fall_left : (sc : Scenario) (trail : List Move) (site : ℕ) (inputs : List Input) (records : List Record) (why : Why) →
    IsSoundMove sc trail (record { site = site; did = Silent inputs records }) → TailSound sc trail site (left_by why inputs records)
fall_left sc trail site inputs records Fault is = is
fall_left sc trail site inputs records why is = tt

fall_tail : (sc : Scenario) (h : List Entry) (site : ℕ) (inputs : List Input) (records : List Record) (why : Why) → IsGiven sc → Lasts sc h → is_up_at h site ≡ true →
    AreDue sc h site inputs → (records ≡ [] → ⊥) → records ≡ records_by sc h site inputs → TailSound sc (trail_of sc h) site (left_by why (map unnumbered_input inputs) records)
fall_tail sc h site inputs records why given was up due some made =
    let P : List Move → Type 0 = λ l. has_risen l ≡ true in
    let Q : List Move → Type 0 = λ l. FallsWell sc h site l inputs records in
    let R : List Record → Type 0 = FallsWell sc h site (moves_of sc h site) inputs in
    fall_left sc (trail_of sc h) site (map unnumbered_input inputs) records why
    (fall_move sc h site inputs records (subst P (sym (trail_moves sc site h)) (up_risen sc site (own_entries site h) up)) some
    (subst Q (sym (trail_moves sc site h)) (subst R (sym made) (fall_well sc inputs h h site given was (λ p has. inl has) up due))))

-- a kept tail's move
kept_sound : (sc : Scenario) (trail : List Move) (site : ℕ) (kept : Bool) (o : Option Tail) → TailSound sc trail site o → SoundAfter sc trail (kept_moves site kept o)
kept_sound sc trail site true (Some tail) is = (is, tt)
kept_sound sc trail site true None is = tt
kept_sound sc trail site false o is = tt

kept_own : (site : ℕ) (kept : Bool) (o : Option Tail) → moves_at site (kept_moves site kept o) ≡ kept_moves site kept o
kept_own site true (Some tail) = rw (eq-eqb site site refl) refl
kept_own site true None = refl
kept_own site false o = refl

-- the moves of a site that rises, before its rise
rise_moves : (sc : Scenario) (h : List Entry) (site : ℕ) (kept : Bool) →
    moves_at site (trail_of sc h ++ kept_moves site kept (open_tail sc h site)) ≡ moves_of sc h site ++ kept_moves site kept (open_tail sc h site)
rise_moves sc h site kept =
    filter-append (λ m. m.site == site) (trail_of sc h) (kept_moves site kept (open_tail sc h site))
    ∙ ap (λ l. l ++ moves_at site (kept_moves site kept (open_tail sc h site))) (trail_moves sc site h)
    ∙ ap (λ l. moves_of sc h site ++ l) (kept_own site kept (open_tail sc h site))

rise_sound : (sc : Scenario) (h : List Entry) (site : ℕ) (kept : Bool) (inc : ℕ) → IsRise sc h site kept inc →
    IsSoundRise sc (trail_of sc h ++ kept_moves site kept (open_tail sc h site)) site inc
    (rise_records sc site inc (log_by (moves_of sc h site ++ kept_moves site kept (open_tail sc h site))))
rise_sound sc h site kept inc guard = record {
  next = guard.next ∙ ap (λ l. suc (logged_inc l)) (sym (log_append (moves_of sc h site) (kept_moves site kept (open_tail sc h site)))
      ∙ ap (λ l. log_by l) (sym (rise_moves sc h site kept)));
  made = ap (λ l. rise_records sc site inc (log_by l)) (sym (rise_moves sc h site kept));
}

-- the moves of an act are sound, and so is the tail that it leaves
record ActSound (sc : Scenario) (h : List Entry) (owner : ℕ) (act : Act) : Type 0 where
  pub moves : SoundAfter sc (trail_of sc h) (moves_of_act sc owner (past_of sc owner (own_entries owner h)) act)
  pub tail : TailSound sc (trail_of sc h ++ moves_of_act sc owner (past_of sc owner (own_entries owner h)) act) owner (tail_of_act sc owner (past_of sc owner (own_entries owner h)) act)

quiet_sound : (sc : Scenario) (h : List Entry) (owner : ℕ) (o : Option Tail) → TailSound sc (trail_of sc h) owner o → TailSound sc (trail_of sc h ++ []) owner o
quiet_sound sc h owner o is = let P : List Move → Type 0 = λ l. TailSound sc l owner o in subst P (sym (append-nil (trail_of sc h))) is

tail_shut : (sc : Scenario) (trail : List Move) (site : ℕ) (o : Option Tail) → o ≡ None → TailSound sc trail site o
tail_shut sc trail site o is = let P : Option Tail → Type 0 = TailSound sc trail site in subst P (sym is) tt

entry_sound : (sc : Scenario) (h : List Entry) (site : ℕ) (i : Input) → IsGiven sc → Lasts sc h → is_up_at h site ≡ true → IsDue sc h site i →
    ActSound sc h site (entry_of sc h site i).act
entry_sound sc h site i given was up due = record {
  moves = let P : List Move → Type 0 = SoundAfter sc (trail_of sc h) in subst P (sym (entered_move sc h site i)) (step_sound sc h site i given was up due, tt);
  tail = tail_shut sc _ site (open_tail sc h site) ((was.fresh.clocks site).shut up);
}

guard_sound : (sc : Scenario) (h : List Entry) (owner : ℕ) (act : Act) → IsGiven sc → Lasts sc h → Trailing sc h → Guard sc h (record { owner = owner; act = act }) → ActSound sc h owner act
guard_sound sc h zero (Line number) given was trail guard = record { moves = tt; tail = quiet_sound sc h 0 (open_tail sc h 0) (trail.tails 0) }
guard_sound sc h zero (Parts parts) given was trail guard = record { moves = tt; tail = quiet_sound sc h 0 (open_tail sc h 0) (trail.tails 0) }
guard_sound sc h zero (Drop number) given was trail guard = record { moves = tt; tail = quiet_sound sc h 0 (open_tail sc h 0) (trail.tails 0) }
guard_sound sc h zero act given was trail guard = absurd guard
guard_sound sc h (suc s) (Step i records outs events) given was trail guard =
    let P : Entry → Type 0 = λ e. ActSound sc h (suc s) e.act in
    subst P (sym guard.made) (entry_sound sc h (suc s) i given was guard.up guard.due)
guard_sound sc h (suc s) (Fall inputs records why) given was trail guard = record {
  moves = tt;
  tail = quiet_sound sc h (suc s) (left_by why (map unnumbered_input inputs) records) (fall_tail sc h (suc s) inputs records why given was guard.up guard.due guard.some guard.made);
}
guard_sound sc h (suc s) Cut given was trail guard = record { moves = tt; tail = quiet_sound sc h (suc s) (open_tail sc h (suc s)) (trail.tails (suc s)) }
guard_sound sc h (suc s) (Rise kept inc) given was trail guard = record {
  moves = sound_append sc (trail_of sc h) (kept_moves (suc s) kept (open_tail sc h (suc s))) _
      (kept_sound sc (trail_of sc h) (suc s) kept (open_tail sc h (suc s)) (trail.tails (suc s))) (rise_sound sc h (suc s) kept inc guard, tt);
  tail = tt;
}
guard_sound sc h (suc s) (RiseFall kept inc why) given was trail guard = record {
  moves = kept_sound sc (trail_of sc h) (suc s) kept (open_tail sc h (suc s)) (trail.tails (suc s));
  tail = fall_left sc _ (suc s) [] _ why (inc, rise_sound sc h (suc s) kept inc guard);
}
guard_sound sc h (suc s) Miss given was trail guard = record { moves = tt; tail = quiet_sound sc h (suc s) (open_tail sc h (suc s)) (trail.tails (suc s)) }
guard_sound sc h (suc s) act given was trail guard = absurd guard

-- behind one more entry
trail_on : (sc : Scenario) (h : List Entry) (e : Entry) → Trailing sc h → ActSound sc h e.owner e.act → Trailing sc (h ++ e ∷ [])
trail_on sc h e was act = record {
  sound = let P : List Move → Type 0 = IsSound sc in subst P (sym (trail_push sc h e)) (sound_append sc [] (trail_of sc h) more was.sound act.moves);
  tails = λ s. by s (e.owner == s) refl;
}
  where
    more : List Move
    more = moves_of_act sc e.owner (past_of sc e.owner (own_entries e.owner h)) e.act

    by : (s : ℕ) (b : Bool) → (e.owner == s) ≡ b → TailSound sc (trail_of sc (h ++ e ∷ [])) s (open_tail sc (h ++ e ∷ []) s)
    by s true is =
        let P : ℕ → Type 0 = λ x. TailSound sc (trail_of sc h ++ moves_of_act sc e.owner (past_of sc e.owner (own_entries e.owner h)) e.act) x (tail_of_act sc x (past_of sc x (own_entries x h)) e.act) in
        let Q : Option Tail → Type 0 = TailSound sc (trail_of sc (h ++ e ∷ [])) s in
        let R : List Move → Type 0 = λ l. TailSound sc l s (tail_of_act sc s (past_of sc s (own_entries s h)) e.act) in
        subst Q (sym (ap (λ l. (past_of sc s l).tail) (own_same s h e is) ∙ ap (λ p. p.tail) (past_push sc s (own_entries s h) e)))
        (subst R (sym (trail_push sc h e)) (subst P (eqb-true e.owner s is) act.tail))
    by s false is =
        let Q : Option Tail → Type 0 = TailSound sc (trail_of sc (h ++ e ∷ [])) s in
        let P : List Move → Type 0 = λ l. (i : Input) → WasSent (trail_of sc h) i → WasSent l i in
        subst Q (sym (ap (λ l. (past_of sc s l).tail) (own_other s h e is)))
        (tail_later sc (trail_of sc h) (trail_of sc (h ++ e ∷ [])) s (open_tail sc h s)
        (trail_moves sc s h ∙ sym (ap (λ l. (past_of sc s l).moves) (own_other s h e is)) ∙ sym (trail_moves sc s (h ++ e ∷ [])))
        (subst P (sym (trail_push sc h e)) (λ i. sent_later (trail_of sc h) more i)) (was.tails s))

after_trailing : (sc : Scenario) (before rest : List Entry) → IsGiven sc → Lasts sc before → Trailing sc before → LegalAfter sc before rest → Trailing sc (before ++ rest)
after_trailing sc before [] given lasts was legal = let P : List Entry → Type 0 = Trailing sc in subst P (sym (append-nil before)) was
after_trailing sc before (e ∷ rest) given lasts was legal = let P : List Entry → Type 0 = Trailing sc in
    subst P (append_assoc before (e ∷ []) rest) (after_trailing sc (before ++ e ∷ []) rest given (guard_lasts sc before e given lasts legal.0)
    (trail_on sc before e was (guard_sound sc before e.owner e.act given lasts was legal.0)) legal.1)

-- the trail of every legal history of a given scenario
pub legal_trail : (sc : Scenario) (h : List Entry) → IsGiven sc → IsLegal sc h → Trailing sc h
legal_trail sc h given legal = after_trailing sc [] h given (first_lasts sc) (record { sound = tt; tails = λ s. tt }) legal
