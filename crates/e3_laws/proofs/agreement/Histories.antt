-- Each move of the trail of a legal history is what its inputs make, if the items fit.
use Rattle.std.proofs.Common.{◌≡◌, ◌⊎◌, inl, inr, ◌∷◌, [], ◌++◌, ◌==◌, ℕ, zero, suc, Bool, true, false, List, map, Option, Some, None, refl, sym, ap, subst, ◌∙◌, arith, eqb-true, eq-eqb, append-nil, append_assoc}
use Rattle.std.specs.Prelude.{Contains}
use Rattle.std.specs.List.{flat_map}
use Rattle.std.proofs.lemmas.Bool.{cases_eq, false_from_ne_true}
use Rattle.std.proofs.lemmas.List.Concat.{flat_map-append}
use Rattle.std.proofs.lemmas.List.Elements.{Contains-append_left, Contains-append_right, Contains-append_cases, filter-append}
use Rattle.e3_types.specs.declared.entries.Act.{Act}
use Rattle.e3_types.specs.declared.entries.Act.TheVariants.{Step, Fall, Rise, RiseFall, Miss, Cut, Drop, Parts, Line}
use Rattle.e3_types.specs.declared.entries.Entry.{Entry}
use Rattle.e3_types.specs.declared.entries.Input.{Input}
use Rattle.e3_types.specs.declared.entries.Input.TheVariants as input
use Rattle.e3_types.specs.declared.entries.Told.{Told}
use Rattle.e3_types.specs.declared.entries.Why.{Why}
use Rattle.e3_types.specs.declared.entries.Why.TheVariants.{Fault, Full}
use Rattle.e3_types.specs.declared.messages.Packet.{Packet}
use Rattle.e3_types.specs.declared.records.Record.{Record}
use Rattle.e3_types.specs.declared.scenarios.Scenario.{Scenario}
use Rattle.e3_world.specs.Items.{is_delivery, is_up_at}
use Rattle.e3_world.specs.Legal.{made_by, entry_of, IsDue, AreDue, records_by, IsStep, IsFall, Guard, LegalAfter, IsLegal}
use Rattle.e3_world.specs.Moves.{log_of, unnumbered, Silent, Move, Tail, Past, own_entries, moves_at, moves_of, log_by, rise_records, kept_moves, left_by, moves_of_act, tail_of_act, past_by, past_of, unnumbered_input, trail_after, trail_of, recorded}
use Rattle.e3_world.specs.Progress.{up_behind}
use Rattle.e3_world.specs.Sound.{sends, WasSent, step_move, records_in_turn}
use Rattle.e3_world.proofs.InTrail.{due_was_sent}
use Rattle.e3_world.proofs.Numbers.{entered_move, step_move_unnumbered}
use Rattle.e3_world.proofs.Pushes.{past_push}
use Rattle.e3_world.proofs.Readings.{own_same, own_other, up_same, up_other}
use Rattle.e3_world.proofs.Trails.{trail_moves}
use Rattle.e3_laws.specs.agreement.Histories.{ItemsFit, AllFit}
use Rattle.e3_laws.specs.agreement.Rows.{MayTake}
use Rattle.e3_laws.specs.agreement.Trails.{TakenInTurn, IsMadeMove, MadeAfter, IsMade}
use Rattle.e3_laws.proofs.agreement.Refinement.Following.{in_from_contains, in_map_to, moves_here}
use Rattle.e3_laws.proofs.agreement.Refinement.Agreeing.{made_agrees}
use Rattle.e3_laws.proofs.agreement.Refinement.Voting.{made_voted}
use Rattle.e3_laws.proofs.agreement.Fitting.{given_fit}
use Rattle.e3_world.specs.Given.{IsGiven}
use Rattle.e3_world.specs.Safe.{Agrees, AllVoted, Said, said_msg}
use Rattle.e3_world.specs.Packets.{sent}
use Rattle.e3_world.proofs.Sending.{trail_sends}
use Rattle.e3_types.specs.declared.records.Record.TheVariants as log
use Rattle.e3_laws.proofs.agreement.Refinement.Telling.{made_stands}
use Rattle.e3_laws.proofs.agreement.Refinement.Voting.{contains_from_in}

-- the trail of a history with one more entry
after_push : (sc : Scenario) (before h : List Entry) (e : Entry) → trail_after sc before (h ++ e ∷ []) ≡ trail_after sc before h ++ moves_of_act sc e.owner (past_of sc e.owner (own_entries e.owner (before ++ h))) e.act
after_push sc before [] e =
    append-nil (moves_of_act sc e.owner (past_of sc e.owner (own_entries e.owner before)) e.act)
    ∙ ap (λ z. moves_of_act sc e.owner (past_of sc e.owner (own_entries e.owner z)) e.act) (sym (append-nil before))
after_push sc before (x ∷ h) e =
    let first : List Move = moves_of_act sc x.owner (past_of sc x.owner (own_entries x.owner before)) x.act in
    ap (λ z. first ++ z) (after_push sc (before ++ x ∷ []) h e)
    ∙ sym (append_assoc first (trail_after sc (before ++ x ∷ []) h) (moves_of_act sc e.owner (past_of sc e.owner (own_entries e.owner ((before ++ x ∷ []) ++ h))) e.act))
    ∙ ap (λ z. (first ++ trail_after sc (before ++ x ∷ []) h) ++ moves_of_act sc e.owner (past_of sc e.owner (own_entries e.owner z)) e.act) (append_assoc before (x ∷ []) h)

pub trail_push : (sc : Scenario) (h : List Entry) (e : Entry) → trail_of sc (h ++ e ∷ []) ≡ trail_of sc h ++ moves_of_act sc e.owner (past_of sc e.owner (own_entries e.owner h)) e.act
trail_push sc h e = after_push sc [] h e

pub made_append : (sc : Scenario) (before xs ys : List Move) → MadeAfter sc before xs → MadeAfter sc (before ++ xs) ys → MadeAfter sc before (xs ++ ys)
made_append sc before [] ys a b = subst (λ z. MadeAfter sc z ys) (append-nil before) b
made_append sc before (m ∷ xs) ys a b =
    (a.0, made_append sc (before ++ m ∷ []) xs ys a.1 (subst (λ z. MadeAfter sc z ys) (sym (append_assoc before (m ∷ []) xs)) b))

-- an input that is due may be taken, and was sent
pub due_taken : (sc : Scenario) (h : List Entry) (site : ℕ) (i : Input) → IsDue sc h site i → (is_delivery i ≡ false → MayTake site i)
    → MayTake site (unnumbered_input i) × WasSent (trail_of sc h) (unnumbered_input i)
due_taken sc h site (input.Deliver packet) due fits = (due.to, due_was_sent sc h site packet due)
due_taken sc h site (input.Begin sites) due fits = (tt, tt)
due_taken sc h site (input.Do u op) due fits = (fits refl, tt)
due_taken sc h site (input.Commit u) due fits = (fits refl, tt)
due_taken sc h site (input.Cancel u) due fits = (fits refl, tt)
due_taken sc h site (input.Expire u) due fits = (fits refl, tt)
due_taken sc h site (input.Elect u group) due fits = (fits refl, tt)

-- the move of a step in the trail
move_is : (sc : Scenario) (h : List Entry) (site : ℕ) (i : Input) → step_move sc site (moves_of sc h site) i ≡ step_move sc site (moves_at site (trail_of sc h)) (unnumbered_input i)
move_is sc h site i =
    ap (λ z. step_move sc site z i) (sym (trail_moves sc site h)) ∙ sym (step_move_unnumbered sc site (moves_at site (trail_of sc h)) i)

step_made : (sc : Scenario) (h : List Entry) (site : ℕ) (i : Input) (records : List Record) (outs : List Packet) (events : List Told) → IsStep sc h site i (Step i records outs events)
    → (is_delivery i ≡ false → MayTake site i) → MadeAfter sc (trail_of sc h) (moves_of_act sc site (past_of sc site (own_entries site h)) (Step i records outs events))
step_made sc h site i records outs events step fits =
    subst (λ ms. MadeAfter sc (trail_of sc h) ms) (sym moves) (
      (let k = due_taken sc h site i step.due fits in record { takes = k.0; was_sent = k.1; made = move_is sc h site i }),
      tt,
    )
  where
    moves : moves_of_act sc site (past_of sc site (own_entries site h)) (Step i records outs events) ≡ step_move sc site (moves_of sc h site) i ∷ []
    moves = ap (λ (e : Entry). moves_of_act sc site (past_of sc site (own_entries site h)) e.act) step.made ∙ entered_move sc h site i

-- what the inputs of a fall are, behind those before them
abbrev FallsOk : Scenario → ℕ → List Entry → List Input → Type 0
FallsOk sc site h inputs =
    TakenInTurn sc (trail_of sc h) site (moves_at site (trail_of sc h)) (map unnumbered_input inputs)
    × (records_by sc h site inputs ≡ records_in_turn sc site (moves_at site (trail_of sc h)) (map unnumbered_input inputs))

falls_more : (sc : Scenario) (site : ℕ) (h : List Entry) (i : Input) (inputs : List Input) → IsDue sc h site i → (is_delivery i ≡ false → MayTake site i)
    → FallsOk sc site (h ++ entry_of sc h site i ∷ []) inputs → FallsOk sc site h (i ∷ inputs)
falls_more sc site h i inputs due fits rest = (
  (
    taken.0,
    taken.1,
    subst (λ z. TakenInTurn sc (trail_of sc h ++ m ∷ []) site z (map unnumbered_input inputs)) mine
        (subst (λ z. TakenInTurn sc z site (moves_at site z) (map unnumbered_input inputs)) trail rest.0),
  ),
  ap (λ z. z ++ records_by sc later site inputs) records ∙ ap (λ z. recorded m ++ z)
      (rest.1 ∙ ap (λ z. records_in_turn sc site (moves_at site z) (map unnumbered_input inputs)) trail ∙ ap (λ z. records_in_turn sc site z (map unnumbered_input inputs)) mine),
)
  where
    later : List Entry
    later = h ++ entry_of sc h site i ∷ []

    m : Move
    m = step_move sc site (moves_at site (trail_of sc h)) (unnumbered_input i)

    taken : MayTake site (unnumbered_input i) × WasSent (trail_of sc h) (unnumbered_input i)
    taken = due_taken sc h site i due fits

    trail : trail_of sc later ≡ trail_of sc h ++ m ∷ []
    trail = trail_push sc h (entry_of sc h site i) ∙ ap (λ z. trail_of sc h ++ z) (entered_move sc h site i) ∙ ap (λ z. trail_of sc h ++ z ∷ []) (move_is sc h site i)

    mine : moves_at site (trail_of sc h ++ m ∷ []) ≡ moves_at site (trail_of sc h) ++ m ∷ []
    mine = moves_here (trail_of sc h) m

    records : (made_by sc h site i).records ≡ recorded m
    records = ap recorded (move_is sc h site i)

-- the inputs of a fall
falls : (sc : Scenario) (site : ℕ) (h : List Entry) (inputs : List Input) → AreDue sc h site inputs → ((i : Input) → Contains inputs i → is_delivery i ≡ false → MayTake site i)
    → FallsOk sc site h inputs
falls sc site h [] due fits = (tt, refl)
falls sc site h (i ∷ inputs) due fits =
    falls_more sc site h i inputs due.0 (λ no_packet. fits i (0, omega arith, refl) no_packet)
    (falls sc site (h ++ entry_of sc h site i ∷ []) inputs due.1 (λ j k. fits j (Contains-append_right (i ∷ []) inputs j k)))

-- a tail that is open may be kept: it is what its inputs make
abbrev TailOk : Scenario → List Move → ℕ → Option Tail → Type 0
TailOk sc trail site None = Unit {0}
TailOk sc trail site (Some tail) = IsMadeMove sc trail (record { site = site; did = Silent tail.inputs tail.records })

fall_made : (sc : Scenario) (h : List Entry) (site : ℕ) (inputs : List Input) (records : List Record) → IsFall sc h site inputs records
    → ((i : Input) → Contains inputs i → is_delivery i ≡ false → MayTake site i) → IsMadeMove sc (trail_of sc h) (record { site = site; did = Silent (map unnumbered_input inputs) records })
fall_made sc h site [] records fall fits = absurd (fall.some fall.made)
fall_made sc h site (i ∷ inputs) records fall fits =
    let k = falls sc site h (i ∷ inputs) fall.due fits in
    record { takes = k.0; made = fall.made ∙ k.1 }

-- what was sent goes on to be sent
sent_on : (a b : List Move) (i : Input) → ((p : Packet) → Contains (flat_map sends a) p → Contains (flat_map sends b) p) → WasSent a i → WasSent b i
sent_on a b (input.Deliver packet) grows was = grows packet was
sent_on a b (input.Begin sites) grows was = tt
sent_on a b (input.Do u op) grows was = tt
sent_on a b (input.Commit u) grows was = tt
sent_on a b (input.Cancel u) grows was = tt
sent_on a b (input.Expire u) grows was = tt
sent_on a b (input.Elect u group) grows was = tt

sends_more : (a b : List Move) (m : Move) → ((p : Packet) → Contains (flat_map sends a) p → Contains (flat_map sends b) p)
    → (p : Packet) → Contains (flat_map sends (a ++ m ∷ [])) p → Contains (flat_map sends (b ++ m ∷ [])) p
sends_more a b m grows p k =
    subst (λ z. Contains z p) (sym (flat_map-append sends b (m ∷ [])))
    (elim (Contains-append_cases (flat_map sends a) (flat_map sends (m ∷ [])) p (subst (λ z. Contains z p) (flat_map-append sends a (m ∷ [])) k)) [
      | inl old ↦ Contains-append_left (flat_map sends b) (flat_map sends (m ∷ [])) p (grows p old)
      | inr new ↦ Contains-append_right (flat_map sends b) (flat_map sends (m ∷ [])) p new
    ])

taken_on : (sc : Scenario) (a b : List Move) (site : ℕ) (mine : List Move) (inputs : List Input) → ((p : Packet) → Contains (flat_map sends a) p → Contains (flat_map sends b) p)
    → TakenInTurn sc a site mine inputs → TakenInTurn sc b site mine inputs
taken_on sc a b site mine [] grows t = tt
taken_on sc a b site mine (i ∷ inputs) grows t = (
  t.0,
  sent_on a b i grows t.1,
  taken_on sc (a ++ step_move sc site mine i ∷ []) (b ++ step_move sc site mine i ∷ []) site (mine ++ step_move sc site mine i ∷ []) inputs (sends_more a b (step_move sc site mine i) grows) t.2,
)

tail_on : (sc : Scenario) (a b : List Move) (site : ℕ) (tail : Option Tail) → ((p : Packet) → Contains (flat_map sends a) p → Contains (flat_map sends b) p) → moves_at site b ≡ moves_at site a
    → TailOk sc a site tail → TailOk sc b site tail
tail_on sc a b site None grows same ok = tt
tail_on sc a b site (Some tail) grows same ok = by tail.inputs ok
  where
    by : (inputs : List Input) → IsMadeMove sc a (record { site = site; did = Silent inputs tail.records }) → IsMadeMove sc b (record { site = site; did = Silent inputs tail.records })
    by [] k = (k.0, k.1 ∙ ap (λ z. rise_records sc site k.0 (log_by z)) (sym same))
    by (i ∷ inputs) k = record {
      takes = subst (λ z. TakenInTurn sc b site z (i ∷ inputs)) (sym same) (taken_on sc a b site (moves_at site a) (i ∷ inputs) grows k.takes);
      made = k.made ∙ ap (λ z. records_in_turn sc site z (i ∷ inputs)) (sym same);
    }

-- what is carried for each site: its open tail may be kept, and there is none while it is up
pub record Carried (sc : Scenario) (h : List Entry) (site : ℕ) : Type 0 where
  pub tail : TailOk sc (trail_of sc h) site (past_of sc site (own_entries site h)).tail
  pub clean : is_up_at h site ≡ true → (past_of sc site (own_entries site h)).tail ≡ None

kept_made : (sc : Scenario) (h : List Entry) (site : ℕ) (kept : Bool) (tail : Option Tail) → TailOk sc (trail_of sc h) site tail → MadeAfter sc (trail_of sc h) (kept_moves site kept tail)
kept_made sc h site true (Some tail) ok = (ok, tt)
kept_made sc h site true None ok = tt
kept_made sc h site false tail ok = tt

moves_append : (site : ℕ) (a b : List Move) → moves_at site (a ++ b) ≡ moves_at site a ++ moves_at site b
moves_append site a b = filter-append (λ m. m.site == site) a b

kept_mine : (site : ℕ) (kept : Bool) (tail : Option Tail) → moves_at site (kept_moves site kept tail) ≡ kept_moves site kept tail
kept_mine site true (Some tail) = rw (eq-eqb site site refl) refl
kept_mine site true None = refl
kept_mine site false tail = refl

-- the moves of a site behind a tail that it keeps
kept_log : (sc : Scenario) (h : List Entry) (site : ℕ) (kept : Bool) → moves_at site (trail_of sc h ++ kept_moves site kept (past_of sc site (own_entries site h)).tail)
    ≡ (past_of sc site (own_entries site h)).moves ++ kept_moves site kept (past_of sc site (own_entries site h)).tail
kept_log sc h site kept =
    moves_append site (trail_of sc h) (kept_moves site kept (past_of sc site (own_entries site h)).tail)
    ∙ ap (λ z. z ++ moves_at site (kept_moves site kept (past_of sc site (own_entries site h)).tail)) (trail_moves sc site h)
    ∙ ap (λ z. (past_of sc site (own_entries site h)).moves ++ z) (kept_mine site kept (past_of sc site (own_entries site h)).tail)

-- the moves of an entry
entry_made : (sc : Scenario) (h : List Entry) (site : ℕ) (act : Act) → Guard sc h (record { owner = site; act = act }) → ItemsFit (record { owner = site; act = act }) → Carried sc h site
    → MadeAfter sc (trail_of sc h) (moves_of_act sc site (past_of sc site (own_entries site h)) act)
entry_made sc h zero (Line number) guard fits c = tt
entry_made sc h zero (Parts parts) guard fits c = tt
entry_made sc h zero (Drop number) guard fits c = tt
entry_made sc h zero (Step i records outs events) guard fits c = absurd guard
entry_made sc h zero (Fall inputs records why) guard fits c = tt
entry_made sc h zero (Rise kept inc) guard fits c = absurd guard
entry_made sc h zero (RiseFall kept inc why) guard fits c = absurd guard
entry_made sc h zero Miss guard fits c = tt
entry_made sc h zero Cut guard fits c = tt
entry_made sc h (suc s) (Step i records outs events) guard fits c = step_made sc h (suc s) i records outs events guard (λ no_packet. fits i (0, omega arith, refl) no_packet)
entry_made sc h (suc s) (Fall inputs records why) guard fits c = tt
entry_made sc h (suc s) (Rise kept inc) guard fits c =
    made_append sc (trail_of sc h) (kept_moves (suc s) kept (past_of sc (suc s) (own_entries (suc s) h)).tail) _ (kept_made sc h (suc s) kept (past_of sc (suc s) (own_entries (suc s) h)).tail c.tail) (
      ap (λ z. rise_records sc (suc s) inc (log_by z)) (sym (kept_log sc h (suc s) kept)),
      tt,
    )
entry_made sc h (suc s) (RiseFall kept inc why) guard fits c = kept_made sc h (suc s) kept (past_of sc (suc s) (own_entries (suc s) h)).tail c.tail
entry_made sc h (suc s) Miss guard fits c = tt
entry_made sc h (suc s) Cut guard fits c = tt
entry_made sc h (suc s) (Drop number) guard fits c = tt
entry_made sc h (suc s) (Parts parts) guard fits c = tt
entry_made sc h (suc s) (Line number) guard fits c = tt

-- the own past behind an entry
pub past_here : (sc : Scenario) (h : List Entry) (e : Entry) → past_of sc e.owner (own_entries e.owner (h ++ e ∷ [])) ≡ past_by sc e.owner (past_of sc e.owner (own_entries e.owner h)) e
past_here sc h e = ap (past_of sc e.owner) (own_same e.owner h e (eq-eqb e.owner e.owner refl)) ∙ past_push sc e.owner (own_entries e.owner h) e

-- what is sent goes on to be sent behind an entry
trail_grows : (sc : Scenario) (h : List Entry) (e : Entry) (p : Packet) → Contains (flat_map sends (trail_of sc h)) p → Contains (flat_map sends (trail_of sc (h ++ e ∷ []))) p
trail_grows sc h e p k =
    let more : List Move = moves_of_act sc e.owner (past_of sc e.owner (own_entries e.owner h)) e.act in
    subst (λ z. Contains (flat_map sends z) p) (sym (trail_push sc h e))
    (subst (λ z. Contains z p) (sym (flat_map-append sends (trail_of sc h) more)) (Contains-append_left (flat_map sends (trail_of sc h)) (flat_map sends more) p k))

-- a site of which nothing is entered
carried_there : (sc : Scenario) (h : List Entry) (e : Entry) (site : ℕ) → (e.owner == site) ≡ false → Carried sc h site → Carried sc (h ++ e ∷ []) site
carried_there sc h e site other c = record {
  tail = subst (λ z. TailOk sc (trail_of sc (h ++ e ∷ [])) site (past_of sc site z).tail) (sym mine)
      (tail_on sc (trail_of sc h) (trail_of sc (h ++ e ∷ [])) site (past_of sc site (own_entries site h)).tail (trail_grows sc h e) same c.tail);
  clean = λ up. ap (λ z. (past_of sc site z).tail) mine ∙ c.clean (sym (up_other h e site other) ∙ up);
}
  where
    mine : own_entries site (h ++ e ∷ []) ≡ own_entries site h
    mine = own_other site h e other

    same : moves_at site (trail_of sc (h ++ e ∷ [])) ≡ moves_at site (trail_of sc h)
    same = trail_moves sc site (h ++ e ∷ []) ∙ ap (λ z. (past_of sc site z).moves) mine ∙ sym (trail_moves sc site h)

-- an act that leaves the moves and the tail
tail_stays : (sc : Scenario) (h : List Entry) (site : ℕ) (act : Act) → moves_of_act sc site (past_of sc site (own_entries site h)) act ≡ [] → Carried sc h site
    → TailOk sc (trail_of sc (h ++ record { owner = site; act = act } ∷ [])) site (past_of sc site (own_entries site h)).tail
tail_stays sc h site act none c =
    tail_on sc (trail_of sc h) (trail_of sc (h ++ record { owner = site; act = act } ∷ [])) site (past_of sc site (own_entries site h)).tail
    (trail_grows sc h (record { owner = site; act = act }))
    (ap (moves_at site) (trail_push sc h (record { owner = site; act = act }) ∙ ap (λ z. trail_of sc h ++ z) none ∙ append-nil (trail_of sc h))) c.tail

-- the tail behind an act, and that there is none while the site is up
abbrev ActOk : Scenario → List Entry → ℕ → Act → Type 0
ActOk sc h site act =
    TailOk sc (trail_of sc (h ++ record { owner = site; act = act } ∷ [])) site (tail_of_act sc site (past_of sc site (own_entries site h)) act)
    × (up_behind (is_up_at h site) act ≡ true → tail_of_act sc site (past_of sc site (own_entries site h)) act ≡ None)

fall_tail : (sc : Scenario) (h : List Entry) (site : ℕ) (inputs : List Input) (records : List Record) (why : Why) → IsFall sc h site inputs records
    → ((i : Input) → Contains inputs i → is_delivery i ≡ false → MayTake site i)
    → TailOk sc (trail_of sc (h ++ record { owner = site; act = Fall inputs records why } ∷ [])) site (left_by why (map unnumbered_input inputs) records)
fall_tail sc h site inputs records Fault fall fits =
    subst (λ z. IsMadeMove sc z (record { site = site; did = Silent (map unnumbered_input inputs) records }))
    (sym (trail_push sc h (record { owner = site; act = Fall inputs records Fault }) ∙ append-nil (trail_of sc h))) (fall_made sc h site inputs records fall fits)
fall_tail sc h site inputs records (Full need room) fall fits = tt

failed_tail : (sc : Scenario) (h : List Entry) (site : ℕ) (kept : Bool) (inc : ℕ) (why : Why)
    → TailOk sc (trail_of sc (h ++ record { owner = site; act = RiseFall kept inc why } ∷ [])) site
    (left_by why [] (rise_records sc site inc (log_by ((past_of sc site (own_entries site h)).moves ++ kept_moves site kept (past_of sc site (own_entries site h)).tail))))
failed_tail sc h site kept inc Fault =
    (inc, ap (λ z. rise_records sc site inc (log_by z)) (sym (ap (moves_at site) (trail_push sc h (record { owner = site; act = RiseFall kept inc Fault })) ∙ kept_log sc h site kept)))
failed_tail sc h site kept inc (Full need room) = tt

act_ok : (sc : Scenario) (h : List Entry) (site : ℕ) (act : Act) → Guard sc h (record { owner = site; act = act }) → ItemsFit (record { owner = site; act = act }) → Carried sc h site → ActOk sc h site act
act_ok sc h zero (Line number) guard fits c = (tail_stays sc h zero (Line number) refl c, c.clean)
act_ok sc h zero (Parts parts) guard fits c = (tail_stays sc h zero (Parts parts) refl c, c.clean)
act_ok sc h zero (Drop number) guard fits c = (tail_stays sc h zero (Drop number) refl c, c.clean)
act_ok sc h zero (Step i records outs events) guard fits c = absurd guard
act_ok sc h zero (Fall inputs records why) guard fits c = absurd guard
act_ok sc h zero (Rise kept inc) guard fits c = absurd guard
act_ok sc h zero (RiseFall kept inc why) guard fits c = absurd guard
act_ok sc h zero Miss guard fits c = absurd guard
act_ok sc h zero Cut guard fits c = absurd guard
act_ok sc h (suc s) (Step i records outs events) guard fits c =
    (subst (λ z. TailOk sc (trail_of sc (h ++ record { owner = suc s; act = Step i records outs events } ∷ [])) (suc s) z) (sym (c.clean guard.up)) tt, c.clean)
act_ok sc h (suc s) (Fall inputs records why) guard fits c = (fall_tail sc h (suc s) inputs records why guard fits, λ up. cc)
act_ok sc h (suc s) (Rise kept inc) guard fits c = (tt, λ up. refl)
act_ok sc h (suc s) (RiseFall kept inc why) guard fits c = (failed_tail sc h (suc s) kept inc why, λ up. cc)
act_ok sc h (suc s) Miss guard fits c = (tail_stays sc h (suc s) Miss refl c, λ up. cc)
act_ok sc h (suc s) Cut guard fits c = (tail_stays sc h (suc s) Cut refl c, λ up. cc)
act_ok sc h (suc s) (Drop number) guard fits c = absurd guard
act_ok sc h (suc s) (Parts parts) guard fits c = absurd guard
act_ok sc h (suc s) (Line number) guard fits c = absurd guard

carried_here : (sc : Scenario) (h : List Entry) (site : ℕ) (act : Act) → Guard sc h (record { owner = site; act = act }) → ItemsFit (record { owner = site; act = act }) → Carried sc h site
    → Carried sc (h ++ record { owner = site; act = act } ∷ []) site
carried_here sc h site act guard fits c =
    let e : Entry = record { owner = site; act = act } in
    let k = act_ok sc h site act guard fits c in
    let tails : (past_of sc site (own_entries site (h ++ e ∷ []))).tail ≡ tail_of_act sc site (past_of sc site (own_entries site h)) act = ap (λ (w : Past). w.tail) (past_here sc h e) in
    record {
      tail = subst (λ z. TailOk sc (trail_of sc (h ++ e ∷ [])) site z) (sym tails) k.0;
      clean = λ up. tails ∙ k.1 (sym (up_same h e site (eq-eqb site site refl)) ∙ up);
    }

carried_on : (sc : Scenario) (h : List Entry) (e : Entry) → Guard sc h e → ItemsFit e → ((s : ℕ) → Carried sc h s) → (s : ℕ) → Carried sc (h ++ e ∷ []) s
carried_on sc h e guard fits c s = go (cases_eq s e.owner)
  where
    go : (s ≡ e.owner) ⊎ (s ≡ e.owner → ⊥) → Carried sc (h ++ e ∷ []) s
    go (inl same) = subst (λ z. Carried sc (h ++ e ∷ []) z) (sym same) (carried_here sc h e.owner e.act guard fits (c e.owner))
    go (inr other) = carried_there sc h e s (false_from_ne_true (e.owner == s) (λ q. other (sym (eqb-true e.owner s q)))) (c s)

made_on : (sc : Scenario) (before rest : List Entry) → LegalAfter sc before rest → ((e : Entry) → Contains rest e → ItemsFit e) → IsMade sc (trail_of sc before) → ((s : ℕ) → Carried sc before s)
    → IsMade sc (trail_of sc (before ++ rest))
made_on sc before [] legal fits made c = subst (λ z. IsMade sc (trail_of sc z)) (sym (append-nil before)) made
made_on sc before (e ∷ rest) legal fits made c =
    let fit : ItemsFit e = fits e (0, omega arith, refl) in
    let now : IsMade sc (trail_of sc (before ++ e ∷ [])) = subst (λ z. IsMade sc z) (sym (trail_push sc before e))
    (made_append sc [] (trail_of sc before) (moves_of_act sc e.owner (past_of sc e.owner (own_entries e.owner before)) e.act) made (entry_made sc before e.owner e.act legal.0 fit (c e.owner))) in
    subst (λ z. IsMade sc (trail_of sc z)) (append_assoc before (e ∷ []) rest)
    (made_on sc (before ++ e ∷ []) rest legal.1 (λ x k. fits x (Contains-append_right (e ∷ []) rest x k)) now (carried_on sc before e legal.0 fit c))

-- each move of the trail of a legal history is what its inputs make
pub legal_made : (sc : Scenario) (h : List Entry) → IsLegal sc h → AllFit h → IsMade sc (trail_of sc h)
legal_made sc h legal fits = made_on sc [] h legal fits tt (λ s. record { tail = tt; clean = λ up. refl })

-- no two decisions of one transaction differ in a legal history
pub legal_agrees : (sc : Scenario) (h : List Entry) → IsLegal sc h → AllFit h → Agrees (trail_of sc h)
legal_agrees sc h legal fits = made_agrees sc (trail_of sc h) (legal_made sc h legal fits)

-- in a scenario that keeps the rules
pub given_agrees : (sc : Scenario) (h : List Entry) → IsGiven sc → IsLegal sc h → Agrees (trail_of sc h)
given_agrees sc h given legal = legal_agrees sc h legal (given_fit sc h given legal)

-- and a commit has every vote before it
pub given_voted : (sc : Scenario) (h : List Entry) → IsGiven sc → IsLegal sc h → AllVoted (trail_of sc h)
given_voted sc h given legal = made_voted sc (trail_of sc h) (legal_made sc h legal (given_fit sc h given legal))

-- a decision that a packet says stands
pub given_told : (sc : Scenario) (h : List Entry) → IsGiven sc → IsLegal sc h → (p : Packet) (s : Said) → Contains (sent h) p → Contains (said_msg p.msg) s
    → Contains (log_of sc h p.«from») (log.Decision s.txn s.dir)
given_told sc h given legal p s k says =
    let out : Contains (flat_map sends (trail_of sc h)) (unnumbered p) =
    subst (λ z. Contains z (unnumbered p)) (sym (trail_sends sc h)) (contains_from_in (map unnumbered (sent h)) (unnumbered p) (in_map_to unnumbered p (sent h) (in_from_contains (sent h) p k))) in
    subst (λ z. Contains (log_by z) (log.Decision s.txn s.dir)) (trail_moves sc p.«from» h) (made_stands sc (trail_of sc h) (legal_made sc h legal (given_fit sc h given legal)) (unnumbered p) s out says)
