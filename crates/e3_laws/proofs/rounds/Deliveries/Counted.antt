-- In every legal history packets are numbered from 1 as they are sent, and none is taken that was not sent. A fall is what needs
-- care: its later inputs are due behind steps that were never entered. But what a site sends goes to others, so that what falls
-- to it later was pending before.
use Rattle.std.proofs.Common.{◌≡◌, ◌==◌, ◌≤◌, ◌<◌, ◌+◌, ◌||◌, ℕ, zero, suc, Bool, true, false, not, List, [], ◌∷◌, ◌++◌, append-nil, append_assoc, length, length-append, inl, inr, ◌∙◌, ap, sym, subst, refl, map, count_by, arith, nat_le, eq-eqb}
use Rattle.std.specs.Prelude.{Contains}
use Rattle.std.specs.List.{list_all}
use Rattle.std.proofs.lemmas.Bool.{and_parts, ne_eqb}
use Rattle.std.proofs.lemmas.Grind.{common_steps}
use Rattle.std.proofs.lemmas.List.Elements.{Contains-append_right}
use Rattle.std.proofs.lemmas.List.Sums.{sum_by-append}
use Rattle.e3_types.specs.declared.entries.Act.{Act}
use Rattle.e3_types.specs.declared.entries.Act.TheVariants.{Step, Fall, Rise, RiseFall, Miss, Cut, Drop, Parts, Line}
use Rattle.e3_types.specs.declared.entries.Entry.{Entry}
use Rattle.e3_types.specs.declared.entries.Input.{Input}
use Rattle.e3_types.specs.declared.entries.Input.TheVariants as input
use Rattle.e3_types.specs.declared.messages.Packet.{Packet}
use Rattle.e3_types.specs.declared.scenarios.Scenario.{Scenario}
use Rattle.e3_types.specs.declared.transactions.Txn.{Txn}
use Rattle.e3_world.specs.declared.lives.Made.{Made}
use Rattle.e3_world.specs.Given.{IsGiven}
use Rattle.e3_world.specs.Items.{is_delivery, is_up_at}
use Rattle.e3_world.specs.Legal.{AreDue, Guard, IsDue, IsLegal, LegalAfter, entry_of, made_by, numbered}
use Rattle.e3_world.specs.Lives.{incarnation_of}
use Rattle.e3_world.specs.Moves.{moves_at, unnumbered, unnumbered_input, trail_of}
use Rattle.e3_world.specs.Packets.{outs_of, pending, sent, taken, taken_by, takes_input}
use Rattle.e3_world.specs.Sound.{WasSent}
use Rattle.e3_world.specs.Steps.{step_of}
use Rattle.e3_world.proofs.Guards.{guard_step}
use Rattle.e3_world.proofs.Pushes.{legal_push, step_unnumbered}
use Rattle.e3_world.proofs.Readings.{up_same}
use Rattle.e3_world.proofs.Sending.{trail_sends}
use Rattle.e3_world.proofs.Trails.{trail_moves}
use Rattle.e3_world.proofs.Turns.{self}
use Rattle.e3_net.specs.declared.waiting.Waiting.{Waiting}
use Rattle.e3_net.specs.Stands.{waiting_of}
use Rattle.e3_net.proofs.Climbing.{Climbs}
use Rattle.e3_net.proofs.Pushing.{numbers_on, pending_waits, sent_push, taken_push, waiting_climbs}
use Rattle.e3_laws.specs.agreement.Logs.{IsIn}
use Rattle.e3_laws.specs.agreement.Rows.{MayTake}
use Rattle.e3_laws.specs.agreement.Trails.{IsMade}
use Rattle.e3_laws.proofs.agreement.Refinement.Following.{in_from_contains, in_map_to, made_ok}
use Rattle.e3_laws.proofs.agreement.Refinement.Lists.{in_right}
use Rattle.e3_laws.proofs.agreement.Fitting.{given_fit}
use Rattle.e3_laws.proofs.agreement.Histories.{due_taken, legal_made}
use Rattle.e3_laws.proofs.agreement.Telling.{sends_own}
use Rattle.e3_laws.specs.rounds.Queues.{IsCounted}
use Rattle.e3_laws.proofs.rounds.Tail.{pending_all}
use Rattle.e3_laws.proofs.steps.Tests.{le_is, or_true}
use Rattle.e3_laws.proofs.agreement.Standing.{numbered_from}

some_txn : Txn
some_txn = record { site = 0; inc = 0; seq = 0; sites = [] }

made_of : (sc : Scenario) (h : List Entry) → IsGiven sc → IsLegal sc h → IsMade sc (trail_of sc h)
made_of sc h given legal = legal_made sc h legal (given_fit sc h given legal)

-- what was sent goes to another site
pub sent_away : (sc : Scenario) (h : List Entry) (p : Packet) → IsGiven sc → IsLegal sc h → IsIn p (sent h) → (p.to == p.«from») ≡ false
sent_away sc h p given legal was =
    (made_ok sc some_txn (trail_of sc h) (made_of sc h given legal)).outs (unnumbered p)
    (subst (λ l. IsIn (unnumbered p) l) (sym (trail_sends sc h)) (in_map_to unnumbered p (sent h) was))

-- what a step of a legal history sends comes from its site
sent_own : (sc : Scenario) (h : List Entry) (site : ℕ) (i : Input) → IsGiven sc → IsLegal sc h → IsDue sc h site i → (is_delivery i ≡ false → MayTake site i) →
    (p : Packet) → IsIn p (made_by sc h site i).outs → p.«from» ≡ site
sent_own sc h site i given legal due fits =
    subst (λ z. (p : Packet) → IsIn p (step_of sc.weights site (incarnation_of z) i).outs → p.«from» ≡ site) (trail_moves sc site h)
    (subst (λ (m : Made). (p : Packet) → IsIn p m.outs → p.«from» ≡ site) (step_unnumbered sc.weights site (incarnation_of (moves_at site (trail_of sc h))) i)
    (sends_own sc (trail_of sc h) site (unnumbered_input i) (made_of sc h given legal) taken_is.0 taken_is.1 some_txn))
  where
    taken_is : MayTake site (unnumbered_input i) × WasSent (trail_of sc h) (unnumbered_input i)
    taken_is = due_taken sc h site i due fits

each_in : {X : Type 0} (P : X → Bool) (xs : List X) → ((x : X) → IsIn x xs → P x ≡ true) → list_all P xs ≡ true
each_in P [] each = refl
each_in P (x ∷ xs) each = rw (each x (inl refl)) (each_in P xs (λ y k. each y (inr k)))

one_in : {X : Type 0} (P : X → Bool) (xs : List X) (x : X) → list_all P xs ≡ true → IsIn x xs → P x ≡ true
one_in P [] x all k = absurd k
one_in P (y ∷ ys) x all (inl e) = subst (λ z. P z ≡ true) (sym e) (and_parts (P y) (list_all P ys) all).0
one_in P (y ∷ ys) x all (inr k) = one_in P ys x (and_parts (P y) (list_all P ys) all).1 k

-- the packet is one of the first so many, or not for this site
abbrev within : ℕ → ℕ → Packet → Bool
within last site p = nat_le p.number last || not (p.to == site)

le_from : (a b : ℕ) → nat_le a b ≡ true → a ≤ b
le_from a b is = grind (arith, common_steps, is)

climbs_all : (last site low : ℕ) (ws : List Waiting) → Climbs low ws last → list_all (within last site) (map (λ w. w.packet) ws) ≡ true
climbs_all last site low [] is = refl
climbs_all last site low (w ∷ ws) is = rw (le_is w.packet.number last is.1) (climbs_all last site w.packet.number ws is.2)

all_pending : (sc : Scenario) (h : List Entry) (site : ℕ) → IsCounted sc h → list_all (within (length (sent h)) site) (pending sc h) ≡ true
all_pending sc h site counted =
    ap (list_all (within (length (sent h)) site)) (sym (pending_waits sc h)) ∙ climbs_all (length (sent h)) site 0 (waiting_of sc h) (waiting_climbs sc h counted.numbers)

-- a packet for the site that is pending is one of them
below : (sc : Scenario) (h : List Entry) (last site : ℕ) (p : Packet) → list_all (within last site) (pending sc h) ≡ true → Contains (pending sc h) p → p.to ≡ site →
    p.number ≤ last
below sc h last site p all has to =
    le_from p.number last (by (one_in (within last site) (pending sc h) p all (in_from_contains (pending sc h) p has)))
  where
    or_false : (b : Bool) → (b || false) ≡ b
    or_false true = refl
    or_false false = refl

    by : within last site p ≡ true → nat_le p.number last ≡ true
    by is = sym (or_false (nat_le p.number last)) ∙ (let same : within last site p ≡ (nat_le p.number last || false) = rw (eq-eqb p.to site to) refl in sym same) ∙ is

-- so an input that is due takes none behind them
takes_none : (sc : Scenario) (h : List Entry) (last site n : ℕ) (i : Input) → list_all (within last site) (pending sc h) ≡ true → IsDue sc h site i → last < n →
    takes_input n i ≡ false
takes_none sc h last site n (input.Deliver p) all due above =
    let less : p.number ≤ last = below sc h last site p all due.is_pending due.to in
    ne_eqb p.number n (λ e. let clash : ⊥ = omega (arith, less, above, e) in clash)
takes_none sc h last site n (input.Begin sites) all due above = refl
takes_none sc h last site n (input.Do t op) all due above = refl
takes_none sc h last site n (input.Commit t) all due above = refl
takes_none sc h last site n (input.Cancel t) all due above = refl
takes_none sc h last site n (input.Expire t) all due above = refl
takes_none sc h last site n (input.Elect t group) all due above = refl

-- a step of the site leaves it so
step_within : (sc : Scenario) (h : List Entry) (last site : ℕ) (i : Input) → IsGiven sc → IsLegal sc h → IsLegal sc (h ++ entry_of sc h site i ∷ []) → IsDue sc h site i →
    list_all (within last site) (pending sc h) ≡ true → list_all (within last site) (pending sc (h ++ entry_of sc h site i ∷ [])) ≡ true
step_within sc h last site i given legal legal_then due all =
    pending_all (within last site) sc h e all (each_in (within last site) (outs_of e.act) each)
  where
    e : Entry
    e = entry_of sc h site i

    fits : is_delivery i ≡ false → MayTake site i
    fits no_packet = given_fit sc (h ++ e ∷ []) given legal_then e (Contains-append_right h (e ∷ []) e (0, omega arith, refl)) i (0, omega arith, refl) no_packet

    each : (p : Packet) → IsIn p (outs_of e.act) → within last site p ≡ true
    each p k =
        let q = numbered_from (suc (length (sent h))) (made_by sc h site i).outs p k in
        let mine : p.«from» ≡ site = q.2 ∙ sent_own sc h site i given legal due fits q.0 q.1 in
        let away : (p.to == p.«from») ≡ false = sent_away sc (h ++ e ∷ []) p given legal_then (subst (λ l. IsIn p l) (sym (sent_push h e)) (in_right p (sent h) (outs_of e.act) k)) in
        let other : (p.to == site) ≡ false = ap (λ s. p.to == s) (sym mine) ∙ away in
        rw other (or_true (nat_le p.number last))

fall_takes : (sc : Scenario) (h : List Entry) (last s n : ℕ) (inputs : List Input) → IsGiven sc → IsLegal sc h → is_up_at h (suc s) ≡ true → last < n →
    list_all (within last (suc s)) (pending sc h) ≡ true → AreDue sc h (suc s) inputs → count_by (takes_input n) inputs ≡ 0
fall_takes sc h last s n [] given legal up above all due = refl
fall_takes sc h last s n (i ∷ inputs) given legal up above all due =
    let e : Entry = entry_of sc h (suc s) i in
    let then_legal : IsLegal sc (h ++ e ∷ []) = legal_push sc h e legal (guard_step sc h (suc s) i (omega arith) up due.0) in
    let then_up : is_up_at (h ++ e ∷ []) (suc s) ≡ true = up_same h e (suc s) (self (suc s)) ∙ up in
    let rest : count_by (takes_input n) inputs ≡ 0 = fall_takes sc (h ++ e ∷ []) last s n inputs given then_legal then_up above (step_within sc h last (suc s) i given legal then_legal due.0 all) due.1 in
    let one : count_by (takes_input n) (i ∷ []) ≡ 0 = rw (takes_none sc h last (suc s) n i all due.0 above) refl in
    let both : count_by (takes_input n) (i ∷ inputs) ≡ count_by (takes_input n) (i ∷ []) + count_by (takes_input n) inputs = sum_by-append _ (i ∷ []) inputs in
    omega (arith, one, rest, both)

-- what an act takes was sent
act_takes : (sc : Scenario) (h : List Entry) (o n : ℕ) (act : Act) → IsGiven sc → IsLegal sc h → IsCounted sc h → Guard sc h (record { owner = o; act = act }) → length (sent h) < n →
    taken_by n act ≡ 0
act_takes sc h zero n (Step i records outs events) given legal counted guard above = absurd guard
act_takes sc h (suc s) n (Step i records outs events) given legal counted guard above =
    rw (takes_none sc h (length (sent h)) (suc s) n i (all_pending sc h (suc s) counted) guard.due above) refl
act_takes sc h zero n (Fall inputs records why) given legal counted guard above = absurd guard
act_takes sc h (suc s) n (Fall inputs records why) given legal counted guard above =
    fall_takes sc h (length (sent h)) s n inputs given legal guard.up above (all_pending sc h (suc s) counted) guard.due
act_takes sc h o n (Rise kept inc) given legal counted guard above = refl
act_takes sc h o n (RiseFall kept inc why) given legal counted guard above = refl
act_takes sc h o n Miss given legal counted guard above = refl
act_takes sc h o n Cut given legal counted guard above = refl
act_takes sc h zero n (Drop number) given legal counted guard above =
    let less : guard.packet.number ≤ length (sent h) = below sc h (length (sent h)) guard.packet.to guard.packet (all_pending sc h guard.packet.to counted) guard.is_pending refl in
    let same : guard.packet.number ≡ number = guard.is_its in
    rw (ne_eqb number n (λ e. let clash : ⊥ = omega (arith, less, same, above, e) in clash)) refl
act_takes sc h (suc s) n (Drop number) given legal counted guard above = absurd guard
act_takes sc h o n (Parts parts) given legal counted guard above = refl
act_takes sc h o n (Line number) given legal counted guard above = refl

-- what an act sends is numbered on
act_numbers : (sc : Scenario) (h : List Entry) (o : ℕ) (act : Act) → Guard sc h (record { owner = o; act = act }) → (outs : List Packet) × (outs_of act ≡ numbered (suc (length (sent h))) outs)
act_numbers sc h zero (Step i records outs events) guard = absurd guard
act_numbers sc h (suc s) (Step i records outs events) guard = ((made_by sc h (suc s) i).outs, ap (λ (x : Entry). outs_of x.act) guard.made)
act_numbers sc h o (Fall inputs records why) guard = ([], refl)
act_numbers sc h o (Rise kept inc) guard = ([], refl)
act_numbers sc h o (RiseFall kept inc why) guard = ([], refl)
act_numbers sc h o Miss guard = ([], refl)
act_numbers sc h o Cut guard = ([], refl)
act_numbers sc h o (Drop number) guard = ([], refl)
act_numbers sc h o (Parts parts) guard = ([], refl)
act_numbers sc h o (Line number) guard = ([], refl)

counted_on : (sc : Scenario) (h : List Entry) (e : Entry) → IsGiven sc → IsLegal sc h → IsCounted sc h → Guard sc h e → IsCounted sc (h ++ e ∷ [])
counted_on sc h e given legal counted guard =
    let new = act_numbers sc h e.owner e.act guard in
    let sent_are : sent (h ++ e ∷ []) ≡ sent h ++ numbered (suc (length (sent h))) new.0 = sent_push h e ∙ ap (λ l. sent h ++ l) new.1 in
    record {
      numbers = sent_are ∙ numbers_on (sent h) new.0 counted.numbers ∙ ap (numbered 1) (sym sent_are);
      untaken = λ n above.
          let long : length (sent (h ++ e ∷ [])) ≡ length (sent h) + length (outs_of e.act) = ap length (sent_push h e) ∙ length-append (sent h) (outs_of e.act) in
          let high : length (sent h) < n = omega (arith, long, above) in
          let one : taken n h ≡ 0 = counted.untaken n high in
          let two : taken_by n e.act ≡ 0 = act_takes sc h e.owner n e.act given legal counted guard high in
          taken_push n h e ∙ (let both : taken n h + taken_by n e.act ≡ 0 = omega (arith, one, two) in both);
    }

counted_after : (sc : Scenario) (before rest : List Entry) → IsGiven sc → IsLegal sc before → IsCounted sc before → LegalAfter sc before rest → IsCounted sc (before ++ rest)
counted_after sc before [] given legal counted guards = subst (IsCounted sc) (sym (append-nil before)) counted
counted_after sc before (e ∷ rest) given legal counted guards =
    subst (IsCounted sc) (append_assoc before (e ∷ []) rest)
    (counted_after sc (before ++ e ∷ []) rest given (legal_push sc before e legal guards.0) (counted_on sc before e given legal counted guards.0) guards.1)

pub is_counted : (sc : Scenario) (h : List Entry) → IsGiven sc → IsLegal sc h → IsCounted sc h
is_counted sc h given legal = counted_after sc [] h given tt (record { numbers = refl; untaken = λ n above. refl }) legal
