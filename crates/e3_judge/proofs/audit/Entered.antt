-- All that is kept goes on with each kind of entry.
use Rattle.std.proofs.Common.{◌≡◌, ◌==◌, ◌+◌, ◌-◌, ◌≤◌, ◌&&◌, ◌||◌, inr, ℕ, suc, Bool, true, false, not, List, [], ◌∷◌, ◌++◌, ◌∙◌, ap, sym, refl, subst, length, Some, arith, eqb-true}
use Rattle.std.specs.Prelude.{slice_get, slice_set, filter_map, map, option_map}
use Rattle.std.proofs.lemmas.Bool.{and_parts}
use Rattle.std.proofs.lemmas.Grind.{fold-append}
use Rattle.e3_types.specs.declared.entries.Act.TheVariants.{Step}
use Rattle.e3_types.specs.declared.entries.Entry.{Entry}
use Rattle.e3_types.specs.declared.entries.Input.{Input}
use Rattle.e3_types.specs.declared.entries.Input.TheVariants as input
use Rattle.e3_types.specs.declared.entries.Told.{Told}
use Rattle.e3_types.specs.declared.messages.Packet.{Packet}
use Rattle.e3_types.specs.declared.records.Record.{Record}
use Rattle.e3_types.specs.declared.scenarios.Scenario.{Scenario}
use Rattle.e3_types.specs.declared.transactions.Txn.{Txn}
use Rattle.e3_readings.specs.Bindings.{bound_behind, nothing_bound}
use Rattle.e3_readings.specs.Inputs.{input_with}
use Rattle.e3_readings.proofs.ByName.{inputs_are}
use Rattle.e3_judge.specs.Checks.{same_round}
use Rattle.e3_judge.specs.Equal.{is_some, same_input, same_list, same_packet, same_record, same_told}
use Rattle.e3_judge.proofs.Anys.{decides_where}
use Rattle.e3_judge.proofs.Deciding.{decides_round}
use Rattle.e3_judge.proofs.SameParts.{exact_input, exact_list, exact_packet, exact_record, exact_some, exact_told}
use Rattle.e3_net.specs.Stands.{IsNext, NetStands, behind_input}
use Rattle.e3_net.specs.Traffic.{Traffic, fresh, packet_to, sends_all}
use Rattle.e3_net.proofs.Keeping.{fresh_stands, line_keeps, step_keeps}
use Rattle.e3_net.proofs.Showing.{first_waits, taken_is_pending}
use Rattle.e3_site.specs.SiteView.{SiteView, step_kept}
use Rattle.e3_site.specs.StandsFor.{PlansStep, StandsFor, StandsOn, StandsStill}
use Rattle.e3_world.specs.Items.{binding_by, due_round, input_of, is_delivery, is_up_at, items_through, plan_of, turn_of}
use Rattle.e3_world.specs.Legal.{Guard, IsDelivery, IsDue, IsLine, entry_of, first_pending, made_by, numbered}
use Rattle.e3_world.specs.Lives.{incarnation_of}
use Rattle.e3_world.specs.Moves.{moves_of, unnumbered}
use Rattle.e3_world.specs.Packets.{is_calm, is_line, lines, outs_of, present_items, sent, step_items}
use Rattle.e3_world.specs.declared.lives.Incarnation.{Incarnation}
use Rattle.e3_world.specs.declared.lives.SiteStep.{SiteStep}
use Rattle.e3_world.specs.declared.names.Addressed.{Addressed}
use Rattle.e3_world.proofs.Guards.{due, guard_step, lines_push}
use Rattle.e3_world.proofs.Pushes.{legal_push}
use Rattle.e3_judge.specs.declared.audit.auditor.Auditor.{Auditor}
use Rattle.e3_judge.specs.declared.audit.seat.Seat.{Seat}
use Rattle.e3_judge.specs.audit.Seats.{SeatStands, SeatsStand, Stands, line_of}
use Rattle.e3_judge.proofs.audit.Places.{set_length}
use Rattle.e3_judge.proofs.audit.Readings.{lines_still, to_all}
use Rattle.e3_judge.proofs.audit.Seats.{seats_own}
use Rattle.e3_judge.proofs.audit.Through.{none_left}

-- before the first entry
pub started : (sc : Scenario) (a : Auditor) → a.lines ≡ 0 → a.net.traffic ≡ fresh (length sc.weights) sc.luck sc.loss sc.repeat → length a.seats.items ≡ length sc.weights →
    length sc.weights ≤ 64 → SeatsStand sc [] a.seats.items → Stands sc [] a
started sc a lines net count few seats = record {
  legal = tt;
  lines_are = sym lines;
  net = subst (NetStands sc []) (sym net) (fresh_stands sc);
  count = count;
  few = few;
  seats = seats;
}

-- a line
pub begun : (sc : Scenario) (h : List Entry) (number : ℕ) (a new : Auditor) → Stands sc h a → IsLine sc h number → new.lines ≡ number →
    new.net.traffic ≡ record a.net.traffic { calm = is_calm (step_items sc number) } → length new.seats.items ≡ length a.seats.items →
    SeatsStand sc (h ++ line_of number ∷ []) new.seats.items → Stands sc (h ++ line_of number ∷ []) new
begun sc h number a new was asked lines_is net_is count_is seats_are = record {
  legal = legal_push sc h (line_of number) was.legal asked;
  lines_are = by_count (lines_push h (line_of number)) asked.next lines_is;
  net = subst (NetStands sc (h ++ line_of number ∷ [])) (sym (net_is ∙ ap (λ n. record a.net.traffic { calm = is_calm (step_items sc n) }) asked.next))
      (line_keeps sc h a.net.traffic 0 number was.net);
  count = count_is ∙ was.count;
  few = was.few;
  seats = seats_are;
}
  where
    by_count : lines (h ++ line_of number ∷ []) ≡ lines h + 1 → number ≡ suc (lines h) → new.lines ≡ number → lines (h ++ line_of number ∷ []) ≡ new.lines
    by_count all next is = omega (arith, all, next, is)

-- what a step asks, behind its line
pub asks : (sc : Scenario) (h : List Entry) (number : ℕ) (asked : List Addressed) → number ≡ suc (lines h) →
    asked ≡ filter_map (input_with (bound_behind sc h).bound) (step_items sc number) → asked ≡ plan_of sc (h ++ line_of number ∷ [])
asks sc h number asked next is =
    is ∙ ap (λ b. filter_map (input_with b) (step_items sc number)) (sym bound) ∙ inputs_are sc later (step_items sc number)
    ∙ ap (λ n. filter_map (input_of sc later) (step_items sc n)) (sym count)
    ∙ ap (λ l. filter_map (input_of sc l) (present_items sc l)) (sym (to_all h (line_of number) refl))
  where
    later : List Entry
    later = h ++ line_of number ∷ []

    bound : (bound_behind sc later).bound ≡ (bound_behind sc h).bound
    bound = ap (λ b. b.bound) (fold-append (binding_by sc) nothing_bound h (line_of number ∷ []))

    count : lines later ≡ number
    count = let all : lines later ≡ lines h + 1 = lines_push h (line_of number) in omega (arith, all, next)

-- an entry of a site of the scenario
pub goes_on : (sc : Scenario) (h : List Entry) (e : Entry) (site : ℕ) (seat : Seat) (a new : Auditor) → Stands sc h a → 1 ≤ site → e.owner ≡ site →
    is_line e ≡ false → Guard sc h e → SeatStands sc (h ++ e ∷ []) site seat → new.lines ≡ a.lines → NetStands sc (h ++ e ∷ []) new.net.traffic →
    new.seats.items ≡ slice_set a.seats.items (site - 1) seat → Stands sc (h ++ e ∷ []) new
goes_on sc h e site seat a new was one owner stays allowed seated lines net seats = record {
  legal = legal_push sc h e was.legal allowed;
  lines_are = lines_still h e stays ∙ was.lines_are ∙ sym lines;
  net = net;
  count = ap length seats ∙ set_length a.seats.items (site - 1) seat ∙ was.count;
  few = was.few;
  seats = subst (SeatsStand sc (h ++ e ∷ [])) (sym seats)
      (seats_own sc h e a.seats.items (site - 1) seat stays (owner ∙ back) was.seats (subst (λ n. SeatStands sc (h ++ e ∷ []) n seat) back seated));
}
  where
    back : site ≡ suc (site - 1)
    back = omega (arith, one)

-- a step

-- numbers do not matter to what is numbered
numbered_unnumbered : (n : ℕ) (ps : List Packet) → numbered n (map unnumbered ps) ≡ numbered n ps
numbered_unnumbered n [] = refl
numbered_unnumbered n (p ∷ ps) = ap (λ rest. record p { number = n } ∷ rest) (numbered_unnumbered (suc n) ps)

numbered_again : (n : ℕ) (ps : List Packet) → numbered n (numbered n ps) ≡ numbered n ps
numbered_again n [] = refl
numbered_again n (p ∷ ps) = ap (λ rest. record p { number = n } ∷ rest) (numbered_again (suc n) ps)

-- the plan of a site that stands for a history is the step that the history makes
pub plan_made : (sc : Scenario) (h : List Entry) (site : ℕ) (s : SiteView) (i : Input) (now : Incarnation) (step : SiteStep) → StandsFor sc h site s →
    now ≡ incarnation_of (moves_of sc h site) → PlansStep now s i step → step ≡ step_kept i (made_by sc h site i)
plan_made sc h site s i now step stands is plans =
    subst (λ n. step ≡ step_kept i (made_by sc h n i)) stands.site_is
    (plans sc h (subst (λ n. StandsFor sc h n s) (sym stands.site_is) stands) (ap (λ n. incarnation_of (moves_of sc h n)) stands.site_is ∙ sym is))

-- the records that are planned are those of the step
pub records_made : (sc : Scenario) (h : List Entry) (site : ℕ) (i : Input) (step : SiteStep) (records : List Record) →
    step ≡ step_kept i (made_by sc h site i) → same_list same_record records step.records ≡ true → records ≡ (made_by sc h site i).records
records_made sc h site i step records made same = (exact_list same_record exact_record records step.records).0 same ∙ ap (λ p. p.records) made

-- what has just what is planned is the step's entry
pub as_planned : (sc : Scenario) (h : List Entry) (site : ℕ) (i : Input) (plan : SiteStep) (count : ℕ)
    (records : List Record) (outs : List Packet) (told : List Told) → plan ≡ step_kept i (made_by sc h site i) → count ≡ length (sent h) →
    (same_list same_record records plan.records && same_list same_packet outs (numbered (suc count) plan.outs) && same_list same_told told plan.told) ≡ true →
    record { owner = site; act = Step i records outs told } ≡ entry_of sc h site i
as_planned sc h site i plan count records outs told made counted same =
    ap (λ (l : List Record). record { owner = site; act = Step i l outs told }) rs
    ∙ ap (λ (l : List Packet). record { owner = site; act = Step i (made_by sc h site i).records l told }) os
    ∙ ap (λ (l : List Told). record { owner = site; act = Step i (made_by sc h site i).records (numbered (suc (length (sent h))) (made_by sc h site i).outs) l }) ts
  where
    a : Bool
    a = same_list same_record records plan.records

    b : Bool
    b = same_list same_packet outs (numbered (suc count) plan.outs)

    first : (a && b) ≡ true
    first = (and_parts (a && b) (same_list same_told told plan.told) same).0

    rs : records ≡ (made_by sc h site i).records
    rs = (exact_list same_record exact_record records plan.records).0 (and_parts a b first).0 ∙ ap (λ p. p.records) made

    os : outs ≡ numbered (suc (length (sent h))) (made_by sc h site i).outs
    os = (exact_list same_packet exact_packet outs (numbered (suc count) plan.outs)).0 (and_parts a b first).1
        ∙ ap (λ n. numbered (suc n) plan.outs) counted
        ∙ ap (λ p. numbered (suc (length (sent h))) p.outs) made
        ∙ numbered_unnumbered (suc (length (sent h))) (made_by sc h site i).outs

    ts : told ≡ (made_by sc h site i).told
    ts = (exact_list same_told exact_told told plan.told).0 (and_parts (a && b) (same_list same_told told plan.told) same).1 ∙ ap (λ p. p.told) made

-- a site that did what it planned
pub took : (sc : Scenario) (h : List Entry) (site : ℕ) (i : Input) (old ready new : SiteView) (step : SiteStep) → StandsFor sc h site old →
    StandsStill old ready → step ≡ step_kept i (made_by sc h site i) → StandsOn ready step new → StandsFor sc (h ++ entry_of sc h site i ∷ []) site new
took sc h site i old ready new step stands still made on =
    let there : StandsFor sc h site ready = still sc h site stands in
    subst (λ n. StandsFor sc (h ++ entry_of sc h n i ∷ []) n new) there.site_is
    (on sc h i (subst (λ n. StandsFor sc h n ready) (sym there.site_is) there)
    (subst (λ n. step ≡ step_kept i (made_by sc h n i)) (sym there.site_is) made))

pub stepped : (sc : Scenario) (h : List Entry) (site : ℕ) (i : Input) (records : List Record) (outs : List Packet) (told : List Told) (seat : Seat) (a new : Auditor) →
    Stands sc h a → 1 ≤ site → IsDue sc h site i → IsNext a.net.traffic i → is_up_at h site ≡ true →
    record { owner = site; act = Step i records outs told } ≡ entry_of sc h site i → SeatStands sc (h ++ entry_of sc h site i ∷ []) site seat →
    new.lines ≡ a.lines → new.net.traffic ≡ sends_all (behind_input a.net.traffic i) outs → new.seats.items ≡ slice_set a.seats.items (site - 1) seat →
    Stands sc (h ++ record { owner = site; act = Step i records outs told } ∷ []) new
stepped sc h site i records outs told seat a new was one is_due next up made seated lines net seats =
    goes_on sc h e site seat a new was one refl refl (subst (Guard sc h) (sym made) (guard_step sc h site i one up is_due))
    (subst (λ (x : Entry). SeatStands sc (h ++ x ∷ []) site seat) (sym made) seated) lines
    (subst (NetStands sc (h ++ e ∷ [])) (sym net)
    (subst (λ (l : List Packet). NetStands sc (h ++ record { owner = site; act = Step i records l told } ∷ []) (sends_all (behind_input a.net.traffic i) outs)) again
    (step_keeps sc h a.net.traffic site i records outs told was.net next)))
    seats
  where
    e : Entry
    e = record { owner = site; act = Step i records outs told }

    again : numbered (suc (length (sent h))) outs ≡ outs
    again =
        let is : outs ≡ numbered (suc (length (sent h))) (made_by sc h site i).outs = ap (λ (x : Entry). outs_of x.act) made in
        ap (numbered (suc (length (sent h)))) is ∙ numbered_again (suc (length (sent h))) (made_by sc h site i).outs ∙ sym is

-- its input is due

pub item_is_due : (sc : Scenario) (h : List Entry) (site : ℕ) (i : Input) (seat : Seat) → SeatStands sc h site seat → is_delivery i ≡ false →
    (is_some same_input (slice_get seat.inputs seat.turn) i && not seat.delivered) ≡ true → IsDue sc h site i
item_is_due sc h site i seat was is all = due sc h site i is (record {
  next = ap (λ l. slice_get l (turn_of h site)) was.asked ∙ ap (slice_get seat.inputs) was.turn
      ∙ (exact_some same_input exact_input (slice_get seat.inputs seat.turn) i).0 both.0;
  no_delivery = was.delivered ∙ unsaid seat.delivered both.1;
})
  where
    both : (is_some same_input (slice_get seat.inputs seat.turn) i ≡ true) × (not seat.delivered ≡ true)
    both = and_parts (is_some same_input (slice_get seat.inputs seat.turn) i) (not seat.delivered) all

    unsaid : (b : Bool) → not b ≡ true → b ≡ false
    unsaid true said = absurd cc
    unsaid false said = refl

pub no_delivery : (i : Input) → ((p : Packet) → i ≡ input.Deliver p → ⊥) → is_delivery i ≡ false
no_delivery (input.Begin sites) other = refl
no_delivery (input.Do t op) other = refl
no_delivery (input.Commit t) other = refl
no_delivery (input.Cancel t) other = refl
no_delivery (input.Expire t) other = refl
no_delivery (input.Elect t group) other = refl
no_delivery (input.Deliver p) other = absurd (other p refl)

pub delivery_is_due : (sc : Scenario) (h : List Entry) (site : ℕ) (p : Packet) (net : Traffic) → NetStands sc h net → p.to ≡ site →
    (is_calm (present_items sc h) ≡ true → first_pending sc h ≡ Some p) → packet_to site net ≡ Some p → items_through sc h ≡ true → IsDelivery sc h site p
delivery_is_due sc h site p net was to in_order next through = record {
  to = to;
  is_pending = (taken_is_pending sc h net site p was next).0;
  behind_items = through;
  in_order = in_order;
}

-- in a recover step the packet is the least
pub in_order : (sc : Scenario) (h : List Entry) (p : Packet) (a : Auditor) → Stands sc h a →
    (not (is_calm (step_items sc a.lines)) || is_some same_packet (option_map (λ w. w.packet) (slice_get a.net.traffic.waiting 0)) p) ≡ true →
    is_calm (present_items sc h) ≡ true → first_pending sc h ≡ Some p
in_order sc h p a was holds calm =
    first_waits sc h a.net.traffic was.net
    ∙ (decides_where (is_calm (step_items sc a.lines)) _ (exact_some same_packet exact_packet (option_map (λ w. w.packet) (slice_get a.net.traffic.waiting 0)) p)).0
    holds (sym (ap (λ n. is_calm (step_items sc n)) was.lines_are) ∙ calm)

-- a round of a recovery
pub round_due : (sc : Scenario) (h : List Entry) (site : ℕ) (t : Txn) (group : List ℕ) (net : Traffic) → NetStands sc h net → (length net.waiting == 0) ≡ true →
    is_some same_round (due_round sc h) (record { txn = t; members = group; elector = site }) ≡ true → IsDue sc h site (input.Elect t group)
round_due sc h site t group net was none due_is =
    inr ((decides_round sc h site t group).0 (rw (due_is, none_left sc h net was (eqb-true (length net.waiting) 0 none)) refl))
