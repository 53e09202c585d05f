-- A step asks its inputs of one site after the other.
use Rattle.std.proofs.Common.{◌≡◌, ◌≢◌, ◌==◌, ◌+◌, ◌≤◌, ◌<◌, ℕ, suc, Bool, true, false, List, [], ◌∷◌, ◌++◌, ◌∙◌, ap, sym, refl, subst, Some, arith, eq-eqb, eqb-true}
use Rattle.std.specs.Prelude.{slice_get, slice_set}
use Rattle.e3_types.specs.declared.entries.Entry.{Entry}
use Rattle.e3_types.specs.declared.entries.Input.{Input}
use Rattle.e3_types.specs.declared.scenarios.Scenario.{Scenario}
use Rattle.e3_world.specs.Items.{inputs_to, plan_of}
use Rattle.e3_world.specs.declared.names.Addressed.{Addressed}
use Rattle.e3_judge.specs.declared.audit.seat.Seat.{Seat}
use Rattle.e3_judge.specs.audit.Seats.{SeatStands, SeatsStand, line_of}
use Rattle.e3_judge.proofs.audit.Places.{get_set, get_set_other}
use Rattle.e3_judge.proofs.audit.Seats.{apart, seat_line}

-- the first so many sites stand for the history with the line, the others for that before it
pub record AskedTo (sc : Scenario) (h : List Entry) (number at : ℕ) (seats : List Seat) : Type 0 where
  pub done : (j : ℕ) (s : Seat) → slice_get seats j ≡ Some s → j < at → SeatStands sc (h ++ line_of number ∷ []) (suc j) s
  pub left : (j : ℕ) (s : Seat) → slice_get seats j ≡ Some s → at ≤ j → SeatStands sc h (suc j) s

pub asked_none : (sc : Scenario) (h : List Entry) (number : ℕ) (seats : List Seat) → SeatsStand sc h seats → AskedTo sc h number 0 seats
asked_none sc h number seats was = record { done = λ j s there low. absurd (omega (arith, low)); left = λ j s there high. was j s there }

pub asked_all : (sc : Scenario) (h : List Entry) (number at : ℕ) (seats : List Seat) → AskedTo sc h number at seats →
    ((j : ℕ) (s : Seat) → slice_get seats j ≡ Some s → j < at) → SeatsStand sc (h ++ line_of number ∷ []) seats
asked_all sc h number at seats was within j s there = was.done j s there (within j s there)

pub ask_next : (sc : Scenario) (h : List Entry) (number at next : ℕ) (seats : List Seat) (seat new : Seat) (asked : List Addressed) (inputs : List Input) →
    next ≡ at + 1 → AskedTo sc h number at seats → slice_get seats at ≡ Some seat → asked ≡ plan_of sc (h ++ line_of number ∷ []) →
    inputs ≡ inputs_to (at + 1) asked → new ≡ record seat { inputs = inputs; turn = 0; delivered = false; rising = false } →
    AskedTo sc h number next (slice_set seats at new)
ask_next sc h number at next seats seat new asked inputs more was there plan is made = record {
  done = λ j s at_j low. done j s at_j low (j == at) refl;
  left = λ j s at_j high. was.left j s (sym (get_set_other seats at j new (λ same. omega (arith, same, more, high))) ∙ at_j) (omega (arith, more, high));
}
  where
    number_is : suc at ≡ at + 1
    number_is = omega arith

    now : SeatStands sc (h ++ line_of number ∷ []) (suc at) new
    now = subst (λ (s : Seat). SeatStands sc (h ++ line_of number ∷ []) (suc at) s) (sym made)
        (seat_line sc h (line_of number) (suc at) seat inputs refl (apart 0 (suc at) (λ same. omega (arith, same)))
        (sym (is ∙ ap (λ n. inputs_to n asked) (sym number_is) ∙ ap (inputs_to (suc at)) plan)) (was.left at seat there (omega arith)))

    done : (j : ℕ) (s : Seat) → slice_get (slice_set seats at new) j ≡ Some s → j < next → (b : Bool) → (j == at) ≡ b →
        SeatStands sc (h ++ line_of number ∷ []) (suc j) s
    done j s at_j low true same =
        let here : j ≡ at = eqb-true j at same in
        let is_new : new ≡ s = get_set seats at new s (subst (λ n. slice_get (slice_set seats at new) n ≡ Some s) here at_j) in
        subst (λ n. SeatStands sc (h ++ line_of number ∷ []) (suc n) s) (sym here) (subst (λ (x : Seat). SeatStands sc (h ++ line_of number ∷ []) (suc at) x) is_new now)
    done j s at_j low false other =
        let differ : j ≢ at = (λ same. let yes : (j == at) ≡ true = eq-eqb j at same in cc) in
        was.done j s (sym (get_set_other seats at j new differ) ∙ at_j) (omega (arith, low, more, differ))
