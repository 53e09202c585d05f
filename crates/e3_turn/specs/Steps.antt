-- What each kind of step tells the pass that makes it: how what the pass knows and holds after the step follows from what it knew and held before, and from the number that it found.
use Rattle.std.specs.Prelude.{◌≡◌, ℕ, ◌%◌, ◌^◌, ◌<◌, Bool, true, false, eqb, List, [], ◌∷◌, length, Option, Some, None, MatchBool}
use Rattle.atomic_table.specs.Table.{Me, Step}
use Rattle.e3_turn.specs.declared.view.View.{View}
use Rattle.e3_turn.specs.Chronicles.{ExtendsByOthers, LongerExtends}
use Rattle.e3_turn.specs.Rule.{with_ticket, with_turn, at_rest, choosing}

module _ {X M : Type 0} where
  abbrev pub marks_in : (X → List M) → Option X → List M
  marks_in marks None = []
  marks_in marks (Some x) = marks x

  -- the chronicle of the value that lies in the slot which a pass holds
  abbrev pub carried_marks : (X → List M) → List (ℕ × Option X) → List M
  carried_marks marks [] = []
  carried_marks marks (p ∷ ps) = marks_in marks p.1

  -- a pass with owners that has no ticket
  pub record Rests (me : Me (Option X) (View M)) : Type 0 where
    pub carried : me.1 ≡ []
    pub ticket : me.0.waits ≡ false
    pub turn : me.0.has_turn ≡ false
    pub owned : 0 < length me.0.owners

  -- a pass that waits for its turn
  pub record Waits (me : Me (Option X) (View M)) : Type 0 where
    pub carried : me.1 ≡ []
    pub ticket : me.0.waits ≡ true
    pub turn : me.0.has_turn ≡ false
    pub owned : 0 < length me.0.owners

  -- a pass with the turn, whose value is with the caller
  pub record IsServed (me : Me (Option X) (View M)) : Type 0 where
    pub carried : me.1 ≡ (0, None) ∷ []
    pub ticket : me.0.waits ≡ true
    pub turn : me.0.has_turn ≡ true
    pub owned : 0 < length me.0.owners

  -- draw a ticket
  abbrev pub drew : Step (Option X) → Me (Option X) (View M) → ℕ → Me (Option X) (View M) → Type 0
  drew s v n w = (t : ℕ) × (t % 2 ^ 64 ≡ n) × (w ≡ (with_ticket v.0 t, v.1))

  -- the pass has the turn and the slot, and has seen the chronicle of the value in it
  abbrev pub Took : (X → List M) → (M → ℕ → Bool) → Me (Option X) (View M) → Me (Option X) (View M) → Type 0
  Took marks belongs v w = (x : X) × (w ≡ (with_turn v.0 (marks x), (0, Some x) ∷ v.1)) × ExtendsByOthers belongs v.0.last v.0.owners v.0.seen (marks x)

  abbrev pub Same : Me (Option X) (View M) → Me (Option X) (View M) → Type 0
  Same v w = w ≡ v

  -- look: where the ticket of the pass is served, it has the turn
  abbrev pub looked : (X → List M) → (M → ℕ → Bool) → Step (Option X) → Me (Option X) (View M) → ℕ → Me (Option X) (View M) → Type 0
  looked marks belongs s v n w = MatchBool (eqb n (v.0.ticket % 2 ^ 64)) (Took marks belongs v w) (Same v w)

  -- next: the slot is at home again, and the pass has neither turn nor ticket
  abbrev pub passed_on : (X → List M) → Step (Option X) → Me (Option X) (View M) → ℕ → Me (Option X) (View M) → Type 0
  passed_on marks s v n w = w ≡ (at_rest v.0 (carried_marks marks v.1), [])

  -- choose the owner that a split gives away; the step's first operand names it
  abbrev pub chose : Step (Option X) → Me (Option X) (View M) → ℕ → Me (Option X) (View M) → Type 0
  chose s v n w = w ≡ (choosing v.0 s.first, v.1)

  -- learn how what the last join put together stands to each other
  abbrev pub learned : (M → ℕ → Bool) → Step (Option X) → Me (Option X) (View M) → ℕ → Me (Option X) (View M) → Type 0
  learned belongs s v n w = (w ≡ v) × ((0 < length v.0.first_owners) × (0 < length v.0.second_owners) → LongerExtends belongs v.0.last v.0.first_owners v.0.first_seen v.0.second_owners v.0.second_seen)
