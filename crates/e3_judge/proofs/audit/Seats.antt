-- What is kept of the sites goes on with each entry.
use Rattle.std.proofs.Common.{◌≡◌, ◌≢◌, ◌==◌, ◌+◌, ◌||◌, ◌⊎◌, inl, inr, ℕ, suc, Bool, true, false, List, [], ◌∷◌, ◌++◌, ◌∙◌, ap, sym, refl, subst, length, Some, arith, count_by, eq-eqb, eqb-true, fold}
use Rattle.std.specs.Prelude.{slice_get, slice_set}
use Rattle.std.specs.List.{list_any, flat_map}
use Rattle.std.proofs.lemmas.List.Sums.{sum_by-append}
use Rattle.e3_types.specs.declared.entries.Act.TheVariants.{Cut, Fall}
use Rattle.e3_types.specs.declared.entries.Entry.{Entry}
use Rattle.e3_types.specs.declared.entries.Input.{Input}
use Rattle.e3_types.specs.declared.entries.Why.{Why}
use Rattle.e3_types.specs.declared.records.Record.{Record}
use Rattle.e3_types.specs.declared.scenarios.Scenario.{Scenario}
use Rattle.e3_site.specs.SiteView.{SiteView, Stands as StandsIn}
use Rattle.e3_site.specs.StandsFor.{StandsFor}
use Rattle.e3_world.specs.Items.{inputs_at, inputs_of, is_delivery, since_line, taken_at, turn_of}
use Rattle.e3_world.specs.Legal.{entry_of, has_rising, is_rising}
use Rattle.e3_world.specs.Lives.{incarnation_of}
use Rattle.e3_world.specs.Moves.{own_entries, past_of}
use Rattle.e3_world.specs.Packets.{is_line}
use Rattle.e3_world.proofs.Readings.{own_other, taken_other, up_other, up_same}
use Rattle.e3_world.proofs.Turns.{self}
use Rattle.e3_judge.specs.declared.audit.seat.Being.{Being}
use Rattle.e3_judge.specs.declared.audit.seat.Being.TheVariants.{Up, Down}
use Rattle.e3_judge.specs.declared.audit.seat.Seat.{Seat}
use Rattle.e3_judge.specs.audit.Seats.{BeingStands, IsUp, SeatStands, SeatsStand, empty_seat, noted}
use Rattle.e3_judge.proofs.audit.Places.{get_last, get_set, get_set_other}
use Rattle.e3_judge.proofs.audit.Readings.{counts, delivered_own, inputs_still, rising_other, rising_own, since_fresh, turn_own}

-- numbers that differ
pub apart : (a b : ℕ) → a ≢ b → (a == b) ≡ false
apart a b differ = by (a == b) refl
  where
    by : (c : Bool) → (a == b) ≡ c → (a == b) ≡ false
    by true is = absurd (differ (eqb-true a b is))
    by false is = is

-- an entry of another owner
being_other : (sc : Scenario) (h : List Entry) (e : Entry) (k : ℕ) (b : Being) → (e.owner == k) ≡ false → BeingStands sc h k b →
    BeingStands sc (h ++ e ∷ []) k b
being_other sc h e k (Up s) other was = record {
  up = up_other h e k other ∙ was.up;
  stands = record {
    weights_are = was.stands.weights_are;
    site_is = was.stands.site_is;
    stands = subst (λ mine. StandsIn (incarnation_of (past_of sc k mine).moves) s) (sym (own_other k h e other)) was.stands.stands;
  };
}
being_other sc h e k Down other was = up_other h e k other ∙ was

pub seat_other : (sc : Scenario) (h : List Entry) (e : Entry) (k : ℕ) (seat : Seat) → is_line e ≡ false → (e.owner == k) ≡ false →
    SeatStands sc h k seat → SeatStands sc (h ++ e ∷ []) k seat
seat_other sc h e k seat stays other was = record {
  being = being_other sc h e k seat.being other was.being;
  asked = inputs_still sc h e k stays ∙ was.asked;
  turn = ap (count_by counts) (taken_other h e k stays other) ∙ was.turn;
  delivered = ap (list_any is_delivery) (taken_other h e k stays other) ∙ was.delivered;
  rising = rising_other h e k stays other ∙ was.rising;
}

-- a line
pub seat_line : (sc : Scenario) (h : List Entry) (e : Entry) (k : ℕ) (seat : Seat) (inputs : List Input) → is_line e ≡ true → (e.owner == k) ≡ false →
    inputs_at sc (h ++ e ∷ []) k ≡ inputs → SeatStands sc h k seat →
    SeatStands sc (h ++ e ∷ []) k (record seat { inputs = inputs; turn = 0; delivered = false; rising = false })
seat_line sc h e k seat inputs line other asked was = record {
  being = being_other sc h e k seat.being other was.being;
  asked = asked;
  turn = ap (λ since. count_by counts (flat_map (λ x. inputs_of x.act) (own_entries k since))) (since_fresh h e line);
  delivered = ap (λ since. list_any is_delivery (flat_map (λ x. inputs_of x.act) (own_entries k since))) (since_fresh h e line);
  rising = ap (λ since. has_rising since k) (since_fresh h e line);
}

-- a step of its own
pub up_step : (sc : Scenario) (h : List Entry) (k : ℕ) (i : Input) (old new : SiteView) → IsUp sc h k old →
    StandsFor sc (h ++ entry_of sc h k i ∷ []) k new → IsUp sc (h ++ entry_of sc h k i ∷ []) k new
up_step sc h k i old new was stands = record {
  up = up_same h (entry_of sc h k i) k (self k) ∙ was.up;
  stands = stands;
}

or_none : (b : Bool) → (b || false) ≡ b
or_none true = refl
or_none false = refl

-- an entry of its own by which it takes these inputs, and which is no rise
seat_takes : (sc : Scenario) (h : List Entry) (e : Entry) (k : ℕ) (seat : Seat) (being : Being) (inputs : List Input) → (e.owner == k) ≡ true →
    is_line e ≡ false → is_rising e ≡ false → inputs_of e.act ≡ inputs → SeatStands sc h k seat → BeingStands sc (h ++ e ∷ []) k being →
    SeatStands sc (h ++ e ∷ []) k
    (record seat { being = being; turn = seat.turn + count_by counts inputs; delivered = seat.delivered || list_any is_delivery inputs })
seat_takes sc h e k seat being inputs is stays lies takes was now = record {
  being = now;
  asked = inputs_still sc h e k stays ∙ was.asked;
  turn = turn_own h e k stays is ∙ ap (λ n. n + count_by counts (inputs_of e.act)) was.turn ∙ ap (λ (l : List Input). seat.turn + count_by counts l) takes;
  delivered = delivered_own h e k stays is ∙ ap (λ b. b || list_any is_delivery (inputs_of e.act)) was.delivered
      ∙ ap (λ (l : List Input). seat.delivered || list_any is_delivery l) takes;
  rising = rising_own h e k stays is ∙ ap (λ b. has_rising (since_line h) k || (b || false)) lies ∙ or_none (has_rising (since_line h) k) ∙ was.rising;
}

pub seat_step : (sc : Scenario) (h : List Entry) (k : ℕ) (i : Input) (seat : Seat) (being : Being) → SeatStands sc h k seat →
    BeingStands sc (h ++ entry_of sc h k i ∷ []) k being →
    SeatStands sc (h ++ entry_of sc h k i ∷ []) k (noted (record seat { being = being }) i)
seat_step sc h k i seat being was now = seat_takes sc h (entry_of sc h k i) k seat being (i ∷ []) (self k) refl refl refl was now

-- a fall over an input
pub seat_fall : (sc : Scenario) (h : List Entry) (k : ℕ) (i : Input) (records : List Record) (why : Why) (seat new : Seat) → SeatStands sc h k seat →
    new ≡ noted (record seat { being = Down }) i → SeatStands sc (h ++ record { owner = k; act = Fall (i ∷ []) records why } ∷ []) k new
seat_fall sc h k i records why seat new was is =
    subst (λ (s : Seat). SeatStands sc (h ++ e ∷ []) k s) (sym is)
    (seat_takes sc h e k seat Down (i ∷ []) (self k) refl refl refl was (up_same h e k (self k)))
  where
    e : Entry
    e = record { owner = k; act = Fall (i ∷ []) records why }

-- a fall over several inputs
or_or : (a b c : Bool) → ((a || (b || false)) || c) ≡ (a || (b || c))
or_or true b c = refl
or_or false true c = refl
or_or false false c = refl

noted_all : (seat : Seat) (inputs : List Input) →
    fold noted seat inputs ≡ record seat { turn = seat.turn + count_by counts inputs; delivered = seat.delivered || list_any is_delivery inputs }
noted_all seat [] =
    ap (λ n. let s : Seat = record seat { turn = n } in s) (let more : seat.turn ≡ seat.turn + 0 = omega arith in more)
    ∙ ap (λ b. let s : Seat = record seat { turn = seat.turn + 0; delivered = b } in s) (sym (or_none seat.delivered))
noted_all seat (i ∷ inputs) =
    noted_all (noted seat i) inputs
    ∙ ap (λ n. let s : Seat = record seat { turn = n; delivered = (seat.delivered || list_any is_delivery (i ∷ [])) || list_any is_delivery inputs } in s) turn
    ∙ ap (λ b. let s : Seat = record seat { turn = seat.turn + count_by counts (i ∷ inputs); delivered = b } in s)
    (or_or seat.delivered (is_delivery i) (list_any is_delivery inputs))
  where
    turn : (seat.turn + count_by counts (i ∷ [])) + count_by counts inputs ≡ seat.turn + count_by counts (i ∷ inputs)
    turn =
        let all : count_by counts (i ∷ inputs) ≡ count_by counts (i ∷ []) + count_by counts inputs = sum_by-append _ (i ∷ []) inputs in
        omega (arith, all)

pub seat_falls : (sc : Scenario) (h : List Entry) (k : ℕ) (inputs : List Input) (records : List Record) (why : Why) (seat new : Seat) → SeatStands sc h k seat →
    new ≡ fold noted (record seat { being = Down }) inputs → SeatStands sc (h ++ record { owner = k; act = Fall inputs records why } ∷ []) k new
seat_falls sc h k inputs records why seat new was is =
    subst (λ (s : Seat). SeatStands sc (h ++ e ∷ []) k s) (sym (is ∙ noted_all (record seat { being = Down }) inputs))
    (seat_takes sc h e k seat Down inputs (self k) refl refl refl was (up_same h e k (self k)))
  where
    e : Entry
    e = record { owner = k; act = Fall inputs records why }

-- a cut
pub seat_cut : (sc : Scenario) (h : List Entry) (k : ℕ) (seat : Seat) → SeatStands sc h k seat →
    SeatStands sc (h ++ record { owner = k; act = Cut } ∷ []) k (record seat { being = Down })
seat_cut sc h k seat was = record {
  being = up_same h e k (self k);
  asked = inputs_still sc h e k refl ∙ was.asked;
  turn =
      let all : turn_of (h ++ e ∷ []) k ≡ turn_of h k + 0 = turn_own h e k refl (self k) in
      let was_turn : turn_of h k ≡ seat.turn = was.turn in
      omega (arith, all, was_turn);
  delivered = delivered_own h e k refl (self k) ∙ or_none (list_any is_delivery (taken_at h k)) ∙ was.delivered;
  rising = rising_own h e k refl (self k) ∙ or_none (has_rising (since_line h) k) ∙ was.rising;
}
  where
    e : Entry
    e = record { owner = k; act = Cut }

-- a rise of its own, or a failed or a missed one
or_true : (b : Bool) → (b || (true || false)) ≡ true
or_true true = refl
or_true false = refl

pub seat_rise : (sc : Scenario) (h : List Entry) (e : Entry) (k : ℕ) (seat : Seat) (being : Being) → (e.owner == k) ≡ true → is_line e ≡ false →
    is_rising e ≡ true → inputs_of e.act ≡ [] → SeatStands sc h k seat → BeingStands sc (h ++ e ∷ []) k being →
    SeatStands sc (h ++ e ∷ []) k (record seat { being = being; rising = true })
seat_rise sc h e k seat being is stays rises none was now = record {
  being = now;
  asked = inputs_still sc h e k stays ∙ was.asked;
  turn =
      let all : turn_of (h ++ e ∷ []) k ≡ turn_of h k + count_by counts (inputs_of e.act) = turn_own h e k stays is in
      let no : count_by counts (inputs_of e.act) ≡ 0 = ap (count_by counts) none in
      let was_turn : turn_of h k ≡ seat.turn = was.turn in
      omega (arith, all, no, was_turn);
  delivered = delivered_own h e k stays is ∙ ap (λ is. list_any is_delivery (taken_at h k) || list_any is_delivery is) none
      ∙ or_none (list_any is_delivery (taken_at h k)) ∙ was.delivered;
  rising = rising_own h e k stays is ∙ ap (λ b. has_rising (since_line h) k || (b || false)) rises ∙ or_true (has_rising (since_line h) k);
}

-- all seats, behind an entry of one of their sites
pub seats_own : (sc : Scenario) (h : List Entry) (e : Entry) (seats : List Seat) (at : ℕ) (new : Seat) → is_line e ≡ false → e.owner ≡ suc at →
    SeatsStand sc h seats → SeatStands sc (h ++ e ∷ []) (suc at) new → SeatsStand sc (h ++ e ∷ []) (slice_set seats at new)
seats_own sc h e seats at new stays is was now j seat there = by (j == at) refl
  where
    by : (b : Bool) → (j == at) ≡ b → SeatStands sc (h ++ e ∷ []) (suc j) seat
    by true same =
        let here : j ≡ at = eqb-true j at same in
        let is_new : new ≡ seat = get_set seats at new seat (subst (λ n. slice_get (slice_set seats at new) n ≡ Some seat) here there) in
        subst (λ n. SeatStands sc (h ++ e ∷ []) (suc n) seat) (sym here) (subst (λ (s : Seat). SeatStands sc (h ++ e ∷ []) (suc at) s) is_new now)
    by false other =
        let differ : j ≢ at = (λ same. let yes : (j == at) ≡ true = eq-eqb j at same in cc) in
        seat_other sc h e (suc j) seat stays (apart e.owner (suc j) (λ same. differ (omega (arith, same, is))))
        (was j seat (sym (get_set_other seats at j new differ) ∙ there))

-- sites without entries
pub seats_empty : (sc : Scenario) → SeatsStand sc [] []
seats_empty sc at seat there = absurd cc

empty_stands : (sc : Scenario) (k : ℕ) → SeatStands sc [] k empty_seat
empty_stands sc k = record { being = refl; asked = refl; turn = refl; delivered = refl; rising = refl }

pub seats_more : (sc : Scenario) (seats : List Seat) (new : Seat) → new ≡ empty_seat → SeatsStand sc [] seats → SeatsStand sc [] (seats ++ new ∷ [])
seats_more sc seats new empty was at seat there = by (get_last seats new seat at there)
  where
    by : (slice_get seats at ≡ Some seat) ⊎ ((at ≡ length seats) × (new ≡ seat)) → SeatStands sc [] (suc at) seat
    by (inl old) = was at seat old
    by (inr last) = subst (λ (s : Seat). SeatStands sc [] (suc at) s) (sym empty ∙ last.1) (empty_stands sc (suc at))

-- all seats, behind an entry of the driver that is no line
pub seats_driver : (sc : Scenario) (h : List Entry) (e : Entry) (seats : List Seat) → is_line e ≡ false → e.owner ≡ 0 → SeatsStand sc h seats →
    SeatsStand sc (h ++ e ∷ []) seats
seats_driver sc h e seats stays is was at seat there =
    seat_other sc h e (suc at) seat stays (apart e.owner (suc at) (λ same. omega (arith, same, is))) (was at seat there)
