-- What the sites that are kept say of the present step.
use Rattle.std.proofs.Common.{◌≡◌, ◌≢◌, ◌-◌, ◌≤◌, ◌<◌, ◌||◌, ℕ, suc, Bool, true, false, not, List, [], ◌∷◌, ◌∙◌, ap, sym, refl, subst, length, Some, arith, nat_le, ltb-true, map}
use Rattle.std.specs.Prelude.{nat_lt, slice_get, take}
use Rattle.std.specs.List.{list_all}
use Rattle.e3_types.specs.declared.entries.Entry.{Entry}
use Rattle.e3_types.specs.declared.scenarios.Item.{Item}
use Rattle.e3_types.specs.declared.scenarios.Item.TheVariants as item
use Rattle.e3_types.specs.declared.scenarios.Scenario.{Scenario}
use Rattle.e3_net.specs.declared.waiting.Waiting.{Waiting}
use Rattle.e3_net.specs.Stands.{NetStands}
use Rattle.e3_net.specs.Traffic.{Traffic}
use Rattle.e3_net.proofs.Showing.{pending_are}
use Rattle.e3_world.specs.Given.{is_groupable}
use Rattle.e3_world.specs.Items.{inputs_at, is_up_at, items_through, since_line, turn_of}
use Rattle.e3_world.specs.Legal.{has_rising, is_made, is_through, may_rise}
use Rattle.e3_world.specs.Packets.{all_sites, lines, pending, present_items, step_items}
use Rattle.e3_world.proofs.Guards.{made_group, step_through}
use Rattle.e3_world.proofs.Rises.{all_to}
use Rattle.e3_world.proofs.Turns.{self}
use Rattle.e3_judge.specs.declared.audit.auditor.Auditor.{Auditor}
use Rattle.e3_judge.specs.declared.audit.seat.Being.{Being}
use Rattle.e3_judge.specs.declared.audit.seat.Being.TheVariants.{Up, Down}
use Rattle.e3_judge.specs.declared.audit.seat.Seat.{Seat}
use Rattle.e3_judge.specs.audit.Seats.{BeingStands, SeatStands, SeatsStand, Stands, is_alone_made, is_done}
use Rattle.e3_judge.proofs.audit.Places.{all_at, get_some, get_take}
use Rattle.e3_judge.proofs.audit.Readings.{since_all}

-- the seat of a site of the scenario
pub record SeatOf (sc : Scenario) (h : List Entry) (seats : List Seat) (k : ℕ) : Type 0 where
  pub seat : Seat
  pub there : slice_get seats (k - 1) ≡ Some seat
  pub stands : SeatStands sc h k seat

pub seat_at : (sc : Scenario) (h : List Entry) (seats : List Seat) (k : ℕ) (seat : Seat) → SeatsStand sc h seats → 1 ≤ k →
    slice_get seats (k - 1) ≡ Some seat → SeatStands sc h k seat
seat_at sc h seats k seat was one there =
    let same : suc (k - 1) ≡ k = omega (arith, one) in
    subst (λ n. SeatStands sc h n seat) same (was (k - 1) seat there)

pub seat_of : (sc : Scenario) (h : List Entry) (seats : List Seat) (k : ℕ) → SeatsStand sc h seats → 1 ≤ k → k ≤ length seats → SeatOf sc h seats k
seat_of sc h seats k was one few =
    let some = get_some seats (k - 1) (omega (arith, one, few)) in
    record { seat = some.0; there = some.1; stands = seat_at sc h seats k some.0 was one some.1 }

-- a site that is done with its items
done_at : (sc : Scenario) (h : List Entry) (k : ℕ) (seat : Seat) → SeatStands sc h k seat → is_done seat ≡ true →
    (not (is_up_at h k) || nat_le (length (inputs_at sc h k)) (turn_of h k)) ≡ true
done_at sc h k seat was done = by seat.being refl was.being
  where
    by : (b : Being) → seat.being ≡ b → BeingStands sc h k b → (not (is_up_at h k) || nat_le (length (inputs_at sc h k)) (turn_of h k)) ≡ true
    by (Up s) is up =
        let all : nat_le (length seat.inputs) seat.turn ≡ true = sym (let same : is_done seat ≡ nat_le (length seat.inputs) seat.turn = rw is refl in same) ∙ done in
        rw (up.up, was.asked, was.turn) all
    by Down is down = rw down refl

pub all_done : (sc : Scenario) (h : List Entry) (seats : List Seat) → SeatsStand sc h seats → length seats ≡ length sc.weights →
    list_all is_done seats ≡ true → items_through sc h ≡ true
all_done sc h seats was count done =
    all_to _ (length sc.weights) (λ k one few.
    let its : SeatOf sc h seats k = seat_of sc h seats k was one (omega (arith, few, count)) in
    done_at sc h k its.seat its.stands (all_at is_done seats (k - 1) its.seat done its.there))

-- nothing waits
pub none_left : (sc : Scenario) (h : List Entry) (net : Traffic) → NetStands sc h net → length net.waiting ≡ 0 → pending sc h ≡ []
none_left sc h net was none = pending_are sc h net was ∙ empty net.waiting none
  where
    empty : (ws : List Waiting) → length ws ≡ 0 → map (λ w. w.packet) ws ≡ []
    empty [] is = refl
    empty (w ∷ ws) is = absurd (omega (arith, is))

-- the present step is made, and nothing is pending
pub step_is_through : (sc : Scenario) (h : List Entry) (a : Auditor) → Stands sc h a → a.lines ≢ 0 → length a.net.traffic.waiting ≡ 0 →
    is_made sc h ≡ true → is_through sc h ≡ true
step_is_through sc h a was begun none made =
    step_through sc h (a.lines - 1) (was.lines_are ∙ (let some : a.lines ≡ suc (a.lines - 1) = omega (arith, begun) in some))
    (none_left sc h a.net.traffic was.net none) made

-- the step of a group is made
pub group_made : (sc : Scenario) (h : List Entry) (a : Auditor) → Stands sc h a → list_all is_groupable (step_items sc a.lines) ≡ true →
    list_all is_done a.seats.items ≡ true → is_made sc h ≡ true
group_made sc h a was group done =
    made_group sc h (present_items sc h) refl (ap (λ k. list_all is_groupable (step_items sc k)) was.lines_are ∙ group)
    (all_done sc h a.seats.items was.seats was.count done)

-- a step that is no group is made
pub alone_made : (sc : Scenario) (h : List Entry) (n : ℕ) (it : Item) (more : List Item) → lines h ≡ suc n → present_items sc h ≡ it ∷ more →
    is_alone_made sc h it ≡ true → is_made sc h ≡ true
alone_made sc h n (item.Recover group) more line is made = rw is made
alone_made sc h n (item.Split parts) more line is made = rw is made
alone_made sc h n item.Merge more line is made = rw is made
alone_made sc h n (item.Crash site) more line is made = rw is made
alone_made sc h n (item.Stop site count leave) more line is made = rw is refl
alone_made sc h n (item.Restart site) more line is made = rw is (by (is_up_at h site) (has_rising (since_line h) site) (sym (ap (λ b. is_up_at h site || not b) may) ∙ made))
  where
    there : step_items sc (suc n) ≡ item.Restart site ∷ more
    there = sym (ap (step_items sc) line) ∙ is

    may : may_rise sc h site ≡ not (has_rising (since_line h) site)
    may = rw (line, there, self site) refl

    by : (b c : Bool) → (b || not (not c)) ≡ true → (b || c) ≡ true
    by true c is = refl
    by false true is = refl
    by false false is = absurd cc
alone_made sc h n (item.Begin name site sites) more line is made = absurd cc
alone_made sc h n (item.Read name key) more line is made = absurd cc
alone_made sc h n (item.Write name key val) more line is made = absurd cc
alone_made sc h n (item.Commit name) more line is made = absurd cc
alone_made sc h n (item.Cancel name) more line is made = absurd cc
alone_made sc h n (item.Expire site name) more line is made = absurd cc
alone_made sc h n (item.Elect site name sites) more line is made = absurd cc

-- before the first line
pub rose_at : (sc : Scenario) (h : List Entry) (k : ℕ) (seat : Seat) → lines h ≡ 0 → SeatStands sc h k seat → has_rising h k ≡ seat.rising
rose_at sc h k seat none was = ap (λ l. has_rising l k) (sym (since_all h none)) ∙ was.rising

pub all_rose : (sc : Scenario) (h : List Entry) (a : Auditor) → Stands sc h a → a.lines ≡ 0 → list_all (λ s. s.rising) a.seats.items ≡ true →
    is_through sc h ≡ true
all_rose sc h a was none rose =
    let zero : lines h ≡ 0 = was.lines_are ∙ none in
    rw zero (all_to (has_rising h) (length sc.weights) (λ k one few.
    let count = was.count in
    let its : SeatOf sc h a.seats.items k = seat_of sc h a.seats.items k was.seats one (omega (arith, few, count)) in
    rose_at sc h k its.seat zero its.stands ∙ all_at (λ s. s.rising) a.seats.items (k - 1) its.seat rose its.there))

-- the site is the next to rise
pub next_rises : (sc : Scenario) (h : List Entry) (a : Auditor) (k : ℕ) (seat : Seat) → Stands sc h a → a.lines ≡ 0 → 1 ≤ k → k ≤ length sc.weights →
    slice_get a.seats.items (k - 1) ≡ Some seat → seat.rising ≡ false → list_all (λ s. s.rising) (take (k - 1) a.seats.items) ≡ true →
    may_rise sc h k ≡ true
next_rises sc h a k seat was none some few there fresh lower = rw (zero, unrisen, before) refl
  where
    zero : lines h ≡ 0
    zero = was.lines_are ∙ none

    unrisen : has_rising h k ≡ false
    unrisen = rose_at sc h k seat zero (seat_at sc h a.seats.items k seat was.seats some there) ∙ fresh

    one : (s : ℕ) → 1 ≤ s → s ≤ length sc.weights → (b : Bool) → nat_lt s k ≡ b → (not (nat_lt s k) || has_rising h s) ≡ true
    one s first last true is =
        let less : s < k = ltb-true s k is in
        let count = was.count in
        let its : SeatOf sc h a.seats.items s = seat_of sc h a.seats.items s was.seats first (omega (arith, last, count)) in
        let low : slice_get (take (k - 1) a.seats.items) (s - 1) ≡ Some its.seat = get_take a.seats.items (k - 1) (s - 1) (omega (arith, less, first)) ∙ its.there in
        rw (is, rose_at sc h s its.seat zero its.stands, all_at (λ x. x.rising) (take (k - 1) a.seats.items) (s - 1) its.seat lower low) refl
    one s first last false is = rw is refl

    before : list_all (λ s. not (nat_lt s k) || has_rising h s) (all_sites sc) ≡ true
    before = all_to _ (length sc.weights) (λ s first last. one s first last (nat_lt s k) refl)
