-- Items of a group, in turn.
use Rattle.std.proofs.Common.{◌≡◌, ◌==◌, ◌||◌, ◌+◌, ℕ, Bool, true, false, not, List, [], ◌∷◌, ◌++◌, append-nil, ◌∙◌, ap, sym, refl, length, Some, count_by, nat_le, arith, eqb-true, eq-eqb, le-leb, ◌≤◌}
use Rattle.std.specs.Prelude.{slice_get, filter_map}
use Rattle.std.specs.List.{list_any, list_all}
use Rattle.std.proofs.lemmas.List.{map-append, length-append}
use Rattle.std.proofs.lemmas.List.Elements.{filter-append}
use Rattle.std.proofs.lemmas.List.Folds.{list_any-append}
use Rattle.std.proofs.lemmas.List.Sums.{sum_by-append}
use Rattle.e3_types.specs.declared.entries.Act.TheVariants.{Step, Fall}
use Rattle.e3_types.specs.declared.entries.Entry.{Entry}
use Rattle.e3_types.specs.declared.entries.Input.{Input}
use Rattle.e3_types.specs.declared.messages.Packet.{Packet}
use Rattle.e3_types.specs.declared.records.Record.{Record}
use Rattle.e3_types.specs.declared.scenarios.Scenario.{Scenario}
use Rattle.e3_types.specs.declared.entries.Told.{Told}
use Rattle.e3_types.specs.declared.entries.Why.{Why}
use Rattle.e3_world.specs.Items.{input_of, inputs_of, is_delivery, taken_at, turn_of, is_up_at, items_through, inputs_at}
use Rattle.e3_world.specs.declared.names.Addressed.{Addressed}
use Rattle.e3_world.specs.Legal.{IsNextItem}
use Rattle.e3_world.specs.Packets.{is_line, present_items, all_sites}
use Rattle.e3_world.specs.Progress.{AtPlan, Through, NeverRises}
use Rattle.e3_world.specs.Items.{plan_of, inputs_to}
use Rattle.e3_world.proofs.Readings.{to_push, taken_same, taken_other, up_same, up_other}

pub true_not_false : true ≡ false → ⊥
true_not_false is = cc

count_push : {X : Type 0} (p : X → Bool) (xs ys : List X) → count_by p (xs ++ ys) ≡ count_by p xs + count_by p ys
count_push p xs ys = sum_by-append _ xs ys

pub self : (n : ℕ) → (n == n) ≡ true
self n = eq-eqb n n refl

get_at_end : {X : Type 0} (xs : List X) (x : X) (ys : List X) → slice_get (xs ++ x ∷ ys) (length xs) ≡ Some x
get_at_end [] x ys = refl
get_at_end (y ∷ xs) x ys = get_at_end xs x ys

pub plan_push : (sc : Scenario) (h : List Entry) (e : Entry) → is_line e ≡ false → plan_of sc (h ++ e ∷ []) ≡ plan_of sc h
plan_push sc h e stays = ap (λ to. filter_map (input_of sc to) (present_items sc to)) (to_push h e stays)

pub inputs_append : (s : ℕ) (xs ys : List Addressed) → inputs_to s (xs ++ ys) ≡ inputs_to s xs ++ inputs_to s ys
inputs_append s xs ys = rw (filter-append, map-append) refl

inputs_same : (s : ℕ) (a : Addressed) (rest : List Addressed) → (a.site == s) ≡ true → inputs_to s (a ∷ rest) ≡ a.input ∷ inputs_to s rest
inputs_same s a rest is = rw is refl

inputs_other : (s : ℕ) (a : Addressed) (rest : List Addressed) → (a.site == s) ≡ false → inputs_to s (a ∷ rest) ≡ inputs_to s rest
inputs_other s a rest is = rw is refl

-- the next item of the plan is its site's next
pub item_due : (sc : Scenario) (h : List Entry) (front rest : List Addressed) (a : Addressed) → AtPlan sc h (front ++ a ∷ rest) front →
    is_up_at h a.site ≡ true → IsNextItem sc h a.site a.input
item_due sc h front rest a at up = record {
  next = rw (at.is_plan, at.turns a.site up, inputs_append a.site front (a ∷ rest), inputs_same a.site a rest (self a.site))
      (get_at_end (inputs_to a.site front) a.input (inputs_to a.site rest));
  no_delivery = at.fresh a.site;
}

-- an item of a site that is down is passed over
pub pass_down : (sc : Scenario) (h : List Entry) (plan front : List Addressed) (a : Addressed) → AtPlan sc h plan front →
    is_up_at h a.site ≡ false → AtPlan sc h plan (front ++ a ∷ [])
pass_down sc h plan front a at down = record {
  is_plan = at.is_plan;
  turns = λ s up. turn s up (a.site == s) refl;
  fresh = at.fresh;
}
  where
    turn : (s : ℕ) → is_up_at h s ≡ true → (b : Bool) → (a.site == s) ≡ b → turn_of h s ≡ length (inputs_to s (front ++ a ∷ []))
    turn s up true is = absurd (let down_s : is_up_at h s ≡ false = ap (is_up_at h) (sym (eqb-true a.site s is)) ∙ down in true_not_false (sym up ∙ down_s))
    turn s up false is = rw (inputs_append s front (a ∷ []), inputs_other s a [] is, append-nil (inputs_to s front)) (at.turns s up)

-- whether an input counts as an item
abbrev counts : Input → Bool
counts i = not (is_delivery i)

-- a site took its item
pub step_on : (sc : Scenario) (h : List Entry) (plan front : List Addressed) (a : Addressed) (records : List Record) (outs : List Packet) (events : List Told) →
    AtPlan sc h plan front → is_delivery a.input ≡ false →
    AtPlan sc (h ++ record { owner = a.site; act = Step a.input records outs events } ∷ []) plan (front ++ a ∷ [])
step_on sc h plan front a records outs events at item = record {
  is_plan = plan_push sc h e refl ∙ at.is_plan;
  turns = λ s up. turn s (a.site == s) refl up;
  fresh = λ s. fresh s (a.site == s) refl;
}
  where
    e : Entry
    e = record { owner = a.site; act = Step a.input records outs events }

    turn : (s : ℕ) (b : Bool) → (a.site == s) ≡ b → is_up_at (h ++ e ∷ []) s ≡ true →
        turn_of (h ++ e ∷ []) s ≡ length (inputs_to s (front ++ a ∷ []))
    turn s true is up =
        let was : turn_of h s ≡ length (inputs_to s front) = at.turns s (sym (up_same h e s is) ∙ up) in
        let one : count_by counts (a.input ∷ []) ≡ 1 = rw item refl in
        let now : turn_of (h ++ e ∷ []) s ≡ turn_of h s + count_by counts (a.input ∷ []) =
        ap (count_by counts) (taken_same h e s refl is) ∙ count_push counts (taken_at h s) (a.input ∷ []) in
        let items : length (inputs_to s (front ++ a ∷ [])) ≡ length (inputs_to s front) + 1 =
        rw (inputs_append s front (a ∷ []), inputs_same s a [] is, length-append) refl in
        omega (arith, was, one, now, items)
    turn s false is up =
        ap (count_by counts) (taken_other h e s refl is) ∙ at.turns s (sym (up_other h e s is) ∙ up)
        ∙ rw (inputs_append s front (a ∷ []), inputs_other s a [] is, append-nil (inputs_to s front)) refl

    fresh : (s : ℕ) (b : Bool) → (a.site == s) ≡ b → list_any is_delivery (taken_at (h ++ e ∷ []) s) ≡ false
    fresh s true is = rw (taken_same h e s refl is, list_any-append, at.fresh s, item) refl
    fresh s false is = rw (taken_other h e s refl is) (at.fresh s)

-- a site fell over its item
pub fall_on : (sc : Scenario) (h : List Entry) (plan front : List Addressed) (a : Addressed) (records : List Record) (why : Why) →
    AtPlan sc h plan front → is_delivery a.input ≡ false →
    AtPlan sc (h ++ record { owner = a.site; act = Fall (a.input ∷ []) records why } ∷ []) plan (front ++ a ∷ [])
fall_on sc h plan front a records why at item = record {
  is_plan = plan_push sc h e refl ∙ at.is_plan;
  turns = λ s up. turn s (a.site == s) refl up;
  fresh = λ s. fresh s (a.site == s) refl;
}
  where
    e : Entry
    e = record { owner = a.site; act = Fall (a.input ∷ []) records why }

    turn : (s : ℕ) (b : Bool) → (a.site == s) ≡ b → is_up_at (h ++ e ∷ []) s ≡ true →
        turn_of (h ++ e ∷ []) s ≡ length (inputs_to s (front ++ a ∷ []))
    turn s true is up = absurd (true_not_false (sym up ∙ up_same h e s is))
    turn s false is up =
        ap (count_by counts) (taken_other h e s refl is) ∙ at.turns s (sym (up_other h e s is) ∙ up)
        ∙ rw (inputs_append s front (a ∷ []), inputs_other s a [] is, append-nil (inputs_to s front)) refl

    fresh : (s : ℕ) (b : Bool) → (a.site == s) ≡ b → list_any is_delivery (taken_at (h ++ e ∷ []) s) ≡ false
    fresh s true is = rw (taken_same h e s refl is, list_any-append, at.fresh s, item) refl
    fresh s false is = rw (taken_other h e s refl is) (at.fresh s)

pub all_true : {X : Type 0} (p : X → Bool) (xs : List X) → ((x : X) → p x ≡ true) → list_all p xs ≡ true
all_true p [] each = refl
all_true p (x ∷ xs) each = rw (each x) (all_true p xs each)

-- the whole plan is done
pub all_done : (sc : Scenario) (h : List Entry) (plan : List Addressed) → AtPlan sc h plan plan → Through sc h
all_done sc h plan at s up =
    let took : turn_of h s ≡ length (inputs_to s plan) = at.turns s up in
    let asked : length (inputs_at sc h s) ≡ length (inputs_to s plan) = ap (λ l. length (inputs_to s l)) at.is_plan in
    omega (arith, took, asked)

pub through : (sc : Scenario) (h : List Entry) → Through sc h → items_through sc h ≡ true
through sc h all = all_true _ (all_sites sc) (λ s. one s (is_up_at h s) refl)
  where
    one : (s : ℕ) (b : Bool) → is_up_at h s ≡ b → (not (is_up_at h s) || nat_le (length (inputs_at sc h s)) (turn_of h s)) ≡ true
    one s true up = rw up (le-leb _ _ (all s up))
    one s false down = rw down refl

-- what comes later in the step leaves it so
pub through_push : (sc : Scenario) (h : List Entry) (e : Entry) → is_line e ≡ false → NeverRises e.act → Through sc h → Through sc (h ++ e ∷ [])
through_push sc h e stays never all s up = by (e.owner == s) refl
  where
    asked : length (inputs_at sc (h ++ e ∷ []) s) ≡ length (inputs_at sc h s)
    asked = ap (λ l. length (inputs_to s l)) (plan_push sc h e stays)

    by : (b : Bool) → (e.owner == s) ≡ b → length (inputs_at sc (h ++ e ∷ []) s) ≤ turn_of (h ++ e ∷ []) s
    by true is =
        let was : length (inputs_at sc h s) ≤ turn_of h s = all s (never (is_up_at h s) (sym (up_same h e s is) ∙ up)) in
        let now : turn_of (h ++ e ∷ []) s ≡ turn_of h s + count_by counts (inputs_of e.act) =
        ap (count_by counts) (taken_same h e s stays is) ∙ count_push counts (taken_at h s) (inputs_of e.act) in
        omega (arith, was, now, asked)
    by false is =
        let was : length (inputs_at sc h s) ≤ turn_of h s = all s (sym (up_other h e s is) ∙ up) in
        let now : turn_of (h ++ e ∷ []) s ≡ turn_of h s = ap (count_by counts) (taken_other h e s stays is) in
        omega (arith, was, now, asked)
