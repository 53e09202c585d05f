-- The items that a site took in the present step are the first of those that go to it.
use Rattle.std.proofs.Common.{◌≡◌, ◌==◌, ◌++◌, ◌∷◌, [], ℕ, zero, suc, Bool, true, false, not, List, Option, Some, None, refl, sym, subst, ap, ◌∙◌, inl, inr, ◌⊎◌, filter, take, count_by, arith, append-nil, eqb-true, nat_lt, ◌&&◌, ◌||◌}
use Rattle.std.specs.Prelude.{slice_get, filter_map}
use Rattle.std.specs.List.{flat_map, list_all, AllByRecursion as Each}
use Rattle.std.proofs.lemmas.Grind.{flat_map-append}
use Rattle.std.proofs.lemmas.Option.{same_Some}
use Rattle.std.proofs.lemmas.List.Elements.{filter-append}
use Rattle.std.proofs.lemmas.List.Sums.{sum_by-append}
use Rattle.e3_types.specs.declared.entries.Act.{Act}
use Rattle.e3_types.specs.declared.entries.Act.TheVariants.{Step}
use Rattle.e3_types.specs.declared.entries.Entry.{Entry}
use Rattle.e3_types.specs.declared.entries.Input.{Input}
use Rattle.e3_types.specs.declared.entries.Input.TheVariants as input
use Rattle.e3_types.specs.declared.scenarios.Item.{Item}
use Rattle.e3_types.specs.declared.scenarios.Item.TheVariants as item
use Rattle.e3_types.specs.declared.scenarios.Scenario.{Scenario}
use Rattle.e3_world.specs.Given.{IsGiven}
use Rattle.e3_world.specs.Items.{since_line, to_line, input_of, inputs_to, inputs_at, inputs_of, is_delivery, taken_at, turn_of, is_up_at, recover_group, due_round, RecoveryRound}
use Rattle.e3_world.specs.Legal.{IsDue, IsNextItem, may_rise, has_rising, entry_of}
use Rattle.e3_world.specs.Moves.{own_entries}
use Rattle.e3_world.specs.Packets.{is_line, lines, present_items, step_items, all_sites}
use Rattle.e3_world.specs.Progress.{up_behind}
use Rattle.e3_world.proofs.Readings.{split_push, since_push, own_same, own_other, taken_same, taken_other, up_same, up_other}
use Rattle.e3_world.proofs.Guards.{lines_push}
use Rattle.e3_world.proofs.Lines.{lines_to}
use Rattle.e3_laws.proofs.steps.Each.{each-push}
use Rattle.e3_laws.proofs.steps.Suits.Scenarios.{HasForm, form_given}
use Rattle.e3_laws.proofs.steps.Items.{inputs_push}

-- the input of a step
abbrev pub step_input : Act → List Input
step_input (Step i records outs events) = i ∷ []
step_input _ = []

-- the inputs of a site's steps behind the last line
abbrev pub steps_taken : List Entry → ℕ → List Input
steps_taken h s = flat_map (λ e. step_input e.act) (own_entries s (since_line h))

-- those among them that are items
abbrev pub items_taken : List Entry → ℕ → List Input
items_taken h s = filter (λ i. not (is_delivery i)) (steps_taken h s)

abbrev pub IsElect : Input → Type 0
IsElect (input.Elect t group) = Unit {0}
IsElect _ = ⊥

-- how far the sites are in the present step
pub record TookInTurn (sc : Scenario) (h : List Entry) : Type 0 where
  pub items : (s : ℕ) → is_up_at h s ≡ true → recover_group (present_items sc h) ≡ None → items_taken h s ≡ take (turn_of h s) (inputs_at sc h s)
  pub idle : (s : ℕ) → recover_group (present_items sc h) ≡ None → inputs_at sc h s ≡ [] → items_taken h s ≡ []
  pub rounds : (s : ℕ) (group : List ℕ) → recover_group (present_items sc h) ≡ Some group → Each IsElect (items_taken h s)

pub since_at_line : (h : List Entry) (e : Entry) → is_line e ≡ true → since_line (h ++ e ∷ []) ≡ []
since_at_line h e is = ap (λ w. w.since) (split_push h e) ∙ rw is refl

pub present_push : (sc : Scenario) (h : List Entry) (e : Entry) → is_line e ≡ false → present_items sc (h ++ e ∷ []) ≡ present_items sc h
present_push sc h e stays = ap (step_items sc) (lines_push h e ∙ rw stays (omega arith))

pub steps_same : (h : List Entry) (e : Entry) (s : ℕ) → is_line e ≡ false → (e.owner == s) ≡ true → steps_taken (h ++ e ∷ []) s ≡ steps_taken h s ++ step_input e.act
steps_same h e s stays is = rw (since_push h e stays, own_same s (since_line h) e is, flat_map-append, append-nil (step_input e.act)) refl

pub steps_other : (h : List Entry) (e : Entry) (s : ℕ) → is_line e ≡ false → (e.owner == s) ≡ false → steps_taken (h ++ e ∷ []) s ≡ steps_taken h s
steps_other h e s stays is = rw (since_push h e stays, own_other s (since_line h) e is) refl

pub items_same : (h : List Entry) (e : Entry) (s : ℕ) → is_line e ≡ false → (e.owner == s) ≡ true →
    items_taken (h ++ e ∷ []) s ≡ items_taken h s ++ filter (λ i. not (is_delivery i)) (step_input e.act)
items_same h e s stays is = ap (filter (λ i. not (is_delivery i))) (steps_same h e s stays is) ∙ filter-append _ (steps_taken h s) (step_input e.act)

pub items_other : (h : List Entry) (e : Entry) (s : ℕ) → is_line e ≡ false → (e.owner == s) ≡ false → items_taken (h ++ e ∷ []) s ≡ items_taken h s
items_other h e s stays is = ap (filter (λ i. not (is_delivery i))) (steps_other h e s stays is)

-- the present items are those that the line fixed
pub present_to : (sc : Scenario) (h : List Entry) → present_items sc (to_line h) ≡ present_items sc h
present_to sc h = ap (step_items sc) (lines_to h)

-- a step whose items are none of the group kind asks nothing of a site
abbrev pub AsksNone : List Item → Type 0
AsksNone items = (sc : Scenario) (h : List Entry) → filter_map (input_of sc h) items ≡ []

pub none_at : (sc : Scenario) (h : List Entry) (s : ℕ) → AsksNone (present_items sc h) → inputs_at sc h s ≡ []
none_at sc h s asks = ap (inputs_to s) (ap (filter_map (input_of sc (to_line h))) (present_to sc h) ∙ asks sc (to_line h))

pub recover_none : (items : List Item) (group : List ℕ) → HasForm items → recover_group items ≡ Some group → AsksNone items
recover_none (item.Recover sites ∷ []) group form is = λ sc h. refl
recover_none (item.Recover sites ∷ it ∷ items) group form is = absurd cc
recover_none [] group form is = absurd cc
recover_none (it ∷ items) group form is = absurd cc

pub restart_none : (items : List Item) (site : ℕ) → HasForm (item.Restart site ∷ items) → AsksNone (item.Restart site ∷ items)
restart_none [] site form = λ sc h. refl
restart_none (it ∷ items) site form = absurd cc

-- whether a site may rise where there are so many lines and these items
abbrev pub rises : Scenario → List Entry → ℕ → ℕ → List Item → Bool
rises sc h site zero items = not (has_rising h site) && list_all (λ s. not (nat_lt s site) || has_rising h s) (all_sites sc)
rises sc h site (suc n) (item.Restart s ∷ items) = s == site && not (has_rising (since_line h) site)
rises sc h site (suc n) items = false

restarts : (sc : Scenario) (h : List Entry) (s n : ℕ) (items : List Item) → HasForm items → rises sc h s (suc n) items ≡ true → AsksNone items
restarts sc h s n (item.Restart site ∷ items) form may = restart_none items site form
restarts sc h s n [] form may = λ k l. refl
restarts sc h s n (it ∷ items) form may = absurd cc

-- where a site may rise no item goes to a site
pub rising_none : (sc : Scenario) (h : List Entry) (s : ℕ) → IsGiven sc → may_rise sc h s ≡ true → AsksNone (present_items sc h)
rising_none sc h s given may = by (lines h) refl
  where
    by : (n : ℕ) → lines h ≡ n → AsksNone (present_items sc h)
    by zero is = let P : ℕ → Type 0 = λ n. AsksNone (step_items sc n) in subst P (sym is) (λ k l. refl)
    by (suc n) is = restarts sc h s n (present_items sc h) (form_given sc (lines h) given)
        (let P : ℕ → Type 0 = λ n. rises sc h s n (present_items sc h) ≡ true in subst P is may)

pub take_next : {X : Type 0} (xs : List X) (n : ℕ) (x : X) → slice_get xs n ≡ Some x → take (suc n) xs ≡ take n xs ++ x ∷ []
take_next [] n x is = absurd cc
take_next (y ∷ xs) zero x is = ap (λ z. z ∷ []) (same_Some y x is)
take_next (y ∷ xs) (suc n) x is = ap (λ l. y ∷ l) (take_next xs n x is)

take_nil : (n : ℕ) (xs : List Input) → xs ≡ [] → take n xs ≡ []
take_nil zero xs none = refl
take_nil (suc n) xs none = rw none refl

pub count_one : {X : Type 0} (p : X → Bool) (xs : List X) (x : X) → p x ≡ true → count_by p (xs ++ x ∷ []) ≡ suc (count_by p xs)
count_one p xs x is = sum_by-append _ xs (x ∷ []) ∙ (let one : count_by p (x ∷ []) ≡ 1 = rw is refl in omega (arith, one))

pub count_yes : {X : Type 0} (p : X → Bool) (x : X) (xs : List X) → p x ≡ true → count_by p (x ∷ xs) ≡ suc (count_by p xs)
count_yes p x xs is = sum_by-append _ (x ∷ []) xs ∙ (let one : count_by p (x ∷ []) ≡ 1 = rw is refl in omega (arith, one))

pub count_not : {X : Type 0} (p : X → Bool) (x : X) (xs : List X) → p x ≡ false → count_by p (x ∷ xs) ≡ count_by p xs
count_not p x xs is = sum_by-append _ (x ∷ []) xs ∙ (let one : count_by p (x ∷ []) ≡ 0 = rw is refl in omega (arith, one))

pub count_none : {X : Type 0} (p : X → Bool) (xs : List X) (x : X) → p x ≡ false → count_by p (xs ++ x ∷ []) ≡ count_by p xs
count_none p xs x is = sum_by-append _ xs (x ∷ []) ∙ (let one : count_by p (x ∷ []) ≡ 0 = rw is refl in omega (arith, one))

-- the turn of a site behind its own step
turn_item : (h : List Entry) (e : Entry) (s : ℕ) (i : Input) → is_line e ≡ false → (e.owner == s) ≡ true → inputs_of e.act ≡ i ∷ [] → is_delivery i ≡ false →
    turn_of (h ++ e ∷ []) s ≡ suc (turn_of h s)
turn_item h e s i stays is takes item =
    ap (count_by (λ i. not (is_delivery i))) (taken_same h e s stays is ∙ ap (λ l. taken_at h s ++ l) takes)
    ∙ count_one (λ i. not (is_delivery i)) (taken_at h s) i (rw item refl)

turn_delivery : (h : List Entry) (e : Entry) (s : ℕ) (i : Input) → is_line e ≡ false → (e.owner == s) ≡ true → inputs_of e.act ≡ i ∷ [] → is_delivery i ≡ true →
    turn_of (h ++ e ∷ []) s ≡ turn_of h s
turn_delivery h e s i stays is takes item =
    ap (count_by (λ i. not (is_delivery i))) (taken_same h e s stays is ∙ ap (λ l. taken_at h s ++ l) takes)
    ∙ count_none (λ i. not (is_delivery i)) (taken_at h s) i (rw item refl)

turn_other : (h : List Entry) (e : Entry) (s : ℕ) → is_line e ≡ false → (e.owner == s) ≡ false → turn_of (h ++ e ∷ []) s ≡ turn_of h s
turn_other h e s stays is = ap (count_by (λ i. not (is_delivery i))) (taken_other h e s stays is)

turn_quiet : (h : List Entry) (e : Entry) (s : ℕ) → is_line e ≡ false → (e.owner == s) ≡ true → inputs_of e.act ≡ [] → turn_of (h ++ e ∷ []) s ≡ turn_of h s
turn_quiet h e s stays is none =
    ap (count_by (λ i. not (is_delivery i))) (taken_same h e s stays is ∙ ap (λ l. taken_at h s ++ l) none ∙ append-nil (taken_at h s))

-- the first line: nothing was taken
pub at_line : (sc : Scenario) (h : List Entry) (e : Entry) → is_line e ≡ true → TookInTurn sc (h ++ e ∷ [])
at_line sc h e is = record {
  items = λ s up none. nothing s ∙ sym (ap (λ l. take (count_by (λ i. not (is_delivery i)) (flat_map (λ x. inputs_of x.act) (own_entries s l))) (inputs_at sc (h ++ e ∷ []) s)) (since_at_line h e is));
  idle = λ s none asks. nothing s;
  rounds = λ s group some. let P : List Input → Type 0 = Each IsElect in subst P (sym (nothing s)) tt;
}
  where
    nothing : (s : ℕ) → items_taken (h ++ e ∷ []) s ≡ []
    nothing s = ap (λ l. filter (λ i. not (is_delivery i)) (flat_map (λ x. step_input x.act) (own_entries s l))) (since_at_line h e is)

-- an entry that is no step: the sites that are up by it were up, or no item goes to them
pub quiet_turn : (sc : Scenario) (h : List Entry) (e : Entry) → TookInTurn sc h → is_line e ≡ false → step_input e.act ≡ [] →
    ((s : ℕ) → (e.owner == s) ≡ true → up_behind (is_up_at h s) e.act ≡ true → ((is_up_at h s ≡ true) × (inputs_of e.act ≡ [])) ⊎ AsksNone (present_items sc h)) →
    TookInTurn sc (h ++ e ∷ [])
quiet_turn sc h e took stays none rises_by = record {
  items = λ s up recovers. by s (e.owner == s) refl up (sym (ap recover_group (present_push sc h e stays)) ∙ recovers);
  idle = λ s recovers asks. same s ∙ took.idle s (sym (ap recover_group (present_push sc h e stays)) ∙ recovers) (sym (inputs_push sc h e s stays) ∙ asks);
  rounds = λ s group some. let P : List Input → Type 0 = Each IsElect in
      subst P (sym (same s)) (took.rounds s group (sym (ap recover_group (present_push sc h e stays)) ∙ some));
}
  where
    same : (s : ℕ) → items_taken (h ++ e ∷ []) s ≡ items_taken h s
    same s = by (e.owner == s) refl
      where
        by : (b : Bool) → (e.owner == s) ≡ b → items_taken (h ++ e ∷ []) s ≡ items_taken h s
        by true is = items_same h e s stays is ∙ ap (λ l. items_taken h s ++ filter (λ i. not (is_delivery i)) l) none ∙ append-nil (items_taken h s)
        by false is = items_other h e s stays is

    on : (s : ℕ) → turn_of (h ++ e ∷ []) s ≡ turn_of h s → is_up_at h s ≡ true → recover_group (present_items sc h) ≡ None →
        items_taken (h ++ e ∷ []) s ≡ take (turn_of (h ++ e ∷ []) s) (inputs_at sc (h ++ e ∷ []) s)
    on s turn up recovers = same s ∙ took.items s up recovers ∙ ap (λ n. take n (inputs_at sc h s)) (sym turn)
        ∙ ap (take (turn_of (h ++ e ∷ []) s)) (sym (inputs_push sc h e s stays))

    by : (s : ℕ) (b : Bool) → (e.owner == s) ≡ b → is_up_at (h ++ e ∷ []) s ≡ true → recover_group (present_items sc h) ≡ None →
        items_taken (h ++ e ∷ []) s ≡ take (turn_of (h ++ e ∷ []) s) (inputs_at sc (h ++ e ∷ []) s)
    by s false is up recovers = on s (turn_other h e s stays is) (sym (up_other h e s is) ∙ up) recovers
    by s true is up recovers = elim (rises_by s is (sym (up_same h e s is) ∙ up)) [
      | inl was ↦ on s (turn_quiet h e s stays is was.1) was.0 recovers
      | inr asks ↦ same s ∙ took.idle s recovers (none_at sc h s asks)
          ∙ sym (take_nil (turn_of (h ++ e ∷ []) s) (inputs_at sc (h ++ e ∷ []) s) (inputs_push sc h e s stays ∙ none_at sc h s asks))
    ]

module _ (sc : Scenario) (h : List Entry) (site : ℕ) (i : Input) (took : TookInTurn sc h) where
  entered : Entry
  entered = entry_of sc h site i

  others_items : (s : ℕ) → (site == s) ≡ false → is_up_at (h ++ entry_of sc h site i ∷ []) s ≡ true → recover_group (present_items sc (h ++ entry_of sc h site i ∷ [])) ≡ None →
      items_taken (h ++ entry_of sc h site i ∷ []) s ≡ take (turn_of (h ++ entry_of sc h site i ∷ []) s) (inputs_at sc (h ++ entry_of sc h site i ∷ []) s)
  others_items s is up recovers =
      items_other h (entry_of sc h site i) s refl is
      ∙ took.items s (sym (up_other h (entry_of sc h site i) s is) ∙ up) (sym (ap recover_group (present_push sc h (entry_of sc h site i) refl)) ∙ recovers)
      ∙ ap (λ n. take n (inputs_at sc h s)) (sym (turn_other h (entry_of sc h site i) s refl is))
      ∙ ap (take (turn_of (h ++ entry_of sc h site i ∷ []) s)) (sym (inputs_push sc h (entry_of sc h site i) s refl))

  others_idle : (s : ℕ) → (site == s) ≡ false → recover_group (present_items sc (h ++ entry_of sc h site i ∷ [])) ≡ None →
      inputs_at sc (h ++ entry_of sc h site i ∷ []) s ≡ [] → items_taken (h ++ entry_of sc h site i ∷ []) s ≡ []
  others_idle s is recovers asks =
      items_other h (entry_of sc h site i) s refl is
      ∙ took.idle s (sym (ap recover_group (present_push sc h (entry_of sc h site i) refl)) ∙ recovers) (sym (inputs_push sc h (entry_of sc h site i) s refl) ∙ asks)

  others_rounds : (s : ℕ) (group : List ℕ) → (site == s) ≡ false → recover_group (present_items sc (h ++ entry_of sc h site i ∷ [])) ≡ Some group →
      Each IsElect (items_taken (h ++ entry_of sc h site i ∷ []) s)
  others_rounds s group is some = let P : List Input → Type 0 = Each IsElect in
      subst P (sym (items_other h (entry_of sc h site i) s refl is)) (took.rounds s group (sym (ap recover_group (present_push sc h (entry_of sc h site i) refl)) ∙ some))

  -- a delivery takes no item
  delivery_turn : is_delivery i ≡ true → TookInTurn sc (h ++ entry_of sc h site i ∷ [])
  delivery_turn delivers = record {
    items = λ s up recovers. items s (site == s) refl up recovers;
    idle = λ s recovers asks. idle s (site == s) refl recovers asks;
    rounds = λ s group some. rounds s group (site == s) refl some;
  }
    where
      same : (s : ℕ) → (site == s) ≡ true → items_taken (h ++ entry_of sc h site i ∷ []) s ≡ items_taken h s
      same s is = items_same h (entry_of sc h site i) s refl is ∙ (let none : filter (λ i. not (is_delivery i)) (i ∷ []) ≡ [] = rw delivers refl in
          ap (λ l. items_taken h s ++ l) none ∙ append-nil (items_taken h s))

      items : (s : ℕ) (b : Bool) → (site == s) ≡ b → is_up_at (h ++ entry_of sc h site i ∷ []) s ≡ true → recover_group (present_items sc (h ++ entry_of sc h site i ∷ [])) ≡ None →
          items_taken (h ++ entry_of sc h site i ∷ []) s ≡ take (turn_of (h ++ entry_of sc h site i ∷ []) s) (inputs_at sc (h ++ entry_of sc h site i ∷ []) s)
      items s false is up recovers = others_items s is up recovers
      items s true is up recovers = same s is
          ∙ took.items s (sym (up_same h (entry_of sc h site i) s is) ∙ up) (sym (ap recover_group (present_push sc h (entry_of sc h site i) refl)) ∙ recovers)
          ∙ ap (λ n. take n (inputs_at sc h s)) (sym (turn_delivery h (entry_of sc h site i) s i refl is refl delivers))
          ∙ ap (take (turn_of (h ++ entry_of sc h site i ∷ []) s)) (sym (inputs_push sc h (entry_of sc h site i) s refl))

      idle : (s : ℕ) (b : Bool) → (site == s) ≡ b → recover_group (present_items sc (h ++ entry_of sc h site i ∷ [])) ≡ None →
          inputs_at sc (h ++ entry_of sc h site i ∷ []) s ≡ [] → items_taken (h ++ entry_of sc h site i ∷ []) s ≡ []
      idle s false is recovers asks = others_idle s is recovers asks
      idle s true is recovers asks = same s is
          ∙ took.idle s (sym (ap recover_group (present_push sc h (entry_of sc h site i) refl)) ∙ recovers) (sym (inputs_push sc h (entry_of sc h site i) s refl) ∙ asks)

      rounds : (s : ℕ) (group : List ℕ) (b : Bool) → (site == s) ≡ b → recover_group (present_items sc (h ++ entry_of sc h site i ∷ [])) ≡ Some group →
          Each IsElect (items_taken (h ++ entry_of sc h site i ∷ []) s)
      rounds s group false is some = others_rounds s group is some
      rounds s group true is some = let P : List Input → Type 0 = Each IsElect in
          subst P (sym (same s is)) (took.rounds s group (sym (ap recover_group (present_push sc h (entry_of sc h site i) refl)) ∙ some))

  -- an item that is the site's next
  item_turn : IsGiven sc → is_delivery i ≡ false → IsNextItem sc h site i → TookInTurn sc (h ++ entry_of sc h site i ∷ [])
  item_turn given item next = record {
    items = λ s up recovers. items s (site == s) refl up recovers;
    idle = λ s recovers asks. idle s (site == s) refl recovers asks;
    rounds = λ s group some. rounds s group (site == s) refl some;
  }
    where
      more : (s : ℕ) → (site == s) ≡ true → items_taken (h ++ entry_of sc h site i ∷ []) s ≡ items_taken h s ++ i ∷ []
      more s is = items_same h (entry_of sc h site i) s refl is ∙ (let one : filter (λ i. not (is_delivery i)) (i ∷ []) ≡ i ∷ [] = rw item refl in
          ap (λ l. items_taken h s ++ l) one)

      there : (s : ℕ) → (site == s) ≡ true → slice_get (inputs_at sc h s) (turn_of h s) ≡ Some i
      there s is = let P : ℕ → Type 0 = λ x. slice_get (inputs_at sc h x) (turn_of h x) ≡ Some i in subst P (eqb-true site s is) next.next

      none : (s : ℕ) → (site == s) ≡ true → inputs_at sc h s ≡ [] → ⊥
      none s is asks = absurd (let P : List Input → Type 0 = λ l. slice_get l (turn_of h s) ≡ Some i in let has : slice_get [] (turn_of h s) ≡ Some i = subst P asks (there s is) in cc)

      items : (s : ℕ) (b : Bool) → (site == s) ≡ b → is_up_at (h ++ entry_of sc h site i ∷ []) s ≡ true → recover_group (present_items sc (h ++ entry_of sc h site i ∷ [])) ≡ None →
          items_taken (h ++ entry_of sc h site i ∷ []) s ≡ take (turn_of (h ++ entry_of sc h site i ∷ []) s) (inputs_at sc (h ++ entry_of sc h site i ∷ []) s)
      items s false is up recovers = others_items s is up recovers
      items s true is up recovers = more s is
          ∙ ap (λ l. l ++ i ∷ []) (took.items s (sym (up_same h (entry_of sc h site i) s is) ∙ up) (sym (ap recover_group (present_push sc h (entry_of sc h site i) refl)) ∙ recovers))
          ∙ sym (take_next (inputs_at sc h s) (turn_of h s) i (there s is))
          ∙ ap (λ n. take n (inputs_at sc h s)) (sym (turn_item h (entry_of sc h site i) s i refl is refl item))
          ∙ ap (take (turn_of (h ++ entry_of sc h site i ∷ []) s)) (sym (inputs_push sc h (entry_of sc h site i) s refl))

      idle : (s : ℕ) (b : Bool) → (site == s) ≡ b → recover_group (present_items sc (h ++ entry_of sc h site i ∷ [])) ≡ None →
          inputs_at sc (h ++ entry_of sc h site i ∷ []) s ≡ [] → items_taken (h ++ entry_of sc h site i ∷ []) s ≡ []
      idle s false is recovers asks = others_idle s is recovers asks
      idle s true is recovers asks = absurd (none s is (sym (inputs_push sc h (entry_of sc h site i) s refl) ∙ asks))

      rounds : (s : ℕ) (group : List ℕ) (b : Bool) → (site == s) ≡ b → recover_group (present_items sc (h ++ entry_of sc h site i ∷ [])) ≡ Some group →
          Each IsElect (items_taken (h ++ entry_of sc h site i ∷ []) s)
      rounds s group false is some = others_rounds s group is some
      rounds s group true is some = absurd (none s is (none_at sc h s (recover_none (present_items sc h) group (form_given sc (lines h) given)
          (sym (ap recover_group (present_push sc h (entry_of sc h site i) refl)) ∙ some))))

  -- an election of a recovery round
  round_turn : IsElect i → is_delivery i ≡ false → (group : List ℕ) → recover_group (present_items sc h) ≡ Some group → TookInTurn sc (h ++ entry_of sc h site i ∷ [])
  round_turn elects item group recover = record {
    items = λ s up recovers. clash (sym (ap recover_group (present_push sc h (entry_of sc h site i) refl)) ∙ recovers);
    idle = λ s recovers asks. clash (sym (ap recover_group (present_push sc h (entry_of sc h site i) refl)) ∙ recovers);
    rounds = λ s other some. by s (site == s) refl;
  }
    where
      clash : {P : Type 0} → recover_group (present_items sc h) ≡ None → P
      clash recovers = absurd (let both : None ≡ Some group = sym recovers ∙ recover in cc)

      by : (s : ℕ) (b : Bool) → (site == s) ≡ b → Each IsElect (items_taken (h ++ entry_of sc h site i ∷ []) s)
      by s false is = others_rounds s group is (ap recover_group (present_push sc h (entry_of sc h site i) refl) ∙ recover)
      by s true is = let P : List Input → Type 0 = Each IsElect in
          subst P (sym (items_same h (entry_of sc h site i) s refl is ∙ (let one : filter (λ i. not (is_delivery i)) (i ∷ []) ≡ i ∷ [] = rw item refl in ap (λ l. items_taken h s ++ l) one)))
          (each-push IsElect (items_taken h s) i (took.rounds s group recover) elects)

-- a round is due in a recover step alone
pub due_recovers : (sc : Scenario) (h : List Entry) (r : RecoveryRound) → due_round sc h ≡ Some r → (group : List ℕ) × (recover_group (present_items sc h) ≡ Some group)
due_recovers sc h r due = by (recover_group (present_items sc h)) refl
  where
    by : (o : Option (List ℕ)) → recover_group (present_items sc h) ≡ o → (group : List ℕ) × (recover_group (present_items sc h) ≡ Some group)
    by None is = absurd (let none : due_round sc h ≡ None = rw is refl in let both : None ≡ Some r = sym none ∙ due in cc)
    by (Some group) is = (group, is)

pub step_turn : (sc : Scenario) (h : List Entry) (site : ℕ) (i : Input) → IsGiven sc → TookInTurn sc h → IsDue sc h site i → TookInTurn sc (h ++ entry_of sc h site i ∷ [])
step_turn sc h site (input.Deliver p) given took due = delivery_turn sc h site (input.Deliver p) took refl
step_turn sc h site (input.Elect t group) given took (inl next) = item_turn sc h site (input.Elect t group) took given refl next
step_turn sc h site (input.Elect t group) given took (inr round) =
    let some : _ = due_recovers sc h (record { txn = t; members = group; elector = site }) round.due in
    round_turn sc h site (input.Elect t group) took tt refl some.0 some.1
step_turn sc h site i given took due = item_turn sc h site i took given refl due
