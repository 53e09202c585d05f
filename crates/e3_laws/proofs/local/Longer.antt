-- A legal history is legal for every scenario with the same keys whose steps begin with those of its lines.
use Rattle.std.proofs.Common.{◌≡◌, ◌&&◌, ◌||◌, ◌+◌, ◌≤◌, inl, inr, ℕ, zero, suc, Bool, true, false, not, List, [], ◌∷◌, ◌++◌, append_assoc, ◌∙◌, ap, sym, subst, refl, length, Option, Some, None, count_by, nat_le, nat_lt, arith, fold, filter}
use Rattle.std.specs.Prelude.{slice_get, filter_map, is_none, Contains}
use Rattle.std.specs.List.{list_all}
use Rattle.std.proofs.lemmas.List.Sums.{sum_by-append}
use Rattle.e3_types.specs.declared.entries.Act.{Act}
use Rattle.e3_types.specs.declared.entries.Act.TheVariants.{Step, Fall, Rise, RiseFall, Miss, Cut, Drop, Parts, Line}
use Rattle.e3_types.specs.declared.entries.Entry.{Entry}
use Rattle.e3_types.specs.declared.entries.Input.{Input}
use Rattle.e3_types.specs.declared.entries.Input.TheVariants as input
use Rattle.e3_types.specs.declared.messages.Packet.{Packet}
use Rattle.e3_types.specs.declared.scenarios.Item.{Item}
use Rattle.e3_types.specs.declared.scenarios.Item.TheVariants as item
use Rattle.e3_types.specs.declared.scenarios.Scenario.{Scenario}
use Rattle.e3_world.specs.declared.names.Binding.{Binding}
use Rattle.e3_world.specs.Fate.{copies_of, fate_by}
use Rattle.e3_world.specs.Items.{AroundLine, binding_by, due_round, input_of, inputs_at, inputs_to, is_up_at, items_through, last_bound, plan_of, around_by, to_line, turn_of, txn_of}
use Rattle.e3_world.specs.Legal.{AreDue, Guard, IsDue, IsNextItem, IsRise, IsRising, LegalAfter, entry_of, first_pending, is_made, is_through, may_rise, parts_due}
use Rattle.e3_world.specs.Packets.{all_sites, fate_of, is_calm, is_line, left_after, lines, outs_of, parts_of, pending, present_items, taken}
use Rattle.e3_world.proofs.Guards.{lines_push}
use Rattle.e3_world.proofs.Lines.{lines_to}
use Rattle.e3_laws.specs.local.Longer.{BeginAlike, LegalForLonger, with_steps}

-- the number of a line is one of the first
abbrev low_act : ℕ → Act → Type 0
low_act n (Line k) = k ≤ n
low_act n act = Unit {0}

abbrev Low : ℕ → List Entry → Type 0
Low n [] = Unit {0}
Low n (e ∷ h) = low_act n e.act × Low n h

low_append : (n : ℕ) (xs ys : List Entry) → Low n xs → Low n ys → Low n (xs ++ ys)
low_append n [] ys a b = b
low_append n (x ∷ xs) ys a b = (a.0, low_append n xs ys a.1 b)

-- up to the last line
low_split : (n : ℕ) (w : AroundLine) (h : List Entry) → Low n w.to → Low n w.since → Low n h → Low n (fold around_by w h).to
low_split n w [] a b c = a
low_split n w (e ∷ h) a b c = by (is_line e) refl (λ v x y. low_split n v h x y c.1)
  where
    by : (l : Bool) → is_line e ≡ l → ((v : AroundLine) → Low n v.to → Low n v.since → Low n (fold around_by v h).to) → Low n (fold around_by (around_by w e) h).to
    by true is rest =
        let v : AroundLine = record { to = w.to ++ w.since ++ e ∷ []; since = [] } in
        let same : around_by w e ≡ v = rw is refl in
        let P : AroundLine → Type 0 = λ v. Low n (fold around_by v h).to in
        subst P (sym same) (rest v (low_append n (w.to ++ w.since) (e ∷ []) (low_append n w.to w.since a b) (c.0, tt)) tt)
    by false is rest =
        let v : AroundLine = record { to = w.to; since = w.since ++ e ∷ [] } in
        let same : around_by w e ≡ v = rw is refl in
        let P : AroundLine → Type 0 = λ v. Low n (fold around_by v h).to in
        subst P (sym same) (rest v a (low_append n w.since (e ∷ []) b (c.0, tt)))

low_to : (n : ℕ) (h : List Entry) → Low n h → Low n (to_line h)
low_to n h low = low_split n (record { to = []; since = [] }) h tt tt low

lines_append : (xs ys : List Entry) → lines (xs ++ ys) ≡ lines xs + lines ys
lines_append xs ys = sum_by-append _ xs ys

list_all_same : {X : Type 0} (p q : X → Bool) (xs : List X) → ((x : X) → p x ≡ q x) → list_all p xs ≡ list_all q xs
list_all_same p q [] same = refl
list_all_same p q (x ∷ xs) same = ap (λ b. b && list_all p xs) (same x) ∙ ap (λ b. q x && b) (list_all_same p q xs same)

filter_map_same : {X Y : Type 0} (f g : X → Option Y) (xs : List X) → ((x : X) → f x ≡ g x) → filter_map f xs ≡ filter_map g xs
filter_map_same {X = X} {Y = Y} f g [] same = refl
filter_map_same {X = X} {Y = Y} f g (x ∷ xs) same = by (f x) (g x) (same x) (filter_map_same f g xs same)
  where
    more : Option Y → List Y → List Y
    more None ys = ys
    more (Some y) ys = y ∷ ys

    head : (h : X → Option Y) → filter_map h (x ∷ xs) ≡ more (h x) (filter_map h xs)
    head h = one (h x) refl
      where
        one : (o : Option Y) → h x ≡ o → filter_map h (x ∷ xs) ≡ more (h x) (filter_map h xs)
        one None is = rw is refl
        one (Some y) is = rw is refl

    by : (a b : Option Y) → f x ≡ g x → filter_map f xs ≡ filter_map g xs → filter_map f (x ∷ xs) ≡ filter_map g (x ∷ xs)
    by a b is rest = head f ∙ ap (λ o. more o (filter_map f xs)) is ∙ ap (more (g x)) rest ∙ sym (head g)

module _ (sc : Scenario) (steps : List (List Item)) (n : ℕ) (alike : BeginAlike sc steps n) where
  abbrev longer : Scenario
  longer = with_steps sc steps

  present : (h : List Entry) → lines h ≤ n → present_items longer h ≡ present_items sc h
  present h few = alike.same (lines h) few

  bind_same : (w : Binding) (o : ℕ) (act : Act) → w.number ≤ n →
      binding_by longer w (record { owner = o; act = act }) ≡ binding_by sc w (record { owner = o; act = act })
  bind_same w o (Step (input.Begin sites) records outs events) low = rw (alike.same w.number low) refl
  bind_same w o (Step i records outs events) low = refl
  bind_same w o act low = refl

  bind_low : (w : Binding) (o : ℕ) (act : Act) → w.number ≤ n → low_act n act → (binding_by sc w (record { owner = o; act = act })).number ≤ n
  bind_low w o (Line k) low act = act
  bind_low w o (Step (input.Begin sites) records outs events) low act = low
  bind_low w o (Step i records outs events) low act = low
  bind_low w o a low act = low

  bound_same : (w : Binding) (h : List Entry) → w.number ≤ n → Low n h → fold (binding_by longer) w h ≡ fold (binding_by sc) w h
  bound_same w [] low all = refl
  bound_same w (e ∷ h) low all =
      ap (λ (v : Binding). fold (binding_by longer) v h) (bind_same w e.owner e.act low)
      ∙ bound_same (binding_by sc w e) h (bind_low w e.owner e.act low all.0) all.1

  txn_same : (h : List Entry) → Low n h → (name : List ℕ) → txn_of longer h name ≡ txn_of sc h name
  txn_same h all name = ap (λ (w : Binding). fold (last_bound name) None w.bound) (bound_same (record { number = 0; begun_at = []; bound = [] }) h (omega arith) all)

  input_same : (h : List Entry) → Low n h → (it : Item) → input_of longer h it ≡ input_of sc h it
  input_same h all (item.Read name key) = rw (txn_same h all name) refl
  input_same h all (item.Write name key val) = rw (txn_same h all name) refl
  input_same h all (item.Commit name) = rw (txn_same h all name) refl
  input_same h all (item.Cancel name) = rw (txn_same h all name) refl
  input_same h all (item.Expire site name) = rw (txn_same h all name) refl
  input_same h all (item.Elect site name sites) = rw (txn_same h all name) refl
  input_same h all it = refl

  plan_same : (h : List Entry) → Low n h → lines h ≤ n → plan_of longer h ≡ plan_of sc h
  plan_same h all few =
      let low : Low n (to_line h) = low_to n h all in
      let up : lines (to_line h) ≤ n = (let same = lines_to h in omega (arith, same, few)) in
      ap (filter_map (input_of longer (to_line h))) (present (to_line h) up)
      ∙ filter_map_same (input_of longer (to_line h)) (input_of sc (to_line h)) (present_items sc (to_line h)) (input_same (to_line h) low)

  asked_same : (h : List Entry) → Low n h → lines h ≤ n → (s : ℕ) → inputs_at longer h s ≡ inputs_at sc h s
  asked_same h all few s = ap (inputs_to s) (plan_same h all few)

  items_same : (h : List Entry) → Low n h → lines h ≤ n → items_through longer h ≡ items_through sc h
  items_same h all few =
      list_all_same _ _ (all_sites sc) (λ s. ap (λ (l : List Input). not (is_up_at h s) || nat_le (length l) (turn_of h s)) (asked_same h all few s))

  left_same : (all before rest : List Entry) → lines (before ++ rest) ≤ n → left_after longer all before rest ≡ left_after sc all before rest
  left_same all before [] few = refl
  left_same all before (e ∷ rest) few =
      ap (λ (items : List Item). filter (λ p. nat_lt (taken p.number all) (copies_of (fate_by (parts_of sc before) (is_calm items) sc.loss sc.repeat sc.luck p))) (outs_of e.act)
      ++ left_after longer all (before ++ e ∷ []) rest) (present before (omega (arith, sums, few)))
      ∙ ap (λ (l : List Packet). filter (λ p. nat_lt (taken p.number all) (copies_of (fate_of sc before p))) (outs_of e.act) ++ l)
      (left_same all (before ++ e ∷ []) rest (subst (λ (k : List Entry). lines k ≤ n) (sym (append_assoc before (e ∷ []) rest)) few))
    where
      sums : lines (before ++ e ∷ rest) ≡ lines before + lines (e ∷ rest)
      sums = lines_append before (e ∷ rest)

  pending_same : (h : List Entry) → lines h ≤ n → pending longer h ≡ pending sc h
  pending_same h few = left_same h [] h few

  round_same : (h : List Entry) → lines h ≤ n → due_round longer h ≡ due_round sc h
  round_same h few = rw (present h few) refl

  made_same : (h : List Entry) → Low n h → lines h ≤ n → (items : List Item) → present_items sc h ≡ items → is_made longer h ≡ is_made sc h
  made_same h all few [] is = (let a : is_made longer h ≡ items_through longer h = rw (present h few, is) refl in a) ∙ items_same h all few
      ∙ sym (let b : is_made sc h ≡ items_through sc h = rw is refl in b)
  made_same h all few (item.Recover group ∷ items) is = rw (present h few, is) (ap is_none (round_same h few))
  made_same h all few (item.Split parts ∷ items) is = rw (present h few, is) refl
  made_same h all few (item.Merge ∷ items) is = rw (present h few, is) refl
  made_same h all few (item.Crash site ∷ items) is = rw (present h few, is) refl
  made_same h all few (item.Restart site ∷ items) is = rw (present h few, is) refl
  made_same h all few (item.Stop site count leave ∷ items) is = rw (present h few, is) refl
  made_same h all few (it ∷ items) is = (let a : is_made longer h ≡ items_through longer h = rw (present h few, is) refl in a) ∙ items_same h all few
      ∙ sym (let b : is_made sc h ≡ items_through sc h = rw is refl in b)

  through_same : (h : List Entry) → Low n h → lines h ≤ n → is_through longer h ≡ is_through sc h
  through_same h all few = by (lines h) refl
    where
      by : (k : ℕ) → lines h ≡ k → is_through longer h ≡ is_through sc h
      by zero is = rw is refl
      by (suc k) is = rw (is, pending_same h few, made_same h all few (present_items sc h) refl) refl

  rise_same : (h : List Entry) → lines h ≤ n → (site : ℕ) → may_rise longer h site ≡ may_rise sc h site
  rise_same h few site = rw (present h few) refl

  -- what was due is due
  next_on : (h : List Entry) (site : ℕ) (i : Input) → Low n h → lines h ≤ n → IsNextItem sc h site i → IsNextItem longer h site i
  next_on h site i all few was = record { next = ap (λ (l : List Input). slice_get l (turn_of h site)) (asked_same h all few site) ∙ was.next; no_delivery = was.no_delivery }

  calm_on : (h : List Entry) → lines h ≤ n → is_calm (present_items longer h) ≡ true → is_calm (present_items sc h) ≡ true
  calm_on h few calm = sym (ap is_calm (present h few)) ∙ calm

  first_same : (h : List Entry) → lines h ≤ n → first_pending longer h ≡ first_pending sc h
  first_same h few = ap (λ (l : List Packet). slice_get l 0) (pending_same h few)

  due_on : (h : List Entry) (site : ℕ) (i : Input) → Low n h → lines h ≤ n → IsDue sc h site i → IsDue longer h site i
  due_on h site (input.Deliver packet) all few due = record {
    to = due.to;
    is_pending = (let P : List Packet → Type 0 = λ l. Contains l packet in subst P (sym (pending_same h few)) due.is_pending);
    behind_items = items_same h all few ∙ due.behind_items;
    in_order = λ calm. first_same h few ∙ due.in_order (calm_on h few calm);
  }
  due_on h site (input.Elect t group) all few (inl next) = inl (next_on h site (input.Elect t group) all few next)
  due_on h site (input.Elect t group) all few (inr due) = inr (record { due = round_same h few ∙ due.due; settled = pending_same h few ∙ due.settled })
  due_on h site (input.Begin sites) all few due = next_on h site (input.Begin sites) all few due
  due_on h site (input.Do t op) all few due = next_on h site (input.Do t op) all few due
  due_on h site (input.Commit t) all few due = next_on h site (input.Commit t) all few due
  due_on h site (input.Cancel t) all few due = next_on h site (input.Cancel t) all few due
  due_on h site (input.Expire t) all few due = next_on h site (input.Expire t) all few due

  all_due_on : (h : List Entry) (site : ℕ) (inputs : List Input) → Low n h → lines h ≤ n → AreDue sc h site inputs → AreDue longer h site inputs
  all_due_on h site [] all few due = tt
  all_due_on h site (i ∷ inputs) all few due = (
    due_on h site i all few due.0,
    all_due_on (h ++ entry_of sc h site i ∷ []) site inputs (low_append n h (entry_of sc h site i ∷ []) all (tt, tt))
        (let same = lines_push h (entry_of sc h site i) in omega (arith, same, few)) due.1,
  )

  rising_on : (h : List Entry) (site : ℕ) → lines h ≤ n → IsRising sc h site → IsRising longer h site
  rising_on h site few was = record { exists = was.exists; down = was.down; turn = rise_same h few site ∙ was.turn }

  rise_on : (h : List Entry) (site : ℕ) (kept : Bool) (inc : ℕ) → lines h ≤ n → IsRise sc h site kept inc → IsRise longer h site kept inc
  rise_on h site kept inc few was = record { rising = rising_on h site few was.rising; has_tail = was.has_tail; next = was.next }

  guard_on : (h : List Entry) (o : ℕ) (act : Act) → Low n h → lines (h ++ record { owner = o; act = act } ∷ []) ≤ n → lines h ≤ n →
      Guard sc h (record { owner = o; act = act }) → Guard longer h (record { owner = o; act = act })
  guard_on h zero (Line number) all next few was = record {
    next = was.next;
    exists = (let many = alike.many in let same = lines_push h (record { owner = zero; act = Line number }) in let is = was.next in omega (arith, many, same, is, next));
    through = through_same h all few ∙ was.through;
  }
  guard_on h zero (Parts parts) all next few was = record { behind_line = was.behind_line; due = ap (parts_due sc) (present h few) ∙ was.due }
  guard_on h zero (Drop number) all next few was = record {
    packet = was.packet;
    is_pending = (let P : List Packet → Type 0 = λ l. Contains l was.packet in subst P (sym (pending_same h few)) was.is_pending);
    is_its = was.is_its;
    down = was.down;
    in_order = λ calm. first_same h few ∙ was.in_order (calm_on h few calm);
  }
  guard_on h zero act all next few was = absurd was
  guard_on h (suc s) (Step i records outs events) all next few was = record { up = was.up; due = due_on h (suc s) i all few was.due; made = was.made }
  guard_on h (suc s) (Fall inputs records why) all next few was = record { up = was.up; due = all_due_on h (suc s) inputs all few was.due; some = was.some; made = was.made }
  guard_on h (suc s) Cut all next few was = record { up = was.up; crash = present h few ∙ was.crash }
  guard_on h (suc s) (Rise kept inc) all next few was = rise_on h (suc s) kept inc few was
  guard_on h (suc s) (RiseFall kept inc why) all next few was = rise_on h (suc s) kept inc few was
  guard_on h (suc s) Miss all next few was = rising_on h (suc s) few was
  guard_on h (suc s) act all next few was = absurd was

  -- a line that is allowed has a low number
  low_on : (h : List Entry) (o : ℕ) (act : Act) → lines (h ++ record { owner = o; act = act } ∷ []) ≤ n → Guard sc h (record { owner = o; act = act }) → low_act n act
  low_on h zero (Line number) next was = (let same = lines_push h (record { owner = zero; act = Line number }) in let is = was.next in omega (arith, same, is, next))
  low_on h (suc s) (Line number) next was = absurd was
  low_on h o act next was = tt

  after_on : (before h : List Entry) → Low n before → lines (before ++ h) ≤ n → LegalAfter sc before h → LegalAfter longer before h
  after_on before [] all few legal = tt
  after_on before (e ∷ h) all few legal = (
    guard_on before e.owner e.act all next (omega (arith, push, next)) legal.0,
    after_on (before ++ e ∷ []) h (low_append n before (e ∷ []) all (low_on before e.owner e.act next legal.0, tt)) few_on legal.1,
  )
    where
      few_on : lines ((before ++ e ∷ []) ++ h) ≤ n
      few_on = subst (λ (k : List Entry). lines k ≤ n) (sym (append_assoc before (e ∷ []) h)) few

      next : lines (before ++ e ∷ []) ≤ n
      next = (let sums = lines_append (before ++ e ∷ []) h in omega (arith, sums, few_on))

      push : lines (before ++ e ∷ []) ≡ lines before + count_by is_line (e ∷ [])
      push = lines_push before e

pub legal_for_longer : LegalForLonger
legal_for_longer sc steps h legal alike = after_on sc steps (lines h) alike [] h tt (let plain : lines h ≤ lines h = omega arith in plain) legal
