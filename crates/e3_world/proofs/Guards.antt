-- The guards of the driver's entries.
use Rattle.std.proofs.Common.{◌≡◌, ◌==◌, ◌+◌, ◌≤◌, inl, ℕ, zero, suc, Bool, true, false, not, List, [], ◌∷◌, ◌++◌, append-nil, append_assoc, ◌∙◌, ap, sym, subst, refl, fold, length, Option, Some, None, count_by, arith, eqb-true, Result, Ok, Err, OnOk, get_or, ◌<◌}
use Rattle.std.specs.Prelude.{take, drop, slice_get, filter_map, option_map, Contains}
use Rattle.std.specs.List.{list_any, list_all, flat_map}
use Rattle.std.proofs.lemmas.List.Elements.{filter_map-append}
use Rattle.std.proofs.lemmas.List.Sums.{sum_by-append}
use Rattle.e3_types.specs.declared.entries.Act.{Act}
use Rattle.e3_types.specs.declared.entries.Act.TheVariants.{Step, Fall, Rise, RiseFall, Miss, Cut, Drop, Parts, Line}
use Rattle.e3_types.specs.declared.entries.Entry.{Entry}
use Rattle.e3_types.specs.declared.entries.Input.{Input}
use Rattle.e3_types.specs.declared.entries.Input.TheVariants as input
use Rattle.e3_types.specs.declared.scenarios.Item.{Item}
use Rattle.e3_types.specs.declared.scenarios.Item.TheVariants as item
use Rattle.e3_types.specs.declared.messages.Packet.{Packet}
use Rattle.e3_types.specs.declared.scenarios.Scenario.{Scenario}
use Rattle.e3_types.specs.declared.transactions.Txn.{Txn}
use Rattle.e3_world.specs.Given.{is_groupable}
use Rattle.e3_world.specs.Items.{input_of, txn_of, since_line, to_line, inputs_of, is_delivery, is_up_at, items_through}
use Rattle.e3_world.specs.declared.names.Addressed.{Addressed}
use Rattle.e3_world.specs.Legal.{IsLegal, LegalAfter, Guard, IsNextItem, IsDue, entry_of, is_made, is_through}
use Rattle.e3_world.specs.Moves.{own_entries}
use Rattle.e3_world.specs.Packets.{is_line, lines, present_items, pending}
use Rattle.e3_world.proofs.Pushes.{legal_push}
use Rattle.e3_world.specs.Progress.{AtPlan, up_behind, Delivering, ItemDone, ItemsDone, after_item, after_first}
use Rattle.e3_world.specs.Items.{plan_of}
use Rattle.e3_world.proofs.Readings.{split_push, to_push}
use Rattle.e3_world.proofs.Turns.{true_not_false, item_due, step_on, pass_down, all_done, through, through_push}

-- an input that is no delivery is due when it is its site's next item
pub due : (sc : Scenario) (h : List Entry) (site : ℕ) (i : Input) → is_delivery i ≡ false → IsNextItem sc h site i → IsDue sc h site i
due sc h site (input.Begin sites) is next = next
due sc h site (input.Do t op) is next = next
due sc h site (input.Commit t) is next = next
due sc h site (input.Cancel t) is next = next
due sc h site (input.Expire t) is next = next
due sc h site (input.Elect t group) is next = inl next
due sc h site (input.Deliver packet) is next = absurd cc

some_no : (f : Txn → Addressed) (a : Addressed) → ((t : Txn) → is_delivery (f t).input ≡ false) → (o : Option Txn) →
    option_map f o ≡ Some a → is_delivery a.input ≡ false
some_no f a each None is = absurd cc
some_no f a each (Some t) is = let same : f t ≡ a = cc in ap (λ b. is_delivery b.input) (sym same) ∙ each t

-- an item is no delivery
pub item_no : (sc : Scenario) (h : List Entry) (it : Item) (a : Addressed) → input_of sc h it ≡ Some a → is_delivery a.input ≡ false
item_no sc h (item.Begin name site sites) a is =
    let same : record { site = site; input = input.Begin sites } ≡ a = cc in ap (λ b. is_delivery b.input) (sym same)
item_no sc h (item.Read name key) a is = some_no _ a (λ t. refl) (txn_of sc h name) is
item_no sc h (item.Write name key val) a is = some_no _ a (λ t. refl) (txn_of sc h name) is
item_no sc h (item.Commit name) a is = some_no _ a (λ t. refl) (txn_of sc h name) is
item_no sc h (item.Cancel name) a is = some_no _ a (λ t. refl) (txn_of sc h name) is
item_no sc h (item.Expire site name) a is = some_no _ a (λ t. refl) (txn_of sc h name) is
item_no sc h (item.Elect site name sites) a is = some_no _ a (λ t. refl) (txn_of sc h name) is
item_no sc h (item.Recover sites) a is = absurd cc
item_no sc h (item.Split parts) a is = absurd cc
item_no sc h item.Merge a is = absurd cc
item_no sc h (item.Crash site) a is = absurd cc
item_no sc h (item.Restart site) a is = absurd cc
item_no sc h (item.Stop site count leave) a is = absurd cc

-- a step's guard, whatever the site's number
pub guard_step : (sc : Scenario) (h : List Entry) (site : ℕ) (i : Input) → 1 ≤ site → is_up_at h site ≡ true → IsDue sc h site i →
    Guard sc h (entry_of sc h site i)
guard_step sc h zero i some up is = absurd (omega (arith, some))
guard_step sc h (suc s) i some up is = record { up = up; due = is; made = refl }

pub take_item : (sc : Scenario) (h : List Entry) (front rest : List Addressed) (a : Addressed) → ItemDone sc h (front ++ a ∷ rest) front →
    1 ≤ a.site → is_up_at h a.site ≡ true → is_delivery a.input ≡ false →
    ItemDone sc (h ++ entry_of sc h a.site a.input ∷ []) (front ++ a ∷ rest) (front ++ a ∷ [])
take_item sc h front rest a was some up is = record {
  legal = legal_push sc h _ was.legal (guard_step sc h a.site a.input some up (due sc h a.site a.input is (item_due sc h front rest a was.at_plan up)));
  at_plan = step_on sc h (front ++ a ∷ rest) front a _ _ _ was.at_plan is;
}

-- a step begins
pub at_line : (sc : Scenario) (h : List Entry) (e : Entry) → is_line e ≡ true → AtPlan sc (h ++ e ∷ []) (plan_of sc (h ++ e ∷ [])) []
at_line sc h e line = record {
  is_plan = refl;
  turns = λ s up. ap (λ since. count_by (λ i. not (is_delivery i)) (flat_map (λ e. inputs_of e.act) (own_entries s since))) none;
  fresh = λ s. ap (λ since. list_any is_delivery (flat_map (λ e. inputs_of e.act) (own_entries s since))) none;
}
  where
    none : since_line (h ++ e ∷ []) ≡ []
    none = ap (λ w. w.since) (split_push h e) ∙ rw line refl

-- by items: what is bound is one further in the plan, what is not is nothing in it
pub item_some : (f : Item → Option Addressed) (before more : List Item) (it : Item) (a : Addressed) → f it ≡ Some a →
    filter_map f (before ++ it ∷ more) ≡ filter_map f before ++ a ∷ filter_map f more
item_some f before more it a is = rw (filter_map-append, is) refl

pub item_none : (f : Item → Option Addressed) (before : List Item) (it : Item) → f it ≡ None →
    filter_map f (before ++ it ∷ []) ≡ filter_map f before
item_none f before it is = rw (filter_map-append, is) (append-nil (filter_map f before))

pub to_deliveries : (sc : Scenario) (h : List Entry) (plan : List Addressed) → ItemDone sc h plan plan → Delivering sc h
to_deliveries sc h plan was = record { legal = was.legal; done = all_done sc h plan was.at_plan }

first_of : (ps qs : List Packet) (p : Packet) → ps ≡ p ∷ qs → Contains ps p
first_of ps qs p is = let P : List Packet → Type 0 = λ l. Contains l p in subst P (sym is) (0, omega arith, refl)

pub deliver : (sc : Scenario) (h : List Entry) (p : Packet) (ps : List Packet) → Delivering sc h → pending sc h ≡ p ∷ ps →
    1 ≤ p.to → is_up_at h p.to ≡ true → Delivering sc (h ++ entry_of sc h p.to (input.Deliver p) ∷ [])
deliver sc h p ps was waits some up = record {
  legal = legal_push sc h _ was.legal (guard_step sc h p.to (input.Deliver p) some up (record {
    to = refl;
    is_pending = first_of (pending sc h) ps p waits;
    behind_items = through sc h was.done;
    in_order = λ calm. rw waits refl;
  }));
  done = through_push sc h _ refl (λ b is. is) was.done;
}

pub drop_packet : (sc : Scenario) (h : List Entry) (p : Packet) (ps : List Packet) → Delivering sc h → pending sc h ≡ p ∷ ps →
    is_up_at h p.to ≡ false → Delivering sc (h ++ record { owner = 0; act = Drop p.number } ∷ [])
drop_packet sc h p ps was waits down = record {
  legal = legal_push sc h _ was.legal (record {
    packet = p;
    is_pending = first_of (pending sc h) ps p waits;
    is_its = refl;
    down = down;
    in_order = λ calm. rw waits refl;
  });
  done = through_push sc h _ refl (λ b is. is) was.done;
}

-- the item of a group step is made when its items are through
pub made_group : (sc : Scenario) (h : List Entry) (items : List Item) → present_items sc h ≡ items → list_all is_groupable items ≡ true →
    items_through sc h ≡ true → is_made sc h ≡ true
made_group sc h [] is group all = rw is all
made_group sc h (item.Begin name site sites ∷ items) is group all = rw is all
made_group sc h (item.Read name key ∷ items) is group all = rw is all
made_group sc h (item.Write name key val ∷ items) is group all = rw is all
made_group sc h (item.Commit name ∷ items) is group all = rw is all
made_group sc h (item.Cancel name ∷ items) is group all = rw is all
made_group sc h (item.Expire site name ∷ items) is group all = rw is all
made_group sc h (item.Elect site name sites ∷ items) is group all = rw is all
made_group sc h (item.Recover sites ∷ items) is group all = absurd cc
made_group sc h (item.Split parts ∷ items) is group all = absurd cc
made_group sc h (item.Merge ∷ items) is group all = absurd cc
made_group sc h (item.Crash site ∷ items) is group all = absurd cc
made_group sc h (item.Restart site ∷ items) is group all = absurd cc
made_group sc h (item.Stop site count leave ∷ items) is group all = absurd cc

-- nothing is pending and the item is made: all before the next line is through
pub step_through : (sc : Scenario) (h : List Entry) (n : ℕ) → lines h ≡ suc n → pending sc h ≡ [] → is_made sc h ≡ true → is_through sc h ≡ true
step_through sc h n line none made = rw (line, none, made) refl

pub next_line : (sc : Scenario) (h : List Entry) (k : ℕ) → IsLegal sc h → lines h ≡ k → suc k ≤ length sc.steps → is_through sc h ≡ true →
    IsLegal sc (h ++ record { owner = 0; act = Line (suc k) } ∷ [])
next_line sc h k legal line some all = legal_push sc h _ legal (record { next = ap suc (sym line); exists = some; through = all })

pub lines_push : (h : List Entry) (e : Entry) → lines (h ++ e ∷ []) ≡ lines h + count_by is_line (e ∷ [])
lines_push h e = sum_by-append _ h (e ∷ [])

behind_first : (ps : List Packet) (p : Packet) → slice_get ps 0 ≡ Some p → (qs : List Packet) × (ps ≡ p ∷ qs)
behind_first [] p is = absurd cc
behind_first (q ∷ qs) p is = (qs, let same : q ≡ p = cc in ap (λ x. x ∷ qs) same)

pub deliver_first : (sc : Scenario) (h : List Entry) (p : Packet) → Delivering sc h → slice_get (pending sc h) 0 ≡ Some p →
    1 ≤ p.to → is_up_at h p.to ≡ true → Delivering sc (h ++ entry_of sc h p.to (input.Deliver p) ∷ [])
deliver_first sc h p was first some up =
    let behind : (qs : List Packet) × (pending sc h ≡ p ∷ qs) = behind_first (pending sc h) p first in
    deliver sc h p behind.0 was behind.1 some up

pub drop_first : (sc : Scenario) (h : List Entry) (p : Packet) → Delivering sc h → slice_get (pending sc h) 0 ≡ Some p →
    is_up_at h p.to ≡ false → Delivering sc (h ++ record { owner = 0; act = Drop p.number } ∷ [])
drop_first sc h p was first down =
    let behind : (qs : List Packet) × (pending sc h ≡ p ∷ qs) = behind_first (pending sc h) p first in
    drop_packet sc h p behind.0 was behind.1 down

-- a clause for a success follows from another
pub on_ok : {T E : Type 0} {P Q : Type 0} (r : Result T E) → (P → Q) → OnOk r P → OnOk r Q
on_ok (Ok t) f p = f p
on_ok (Err e) f p = tt

pub nothing_first : (ps : List Packet) → slice_get ps 0 ≡ None → ps ≡ []
nothing_first [] is = refl
nothing_first (p ∷ ps) is = absurd cc

-- the driver is never up: a site that is up has a number
zero_act : (sc : Scenario) (before : List Entry) (o : ℕ) (act : Act) → Guard sc before (record { owner = o; act = act }) → o ≡ 0 → up_behind false act ≡ false
zero_act sc before zero (Line number) g is = refl
zero_act sc before zero (Parts parts) g is = refl
zero_act sc before zero (Drop number) g is = refl
zero_act sc before zero (Step i records outs events) g is = refl
zero_act sc before zero (Fall inputs records why) g is = refl
zero_act sc before zero (Rise kept inc) g is = absurd g
zero_act sc before zero (RiseFall kept inc why) g is = refl
zero_act sc before zero Miss g is = refl
zero_act sc before zero Cut g is = refl
zero_act sc before (suc s) act g is = absurd (omega (arith, is))

zero_down : (sc : Scenario) (before h : List Entry) → LegalAfter sc before h → fold (λ was e. up_behind was e.act) false (own_entries 0 h) ≡ false
zero_down sc before [] legal = refl
zero_down sc before (e ∷ h) legal = by (zero_down sc (before ++ e ∷ []) h legal.1) (e.owner == 0) refl
  where
    by : fold (λ was e. up_behind was e.act) false (own_entries 0 h) ≡ false → (b : Bool) → (e.owner == 0) ≡ b →
        fold (λ was e. up_behind was e.act) false (own_entries 0 (e ∷ h)) ≡ false
    by rest true is = rw is (ap (λ b. fold (λ was e. up_behind was e.act) b (own_entries 0 h)) (zero_act sc before e.owner e.act legal.0 (eqb-true e.owner 0 is)) ∙ rest)
    by rest false is = rw is rest

pub up_some : (sc : Scenario) (h : List Entry) (s : ℕ) → IsLegal sc h → is_up_at h s ≡ true → 1 ≤ s
up_some sc h zero legal up = absurd (true_not_false (sym up ∙ zero_down sc [] h legal))
up_some sc h (suc s) legal up = omega arith

-- one more item
pub item_on : (sc : Scenario) (h : List Entry) (before more : List Item) (it : Item) → ItemsDone sc h before (it ∷ more) →
    ItemsDone sc (after_item sc h it) (before ++ it ∷ []) more
item_on sc h before more it was = by (f it) refl
  where
    f : Item → Option Addressed
    f = input_of sc (to_line h)

    all : (before ++ it ∷ []) ++ more ≡ before ++ it ∷ more
    all = append_assoc before (it ∷ []) more

    passed : (front : List Addressed) → AtPlan sc h (filter_map f (before ++ it ∷ more)) front → filter_map f (before ++ it ∷ []) ≡ front →
        ItemsDone sc h (before ++ it ∷ []) more
    passed front at is = record { legal = was.legal; present = rw all was.present; at_plan = rw (all, is) at }

    by : (o : Option Addressed) → f it ≡ o → ItemsDone sc (after_item sc h it) (before ++ it ∷ []) more
    by None is = rw is (passed (filter_map f before) was.at_plan (item_none f before it is))
    by (Some a) is = turn (is_up_at h a.site) refl
      where
        front_is : filter_map f (before ++ it ∷ []) ≡ filter_map f before ++ a ∷ []
        front_is = item_some f before [] it a is

        plan_is : filter_map f (before ++ it ∷ more) ≡ filter_map f before ++ a ∷ filter_map f more
        plan_is = item_some f before more it a is

        turn : (b : Bool) → is_up_at h a.site ≡ b → ItemsDone sc (after_item sc h it) (before ++ it ∷ []) more
        turn false down = rw (is, down) (passed (filter_map f before ++ a ∷ []) (pass_down sc h (filter_map f (before ++ it ∷ more)) (filter_map f before) a was.at_plan down) front_is)
        turn true up = rw (is, up) (record {
          legal = done.legal;
          present = rw (to_is, all) was.present;
          at_plan = rw (to_is, all, front_is, plan_is) done.at_plan;
        })
          where
            to_is : to_line (h ++ entry_of sc h a.site a.input ∷ []) ≡ to_line h
            to_is = to_push h (entry_of sc h a.site a.input) refl

            done : ItemDone sc (h ++ entry_of sc h a.site a.input ∷ []) (filter_map f before ++ a ∷ filter_map f more) (filter_map f before ++ a ∷ [])
            done = take_item sc h (filter_map f before) (filter_map f more) a
                (record { legal = was.legal; at_plan = subst (λ p. AtPlan sc h p (filter_map f before)) plan_is was.at_plan })
                (up_some sc h a.site was.legal up) up (item_no sc (to_line h) it a is)

pub items_end : (sc : Scenario) (h : List Entry) (items : List Item) → ItemsDone sc h items [] → Delivering sc h
items_end sc h items was = record {
  legal = was.legal;
  done = all_done sc h (filter_map (input_of sc (to_line h)) items) (let at : AtPlan sc h (filter_map (input_of sc (to_line h)) (items ++ [])) (filter_map (input_of sc (to_line h)) items) = was.at_plan in
      subst (λ l. AtPlan sc h (filter_map (input_of sc (to_line h)) l) (filter_map (input_of sc (to_line h)) items)) (append-nil items) at);
}

-- what is behind an item, case by case
pub after_none : (sc : Scenario) (h : List Entry) (it : Item) → input_of sc (to_line h) it ≡ None → h ≡ after_item sc h it
after_none sc h it is = rw is refl

pub after_down : (sc : Scenario) (h : List Entry) (it : Item) (a : Addressed) → input_of sc (to_line h) it ≡ Some a → is_up_at h a.site ≡ false →
    h ≡ after_item sc h it
after_down sc h it a is down = rw (is, down) refl

pub after_up : (sc : Scenario) (h : List Entry) (it : Item) (a : Addressed) → input_of sc (to_line h) it ≡ Some a → is_up_at h a.site ≡ true →
    h ++ entry_of sc h a.site a.input ∷ [] ≡ after_item sc h it
after_up sc h it a is up = rw (is, up) refl

-- by number: the items before the k-th, and those from it on
drop_at : (k : ℕ) (items : List Item) (it : Item) → slice_get items k ≡ Some it → drop k items ≡ it ∷ drop (suc k) items
drop_at k [] it is = absurd cc
drop_at zero (x ∷ items) it is = (let same : x ≡ it = cc in ap (λ y. y ∷ items) same)
drop_at (suc k) (x ∷ items) it is = drop_at k items it is

take_at : (k : ℕ) (items : List Item) (it : Item) → slice_get items k ≡ Some it → take (suc k) items ≡ take k items ++ it ∷ []
take_at k [] it is = absurd cc
take_at zero (x ∷ items) it is = (let same : x ≡ it = cc in ap (λ y. y ∷ []) same)
take_at (suc k) (x ∷ items) it is = ap (λ l. x ∷ l) (take_at k items it is)

pub item_at : (sc : Scenario) (h : List Entry) (items : List Item) (k : ℕ) (it : Item) → ItemsDone sc h (take k items) (drop k items) →
    slice_get items k ≡ Some it → ItemsDone sc (after_item sc h it) (take (suc k) items) (drop (suc k) items)
item_at sc h items k it was is =
    let P : List Item → Type 0 = λ l. ItemsDone sc h (take k items) l in
    let Q : List Item → Type 0 = λ l. ItemsDone sc (after_item sc h it) l (drop (suc k) items) in
    subst Q (sym (take_at k items it is)) (item_on sc h (take k items) (drop (suc k) items) it (subst P (drop_at k items it is) was))

-- an index of the code
slice_at : (items : List Item) (k : ℕ) (d : Item) → k < length items → slice_get items k ≡ Some (get_or items k d)
slice_at [] k d low = absurd (omega (arith, low))
slice_at (x ∷ items) zero d low = refl
slice_at (x ∷ items) (suc k) d low = slice_at items k d (omega (arith, low))

pub at_index : (items : List Item) (k : ℕ) (it : Item) → k < length items → it ≡ get_or items k it → slice_get items k ≡ Some it
at_index items k it low is = slice_at items k it low ∙ ap Some (sym is)

pub first_on : (sc : Scenario) (h : List Entry) (p : Packet) → Delivering sc h → slice_get (pending sc h) 0 ≡ Some p → Delivering sc (after_first sc h p)
first_on sc h p was first = by (is_up_at h p.to) refl
  where
    by : (b : Bool) → is_up_at h p.to ≡ b → Delivering sc (after_first sc h p)
    by true up = rw up (deliver_first sc h p was first (up_some sc h p.to was.legal up) up)
    by false down = rw down (drop_first sc h p was first down)
