-- What is due at a site stays due behind entries of others.
use Rattle.std.proofs.Common.{◌≡◌, ◌==◌, ◌||◌, ◌≤◌, inl, inr, ℕ, suc, Bool, true, false, not, List, [], ◌∷◌, ◌++◌, ◌∙◌, ap, sym, subst, refl, length, None, count_by, nat_le, arith, eqb-true, le-leb}
use Rattle.std.specs.Prelude.{slice_get, filter_map}
use Rattle.std.specs.List.{list_any, list_all}
use Rattle.std.proofs.lemmas.Bool.{and_parts, leb-true}
use Rattle.e3_types.specs.declared.entries.Act.{Act}
use Rattle.e3_types.specs.declared.entries.Act.TheVariants.{Step}
use Rattle.e3_types.specs.declared.entries.Entry.{Entry}
use Rattle.e3_types.specs.declared.entries.Input.{Input}
use Rattle.e3_types.specs.declared.entries.Input.TheVariants as input
use Rattle.e3_types.specs.declared.messages.Packet.{Packet}
use Rattle.e3_types.specs.declared.records.Record.{Record}
use Rattle.e3_types.specs.declared.scenarios.Item.{Item}
use Rattle.e3_types.specs.declared.scenarios.Item.TheVariants as item
use Rattle.e3_types.specs.declared.scenarios.Scenario.{Scenario}
use Rattle.e3_types.specs.declared.entries.Told.{Told}
use Rattle.e3_world.specs.Items.{inputs_to, inputs_at, input_of, is_delivery, turn_of, is_up_at, items_through, recover_group, due_round}
use Rattle.e3_world.specs.Legal.{IsNextItem, IsDue, IsStep, AreDue, IsFall, records_by, made_by, entry_of, numbered}
use Rattle.e3_world.specs.declared.lives.Made.{Made}
use Rattle.e3_world.specs.Packets.{outs_of, present_items, step_items, all_sites, is_calm, sent}
use Rattle.e3_laws.specs.local.Others.{IsWaiting, AreWaiting}
use Rattle.e3_laws.proofs.local.Alike.{Alike, DoneAt, made_same, step_on, lines_still}

pub inputs_same : (sc : Scenario) (site u : ℕ) (p h : List Entry) → Alike sc site p h → inputs_at sc h u ≡ inputs_at sc p u
inputs_same sc site u p h a = ap (λ to. inputs_to u (filter_map (input_of sc to) (present_items sc to))) a.to

pub turn_same : (sc : Scenario) (site : ℕ) (p h : List Entry) → Alike sc site p h → turn_of h site ≡ turn_of p site
turn_same sc site p h a = ap (count_by (λ i. not (is_delivery i))) a.taken

pub next_on : (sc : Scenario) (site : ℕ) (p h : List Entry) (i : Input) → Alike sc site p h → IsNextItem sc p site i → IsNextItem sc h site i
next_on sc site p h i a was = record {
  next = ap (λ l. slice_get l (turn_of h site)) (inputs_same sc site site p h a) ∙ ap (slice_get (inputs_at sc p site)) (turn_same sc site p h a) ∙ was.next;
  no_delivery = ap (list_any is_delivery) a.taken ∙ was.no_delivery;
}

-- outside of a recover step no round is due
pub no_group : (items : List Item) → is_calm items ≡ false → recover_group items ≡ None
no_group (item.Recover all ∷ items) calm = absurd cc
no_group [] calm = refl
no_group (it ∷ items) calm = refl

pub no_round : (sc : Scenario) (p : List Entry) → is_calm (present_items sc p) ≡ false → due_round sc p ≡ None
no_round sc p calm = rw (no_group (present_items sc p) calm) refl

-- all items are through, in the second too
abbrev done_at : Scenario → List Entry → ℕ → Bool
done_at sc h s = not (is_up_at h s) || nat_le (length (inputs_at sc h s)) (turn_of h s)

pub all_kept : (q r : ℕ → Bool) (xs : List ℕ) → ((x : ℕ) → q x ≡ true → r x ≡ true) → list_all q xs ≡ true → list_all r xs ≡ true
all_kept q r [] each all = refl
all_kept q r (x ∷ xs) each all =
    let both = and_parts (q x) (list_all q xs) all in
    rw (each x both.0) (all_kept q r xs each both.1)

pub through_on : (sc : Scenario) (site : ℕ) (p h : List Entry) → Alike sc site p h → items_through sc p ≡ true → items_through sc h ≡ true
through_on sc site p h a all = all_kept (done_at sc p) (done_at sc h) (all_sites sc) each all
  where
    told : (k : List Entry) (u : ℕ) → done_at sc k u ≡ true → DoneAt sc k u
    told k u is up = leb-true (length (inputs_at sc k u)) (turn_of k u) (let P : Bool → Type 0 = λ b. (not b || nat_le (length (inputs_at sc k u)) (turn_of k u)) ≡ true in subst P up is)

    tell : (k : List Entry) (u : ℕ) → DoneAt sc k u → done_at sc k u ≡ true
    tell k u done = by (is_up_at k u) refl
      where
        by : (b : Bool) → is_up_at k u ≡ b → done_at sc k u ≡ true
        by true up = rw up (le-leb _ _ (done up))
        by false down = rw down refl

    here : DoneAt sc p site → DoneAt sc h site
    here done up =
        let was : length (inputs_at sc p site) ≤ turn_of p site = done (sym a.up ∙ up) in
        let asked : length (inputs_at sc h site) ≡ length (inputs_at sc p site) = ap length (inputs_same sc site site p h a) in
        let turn : turn_of h site ≡ turn_of p site = turn_same sc site p h a in
        omega (arith, was, asked, turn)

    each : (u : ℕ) → done_at sc p u ≡ true → done_at sc h u ≡ true
    each u is = by (u == site) refl
      where
        by : (b : Bool) → (u == site) ≡ b → done_at sc h u ≡ true
        by true same = let P : ℕ → Type 0 = λ v. done_at sc h v ≡ true in let Q : ℕ → Type 0 = λ v. done_at sc p v ≡ true in
            subst P (sym (eqb-true u site same)) (tell h site (here (told p site (subst Q (eqb-true u site same) is))))
        by false apart = tell h u (a.done u apart (told p u is))

-- what is due stays due, where its packet is pending
pub due_on : (sc : Scenario) (site : ℕ) (p h : List Entry) (i : Input) → Alike sc site p h → is_calm (present_items sc p) ≡ false →
    IsWaiting sc h i → IsDue sc p site i → IsDue sc h site i
due_on sc site p h (input.Begin sites) a calm waits due = next_on sc site p h (input.Begin sites) a due
due_on sc site p h (input.Do t op) a calm waits due = next_on sc site p h (input.Do t op) a due
due_on sc site p h (input.Commit t) a calm waits due = next_on sc site p h (input.Commit t) a due
due_on sc site p h (input.Cancel t) a calm waits due = next_on sc site p h (input.Cancel t) a due
due_on sc site p h (input.Expire t) a calm waits due = next_on sc site p h (input.Expire t) a due
due_on sc site p h (input.Elect t group) a calm waits (inl next) = inl (next_on sc site p h (input.Elect t group) a next)
due_on sc site p h (input.Elect t group) a calm waits (inr round) = absurd (let none : due_round sc p ≡ None = no_round sc p calm in let some = round.due in cc)
due_on sc site p h (input.Deliver packet) a calm waits due = record {
  to = due.to;
  is_pending = waits;
  behind_items = through_on sc site p h a due.behind_items;
  in_order = λ still. absurd (let same : is_calm (present_items sc h) ≡ is_calm (present_items sc p) = ap (λ n. is_calm (step_items sc n)) a.line in cc);
}

-- it is calm behind a step where it was
pub calm_on : (sc : Scenario) (p : List Entry) (site : ℕ) (i : Input) → is_calm (present_items sc p) ≡ false →
    is_calm (present_items sc (p ++ entry_of sc p site i ∷ [])) ≡ false
calm_on sc p site i calm = ap (λ n. is_calm (step_items sc n)) (lines_still p (entry_of sc p site i) refl) ∙ calm

-- the inputs of a fall stay due, one behind the other
pub all_due : (sc : Scenario) (site : ℕ) (p h : List Entry) (inputs : List Input) → Alike sc site p h → is_calm (present_items sc p) ≡ false →
    AreWaiting sc h site inputs → AreDue sc p site inputs → AreDue sc h site inputs
all_due sc site p h [] a calm waits due = tt
all_due sc site p h (i ∷ inputs) a calm waits due = (
  due_on sc site p h i a calm waits.0 due.0,
  all_due sc site (p ++ entry_of sc p site i ∷ []) (h ++ entry_of sc h site i ∷ []) inputs (step_on sc site p h i a) (calm_on sc p site i calm) waits.1 due.1,
)

-- and record the same
pub records_same : (sc : Scenario) (site : ℕ) (p h : List Entry) (inputs : List Input) → Alike sc site p h →
    records_by sc h site inputs ≡ records_by sc p site inputs
records_same sc site p h [] a = refl
records_same sc site p h (i ∷ inputs) a =
    let rest = records_same sc site (p ++ entry_of sc p site i ∷ []) (h ++ entry_of sc h site i ∷ []) inputs (step_on sc site p h i a) in
    ap (λ m. m.records ++ records_by sc (h ++ entry_of sc h site i ∷ []) site inputs) (made_same sc site p h i a)
    ∙ ap (λ l. (made_by sc p site i).records ++ l) rest

-- packets with other numbers
renumber : (n m : ℕ) (ps : List Packet) → numbered m (numbered n ps) ≡ numbered m ps
renumber n m [] = refl
renumber n m (p ∷ ps) = ap (λ l. record p { number = m } ∷ l) (renumber (suc n) (suc m) ps)

numbered_same : (n m : ℕ) (ps qs : List Packet) → numbered n ps ≡ numbered n qs → numbered m ps ≡ numbered m qs
numbered_same n m ps qs is = sym (renumber n m ps) ∙ ap (numbered m) is ∙ renumber n m qs

-- the records and the events of a step
abbrev records_in : Act → List Record
records_in (Step i records outs events) = records
records_in act = []

abbrev told_in : Act → List Told
told_in (Step i records outs events) = events
told_in act = []

-- a step stays allowed, with other numbers
pub step_stays : (sc : Scenario) (site : ℕ) (p h : List Entry) (i : Input) (records : List Record) (outs : List Packet) (events : List Told) →
    Alike sc site p h → is_calm (present_items sc p) ≡ false → IsWaiting sc h i →
    IsStep sc p site i (Step i records (numbered (suc (length (sent p))) outs) events) →
    IsStep sc h site i (Step i records (numbered (suc (length (sent h))) outs) events)
step_stays sc site p h i records outs events a calm waits was = record {
  up = a.up ∙ was.up;
  due = due_on sc site p h i a calm waits was.due;
  made = made;
}
  where
    n : ℕ
    n = suc (length (sent p))

    m : ℕ
    m = suc (length (sent h))

    old : Made
    old = made_by sc p site i

    records_are : records ≡ old.records
    records_are = ap (λ (e : Entry). records_in e.act) was.made

    outs_are : numbered m outs ≡ numbered m old.outs
    outs_are = numbered_same n m outs old.outs (ap (λ (e : Entry). outs_of e.act) was.made)

    told_are : events ≡ old.told
    told_are = ap (λ (e : Entry). told_in e.act) was.made

    made : record { owner = site; act = Step i records (numbered m outs) events } ≡ entry_of sc h site i
    made =
        ap (λ r. record { owner = site; act = Step i r (numbered m outs) events }) records_are
        ∙ ap (λ o. record { owner = site; act = Step i old.records o events }) outs_are
        ∙ ap (λ t. record { owner = site; act = Step i old.records (numbered m old.outs) t }) told_are
        ∙ ap (λ (w : Made). record { owner = site; act = Step i w.records (numbered m w.outs) w.told }) (sym (made_same sc site p h i a))

-- a fall stays allowed
pub fall_stays : (sc : Scenario) (site : ℕ) (p h : List Entry) (inputs : List Input) (records : List Record) →
    Alike sc site p h → is_calm (present_items sc p) ≡ false → AreWaiting sc h site inputs →
    IsFall sc p site inputs records → IsFall sc h site inputs records
fall_stays sc site p h inputs records a calm waits was = record {
  up = a.up ∙ was.up;
  due = all_due sc site p h inputs a calm waits was.due;
  some = was.some;
  made = was.made ∙ sym (records_same sc site p h inputs a);
}
