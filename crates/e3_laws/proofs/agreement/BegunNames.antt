-- The names of a legal history stand for the transactions of their begin items.
use Rattle.std.proofs.Common.{◌≡◌, ◌⊎◌, inl, inr, ◌∷◌, [], ◌++◌, ◌==◌, ◌+◌, ℕ, zero, suc, Bool, true, false, List, Option, Some, None, refl, sym, ap, subst, ◌∙◌, arith, cond, eqb-true, eq-eqb, append-nil}
use Rattle.std.specs.Prelude.{not, slice_get, count_by, filter_map}
use Rattle.std.specs.List.{flat_map}
use Rattle.std.proofs.lemmas.Bool.{cases_eq, false_from_ne_true}
use Rattle.std.proofs.lemmas.List.Sums.{sum_by-append}
use Rattle.std.proofs.lemmas.Grind.{fold-append}
use Rattle.e3_types.specs.declared.entries.Act.{Act}
use Rattle.e3_types.specs.declared.entries.Act.TheVariants.{Step, Fall, Rise, RiseFall, Miss, Cut, Drop, Parts, Line}
use Rattle.e3_types.specs.declared.entries.Entry.{Entry}
use Rattle.e3_types.specs.declared.entries.Input.{Input}
use Rattle.e3_types.specs.declared.entries.Input.TheVariants as input
use Rattle.e3_types.specs.declared.entries.Told.{Told}
use Rattle.e3_types.specs.declared.messages.Packet.{Packet}
use Rattle.e3_types.specs.declared.records.Record.{Record}
use Rattle.e3_types.specs.declared.scenarios.Item.{Item}
use Rattle.e3_types.specs.declared.scenarios.Item.TheVariants as item
use Rattle.e3_types.specs.declared.scenarios.Scenario.{Scenario}
use Rattle.e3_world.specs.declared.names.Binding.{Binding}
use Rattle.e3_world.specs.declared.names.Bound.{Bound}
use Rattle.e3_world.specs.Given.{is_step_form, is_groupable}
use Rattle.e3_world.specs.Items.{begin_names, binds, binding_by, due_round, recover_group, inputs_at, inputs_to, inputs_of, input_of, is_delivery, is_up_at, taken_at, to_line, turn_of}
use Rattle.e3_world.specs.Legal.{Guard, IsStep, IsNextItem, IsRound, may_rise, made_by, entry_of}
use Rattle.e3_world.specs.Moves.{own_entries}
use Rattle.e3_world.specs.Packets.{is_line, lines, present_items, step_items}
use Rattle.e3_world.specs.Progress.{up_behind}
use Rattle.e3_world.proofs.Guards.{lines_push}
use Rattle.e3_world.proofs.Readings.{split_push, taken_same, taken_other, up_same, up_other}
use Rattle.e3_laws.specs.agreement.Logs.{IsIn}
use Rattle.e3_laws.proofs.agreement.Named.{Names, StepNamed}
use Rattle.e3_laws.proofs.agreement.Positions.{is_begin, add_if, begins_before, begins_next, position}
use Rattle.e3_laws.proofs.steps.Items.{single, inputs_push, plan_is, binding}
use Rattle.e3_laws.proofs.agreement.Protocol.Reached.{in_parts}

abbrev pub counts : ℕ → List ℕ → ℕ
counts s l = count_by (λ o. o == s) l

-- a name stands for the transaction of a begin item
abbrev pub BoundOk : Scenario → Bound → Type 0
BoundOk sc b = (k : ℕ) × IsIn (item.Begin b.name b.txn.site b.txn.sites) (step_items sc k)

-- what is counted: the begins of a site that is up are those of its items so far
pub record Counted (sc : Scenario) (h : List Entry) : Type 0 where
  pub number : (binding sc h).number ≡ lines h
  pub count : (s : ℕ) → is_up_at h s ≡ true → counts s (binding sc h).begun_at ≡ begins_before (turn_of h s) (inputs_at sc h s)
  pub none : (s : ℕ) → inputs_at sc h s ≡ [] → counts s (binding sc h).begun_at ≡ 0
  pub bound : (b : Bound) → IsIn b (binding sc h).bound → BoundOk sc b

binding_push : (sc : Scenario) (h : List Entry) (e : Entry) → binding sc (h ++ e ∷ []) ≡ binding_by sc (binding sc h) e
binding_push sc h e = fold-append (binding_by sc) (record { number = 0; begun_at = []; bound = [] }) h (e ∷ [])

counts_push : (s : ℕ) (l : List ℕ) (o : ℕ) → counts s (l ++ o ∷ []) ≡ add_if (o == s) (counts s l)
counts_push s l o = sum_by-append (λ x. cond (x == s) 1 0) l (o ∷ []) ∙ by (o == s)
  where
    by : (b : Bool) → counts s l + (0 + cond b 1 0) ≡ add_if b (counts s l)
    by true = omega arith
    by false = omega arith

turn_more : (h : List Entry) (e : Entry) (i : Input) → is_line e ≡ false → inputs_of e.act ≡ i ∷ [] → turn_of (h ++ e ∷ []) e.owner ≡ add_if (not (is_delivery i)) (turn_of h e.owner)
turn_more h e i stays takes =
    ap (λ l. count_by (λ j. not (is_delivery j)) l) (taken_same h e e.owner stays (eq-eqb e.owner e.owner refl) ∙ ap (λ z. taken_at h e.owner ++ z) takes)
    ∙ sum_by-append (λ j. cond (not (is_delivery j)) 1 0) (taken_at h e.owner) (i ∷ []) ∙ by (not (is_delivery i))
  where
    by : (b : Bool) → turn_of h e.owner + (0 + cond b 1 0) ≡ add_if b (turn_of h e.owner)
    by true = omega arith
    by false = omega arith

turn_same : (h : List Entry) (e : Entry) → is_line e ≡ false → inputs_of e.act ≡ [] → turn_of (h ++ e ∷ []) e.owner ≡ turn_of h e.owner
turn_same h e stays takes =
    ap (λ l. count_by (λ j. not (is_delivery j)) l) (taken_same h e e.owner stays (eq-eqb e.owner e.owner refl) ∙ ap (λ z. taken_at h e.owner ++ z) takes ∙ append-nil (taken_at h e.owner))

lines_same : (h : List Entry) (e : Entry) → is_line e ≡ false → lines (h ++ e ∷ []) ≡ lines h
lines_same h e stays = lines_push h e ∙ (let none : count_by is_line (e ∷ []) ≡ 0 = rw stays refl in omega (arith, none))

-- an entry that binds nothing
quiet_on : (sc : Scenario) (h : List Entry) (e : Entry) → is_line e ≡ false → binding_by sc (binding sc h) e ≡ binding sc h
    → (is_up_at (h ++ e ∷ []) e.owner ≡ true → counts e.owner (binding sc h).begun_at ≡ begins_before (turn_of (h ++ e ∷ []) e.owner) (inputs_at sc h e.owner))
    → Counted sc h → Counted sc (h ++ e ∷ [])
quiet_on sc h e stays quiet own c = record {
  number = ap (λ (b : Binding). b.number) same ∙ c.number ∙ sym (lines_same h e stays);
  count = λ s up. ap (λ (b : Binding). counts s b.begun_at) same ∙ count s up (cases_eq e.owner s) ∙ ap (begins_before (turn_of (h ++ e ∷ []) s)) (sym (inputs_push sc h e s stays));
  none = λ s bare. ap (λ (b : Binding). counts s b.begun_at) same ∙ c.none s (sym (inputs_push sc h e s stays) ∙ bare);
  bound = λ b k. c.bound b (subst (λ (z : Binding). IsIn b z.bound) same k);
}
  where
    same : binding sc (h ++ e ∷ []) ≡ binding sc h
    same = binding_push sc h e ∙ quiet

    count : (s : ℕ) → is_up_at (h ++ e ∷ []) s ≡ true → (e.owner ≡ s) ⊎ (e.owner ≡ s → ⊥) → counts s (binding sc h).begun_at ≡ begins_before (turn_of (h ++ e ∷ []) s) (inputs_at sc h s)
    count s up (inl is) =
        subst (λ z. counts z (binding sc h).begun_at ≡ begins_before (turn_of (h ++ e ∷ []) z) (inputs_at sc h z)) is (own (subst (λ z. is_up_at (h ++ e ∷ []) z ≡ true) (sym is) up))
    count s up (inr other) =
        let apart : (e.owner == s) ≡ false = false_from_ne_true (e.owner == s) (λ q. other (eqb-true e.owner s q)) in
        c.count s (sym (up_other h e s apart) ∙ up)
        ∙ ap (λ l. begins_before (count_by (λ j. not (is_delivery j)) l) (inputs_at sc h s)) (sym (taken_other h e s stays apart))

up_here : (h : List Entry) (e : Entry) → is_up_at (h ++ e ∷ []) e.owner ≡ up_behind (is_up_at h e.owner) e.act
up_here h e = up_same h e e.owner (eq-eqb e.owner e.owner refl)

no_begins : (n : ℕ) → begins_before n [] ≡ 0
no_begins zero = refl
no_begins (suc n) = refl

-- the items of a step
pub step_case : (sc : Scenario) (names : Names sc.steps) (k : ℕ) → (step_items sc k ≡ []) ⊎ StepNamed names.all (step_items sc k)
step_case sc names zero = inl refl
step_case sc names (suc k) = by (slice_get sc.steps k) refl
  where
    got : (steps : List (List Item)) (n : ℕ) (x : List Item) → slice_get steps n ≡ Some x → IsIn x steps
    got [] n x is = cc
    got (y ∷ ys) zero x is = inl (let q : x ≡ y = cc in q)
    got (y ∷ ys) (suc n) x is = inr (got ys n x is)

    by : (o : Option (List Item)) → slice_get sc.steps k ≡ o → (step_items sc (suc k) ≡ []) ⊎ StepNamed names.all (step_items sc (suc k))
    by None is = inl (rw is refl)
    by (Some items) is = inr (subst (λ z. StepNamed names.all z) (let e : items ≡ step_items sc (suc k) = rw is refl in e) (names.each items (got sc.steps k items is)))

-- a step with such an item asks nothing of the sites
bare_plan : (sc : Scenario) (h : List Entry) (names : Names sc.steps) (it : Item) (items : List Item) (s : ℕ) → present_items sc h ≡ it ∷ items → is_groupable it ≡ false
    → filter_map (input_of sc (to_line h)) (it ∷ []) ≡ [] → inputs_at sc h s ≡ []
bare_plan sc h names it items s is alone nothing_asked = by (step_case sc names (lines h))
  where
    by : (step_items sc (lines h) ≡ []) ⊎ StepNamed names.all (step_items sc (lines h)) → inputs_at sc h s ≡ []
    by (inl none) = ap (inputs_to s) (plan_is sc h ∙ ap (filter_map (input_of sc (to_line h))) none)
    by (inr step) =
        let form : is_step_form (it ∷ items) ≡ true = subst (λ z. is_step_form z ≡ true) is step.form in
        ap (inputs_to s) (plan_is sc h ∙ ap (filter_map (input_of sc (to_line h))) (is ∙ ap (λ z. it ∷ z) (single it items form alone)) ∙ nothing_asked)

rise_bare : (sc : Scenario) (h : List Entry) (names : Names sc.steps) (site s : ℕ) → may_rise sc h site ≡ true → inputs_at sc h s ≡ []
rise_bare sc h names site s may = by (lines h) refl (step_items sc (lines h)) refl
  where
    by : (n : ℕ) → lines h ≡ n → (items : List Item) → step_items sc n ≡ items → inputs_at sc h s ≡ []
    by zero line items is = ap (inputs_to s) (plan_is sc h ∙ ap (λ n. filter_map (input_of sc (to_line h)) (step_items sc n)) line)
    by (suc n) line (item.Restart u ∷ items) is = bare_plan sc h names (item.Restart u) items s (ap (step_items sc) line ∙ is) refl refl
    by (suc n) line [] is = absurd (let no_rise : may_rise sc h site ≡ false = rw (line, is) refl in cc)
    by (suc n) line (item.Begin name u all ∷ items) is = absurd (let no_rise : may_rise sc h site ≡ false = rw (line, is) refl in cc)
    by (suc n) line (item.Read name key ∷ items) is = absurd (let no_rise : may_rise sc h site ≡ false = rw (line, is) refl in cc)
    by (suc n) line (item.Write name key val ∷ items) is = absurd (let no_rise : may_rise sc h site ≡ false = rw (line, is) refl in cc)
    by (suc n) line (item.Commit name ∷ items) is = absurd (let no_rise : may_rise sc h site ≡ false = rw (line, is) refl in cc)
    by (suc n) line (item.Cancel name ∷ items) is = absurd (let no_rise : may_rise sc h site ≡ false = rw (line, is) refl in cc)
    by (suc n) line (item.Expire u name ∷ items) is = absurd (let no_rise : may_rise sc h site ≡ false = rw (line, is) refl in cc)
    by (suc n) line (item.Elect u name group ∷ items) is = absurd (let no_rise : may_rise sc h site ≡ false = rw (line, is) refl in cc)
    by (suc n) line (item.Recover all ∷ items) is = absurd (let no_rise : may_rise sc h site ≡ false = rw (line, is) refl in cc)
    by (suc n) line (item.Split parts ∷ items) is = absurd (let no_rise : may_rise sc h site ≡ false = rw (line, is) refl in cc)
    by (suc n) line (item.Merge ∷ items) is = absurd (let no_rise : may_rise sc h site ≡ false = rw (line, is) refl in cc)
    by (suc n) line (item.Crash u ∷ items) is = absurd (let no_rise : may_rise sc h site ≡ false = rw (line, is) refl in cc)
    by (suc n) line (item.Stop u count leave ∷ items) is = absurd (let no_rise : may_rise sc h site ≡ false = rw (line, is) refl in cc)

-- a recovery round is due in a recover step alone
round_bare : (sc : Scenario) (h : List Entry) (names : Names sc.steps) (s : ℕ) → (due_round sc h ≡ None → ⊥) → inputs_at sc h s ≡ []
round_bare sc h names s due = by (present_items sc h) refl
  where
    no_group : recover_group (present_items sc h) ≡ None → due_round sc h ≡ None
    no_group none = rw none refl

    by : (items : List Item) → present_items sc h ≡ items → inputs_at sc h s ≡ []
    by (item.Recover all ∷ items) is = bare_plan sc h names (item.Recover all) items s is refl refl
    by [] is = absurd (due (no_group (ap recover_group is)))
    by (item.Begin name u all ∷ items) is = absurd (due (no_group (ap recover_group is)))
    by (item.Read name key ∷ items) is = absurd (due (no_group (ap recover_group is)))
    by (item.Write name key val ∷ items) is = absurd (due (no_group (ap recover_group is)))
    by (item.Commit name ∷ items) is = absurd (due (no_group (ap recover_group is)))
    by (item.Cancel name ∷ items) is = absurd (due (no_group (ap recover_group is)))
    by (item.Expire u name ∷ items) is = absurd (due (no_group (ap recover_group is)))
    by (item.Elect u name group ∷ items) is = absurd (due (no_group (ap recover_group is)))
    by (item.Restart u ∷ items) is = absurd (due (no_group (ap recover_group is)))
    by (item.Split parts ∷ items) is = absurd (due (no_group (ap recover_group is)))
    by (item.Merge ∷ items) is = absurd (due (no_group (ap recover_group is)))
    by (item.Crash u ∷ items) is = absurd (due (no_group (ap recover_group is)))
    by (item.Stop u count leave ∷ items) is = absurd (due (no_group (ap recover_group is)))

-- what a begin tells
begun_told : (sc : Scenario) (h : List Entry) (site : ℕ) (sites : List ℕ) (records : List Record) (outs : List Packet) (events : List Told)
    → record { owner = site; act = Step (input.Begin sites) records outs events } ≡ entry_of sc h site (input.Begin sites) → events ≡ (made_by sc h site (input.Begin sites)).told
begun_told sc h site sites records outs events made = ap (λ (e : Entry). told_of e.act) made
  where
    told_of : Act → List Told
    told_of (Step i r o t) = t
    told_of act = []

-- what a begin binds is one of its step's begin items
begin_bound : (sc : Scenario) (h : List Entry) (s : ℕ) (sites : List ℕ) (events : List Told) → Counted sc h → is_up_at h s ≡ true → IsNextItem sc h s (input.Begin sites)
    → events ≡ (made_by sc h s (input.Begin sites)).told
    → (b : Bound) → IsIn b (binds (slice_get (begin_names s (step_items sc (binding sc h).number)) (counts s (binding sc h).begun_at)) events) → BoundOk sc b
begin_bound sc h s sites events c up next tells b k =
    by (slice_get (begin_names s (step_items sc (binding sc h).number)) (counts s (binding sc h).begun_at)) refl
    (subst (λ z. IsIn b (binds (slice_get (begin_names s (step_items sc (binding sc h).number)) (counts s (binding sc h).begun_at)) z)) tells k)
  where
    named : (name : List ℕ) → slice_get (begin_names s (step_items sc (binding sc h).number)) (counts s (binding sc h).begun_at) ≡ Some name → IsIn (item.Begin name s sites) (step_items sc (lines h))
    named name is =
        position sc (to_line h) s (step_items sc (lines h)) sites name (
          turn_of h s,
          subst (λ z. slice_get z (turn_of h s) ≡ Some (input.Begin sites)) plan next.next,
          subst (λ z. slice_get (begin_names s (step_items sc (lines h))) (begins_before (turn_of h s) z) ≡ Some name) plan
              (subst (λ n. slice_get (begin_names s (step_items sc (lines h))) n ≡ Some name) (c.count s up)
              (subst (λ n. slice_get (begin_names s (step_items sc n)) (counts s (binding sc h).begun_at) ≡ Some name) c.number is)),
        )
      where
        plan : inputs_at sc h s ≡ inputs_to s (filter_map (input_of sc (to_line h)) (step_items sc (lines h)))
        plan = ap (inputs_to s) (plan_is sc h)

    by : (o : Option (List ℕ)) → slice_get (begin_names s (step_items sc (binding sc h).number)) (counts s (binding sc h).begun_at) ≡ o
        → IsIn b (binds (slice_get (begin_names s (step_items sc (binding sc h).number)) (counts s (binding sc h).begun_at)) (made_by sc h s (input.Begin sites)).told) → BoundOk sc b
    by None is k = absurd (subst (λ z. IsIn b (binds z (made_by sc h s (input.Begin sites)).told)) is k)
    by (Some name) is k = only name (named name is) (subst (λ z. IsIn b (binds z (made_by sc h s (input.Begin sites)).told)) is k)
      where
        only : (name : List ℕ) → IsIn (item.Begin name s sites) (step_items sc (lines h)) → IsIn b (binds (Some name) (made_by sc h s (input.Begin sites)).told) → BoundOk sc b
        only name there (inl e) = (lines h, subst (λ (z : Bound). IsIn (item.Begin z.name z.txn.site z.txn.sites) (step_items sc (lines h))) (sym e) there)
        only name there (inr e) = absurd e

-- a begin
begin_on : (sc : Scenario) (h : List Entry) (s : ℕ) (sites : List ℕ) (records : List Record) (outs : List Packet) (events : List Told)
    → IsStep sc h s (input.Begin sites) (Step (input.Begin sites) records outs events) → Counted sc h → Counted sc (h ++ record { owner = s; act = Step (input.Begin sites) records outs events } ∷ [])
begin_on sc h s sites records outs events step c = record {
  number = ap (λ (b : Binding). b.number) now ∙ c.number ∙ sym (lines_same h e refl);
  count = λ u up. ap (λ (b : Binding). counts u b.begun_at) now ∙ counts_push u (binding sc h).begun_at s ∙ count u up (cases_eq s u) ∙ ap (begins_before (turn_of (h ++ e ∷ []) u)) (sym (inputs_push sc h e u refl));
  none = λ u bare. ap (λ (b : Binding). counts u b.begun_at) now ∙ counts_push u (binding sc h).begun_at s ∙ none u (sym (inputs_push sc h e u refl) ∙ bare) (cases_eq s u);
  bound = λ b k. bound b (in_parts b (binding sc h).bound (binds (slice_get (begin_names s (step_items sc (binding sc h).number)) (counts s (binding sc h).begun_at)) events)
      (subst (λ (z : Binding). IsIn b z.bound) now k));
}
  where
    e : Entry
    e = record { owner = s; act = Step (input.Begin sites) records outs events }

    now : binding sc (h ++ e ∷ []) ≡ record {
      number = (binding sc h).number;
      begun_at = (binding sc h).begun_at ++ s ∷ [];
      bound = (binding sc h).bound ++ binds (slice_get (begin_names s (step_items sc (binding sc h).number)) (counts s (binding sc h).begun_at)) events;
    }
    now = binding_push sc h e

    count : (u : ℕ) → is_up_at (h ++ e ∷ []) u ≡ true → (s ≡ u) ⊎ (s ≡ u → ⊥) → add_if (s == u) (counts u (binding sc h).begun_at) ≡ begins_before (turn_of (h ++ e ∷ []) u) (inputs_at sc h u)
    count u up (inl is) = subst (λ z. add_if (s == z) (counts z (binding sc h).begun_at) ≡ begins_before (turn_of (h ++ e ∷ []) z) (inputs_at sc h z)) is (
        ap (λ b. add_if b (counts s (binding sc h).begun_at)) (eq-eqb s s refl)
        ∙ ap suc (c.count s step.up)
        ∙ sym (begins_next (turn_of h s) (inputs_at sc h s) (input.Begin sites) step.due.next)
        ∙ ap (λ n. begins_before n (inputs_at sc h s)) (sym (turn_more h e (input.Begin sites) refl refl)))
    count u up (inr other) =
        let apart : (s == u) ≡ false = false_from_ne_true (s == u) (λ q. other (eqb-true s u q)) in
        ap (λ b. add_if b (counts u (binding sc h).begun_at)) apart ∙ c.count u (sym (up_other h e u apart) ∙ up)
        ∙ ap (λ l. begins_before (count_by (λ j. not (is_delivery j)) l) (inputs_at sc h u)) (sym (taken_other h e u refl apart))

    none : (u : ℕ) → inputs_at sc h u ≡ [] → (s ≡ u) ⊎ (s ≡ u → ⊥) → add_if (s == u) (counts u (binding sc h).begun_at) ≡ 0
    none u bare (inl is) =
        let at : slice_get (inputs_at sc h s) (turn_of h s) ≡ Some (input.Begin sites) = step.due.next in
        let gone : slice_get [] (turn_of h s) ≡ Some (input.Begin sites) = subst (λ l. slice_get l (turn_of h s) ≡ Some (input.Begin sites)) (subst (λ z. inputs_at sc h z ≡ []) (sym is) bare) at in
        absurd (let e : None ≡ Some (input.Begin sites) = gone in cc)
    none u bare (inr other) =
        ap (λ b. add_if b (counts u (binding sc h).begun_at)) (false_from_ne_true (s == u) (λ q. other (eqb-true s u q))) ∙ c.none u bare

    bound : (b : Bound) → IsIn b (binding sc h).bound ⊎ IsIn b (binds (slice_get (begin_names s (step_items sc (binding sc h).number)) (counts s (binding sc h).begun_at)) events) → BoundOk sc b
    bound b (inl k) = c.bound b k
    bound b (inr k) = begin_bound sc h s sites events c step.up step.due (begun_told sc h s sites records outs events step.made) b k

-- a line
line_on : (sc : Scenario) (h : List Entry) (n : ℕ) → n ≡ suc (lines h) → Counted sc h → Counted sc (h ++ record { owner = 0; act = Line n } ∷ [])
line_on sc h n next c = record {
  number = ap (λ (b : Binding). b.number) now ∙ next ∙ sym (lines_push h e ∙ (let one : count_by is_line (e ∷ []) ≡ 1 = refl in omega (arith, one)));
  count = λ s up. ap (λ (b : Binding). counts s b.begun_at) now ∙ sym (ap (λ l. begins_before (count_by (λ j. not (is_delivery j)) l) (inputs_at sc (h ++ e ∷ []) s)) (taken s));
  none = λ s bare. ap (λ (b : Binding). counts s b.begun_at) now;
  bound = λ b k. c.bound b (subst (λ (z : Binding). IsIn b z.bound) now k);
}
  where
    e : Entry
    e = record { owner = 0; act = Line n }

    now : binding sc (h ++ e ∷ []) ≡ record { number = n; begun_at = []; bound = (binding sc h).bound }
    now = binding_push sc h e

    taken : (s : ℕ) → taken_at (h ++ e ∷ []) s ≡ []
    taken s = ap (λ w. flat_map (λ (x : Entry). inputs_of x.act) (own_entries s w)) (ap (λ w. w.since) (split_push h e))

-- a step that is no begin
other_on : (sc : Scenario) (h : List Entry) (s : ℕ) (i : Input) (records : List Record) (outs : List Packet) (events : List Told) → is_begin i ≡ false
    → binding_by sc (binding sc h) (record { owner = s; act = Step i records outs events }) ≡ binding sc h → is_up_at h s ≡ true
    → (is_delivery i ≡ false → (slice_get (inputs_at sc h s) (turn_of h s) ≡ Some i) ⊎ (inputs_at sc h s ≡ [])) → Counted sc h
    → Counted sc (h ++ record { owner = s; act = Step i records outs events } ∷ [])
other_on sc h s i records outs events no_begin quiet up next c = quiet_on sc h e refl quiet (λ u. by (is_delivery i) refl ∙ ap (λ n. begins_before n (inputs_at sc h s)) (sym (turn_more h e i refl refl))) c
  where
    e : Entry
    e = record { owner = s; act = Step i records outs events }

    item_next : (slice_get (inputs_at sc h s) (turn_of h s) ≡ Some i) ⊎ (inputs_at sc h s ≡ []) → counts s (binding sc h).begun_at ≡ begins_before (suc (turn_of h s)) (inputs_at sc h s)
    item_next (inl at) = c.count s up ∙ sym (begins_next (turn_of h s) (inputs_at sc h s) i at ∙ ap (λ b. add_if b (begins_before (turn_of h s) (inputs_at sc h s))) no_begin)
    item_next (inr bare) = c.none s bare ∙ sym (ap (begins_before (suc (turn_of h s))) bare)

    by : (b : Bool) → is_delivery i ≡ b → counts s (binding sc h).begun_at ≡ begins_before (add_if (not (is_delivery i)) (turn_of h s)) (inputs_at sc h s)
    by true is = c.count s up ∙ ap (λ b. begins_before (add_if (not b) (turn_of h s)) (inputs_at sc h s)) (sym is)
    by false is = item_next (next is) ∙ ap (λ b. begins_before (add_if (not b) (turn_of h s)) (inputs_at sc h s)) (sym is)

-- a site that goes down
down_on : (sc : Scenario) (h : List Entry) (s : ℕ) (act : Act) → is_line (record { owner = s; act = act }) ≡ false → binding_by sc (binding sc h) (record { owner = s; act = act }) ≡ binding sc h
    → up_behind (is_up_at h s) act ≡ false → Counted sc h → Counted sc (h ++ record { owner = s; act = act } ∷ [])
down_on sc h s act stays quiet down c =
    quiet_on sc h (record { owner = s; act = act }) stays quiet (λ up. absurd (let gone : is_up_at (h ++ record { owner = s; act = act } ∷ []) s ≡ false = up_here h (record { owner = s; act = act }) ∙ down in cc)) c

-- an entry of the driver that asks nothing
driver_on : (sc : Scenario) (h : List Entry) (act : Act) → is_line (record { owner = 0; act = act }) ≡ false → binding_by sc (binding sc h) (record { owner = 0; act = act }) ≡ binding sc h
    → up_behind (is_up_at h 0) act ≡ is_up_at h 0 → inputs_of act ≡ [] → Counted sc h → Counted sc (h ++ record { owner = 0; act = act } ∷ [])
driver_on sc h act stays quiet up_stays none c =
    quiet_on sc h (record { owner = 0; act = act }) stays quiet
    (λ up. c.count 0 (sym up_stays ∙ sym (up_here h (record { owner = 0; act = act })) ∙ up) ∙ ap (λ n. begins_before n (inputs_at sc h 0)) (sym (turn_same h (record { owner = 0; act = act }) stays none))) c

pub step_on : (sc : Scenario) (h : List Entry) (names : Names sc.steps) (s : ℕ) (i : Input) (records : List Record) (outs : List Packet) (events : List Told)
    → IsStep sc h s i (Step i records outs events) → Counted sc h → Counted sc (h ++ record { owner = s; act = Step i records outs events } ∷ [])
step_on sc h names s (input.Begin sites) records outs events step c = begin_on sc h s sites records outs events step c
step_on sc h names s (input.Do u op) records outs events step c = other_on sc h s (input.Do u op) records outs events refl refl step.up (λ q. inl step.due.next) c
step_on sc h names s (input.Commit u) records outs events step c = other_on sc h s (input.Commit u) records outs events refl refl step.up (λ q. inl step.due.next) c
step_on sc h names s (input.Cancel u) records outs events step c = other_on sc h s (input.Cancel u) records outs events refl refl step.up (λ q. inl step.due.next) c
step_on sc h names s (input.Expire u) records outs events step c = other_on sc h s (input.Expire u) records outs events refl refl step.up (λ q. inl step.due.next) c
step_on sc h names s (input.Elect u group) records outs events step c = other_on sc h s (input.Elect u group) records outs events refl refl step.up (λ q. by step.due) c
  where
    by : IsNextItem sc h s (input.Elect u group) ⊎ IsRound sc h s u group → (slice_get (inputs_at sc h s) (turn_of h s) ≡ Some (input.Elect u group)) ⊎ (inputs_at sc h s ≡ [])
    by (inl next) = inl next.next
    by (inr round) = inr (round_bare sc h names s (λ none. (let some : due_round sc h ≡ Some (record { txn = u; members = group; elector = s }) = round.due in cc)))
step_on sc h names s (input.Deliver packet) records outs events step c = other_on sc h s (input.Deliver packet) records outs events refl refl step.up (λ q. cc) c

-- what is counted goes on to be counted
pub counted_on : (sc : Scenario) (h : List Entry) (names : Names sc.steps) (s : ℕ) (act : Act) → Guard sc h (record { owner = s; act = act }) → Counted sc h → Counted sc (h ++ record { owner = s; act = act } ∷ [])
counted_on sc h names zero (Line n) guard c = line_on sc h n guard.next c
counted_on sc h names zero (Parts parts) guard c = driver_on sc h (Parts parts) refl refl refl refl c
counted_on sc h names zero (Drop n) guard c = driver_on sc h (Drop n) refl refl refl refl c
counted_on sc h names zero (Step i records outs events) guard c = absurd guard
counted_on sc h names zero (Fall inputs records why) guard c = absurd guard
counted_on sc h names zero (Rise kept inc) guard c = absurd guard
counted_on sc h names zero (RiseFall kept inc why) guard c = absurd guard
counted_on sc h names zero Miss guard c = absurd guard
counted_on sc h names zero Cut guard c = absurd guard
counted_on sc h names (suc s) (Step i records outs events) guard c = step_on sc h names (suc s) i records outs events guard c
counted_on sc h names (suc s) (Fall inputs records why) guard c = down_on sc h (suc s) (Fall inputs records why) refl refl refl c
counted_on sc h names (suc s) (Rise kept inc) guard c =
    let e : Entry = record { owner = suc s; act = Rise kept inc } in
    let bare : inputs_at sc h (suc s) ≡ [] = rise_bare sc h names (suc s) (suc s) guard.rising.turn in
    quiet_on sc h e refl refl (λ up. c.none (suc s) bare ∙ sym (ap (begins_before (turn_of (h ++ e ∷ []) (suc s))) bare ∙ no_begins (turn_of (h ++ e ∷ []) (suc s)))) c
counted_on sc h names (suc s) (RiseFall kept inc why) guard c = down_on sc h (suc s) (RiseFall kept inc why) refl refl refl c
counted_on sc h names (suc s) Miss guard c = down_on sc h (suc s) Miss refl refl refl c
counted_on sc h names (suc s) Cut guard c = down_on sc h (suc s) Cut refl refl refl c
counted_on sc h names (suc s) (Drop n) guard c = absurd guard
counted_on sc h names (suc s) (Parts parts) guard c = absurd guard
counted_on sc h names (suc s) (Line n) guard c = absurd guard

pub counted_start : (sc : Scenario) → Counted sc []
counted_start sc = record { number = refl; count = λ s up. absurd (let down : false ≡ true = up in cc); none = λ s bare. refl; bound = λ b k. absurd k }
