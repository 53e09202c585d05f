-- Each transaction that is begun is new, so it has one name, and no more operations than the scenario has of that name.
use Rattle.std.proofs.Common.{◌≡◌, ◌==◌, ◌+◌, ◌++◌, ◌∷◌, [], ℕ, suc, ◌≤◌, ◌<◌, Bool, true, false, not, List, Option, Some, None, refl, sym, subst, ap, ◌∙◌, inl, inr, ◌⊎◌, fold, map, filter, take, drop, count_by, arith, append-nil, append_assoc, eq-eqb, length, if◌then◌else◌}
use Rattle.std.specs.Prelude.{slice_get, filter_map, Contains}
use Rattle.std.specs.List.{AllByRecursion as Each}
use Rattle.std.proofs.lemmas.Grind.{fold-append}
use Rattle.std.proofs.lemmas.List.{take-append-drop}
use Rattle.std.proofs.lemmas.List.Sums.{sum_by-append}
use Rattle.std.proofs.lemmas.List.Elements.{Contains-append_left, Contains-push_cases, recursion_from_All, All-contains_itself}
use Rattle.e3_types.specs.declared.entries.Act.{Act}
use Rattle.e3_types.specs.declared.entries.Act.TheVariants.{Step, Line}
use Rattle.e3_types.specs.declared.entries.Entry.{Entry}
use Rattle.e3_types.specs.declared.entries.Input.{Input}
use Rattle.e3_types.specs.declared.entries.Input.TheVariants as input
use Rattle.e3_types.specs.declared.entries.Told.TheVariants as told
use Rattle.e3_types.specs.declared.scenarios.Item.{Item}
use Rattle.e3_types.specs.declared.scenarios.Item.TheVariants as item
use Rattle.e3_types.specs.declared.scenarios.Scenario.{Scenario}
use Rattle.e3_types.specs.declared.transactions.Op.{Op}
use Rattle.e3_types.specs.declared.transactions.Txn.{Txn}
use Rattle.e3_types.specs.Same.{same_numbers, same_txn}
use Rattle.e3_types.proofs.SameSites.{same_numbers_eq}
use Rattle.e3_world.specs.declared.lives.Life.{Life}
use Rattle.e3_world.specs.declared.lives.Moment.{Moment}
use Rattle.e3_world.specs.declared.names.Binding.{Binding}
use Rattle.e3_world.specs.declared.names.Bound.{Bound}
use Rattle.e3_world.specs.Given.{IsGiven}
use Rattle.e3_world.specs.Items.{begin_names, binds, binding_by, last_bound, txn_of, input_of, plan_of, inputs_at, since_line, to_line, turn_of, is_up_at, is_delivery, recover_group}
use Rattle.e3_world.specs.Legal.{IsDue, IsNextItem, entry_of, made_by, numbered}
use Rattle.e3_world.specs.Lives.{life_at}
use Rattle.e3_world.specs.Logs.{logged_inc}
use Rattle.e3_world.specs.Moves.{Past, own_entries, past_of, moves_of, log_of, unnumbered, unnumbered_input}
use Rattle.e3_world.specs.Packets.{sent, lines, present_items, step_items, is_line}
use Rattle.e3_world.specs.Steps.{is_begin}
use Rattle.e3_world.specs.Operations.{issued}
use Rattle.e3_world.proofs.Guards.{lines_push}
use Rattle.e3_world.proofs.Readings.{up_same}
use Rattle.e3_laws.proofs.steps.Each.{each-append, each-weaker, each-map, each-filter, IfAny}
use Rattle.e3_laws.proofs.steps.Suits.Binding.{takes_begin, binding_push, no_recovery, step_no_begin}
use Rattle.e3_laws.proofs.steps.Suits.Turns.{TookInTurn, IsElect, step_input, items_taken, items_same, items_other, count_yes, count_not, count_one, take_next, present_to}
use Rattle.e3_laws.proofs.steps.Suits.Suiting.{each-get, mapped, consed}
use Rattle.e3_laws.proofs.steps.Suits.Holding.{split_from}
use Rattle.e3_laws.proofs.steps.Sound.Clocks.{ClockAt, AdvanceAt, more_at, moments_of, stepped_inc}
use Rattle.e3_laws.proofs.steps.Operations.Counting.{does, ops_named, ops_before, ops_few, next_ops, OnlyName, asked_few, issued_few}
use Rattle.e3_laws.proofs.steps.Tests.{same_is, same_self}
use Rattle.e3_laws.proofs.steps.Items.{binding}

-- what a history has bound, and the life of a site in it
abbrev pub bound_in : Scenario → List Entry → List Bound
bound_in sc h = (binding sc h).bound

abbrev pub life_in : Scenario → List Entry → ℕ → Life
life_in sc h s = life_at (moves_of sc h s)

-- the transaction is bound
abbrev pub IsKnown : List Bound → Txn → Type 0
IsKnown bound t = (b : Bound) × Contains bound b × (b.txn ≡ t)

-- an operation is of a transaction that is bound
abbrev pub KnownInput : List Bound → Input → Type 0
KnownInput bound (input.Do t op) = IsKnown bound t
KnownInput bound i = Unit {0}

-- transactions are new
pub record Fresh (sc : Scenario) (h : List Entry) : Type 0 where
  pub clocks : (s : ℕ) → ClockAt sc h s
  pub incs : (b : Bound) → Contains (bound_in sc h) b → b.txn.inc ≤ logged_inc (log_of sc h b.txn.site)
  pub seqs : (b : Bound) → Contains (bound_in sc h) b → is_up_at h b.txn.site ≡ true → b.txn.inc ≡ (life_in sc h b.txn.site).inc →
      b.txn.seq ≤ count_by is_begin (life_in sc h b.txn.site).steps
  pub once : (b c : Bound) → Contains (bound_in sc h) b → Contains (bound_in sc h) c → b.txn ≡ c.txn → b.name ≡ c.name
  pub known : (s : ℕ) → is_up_at h s ≡ true → Each (λ m. KnownInput (bound_in sc h) m.input) (life_in sc h s).steps
  pub counts : (s : ℕ) → is_up_at h s ≡ true → (b : Bound) → Contains (bound_in sc h) b →
      count_by (λ m. does b.txn m.input) (life_in sc h s).steps ≤ ops_before sc (lines h) b.name + count_by (does b.txn) (items_taken h s)

-- the transaction is the next that the site begins, and begun by this entry
pub record IsNew (sc : Scenario) (h : List Entry) (e : Entry) (b : Bound) : Type 0 where
  pub up : is_up_at h b.txn.site ≡ true
  pub inc : b.txn.inc ≡ (life_in sc h b.txn.site).inc
  pub seq : b.txn.seq ≡ suc (count_by is_begin (life_in sc h b.txn.site).steps)
  pub begun : b.txn.seq ≤ count_by is_begin (life_in sc (h ++ e ∷ []) b.txn.site).steps

known_more : (xs ys : List Bound) (i : Input) → KnownInput xs i → KnownInput (xs ++ ys) i
known_more xs ys (input.Do t op) is = (is.0, Contains-append_left xs ys is.0 is.1, is.2)
known_more xs ys i is = tt

none_done : (t : Txn) (steps : List Moment) → Each (λ m. does t m.input ≡ false) steps → count_by (λ m. does t m.input) steps ≡ 0
none_done t [] all = refl
none_done t (m ∷ steps) all = count_not (λ m. does t m.input) m steps all.0 ∙ none_done t steps all.1

-- an operation of a transaction that is bound is not one of another
other_does : (bound : List Bound) (t : Txn) (i : Input) → ((c : Bound) → Contains bound c → c.txn ≡ t → ⊥) → KnownInput bound i → does t i ≡ false
other_does bound t (input.Do u op) new known = by (same_txn t u) refl
  where
    by : (b : Bool) → same_txn t u ≡ b → b ≡ false
    by true is = absurd (new known.0 known.1 (known.2 ∙ sym (same_is t u is)))
    by false is = refl
other_does bound t i new known = refl

-- what a site has behind one more entry
lives_on : (sc : Scenario) (h : List Entry) (e : Entry) (s : ℕ) (P : Moment → Type 0) → AdvanceAt sc h e s → is_up_at (h ++ e ∷ []) s ≡ true →
    (is_up_at h s ≡ true → Each P (life_in sc h s).steps) → Each P (more_at sc h e s) → Each P (life_in sc (h ++ e ∷ []) s).steps
lives_on sc h e s P adv up was more = elim (adv.advances.lives up) [
  | inl on ↦ (let Q : List Moment → Type 0 = Each P in subst Q (sym on.2) (each-append P (life_in sc h s).steps (more_at sc h e s) (was on.0) more))
  | inr new ↦ (let Q : List Moment → Type 0 = Each P in subst Q (sym new.1) tt)
]

module _ (sc : Scenario) (h : List Entry) (e : Entry) (was : Fresh sc h) (adv : (s : ℕ) → AdvanceAt sc h e s) where
  old_incs : (b : Bound) → Contains (bound_in sc h) b → b.txn.inc ≤ logged_inc (log_of sc (h ++ e ∷ []) b.txn.site)
  old_incs b has = let low : b.txn.inc ≤ logged_inc (log_of sc h b.txn.site) = was.incs b has in
      let more : logged_inc (log_of sc h b.txn.site) ≤ logged_inc (log_of sc (h ++ e ∷ []) b.txn.site) = (adv b.txn.site).advances.logs in omega (arith, low, more)

  old_seqs : (b : Bound) → Contains (bound_in sc h) b → is_up_at (h ++ e ∷ []) b.txn.site ≡ true → b.txn.inc ≡ (life_in sc (h ++ e ∷ []) b.txn.site).inc →
      b.txn.seq ≤ count_by is_begin (life_in sc (h ++ e ∷ []) b.txn.site).steps
  old_seqs b has up same = elim ((adv b.txn.site).advances.lives up) [
    | inl on ↦ (let few : b.txn.seq ≤ count_by is_begin (life_in sc h b.txn.site).steps = was.seqs b has on.0 (same ∙ on.1) in
        let more : count_by is_begin (life_in sc (h ++ e ∷ []) b.txn.site).steps ≡ count_by is_begin (life_in sc h b.txn.site).steps + count_by is_begin (more_at sc h e b.txn.site) =
        ap (count_by is_begin) on.2 ∙ sum_by-append _ (life_in sc h b.txn.site).steps (more_at sc h e b.txn.site) in
        omega (arith, few, more))
    | inr new ↦ (let low : b.txn.inc ≤ logged_inc (log_of sc h b.txn.site) = was.incs b has in
        let above : logged_inc (log_of sc h b.txn.site) < (life_in sc (h ++ e ∷ []) b.txn.site).inc = new.0 in absurd (omega (arith, low, above, same)))
  ]

  old_known : ((s : ℕ) → Each (λ m. KnownInput (bound_in sc h) m.input) (more_at sc h e s)) → (s : ℕ) → is_up_at (h ++ e ∷ []) s ≡ true →
      Each (λ m. KnownInput (bound_in sc h) m.input) (life_in sc (h ++ e ∷ []) s).steps
  old_known more s up = lives_on sc h e s (λ m. KnownInput (bound_in sc h) m.input) (adv s) up (λ was_up. was.known s was_up) (more s)

  -- an entry that binds nothing
  fresh_same : bound_in sc (h ++ e ∷ []) ≡ bound_in sc h →
      ((s : ℕ) → Each (λ m. KnownInput (bound_in sc h) m.input) (more_at sc h e s)) →
      ((s : ℕ) → is_up_at (h ++ e ∷ []) s ≡ true → (b : Bound) → Contains (bound_in sc h) b →
      count_by (λ m. does b.txn m.input) (life_in sc (h ++ e ∷ []) s).steps ≤ ops_before sc (lines (h ++ e ∷ [])) b.name + count_by (does b.txn) (items_taken (h ++ e ∷ []) s)) →
      Fresh sc (h ++ e ∷ [])
  fresh_same same more counts = record {
    clocks = λ s. (adv s).clocked;
    incs = λ b has. old_incs b (back b has);
    seqs = λ b has. old_seqs b (back b has);
    once = λ b c first second. was.once b c (back b first) (back c second);
    known = λ s up. let P : List Bound → Type 0 = λ l. Each (λ m. KnownInput l m.input) (life_in sc (h ++ e ∷ []) s).steps in subst P (sym same) (old_known more s up);
    counts = λ s up b has. counts s up b (back b has);
  }
    where
      back : (b : Bound) → Contains (bound_in sc (h ++ e ∷ [])) b → Contains (bound_in sc h) b
      back b has = let P : List Bound → Type 0 = λ l. Contains l b in subst P same has

  -- an entry that begins a transaction
  fresh_new : (b : Bound) → bound_in sc (h ++ e ∷ []) ≡ bound_in sc h ++ b ∷ [] → IsNew sc h e b →
      ((s : ℕ) → Each (λ m. KnownInput (bound_in sc h) m.input) (more_at sc h e s)) →
      ((s : ℕ) → is_up_at (h ++ e ∷ []) s ≡ true → (c : Bound) → Contains (bound_in sc h) c →
      count_by (λ m. does c.txn m.input) (life_in sc (h ++ e ∷ []) s).steps ≤ ops_before sc (lines (h ++ e ∷ [])) c.name + count_by (does c.txn) (items_taken (h ++ e ∷ []) s)) →
      Fresh sc (h ++ e ∷ [])
  fresh_new b same new more counts = record {
    clocks = λ s. (adv s).clocked;
    incs = λ c has. elim (either c has) [
      | inl old ↦ old_incs c old
      | inr is ↦ (let P : Bound → Type 0 = λ d. d.txn.inc ≤ logged_inc (log_of sc (h ++ e ∷ []) d.txn.site) in subst P is (
          let now : (life_in sc h b.txn.site).inc ≡ logged_inc (log_of sc h b.txn.site) = (was.clocks b.txn.site).same new.up in
          let grows : logged_inc (log_of sc h b.txn.site) ≤ logged_inc (log_of sc (h ++ e ∷ []) b.txn.site) = (adv b.txn.site).advances.logs in
          let own : b.txn.inc ≡ (life_in sc h b.txn.site).inc = new.inc in omega (arith, now, grows, own)))
    ];
    seqs = λ c has. elim (either c has) [
      | inl old ↦ old_seqs c old
      | inr is ↦ (let P : Bound → Type 0 = λ d. is_up_at (h ++ e ∷ []) d.txn.site ≡ true → d.txn.inc ≡ (life_in sc (h ++ e ∷ []) d.txn.site).inc →
          d.txn.seq ≤ count_by is_begin (life_in sc (h ++ e ∷ []) d.txn.site).steps in subst P is (λ up own. new.begun))
    ];
    once = λ c d first second alike. elim (either c first) [
      | inl old ↦ elim (either d second) [
        | inl older ↦ was.once c d old older alike
        | inr is ↦ absurd (differs c old (alike ∙ ap (λ x. x.txn) (sym is)))
      ]
      | inr this ↦ elim (either d second) [
        | inl older ↦ absurd (differs d older (sym alike ∙ ap (λ x. x.txn) (sym this)))
        | inr is ↦ ap (λ x. x.name) (sym this ∙ is)
      ]
    ];
    known = λ s up. let P : List Bound → Type 0 = λ l. Each (λ m. KnownInput l m.input) (life_in sc (h ++ e ∷ []) s).steps in
        subst P (sym same) (each-weaker (λ m. KnownInput (bound_in sc h) m.input) (λ m. KnownInput (bound_in sc h ++ b ∷ []) m.input)
        (λ m known. known_more (bound_in sc h) (b ∷ []) m.input known) (life_in sc (h ++ e ∷ []) s).steps (old_known more s up));
    counts = λ s up c has. elim (either c has) [
      | inl old ↦ counts s up c old
      | inr is ↦ (let P : Bound → Type 0 = λ d. count_by (λ m. does d.txn m.input) (life_in sc (h ++ e ∷ []) s).steps ≤ ops_before sc (lines (h ++ e ∷ [])) d.name + count_by (does d.txn) (items_taken (h ++ e ∷ []) s) in
          subst P is (let none : count_by (λ m. does b.txn m.input) (life_in sc (h ++ e ∷ []) s).steps ≡ 0 = none_done b.txn (life_in sc (h ++ e ∷ []) s).steps
          (each-weaker (λ m. KnownInput (bound_in sc h) m.input) (λ m. does b.txn m.input ≡ false) (λ m known. other_does (bound_in sc h) b.txn m.input differs known)
          (life_in sc (h ++ e ∷ []) s).steps (old_known more s up)) in omega (arith, none)))
    ];
  }
    where
      either : (c : Bound) → Contains (bound_in sc (h ++ e ∷ [])) c → Contains (bound_in sc h) c ⊎ (b ≡ c)
      either c has = let P : List Bound → Type 0 = λ l. Contains l c in Contains-push_cases (bound_in sc h) b c (subst P same has)

      differs : (c : Bound) → Contains (bound_in sc h) c → c.txn ≡ b.txn → ⊥
      differs c has is =
          let P : Txn → Type 0 = λ t. is_up_at h t.site ≡ true in
          let Q : Txn → Type 0 = λ t. t.inc ≡ (life_in sc h t.site).inc in
          let R : Txn → Type 0 = λ t. t.seq ≡ suc (count_by is_begin (life_in sc h t.site).steps) in
          let few : c.txn.seq ≤ count_by is_begin (life_in sc h c.txn.site).steps = was.seqs c has (subst P (sym is) new.up) (subst Q (sym is) new.inc) in
          let more : c.txn.seq ≡ suc (count_by is_begin (life_in sc h c.txn.site).steps) = subst R (sym is) new.seq in
          omega (arith, few, more)

-- what was bound at the last line is bound now
pub binds_more : (sc : Scenario) (w : Binding) (act : Act) (owner : ℕ) → (extra : List Bound) × ((binding_by sc w (record { owner = owner; act = act })).bound ≡ w.bound ++ extra)
binds_more sc w (Step (input.Begin sites) records outs events) owner = (_, refl)
binds_more sc w (Step i records outs events) owner = ([], sym (append-nil w.bound))
binds_more sc w act owner = ([], sym (append-nil w.bound))

binds_on : (sc : Scenario) (w : Binding) (es : List Entry) → (extra : List Bound) × ((fold (binding_by sc) w es).bound ≡ w.bound ++ extra)
binds_on sc w [] = ([], sym (append-nil w.bound))
binds_on sc w (e ∷ es) =
    let one : _ = binds_more sc w e.act e.owner in
    let more : _ = binds_on sc (binding_by sc w e) es in
    (one.0 ++ more.0, more.1 ∙ ap (λ l. l ++ more.0) one.1 ∙ append_assoc w.bound one.0 more.0)

pub whole : (h : List Entry) → to_line h ++ since_line h ≡ h
whole h = split_from (record { to = []; since = [] }) h

pub bound_to : (sc : Scenario) (h : List Entry) → (extra : List Bound) × (bound_in sc h ≡ bound_in sc (to_line h) ++ extra)
bound_to sc h =
    let more : _ = binds_on sc (binding sc (to_line h)) (since_line h) in
    (more.0, ap (λ l. (binding sc l).bound) (sym (whole h)) ∙ ap (λ w. w.bound) (fold-append (binding_by sc) _ (to_line h) (since_line h)) ∙ more.1)

pub bound_later : (sc : Scenario) (h : List Entry) (b : Bound) → Contains (bound_in sc (to_line h)) b → Contains (bound_in sc h) b
bound_later sc h b has = let more : _ = bound_to sc h in
    let P : List Bound → Type 0 = λ l. Contains l b in subst P (sym more.1) (Contains-append_left (bound_in sc (to_line h)) more.0 b has)

-- the transaction of a name is one that is bound to it
abbrev pub Found : List Bound → List ℕ → Txn → Type 0
Found bound name t = (b : Bound) × Contains bound b × (b.name ≡ name) × (b.txn ≡ t)

found_last : (bound : List Bound) (name : List ℕ) (was : Option Txn) (bs : List Bound) → IfAny (Found bound name) was → Each (Contains bound) bs →
    IfAny (Found bound name) (fold (last_bound name) was bs)
found_last bound name was [] first all = first
found_last bound name was (b ∷ bs) first all = found_last bound name (last_bound name was b) bs (by (same_numbers name b.name) refl) all.1
  where
    by : (c : Bool) → same_numbers name b.name ≡ c → IfAny (Found bound name) (if same_numbers name b.name then Some b.txn else was)
    by true is = rw is (b, all.0, sym (same_numbers_eq name b.name is), refl)
    by false is = rw is first

pub txn_found : (sc : Scenario) (k : List Entry) (name : List ℕ) → IfAny (Found (bound_in sc k) name) (txn_of sc k name)
txn_found sc k name = found_last (bound_in sc k) name None (bound_in sc k) tt
    (recursion_from_All (Contains (bound_in sc k)) (bound_in sc k) (All-contains_itself (bound_in sc k)))

item_known : (sc : Scenario) (k : List Entry) (it : Item) → IfAny (λ a. KnownInput (bound_in sc k) a.input) (input_of sc k it)
item_known sc k (item.Begin name site sites) = tt
item_known sc k (item.Read name key) = mapped (Found (bound_in sc k) name) (λ a. KnownInput (bound_in sc k) a.input) _ (txn_of sc k name) (λ t found. (found.0, found.1, found.3)) (txn_found sc k name)
item_known sc k (item.Write name key val) = mapped (Found (bound_in sc k) name) (λ a. KnownInput (bound_in sc k) a.input) _ (txn_of sc k name) (λ t found. (found.0, found.1, found.3)) (txn_found sc k name)
item_known sc k (item.Commit name) = mapped (Found (bound_in sc k) name) (λ a. KnownInput (bound_in sc k) a.input) _ (txn_of sc k name) (λ t found. tt) (txn_found sc k name)
item_known sc k (item.Cancel name) = mapped (Found (bound_in sc k) name) (λ a. KnownInput (bound_in sc k) a.input) _ (txn_of sc k name) (λ t found. tt) (txn_found sc k name)
item_known sc k (item.Expire site name) = mapped (Found (bound_in sc k) name) (λ a. KnownInput (bound_in sc k) a.input) _ (txn_of sc k name) (λ t found. tt) (txn_found sc k name)
item_known sc k (item.Elect site name sites) = mapped (Found (bound_in sc k) name) (λ a. KnownInput (bound_in sc k) a.input) _ (txn_of sc k name) (λ t found. tt) (txn_found sc k name)
item_known sc k it = tt

plan_known : (sc : Scenario) (k : List Entry) (items : List Item) → Each (λ a. KnownInput (bound_in sc k) a.input) (filter_map (input_of sc k) items)
plan_known sc k [] = tt
plan_known sc k (it ∷ items) = consed (λ a. KnownInput (bound_in sc k) a.input) (input_of sc k it) (filter_map (input_of sc k) items) (item_known sc k it) (plan_known sc k items)

next_known : (sc : Scenario) (h : List Entry) (site : ℕ) (i : Input) → IsNextItem sc h site i → KnownInput (bound_in sc h) i
next_known sc h site i next =
    let k : List Entry = to_line h in
    let more : _ = bound_to sc h in
    let P : List Bound → Type 0 = λ l. KnownInput l i in
    subst P (sym more.1) (known_more (bound_in sc k) more.0 i
    (each-get (KnownInput (bound_in sc k)) (inputs_at sc h site) (turn_of h site) i
    (each-map (KnownInput (bound_in sc k)) (λ a. a.input) (filter (λ a. a.site == site) (plan_of sc h))
    (each-filter (λ a. KnownInput (bound_in sc k) a.input) (λ a. a.site == site) (plan_of sc h) (plan_known sc k (present_items sc k)))) next.next))

pub due_known : (sc : Scenario) (h : List Entry) (site : ℕ) (i : Input) → IsDue sc h site i → KnownInput (bound_in sc h) i
due_known sc h site (input.Do t op) due = next_known sc h site (input.Do t op) due
due_known sc h site i due = tt

-- where nothing is done the counts stay
pub still_more : (b : Bool) (xs : List Moment) → xs ≡ [] → (if b then xs else []) ≡ []
still_more true xs none = none
still_more false xs none = refl

pub quiet_fresh : (sc : Scenario) (h : List Entry) (e : Entry) → Fresh sc h → ((s : ℕ) → AdvanceAt sc h e s) → is_line e ≡ false → step_input e.act ≡ [] →
    ((w : Past) → moments_of w e.act ≡ []) → binding_by sc (binding sc h) e ≡ binding sc h → Fresh sc (h ++ e ∷ [])
quiet_fresh sc h e was adv stays none still same = fresh_same sc h e was adv (ap (λ w. w.bound) (binding_push sc h e ∙ same))
    (λ s. let P : List Moment → Type 0 = Each (λ m. KnownInput (bound_in sc h) m.input) in subst P (sym (nothing s)) tt)
    (λ s up b has. counts s up b has)
  where
    nothing : (s : ℕ) → more_at sc h e s ≡ []
    nothing s = still_more (e.owner == s) (moments_of (past_of sc s (own_entries s h)) e.act) (still (past_of sc s (own_entries s h)))

    items : (s : ℕ) → items_taken (h ++ e ∷ []) s ≡ items_taken h s
    items s = by (e.owner == s) refl
      where
        by : (b : Bool) → (e.owner == s) ≡ b → items_taken (h ++ e ∷ []) s ≡ items_taken h s
        by true is = items_same h e s stays is ∙ ap (λ l. items_taken h s ++ filter (λ i. not (is_delivery i)) l) none ∙ append-nil (items_taken h s)
        by false is = items_other h e s stays is

    line : lines (h ++ e ∷ []) ≡ lines h
    line = lines_push h e ∙ rw stays (omega arith)

    counts : (s : ℕ) → is_up_at (h ++ e ∷ []) s ≡ true → (b : Bound) → Contains (bound_in sc h) b →
        count_by (λ m. does b.txn m.input) (life_in sc (h ++ e ∷ []) s).steps ≤ ops_before sc (lines (h ++ e ∷ [])) b.name + count_by (does b.txn) (items_taken (h ++ e ∷ []) s)
    counts s up b has = elim ((adv s).advances.lives up) [
      | inl on ↦ (let few : count_by (λ m. does b.txn m.input) (life_in sc h s).steps ≤ ops_before sc (lines h) b.name + count_by (does b.txn) (items_taken h s) = was.counts s on.0 b has in
          let now : _ = ap (count_by (λ m. does b.txn m.input)) (on.2 ∙ ap (λ l. (life_in sc h s).steps ++ l) (nothing s) ∙ append-nil (life_in sc h s).steps) in
          let taken : _ = ap (count_by (does b.txn)) (items s) in
          let before : _ = ap (λ n. ops_before sc n b.name) line in
          omega (arith, few, now, taken, before))
      | inr new ↦ (let now : count_by (λ m. does b.txn m.input) (life_in sc (h ++ e ∷ []) s).steps ≡ 0 = ap (count_by (λ m. does b.txn m.input)) new.1 in omega (arith, now))
    ]

-- only one name is bound to a transaction
pub only_name : (sc : Scenario) (h : List Entry) (b : Bound) → Fresh sc h → Contains (bound_in sc h) b → OnlyName sc (to_line h) b.txn b.name
only_name sc h b was has called = by (txn_of sc (to_line h) called) (txn_found sc (to_line h) called)
  where
    by : (o : Option Txn) → IfAny (Found (bound_in sc (to_line h)) called) o → IfAny (λ u. same_txn b.txn u ≡ true → called ≡ b.name) o
    by None found = tt
    by (Some u) found = λ same. sym found.2 ∙ was.once found.0 b (bound_later sc h found.0 found.1) has (found.3 ∙ sym (same_is b.txn u same))

-- what the present step asks of a site for a transaction
pub present_few : (sc : Scenario) (h : List Entry) (b : Bound) (s : ℕ) → Fresh sc h → Contains (bound_in sc h) b →
    count_by (does b.txn) (inputs_at sc h s) ≤ ops_named b.name (present_items sc h)
present_few sc h b s was has =
    let few : count_by (does b.txn) (inputs_at sc h s) ≤ ops_named b.name (present_items sc (to_line h)) =
    asked_few sc (to_line h) b.txn b.name s (present_items sc (to_line h)) (only_name sc h b was has) in
    let same : _ = ap (ops_named b.name) (present_to sc h) in omega (arith, few, same)

count_take : (t : Txn) (n : ℕ) (xs : List Input) → count_by (does t) (take n xs) ≤ count_by (does t) xs
count_take t n xs =
    let both : count_by (does t) (take n xs ++ drop n xs) ≡ count_by (does t) (take n xs) + count_by (does t) (drop n xs) = sum_by-append _ (take n xs) (drop n xs) in
    let same : _ = ap (count_by (does t)) (take-append-drop n xs) in omega (arith, both, same)

elects_none : (t : Txn) (xs : List Input) → Each IsElect xs → count_by (does t) xs ≡ 0
elects_none t [] all = refl
elects_none t (input.Elect u group ∷ xs) all = count_not (does t) (input.Elect u group) xs refl ∙ elects_none t xs all.1
elects_none t (i ∷ xs) all = absurd all.0

-- what a site took for a transaction in the present step
taken_few : (sc : Scenario) (h : List Entry) (b : Bound) (s : ℕ) → Fresh sc h → TookInTurn sc h → is_up_at h s ≡ true → Contains (bound_in sc h) b →
    count_by (does b.txn) (items_taken h s) ≤ ops_named b.name (present_items sc h)
taken_few sc h b s was took up has = by (recover_group (present_items sc h)) refl
  where
    by : (o : Option (List ℕ)) → recover_group (present_items sc h) ≡ o → count_by (does b.txn) (items_taken h s) ≤ ops_named b.name (present_items sc h)
    by None is =
        let same : _ = ap (count_by (does b.txn)) (took.items s up is) in
        let few : _ = count_take b.txn (turn_of h s) (inputs_at sc h s) in
        let all : _ = present_few sc h b s was has in omega (arith, same, few, all)
    by (Some group) is = let none : _ = elects_none b.txn (items_taken h s) (took.rounds s group is) in omega (arith, none)

-- a line
pub line_fresh : (sc : Scenario) (h : List Entry) (number : ℕ) → Fresh sc h → TookInTurn sc h → ((s : ℕ) → AdvanceAt sc h (record { owner = 0; act = Line number }) s) →
    Fresh sc (h ++ record { owner = 0; act = Line number } ∷ [])
line_fresh sc h number was took adv = fresh_same sc h e was adv (ap (λ w. w.bound) (binding_push sc h e))
    (λ s. let P : List Moment → Type 0 = Each (λ m. KnownInput (bound_in sc h) m.input) in subst P (sym (nothing s)) tt)
    (λ s up b has. counts s up b has)
  where
    e : Entry
    e = record { owner = 0; act = Line number }

    nothing : (s : ℕ) → more_at sc h (record { owner = 0; act = Line number }) s ≡ []
    nothing s = still_more (0 == s) [] refl

    counts : (s : ℕ) → is_up_at (h ++ e ∷ []) s ≡ true → (b : Bound) → Contains (bound_in sc h) b →
        count_by (λ m. does b.txn m.input) (life_in sc (h ++ e ∷ []) s).steps ≤ ops_before sc (lines (h ++ e ∷ [])) b.name + count_by (does b.txn) (items_taken (h ++ e ∷ []) s)
    counts s up b has = elim ((adv s).advances.lives up) [
      | inl on ↦ (let few : count_by (λ m. does b.txn m.input) (life_in sc h s).steps ≤ ops_before sc (lines h) b.name + count_by (does b.txn) (items_taken h s) = was.counts s on.0 b has in
          let now : _ = ap (count_by (λ m. does b.txn m.input)) (on.2 ∙ ap (λ l. (life_in sc h s).steps ++ l) (nothing s) ∙ append-nil (life_in sc h s).steps) in
          let taken : _ = taken_few sc h b s was took on.0 has in
          let line : lines (h ++ e ∷ []) ≡ suc (lines h) = (let one : lines (h ++ e ∷ []) ≡ lines h + count_by is_line (e ∷ []) = lines_push h e in omega (arith, one)) in
          let before : _ = ap (λ n. ops_before sc n b.name) line ∙ next_ops sc (lines h) b.name in
          omega (arith, few, now, taken, before))
      | inr new ↦ (let now : count_by (λ m. does b.txn m.input) (life_in sc (h ++ e ∷ []) s).steps ≡ 0 = ap (count_by (λ m. does b.txn m.input)) new.1 in omega (arith, now))
    ]

-- a step: what it does is what it took
step_one : (t : Txn) (m : Moment) (i : Input) → m.input ≡ unnumbered_input i →
    count_by (λ x. does t x.input) (m ∷ []) ≤ count_by (does t) (filter (λ j. not (is_delivery j)) (i ∷ []))
step_one t m (input.Do u op) same = by (same_txn t u) refl
  where
    by : (b : Bool) → same_txn t u ≡ b → count_by (λ x. does t x.input) (m ∷ []) ≤ count_by (does t) (input.Do u op ∷ [])
    by true is =
        let one : _ = count_yes (λ x. does t x.input) m [] (ap (does t) same ∙ is) in
        let other : _ = count_yes (does t) (input.Do u op) [] is in omega (arith, one, other)
    by false is = let one : _ = count_not (λ x. does t x.input) m [] (ap (does t) same ∙ is) in omega (arith, one)
step_one t m i same = let one : _ = count_not (λ x. does t x.input) m [] (ap (does t) same) in omega (arith, one)

unnumbered_known : (bound : List Bound) (i : Input) → KnownInput bound i → KnownInput bound (unnumbered_input i)
unnumbered_known bound (input.Do t op) known = known
unnumbered_known bound (input.Deliver p) known = tt
unnumbered_known bound i known = tt

module _ (sc : Scenario) (h : List Entry) (site : ℕ) (i : Input) (was : Fresh sc h) (adv : (s : ℕ) → AdvanceAt sc h (entry_of sc h site i) s)
    (known : KnownInput (bound_in sc h) i) where
  step_known : (s : ℕ) → Each (λ m. KnownInput (bound_in sc h) m.input) (more_at sc h (entry_of sc h site i) s)
  step_known s = by (site == s)
    where
      by : (b : Bool) → Each (λ m. KnownInput (bound_in sc h) m.input) (if b then moments_of (past_of sc s (own_entries s h)) (entry_of sc h site i).act else [])
      by true = (unnumbered_known (bound_in sc h) i known, tt)
      by false = tt

  step_counts : (s : ℕ) → is_up_at (h ++ entry_of sc h site i ∷ []) s ≡ true → (b : Bound) → Contains (bound_in sc h) b →
      count_by (λ m. does b.txn m.input) (life_in sc (h ++ entry_of sc h site i ∷ []) s).steps
      ≤ ops_before sc (lines (h ++ entry_of sc h site i ∷ [])) b.name + count_by (does b.txn) (items_taken (h ++ entry_of sc h site i ∷ []) s)
  step_counts s up b has = elim ((adv s).advances.lives up) [
    | inl on ↦ (let few : count_by (λ m. does b.txn m.input) (life_in sc h s).steps ≤ ops_before sc (lines h) b.name + count_by (does b.txn) (items_taken h s) = was.counts s on.0 b has in
        let now : count_by (λ m. does b.txn m.input) (life_in sc (h ++ entry_of sc h site i ∷ []) s).steps
        ≡ count_by (λ m. does b.txn m.input) (life_in sc h s).steps + count_by (λ m. does b.txn m.input) (more_at sc h (entry_of sc h site i) s) =
        ap (count_by (λ m. does b.txn m.input)) on.2 ∙ sum_by-append _ (life_in sc h s).steps (more_at sc h (entry_of sc h site i) s) in
        let taken : count_by (λ m. does b.txn m.input) (more_at sc h (entry_of sc h site i) s) + count_by (does b.txn) (items_taken h s)
        ≤ count_by (does b.txn) (items_taken (h ++ entry_of sc h site i ∷ []) s) = by (site == s) refl in
        let line : lines (h ++ entry_of sc h site i ∷ []) ≡ lines h = lines_push h (entry_of sc h site i) ∙ omega arith in
        let before : _ = ap (λ n. ops_before sc n b.name) line in
        omega (arith, few, now, taken, before))
    | inr new ↦ (let now : count_by (λ m. does b.txn m.input) (life_in sc (h ++ entry_of sc h site i ∷ []) s).steps ≡ 0 = ap (count_by (λ m. does b.txn m.input)) new.1 in omega (arith, now))
  ]
    where
      by : (c : Bool) → (site == s) ≡ c → count_by (λ m. does b.txn m.input) (more_at sc h (entry_of sc h site i) s) + count_by (does b.txn) (items_taken h s)
          ≤ count_by (does b.txn) (items_taken (h ++ entry_of sc h site i ∷ []) s)
      by true is =
          let w : Past = past_of sc s (own_entries s h) in
          let m : Moment = record { before = (life_at w.moves).log; input = unnumbered_input i; records = (made_by sc h site i).records; outs = map unnumbered (numbered (suc (length (sent h))) (made_by sc h site i).outs); told = (made_by sc h site i).told } in
          let now : more_at sc h (entry_of sc h site i) s ≡ m ∷ [] = rw is refl in
          let count : _ = ap (count_by (λ x. does b.txn x.input)) now in
          let one : _ = step_one b.txn m i refl in
          let more : count_by (does b.txn) (items_taken (h ++ entry_of sc h site i ∷ []) s) ≡ count_by (does b.txn) (items_taken h s) + count_by (does b.txn) (filter (λ j. not (is_delivery j)) (i ∷ [])) =
          ap (count_by (does b.txn)) (items_same h (entry_of sc h site i) s refl is) ∙ sum_by-append _ (items_taken h s) (filter (λ j. not (is_delivery j)) (i ∷ [])) in
          omega (arith, count, one, more)
      by false is =
          let now : more_at sc h (entry_of sc h site i) s ≡ [] = rw is refl in
          let count : _ = ap (count_by (λ x. does b.txn x.input)) now in
          let same : _ = ap (count_by (does b.txn)) (items_other h (entry_of sc h site i) s refl is) in
          omega (arith, count, same)

  -- a step that begins nothing
  other_fresh : takes_begin i ≡ false → Fresh sc (h ++ entry_of sc h site i ∷ [])
  other_fresh begins_no = fresh_same sc h (entry_of sc h site i) was adv
      (ap (λ w. w.bound) (binding_push sc h (entry_of sc h site i) ∙ step_no_begin sc h site i begins_no)) step_known step_counts

-- a step that begins a transaction
begin_fresh : (sc : Scenario) (h : List Entry) (site : ℕ) (sites : List ℕ) → Fresh sc h → is_up_at h site ≡ true →
    ((s : ℕ) → AdvanceAt sc h (entry_of sc h site (input.Begin sites)) s) → Fresh sc (h ++ entry_of sc h site (input.Begin sites) ∷ [])
begin_fresh sc h site sites was up adv = by (slice_get (begin_names site (step_items sc (binding sc h).number)) (count_by (λ s. s == site) (binding sc h).begun_at)) refl
  where
    t : Txn
    t = record { site = site; inc = (life_in sc h site).inc; seq = suc (count_by is_begin (life_in sc h site).steps); sites = sites }

    push : bound_in sc (h ++ entry_of sc h site (input.Begin sites) ∷ []) ≡ bound_in sc h ++ binds (slice_get (begin_names site (step_items sc (binding sc h).number)) (count_by (λ s. s == site) (binding sc h).begun_at)) (told.Began t ∷ [])
    push = ap (λ w. w.bound) (binding_push sc h (entry_of sc h site (input.Begin sites)))

    begun : suc (count_by is_begin (life_in sc h site).steps) ≤ count_by is_begin (life_in sc (h ++ entry_of sc h site (input.Begin sites) ∷ []) site).steps
    begun = elim ((adv site).advances.lives (up_same h (entry_of sc h site (input.Begin sites)) site (eq-eqb site site refl) ∙ up)) [
      | inl on ↦ (let w : Past = past_of sc site (own_entries site h) in
          let m : Moment = record { before = (life_at w.moves).log; input = input.Begin sites; records = []; outs = []; told = told.Began t ∷ [] } in
          let now : more_at sc h (entry_of sc h site (input.Begin sites)) site ≡ m ∷ [] = rw (eq-eqb site site refl) refl in
          let same : _ = ap (count_by is_begin) (on.2 ∙ ap (λ l. (life_in sc h site).steps ++ l) now) ∙ count_one is_begin (life_in sc h site).steps m refl in
          omega (arith, same))
      | inr new ↦ (let clock : (life_in sc h site).inc ≡ logged_inc (log_of sc h site) = (was.clocks site).same up in
          let above : logged_inc (log_of sc h site) < (life_in sc (h ++ entry_of sc h site (input.Begin sites) ∷ []) site).inc = new.0 in
          let same : (life_in sc (h ++ entry_of sc h site (input.Begin sites) ∷ []) site).inc ≡ (life_in sc h site).inc = stepped_inc sc h site (input.Begin sites) in
          absurd (omega (arith, clock, above, same)))
    ]

    by : (o : Option (List ℕ)) → slice_get (begin_names site (step_items sc (binding sc h).number)) (count_by (λ s. s == site) (binding sc h).begun_at) ≡ o →
        Fresh sc (h ++ entry_of sc h site (input.Begin sites) ∷ [])
    by None is = fresh_same sc h (entry_of sc h site (input.Begin sites)) was adv
        (push ∙ ap (λ o. bound_in sc h ++ binds o (told.Began t ∷ [])) is ∙ append-nil (bound_in sc h))
        (step_known sc h site (input.Begin sites) was adv tt) (step_counts sc h site (input.Begin sites) was adv tt)
    by (Some name) is = fresh_new sc h (entry_of sc h site (input.Begin sites)) was adv (record { name = name; txn = t })
        (push ∙ ap (λ o. bound_in sc h ++ binds o (told.Began t ∷ [])) is)
        (record { up = up; inc = refl; seq = refl; begun = begun })
        (step_known sc h site (input.Begin sites) was adv tt) (step_counts sc h site (input.Begin sites) was adv tt)

pub step_fresh : (sc : Scenario) (h : List Entry) (site : ℕ) (i : Input) → Fresh sc h → is_up_at h site ≡ true → IsDue sc h site i →
    ((s : ℕ) → AdvanceAt sc h (entry_of sc h site i) s) → Fresh sc (h ++ entry_of sc h site i ∷ [])
step_fresh sc h site (input.Begin sites) was up due adv = begin_fresh sc h site sites was up adv
step_fresh sc h site (input.Do t op) was up due adv = other_fresh sc h site (input.Do t op) was adv (due_known sc h site (input.Do t op) due) refl
step_fresh sc h site i was up due adv = other_fresh sc h site i was adv tt refl

-- an operation that is due is not the 65th
pub few_due : (sc : Scenario) (h : List Entry) (site : ℕ) (t : Txn) (op : Op) → IsGiven sc → Fresh sc h → TookInTurn sc h → is_up_at h site ≡ true →
    IsNextItem sc h site (input.Do t op) → length (issued t (life_in sc h site).steps) < 64
few_due sc h site t op given was took up next =
    let b : _ = next_known sc h site (input.Do t op) next in
    let P : Txn → Type 0 = λ u. length (issued u (life_in sc h site).steps) < 64 in
    subst P b.2 (by b.0 b.1 b.2)
  where
    by : (b : Bound) → Contains (bound_in sc h) b → b.txn ≡ t → length (issued b.txn (life_in sc h site).steps) < 64
    by b has same =
        let steps : _ = issued_few b.txn (life_in sc h site).steps in
        let few : count_by (λ m. does b.txn m.input) (life_in sc h site).steps ≤ ops_before sc (lines h) b.name + count_by (does b.txn) (items_taken h site) = was.counts site up b has in
        let taken : _ = ap (count_by (does b.txn)) (took.items site up (no_recovery sc h site (input.Do t op) given next)) in
        let more : _ = ap (count_by (does b.txn)) (take_next (inputs_at sc h site) (turn_of h site) (input.Do t op) next.next)
        ∙ count_one (does b.txn) (take (turn_of h site) (inputs_at sc h site)) (input.Do t op) (ap (λ u. same_txn b.txn u) (sym same) ∙ same_self b.txn) in
        let least : _ = count_take b.txn (suc (turn_of h site)) (inputs_at sc h site) in
        let all : _ = present_few sc h b site was has in
        let before : _ = next_ops sc (lines h) b.name in
        let present : ops_named b.name (present_items sc h) ≡ ops_named b.name (step_items sc (lines h)) = refl in
        let most : _ = ops_few sc (suc (lines h)) b.name given in
        omega (arith, steps, few, taken, more, least, all, before, present, most)
