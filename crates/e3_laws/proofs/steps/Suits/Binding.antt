-- A name that is bound is that of a begin of the scenario, and its transaction has the sites of that begin.
use Rattle.std.proofs.Common.{◌≡◌, ◌==◌, ◌++◌, ◌∷◌, [], ℕ, zero, suc, Bool, true, false, not, List, Option, Some, None, refl, sym, subst, ap, ◌∙◌, filter, take, count_by, arith, eqb-true}
use Rattle.std.specs.Prelude.{slice_get, filter_map, option_map, Contains}
use Rattle.std.specs.List.{cons_option, AllByRecursion as Each}
use Rattle.std.proofs.lemmas.Grind.{fold-append}
use Rattle.std.proofs.lemmas.Option.{same_Some}
use Rattle.std.proofs.lemmas.List.Sums.{sum_by-append}
use Rattle.e3_types.specs.declared.entries.Entry.{Entry}
use Rattle.e3_types.specs.declared.entries.Input.{Input}
use Rattle.e3_types.specs.declared.entries.Input.TheVariants as input
use Rattle.e3_types.specs.declared.entries.Told.TheVariants as told
use Rattle.e3_types.specs.declared.scenarios.Item.{Item}
use Rattle.e3_types.specs.declared.scenarios.Item.TheVariants as item
use Rattle.e3_types.specs.declared.scenarios.Scenario.{Scenario}
use Rattle.e3_types.specs.declared.transactions.Txn.{Txn}
use Rattle.e3_types.specs.Sets.{has_site}
use Rattle.e3_world.specs.declared.names.Addressed.{Addressed}
use Rattle.e3_world.specs.declared.names.Binding.{Binding}
use Rattle.e3_world.specs.declared.names.Bound.{Bound}
use Rattle.e3_world.specs.Given.{IsGiven, BegunName, is_group}
use Rattle.e3_world.specs.Items.{begin_names, binds, binding_by, txn_of, input_of, inputs_to, inputs_at, to_line, turn_of, is_up_at, is_delivery, recover_group}
use Rattle.e3_world.specs.Legal.{IsDue, IsNextItem, entry_of}
use Rattle.e3_world.specs.Lives.{incarnation_of, life_of}
use Rattle.e3_world.specs.Moves.{moves_of}
use Rattle.e3_world.specs.Steps.{is_begin}
use Rattle.e3_world.specs.Orderly.{is_among}
use Rattle.e3_world.specs.Packets.{is_line, lines, present_items, step_items}
use Rattle.e3_world.proofs.Guards.{lines_push}
use Rattle.e3_laws.proofs.steps.Each.{each-append}
use Rattle.e3_laws.proofs.steps.Suits.Scenarios.{HasRules, begins, items_given, form_given, group_among}
use Rattle.e3_laws.proofs.steps.Suits.Turns.{TookInTurn, step_input, none_at, recover_none, steps_taken, steps_same, steps_other, present_to, count_yes, count_not, count_one, count_none}
use Rattle.e3_laws.proofs.steps.Items.{binding}

-- the input begins a transaction
abbrev pub takes_begin : Input → Bool
takes_begin (input.Begin sites) = true
takes_begin _ = false

-- the name is that of a begin, whose sites its transaction has
pub record IsBound (sc : Scenario) (b : Bound) : Type 0 where
  pub begun : Contains (begins sc) (record { name = b.name; sites = b.txn.sites })
  pub home : is_among b.txn.site sc.weights b.txn.sites ≡ true

-- what holds of what a history has bound
pub record Binds (sc : Scenario) (h : List Entry) : Type 0 where
  pub number : (binding sc h).number ≡ lines h
  pub counts : (s : ℕ) → count_by (λ x. x == s) (binding sc h).begun_at ≡ count_by takes_begin (steps_taken h s)
  pub bound : Each (IsBound sc) (binding sc h).bound

pub binding_push : (sc : Scenario) (h : List Entry) (e : Entry) → binding sc (h ++ e ∷ []) ≡ binding_by sc (binding sc h) e
binding_push sc h e = fold-append (binding_by sc) _ h (e ∷ [])

-- an item that begins nothing
abbrev NoBegin : Option Addressed → Type 0
NoBegin None = Unit {0}
NoBegin (Some a) = takes_begin a.input ≡ false

past_item : (s : ℕ) (sites : List ℕ) (G : ℕ → Type 0) (o : Option Addressed) (rest : List Addressed) → NoBegin o →
    ((n : ℕ) → slice_get (inputs_to s rest) n ≡ Some (input.Begin sites) → G (count_by takes_begin (take n (inputs_to s rest)))) →
    (n : ℕ) → slice_get (inputs_to s (cons_option o rest)) n ≡ Some (input.Begin sites) → G (count_by takes_begin (take n (inputs_to s (cons_option o rest))))
past_item s sites G None rest begins_no more n is = more n is
past_item s sites G (Some a) rest begins_no more n is = by (a.site == s) refl n is
  where
    by : (b : Bool) → (a.site == s) ≡ b → (n : ℕ) → slice_get (inputs_to s (a ∷ rest)) n ≡ Some (input.Begin sites) →
        G (count_by takes_begin (take n (inputs_to s (a ∷ rest))))
    by false other n is =
        let same : inputs_to s (a ∷ rest) ≡ inputs_to s rest = rw other refl in
        let P : List Input → Type 0 = λ l. slice_get l n ≡ Some (input.Begin sites) in
        let Q : List Input → Type 0 = λ l. G (count_by takes_begin (take n l)) in
        subst Q (sym same) (more n (subst P same is))
    by true own zero is =
        let same : inputs_to s (a ∷ rest) ≡ a.input ∷ inputs_to s rest = rw own refl in
        let P : List Input → Type 0 = λ l. slice_get l zero ≡ Some (input.Begin sites) in
        let this : a.input ≡ input.Begin sites = same_Some a.input (input.Begin sites) (subst P same is) in
        let both : takes_begin a.input ≡ true = ap takes_begin this in
        absurd cc
    by true own (suc n) is =
        let same : inputs_to s (a ∷ rest) ≡ a.input ∷ inputs_to s rest = rw own refl in
        let P : List Input → Type 0 = λ l. slice_get l (suc n) ≡ Some (input.Begin sites) in
        let Q : List Input → Type 0 = λ l. G (count_by takes_begin (take (suc n) l)) in
        let R : ℕ → Type 0 = G in
        let fewer : count_by takes_begin (take n (inputs_to s rest)) ≡ count_by takes_begin (a.input ∷ take n (inputs_to s rest)) = sym (count_not takes_begin a.input (take n (inputs_to s rest)) begins_no) in
        subst Q (sym same) (subst R fewer (more n (subst P same is)))

some_none : (f : Txn → Addressed) → ((t : Txn) → takes_begin (f t).input ≡ false) → (o : Option Txn) → NoBegin (option_map f o)
some_none f each None = tt
some_none f each (Some t) = each t

-- a begin of this site that the scenario has
abbrev pub BeginsAt : Scenario → List BegunName → ℕ → List ℕ → List ℕ → Type 0
BeginsAt sc all s name sites = Contains all (record { name = name; sites = sites }) × (is_group sc sites ≡ true) × (has_site sites s ≡ true)

begin_at : (sc : Scenario) (all : List BegunName) (k : List Entry) (s : ℕ) (sites name : List ℕ) (items : List Item) → Each (HasRules sc all) items →
    (n : ℕ) → slice_get (inputs_to s (filter_map (input_of sc k) items)) n ≡ Some (input.Begin sites) →
    slice_get (begin_names s items) (count_by takes_begin (take n (inputs_to s (filter_map (input_of sc k) items)))) ≡ Some name →
    BeginsAt sc all s name sites
begin_at sc all k s sites name [] rules n is has = absurd cc
begin_at sc all k s sites name (item.Begin called site there ∷ items) rules n is has = by (site == s) refl n is has (λ m at. begin_at sc all k s sites name items rules.1 m at)
  where
    rest : List Input
    rest = inputs_to s (filter_map (input_of sc k) items)

    by : (b : Bool) → (site == s) ≡ b → (n : ℕ) →
        slice_get (inputs_to s (record { site = site; input = input.Begin there } ∷ filter_map (input_of sc k) items)) n ≡ Some (input.Begin sites) →
        slice_get (begin_names s (item.Begin called site there ∷ items)) (count_by takes_begin (take n (inputs_to s (record { site = site; input = input.Begin there } ∷ filter_map (input_of sc k) items)))) ≡ Some name →
        ((m : ℕ) → slice_get rest m ≡ Some (input.Begin sites) → slice_get (begin_names s items) (count_by takes_begin (take m rest)) ≡ Some name → BeginsAt sc all s name sites) →
        BeginsAt sc all s name sites
    by false other n is has more =
        let same : inputs_to s (record { site = site; input = input.Begin there } ∷ filter_map (input_of sc k) items) ≡ rest = rw other refl in
        let names : begin_names s (item.Begin called site there ∷ items) ≡ begin_names s items = rw other refl in
        let P : List Input → Type 0 = λ l. slice_get l n ≡ Some (input.Begin sites) in
        let Q : List Input → Type 0 = λ l. slice_get (begin_names s (item.Begin called site there ∷ items)) (count_by takes_begin (take n l)) ≡ Some name in
        let R : List (List ℕ) → Type 0 = λ l. slice_get l (count_by takes_begin (take n rest)) ≡ Some name in
        more n (subst P same is) (subst R names (subst Q same has))
    by true own zero is has more =
        let same : inputs_to s (record { site = site; input = input.Begin there } ∷ filter_map (input_of sc k) items) ≡ input.Begin there ∷ rest = rw own refl in
        let names : begin_names s (item.Begin called site there ∷ items) ≡ called ∷ begin_names s items = rw own refl in
        let P : List Input → Type 0 = λ l. slice_get l zero ≡ Some (input.Begin sites) in
        let R : List (List ℕ) → Type 0 = λ l. slice_get l zero ≡ Some name in
        let this : input.Begin there ≡ input.Begin sites = same_Some (input.Begin there) (input.Begin sites) (subst P same is) in
        let named : called ≡ name = same_Some called name (subst R names has) in
        let alike : there ≡ sites = ap sites_in this in
        let T : List ℕ → Type 0 = λ l. BeginsAt sc all s l sites in
        let U : List ℕ → Type 0 = λ l. BeginsAt sc all s called l in
        let V : ℕ → Type 0 = λ x. has_site there x ≡ true in
        subst T named (subst U alike (rules.0.0, rules.0.1, subst V (eqb-true site s own) rules.0.2))
      where
        sites_in : Input → List ℕ
        sites_in (input.Begin l) = l
        sites_in _ = []
    by true own (suc n) is has more =
        let same : inputs_to s (record { site = site; input = input.Begin there } ∷ filter_map (input_of sc k) items) ≡ input.Begin there ∷ rest = rw own refl in
        let names : begin_names s (item.Begin called site there ∷ items) ≡ called ∷ begin_names s items = rw own refl in
        let P : List Input → Type 0 = λ l. slice_get l (suc n) ≡ Some (input.Begin sites) in
        let Q : List Input → Type 0 = λ l. slice_get (begin_names s (item.Begin called site there ∷ items)) (count_by takes_begin (take (suc n) l)) ≡ Some name in
        let one : count_by takes_begin (input.Begin there ∷ take n rest) ≡ suc (count_by takes_begin (take n rest)) = count_yes takes_begin (input.Begin there) (take n rest) refl in
        let S : ℕ → Type 0 = λ m. slice_get (begin_names s (item.Begin called site there ∷ items)) m ≡ Some name in
        let R : List (List ℕ) → Type 0 = λ l. slice_get l (suc (count_by takes_begin (take n rest))) ≡ Some name in
        more n (subst P same is) (subst R names (subst S one (subst Q same has)))
begin_at sc all k s sites name (item.Read called key ∷ items) rules n is has =
    past_item s sites (λ m. slice_get (begin_names s items) m ≡ Some name → BeginsAt sc all s name sites) _ _ (some_none _ (λ t. refl) (txn_of sc k called))
    (λ m at. begin_at sc all k s sites name items rules.1 m at) n is has
begin_at sc all k s sites name (item.Write called key val ∷ items) rules n is has =
    past_item s sites (λ m. slice_get (begin_names s items) m ≡ Some name → BeginsAt sc all s name sites) _ _ (some_none _ (λ t. refl) (txn_of sc k called))
    (λ m at. begin_at sc all k s sites name items rules.1 m at) n is has
begin_at sc all k s sites name (item.Commit called ∷ items) rules n is has =
    past_item s sites (λ m. slice_get (begin_names s items) m ≡ Some name → BeginsAt sc all s name sites) _ _ (some_none _ (λ t. refl) (txn_of sc k called))
    (λ m at. begin_at sc all k s sites name items rules.1 m at) n is has
begin_at sc all k s sites name (item.Cancel called ∷ items) rules n is has =
    past_item s sites (λ m. slice_get (begin_names s items) m ≡ Some name → BeginsAt sc all s name sites) _ _ (some_none _ (λ t. refl) (txn_of sc k called))
    (λ m at. begin_at sc all k s sites name items rules.1 m at) n is has
begin_at sc all k s sites name (item.Expire site called ∷ items) rules n is has =
    past_item s sites (λ m. slice_get (begin_names s items) m ≡ Some name → BeginsAt sc all s name sites) _ _ (some_none _ (λ t. refl) (txn_of sc k called))
    (λ m at. begin_at sc all k s sites name items rules.1 m at) n is has
begin_at sc all k s sites name (item.Elect site called group ∷ items) rules n is has =
    past_item s sites (λ m. slice_get (begin_names s items) m ≡ Some name → BeginsAt sc all s name sites) _ _ (some_none _ (λ t. refl) (txn_of sc k called))
    (λ m at. begin_at sc all k s sites name items rules.1 m at) n is has
begin_at sc all k s sites name (it ∷ items) rules n is has = begin_at sc all k s sites name items rules.1 n is has

count_items : (l : List Input) → count_by takes_begin (filter (λ i. not (is_delivery i)) l) ≡ count_by takes_begin l
count_items [] = refl
count_items (input.Deliver p ∷ l) = count_items l ∙ sym (count_not takes_begin (input.Deliver p) l refl)
count_items (input.Begin sites ∷ l) =
    count_yes takes_begin (input.Begin sites) (filter (λ i. not (is_delivery i)) l) refl ∙ ap suc (count_items l) ∙ sym (count_yes takes_begin (input.Begin sites) l refl)
count_items (i ∷ l) = count_not takes_begin i (filter (λ i. not (is_delivery i)) l) refl ∙ count_items l ∙ sym (count_not takes_begin i l refl)

-- the next item shows that the step is none of recovery
pub no_recovery : (sc : Scenario) (h : List Entry) (site : ℕ) (i : Input) → IsGiven sc → IsNextItem sc h site i → recover_group (present_items sc h) ≡ None
no_recovery sc h site i given next = by (recover_group (present_items sc h)) refl
  where
    by : (o : Option (List ℕ)) → recover_group (present_items sc h) ≡ o → o ≡ None
    by None is = refl
    by (Some group) is =
        let none : inputs_at sc h site ≡ [] = none_at sc h site (recover_none (present_items sc h) group (form_given sc (lines h) given) is) in
        let P : List Input → Type 0 = λ l. slice_get l (turn_of h site) ≡ Some i in
        let has : slice_get [] (turn_of h site) ≡ Some i = subst P none next.next in
        absurd cc

pub quiet_binds : (sc : Scenario) (h : List Entry) (e : Entry) → Binds sc h → is_line e ≡ false → binding_by sc (binding sc h) e ≡ binding sc h →
    ((s : ℕ) → (e.owner == s) ≡ true → count_by takes_begin (step_input e.act) ≡ 0) → Binds sc (h ++ e ∷ [])
quiet_binds sc h e was stays same none = record {
  number = ap (λ b. b.number) (binding_push sc h e ∙ same) ∙ was.number ∙ sym (lines_push h e ∙ rw stays (omega arith));
  counts = λ s. ap (λ b. count_by (λ x. x == s) b.begun_at) (binding_push sc h e ∙ same) ∙ was.counts s ∙ by s (e.owner == s) refl;
  bound = let P : Binding → Type 0 = λ b. Each (IsBound sc) b.bound in subst P (sym (binding_push sc h e ∙ same)) was.bound;
}
  where
    by : (s : ℕ) (b : Bool) → (e.owner == s) ≡ b → count_by takes_begin (steps_taken h s) ≡ count_by takes_begin (steps_taken (h ++ e ∷ []) s)
    by s false is = ap (count_by takes_begin) (sym (steps_other h e s stays is))
    by s true is = sym (ap (count_by takes_begin) (steps_same h e s stays is) ∙ sum_by-append _ (steps_taken h s) (step_input e.act)
        ∙ (let more : count_by takes_begin (step_input e.act) ≡ 0 = none s is in omega (arith, more)))

-- the step of a begin binds its name
begin_binds : (sc : Scenario) (h : List Entry) (site : ℕ) (sites : List ℕ) → IsGiven sc → TookInTurn sc h → is_up_at h site ≡ true → Binds sc h →
    IsNextItem sc h site (input.Begin sites) → Binds sc (h ++ entry_of sc h site (input.Begin sites) ∷ [])
begin_binds sc h site sites given took up was next = record {
  number = ap (λ b. b.number) (binding_push sc h e) ∙ was.number ∙ sym (lines_push h e ∙ omega arith);
  counts = λ s. ap (λ b. count_by (λ x. x == s) b.begun_at) (binding_push sc h e) ∙ counts s (site == s) refl;
  bound = let P : Binding → Type 0 = λ b. Each (IsBound sc) b.bound in subst P (sym (binding_push sc h e))
      (each-append (IsBound sc) (binding sc h).bound _ was.bound (binds_it (slice_get names (count_by (λ s. s == site) (binding sc h).begun_at)) refl));
}
  where
    e : Entry
    e = entry_of sc h site (input.Begin sites)

    t : Txn
    t = record { site = site; inc = (life_of (incarnation_of (moves_of sc h site))).inc; seq = suc (count_by is_begin (life_of (incarnation_of (moves_of sc h site))).steps); sites = sites }

    names : List (List ℕ)
    names = begin_names site (step_items sc (binding sc h).number)

    counts : (s : ℕ) (b : Bool) → (site == s) ≡ b → count_by (λ x. x == s) ((binding sc h).begun_at ++ site ∷ []) ≡ count_by takes_begin (steps_taken (h ++ e ∷ []) s)
    counts s false is = count_none (λ x. x == s) (binding sc h).begun_at site is ∙ was.counts s ∙ ap (count_by takes_begin) (sym (steps_other h e s refl is))
    counts s true is = count_one (λ x. x == s) (binding sc h).begun_at site is ∙ ap suc (was.counts s)
        ∙ sym (ap (count_by takes_begin) (steps_same h e s refl is) ∙ count_one takes_begin (steps_taken h s) (input.Begin sites) refl)

    items : present_items sc (to_line h) ≡ step_items sc (binding sc h).number
    items = present_to sc h ∙ ap (step_items sc) (sym was.number)

    place : count_by (λ s. s == site) (binding sc h).begun_at ≡ count_by takes_begin (take (turn_of h site) (inputs_at sc h site))
    place = was.counts site ∙ sym (count_items (steps_taken h site))
        ∙ ap (count_by takes_begin) (took.items site up (no_recovery sc h site (input.Begin sites) given next))

    begun : (name : List ℕ) → slice_get names (count_by (λ s. s == site) (binding sc h).begun_at) ≡ Some name → BeginsAt sc (begins sc) site name sites
    begun name has =
        let P : List Item → Type 0 = λ l. slice_get (begin_names site l) (count_by (λ s. s == site) (binding sc h).begun_at) ≡ Some name in
        let Q : ℕ → Type 0 = λ n. slice_get (begin_names site (present_items sc (to_line h))) n ≡ Some name in
        begin_at sc (begins sc) (to_line h) site sites name (present_items sc (to_line h)) (items_given sc (lines (to_line h)) given) (turn_of h site) next.next
        (subst Q place (subst P (sym items) has))

    binds_it : (o : Option (List ℕ)) → slice_get names (count_by (λ s. s == site) (binding sc h).begun_at) ≡ o → Each (IsBound sc) (binds o (told.Began t ∷ []))
    binds_it None is = tt
    binds_it (Some name) is = let has : _ = begun name is in
        (record { begun = has.0; home = group_among sc site sites has.1 has.2 }, tt)

pub step_no_begin : (sc : Scenario) (h : List Entry) (site : ℕ) (i : Input) → takes_begin i ≡ false → binding_by sc (binding sc h) (entry_of sc h site i) ≡ binding sc h
step_no_begin sc h site (input.Begin sites) is = absurd cc
step_no_begin sc h site i is = refl

other_binds : (sc : Scenario) (h : List Entry) (site : ℕ) (i : Input) → takes_begin i ≡ false → Binds sc h → Binds sc (h ++ entry_of sc h site i ∷ [])
other_binds sc h site i no_begin was = quiet_binds sc h (entry_of sc h site i) was refl (step_no_begin sc h site i no_begin)
    (λ s is. count_not takes_begin i [] no_begin)

pub step_binds : (sc : Scenario) (h : List Entry) (site : ℕ) (i : Input) → IsGiven sc → TookInTurn sc h → is_up_at h site ≡ true → Binds sc h → IsDue sc h site i →
    Binds sc (h ++ entry_of sc h site i ∷ [])
step_binds sc h site (input.Begin sites) given took up was due = begin_binds sc h site sites given took up was due
step_binds sc h site i given took up was due = other_binds sc h site i refl was
