-- A scenario that was read keeps the rules that the laws on histories ask of it.
use Rattle.std.proofs.Common.{◌≡◌, ℕ, ℤ, pos, negsuc, suc, ◌+◌, ◌-◌, ◌≤◌, ◌==◌, Bool, true, false, not, ◌&&◌, ◌||◌, nat_le, nat_lt, List, [], ◌∷◌, ◌++◌, length, fold, count_by, Option, Some, None, Result, Ok, Err, if◌then◌else◌, codes, refl, ap, sym, ◌∙◌, arith, subst, append_assoc, append-nil, length-append, le-leb}
use Rattle.std.specs.Prelude.{option_and_then, option_map}
use Rattle.std.specs.List.{list_any, list_all, find}
use Rattle.std.proofs.lemmas.Bool.{and_parts, leb-true}
use Rattle.std.proofs.lemmas.Bool.Decides.{nat_tests}
use Rattle.std.proofs.lemmas.List.Folds.{list_any-append, list_all-append, list_all-map}
use Rattle.toml.specs.Data.{Data, Members, as_integer, as_str}
use Rattle.e3_types.specs.Same.{same_numbers}
use Rattle.e3_types.specs.Sets.{is_set, has_site, is_within}
use Rattle.e3_types.specs.declared.scenarios.Item.{Item}
use Rattle.e3_types.specs.declared.scenarios.Item.TheVariants as item
use Rattle.e3_types.specs.declared.scenarios.KeyRow.{KeyRow}
use Rattle.e3_types.specs.declared.scenarios.Scenario.{Scenario}
use Rattle.e3_types.specs.declared.transactions.Key.{Key}
use Rattle.e3_world.specs.Given.{IsGiven, BegunName, ItemsSoFar, exist, is_group, is_begun, count_ops, is_partition, is_groupable, keeps_rules, with_item, items_keep, is_step_form, close_step, steps_keep, rows_differ}
use Rattle.e3_world.specs.Packets.{all_sites, sites_to}
use Rattle.e3_scenario.specs.declared.faults.ScenarioFault.{ScenarioFault}
use Rattle.e3_scenario.specs.declared.faults.ScenarioFault.TheVariants as fault
use Rattle.e3_scenario.specs.Faults.{has_name, sites_begun, own_fault, named_fault, begin_fault, operation_fault, expire_fault, elect_fault, recover_fault, split_fault, site_fault, stop_fault, item_fault, take_item}
use Rattle.std.specs.Option.{option_map_or}
use Rattle.e3_scenario.specs.Documents.{document, keys_known, kind_fault, values_of, values_at, number_within, weight_of, more_weights, weights_of, row_with, row_of, row_in, more_rows, share_at, luck_at, step_size, sizes_fit, steps_fit}
use Rattle.e3_scenario.specs.Parts.{key_of, value_of}
use Rattle.e3_scenario.specs.Words.{is_printable, before, after}
use Rattle.e3_report.specs.lines.Marks.{space}
use Rattle.e3_scenario.specs.declared.faults.Field.{Field}
use Rattle.e3_scenario.specs.declared.faults.Field.TheVariants as field
use Rattle.e3_scenario.specs.Scenarios.{or_range, repeat_with, base_in, no_items_yet, fields_in, by_kind, by_document, scenario_of}
use Rattle.e3_scenario.specs.Steps.{and_read, or_fault, judged, item_in, StepSoFar, items_read, read_of, step_read, steps_read}
use Rattle.e3_scenario.specs.Items.{item_of}
use Rattle.e3_scenario.proofs.SpelledSets.{is_some_set, has_sets, item_sets}

-- where a test gives no fault
no_fault : (c : Bool) (f : ScenarioFault) (more : Option ScenarioFault) → (if c then Some f else more) ≡ None → (c ≡ false) × (more ≡ None)
no_fault true f more h = cc
no_fault false f more h = (refl, h)

none_or : (c : Bool) (f : ScenarioFault) → (if c then None else Some f) ≡ None → c ≡ true
none_or true f h = refl
none_or false f h = cc

some_or : (c : Bool) (f : ScenarioFault) (more : Option ScenarioFault) → (if c then more else Some f) ≡ None → (c ≡ true) × (more ≡ None)
some_or true f more h = (refl, h)
some_or false f more h = cc

not_false : (c : Bool) → not c ≡ false → c ≡ true
not_false true h = refl
not_false false h = sym h

and_true : (c : Bool) → (c && true) ≡ c
and_true true = refl
and_true false = refl

-- names that were begun
begun_name : (begun : List BegunName) (name : List ℕ) → is_begun begun name [] ≡ has_name begun name
begun_name [] name = refl
begun_name (b ∷ begun) name = rw (and_true (same_numbers name b.name), begun_name begun name) refl

begun_over : (begun : List BegunName) (name own sites : List ℕ) → sites_begun begun name ≡ Some own → is_within sites own ≡ true → is_begun begun name sites ≡ true
begun_over [] name own sites h within = cc
begun_over (b ∷ begun) name own sites h within = by (same_numbers name b.name) refl (begun_over begun name own sites) h
  where
    by : (c : Bool) → same_numbers name b.name ≡ c → (sites_begun begun name ≡ Some own → is_within sites own ≡ true → is_begun begun name sites ≡ true)
        → option_map (λ x. x.sites) (if c then Some b else find (λ x. same_numbers name x.name) begun) ≡ Some own
        → ((c && is_within sites b.sites) || is_begun begun name sites) ≡ true
    by true is more here = let e : b.sites ≡ own = cc in rw (e, within) refl
    by false is more here = more here within

named : (step : ℕ) (k : ItemsSoFar) (name sites : List ℕ) → named_fault step k name sites ≡ None → is_begun k.earlier name sites ≡ true
named step k name sites h = by (sites_begun k.earlier name) refl h
  where
    by : (own : Option (List ℕ)) → sites_begun k.earlier name ≡ own → own_fault step sites own ≡ None → is_begun k.earlier name sites ≡ true
    by None is none = cc
    by (Some own) is none =
        begun_over k.earlier name own sites is (none_or (is_within sites own) (fault.NoSite step) none)

-- a set of sites that exist is a group
group_of : (sc : Scenario) (sites : List ℕ) → is_some_set sites ≡ true → exist sc sites ≡ true → is_group sc sites ≡ true
group_of sc [] set there = set
group_of sc (site ∷ sites) set there = rw (set, there) refl

groups_of : (sc : Scenario) (parts : List (List ℕ)) → list_all is_some_set parts ≡ true → list_all (exist sc) parts ≡ true → list_all (is_group sc) parts ≡ true
groups_of sc [] sets there = refl
groups_of sc (part ∷ parts) sets there =
    let (set, more) = and_parts (is_some_set part) (list_all is_some_set parts) sets in
    let (stands, rest) = and_parts (exist sc part) (list_all (exist sc) parts) there in
    rw (group_of sc part set stands, groups_of sc parts more rest) refl

set_of : (sites : List ℕ) → is_some_set sites ≡ true → is_set sites ≡ true
set_of [] set = refl
set_of (site ∷ sites) set = set

-- an item without a fault, whose sets are sets, keeps the rules
keeps_begin : (sc : Scenario) (step : ℕ) (k : ItemsSoFar) (name : List ℕ) (site : ℕ) (sites : List ℕ) → is_some_set sites ≡ true
    → begin_fault (all_sites sc) step k name site sites ≡ None → keeps_rules sc k (item.Begin name site sites) ≡ true
unfolding begin_fault
keeps_begin sc step k name site sites set h =
    let (few, a) = no_fault _ _ _ h in
    let (stands, b) = no_fault _ _ _ a in
    let (new, c) = no_fault _ _ _ b in
    let (within, has) = and_parts (exist sc sites) (has_site sites site) (not_false _ stands) in
    let begun : is_begun (k.earlier ++ k.fresh) name [] ≡ false =
    begun_name (k.earlier ++ k.fresh) name ∙ list_any-append (λ x. same_numbers name x.name) k.earlier k.fresh ∙ new in
    rw (group_of sc sites set within, has, begun) refl

keeps_operation : (sc : Scenario) (step : ℕ) (k : ItemsSoFar) (name : List ℕ) (site : ℕ)
    → operation_fault (all_sites sc) step k name site ≡ None → (is_begun k.earlier name (site ∷ []) && nat_lt (count_ops k.ops name) 64) ≡ true
unfolding operation_fault
keeps_operation sc step k name site h =
    let (few, a) = no_fault _ _ _ h in
    let (stands, b) = no_fault _ _ _ a in
    let less : nat_lt (count_ops k.ops name) 64 ≡ true = below (count_ops k.ops name) few in
    rw (named step k name (site ∷ []) b, less) refl
  where
    below : (n : ℕ) → nat_le 64 n ≡ false → nat_lt n 64 ≡ true
    below n few = grind (arith, nat_tests)

keeps_expire : (sc : Scenario) (step : ℕ) (k : ItemsSoFar) (site : ℕ) (name : List ℕ)
    → expire_fault (all_sites sc) step k site name ≡ None → is_begun k.earlier name (site ∷ []) ≡ true
unfolding expire_fault
keeps_expire sc step k site name h = named step k name (site ∷ []) (no_fault _ _ _ h).1

keeps_elect : (sc : Scenario) (step : ℕ) (k : ItemsSoFar) (site : ℕ) (name sites : List ℕ) → is_some_set sites ≡ true
    → elect_fault (all_sites sc) step k site name sites ≡ None → (is_begun k.earlier name sites && is_set sites && has_site sites site) ≡ true
unfolding elect_fault
keeps_elect sc step k site name sites set h =
    let (stands, a) = no_fault _ _ _ h in
    let (within, has) = and_parts (is_within sites (all_sites sc)) (has_site sites site) (not_false _ stands) in
    rw (named step k name sites a, set_of sites set, has) refl

keeps_recover : (sc : Scenario) (step : ℕ) (k : ItemsSoFar) (sites : List ℕ) → is_some_set sites ≡ true
    → recover_fault (all_sites sc) step k sites ≡ None → (is_group sc sites && list_any (is_within sites) k.parts) ≡ true
unfolding recover_fault
keeps_recover sc step k sites set h =
    let (stands, a) = no_fault _ _ _ h in
    let within : is_within sites (all_sites sc) ≡ true = not_false _ stands in
    let part : list_any (is_within sites) k.parts ≡ true = none_or _ _ a in
    rw (group_of sc sites set within, part) refl

keeps_split : (sc : Scenario) (step : ℕ) (parts : List (List ℕ)) → list_all is_some_set parts ≡ true → split_fault (all_sites sc) step parts ≡ None → is_partition sc parts ≡ true
unfolding split_fault
keeps_split sc step parts sets h =
    let (stands, a) = no_fault _ _ _ h in
    let within : list_all (exist sc) parts ≡ true = not_false _ stands in
    let once : list_all (λ s. count_by (λ part. has_site part s) parts == 1) (all_sites sc) ≡ true = none_or _ _ a in
    rw (groups_of sc parts sets within, once) refl

keeps_site : (sc : Scenario) (step site : ℕ) → site_fault (all_sites sc) step site ≡ None → exist sc (site ∷ []) ≡ true
unfolding site_fault
keeps_site sc step site h = and_true _ ∙ none_or _ _ h

keeps_stop : (sc : Scenario) (step site count : ℕ) → stop_fault (all_sites sc) step site count ≡ None → (exist sc (site ∷ []) && nat_le 1 count) ≡ true
unfolding stop_fault
keeps_stop sc step site count h =
    let (some, a) = some_or (nat_le 1 count) (fault.BadLine step) (site_fault (all_sites sc) step site) h in
    rw (keeps_site sc step site a, some) refl

keeps : (sc : Scenario) (step : ℕ) (k : ItemsSoFar) (i : Item) → has_sets i ≡ true → item_fault (all_sites sc) step k i ≡ None → keeps_rules sc k i ≡ true
keeps sc step k (item.Begin name site sites) set h = keeps_begin sc step k name site sites set h
keeps sc step k (item.Read name key) set h = keeps_operation sc step k name key.site h
keeps sc step k (item.Write name key val) set h = keeps_operation sc step k name key.site h
keeps sc step k (item.Commit name) set h = named step k name [] h
keeps sc step k (item.Cancel name) set h = named step k name [] h
keeps sc step k (item.Expire site name) set h = keeps_expire sc step k site name h
keeps sc step k (item.Elect site name sites) set h = keeps_elect sc step k site name sites set h
keeps sc step k (item.Recover sites) set h = keeps_recover sc step k sites set h
keeps sc step k (item.Split parts) set h = keeps_split sc step parts set h
keeps sc step k item.Merge set h = refl
keeps sc step k (item.Crash site) set h = keeps_site sc step site h
keeps sc step k (item.Restart site) set h = keeps_site sc step site h
keeps sc step k (item.Stop site count leave) set h = keeps_stop sc step site count h

says : (sc : Scenario) (k : ItemsSoFar) (i : Item) → take_item (all_sites sc) k i ≡ with_item sc k i
says sc k (item.Begin name site sites) = refl
says sc k (item.Read name key) = refl
says sc k (item.Write name key val) = refl
says sc k (item.Split parts) = refl
says sc k item.Merge = refl
says sc k _ = refl

-- what was read without a fault
and_read_ok : {A B : Type 0} (read : Result A ScenarioFault) (next : A → Result B ScenarioFault) (y : B) → and_read read next ≡ Ok y
    → (x : A) × (read ≡ Ok x) × (next x ≡ Ok y)
and_read_ok (Ok x) next y h = (x, refl, h)
and_read_ok (Err f) next y h = cc

or_fault_ok : (i j : Item) (o : Option ScenarioFault) → or_fault i o ≡ Ok j → (i ≡ j) × (o ≡ None)
or_fault_ok i j None h = (cc, refl)
or_fault_ok i j (Some f) h = cc

-- an item that was read is without a fault, and may stand in the group where it stands in one; its sets are sets
record IsFine (all : List ℕ) (step : ℕ) (grouped : Bool) (k : ItemsSoFar) (i : Item) : Type 0 where
  sets : has_sets i ≡ true
  none : item_fault all step k i ≡ None
  fits : (grouped && not (is_groupable i)) ≡ false

judged_ok : (all : List ℕ) (step : ℕ) (grouped : Bool) (k : ItemsSoFar) (o : Option Item) (j : Item) → ((i : Item) → o ≡ Some i → has_sets i ≡ true)
    → judged all step grouped k o ≡ Ok j → IsFine all step grouped k j
judged_ok all step grouped k None j sets h = cc
judged_ok all step grouped k (Some i) j sets h = by (grouped && not (is_groupable i)) refl h
  where
    by : (c : Bool) → (grouped && not (is_groupable i)) ≡ c → (if c then Err (fault.BadLine step) else or_fault i (item_fault all step k i)) ≡ Ok j → IsFine all step grouped k j
    by true is wrong = cc
    by false is right =
        let (same, none) = or_fault_ok i j (item_fault all step k i) right in
        let Fine : Item → Type 0 = λ x. IsFine all step grouped k x in
        subst Fine same (record { sets = sets i refl; none = none; fits = is })

-- the sets of an item that a string spells
spelled_sets : (value : Data) (i : Item) → item_in value ≡ Some i → has_sets i ≡ true
spelled_sets value i h = by (as_str value) h
  where
    by : (o : Option (List ℕ)) → option_and_then item_of o ≡ Some i → has_sets i ≡ true
    by None none = cc
    by (Some text) some = item_sets text i some

-- items that were read keep the rules
record AreGiven (sc : Scenario) (grouped : Bool) (k : ItemsSoFar) (before after : List Item) (so_far : ItemsSoFar) (count : ℕ) : Type 0 where
  more : List Item
  items : after ≡ before ++ more
  keep : items_keep sc k more ≡ true
  says : so_far ≡ fold (with_item sc) k more
  counted : length more ≡ count
  fit : grouped ≡ true → list_all is_groupable more ≡ true

groupable : (grouped b : Bool) → (grouped && not b) ≡ false → grouped ≡ true → b ≡ true
groupable true true h g = refl
groupable true false h g = sym h
groupable false b h g = cc

items_given : (sc : Scenario) (step : ℕ) (grouped : Bool) (k : ItemsSoFar) (before : List Item) (values : List Data) (read : StepSoFar)
    → items_read (all_sites sc) step grouped k before values ≡ Ok read → AreGiven sc grouped k before read.items read.so_far (length values)
items_given sc step grouped k before [] read h =
    let Given : StepSoFar → Type 0 = λ r. AreGiven sc grouped k before r.items r.so_far 0 in
    let e : record { so_far = k; items = before } ≡ read = cc in
    subst Given e (record { more = []; items = sym (append-nil before); keep = refl; says = refl; counted = refl; fit = λ g. refl })
items_given sc step grouped k before (value ∷ values) read h =
    let (i, is, more) = and_read_ok (judged (all_sites sc) step grouped k (item_in value)) _ read h in
    let fine = judged_ok (all_sites sc) step grouped k (item_in value) i (spelled_sets value) is in
    let given = items_given sc step grouped (take_item (all_sites sc) k i) (before ++ i ∷ []) values read more in
    let kept : keeps_rules sc k i ≡ true = keeps sc step k i fine.sets fine.none in
    let rest : items_keep sc (with_item sc k i) given.more ≡ true = let Keep : ItemsSoFar → Type 0 = λ q. items_keep sc q given.more ≡ true in subst Keep (says sc k i) given.keep in
    let told : read.so_far ≡ fold (with_item sc) (with_item sc k i) given.more = let Told : ItemsSoFar → Type 0 = λ q. read.so_far ≡ fold (with_item sc) q given.more in subst Told (says sc k i) given.says in
    record {
      more = i ∷ given.more;
      items = given.items ∙ append_assoc before (i ∷ []) given.more;
      keep = rw (kept, rest) refl;
      says = told;
      counted = ap suc given.counted;
      fit = λ g. rw (groupable grouped (is_groupable i) fine.fits g, given.fit g) refl;
    }

-- a step that was read
record IsStepGiven (sc : Scenario) (k : ItemsSoFar) (read : StepSoFar) : Type 0 where
  form : is_step_form read.items ≡ true
  keep : items_keep sc k read.items ≡ true
  says : read.so_far ≡ fold (with_item sc) k read.items

group_form : (items : List Item) → list_all is_groupable items ≡ true → 1 ≤ length items → length items ≤ 16 → is_step_form items ≡ true
group_form [] all some few = absurd (omega arith)
group_form (i ∷ []) all some few = refl
group_form (i ∷ j ∷ items) all some few = rw (all, le-leb (length items) 14 (omega arith)) refl

one_form : (items : List Item) → length items ≡ 1 → is_step_form items ≡ true
one_form [] one = absurd (omega arith)
one_form (i ∷ []) one = refl
one_form (i ∷ j ∷ items) one = absurd (omega arith)

step_from : (sc : Scenario) (grouped : Bool) (k : ItemsSoFar) (count : ℕ) (read : StepSoFar) → AreGiven sc grouped k [] read.items read.so_far count
    → ((items : List Item) → (grouped ≡ true → list_all is_groupable items ≡ true) → length items ≡ count → is_step_form items ≡ true) → IsStepGiven sc k read
step_from sc grouped k count read given form =
    let same : given.more ≡ read.items = sym given.items in
    let Keep : List Item → Type 0 = λ q. items_keep sc k q ≡ true in
    let Told : List Item → Type 0 = λ q. read.so_far ≡ fold (with_item sc) k q in
    let Form : List Item → Type 0 = λ q. is_step_form q ≡ true in
    record {
      form = subst Form same (form given.more given.fit given.counted);
      keep = subst Keep same given.keep;
      says = subst Told same given.says;
    }

step_given : (sc : Scenario) (step : ℕ) (k : ItemsSoFar) (value : Data) (read : StepSoFar) → step_read (all_sites sc) step k value ≡ Ok read
    → 1 ≤ step_size value → step_size value ≤ 16 → IsStepGiven sc k read
step_given sc step k value read h some few = by (values_of value) h some few
  where
    by : (o : Option (List Data)) → read_of (all_sites sc) step k value o ≡ Ok read → 1 ≤ option_map_or length o 1 → option_map_or length o 1 ≤ 16 → IsStepGiven sc k read
    by (Some values) here low high = step_from sc true k (length values) read (items_given sc step true k [] values read here)
        (λ items all counted. group_form items (all refl) (omega (arith, counted)) (omega (arith, counted)))
    by None here low high = step_from sc false k 1 read (items_given sc step false k [] (value ∷ []) read here) (λ items all counted. one_form items counted)

-- steps that were read
record StepsGiven (sc : Scenario) (k : ItemsSoFar) (before after : List (List Item)) : Type 0 where
  more : List (List Item)
  steps : after ≡ before ++ more
  keep : steps_keep sc k more ≡ true

steps_given : (sc : Scenario) (step room : ℕ) (k : ItemsSoFar) (before : List (List Item)) (values : List Data) (steps : List (List Item))
    → steps_read (all_sites sc) step k before values ≡ Ok steps → sizes_fit room values ≡ true → StepsGiven sc k before steps
steps_given sc step room k before [] steps h fit = record { more = []; steps = (let e : before ≡ steps = cc in sym e ∙ sym (append-nil before)); keep = refl }
steps_given sc step room k before (value ∷ values) steps h fit =
    let (read, is, more) = and_read_ok (step_read (all_sites sc) step k value) _ steps h in
    let (fit3, rest) = and_parts _ (sizes_fit (room - step_size value) values) fit in
    let (fit2, inside) = and_parts _ (nat_le (step_size value) room) fit3 in
    let (low, high) = and_parts (nat_le 1 (step_size value)) (nat_le (step_size value) 16) fit2 in
    let one = step_given sc step k value read is (leb-true _ _ low) (leb-true _ _ high) in
    let given = steps_given sc (suc step) (room - step_size value) (close_step read.so_far) (before ++ read.items ∷ []) values steps more rest in
    let Keep : ItemsSoFar → Type 0 = λ q. steps_keep sc (close_step q) given.more ≡ true in
    let kept : steps_keep sc (close_step (fold (with_item sc) k read.items)) given.more ≡ true = subst Keep one.says given.keep in
    record {
      more = read.items ∷ given.more;
      steps = given.steps ∙ append_assoc before (read.items ∷ []) given.more;
      keep = rw (one.form, one.keep, kept) refl;
    }

-- what is there
and_then_some : {A B : Type 0} (o : Option A) (next : A → Option B) (y : B) → option_and_then next o ≡ Some y → (x : A) × (o ≡ Some x) × (next x ≡ Some y)
and_then_some None next y h = cc
and_then_some (Some x) next y h = (x, refl, h)

range_some : {A : Type 0} (f : Field) (o : Option A) (x : A) → or_range f o ≡ Ok x → o ≡ Some x
range_some f None x h = cc
range_some f (Some y) x h = cc

within_some : (z : ℤ) (w : ℕ) → number_within 1 1000 z ≡ Some w → (nat_le 1 w && nat_le w 1000) ≡ true
within_some (negsuc n) w h = cc
within_some (pos n) w h = by (nat_le 1 n && nat_le n 1000) refl h
  where
    by : (c : Bool) → (nat_le 1 n && nat_le n 1000) ≡ c → (if c then Some n else None) ≡ Some w → (nat_le 1 w && nat_le w 1000) ≡ true
    by true is same =
        let e : n ≡ w = cc in
        let Fits : ℕ → Type 0 = λ q. (nat_le 1 q && nat_le q 1000) ≡ true in
        subst Fits e is
    by false is same = cc

-- the weights
record AreWeights (weights : List ℕ) (count : ℕ) : Type 0 where
  all : list_all (λ w. nat_le 1 w && nat_le w 1000) weights ≡ true
  counted : length weights ≡ count

weights_given : (weights : List ℕ) (values : List Data) (out : List ℕ) → more_weights weights values ≡ Some out
    → list_all (λ w. nat_le 1 w && nat_le w 1000) weights ≡ true → AreWeights out (length weights + length values)
weights_given weights [] out h all =
    let e : weights ≡ out = cc in
    let Are : List ℕ → Type 0 = λ q. AreWeights q (length weights + 0) in
    subst Are e (record { all = all; counted = omega arith })
weights_given weights (value ∷ values) out h all =
    let (w, is, more) = and_then_some (weight_of value) _ out h in
    let (z, number, fits) = and_then_some (as_integer value) (number_within 1 1000) w is in
    let one : (nat_le 1 w && nat_le w 1000) ≡ true = within_some z w fits in
    let longer : list_all (λ x. nat_le 1 x && nat_le x 1000) (weights ++ w ∷ []) ≡ true =
    rw (list_all-append (λ x. nat_le 1 x && nat_le x 1000) weights (w ∷ []), all, one) refl in
    let given = weights_given (weights ++ w ∷ []) values out more longer in
    record { all = given.all; counted = (let n = length-append weights (w ∷ []) in let m = given.counted in omega (arith, n, m)) }

-- the rows
row_at : (all : List ℕ) (k : Option Key) (v : Option (List ℕ)) (row : KeyRow) → row_with all k v ≡ Some row → has_site all row.key.site ≡ true
row_at all None v row h = cc
row_at all (Some key) None row h = cc
row_at all (Some key) (Some val) row h = by (has_site all key.site) refl h
  where
    by : (c : Bool) → has_site all key.site ≡ c → (if c then Some (record { key = key; val = val }) else None) ≡ Some row → has_site all row.key.site ≡ true
    by true is same =
        let e : record { key = key; val = val } ≡ row = cc in
        let At : KeyRow → Type 0 = λ r. has_site all r.key.site ≡ true in
        subst At e is
    by false is same = cc

row_in_at : (all : List ℕ) (value : Data) (row : KeyRow) → row_in all value ≡ Some row → has_site all row.key.site ≡ true
row_in_at all value row h =
    let (text, is, spelled) = and_then_some (as_str value) (row_of all) row h in
    by (list_all is_printable text) (row_with all (key_of (before space text)) (option_and_then value_of (after space text))) spelled (row_at all _ _ row)
  where
    by : (c : Bool) (o : Option KeyRow) → (if c then o else None) ≡ Some row → (o ≡ Some row → has_site all row.key.site ≡ true) → has_site all row.key.site ≡ true
    by true o same then' = then' same
    by false o same then' = cc

rows_given : (all : List ℕ) (rows : List KeyRow) (values : List Data) (out : List KeyRow) → more_rows all rows values ≡ Some out
    → list_all (λ row. has_site all row.key.site) rows ≡ true → list_all (λ row. has_site all row.key.site) out ≡ true
rows_given all rows [] out h at =
    let e : rows ≡ out = cc in
    let At : List KeyRow → Type 0 = λ q. list_all (λ row. has_site all row.key.site) q ≡ true in
    subst At e at
rows_given all rows (value ∷ values) out h at =
    let (row, is, more) = and_then_some (row_in all value) _ out h in
    let one : has_site all row.key.site ≡ true = row_in_at all value row is in
    rows_given all (rows ++ row ∷ []) values out more
    (rw (list_all-append (λ r. has_site all r.key.site) rows (row ∷ []), at, one) refl)

-- the shares
shares : (loss : ℕ) (o : Option ℕ) (repeat : ℕ) → repeat_with loss o ≡ Some repeat → loss + repeat ≤ 100
shares loss None repeat h = cc
shares loss (Some r) repeat h = by (nat_le (loss + r) 100) refl h
  where
    by : (c : Bool) → nat_le (loss + r) 100 ≡ c → (if c then Some r else None) ≡ Some repeat → loss + repeat ≤ 100
    by true is same = let e : r ≡ repeat = cc in let few = leb-true _ _ is in omega (arith, e, few)
    by false is same = cc

-- the scenario without its steps
record IsBase (sc : Scenario) : Type 0 where
  some : 1 ≤ length sc.weights
  few : length sc.weights ≤ 16
  weighed : list_all (λ w. nat_le 1 w && nat_le w 1000) sc.weights ≡ true
  rows : list_all (λ row. has_site (sites_to (length sc.weights)) row.key.site) sc.rows ≡ true
  odds : sc.loss + sc.repeat ≤ 100

weights_fit : (values : List Data) (weights : List ℕ) → weights_of values ≡ Some weights
    → (1 ≤ length weights) × (length weights ≤ 16) × (list_all (λ w. nat_le 1 w && nat_le w 1000) weights ≡ true)
weights_fit values weights h = by (nat_le 1 (length values) && nat_le (length values) 16) refl h
  where
    by : (c : Bool) → (nat_le 1 (length values) && nat_le (length values) 16) ≡ c → (if c then more_weights [] values else None) ≡ Some weights
        → (1 ≤ length weights) × (length weights ≤ 16) × (list_all (λ w. nat_le 1 w && nat_le w 1000) weights ≡ true)
    by true is more =
        let (low, high) = and_parts (nat_le 1 (length values)) (nat_le (length values) 16) is in
        let given = weights_given [] values weights more refl in
        let a = leb-true _ _ low in
        let b = leb-true _ _ high in
        let n = given.counted in
        (omega (arith, a, n), omega (arith, b, n), given.all)
    by false is more = cc

ok_same : (read : Result Scenario ScenarioFault) (x y : Scenario) → read ≡ Ok x → read ≡ Ok y → x ≡ y
ok_same read x y a b = cc

base_given : (ms : Members) (base : Scenario) → base_in ms ≡ Ok base → IsBase base
base_given ms base h =
    let (weights, is_weights, h1) = and_read_ok (or_range field.Weights (weights_of (values_at ms (codes "weights")))) _ base h in
    let (rows, is_rows, h2) = and_read_ok (or_range field.Rows (more_rows (sites_to (length weights)) [] (values_at ms (codes "rows")))) _ base h1 in
    let (loss, is_loss, h3) = and_read_ok (or_range field.Loss (share_at ms (codes "loss"))) _ base h2 in
    let (repeat, is_repeat, h4) = and_read_ok (or_range field.Repeat (repeat_with loss (share_at ms (codes "repeat")))) _ base h3 in
    let (luck, is_luck, h5) = and_read_ok (or_range field.Luck (luck_at ms)) _ base h4 in
    let (some, few, weighed) = weights_fit (values_at ms (codes "weights")) weights (range_some field.Weights (weights_of (values_at ms (codes "weights"))) weights is_weights) in
    let at = rows_given (sites_to (length weights)) [] (values_at ms (codes "rows")) rows (range_some field.Rows (more_rows (sites_to (length weights)) [] (values_at ms (codes "rows"))) rows is_rows) refl in
    let odds = shares loss (share_at ms (codes "repeat")) repeat (range_some field.Repeat (repeat_with loss (share_at ms (codes "repeat"))) repeat is_repeat) in
    let made : IsBase (record { weights = weights; rows = rows; loss = loss; repeat = repeat; luck = luck; steps = [] }) =
    record { some = some; few = few; weighed = weighed; rows = at; odds = odds } in
    subst IsBase (ok_same (Ok (record { weights = weights; rows = rows; loss = loss; repeat = repeat; luck = luck; steps = [] })) (record { weights = weights; rows = rows; loss = loss; repeat = repeat; luck = luck; steps = [] }) base refl h5) made

-- what is read where a test holds
then_ok : (c : Bool) (f : ScenarioFault) (read : Result Scenario ScenarioFault) (sc : Scenario) → (if c then read else Err f) ≡ Ok sc → (c ≡ true) × (read ≡ Ok sc)
then_ok true f read sc h = (refl, h)
then_ok false f read sc h = cc

else_ok : (c : Bool) (f : ScenarioFault) (read : Result Scenario ScenarioFault) (sc : Scenario) → (if not c then Err f else read) ≡ Ok sc → (c ≡ true) × (read ≡ Ok sc)
else_ok true f read sc h = (refl, h)
else_ok false f read sc h = cc

-- with its steps
whole_given : (base : Scenario) (steps : List (List Item)) (values : List Data) → IsBase base → rows_differ base.rows ≡ true → steps_fit values ≡ true
    → steps_read (all_sites base) 1 (no_items_yet (all_sites base)) [] values ≡ Ok steps → IsGiven (record base { steps = steps })
whole_given base steps values is differ fit h =
    let (few, sizes) = and_parts (nat_le (length values) 10000) (sizes_fit 10000 values) fit in
    let given = steps_given (record base { steps = steps }) 1 10000 (no_items_yet (all_sites base)) [] values steps h sizes in
    let Keep : List (List Item) → Type 0 = λ q. steps_keep (record base { steps = steps }) (no_items_yet (all_sites base)) q ≡ true in
    record {
      some = is.some;
      few = is.few;
      weighed = is.weighed;
      rows_at_sites = list_all-map (has_site (sites_to (length base.weights))) (λ row. row.key.site) base.rows ∙ is.rows;
      rows_differ = differ;
      odds = is.odds;
      steps = subst Keep (sym given.steps) given.keep;
    }

fields_given : (ms : Members) (sc : Scenario) → fields_in ms ≡ Ok sc → IsGiven sc
fields_given ms sc h =
    let (base, is, a) = and_read_ok (base_in ms) _ sc h in
    let (fit, b) = else_ok (steps_fit (values_at ms (codes "steps"))) (fault.Range field.Steps) _ sc a in
    let (differ, c) = else_ok (rows_differ base.rows) fault.RowTwice _ sc b in
    let (steps, read, d) = and_read_ok (steps_read (all_sites base) 1 (no_items_yet (all_sites base)) [] (values_at ms (codes "steps"))) _ sc c in
    subst IsGiven (ok_same (Ok (record base { steps = steps })) (record base { steps = steps }) sc refl d) (whole_given base steps (values_at ms (codes "steps")) (base_given ms base is) differ fit read)

kind_given : (ms : Members) (o : Option Field) (sc : Scenario) → by_kind ms o ≡ Ok sc → IsGiven sc
kind_given ms None sc h = fields_given ms sc h
kind_given ms (Some f) sc h = cc

document_given : (o : Option Members) (sc : Scenario) → by_document o ≡ Ok sc → IsGiven sc
document_given None sc h = cc
document_given (Some ms) sc h = kind_given ms (kind_fault ms) sc (then_ok (keys_known ms) fault.UnknownKey (by_kind ms (kind_fault ms)) sc h).1

-- the scenario that bytes spell is given
pub given_scenario : (bytes : List ℕ) (sc : Scenario) → scenario_of bytes ≡ Ok sc → IsGiven sc
given_scenario bytes sc h =
    document_given (document bytes) sc (then_ok (nat_le (length bytes) 4194304) fault.TooLong (by_document (document bytes)) sc h).1
