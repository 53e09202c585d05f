-- The sites of each transaction in the logs of a legal history are a set.
use Rattle.std.proofs.Common.{◌≡◌, ◌<◌, ◌≤◌, ◌==◌, ◌+◌, ◌-◌, ◌*◌, ◌%◌, ◌&&◌, ◌++◌, ◌∷◌, [], ℕ, zero, suc, true, not, List, Option, Some, None, refl, ap, sym, subst, ◌∙◌, fold, length, take, filter, get_or, arith}
use Rattle.std.specs.Prelude.{◌^◌, bit_or, slice_get, filter_map, option_map, Contains}
use Rattle.std.specs.List.{flat_map, cons_option, AllByRecursion as Each}
use Rattle.std.proofs.lemmas.Bool.{and_parts}
use Rattle.std.proofs.lemmas.List.{take_all}
use Rattle.e3_types.specs.declared.entries.Act.{Act}
use Rattle.e3_types.specs.declared.entries.Act.TheVariants.{Step, Fall, Rise, RiseFall, Miss, Cut, Drop, Parts, Line}
use Rattle.e3_types.specs.declared.entries.Entry.{Entry}
use Rattle.e3_types.specs.declared.entries.Input.{Input}
use Rattle.e3_types.specs.declared.entries.Input.TheVariants as input
use Rattle.e3_types.specs.declared.records.Record.{Record}
use Rattle.e3_types.specs.declared.records.Record.TheVariants as log
use Rattle.e3_types.specs.declared.scenarios.Item.{Item}
use Rattle.e3_types.specs.declared.scenarios.Item.TheVariants as item
use Rattle.e3_types.specs.declared.scenarios.Scenario.{Scenario}
use Rattle.e3_types.specs.declared.transactions.Txn.{Txn}
use Rattle.e3_types.specs.SetBits.{bits_back}
use Rattle.e3_types.specs.Sets.{has_site, is_set}
use Rattle.e3_types.specs.Sites.{bits_of, sites_of}
use Rattle.e3_types.proofs.SetSteps.{ascends_within, no_bit, with_bit, with_next_site, with_small}
use Rattle.e3_world.specs.declared.lives.Made.{Made}
use Rattle.e3_world.specs.declared.names.Addressed.{Addressed}
use Rattle.e3_world.specs.Given.{IsGiven, ItemsSoFar, close_step, exist, is_begun, is_group, is_step_form, items_keep, keeps_rules, with_item, steps_keep}
use Rattle.e3_world.specs.Items.{began_in, input_of, inputs_at, plan_of, to_line, turn_of, txn_of as txn_named, txn_of_record}
use Rattle.e3_world.specs.Legal.{Guard, IsDue, IsLegal, LegalAfter, made_by}
use Rattle.e3_world.specs.Moves.{log_of, own_entries}
use Rattle.e3_world.specs.Packets.{items_or, present_items, step_items}
use Rattle.e3_world.proofs.Pushes.{legal_push}
use Rattle.e3_laws.specs.steps.Trails.{records_at}
use Rattle.e3_laws.proofs.steps.Each.{IfAny, each-at, each-filter, each-flat, each-left, each-map}
use Rattle.e3_laws.specs.steps.Mentions.{Stands, begun_in, of_event, of_record}
use Rattle.e3_laws.proofs.steps.Begun.Holding.{keeps_at, legal_holds}
use Rattle.e3_laws.proofs.steps.Begun.Laws.{due_mentions, records_mention}
use Rattle.e3_laws.proofs.steps.Begun.Lists.{any-get, each-join, each-within, held}
use Rattle.e3_world.specs.Brief.{txns_of}
use Rattle.e3_laws.proofs.steps.Ascending.{each_fold}
use Rattle.e3_world.specs.Transactions.{IsFoundByBits}

-- a set is that of some bits
record IsOfBits (sites : List ℕ) : Type 0 where
  bits : ℕ
  small : bits < 2 ^ 64
  is : sites_of bits ≡ sites

of_bits : (sites : List ℕ) → is_set sites ≡ true → (n : ℕ) → n ≤ length sites → IsOfBits (take n sites)
of_bits sites up zero within = record { bits = 0; small = omega arith; is = no_bit 0 refl }
of_bits sites up (suc n) within =
    let was : IsOfBits (take n sites) = of_bits sites up n (omega (arith, within)) in
    let here = ascends_within 0 n sites up (omega (arith, within)) in
    let low : 1 ≤ get_or sites n 0 = omega (arith, here.0) in
    let one : n + 1 ≡ suc n = omega arith in
    let next : take (n + 1) sites ≡ take (suc n) sites = ap (λ (k : ℕ). take k sites) one in
    record {
      bits = bit_or was.bits (1 * 2 ^ (get_or sites n 0 - 1) % 18446744073709551616);
      small = with_small was.bits (get_or sites n 0) was.small low here.1;
      is = with_bit was.bits (get_or sites n 0) low here.1 ∙ with_next_site sites (sites_of was.bits) n up (omega (arith, within)) was.is ∙ next;
    }

pub set_known : (t : Txn) → is_set t.sites ≡ true → IsFoundByBits t
set_known t up =
    let made : IsOfBits (take (length t.sites) t.sites) = of_bits t.sites up (length t.sites) (omega arith) in
    let is : sites_of made.bits ≡ t.sites = made.is ∙ take_all (length t.sites) t.sites (omega arith) in
    ap (λ (s : List ℕ). sites_of (bits_of s)) (sym is) ∙ ap sites_of (bits_back made.bits made.small) ∙ is

-- each begin of a given scenario is for a set of sites
abbrev ItemSets : Item → Type 0
ItemSets (item.Begin name site sites) = is_set sites ≡ true
ItemSets _ = Unit {0}

abbrev InputSets : Input → Type 0
InputSets (input.Begin sites) = is_set sites ≡ true
InputSets _ = Unit {0}

group_set : (sc : Scenario) (group : List ℕ) → is_group sc group ≡ true → is_set group ≡ true
group_set sc [] is = refl
group_set sc (s ∷ ss) is = (and_parts (is_set (s ∷ ss)) (exist sc (s ∷ ss)) is).0

item_sets : (sc : Scenario) (k : ItemsSoFar) (it : Item) → keeps_rules sc k it ≡ true → ItemSets it
item_sets sc k (item.Begin name site sites) keeps =
    let p = and_parts (is_group sc sites && has_site sites site) (not (is_begun (k.earlier ++ k.fresh) name [])) keeps in
    group_set sc sites (and_parts (is_group sc sites) (has_site sites site) p.0).0
item_sets sc k it keeps = tt

items_set : (sc : Scenario) (k : ItemsSoFar) (items : List Item) → items_keep sc k items ≡ true → Each ItemSets items
items_set sc k [] keep = tt
items_set sc k (it ∷ items) keep =
    let p = and_parts (keeps_rules sc k it) (items_keep sc (with_item sc k it) items) keep in
    (item_sets sc k it p.0, items_set sc (with_item sc k it) items p.1)

steps_set : (sc : Scenario) (k : ItemsSoFar) (steps : List (List Item)) → steps_keep sc k steps ≡ true → Each (Each ItemSets) steps
steps_set sc k [] keep = tt
steps_set sc k (items ∷ steps) keep =
    let outer = and_parts (is_step_form items && items_keep sc k items) (steps_keep sc (close_step (fold (with_item sc) k items)) steps) keep in
    let inner = and_parts (is_step_form items) (items_keep sc k items) outer.0 in
    (items_set sc k items inner.1, steps_set sc (close_step (fold (with_item sc) k items)) steps outer.1)

step_set : (sc : Scenario) (n : ℕ) → IsGiven sc → Each ItemSets (step_items sc n)
step_set sc zero given = tt
step_set sc (suc n) given = by (slice_get sc.steps n) (any-get (Each ItemSets) sc.steps n (steps_set sc _ sc.steps given.steps))
  where
    by : (o : Option (List Item)) → IfAny (Each ItemSets) o → Each ItemSets (items_or o)
    by None this = tt
    by (Some items) this = this

-- so is each that is due
abbrev AddressedSets : Addressed → Type 0
AddressedSets a = InputSets a.input

named_set : (f : Txn → Addressed) → ((t : Txn) → AddressedSets (f t)) → (o : Option Txn) → IfAny AddressedSets (option_map f o)
named_set f all None = tt
named_set f all (Some t) = all t

input_set : (sc : Scenario) (h : List Entry) (it : Item) → ItemSets it → IfAny AddressedSets (input_of sc h it)
input_set sc h (item.Begin name site sites) sets = sets
input_set sc h (item.Read name key) sets = named_set _ (λ t. tt) (txn_named sc h name)
input_set sc h (item.Write name key val) sets = named_set _ (λ t. tt) (txn_named sc h name)
input_set sc h (item.Commit name) sets = named_set _ (λ t. tt) (txn_named sc h name)
input_set sc h (item.Cancel name) sets = named_set _ (λ t. tt) (txn_named sc h name)
input_set sc h (item.Expire site name) sets = named_set _ (λ t. tt) (txn_named sc h name)
input_set sc h (item.Elect site name group) sets = named_set _ (λ t. tt) (txn_named sc h name)
input_set sc h it sets = tt

inputs_set : (sc : Scenario) (h : List Entry) (items : List Item) → Each ItemSets items → Each AddressedSets (filter_map (input_of sc h) items)
inputs_set sc h [] all = tt
inputs_set sc h (it ∷ items) all = by (inputs_set sc h items all.1) (input_of sc h it) (input_set sc h it all.0)
  where
    by : Each AddressedSets (filter_map (input_of sc h) items) → (o : Option Addressed) → IfAny AddressedSets o → Each AddressedSets (cons_option o (filter_map (input_of sc h) items))
    by rest None this = rest
    by rest (Some a) this = (this, rest)

due_set : (sc : Scenario) (h : List Entry) (site : ℕ) (i : Input) → IsGiven sc → IsDue sc h site i → InputSets i
due_set sc h site (input.Begin sites) given due =
    let plan : List Addressed = plan_of sc h in
    let all : Each AddressedSets plan = inputs_set sc (to_line h) (present_items sc (to_line h)) (step_set sc _ given) in
    held InputSets (slice_get (inputs_at sc h site) (turn_of h site)) (input.Begin sites) due.next
    (any-get InputSets (inputs_at sc h site) (turn_of h site)
    (each-map InputSets (λ a. a.input) (filter _ plan) (each-filter AddressedSets _ plan all)))
due_set sc h site i given due = tt

-- and each transaction that is told as begun
abbrev HasSet : Txn → Type 0
HasSet t = is_set t.sites ≡ true

second : {X : Type 0} (P Q : X → Type 0) (xs : List X) → Each (λ x. P x × Q x) xs → Each Q xs
second P Q [] all = tt
second P Q (x ∷ xs) all = (all.0.1, second P Q xs all.1)

told_set : (sc : Scenario) (h : List Entry) (site : ℕ) (i : Input) → IsGiven sc → IsLegal sc h → IsDue sc h site i → Each HasSet (flat_map began_in (made_by sc h site i).told)
told_set sc h site (input.Begin sites) given legal due =
    let made : Made = made_by sc h site (input.Begin sites) in
    let sets : is_set sites ≡ true = due_set sc h site (input.Begin sites) given due in
    let keeps = keeps_at (Stands sc h) HasSet _ sc h site (input.Begin sites) (legal_holds sc h legal).now (due_mentions sc h site (input.Begin sites) legal due) sets in
    each-join HasSet began_in made.told (second (λ e. Each (Stands sc h) (of_event e)) (λ e. Each HasSet (began_in e)) made.told keeps.told)
told_set sc h site i given legal due =
    let made : Made = made_by sc h site i in
    let keeps = keeps_at (Stands sc h) HasSet _ sc h site i (legal_holds sc h legal).now (due_mentions sc h site i legal due) tt in
    each-join HasSet began_in made.told (second (λ e. Each (Stands sc h) (of_event e)) (λ e. Each HasSet (began_in e)) made.told keeps.told)

entry_set : (sc : Scenario) (h : List Entry) (owner : ℕ) (act : Act) → IsGiven sc → IsLegal sc h → Guard sc h (record { owner = owner; act = act }) → Each HasSet (begun_in act)
entry_set sc h zero (Step i records outs events) given legal guard = absurd guard
entry_set sc h (suc s) (Step i records outs events) given legal guard =
    let P : Entry → Type 0 = λ e. Each HasSet (begun_in e.act) in subst P (sym guard.made) (told_set sc h (suc s) i given legal guard.due)
entry_set sc h owner (Fall inputs records why) given legal guard = tt
entry_set sc h owner (Rise kept inc) given legal guard = tt
entry_set sc h owner (RiseFall kept inc why) given legal guard = tt
entry_set sc h owner Miss given legal guard = tt
entry_set sc h owner Cut given legal guard = tt
entry_set sc h owner (Drop number) given legal guard = tt
entry_set sc h owner (Parts parts) given legal guard = tt
entry_set sc h owner (Line number) given legal guard = tt

after_set : (sc : Scenario) (before rest : List Entry) → IsGiven sc → IsLegal sc before → LegalAfter sc before rest → Each (λ e. Each HasSet (begun_in e.act)) rest
after_set sc before [] given first legal = tt
after_set sc before (e ∷ rest) given first legal =
    (entry_set sc before e.owner e.act given first legal.0, after_set sc (before ++ e ∷ []) rest given (legal_push sc before e first legal.0) legal.1)

begun_set : (sc : Scenario) (h : List Entry) (t : Txn) → IsGiven sc → IsLegal sc h → Contains (flat_map (λ e. begun_in e.act) (own_entries t.site h)) t → HasSet t
begun_set sc h t given legal begun =
    each-at HasSet (flat_map (λ e. begun_in e.act) (own_entries t.site h)) t
    (each-join HasSet (λ e. begun_in e.act) (own_entries t.site h)
    (each-filter (λ e. Each HasSet (begun_in e.act)) (λ e. e.owner == t.site) h (after_set sc [] h given tt legal))) begun

-- and so each that a log has
record_known : (sc : Scenario) (h : List Entry) (r : Record) → IsGiven sc → IsLegal sc h → Each (Stands sc h) (of_record r) → Each IsFoundByBits (txn_of_record r)
record_known sc h (log.Birth format site weights rows) given legal stands = tt
record_known sc h (log.Inc n) given legal stands = tt
record_known sc h (log.Vote t ops) given legal stands = (set_known t (begun_set sc h t given legal stands.0), tt)
record_known sc h (log.Join t n) given legal stands = (set_known t (begun_set sc h t given legal stands.0), tt)
record_known sc h (log.Attempt t n dir) given legal stands = (set_known t (begun_set sc h t given legal stands.0), tt)
record_known sc h (log.Decision t dir) given legal stands = (set_known t (begun_set sc h t given legal stands.0), tt)

pub txns_known : (sc : Scenario) (h : List Entry) (site : ℕ) → IsGiven sc → IsLegal sc h → Each IsFoundByBits (txns_of (log_of sc h site))
txns_known sc h site given legal =
    let l : List Record = log_of sc h site in
    let within : Each (Contains (records_at sc h site)) l = each-left (Contains (records_at sc h site)) l _ (each-within (records_at sc h site)) in
    each_fold IsFoundByBits [] (flat_map txn_of_record l) tt
    (each-flat (Contains (records_at sc h site)) IsFoundByBits txn_of_record (λ r has. record_known sc h r given legal (records_mention sc h site r legal has)) l within)
