-- A given scenario has at most 64 operations of a name; so has what they ask of a site.
use Rattle.std.proofs.Common.{◌≡◌, ◌==◌, ◌&&◌, ◌+◌, ◌++◌, ◌∷◌, [], ℕ, zero, suc, ◌≤◌, ◌<◌, Bool, true, false, List, Option, Some, None, refl, sym, subst, ap, ◌∙◌, fold, count_by, arith, ltb-true, nat_lt, length, if◌then◌else◌}
use Rattle.std.specs.Prelude.{slice_get, filter_map, option_map}
use Rattle.std.proofs.Common.{not}
use Rattle.std.specs.List.{cons_option, list_any}
use Rattle.std.proofs.lemmas.Bool.{and_parts}
use Rattle.std.proofs.lemmas.List.Sums.{sum_by-append}
use Rattle.std.proofs.lemmas.List.{length-append}
use Rattle.e3_types.specs.declared.entries.Entry.{Entry}
use Rattle.e3_types.specs.declared.entries.Input.{Input}
use Rattle.e3_types.specs.declared.entries.Input.TheVariants as input
use Rattle.e3_types.specs.declared.scenarios.Item.{Item}
use Rattle.e3_types.specs.declared.scenarios.Item.TheVariants as item
use Rattle.e3_types.specs.declared.scenarios.Scenario.{Scenario}
use Rattle.e3_types.specs.declared.transactions.Op.{Op}
use Rattle.e3_types.specs.declared.transactions.Txn.{Txn}
use Rattle.e3_types.specs.Same.{same_numbers, same_txn}
use Rattle.e3_types.proofs.SameSites.{same_numbers_refl, same_numbers_eq}
use Rattle.e3_world.specs.declared.lives.Moment.{Moment}
use Rattle.e3_world.specs.declared.names.Addressed.{Addressed}
use Rattle.e3_world.specs.Given.{ItemsSoFar, IsGiven, is_begun, count_ops, keeps_rules, with_item, items_keep, close_step, steps_keep}
use Rattle.e3_world.specs.Items.{txn_of, input_of, inputs_to}
use Rattle.e3_world.specs.Operations.{issued, issued_in, is_refusal}
use Rattle.e3_world.specs.Packets.{all_sites, step_items, items_or}
use Rattle.e3_laws.proofs.steps.Suits.Scenarios.{parts_of_step}
use Rattle.e3_laws.proofs.steps.Suits.Turns.{count_yes, count_not, count_one, count_none}
use Rattle.e3_laws.proofs.steps.Each.{IfAny}

-- the item is an operation of this name
abbrev pub is_op : List ℕ → Item → Bool
is_op name (item.Read called key) = same_numbers name called
is_op name (item.Write called key val) = same_numbers name called
is_op name _ = false

-- how many operations of the name the items have, and the first steps
abbrev pub ops_named : List ℕ → List Item → ℕ
ops_named name items = count_by (is_op name) items

abbrev pub first_ops : List (List Item) → ℕ → List ℕ → ℕ
first_ops steps zero name = 0
first_ops [] (suc n) name = 0
first_ops (items ∷ steps) (suc n) name = ops_named name items + first_ops steps n name

-- how many there are before the step with this number
abbrev pub ops_before : Scenario → ℕ → List ℕ → ℕ
ops_before sc zero name = 0
ops_before sc (suc n) name = first_ops sc.steps n name

op_with : (ops : List (List ℕ)) (name called : List ℕ) → (same_numbers name called ≡ true → count_ops ops called < 64) → count_ops ops name ≤ 64 →
    (b : Bool) → same_numbers name called ≡ b → (it : Item) → is_op name it ≡ b →
    (count_ops (ops ++ called ∷ []) name ≡ count_ops ops name + ops_named name (it ∷ [])) × (count_ops (ops ++ called ∷ []) name ≤ 64)
op_with ops name called fewer few true is it one =
    let more : _ = count_one (same_numbers name) ops called is in
    let this : _ = count_yes (is_op name) it [] one in
    let low : count_ops ops called < 64 = fewer is in
    let same : count_ops ops name ≡ count_ops ops called = ap (count_ops ops) (same_numbers_eq name called is) in
    (omega (arith, more, this), omega (arith, more, low, same))
op_with ops name called fewer few false is it one =
    let more : _ = count_none (same_numbers name) ops called is in
    let this : _ = count_not (is_op name) it [] one in
    (omega (arith, more, this), omega (arith, more, few))

still_op : (ops : List (List ℕ)) (name : List ℕ) (it : Item) → count_ops ops name ≤ 64 → is_op name it ≡ false →
    (count_ops ops name ≡ count_ops ops name + ops_named name (it ∷ [])) × (count_ops ops name ≤ 64)
still_op ops name it few none = let this : _ = count_not (is_op name) it [] none in (omega (arith, this), few)

-- the operations so far, with one more item
ops_with : (sc : Scenario) (k : ItemsSoFar) (name : List ℕ) (it : Item) → keeps_rules sc k it ≡ true → count_ops k.ops name ≤ 64 →
    (count_ops (with_item sc k it).ops name ≡ count_ops k.ops name + ops_named name (it ∷ [])) × (count_ops (with_item sc k it).ops name ≤ 64)
ops_with sc k name (item.Read called key) keeps few = op_with k.ops name called
    (λ same. ltb-true (count_ops k.ops called) 64 (and_parts (is_begun k.earlier called (key.site ∷ [])) (nat_lt (count_ops k.ops called) 64) keeps).1) few
    (same_numbers name called) refl (item.Read called key) refl
ops_with sc k name (item.Write called key val) keeps few = op_with k.ops name called
    (λ same. ltb-true (count_ops k.ops called) 64 (and_parts (is_begun k.earlier called (key.site ∷ [])) (nat_lt (count_ops k.ops called) 64) keeps).1) few
    (same_numbers name called) refl (item.Write called key val) refl
ops_with sc k name (item.Begin called site sites) keeps few = still_op k.ops name (item.Begin called site sites) few refl
ops_with sc k name (item.Split parts) keeps few = still_op k.ops name (item.Split parts) few refl
ops_with sc k name item.Merge keeps few = still_op k.ops name item.Merge few refl
ops_with sc k name it keeps few = still_op k.ops name it few refl

step_ops : (sc : Scenario) (k : ItemsSoFar) (name : List ℕ) (items : List Item) → items_keep sc k items ≡ true → count_ops k.ops name ≤ 64 →
    (count_ops (fold (with_item sc) k items).ops name ≡ count_ops k.ops name + ops_named name items) × (count_ops (fold (with_item sc) k items).ops name ≤ 64)
step_ops sc k name [] keep few = (omega arith, few)
step_ops sc k name (it ∷ items) keep few =
    let parts : _ = and_parts (keeps_rules sc k it) (items_keep sc (with_item sc k it) items) keep in
    let one : _ = ops_with sc k name it parts.0 few in
    let more : _ = step_ops sc (with_item sc k it) name items parts.1 one.1 in
    let first : count_ops (with_item sc k it).ops name ≡ count_ops k.ops name + ops_named name (it ∷ []) = one.0 in
    let rest : count_ops (fold (with_item sc) (with_item sc k it) items).ops name ≡ count_ops (with_item sc k it).ops name + ops_named name items = more.0 in
    let both : ops_named name (it ∷ items) ≡ ops_named name (it ∷ []) + ops_named name items = sum_by-append _ (it ∷ []) items in
    (omega (arith, first, rest, both), more.1)

few_ops : (sc : Scenario) (k : ItemsSoFar) (name : List ℕ) (steps : List (List Item)) → steps_keep sc k steps ≡ true → count_ops k.ops name ≤ 64 →
    (n : ℕ) → count_ops k.ops name + first_ops steps n name ≤ 64
few_ops sc k name steps keep few zero = omega (arith, few)
few_ops sc k name [] keep few (suc n) = omega (arith, few)
few_ops sc k name (items ∷ steps) keep few (suc n) =
    let parts : _ = parts_of_step sc k items steps keep in
    let step : _ = step_ops sc k name items parts.1 few in
    let same : count_ops (fold (with_item sc) k items).ops name ≡ count_ops k.ops name + ops_named name items = step.0 in
    let rest : count_ops (fold (with_item sc) k items).ops name + first_ops steps n name ≤ 64 = few_ops sc (close_step (fold (with_item sc) k items)) name steps parts.2 step.1 n in
    omega (arith, same, rest)

-- a name has at most 64 operations
pub ops_few : (sc : Scenario) (n : ℕ) (name : List ℕ) → IsGiven sc → ops_before sc n name ≤ 64
ops_few sc zero name given = omega arith
ops_few sc (suc n) name given =
    let all : 0 + first_ops sc.steps n name ≤ 64 = few_ops sc (record { earlier = []; fresh = []; ops = []; parts = all_sites sc ∷ [] }) name sc.steps given.steps (omega arith) n in
    omega (arith, all)

next_first : (steps : List (List Item)) (n : ℕ) (name : List ℕ) → first_ops steps (suc n) name ≡ first_ops steps n name + ops_named name (items_or (slice_get steps n))
next_first [] zero name = refl
next_first [] (suc n) name = refl
next_first (items ∷ steps) zero name = let none : first_ops steps zero name ≡ 0 = refl in omega (arith, none)
next_first (items ∷ steps) (suc n) name = let more : _ = next_first steps n name in omega (arith, more)

pub next_ops : (sc : Scenario) (n : ℕ) (name : List ℕ) → ops_before sc (suc n) name ≡ ops_before sc n name + ops_named name (step_items sc n)
next_ops sc zero name = refl
next_ops sc (suc n) name = next_first sc.steps n name

-- the input is an operation of the transaction
abbrev pub does : Txn → Input → Bool
does t (input.Do u op) = same_txn t u
does t _ = false

-- whether what an item asks is one
abbrev does_one : Txn → Option Addressed → ℕ
does_one t None = 0
does_one t (Some a) = if does t a.input then 1 else 0

one_count : (t : Txn) (a : Addressed) (rest : List Input) → count_by (does t) (a.input ∷ rest) ≡ does_one t (Some a) + count_by (does t) rest
one_count t a rest = by (does t a.input) refl
  where
    by : (b : Bool) → does t a.input ≡ b → count_by (does t) (a.input ∷ rest) ≡ does_one t (Some a) + count_by (does t) rest
    by true is = let this : _ = count_yes (does t) a.input rest is in let one : does_one t (Some a) ≡ 1 = rw is refl in omega (arith, this, one)
    by false is = let this : _ = count_not (does t) a.input rest is in let one : does_one t (Some a) ≡ 0 = rw is refl in omega (arith, this, one)

cons_count : (t : Txn) (s : ℕ) (o : Option Addressed) (rest : List Addressed) →
    count_by (does t) (inputs_to s (cons_option o rest)) ≤ does_one t o + count_by (does t) (inputs_to s rest)
cons_count t s None rest = omega arith
cons_count t s (Some a) rest = by (a.site == s) refl
  where
    by : (b : Bool) → (a.site == s) ≡ b → count_by (does t) (inputs_to s (a ∷ rest)) ≤ does_one t (Some a) + count_by (does t) (inputs_to s rest)
    by true is =
        let same : inputs_to s (a ∷ rest) ≡ a.input ∷ inputs_to s rest = rw is refl in
        let many : _ = ap (count_by (does t)) same ∙ one_count t a (inputs_to s rest) in omega (arith, many)
    by false is =
        let same : inputs_to s (a ∷ rest) ≡ inputs_to s rest = rw is refl in
        let many : _ = ap (count_by (does t)) same in omega (arith, many)

-- only this name is bound to the transaction
abbrev pub OnlyName : Scenario → List Entry → Txn → List ℕ → Type 0
OnlyName sc k t name = (called : List ℕ) → IfAny (λ u. same_txn t u ≡ true → called ≡ name) (txn_of sc k called)

named_one : (t : Txn) (name called : List ℕ) (o : Option Txn) (f : Txn → Addressed) (it : Item) → is_op name it ≡ same_numbers name called →
    ((u : Txn) → does t (f u).input ≡ same_txn t u) → IfAny (λ u. same_txn t u ≡ true → called ≡ name) o → does_one t (option_map f o) ≤ ops_named name (it ∷ [])
named_one t name called None f it is each only = omega arith
named_one t name called (Some u) f it is each only = by (same_txn t u) refl
  where
    by : (b : Bool) → same_txn t u ≡ b → does_one t (Some (f u)) ≤ ops_named name (it ∷ [])
    by true same =
        let P : List ℕ → Type 0 = λ l. same_numbers name l ≡ true in
        let op : is_op name it ≡ true = is ∙ subst P (sym (only same)) (same_numbers_refl name) in
        let this : _ = count_yes (is_op name) it [] op in
        rw (each u ∙ same) (omega (arith, this))
    by false same = rw (each u ∙ same) (omega arith)

other_one : (t : Txn) (o : Option Txn) (f : Txn → Addressed) (n : ℕ) → ((u : Txn) → does t (f u).input ≡ false) → does_one t (option_map f o) ≤ n
other_one t None f n each = omega arith
other_one t (Some u) f n each = rw (each u) (omega arith)

item_one : (sc : Scenario) (k : List Entry) (t : Txn) (name : List ℕ) (it : Item) → OnlyName sc k t name → does_one t (input_of sc k it) ≤ ops_named name (it ∷ [])
item_one sc k t name (item.Read called key) only = named_one t name called (txn_of sc k called) _ (item.Read called key) refl (λ u. refl) (only called)
item_one sc k t name (item.Write called key val) only = named_one t name called (txn_of sc k called) _ (item.Write called key val) refl (λ u. refl) (only called)
item_one sc k t name (item.Begin called site sites) only = omega arith
item_one sc k t name (item.Commit called) only = other_one t (txn_of sc k called) _ _ (λ u. refl)
item_one sc k t name (item.Cancel called) only = other_one t (txn_of sc k called) _ _ (λ u. refl)
item_one sc k t name (item.Expire site called) only = other_one t (txn_of sc k called) _ _ (λ u. refl)
item_one sc k t name (item.Elect site called sites) only = other_one t (txn_of sc k called) _ _ (λ u. refl)
item_one sc k t name it only = omega arith

-- what items ask of a site for a transaction
pub asked_few : (sc : Scenario) (k : List Entry) (t : Txn) (name : List ℕ) (s : ℕ) (items : List Item) → OnlyName sc k t name →
    count_by (does t) (inputs_to s (filter_map (input_of sc k) items)) ≤ ops_named name items
asked_few sc k t name s [] only = omega arith
asked_few sc k t name s (it ∷ items) only =
    let one : _ = item_one sc k t name it only in
    let first : _ = cons_count t s (input_of sc k it) (filter_map (input_of sc k) items) in
    let more : _ = asked_few sc k t name s items only in
    let both : ops_named name (it ∷ items) ≡ ops_named name (it ∷ []) + ops_named name items = sum_by-append _ (it ∷ []) items in
    omega (arith, one, first, more, both)

-- what was issued is not more than what was asked
issued_one : (t : Txn) (m : Moment) → length (issued_in t m.input m.told) ≤ count_by (λ x. does t x.input) (m ∷ [])
issued_one t m = by m.input refl
  where
    did : (u : Txn) (op : Op) (b : Bool) → m.input ≡ input.Do u op → same_txn t u ≡ b → length (issued_in t m.input m.told) ≤ count_by (λ x. does t x.input) (m ∷ [])
    did u op true is same =
        let one : does t m.input ≡ true = rw is same in
        let this : _ = count_yes (λ x. does t x.input) m [] one in
        let few : length (issued_in t (input.Do u op) m.told) ≤ 1 = some (same_txn t u && not (list_any is_refusal m.told)) op in
        let equal : _ = ap (λ i. length (issued_in t i m.told)) is in
        omega (arith, this, few, equal)
      where
        some : (b : Bool) (op : Op) → length (if b then op ∷ [] else []) ≤ 1
        some true op = omega arith
        some false op = omega arith
    did u op false is same =
        let none : issued_in t (input.Do u op) m.told ≡ [] = rw same refl in
        let equal : _ = ap (λ i. length (issued_in t i m.told)) is ∙ ap length none in
        omega (arith, equal)

    by : (i : Input) → m.input ≡ i → length (issued_in t m.input m.told) ≤ count_by (λ x. does t x.input) (m ∷ [])
    by (input.Do u op) is = did u op (same_txn t u) is refl
    by i is = let none : length (issued_in t i m.told) ≡ 0 = refl in let equal : _ = ap (λ j. length (issued_in t j m.told)) is in omega (arith, none, equal)

pub issued_few : (t : Txn) (steps : List Moment) → length (issued t steps) ≤ count_by (λ m. does t m.input) steps
issued_few t [] = omega arith
issued_few t (m ∷ steps) =
    let one : _ = issued_one t m in
    let more : _ = issued_few t steps in
    let first : length (issued t (m ∷ steps)) ≡ length (issued_in t m.input m.told) + length (issued t steps) = length-append (issued_in t m.input m.told) (issued t steps) in
    let both : count_by (λ x. does t x.input) (m ∷ steps) ≡ count_by (λ x. does t x.input) (m ∷ []) + count_by (λ x. does t x.input) steps = sum_by-append _ (m ∷ []) steps in
    omega (arith, one, more, first, both)
