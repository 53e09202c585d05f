-- The steps of a scenario that keeps the rules: the form of a recover step, and the parts that the steps so far asked for.
use Rattle.std.proofs.Common.{◌≡◌, ◌&&◌, ℕ, zero, suc, true, List, [], ◌∷◌, Option, Some, None, ◌∙◌, ap, sym, subst, refl, fold, slice_get}
use Rattle.std.proofs.lemmas.Bool.{and_parts}
use Rattle.std.specs.List.{list_any, list_all}
use Rattle.e3_types.specs.declared.scenarios.Item.{Item}
use Rattle.e3_types.specs.declared.scenarios.Item.TheVariants as item
use Rattle.e3_types.specs.declared.scenarios.Scenario.{Scenario}
use Rattle.e3_types.specs.Sets.{is_within, is_set}
use Rattle.e3_world.specs.Given.{IsGiven, ItemsSoFar, close_step, is_group, is_groupable, is_step_form, items_keep, keeps_rules, with_item, steps_keep, exist}
use Rattle.e3_world.specs.Legal.{parts_due}
use Rattle.e3_world.specs.Packets.{all_sites, items_or, step_items}

step_parts : (sc : Scenario) (k : ItemsSoFar) (items : List Item) (steps : List (List Item)) → steps_keep sc k (items ∷ steps) ≡ true →
    (is_step_form items ≡ true) × (items_keep sc k items ≡ true) × (steps_keep sc (close_step (fold (with_item sc) k items)) steps ≡ true)
step_parts sc k items steps keep =
    let outer = and_parts (is_step_form items && items_keep sc k items) (steps_keep sc (close_step (fold (with_item sc) k items)) steps) keep in
    let inner = and_parts (is_step_form items) (items_keep sc k items) outer.0 in
    (inner.0, inner.1, outer.1)

-- a recover step has no other item
alone : (group : List ℕ) (items : List Item) → is_step_form (item.Recover group ∷ items) ≡ true → items ≡ []
alone group [] form = refl
alone group (it ∷ items) form = absurd cc

recover_form : (sc : Scenario) (k : ItemsSoFar) (steps : List (List Item)) (n : ℕ) (group : List ℕ) (items : List Item) → steps_keep sc k steps ≡ true →
    items_or (slice_get steps n) ≡ item.Recover group ∷ items → items ≡ []
recover_form sc k [] n group items keep is = absurd cc
recover_form sc k (x ∷ steps) zero group items keep is =
    alone group items (let P : List Item → Type 0 = λ l. is_step_form l ≡ true in subst P is (step_parts sc k x steps keep).0)
recover_form sc k (x ∷ steps) (suc n) group items keep is =
    recover_form sc (close_step (fold (with_item sc) k x)) steps n group items (step_parts sc k x steps keep).2 is

pub recover_alone : (sc : Scenario) (n : ℕ) (group : List ℕ) (items : List Item) → IsGiven sc → step_items sc n ≡ item.Recover group ∷ items → items ≡ []
recover_alone sc zero group items given is = absurd cc
recover_alone sc (suc n) group items given is = recover_form sc _ sc.steps n group items given.steps is

-- the parts behind a step that asks for some, or as they were
abbrev pub parts_or : List (List ℕ) → Option (List (List ℕ)) → List (List ℕ)
parts_or was (Some parts) = parts
parts_or was None = was

-- the parts behind the first so many of these steps
abbrev pub parts_after_steps : Scenario → List (List ℕ) → ℕ → List (List Item) → List (List ℕ)
parts_after_steps sc was zero steps = was
parts_after_steps sc was (suc n) [] = was
parts_after_steps sc was (suc n) (items ∷ steps) = parts_after_steps sc (parts_or was (parts_due sc items)) n steps

abbrev pub parts_after : Scenario → ℕ → List (List ℕ)
parts_after sc n = parts_after_steps sc (all_sites sc ∷ []) n sc.steps

said_next : (sc : Scenario) (was : List (List ℕ)) (n : ℕ) (steps : List (List Item)) →
    parts_after_steps sc was (suc n) steps ≡ parts_or (parts_after_steps sc was n steps) (parts_due sc (items_or (slice_get steps n)))
said_next sc was zero [] = refl
said_next sc was zero (x ∷ steps) = refl
said_next sc was (suc n) [] = refl
said_next sc was (suc n) (x ∷ steps) = said_next sc (parts_or was (parts_due sc x)) n steps

pub parts_more : (sc : Scenario) (n : ℕ) → parts_after sc (suc n) ≡ parts_or (parts_after sc n) (parts_due sc (step_items sc (suc n)))
parts_more sc n = said_next sc (all_sites sc ∷ []) n sc.steps

-- items of the group kind say nothing of the parts
item_says : (sc : Scenario) (k : ItemsSoFar) (it : Item) → is_groupable it ≡ true → (with_item sc k it).parts ≡ k.parts
item_says sc k (item.Begin name site sites) is = refl
item_says sc k (item.Read name key) is = refl
item_says sc k (item.Write name key val) is = refl
item_says sc k (item.Commit name) is = refl
item_says sc k (item.Cancel name) is = refl
item_says sc k (item.Expire site name) is = refl
item_says sc k (item.Elect site name sites) is = refl
item_says sc k (item.Recover sites) is = absurd cc
item_says sc k (item.Split parts) is = absurd cc
item_says sc k item.Merge is = absurd cc
item_says sc k (item.Crash site) is = absurd cc
item_says sc k (item.Restart site) is = absurd cc
item_says sc k (item.Stop site count leave) is = absurd cc

item_asks : (sc : Scenario) (it : Item) (items : List Item) → is_groupable it ≡ true → parts_due sc (it ∷ items) ≡ None
item_asks sc (item.Begin name site sites) items is = refl
item_asks sc (item.Read name key) items is = refl
item_asks sc (item.Write name key val) items is = refl
item_asks sc (item.Commit name) items is = refl
item_asks sc (item.Cancel name) items is = refl
item_asks sc (item.Expire site name) items is = refl
item_asks sc (item.Elect site name sites) items is = refl
item_asks sc (item.Recover sites) items is = absurd cc
item_asks sc (item.Split parts) items is = absurd cc
item_asks sc item.Merge items is = absurd cc
item_asks sc (item.Crash site) items is = absurd cc
item_asks sc (item.Restart site) items is = absurd cc
item_asks sc (item.Stop site count leave) items is = absurd cc

group_says : (sc : Scenario) (k : ItemsSoFar) (items : List Item) → list_all is_groupable items ≡ true → (fold (with_item sc) k items).parts ≡ k.parts
group_says sc k [] all = refl
group_says sc k (it ∷ items) all =
    let parts = and_parts (is_groupable it) (list_all is_groupable items) all in
    group_says sc (with_item sc k it) items parts.1 ∙ item_says sc k it parts.0

one_says : (sc : Scenario) (k : ItemsSoFar) (it : Item) → (with_item sc k it).parts ≡ parts_or k.parts (parts_due sc (it ∷ []))
one_says sc k (item.Begin name site sites) = refl
one_says sc k (item.Read name key) = refl
one_says sc k (item.Write name key val) = refl
one_says sc k (item.Commit name) = refl
one_says sc k (item.Cancel name) = refl
one_says sc k (item.Expire site name) = refl
one_says sc k (item.Elect site name sites) = refl
one_says sc k (item.Recover sites) = refl
one_says sc k (item.Split parts) = refl
one_says sc k item.Merge = refl
one_says sc k (item.Crash site) = refl
one_says sc k (item.Restart site) = refl
one_says sc k (item.Stop site count leave) = refl

step_says : (sc : Scenario) (k : ItemsSoFar) (items : List Item) → is_step_form items ≡ true →
    (fold (with_item sc) k items).parts ≡ parts_or k.parts (parts_due sc items)
step_says sc k [] form = absurd cc
step_says sc k (it ∷ []) form = one_says sc k it
step_says sc k (it ∷ next ∷ items) form =
    let all : list_all is_groupable (it ∷ next ∷ items) ≡ true = (and_parts (list_all is_groupable (it ∷ next ∷ items)) _ form).0 in
    let first = and_parts (is_groupable it) (list_all is_groupable (next ∷ items)) all in
    group_says sc k (it ∷ next ∷ items) all ∙ sym (ap (parts_or k.parts) (item_asks sc it (next ∷ items) first.0))

group_said : (sc : Scenario) (k : ItemsSoFar) (steps : List (List Item)) (n : ℕ) (group : List ℕ) (items : List Item) → steps_keep sc k steps ≡ true →
    items_or (slice_get steps n) ≡ item.Recover group ∷ items → list_any (is_within group) (parts_after_steps sc k.parts n steps) ≡ true
group_said sc k [] n group items keep is = absurd cc
group_said sc k (x ∷ steps) zero group items keep is =
    let P : List Item → Type 0 = λ l. items_keep sc k l ≡ true in
    let keeps : (keeps_rules sc k (item.Recover group) && items_keep sc (with_item sc k (item.Recover group)) items) ≡ true = subst P is (step_parts sc k x steps keep).1 in
    (and_parts (is_group sc group) (list_any (is_within group) k.parts) (and_parts (keeps_rules sc k (item.Recover group)) _ keeps).0).1
group_said sc k (x ∷ steps) (suc n) group items keep is =
    let parts = step_parts sc k x steps keep in
    let P : List (List ℕ) → Type 0 = λ l. list_any (is_within group) (parts_after_steps sc l n steps) ≡ true in
    subst P (step_says sc k x parts.0) (group_said sc (close_step (fold (with_item sc) k x)) steps n group items parts.2 is)

-- the group of a recover step lies in one of the parts that the steps before it asked for
pub group_within : (sc : Scenario) (n : ℕ) (group : List ℕ) (items : List Item) → IsGiven sc → step_items sc (suc n) ≡ item.Recover group ∷ items →
    list_any (is_within group) (parts_after sc n) ≡ true
group_within sc n group items given is = group_said sc _ sc.steps n group items given.steps is

set_said : (sc : Scenario) (k : ItemsSoFar) (steps : List (List Item)) (n : ℕ) (group : List ℕ) (items : List Item) → steps_keep sc k steps ≡ true →
    items_or (slice_get steps n) ≡ item.Recover group ∷ items → is_group sc group ≡ true
set_said sc k [] n group items keep is = absurd cc
set_said sc k (x ∷ steps) zero group items keep is =
    let P : List Item → Type 0 = λ l. items_keep sc k l ≡ true in
    let keeps : (keeps_rules sc k (item.Recover group) && items_keep sc (with_item sc k (item.Recover group)) items) ≡ true = subst P is (step_parts sc k x steps keep).1 in
    (and_parts (is_group sc group) (list_any (is_within group) k.parts) (and_parts (keeps_rules sc k (item.Recover group)) _ keeps).0).0
set_said sc k (x ∷ steps) (suc n) group items keep is =
    set_said sc (close_step (fold (with_item sc) k x)) steps n group items (step_parts sc k x steps keep).2 is

pub group_set : (sc : Scenario) (group : List ℕ) → is_group sc group ≡ true → is_set group ≡ true
group_set sc [] is = refl
group_set sc (s ∷ ss) is = (and_parts (is_set (s ∷ ss)) (exist sc (s ∷ ss)) is).0

-- the group of a recover step is a set
pub group_is_set : (sc : Scenario) (n : ℕ) (group : List ℕ) (items : List Item) → IsGiven sc → step_items sc (suc n) ≡ item.Recover group ∷ items → is_set group ≡ true
group_is_set sc n group items given is = group_set sc group (set_said sc _ sc.steps n group items given.steps is)
