-- What the items of a given scenario have, whatever the history: a name is of one begin, whose sites are in the scenario.
use Rattle.std.proofs.Common.{◌≡◌, ◌==◌, ◌&&◌, ◌++◌, ◌∷◌, [], ℕ, zero, suc, ◌≤◌, Bool, true, false, not, List, refl, sym, subst, ap, ◌∙◌, inl, inr, fold, length, arith, eqb-true, le-leb, append_assoc, append-nil, nat_le, nat_lt}
use Rattle.std.proofs.Common.{◌⊎◌}
use Rattle.std.specs.Prelude.{Contains, slice_get}
use Rattle.std.specs.List.{list_any, list_all, flat_map, AllByRecursion as Each}
use Rattle.std.proofs.lemmas.Bool.{and_parts, and_from, or_left, or_right, or_cases, not-true}
use Rattle.std.proofs.lemmas.List.Elements.{Contains-append_left, Contains-append_right, Contains-append_cases, Contains-push_cases, Contains-push}
use Rattle.std.proofs.lemmas.List.Folds.{list_any-append}
use Rattle.e3_types.specs.declared.scenarios.Item.{Item}
use Rattle.e3_types.specs.declared.scenarios.Item.TheVariants as item
use Rattle.e3_types.specs.declared.scenarios.Scenario.{Scenario}
use Rattle.e3_types.specs.Same.{same_numbers}
use Rattle.e3_types.specs.Sets.{is_set, has_site, is_within}
use Rattle.e3_types.proofs.SameSites.{same_numbers_refl, same_numbers_eq}
use Rattle.e3_world.specs.Given.{exist, is_group, BegunName, ItemsSoFar, is_begun, count_ops, keeps_rules, with_item, items_keep, is_step_form, close_step, steps_keep, IsGiven}
use Rattle.e3_world.specs.Orderly.{is_among}
use Rattle.e3_world.specs.Packets.{sites_to, all_sites, step_items, items_or}
use Rattle.e3_laws.proofs.steps.Packets.{only_one}

-- the begins of an item, of a step, and of all steps
abbrev pub begun_in : Item → List BegunName
begun_in (item.Begin name site sites) = record { name = name; sites = sites } ∷ []
begun_in _ = []

abbrev pub begun_of : List (List Item) → List BegunName
begun_of steps = flat_map (λ items. flat_map begun_in items) steps

-- a begin of this name has all these sites
abbrev pub Named : List BegunName → List ℕ → List ℕ → Type 0
Named all name sites = (b : BegunName) × Contains all b × (name ≡ b.name) × (is_within sites b.sites ≡ true)

-- what an item of a given scenario has
abbrev pub HasRules : Scenario → List BegunName → Item → Type 0
HasRules sc all (item.Begin name site sites) = Contains all (record { name = name; sites = sites }) × (is_group sc sites ≡ true) × (has_site sites site ≡ true)
HasRules sc all (item.Read name key) = Named all name (key.site ∷ [])
HasRules sc all (item.Write name key val) = Named all name (key.site ∷ [])
HasRules sc all (item.Expire site name) = Named all name (site ∷ [])
HasRules sc all (item.Elect site name sites) = Named all name sites × (has_site sites site ≡ true)
HasRules sc all (item.Commit name) = Named all name []
HasRules sc all (item.Cancel name) = Named all name []
HasRules sc all it = Unit {0}

-- two begins of one name are one
abbrev pub NamesOnce : List BegunName → Type 0
NamesOnce all = (x y : BegunName) → Contains all x → Contains all y → x.name ≡ y.name → x.sites ≡ y.sites

empty : {P : Type 0} {X : Type 0} (x : X) → Contains [] x → P
empty x has = absurd (omega (arith, has.1))

-- what stands where an any holds
found : (xs : List BegunName) (p : BegunName → Bool) → list_any p xs ≡ true → (b : BegunName) × Contains xs b × (p b ≡ true)
found [] p any = absurd cc
found (x ∷ xs) p any = elim (or_cases (p x) (list_any p xs) any) [
  | inl this ↦ (x, (0, omega arith, refl), this)
  | inr more ↦ (let rest : _ = found xs p more in (rest.0, Contains-append_right (x ∷ []) xs rest.0 rest.1, rest.2))
]

any_of : (xs : List BegunName) (p : BegunName → Bool) (b : BegunName) → Contains xs b → p b ≡ true → list_any p xs ≡ true
any_of [] p b has this = empty b has
any_of (x ∷ xs) p b has this = elim (Contains-append_cases (x ∷ []) xs b has) [
  | inl first ↦ or_left (p x) (list_any p xs) (let P : BegunName → Type 0 = λ y. p y ≡ true in subst P (sym (only_one x b first)) this)
  | inr rest ↦ or_right (p x) (list_any p xs) (any_of xs p b rest this)
]

named : (all begun : List BegunName) (name sites : List ℕ) → ((b : BegunName) → Contains begun b → Contains all b) → is_begun begun name sites ≡ true → Named all name sites
named all begun name sites sub is =
    let b : _ = found begun (λ b. same_numbers name b.name && is_within sites b.sites) is in
    let parts : _ = and_parts (same_numbers name b.0.name) (is_within sites b.0.sites) b.2 in
    (b.0, sub b.0 b.1, same_numbers_eq name b.0.name parts.0, parts.1)

-- the begins that are said so far
abbrev pub names_so_far : ItemsSoFar → List BegunName
names_so_far k = k.earlier ++ k.fresh

names_with_item : (sc : Scenario) (k : ItemsSoFar) (it : Item) → names_so_far (with_item sc k it) ≡ names_so_far k ++ begun_in it
names_with_item sc k (item.Begin name site sites) = sym (append_assoc k.earlier k.fresh (record { name = name; sites = sites } ∷ []))
names_with_item sc k (item.Read name key) = sym (append-nil (names_so_far k))
names_with_item sc k (item.Write name key val) = sym (append-nil (names_so_far k))
names_with_item sc k (item.Commit name) = sym (append-nil (names_so_far k))
names_with_item sc k (item.Cancel name) = sym (append-nil (names_so_far k))
names_with_item sc k (item.Expire site name) = sym (append-nil (names_so_far k))
names_with_item sc k (item.Elect site name sites) = sym (append-nil (names_so_far k))
names_with_item sc k (item.Recover sites) = sym (append-nil (names_so_far k))
names_with_item sc k (item.Split parts) = sym (append-nil (names_so_far k))
names_with_item sc k item.Merge = sym (append-nil (names_so_far k))
names_with_item sc k (item.Crash site) = sym (append-nil (names_so_far k))
names_with_item sc k (item.Restart site) = sym (append-nil (names_so_far k))
names_with_item sc k (item.Stop site count leave) = sym (append-nil (names_so_far k))

names_with_step : (sc : Scenario) (k : ItemsSoFar) (items : List Item) → names_so_far (fold (with_item sc) k items) ≡ names_so_far k ++ flat_map begun_in items
names_with_step sc k [] = sym (append-nil (names_so_far k))
names_with_step sc k (it ∷ items) =
    names_with_step sc (with_item sc k it) items ∙ ap (λ l. l ++ flat_map begun_in items) (names_with_item sc k it)
    ∙ append_assoc (names_so_far k) (begun_in it) (flat_map begun_in items)

names_closed : (k : ItemsSoFar) → names_so_far (close_step k) ≡ names_so_far k
names_closed k = append-nil (names_so_far k)

-- names stay once
once_more : (all : List BegunName) (b : BegunName) → NamesOnce all → is_begun all b.name [] ≡ false → NamesOnce (all ++ b ∷ [])
once_more all b once new x y first second same =
    elim (Contains-push_cases all b x first) [
      | inl old ↦ elim (Contains-push_cases all b y second) [
        | inl older ↦ once x y old older same
        | inr is ↦ absurd (clash x old (same ∙ ap (λ z. z.name) (sym is)))
      ]
      | inr this ↦ elim (Contains-push_cases all b y second) [
        | inl older ↦ absurd (clash y older (sym same ∙ ap (λ z. z.name) (sym this)))
        | inr is ↦ ap (λ z. z.sites) (sym this ∙ is)
      ]
    ]
  where
    clash : (z : BegunName) → Contains all z → z.name ≡ b.name → ⊥
    clash z has same =
        let P : List ℕ → Type 0 = λ l. same_numbers l z.name ≡ true in
        let is : is_begun all b.name [] ≡ true = any_of all (λ c. same_numbers b.name c.name && is_within [] c.sites) z has
        (and_from _ _ (subst P same (same_numbers_refl z.name)) refl) in
        cc

item_once : (sc : Scenario) (k : ItemsSoFar) (it : Item) → keeps_rules sc k it ≡ true → NamesOnce (names_so_far k) → NamesOnce (names_so_far k ++ begun_in it)
item_once sc k (item.Begin name site sites) keeps once =
    once_more (names_so_far k) (record { name = name; sites = sites }) once
    (not-true (is_begun (names_so_far k) name []) (and_parts (is_group sc sites && has_site sites site) (not (is_begun (names_so_far k) name [])) keeps).1)
item_once sc k it keeps once = let P : List BegunName → Type 0 = NamesOnce in subst P (sym (append-nil (names_so_far k))) once

items_once : (sc : Scenario) (k : ItemsSoFar) (items : List Item) → items_keep sc k items ≡ true → NamesOnce (names_so_far k) → NamesOnce (names_so_far (fold (with_item sc) k items))
items_once sc k [] keep once = once
items_once sc k (it ∷ items) keep once =
    let parts : _ = and_parts (keeps_rules sc k it) (items_keep sc (with_item sc k it) items) keep in
    items_once sc (with_item sc k it) items parts.1 (let P : List BegunName → Type 0 = NamesOnce in subst P (sym (names_with_item sc k it)) (item_once sc k it parts.0 once))

-- what a step keeps
pub parts_of_step : (sc : Scenario) (k : ItemsSoFar) (items : List Item) (steps : List (List Item)) → steps_keep sc k (items ∷ steps) ≡ true →
    (is_step_form items ≡ true) × (items_keep sc k items ≡ true) × (steps_keep sc (close_step (fold (with_item sc) k items)) steps ≡ true)
parts_of_step sc k items steps keep =
    let outer : _ = and_parts (is_step_form items && items_keep sc k items) (steps_keep sc (close_step (fold (with_item sc) k items)) steps) keep in
    let inner : _ = and_parts (is_step_form items) (items_keep sc k items) outer.0 in
    (inner.0, inner.1, outer.1)

steps_once : (sc : Scenario) (k : ItemsSoFar) (steps : List (List Item)) → steps_keep sc k steps ≡ true → NamesOnce (names_so_far k) → NamesOnce (names_so_far k ++ begun_of steps)
steps_once sc k [] keep once = let P : List BegunName → Type 0 = NamesOnce in subst P (sym (append-nil (names_so_far k))) once
steps_once sc k (items ∷ steps) keep once =
    let parts : _ = parts_of_step sc k items steps keep in
    let more : ItemsSoFar = close_step (fold (with_item sc) k items) in
    let P : List BegunName → Type 0 = NamesOnce in
    let same : names_so_far more ++ begun_of steps ≡ names_so_far k ++ begun_of (items ∷ steps) =
    ap (λ l. l ++ begun_of steps) (names_closed (fold (with_item sc) k items) ∙ names_with_step sc k items) ∙ append_assoc (names_so_far k) (flat_map begun_in items) (begun_of steps) in
    subst P same (steps_once sc more steps parts.2 (subst P (sym (names_closed (fold (with_item sc) k items))) (items_once sc k items parts.1 once)))

-- the begins of some are among those of all
abbrev Among : List BegunName → List BegunName → Type 0
Among some all = (b : BegunName) → Contains some b → Contains all b

among_left : (xs ys all : List BegunName) → Among (xs ++ ys) all → Among xs all
among_left xs ys all sub b has = sub b (Contains-append_left xs ys b has)

-- an item has the rules
item_has : (sc : Scenario) (all : List BegunName) (k : ItemsSoFar) (it : Item) → keeps_rules sc k it ≡ true → Among (names_so_far k ++ begun_in it) all → HasRules sc all it
item_has sc all k (item.Begin name site sites) keeps sub =
    let parts : _ = and_parts (is_group sc sites && has_site sites site) (not (is_begun (names_so_far k) name [])) keeps in
    let group : _ = and_parts (is_group sc sites) (has_site sites site) parts.0 in
    (sub (record { name = name; sites = sites }) (Contains-push (names_so_far k) (record { name = name; sites = sites })), group.0, group.1)
item_has sc all k (item.Read name key) keeps sub =
    named all k.earlier name (key.site ∷ []) (among_left k.earlier k.fresh all (among_left (names_so_far k) [] all sub))
    (and_parts (is_begun k.earlier name (key.site ∷ [])) (nat_lt (count_ops k.ops name) 64) keeps).0
item_has sc all k (item.Write name key val) keeps sub =
    named all k.earlier name (key.site ∷ []) (among_left k.earlier k.fresh all (among_left (names_so_far k) [] all sub))
    (and_parts (is_begun k.earlier name (key.site ∷ [])) (nat_lt (count_ops k.ops name) 64) keeps).0
item_has sc all k (item.Commit name) keeps sub = named all k.earlier name [] (among_left k.earlier k.fresh all (among_left (names_so_far k) [] all sub)) keeps
item_has sc all k (item.Cancel name) keeps sub = named all k.earlier name [] (among_left k.earlier k.fresh all (among_left (names_so_far k) [] all sub)) keeps
item_has sc all k (item.Expire site name) keeps sub =
    named all k.earlier name (site ∷ []) (among_left k.earlier k.fresh all (among_left (names_so_far k) [] all sub)) keeps
item_has sc all k (item.Elect site name sites) keeps sub =
    let parts : _ = and_parts (is_begun k.earlier name sites && is_set sites) (has_site sites site) keeps in
    let first : _ = and_parts (is_begun k.earlier name sites) (is_set sites) parts.0 in
    (named all k.earlier name sites (among_left k.earlier k.fresh all (among_left (names_so_far k) [] all sub)) first.0, parts.1)
item_has sc all k it keeps sub = tt

items_have : (sc : Scenario) (all : List BegunName) (k : ItemsSoFar) (items : List Item) → items_keep sc k items ≡ true → Among (names_so_far k ++ flat_map begun_in items) all →
    Each (HasRules sc all) items
items_have sc all k [] keep sub = tt
items_have sc all k (it ∷ items) keep sub =
    let parts : _ = and_parts (keeps_rules sc k it) (items_keep sc (with_item sc k it) items) keep in
    let P : List BegunName → Type 0 = λ l. Among l all in
    let whole : Among ((names_so_far k ++ begun_in it) ++ flat_map begun_in items) all = subst P (sym (append_assoc (names_so_far k) (begun_in it) (flat_map begun_in items))) sub in (
      item_has sc all k it parts.0 (among_left (names_so_far k ++ begun_in it) (flat_map begun_in items) all whole),
      items_have sc all (with_item sc k it) items parts.1 (let R : List BegunName → Type 0 = λ l. Among (l ++ flat_map begun_in items) all in subst R (sym (names_with_item sc k it)) whole),
    )

-- the step has the form, and its items the rules
record StepHas (sc : Scenario) (all : List BegunName) (items : List Item) : Type 0 where
  pub form : is_step_form items ≡ true
  pub rules : Each (HasRules sc all) items

steps_have : (sc : Scenario) (all : List BegunName) (k : ItemsSoFar) (steps : List (List Item)) → steps_keep sc k steps ≡ true → Among (names_so_far k ++ begun_of steps) all →
    Each (StepHas sc all) steps
steps_have sc all k [] keep sub = tt
steps_have sc all k (items ∷ steps) keep sub =
    let parts : _ = parts_of_step sc k items steps keep in
    let P : List BegunName → Type 0 = λ l. Among l all in
    let whole : Among ((names_so_far k ++ flat_map begun_in items) ++ begun_of steps) all = subst P (sym (append_assoc (names_so_far k) (flat_map begun_in items) (begun_of steps))) sub in
    let R : List BegunName → Type 0 = λ l. Among (l ++ begun_of steps) all in (
      record { form = parts.0; rules = items_have sc all k items parts.1 (among_left (names_so_far k ++ flat_map begun_in items) (begun_of steps) all whole) },
      steps_have sc all (close_step (fold (with_item sc) k items)) steps parts.2
          (subst R (sym (names_closed (fold (with_item sc) k items) ∙ names_with_step sc k items)) whole),
    )

-- all the begins of a scenario
abbrev pub begins : Scenario → List BegunName
begins sc = begun_of sc.steps

pub names_once : (sc : Scenario) → IsGiven sc → NamesOnce (begins sc)
names_once sc given = steps_once sc (record { earlier = []; fresh = []; ops = []; parts = all_sites sc ∷ [] }) sc.steps given.steps (λ x y first second same. empty x first)

all_have : (sc : Scenario) → IsGiven sc → Each (StepHas sc (begins sc)) sc.steps
all_have sc given = steps_have sc (begins sc) (record { earlier = []; fresh = []; ops = []; parts = all_sites sc ∷ [] }) sc.steps given.steps (λ b has. has)

at_place : (sc : Scenario) (all : List BegunName) (steps : List (List Item)) (k : ℕ) → Each (StepHas sc all) steps → Each (HasRules sc all) (items_or (slice_get steps k))
at_place sc all [] k has = tt
at_place sc all (items ∷ steps) zero has = has.0.rules
at_place sc all (items ∷ steps) (suc k) has = at_place sc all steps k has.1

-- the items of a step have the rules
pub items_given : (sc : Scenario) (n : ℕ) → IsGiven sc → Each (HasRules sc (begins sc)) (step_items sc n)
items_given sc zero given = tt
items_given sc (suc n) given = at_place sc (begins sc) sc.steps n (all_have sc given)

-- the form of a step, where there is one
abbrev pub HasForm : List Item → Type 0
HasForm [] = Unit {0}
HasForm (it ∷ items) = is_step_form (it ∷ items) ≡ true

form_some : (items : List Item) → is_step_form items ≡ true → HasForm items
form_some [] form = tt
form_some (it ∷ items) form = form

form_at : (sc : Scenario) (all : List BegunName) (steps : List (List Item)) (k : ℕ) → Each (StepHas sc all) steps → HasForm (items_or (slice_get steps k))
form_at sc all [] k has = tt
form_at sc all (items ∷ steps) zero has = form_some items has.0.form
form_at sc all (items ∷ steps) (suc k) has = form_at sc all steps k has.1

pub form_given : (sc : Scenario) (n : ℕ) → IsGiven sc → HasForm (step_items sc n)
form_given sc zero given = tt
form_given sc (suc n) given = form_at sc (begins sc) sc.steps n (all_have sc given)

-- a site of the scenario has a weight
ranged : (n s : ℕ) → has_site (sites_to n) s ≡ true → (1 ≤ s) × (s ≤ n)
ranged zero s has = absurd cc
ranged (suc n) s has = by (or_cases (has_site (sites_to n) s) (has_site (suc n ∷ []) s) (sym (list_any-append (λ x. x == s) (sites_to n) (suc n ∷ [])) ∙ has)) (λ more. ranged n s more)
  where
    by : (has_site (sites_to n) s ≡ true) ⊎ (has_site (suc n ∷ []) s ≡ true) → (has_site (sites_to n) s ≡ true → (1 ≤ s) × (s ≤ n)) → (1 ≤ s) × (s ≤ suc n)
    by (inl more) rest = (let low : (1 ≤ s) × (s ≤ n) = rest more in (low.0, omega (arith, low.1)))
    by (inr last) rest = elim (or_cases (suc n == s) false last) [
      | inl is ↦ (let same : suc n ≡ s = eqb-true (suc n) s is in (omega (arith, same), omega (arith, same)))
      | inr wrong ↦ absurd cc
    ]

weighed : (sc : Scenario) (sites : List ℕ) → exist sc sites ≡ true → list_all (λ s. nat_le 1 s && nat_le s (length sc.weights)) sites ≡ true
weighed sc [] all = refl
weighed sc (s ∷ sites) all =
    let parts : _ = and_parts (has_site (all_sites sc) s) (exist sc sites) all in
    let range : _ = ranged (length sc.weights) s parts.0 in
    and_from _ _ (and_from _ _ (le-leb 1 s range.0) (le-leb s (length sc.weights) range.1)) (weighed sc sites parts.1)

pub group_among : (sc : Scenario) (site : ℕ) (sites : List ℕ) → is_group sc sites ≡ true → has_site sites site ≡ true → is_among site sc.weights sites ≡ true
group_among sc site [] group has = absurd cc
group_among sc site (s ∷ sites) group has =
    and_from _ _ has (weighed sc (s ∷ sites) (and_parts (is_set (s ∷ sites)) (exist sc (s ∷ sites)) group).1)
