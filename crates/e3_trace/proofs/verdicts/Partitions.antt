-- The parts of the network that a legal history enters are not empty.
use Rattle.std.proofs.Common.{◌≡◌, ◌≤◌, ◌==◌, ◌&&◌, ◌++◌, ◌∷◌, [], ℕ, zero, suc, true, false, List, Option, Some, None, refl, sym, subst, ap, ◌∙◌, length, arith, fold, count_by}
use Rattle.std.specs.Prelude.{slice_get}
use Rattle.std.specs.List.{list_all, AllByRecursion as Each}
use Rattle.std.proofs.lemmas.Bool.{and_parts}
use Rattle.std.proofs.lemmas.List.Folds.{list_all-append}
use Rattle.std.proofs.lemmas.Option.{same_Some}
use Rattle.e3_types.specs.declared.entries.Entry.{Entry}
use Rattle.e3_types.specs.declared.scenarios.Item.{Item}
use Rattle.e3_types.specs.declared.scenarios.Item.TheVariants as item
use Rattle.e3_types.specs.declared.scenarios.Scenario.{Scenario}
use Rattle.e3_types.specs.Sets.{is_set, has_site}
use Rattle.e3_world.specs.Given.{IsGiven, ItemsSoFar, is_group, is_partition, with_item, items_keep, is_step_form, close_step, steps_keep, exist}
use Rattle.e3_world.specs.Legal.{IsParts, parts_due}
use Rattle.e3_world.specs.Packets.{sites_to, all_sites, items_or, step_items, present_items, lines}
use Rattle.e3_trace.specs.Tellable.{is_some_set, AreParts}
use Rattle.e3_laws.proofs.steps.Each.{IfAny}

-- a part of the network that has a site
abbrev IsPart : List ℕ → Type 0
IsPart part = is_some_set part ≡ true

-- items that keep the rules, behind something
abbrev Keep : Scenario → List Item → Type 0
Keep sc items = (k : ItemsSoFar) × (items_keep sc k items ≡ true)

step_keeps : (sc : Scenario) (k : ItemsSoFar) (steps : List (List Item)) (n : ℕ) → steps_keep sc k steps ≡ true → IfAny (Keep sc) (slice_get steps n)
step_keeps sc k [] n is = tt
step_keeps sc k (items ∷ steps) n is = by (λ m. step_keeps sc (close_step (fold (with_item sc) k items)) steps m parts.1) n
  where
    parts : ((is_step_form items && items_keep sc k items) ≡ true) × (steps_keep sc (close_step (fold (with_item sc) k items)) steps ≡ true)
    parts = and_parts (is_step_form items && items_keep sc k items) _ is

    by : ((m : ℕ) → IfAny (Keep sc) (slice_get steps m)) → (m : ℕ) → IfAny (Keep sc) (slice_get (items ∷ steps) m)
    by more zero = (k, (and_parts (is_step_form items) (items_keep sc k items) parts.0).1)
    by more (suc m) = more m

present_keep : (sc : Scenario) (n : ℕ) → IsGiven sc → Keep sc (step_items sc n)
present_keep sc zero given = (record { earlier = []; fresh = []; ops = []; parts = [] }, refl)
present_keep sc (suc k) given = by (slice_get sc.steps k) (step_keeps sc (record { earlier = []; fresh = []; ops = []; parts = all_sites sc ∷ [] }) sc.steps k given.steps)
  where
    by : (o : Option (List Item)) → IfAny (Keep sc) o → Keep sc (items_or o)
    by None is = (record { earlier = []; fresh = []; ops = []; parts = [] }, refl)
    by (Some items) is = is

group_part : (sc : Scenario) (part : List ℕ) → is_group sc part ≡ true → IsPart part
group_part sc [] is = absurd cc
group_part sc (site ∷ sites) is = (and_parts (is_set (site ∷ sites)) (exist sc (site ∷ sites)) is).0

groups_parts : (sc : Scenario) (parts : List (List ℕ)) → list_all (is_group sc) parts ≡ true → Each IsPart parts
groups_parts sc [] is = tt
groups_parts sc (part ∷ parts) is =
    let both : _ = and_parts (is_group sc part) (list_all (is_group sc) parts) is in (group_part sc part both.0, groups_parts sc parts both.1)

-- some site is in no part where there are none
no_parts : (sc : Scenario) (n : ℕ) → 1 ≤ n → list_all (λ s. count_by (λ part. has_site part s) [] == 1) (sites_to n) ≡ true → ⊥
no_parts sc zero low all = absurd (omega (arith, low))
no_parts sc (suc n) low all =
    let both : _ = and_parts (list_all (λ s. count_by (λ part. has_site part s) [] == 1) (sites_to n)) false
    (sym (list_all-append (λ s. count_by (λ part. has_site part s) [] == 1) (sites_to n) (suc n ∷ [])) ∙ all) in
    let wrong : false ≡ true = both.1 in absurd cc

split_parts : (sc : Scenario) (parts : List (List ℕ)) → IsGiven sc → is_partition sc parts ≡ true → AreParts parts
split_parts sc [] given is = absurd (no_parts sc (length sc.weights) given.some is)
split_parts sc (part ∷ parts) given is = groups_parts sc (part ∷ parts) (and_parts (list_all (is_group sc) (part ∷ parts)) _ is).0

pub due_parts : (sc : Scenario) (h : List Entry) (parts : List (List ℕ)) → IsGiven sc → IsParts sc h parts → Each (λ part. is_set part ≡ true) parts → AreParts parts
due_parts sc h parts given due sets = by (present_items sc h) refl (present_keep sc (lines h) given)
  where
    whole : (n : ℕ) → 1 ≤ n → is_set (sites_to n) ≡ true → IsPart (sites_to n)
    whole n low set = some (sites_to n) (λ is. none n low is) set
      where
        some : (l : List ℕ) → (l ≡ [] → ⊥) → is_set l ≡ true → IsPart l
        some [] full is = absurd (full refl)
        some (s ∷ l) full is = is

        none : (m : ℕ) → 1 ≤ m → sites_to m ≡ [] → ⊥
        none zero less is = absurd (omega (arith, less))
        none (suc m) less is = push (sites_to m) is
          where
            push : (l : List ℕ) → l ++ suc m ∷ [] ≡ [] → ⊥
            push [] same = absurd cc
            push (s ∷ l) same = absurd cc

    is_due : (items : List Item) → present_items sc h ≡ items → parts_due sc items ≡ Some parts
    is_due items same = ap (parts_due sc) (sym same) ∙ due.due

    by : (items : List Item) → present_items sc h ≡ items → Keep sc (present_items sc h) → AreParts parts
    by [] same keep = let none : None ≡ Some parts = is_due [] same in absurd cc
    by (item.Split asked ∷ items) same keep =
        let mine : asked ≡ parts = same_Some asked parts (is_due (item.Split asked ∷ items) same) in
        let K : List Item → Type 0 = Keep sc in
        let kept : Keep sc (item.Split asked ∷ items) = subst K same keep in
        let R : List (List ℕ) → Type 0 = AreParts in
        subst R mine (split_parts sc asked given (and_parts (is_partition sc asked) _ kept.1).0)
    by (item.Merge ∷ items) same keep =
        let mine : all_sites sc ∷ [] ≡ parts = same_Some (all_sites sc ∷ []) parts (is_due (item.Merge ∷ items) same) in
        let R : List (List ℕ) → Type 0 = AreParts in
        let S : List (List ℕ) → Type 0 = Each (λ part. is_set part ≡ true) in
        let set : Each (λ part. is_set part ≡ true) (all_sites sc ∷ []) = subst S (sym mine) sets in
        subst R mine (whole (length sc.weights) given.some set.0, tt)
    by (item.Begin name site sites ∷ items) same keep = let none : None ≡ Some parts = is_due (item.Begin name site sites ∷ items) same in absurd cc
    by (item.Read name key ∷ items) same keep = let none : None ≡ Some parts = is_due (item.Read name key ∷ items) same in absurd cc
    by (item.Write name key val ∷ items) same keep = let none : None ≡ Some parts = is_due (item.Write name key val ∷ items) same in absurd cc
    by (item.Commit name ∷ items) same keep = let none : None ≡ Some parts = is_due (item.Commit name ∷ items) same in absurd cc
    by (item.Cancel name ∷ items) same keep = let none : None ≡ Some parts = is_due (item.Cancel name ∷ items) same in absurd cc
    by (item.Expire site name ∷ items) same keep = let none : None ≡ Some parts = is_due (item.Expire site name ∷ items) same in absurd cc
    by (item.Elect site name sites ∷ items) same keep = let none : None ≡ Some parts = is_due (item.Elect site name sites ∷ items) same in absurd cc
    by (item.Recover sites ∷ items) same keep = let none : None ≡ Some parts = is_due (item.Recover sites ∷ items) same in absurd cc
    by (item.Crash site ∷ items) same keep = let none : None ≡ Some parts = is_due (item.Crash site ∷ items) same in absurd cc
    by (item.Restart site ∷ items) same keep = let none : None ≡ Some parts = is_due (item.Restart site ∷ items) same in absurd cc
    by (item.Stop site count leave ∷ items) same keep = let none : None ≡ Some parts = is_due (item.Stop site count leave ∷ items) same in absurd cc
