-- In a scenario that keeps the rules a name stands for one set of sites, and items name sites of it.
use Rattle.std.proofs.Common.{◌≡◌, ◌⊎◌, inl, inr, ◌∷◌, [], ◌++◌, ◌&&◌, ◌||◌, ℕ, Bool, true, false, List, fold, refl, sym, ap, subst, ◌∙◌, append-nil, append_assoc}
use Rattle.std.specs.Prelude.{not, nat_lt}
use Rattle.std.proofs.lemmas.Bool.{and_parts, or_cases}
use Rattle.e3_types.specs.declared.scenarios.Item.{Item}
use Rattle.e3_types.specs.declared.scenarios.Item.TheVariants as item
use Rattle.e3_types.specs.declared.scenarios.Scenario.{Scenario}
use Rattle.e3_types.specs.Same.{same_numbers}
use Rattle.e3_types.specs.Sets.{has_site, is_within, is_set}
use Rattle.e3_types.proofs.SameSites.{same_numbers_refl, same_numbers_eq}
use Rattle.e3_world.specs.Given.{BegunName, ItemsSoFar, is_begun, count_ops, is_group, keeps_rules, with_item, items_keep, is_step_form, close_step, steps_keep}
use Rattle.e3_laws.specs.agreement.Logs.{IsIn}
use Rattle.e3_laws.proofs.agreement.Refinement.Lists.{in_left, in_right}
use Rattle.e3_laws.proofs.agreement.Protocol.Reached.{in_parts}

abbrev pub begun : List ℕ → List ℕ → BegunName
begun name sites = record { name = name; sites = sites }

-- all names that are said so far
abbrev total : ItemsSoFar → List BegunName
total k = k.earlier ++ k.fresh

-- a name has one set of sites
abbrev pub OneEach : List BegunName → Type 0
OneEach bs = (name s t : List ℕ) → IsIn (begun name s) bs → IsIn (begun name t) bs → s ≡ t

abbrev Sub : List BegunName → List BegunName → Type 0
Sub xs ys = (b : BegunName) → IsIn b xs → IsIn b ys

-- what an item says of its name
abbrev pub ItemNamed : List BegunName → Item → Type 0
ItemNamed all (item.Begin name site sites) = IsIn (begun name sites) all × (has_site sites site ≡ true)
ItemNamed all (item.Read name key) = (s : List ℕ) × IsIn (begun name s) all × (has_site s key.site ≡ true)
ItemNamed all (item.Write name key val) = (s : List ℕ) × IsIn (begun name s) all × (has_site s key.site ≡ true)
ItemNamed all (item.Expire site name) = (s : List ℕ) × IsIn (begun name s) all × (has_site s site ≡ true)
ItemNamed all (item.Elect site name sites) = (s : List ℕ) × IsIn (begun name s) all × (is_within sites s ≡ true) × (has_site sites site ≡ true)
ItemNamed all it = Unit {0}

-- a name that was begun for these sites
begun_found : (bs : List BegunName) (name sites : List ℕ) → is_begun bs name sites ≡ true → (s : List ℕ) × IsIn (begun name s) bs × (is_within sites s ≡ true)
begun_found [] name sites is = cc
begun_found (b ∷ bs) name sites is = elim (or_cases (same_numbers name b.name && is_within sites b.sites) (is_begun bs name sites) is) [
  | inl here ↦ (
      let p = and_parts (same_numbers name b.name) (is_within sites b.sites) here in
      (b.sites, inl (ap (λ n. begun n b.sites) (same_numbers_eq name b.name p.0)), p.1))
  | inr more ↦ (let t = begun_found bs name sites more in (t.0, inr t.1, t.2))
]

-- a name that was not begun is not among them
not_begun : (bs : List BegunName) (name s : List ℕ) → not (is_begun bs name []) ≡ true → IsIn (begun name s) bs → ⊥
not_begun [] name s no_name k = k
not_begun (b ∷ bs) name s free (inl e) =
    let same : same_numbers name b.name ≡ true = subst (λ z. same_numbers name z ≡ true) (ap (λ (x : BegunName). x.name) e) (same_numbers_refl name) in
    (let this : is_begun (b ∷ bs) name [] ≡ true = rw same refl in cc)
not_begun (b ∷ bs) name s free (inr k) = by (same_numbers name b.name && true) (is_begun bs name []) free (λ f. not_begun bs name s f k)
  where
    by : (x y : Bool) → not (x || y) ≡ true → (not y ≡ true → ⊥) → ⊥
    by true y f rest = cc
    by false y f rest = rest f

one_more : (bs : List BegunName) (name sites : List ℕ) → OneEach bs → not (is_begun bs name []) ≡ true → OneEach (bs ++ begun name sites ∷ [])
one_more bs name sites one free n s t h k = go (in_parts (begun n s) bs (begun name sites ∷ []) h) (in_parts (begun n t) bs (begun name sites ∷ []) k)
  where
    go : IsIn (begun n s) bs ⊎ IsIn (begun n s) (begun name sites ∷ []) → IsIn (begun n t) bs ⊎ IsIn (begun n t) (begun name sites ∷ []) → s ≡ t
    go (inl a) (inl b) = one n s t a b
    go (inl a) (inr (inl e)) = absurd (not_begun bs name s free (subst (λ z. IsIn (begun z s) bs) (ap (λ (x : BegunName). x.name) e) a))
    go (inr (inl e)) (inl b) = absurd (not_begun bs name t free (subst (λ z. IsIn (begun z t) bs) (ap (λ (x : BegunName). x.name) e) b))
    go (inr (inl e)) (inr (inl f)) = ap (λ (x : BegunName). x.sites) e ∙ sym (ap (λ (x : BegunName). x.sites) f)
    go (inr (inr e)) b = absurd e
    go a (inr (inr e)) = absurd e

-- what one item keeps
pub record Kept (k l : ItemsSoFar) : Type 0 where
  pub one : OneEach (total k) → OneEach (total l)
  pub sub : Sub (total k) (total l)
  pub earlier : l.earlier ≡ k.earlier

same_kept : (k l : ItemsSoFar) → l.earlier ≡ k.earlier → l.fresh ≡ k.fresh → Kept k l
same_kept k l e f =
    let same : total l ≡ total k = ap (λ z. z ++ l.fresh) e ∙ ap (λ z. k.earlier ++ z) f in
    record { one = λ o. subst OneEach (sym same) o; sub = λ b h. subst (λ z. IsIn b z) (sym same) h; earlier = e }

item_kept : (sc : Scenario) (k : ItemsSoFar) (it : Item) → keeps_rules sc k it ≡ true → Kept k (with_item sc k it)
item_kept sc k (item.Begin name site sites) is =
    let p = and_parts (is_group sc sites && has_site sites site) (not (is_begun (k.earlier ++ k.fresh) name [])) is in
    let grows : total (with_item sc k (item.Begin name site sites)) ≡ total k ++ begun name sites ∷ [] = sym (append_assoc k.earlier k.fresh (begun name sites ∷ [])) in
    record {
      one = λ o. subst OneEach (sym grows) (one_more (total k) name sites o p.1);
      sub = λ b h. subst (λ z. IsIn b z) (sym grows) (in_left b (total k) (begun name sites ∷ []) h);
      earlier = refl;
    }
item_kept sc k (item.Read name key) is = same_kept k (with_item sc k (item.Read name key)) refl refl
item_kept sc k (item.Write name key val) is = same_kept k (with_item sc k (item.Write name key val)) refl refl
item_kept sc k (item.Commit name) is = same_kept k (with_item sc k (item.Commit name)) refl refl
item_kept sc k (item.Cancel name) is = same_kept k (with_item sc k (item.Cancel name)) refl refl
item_kept sc k (item.Expire site name) is = same_kept k (with_item sc k (item.Expire site name)) refl refl
item_kept sc k (item.Elect site name sites) is = same_kept k (with_item sc k (item.Elect site name sites)) refl refl
item_kept sc k (item.Recover sites) is = same_kept k (with_item sc k (item.Recover sites)) refl refl
item_kept sc k (item.Split parts) is = same_kept k (with_item sc k (item.Split parts)) refl refl
item_kept sc k item.Merge is = same_kept k (with_item sc k item.Merge) refl refl
item_kept sc k (item.Crash site) is = same_kept k (with_item sc k (item.Crash site)) refl refl
item_kept sc k (item.Restart site) is = same_kept k (with_item sc k (item.Restart site)) refl refl
item_kept sc k (item.Stop site count leave) is = same_kept k (with_item sc k (item.Stop site count leave)) refl refl

single : (x : ℕ) (s : List ℕ) → is_within (x ∷ []) s ≡ true → has_site s x ≡ true
single x s is = (and_parts (has_site s x) true is).0

item_named : (sc : Scenario) (k : ItemsSoFar) (it : Item) (all : List BegunName) → keeps_rules sc k it ≡ true → Sub (total (with_item sc k it)) all → Sub k.earlier all → ItemNamed all it
item_named sc k (item.Begin name site sites) all is sub early =
    let p = and_parts (is_group sc sites && has_site sites site) (not (is_begun (k.earlier ++ k.fresh) name [])) is in
    let q = and_parts (is_group sc sites) (has_site sites site) p.0 in
    (sub (begun name sites) (in_right (begun name sites) k.earlier (k.fresh ++ begun name sites ∷ []) (in_right (begun name sites) k.fresh (begun name sites ∷ []) (inl refl))), q.1)
item_named sc k (item.Read name key) all is sub early =
    let t = begun_found k.earlier name (key.site ∷ []) (and_parts (is_begun k.earlier name (key.site ∷ [])) (nat_lt (count_ops k.ops name) 64) is).0 in
    (t.0, early (begun name t.0) t.1, single key.site t.0 t.2)
item_named sc k (item.Write name key val) all is sub early =
    let t = begun_found k.earlier name (key.site ∷ []) (and_parts (is_begun k.earlier name (key.site ∷ [])) (nat_lt (count_ops k.ops name) 64) is).0 in
    (t.0, early (begun name t.0) t.1, single key.site t.0 t.2)
item_named sc k (item.Expire site name) all is sub early =
    let t = begun_found k.earlier name (site ∷ []) is in
    (t.0, early (begun name t.0) t.1, single site t.0 t.2)
item_named sc k (item.Elect site name sites) all is sub early =
    let p = and_parts (is_begun k.earlier name sites && is_set sites) (has_site sites site) is in
    let t = begun_found k.earlier name sites (and_parts (is_begun k.earlier name sites) (is_set sites) p.0).0 in
    (t.0, early (begun name t.0) t.1, t.2, p.1)
item_named sc k (item.Commit name) all is sub early = tt
item_named sc k (item.Cancel name) all is sub early = tt
item_named sc k (item.Recover sites) all is sub early = tt
item_named sc k (item.Split parts) all is sub early = tt
item_named sc k item.Merge all is sub early = tt
item_named sc k (item.Crash site) all is sub early = tt
item_named sc k (item.Restart site) all is sub early = tt
item_named sc k (item.Stop site count leave) all is sub early = tt

kept_self : (k : ItemsSoFar) → Kept k k
kept_self k = record { one = λ o. o; sub = λ b h. h; earlier = refl }

kept_trans : (k l m : ItemsSoFar) → Kept k l → Kept l m → Kept k m
kept_trans k l m a b = record { one = λ o. b.one (a.one o); sub = λ x h. b.sub x (a.sub x h); earlier = b.earlier ∙ a.earlier }

items_kept : (sc : Scenario) (k : ItemsSoFar) (items : List Item) → items_keep sc k items ≡ true → Kept k (fold (with_item sc) k items)
items_kept sc k [] is = kept_self k
items_kept sc k (it ∷ items) is =
    let p = and_parts (keeps_rules sc k it) (items_keep sc (with_item sc k it) items) is in
    kept_trans k (with_item sc k it) (fold (with_item sc) (with_item sc k it) items) (item_kept sc k it p.0) (items_kept sc (with_item sc k it) items p.1)

items_named : (sc : Scenario) (k : ItemsSoFar) (items : List Item) (all : List BegunName) → items_keep sc k items ≡ true → Sub (total (fold (with_item sc) k items)) all
    → (it : Item) → IsIn it items → ItemNamed all it
items_named sc k [] all is sub it h = absurd h
items_named sc k (x ∷ items) all is sub it (inl e) =
    let p = and_parts (keeps_rules sc k x) (items_keep sc (with_item sc k x) items) is in
    let first : Sub (total (with_item sc k x)) all = λ b h. sub b ((items_kept sc (with_item sc k x) items p.1).sub b h) in
    subst (λ (z : Item). ItemNamed all z) (sym e)
    (item_named sc k x all p.0 first (λ b h. first b ((item_kept sc k x p.0).sub b (in_left b k.earlier k.fresh h))))
items_named sc k (x ∷ items) all is sub it (inr h) =
    let p = and_parts (keeps_rules sc k x) (items_keep sc (with_item sc k x) items) is in
    items_named sc (with_item sc k x) items all p.1 sub it h

-- what the items came to behind all steps
abbrev at_end : Scenario → ItemsSoFar → List (List Item) → ItemsSoFar
at_end sc k steps = fold (λ so_far items. close_step (fold (with_item sc) so_far items)) k steps

close_total : (k : ItemsSoFar) → total (close_step k) ≡ total k
close_total k = append-nil (k.earlier ++ k.fresh)

steps_sub : (sc : Scenario) (k : ItemsSoFar) (steps : List (List Item)) → steps_keep sc k steps ≡ true → Sub (total k) (total (at_end sc k steps))
steps_sub sc k [] is b h = h
steps_sub sc k (items ∷ steps) is b h =
    let p = and_parts (is_step_form items && items_keep sc k items) (steps_keep sc (close_step (fold (with_item sc) k items)) steps) is in
    let q = and_parts (is_step_form items) (items_keep sc k items) p.0 in
    steps_sub sc (close_step (fold (with_item sc) k items)) steps p.1 b (subst (λ z. IsIn b z) (sym (close_total (fold (with_item sc) k items))) ((items_kept sc k items q.1).sub b h))

steps_one : (sc : Scenario) (k : ItemsSoFar) (steps : List (List Item)) → steps_keep sc k steps ≡ true → OneEach (total k) → OneEach (total (at_end sc k steps))
steps_one sc k [] is one = one
steps_one sc k (items ∷ steps) is one =
    let p = and_parts (is_step_form items && items_keep sc k items) (steps_keep sc (close_step (fold (with_item sc) k items)) steps) is in
    let q = and_parts (is_step_form items) (items_keep sc k items) p.0 in
    steps_one sc (close_step (fold (with_item sc) k items)) steps p.1 (subst OneEach (sym (close_total (fold (with_item sc) k items))) ((items_kept sc k items q.1).one one))

-- a step of a scenario that keeps the rules
pub record StepNamed (all : List BegunName) (items : List Item) : Type 0 where
  pub form : is_step_form items ≡ true
  pub named : (it : Item) → IsIn it items → ItemNamed all it

steps_named : (sc : Scenario) (k : ItemsSoFar) (steps : List (List Item)) (all : List BegunName) → steps_keep sc k steps ≡ true → Sub (total (at_end sc k steps)) all
    → (items : List Item) → IsIn items steps → StepNamed all items
steps_named sc k [] all is sub items h = absurd h
steps_named sc k (x ∷ steps) all is sub items (inl e) =
    let p = and_parts (is_step_form x && items_keep sc k x) (steps_keep sc (close_step (fold (with_item sc) k x)) steps) is in
    let q = and_parts (is_step_form x) (items_keep sc k x) p.0 in
    subst (λ (z : List Item). StepNamed all z) (sym e) (record {
      form = q.0;
      named = items_named sc k x all q.1 (λ b h. sub b (steps_sub sc (close_step (fold (with_item sc) k x)) steps p.1 b (subst (λ z. IsIn b z) (sym (close_total (fold (with_item sc) k x))) h)));
    })
steps_named sc k (x ∷ steps) all is sub items (inr h) =
    let p = and_parts (is_step_form x && items_keep sc k x) (steps_keep sc (close_step (fold (with_item sc) k x)) steps) is in
    steps_named sc (close_step (fold (with_item sc) k x)) steps all p.1 sub items h

-- the names of a scenario: each has one set of sites, and each item names sites of it
pub record Names (steps : List (List Item)) : Type 0 where
  pub all : List BegunName
  pub one : OneEach all
  pub each : (items : List Item) → IsIn items steps → StepNamed all items

pub names_of_steps : (sc : Scenario) (k : ItemsSoFar) (steps : List (List Item)) → k.earlier ≡ [] → k.fresh ≡ [] → steps_keep sc k steps ≡ true → Names steps
names_of_steps sc k steps none free is = record {
  all = total (at_end sc k steps);
  one = steps_one sc k steps is (λ name s t h. absurd (subst (λ z. IsIn (begun name s) z) (ap (λ z. z ++ k.fresh) none ∙ free) h));
  each = steps_named sc k steps (total (at_end sc k steps)) is (λ b h. h);
}
