-- Maps that find a name without going through a list.
use Rattle.std.proofs.Common.{◌≡◌, ℕ, ◌+◌, Bool, true, false, cond, ◌||◌, List, [], ◌∷◌, ◌++◌, Option, Some, None, refl, ap, sym, ◌∙◌, arith, subst}
use Rattle.std.specs.Prelude.{option_map, unwrap_or, is_some}
use Rattle.std.specs.Ordering.{nat_cmp}
use Rattle.std.specs.Cmp.Lexicographic.{slice_cmp}
use Rattle.std.specs.BTreeMap.{is_at}
use Rattle.std.specs.List.{find}
use Rattle.std.specs.Option.{option_or}
use Rattle.std.proofs.lemmas.Grind.{common_steps}
use Rattle.std.proofs.lemmas.Map.Text.{is_eq-slice_cmp}
use Rattle.e3_types.specs.Same.{same_numbers}
use Rattle.e3_types.proofs.Orders.{pointwise_same}
use Rattle.e3_types.proofs.SameSites.{same_numbers_eq}
use Rattle.e3_world.specs.Given.{BegunName, count_ops}
use Rattle.e3_scenario.specs.Faults.{has_name, sites_begun}
use Rattle.e3_scenario.specs.Indexes.{at_name, AreSites, AreCounts}

-- names tie in the order of the map where they are the same
pub ties : (xs ys : List ℕ) → is_at (slice_cmp nat_cmp xs) ys ≡ same_numbers xs ys
ties xs ys = is_eq-slice_cmp xs ys ∙ pointwise_same xs ys

pub turned : (xs ys : List ℕ) → same_numbers xs ys ≡ same_numbers ys xs
turned [] [] = refl
turned (x ∷ xs) (y ∷ ys) = let ih = turned xs ys in grind (arith, common_steps, ih)
turned [] (y ∷ ys) = refl
turned (x ∷ xs) [] = refl

-- a name is begun where its sites are found
pub begun_there : (begun : List BegunName) (name : List ℕ) → is_some (sites_begun begun name) ≡ has_name begun name
begun_there [] name = refl
begun_there (b ∷ begun) name = by (same_numbers name b.name) (begun_there begun name)
  where
    by : (c : Bool) → is_some (sites_begun begun name) ≡ has_name begun name
        → is_some (option_map (λ x. x.sites) (cond c (Some b) (find (λ x. same_numbers name x.name) begun))) ≡ (c || has_name begun name)
    by true more = refl
    by false more = more

-- what is there stays, and what is not comes from the other
some_stays : {X : Type 0} (o p : Option X) → is_some o ≡ true → o ≡ option_or o p
some_stays None p h = cc
some_stays (Some x) p h = refl

or_none : {X : Type 0} (o : Option X) → o ≡ option_or o None
or_none None = refl
or_none (Some x) = refl

none_then : {X : Type 0} (o p : Option X) → is_some o ≡ false → p ≡ option_or o p
none_then None p h = refl
none_then (Some x) p h = cc

-- the sites of a name with one more begin
sites_append : (begun : List BegunName) (b : BegunName) (name : List ℕ)
    → sites_begun (begun ++ b ∷ []) name ≡ option_or (sites_begun begun name) (cond (same_numbers name b.name) (Some b.sites) None)
sites_append [] b name = by (same_numbers name b.name)
  where
    by : (c : Bool) → option_map (λ x. x.sites) (cond c (Some b) None) ≡ cond c (Some b.sites) None
    by true = refl
    by false = refl
sites_append (x ∷ begun) b name = by (same_numbers name x.name) (sites_append begun b name)
  where
    last : Option (List ℕ)
    last = cond (same_numbers name b.name) (Some b.sites) None

    by : (c : Bool) → sites_begun (begun ++ b ∷ []) name ≡ option_or (sites_begun begun name) last
        → option_map (λ y. y.sites) (cond c (Some x) (find (λ y. same_numbers name y.name) (begun ++ b ∷ [])))
        ≡ option_or (option_map (λ y. y.sites) (cond c (Some x) (find (λ y. same_numbers name y.name) begun))) last
    by true more = refl
    by false more = more

-- one more begin, of a name that is known
pub sites_known : (entries : List (List ℕ × List ℕ)) (begun : List BegunName) (b : BegunName) → AreSites entries begun
    → is_some (at_name entries b.name) ≡ true → AreSites entries (begun ++ b ∷ [])
sites_known entries begun b are known name = are name ∙ by (same_numbers name b.name) refl ∙ sym (sites_append begun b name)
  where
    by : (c : Bool) → same_numbers name b.name ≡ c → sites_begun begun name ≡ option_or (sites_begun begun name) (cond c (Some b.sites) None)
    by true is =
        let Known : List ℕ → Type 0 = λ q. is_some (at_name entries q) ≡ true in
        let there : is_some (at_name entries name) ≡ true = subst Known (sym (same_numbers_eq name b.name is)) known in
        let Some' : Option (List ℕ) → Type 0 = λ o. is_some o ≡ true in
        some_stays (sites_begun begun name) (Some b.sites) (subst Some' (are name) there)
    by false is = or_none (sites_begun begun name)

-- one more begin, of a new name
pub sites_new : (entries more : List (List ℕ × List ℕ)) (begun : List BegunName) (b : BegunName) → AreSites entries begun
    → is_some (at_name entries b.name) ≡ false
    → ((name : List ℕ) → at_name more name ≡ cond (is_at (slice_cmp nat_cmp b.name) name) (Some b.sites) (at_name entries name))
    → AreSites more (begun ++ b ∷ [])
sites_new entries more begun b are known updates name =
    updates name
    ∙ ap (λ c. cond c (Some b.sites) (at_name entries name)) (ties b.name name ∙ turned b.name name)
    ∙ ap (λ o. cond (same_numbers name b.name) (Some b.sites) o) (are name)
    ∙ by (same_numbers name b.name) refl
    ∙ sym (sites_append begun b name)
  where
    by : (c : Bool) → same_numbers name b.name ≡ c → cond c (Some b.sites) (sites_begun begun name) ≡ option_or (sites_begun begun name) (cond c (Some b.sites) None)
    by true is =
        let Known : List ℕ → Type 0 = λ q. is_some (at_name entries q) ≡ false in
        let none : is_some (at_name entries name) ≡ false = subst Known (sym (same_numbers_eq name b.name is)) known in
        let None' : Option (List ℕ) → Type 0 = λ o. is_some o ≡ false in
        none_then (sites_begun begun name) (Some b.sites) (subst None' (are name) none)
    by false is = or_none (sites_begun begun name)

-- how many operations there are with one more
count_append : (ops : List (List ℕ)) (op name : List ℕ) → count_ops (ops ++ op ∷ []) name ≡ count_ops ops name + cond (same_numbers name op) 1 0
count_append ops op name = grind (arith, common_steps)

-- one more operation
pub counts_more : (entries more : List (List ℕ × ℕ)) (ops : List (List ℕ)) (op : List ℕ) (n : ℕ) → AreCounts entries ops
    → n ≡ unwrap_or (at_name entries op) 0 + 1
    → ((name : List ℕ) → at_name more name ≡ cond (is_at (slice_cmp nat_cmp op) name) (Some n) (at_name entries name))
    → AreCounts more (ops ++ op ∷ [])
counts_more entries more ops op n are counted updates name =
    ap (λ o. unwrap_or o 0) (updates name ∙ ap (λ c. cond c (Some n) (at_name entries name)) (ties op name ∙ turned op name))
    ∙ by (same_numbers name op) refl
    ∙ sym (count_append ops op name)
  where
    by : (c : Bool) → same_numbers name op ≡ c → unwrap_or (cond c (Some n) (at_name entries name)) 0 ≡ count_ops ops name + cond c 1 0
    by true is =
        let Counted : List ℕ → Type 0 = λ q. n ≡ unwrap_or (at_name entries q) 0 + 1 in
        subst Counted (sym (same_numbers_eq name op is)) counted ∙ ap (λ k. k + 1) (are name)
    by false is = are name ∙ omega arith
