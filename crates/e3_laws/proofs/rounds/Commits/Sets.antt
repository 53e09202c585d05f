-- The sites of a transaction that was begun are a set, and have weights.
use Rattle.std.proofs.Common.{◌≡◌, ◌⊎◌, ◌&&◌, ◌+◌, ◌-◌, ◌≤◌, ◌<◌, ◌∷◌, ◌++◌, [], ℕ, zero, suc, Bool, true, false, not, List, Option, Some, None, refl, ap, sym, subst, ◌∙◌, append-nil, append_assoc, if◌then◌else◌, length, arith, inl, inr, fold, slice_get, slice_index, nat_le}
use Rattle.std.specs.List.{list_all}
use Rattle.std.proofs.lemmas.Bool.{and_parts}
use Rattle.std.proofs.lemmas.Grind.{common_steps}
use Rattle.e3_types.specs.declared.entries.Entry.{Entry}
use Rattle.e3_types.specs.declared.scenarios.Item.{Item}
use Rattle.e3_types.specs.declared.scenarios.Item.TheVariants as item
use Rattle.e3_types.specs.declared.scenarios.Scenario.{Scenario}
use Rattle.e3_types.specs.declared.transactions.Txn.{Txn}
use Rattle.e3_types.specs.Quorums.{weight_of}
use Rattle.e3_types.specs.Same.{same_numbers}
use Rattle.e3_types.specs.Sets.{has_site, is_set}
use Rattle.e3_quorum.proofs.Sums.{weight_cons}
use Rattle.e3_world.specs.declared.names.Bound.{Bound}
use Rattle.e3_world.specs.Given.{IsGiven, ItemsSoFar, close_step, is_begun, is_group, is_step_form, items_keep, keeps_rules, with_item, steps_keep}
use Rattle.e3_world.specs.Items.{last_bound, since_line, to_line, txn_of}
use Rattle.e3_world.specs.Legal.{IsLegal, LegalAfter}
use Rattle.e3_world.specs.Packets.{all_sites, items_or, step_items}
use Rattle.e3_world.proofs.Pushes.{legal_front}
use Rattle.e3_laws.specs.agreement.Logs.{IsIn}
use Rattle.e3_laws.proofs.steps.Suits.Holding.{split_from}
use Rattle.e3_laws.proofs.agreement.BegunNames.{Counted, counted_on, counted_start}
use Rattle.e3_laws.proofs.agreement.Named.{Names, names_of_steps}
use Rattle.e3_laws.proofs.steps.Items.{binding}
use Rattle.e3_laws.proofs.rounds.Deliveries.Steps.{group_set}

begin_items : (sc : Scenario) (k : ItemsSoFar) (items : List Item) (name sites : List ℕ) (site : ℕ) → items_keep sc k items ≡ true → IsIn (item.Begin name site sites) items → is_set sites ≡ true
begin_items sc k [] name sites site keep has = absurd has
begin_items sc k (it ∷ items) name sites site keep (inl e) =
    let rules : keeps_rules sc k (item.Begin name site sites) ≡ true = ap (keeps_rules sc k) e ∙ (and_parts (keeps_rules sc k it) (items_keep sc (with_item sc k it) items) keep).0 in
    group_set sc sites (and_parts (is_group sc sites) (has_site sites site) (and_parts (is_group sc sites && has_site sites site) (not (is_begun (k.earlier ++ k.fresh) name [])) rules).0).0
begin_items sc k (it ∷ items) name sites site keep (inr more) = begin_items sc (with_item sc k it) items name sites site (and_parts (keeps_rules sc k it) (items_keep sc (with_item sc k it) items) keep).1 more

begin_steps : (sc : Scenario) (k : ItemsSoFar) (steps : List (List Item)) (n : ℕ) (name sites : List ℕ) (site : ℕ) → steps_keep sc k steps ≡ true → IsIn (item.Begin name site sites) (items_or (slice_get steps n)) → is_set sites ≡ true
begin_steps sc k [] zero name sites site keep has = absurd has
begin_steps sc k [] (suc n) name sites site keep has = absurd has
begin_steps sc k (x ∷ steps) zero name sites site keep has =
    let outer = and_parts (is_step_form x && items_keep sc k x) (steps_keep sc (close_step (fold (with_item sc) k x)) steps) keep in
    begin_items sc k x name sites site (and_parts (is_step_form x) (items_keep sc k x) outer.0).1 has
begin_steps sc k (x ∷ steps) (suc n) name sites site keep has =
    begin_steps sc (close_step (fold (with_item sc) k x)) steps n name sites site (and_parts (is_step_form x && items_keep sc k x) (steps_keep sc (close_step (fold (with_item sc) k x)) steps) keep).1 has

begin_set : (sc : Scenario) (n : ℕ) (name sites : List ℕ) (site : ℕ) → IsGiven sc → IsIn (item.Begin name site sites) (step_items sc n) → is_set sites ≡ true
begin_set sc zero name sites site given has = absurd has
begin_set sc (suc n) name sites site given has = begin_steps sc _ sc.steps n name sites site given.steps has

-- what a name stands for was bound
last_found : (name : List ℕ) (t : Txn) (bs : List Bound) (was : Option Txn) → fold (last_bound name) was bs ≡ Some t → (was ≡ Some t) ⊎ ((b : Bound) × IsIn b bs × (b.txn ≡ t))
last_found name t [] was is = inl is
last_found name t (b ∷ bs) was is = go (last_found name t bs (last_bound name was b) is)
  where
    now : (c : Bool) → same_numbers name b.name ≡ c → (if c then Some b.txn else was) ≡ Some t → (was ≡ Some t) ⊎ ((x : Bound) × IsIn x (b ∷ bs) × (x.txn ≡ t))
    now true same e = inr (b, inl refl, (let q : b.txn ≡ t = cc in q))
    now false same e = inl e

    go : (last_bound name was b ≡ Some t) ⊎ ((x : Bound) × IsIn x bs × (x.txn ≡ t)) → (was ≡ Some t) ⊎ ((x : Bound) × IsIn x (b ∷ bs) × (x.txn ≡ t))
    go (inl e) = now (same_numbers name b.name) refl e
    go (inr x) = inr (x.0, inr x.1, x.2)

counted_after : (sc : Scenario) (names : Names sc.steps) (before rest : List Entry) → LegalAfter sc before rest → Counted sc before → Counted sc (before ++ rest)
counted_after sc names before [] legal c = subst (Counted sc) (sym (append-nil before)) c
counted_after sc names before (e ∷ rest) legal c =
    subst (Counted sc) (append_assoc before (e ∷ []) rest) (counted_after sc names (before ++ e ∷ []) rest legal.1 (counted_on sc before names e.owner e.act legal.0 c))

pub sites_set : (sc : Scenario) (h : List Entry) (name : List ℕ) (t : Txn) → IsGiven sc → IsLegal sc h → txn_of sc (to_line h) name ≡ Some t → is_set t.sites ≡ true
sites_set sc h name t given legal is = by (last_found name t (binding sc (to_line h)).bound None is)
  where
    names : Names sc.steps
    names = names_of_steps sc (record { earlier = []; fresh = []; ops = []; parts = all_sites sc ∷ [] }) sc.steps refl refl given.steps

    whole : to_line h ++ since_line h ≡ h
    whole = split_from (record { to = []; since = [] }) h

    front : IsLegal sc (to_line h)
    front = legal_front sc (to_line h) (since_line h) (subst (IsLegal sc) (sym whole) legal)

    counted : Counted sc (to_line h)
    counted = counted_after sc names [] (to_line h) front (counted_start sc)

    by : (None ≡ Some t) ⊎ ((b : Bound) × IsIn b (binding sc (to_line h)).bound × (b.txn ≡ t)) → is_set t.sites ≡ true
    by (inl e) = absurd cc
    by (inr x) = let k = counted.bound x.0 x.1 in ap (λ (u : Txn). is_set u.sites) (sym x.2) ∙ begin_set sc k.0 x.0.name x.0.txn.sites x.0.txn.site given k.1

-- a site's weight
heavy : (ws : List ℕ) (i : ℕ) → list_all (λ w. nat_le 1 w && nat_le w 1000) ws ≡ true → i < length ws → 1 ≤ slice_index ws i
heavy [] i all less = absurd (let clash : ⊥ = omega (arith, less) in clash)
heavy (w ∷ ws) zero all less = let is : nat_le 1 w ≡ true = (and_parts (nat_le 1 w) (nat_le w 1000) (and_parts (nat_le 1 w && nat_le w 1000) (list_all (λ w. nat_le 1 w && nat_le w 1000) ws) all).0).0 in grind (arith, common_steps, is)
heavy (w ∷ ws) (suc i) all less = heavy ws i (and_parts (nat_le 1 w && nat_le w 1000) (list_all (λ w. nat_le 1 w && nat_le w 1000) ws) all).1 (omega (arith, less))

pub sites_weigh : (weights sites : List ℕ) (s : ℕ) → list_all (λ w. nat_le 1 w && nat_le w 1000) weights ≡ true → list_all (λ x. nat_le 1 x && nat_le x (length weights)) sites ≡ true → has_site sites s ≡ true →
    1 ≤ weight_of weights sites
sites_weigh weights [] s weighed among has = absurd cc
sites_weigh weights (x ∷ xs) s weighed among has =
    let parts = and_parts (nat_le 1 x) (nat_le x (length weights)) (and_parts (nat_le 1 x && nat_le x (length weights)) (list_all (λ x. nat_le 1 x && nat_le x (length weights)) xs) among).0 in
    let low : 1 ≤ x = grind (arith, common_steps, parts.0) in
    let high : x ≤ length weights = grind (arith, common_steps, parts.1) in
    let one : 1 ≤ slice_index weights (x - 1) = heavy weights (x - 1) weighed (omega (arith, low, high)) in
    let is : weight_of weights (x ∷ xs) ≡ slice_index weights (x - 1) + weight_of weights xs = weight_cons weights xs x in
    omega (arith, one, is)
