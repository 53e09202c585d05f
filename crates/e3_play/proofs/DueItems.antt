-- Where an input of the step is still to come, the history has not gone through its scenario.
use Rattle.std.proofs.Common.{◌≡◌, ◌≢◌, ◌==◌, ◌⊎◌, ◌||◌, ◌++◌, ◌∷◌, [], ◌≤◌, ◌<◌, inl, inr, ℕ, zero, suc, Bool, true, false, not, List, length, fold, Some, refl, sym, subst, ap, ◌∙◌, arith, eqb-true, eq-eqb}
use Rattle.std.specs.Prelude.{filter_map, nat_le, slice_get}
use Rattle.std.specs.List.{list_all}
use Rattle.std.proofs.lemmas.Bool.{and_parts, leb-true}
use Rattle.std.proofs.lemmas.List.Folds.{list_all-append}
use Rattle.e3_types.specs.declared.entries.Act.{Act}
use Rattle.e3_types.specs.declared.entries.Act.TheVariants.{Step, Fall, Rise, RiseFall, Miss, Cut, Drop, Parts, Line}
use Rattle.e3_types.specs.declared.entries.Entry.{Entry}
use Rattle.e3_types.specs.declared.entries.Input.{Input}
use Rattle.e3_types.specs.declared.scenarios.Item.{Item}
use Rattle.e3_types.specs.declared.scenarios.Item.TheVariants as item
use Rattle.e3_types.specs.declared.scenarios.Scenario.{Scenario}
use Rattle.e3_world.specs.Items.{input_of, inputs_at, inputs_to, is_up_at, items_through, plan_of, to_line, turn_of}
use Rattle.e3_world.specs.Legal.{Guard, IsLegal, IsNextItem, IsWhole, LegalAfter, is_made}
use Rattle.e3_world.specs.Moves.{own_entries}
use Rattle.e3_world.specs.Packets.{is_calm, lines, present_items, sites_to, step_items}
use Rattle.e3_world.specs.Progress.{up_behind}
use Rattle.e3_world.proofs.Guards.{up_some}
use Rattle.e3_world.proofs.Lines.{lines_to}
use Rattle.e3_world.proofs.Turns.{true_not_false}
use Rattle.e3_play.specs.Delivered.{IsFullBefore, IsItemDue}
use Rattle.e3_play.specs.Settled.{is_asking}
use Rattle.e3_play.proofs.DuePackets.{bounded_before, whole_parts}

-- a test that all sites pass is passed by each
pick : (p : ℕ → Bool) (n k : ℕ) → k < suc n → list_all p (suc n ∷ []) ≡ true → (k < n → p (suc k) ≡ true) → p (suc k) ≡ true
pick p n k low last rest = by (k == n) refl
  where
    by : (b : Bool) → (k == n) ≡ b → p (suc k) ≡ true
    by true is = let P : ℕ → Type 0 = λ j. p (suc j) ≡ true in subst P (sym (eqb-true k n is)) (and_parts (p (suc n)) true last).0
    by false is = rest (let apart : k ≢ n = (λ e. true_not_false (sym (eq-eqb k n e) ∙ is)) in omega (arith, low, apart))

pub one_of_all : (p : ℕ → Bool) (n k : ℕ) → k < n → list_all p (sites_to n) ≡ true → p (suc k) ≡ true
one_of_all p zero k low all = absurd (omega (arith, low))
one_of_all p (suc n) k low all =
    let parts : (list_all p (sites_to n) ≡ true) × (list_all p (suc n ∷ []) ≡ true) = and_parts (list_all p (sites_to n)) (list_all p (suc n ∷ [])) (sym (list_all-append p (sites_to n) (suc n ∷ [])) ∙ all) in
    pick p n k low parts.1 (λ less. one_of_all p n k less parts.0)

-- a site that is up is one of the scenario's
act_within : (sc : Scenario) (before : List Entry) (owner : ℕ) (act : Act) (was : Bool) → Guard sc before (record { owner = owner; act = act }) →
    (was ≡ true → owner ≤ length sc.weights) → up_behind was act ≡ true → owner ≤ length sc.weights
act_within sc before zero (Rise kept inc) was guard known up = absurd guard
act_within sc before (suc s) (Rise kept inc) was guard known up = guard.rising.exists
act_within sc before owner (Step i records outs events) was guard known up = known up
act_within sc before owner (Fall inputs records why) was guard known up = absurd cc
act_within sc before owner (RiseFall kept inc why) was guard known up = absurd cc
act_within sc before owner Miss was guard known up = absurd cc
act_within sc before owner Cut was guard known up = absurd cc
act_within sc before owner (Drop number) was guard known up = known up
act_within sc before owner (Parts parts) was guard known up = known up
act_within sc before owner (Line number) was guard known up = known up

risen_within : (sc : Scenario) (s : ℕ) (before h : List Entry) (was : Bool) → LegalAfter sc before h → (was ≡ true → s ≤ length sc.weights) →
    fold (λ was e. up_behind was e.act) was (own_entries s h) ≡ true → s ≤ length sc.weights
risen_within sc s before [] was legal known up = known up
risen_within sc s before (e ∷ h) was legal known up = by (λ next more rest. risen_within sc s (before ++ e ∷ []) h next legal.1 more rest) (e.owner == s) refl
  where
    by : ((next : Bool) → (next ≡ true → s ≤ length sc.weights) → fold (λ was e. up_behind was e.act) next (own_entries s h) ≡ true → s ≤ length sc.weights) →
        (b : Bool) → (e.owner == s) ≡ b → s ≤ length sc.weights
    by rest false is = rest was known (sym (let same : fold (λ was e. up_behind was e.act) was (own_entries s (e ∷ h)) ≡ fold (λ was e. up_behind was e.act) was (own_entries s h) = rw is refl in same) ∙ up)
    by rest true is = rest (up_behind was e.act)
        (λ rose. let P : ℕ → Type 0 = λ n. n ≤ length sc.weights in
        let own_is : e.owner ≡ s = eqb-true e.owner s is in
        subst P own_is (act_within sc before e.owner e.act was legal.0 (λ up. subst P (sym own_is) (known up)) rose))
        (sym (let same : fold (λ was e. up_behind was e.act) was (own_entries s (e ∷ h)) ≡ fold (λ was e. up_behind was e.act) (up_behind was e.act) (own_entries s h) = rw is refl in same) ∙ up)

pub up_within : (sc : Scenario) (h : List Entry) (s : ℕ) → IsLegal sc h → is_up_at h s ≡ true → s ≤ length sc.weights
up_within sc h s legal up = risen_within sc s [] h false legal (λ is. absurd cc) up

got_within : (xs : List Input) (n : ℕ) (x : Input) → slice_get xs n ≡ Some x → n < length xs
got_within [] n x is = absurd cc
got_within (y ∷ xs) zero x is = omega arith
got_within (y ∷ xs) (suc n) x is = let less : n < length xs = got_within xs n x is in omega (arith, less)

-- a step that asks is made when its items are through, or it asks nothing of the sites
made_or_none : (sc : Scenario) (h named : List Entry) (items : List Item) → present_items sc h ≡ items → is_asking items ≡ true →
    (is_made sc h ≡ items_through sc h) ⊎ (filter_map (input_of sc named) items ≡ [])
made_or_none sc h named [] is asks = inl (rw is refl)
made_or_none sc h named (item.Split parts ∷ []) is asks = inr refl
made_or_none sc h named (item.Merge ∷ []) is asks = inr refl
made_or_none sc h named (item.Split parts ∷ x ∷ xs) is asks = absurd cc
made_or_none sc h named (item.Merge ∷ x ∷ xs) is asks = absurd cc
made_or_none sc h named (item.Begin name site sites ∷ items) is asks = inl (rw is refl)
made_or_none sc h named (item.Read name key ∷ items) is asks = inl (rw is refl)
made_or_none sc h named (item.Write name key val ∷ items) is asks = inl (rw is refl)
made_or_none sc h named (item.Commit name ∷ items) is asks = inl (rw is refl)
made_or_none sc h named (item.Cancel name ∷ items) is asks = inl (rw is refl)
made_or_none sc h named (item.Expire site name ∷ items) is asks = inl (rw is refl)
made_or_none sc h named (item.Elect site name sites ∷ items) is asks = inl (rw is refl)
made_or_none sc h named (item.Recover sites ∷ items) is asks = absurd cc
made_or_none sc h named (item.Crash site ∷ items) is asks = absurd cc
made_or_none sc h named (item.Restart site ∷ items) is asks = absurd cc
made_or_none sc h named (item.Stop site count leave ∷ items) is asks = absurd cc

-- such a step is no recovery
pub asking_is_no_recovery : (items : List Item) → is_asking items ≡ true → is_calm items ≡ false
asking_is_no_recovery [] asks = refl
asking_is_no_recovery (item.Split parts ∷ items) asks = refl
asking_is_no_recovery (item.Merge ∷ items) asks = refl
asking_is_no_recovery (item.Begin name site sites ∷ items) asks = refl
asking_is_no_recovery (item.Read name key ∷ items) asks = refl
asking_is_no_recovery (item.Write name key val ∷ items) asks = refl
asking_is_no_recovery (item.Commit name ∷ items) asks = refl
asking_is_no_recovery (item.Cancel name ∷ items) asks = refl
asking_is_no_recovery (item.Expire site name ∷ items) asks = refl
asking_is_no_recovery (item.Elect site name sites ∷ items) asks = refl
asking_is_no_recovery (item.Recover sites ∷ items) asks = absurd cc
asking_is_no_recovery (item.Crash site ∷ items) asks = refl
asking_is_no_recovery (item.Restart site ∷ items) asks = refl
asking_is_no_recovery (item.Stop site count leave ∷ items) asks = refl

-- an input is still to come, where all that is asked of sites is through
pub some_left : (sc : Scenario) (h : List Entry) (s : ℕ) (i : Input) → IsLegal sc h → is_up_at h s ≡ true → IsNextItem sc h s i → items_through sc h ≡ true → ⊥
some_left sc h zero i legal up next all = absurd (let one : 1 ≤ zero = up_some sc h zero legal up in omega (arith, one))
some_left sc h (suc k) i legal up next all =
    let few : suc k ≤ length sc.weights = up_within sc h (suc k) legal up in
    let one : (not (is_up_at h (suc k)) || nat_le (length (inputs_at sc h (suc k))) (turn_of h (suc k))) ≡ true =
    one_of_all (λ s. not (is_up_at h s) || nat_le (length (inputs_at sc h s)) (turn_of h s)) (length sc.weights) k (omega (arith, few)) all in
    let took : nat_le (length (inputs_at sc h (suc k))) (turn_of h (suc k)) ≡ true = sym (let same : (not (is_up_at h (suc k)) || nat_le (length (inputs_at sc h (suc k))) (turn_of h (suc k))) ≡ nat_le (length (inputs_at sc h (suc k))) (turn_of h (suc k)) = rw up refl in same) ∙ one in
    let many : length (inputs_at sc h (suc k)) ≤ turn_of h (suc k) = leb-true (length (inputs_at sc h (suc k))) (turn_of h (suc k)) took in
    let less : turn_of h (suc k) < length (inputs_at sc h (suc k)) = got_within (inputs_at sc h (suc k)) (turn_of h (suc k)) i next.next in
    absurd (omega (arith, many, less))

none_asked : (sc : Scenario) (h : List Entry) (s : ℕ) (i : Input) → plan_of sc h ≡ [] → IsNextItem sc h s i → ⊥
none_asked sc h s i none next =
    let less : turn_of h s < length (inputs_at sc h s) = got_within (inputs_at sc h s) (turn_of h s) i next.next in
    let empty : length (inputs_at sc h s) ≡ 0 = ap (λ l. length (inputs_to s l)) none in
    absurd (omega (arith, less, empty))

pub item_open : (sc : Scenario) (h : List Entry) (s : ℕ) (i : Input) → IsLegal sc h → lines h ≢ 0 → is_asking (present_items sc h) ≡ true →
    is_up_at h s ≡ true → IsNextItem sc h s i → ¬ IsWhole sc h
item_open sc h s i legal begun asks up next whole = by (made_or_none sc h (to_line h) (present_items sc h) refl asks)
  where
    present : present_items sc (to_line h) ≡ present_items sc h
    present = ap (step_items sc) (lines_to h)

    by : (is_made sc h ≡ items_through sc h) ⊎ (filter_map (input_of sc (to_line h)) (present_items sc h) ≡ []) → ⊥
    by (inl made) = some_left sc h s i legal up next (sym made ∙ (whole_parts sc h begun whole).1)
    by (inr none) = none_asked sc h s i (ap (filter_map (input_of sc (to_line h))) present ∙ none) next

pub item_full : (sc : Scenario) (h : List Entry) (most : ℕ) (due : IsItemDue sc h) → IsLegal sc h → lines h ≢ 0 → is_asking (present_items sc h) ≡ true →
    length h ≤ most → most ≤ length h → IsFullBefore IsItemDue sc h most
item_full sc h most due legal begun asks few many =
    bounded_before IsItemDue sc h most few many due (item_open sc h due.site due.item legal begun asks due.up due.next)
