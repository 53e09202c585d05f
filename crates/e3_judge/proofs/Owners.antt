-- In a legal history only a site of the scenario is ever up.
use Rattle.std.proofs.Common.{◌≡◌, ◌==◌, ◌&&◌, ◌≤◌, ◌<◌, ◌++◌, ◌∷◌, [], ℕ, suc, zero, Bool, true, false, List, length, fold, refl, ap, sym, arith, ◌∙◌, eqb-true}
use Rattle.std.specs.Prelude.{nat_le}
use Rattle.std.proofs.lemmas.Bool.Decides.{nat_tests}
use Rattle.std.proofs.lemmas.List.Folds.{list_any-append}
use Rattle.e3_types.specs.declared.entries.Act.{Act}
use Rattle.e3_types.specs.declared.entries.Act.TheVariants.{Step, Fall, Rise, RiseFall, Miss, Cut, Drop, Parts, Line}
use Rattle.e3_types.specs.declared.entries.Entry.{Entry}
use Rattle.e3_types.specs.declared.scenarios.Scenario.{Scenario}
use Rattle.e3_types.specs.Sets.{has_site}
use Rattle.e3_world.specs.Items.{is_up_at}
use Rattle.e3_world.specs.Legal.{IsLegal, LegalAfter, Guard}
use Rattle.e3_world.specs.Moves.{own_entries}
use Rattle.e3_world.specs.Packets.{sites_to}
use Rattle.e3_world.specs.Progress.{up_behind}
use Rattle.e3_world.proofs.Guards.{up_some}
use Rattle.e3_world.proofs.Turns.{true_not_false}
use Rattle.e3_judge.specs.Checks.{is_site}

-- a site of the scenario has a number from 1 to the count of the weights
pub site_to : (n s : ℕ) → has_site (sites_to n) s ≡ (nat_le 1 s && nat_le s n)
site_to zero s = grind (arith, nat_tests)
site_to (suc n) s = let ih = site_to n s in
    list_any-append (λ x. x == s) (sites_to n) (suc n ∷ []) ∙ grind (arith, nat_tests, ih)

pub is_site_from : (sc : Scenario) (s : ℕ) → 1 ≤ s → s ≤ length sc.weights → is_site sc s ≡ true
is_site_from sc s low high = site_to (length sc.weights) s ∙ grind (arith, nat_tests, low, high)

pub site_low : (sc : Scenario) (s : ℕ) → is_site sc s ≡ true → 1 ≤ s
site_low sc s is = let e = sym (site_to (length sc.weights) s) ∙ is in grind (arith, nat_tests, e)

pub site_high : (sc : Scenario) (s : ℕ) → is_site sc s ≡ true → s ≤ length sc.weights
site_high sc s is = let e = sym (site_to (length sc.weights) s) ∙ is in grind (arith, nat_tests, e)

-- what a number above them does leaves it down
beyond_act : (sc : Scenario) (before : List Entry) (o : ℕ) (act : Act) → Guard sc before (record { owner = o; act = act }) →
    length sc.weights < o → up_behind false act ≡ false
beyond_act sc before zero act g high = absurd (omega (arith, high))
beyond_act sc before (suc s) (Step i records outs events) g high = refl
beyond_act sc before (suc s) (Fall inputs records why) g high = refl
beyond_act sc before (suc s) (Rise kept inc) g high = absurd (omega (arith, high, g.rising.exists))
beyond_act sc before (suc s) (RiseFall kept inc why) g high = refl
beyond_act sc before (suc s) Miss g high = refl
beyond_act sc before (suc s) Cut g high = refl
beyond_act sc before (suc s) (Drop number) g high = refl
beyond_act sc before (suc s) (Parts parts) g high = refl
beyond_act sc before (suc s) (Line number) g high = refl

beyond_down : (sc : Scenario) (before h : List Entry) (s : ℕ) → LegalAfter sc before h → length sc.weights < s →
    fold (λ was e. up_behind was e.act) false (own_entries s h) ≡ false
beyond_down sc before [] s legal high = refl
beyond_down sc before (e ∷ h) s legal high = by (beyond_down sc (before ++ e ∷ []) h s legal.1 high) (e.owner == s) refl
  where
    by : fold (λ was e. up_behind was e.act) false (own_entries s h) ≡ false → (b : Bool) → (e.owner == s) ≡ b →
        fold (λ was e. up_behind was e.act) false (own_entries s (e ∷ h)) ≡ false
    by rest true is = rw is (ap (λ b. fold (λ was e. up_behind was e.act) b (own_entries s h))
        (beyond_act sc before e.owner e.act legal.0 (let same : e.owner ≡ s = eqb-true e.owner s is in omega (arith, same, high))) ∙ rest)
    by rest false is = rw is rest

up_within : (sc : Scenario) (h : List Entry) (s : ℕ) → IsLegal sc h → is_up_at h s ≡ true → (b : Bool) → nat_le s (length sc.weights) ≡ b →
    s ≤ length sc.weights
up_within sc h s legal up true is = grind (arith, nat_tests, is)
up_within sc h s legal up false is =
    let high : length sc.weights < s = grind (arith, nat_tests, is) in
    absurd (true_not_false (sym up ∙ beyond_down sc [] h s legal high))

-- a site that is up is one of the scenario
pub up_is_site : (sc : Scenario) (h : List Entry) (s : ℕ) → IsLegal sc h → is_up_at h s ≡ true → is_site sc s ≡ true
up_is_site sc h s legal up =
    is_site_from sc s (up_some sc h s legal up) (up_within sc h s legal up (nat_le s (length sc.weights)) refl)
