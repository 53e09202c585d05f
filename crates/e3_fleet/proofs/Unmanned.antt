-- A site that is up is one of the scenario's: one that no node stands for never is.
use Rattle.std.proofs.Common.{◌≡◌, ◌==◌, ◌<◌, ◌≤◌, ◌++◌, ◌∷◌, [], ℕ, zero, suc, Bool, true, false, List, length, fold, refl, sym, subst, arith, eqb-true, ◌∙◌}
use Rattle.e3_types.specs.declared.entries.Act.{Act}
use Rattle.e3_types.specs.declared.entries.Act.TheVariants.{Step, Fall, Rise, RiseFall, Miss, Cut, Drop, Parts, Line}
use Rattle.e3_types.specs.declared.entries.Entry.{Entry}
use Rattle.e3_types.specs.declared.scenarios.Scenario.{Scenario}
use Rattle.e3_world.specs.Items.{is_up_at}
use Rattle.e3_world.specs.Legal.{Guard, IsLegal, LegalAfter}
use Rattle.e3_world.specs.Moves.{own_entries}
use Rattle.e3_world.specs.Progress.{up_behind}
use Rattle.e3_world.proofs.Guards.{up_some}

-- a site that is up is one of the scenario's
act_within : (sc : Scenario) (before : List Entry) (owner : ℕ) (act : Act) (was : Bool) → Guard sc before (record { owner = owner; act = act }) →
    (was ≡ true → owner ≤ length sc.weights) → up_behind was act ≡ true → owner ≤ length sc.weights
act_within sc before zero (Rise kept inc) was guard known up = absurd guard
act_within sc before (suc s) (Rise kept inc) was guard known up = guard.rising.exists
act_within sc before owner (Step i records outs events) was guard known up = known up
act_within sc before owner (Fall inputs records why) was guard known up = absurd cc
act_within sc before owner (RiseFall kept inc why) was guard known up = absurd cc
act_within sc before owner Miss was guard known up = absurd cc
act_within sc before owner Cut was guard known up = absurd cc
act_within sc before owner (Drop number) was guard known up = known up
act_within sc before owner (Parts parts) was guard known up = known up
act_within sc before owner (Line number) was guard known up = known up

risen_within : (sc : Scenario) (s : ℕ) (before h : List Entry) (was : Bool) → LegalAfter sc before h → (was ≡ true → s ≤ length sc.weights) →
    fold (λ was e. up_behind was e.act) was (own_entries s h) ≡ true → s ≤ length sc.weights
risen_within sc s before [] was legal known up = known up
risen_within sc s before (e ∷ h) was legal known up = by (λ next more rest. risen_within sc s (before ++ e ∷ []) h next legal.1 more rest) (e.owner == s) refl
  where
    by : ((next : Bool) → (next ≡ true → s ≤ length sc.weights) → fold (λ was e. up_behind was e.act) next (own_entries s h) ≡ true → s ≤ length sc.weights) →
        (b : Bool) → (e.owner == s) ≡ b → s ≤ length sc.weights
    by rest false is = rest was known (sym (let same : fold (λ was e. up_behind was e.act) was (own_entries s (e ∷ h)) ≡ fold (λ was e. up_behind was e.act) was (own_entries s h) = rw is refl in same) ∙ up)
    by rest true is = rest (up_behind was e.act)
        (λ rose. let P : ℕ → Type 0 = λ n. n ≤ length sc.weights in
        let own_is : e.owner ≡ s = eqb-true e.owner s is in
        subst P own_is (act_within sc before e.owner e.act was legal.0 (λ up. subst P (sym own_is) (known up)) rose))
        (sym (let same : fold (λ was e. up_behind was e.act) was (own_entries s (e ∷ h)) ≡ fold (λ was e. up_behind was e.act) (up_behind was e.act) (own_entries s h) = rw is refl in same) ∙ up)

pub up_within : (sc : Scenario) (h : List Entry) (s : ℕ) → IsLegal sc h → is_up_at h s ≡ true → s ≤ length sc.weights
up_within sc h s legal up = risen_within sc s [] h false legal (λ is. absurd cc) up

pub site_zero : (sc : Scenario) (h : List Entry) (site : ℕ) → IsLegal sc h → site ≡ 0 → false ≡ is_up_at h site
site_zero sc h site legal none = by (is_up_at h site) refl
  where
    by : (b : Bool) → is_up_at h site ≡ b → false ≡ is_up_at h site
    by true up = let some = up_some sc h site legal up in absurd (omega (arith, some, none))
    by false down = sym down

pub past_all : (sc : Scenario) (h : List Entry) (site nodes : ℕ) → IsLegal sc h → nodes ≡ length sc.weights → nodes < site → false ≡ is_up_at h site
past_all sc h site nodes legal all past = by (is_up_at h site) refl
  where
    by : (b : Bool) → is_up_at h site ≡ b → false ≡ is_up_at h site
    by true up = let within = up_within sc h site legal up in absurd (omega (arith, within, all, past))
    by false down = sym down
