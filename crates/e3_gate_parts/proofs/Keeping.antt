-- The steps that are kept of a site, for the proof alone.
use Rattle.std.proofs.Common.{◌≡◌, ◌++◌, ◌∷◌, [], List, Result, Ok, Err, OnOk, ap, subst, sym, ◌∙◌}
use Rattle.e3_site.specs.SiteView.{SiteView, Stands, planned_step, with_step}
use Rattle.e3_types.specs.declared.entries.Input.{Input}
use Rattle.e3_types.specs.declared.list.NoMemory.{NoMemory}
use Rattle.e3_types.specs.declared.records.Record.{Record}
use Rattle.e3_world.specs.declared.lives.SiteStep.{SiteStep}

-- where the step that was done is kept, the site stands for the log and what is kept
pub kept : (r : Result (Unit {0}) NoMemory) (rose : List Record) (was since : List SiteStep) (step last : SiteStep) (s : SiteView)
    → OnOk r (since ≡ was ++ last ∷ []) → last ≡ step → Stands (with_step (record { rose = rose; since = was }) step) s
    → OnOk r (Stands (record { rose = rose; since = since }) s)
kept (Ok u) rose was since step last s is same stands =
    subst (λ (l : List SiteStep). Stands (record { rose = rose; since = l }) s) (sym (is ∙ ap (λ (m : SiteStep). was ++ m ∷ []) same)) stands
kept (Err e) rose was since step last s is same stands = tt

-- a step that is planned behind equal steps
pub made_here : (rose : List Record) (was since : List SiteStep) (s : SiteView) (i : Input) (step : SiteStep) → step ≡ planned_step (record { rose = rose; since = was }) s i → was ≡ since
    → step ≡ planned_step (record { rose = rose; since = since }) s i
made_here rose was since s i step made same = made ∙ ap (λ (l : List SiteStep). planned_step (record { rose = rose; since = l }) s i) same
