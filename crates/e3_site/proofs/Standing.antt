-- What a site that stands for a history plans, and that it goes on standing for it.
use Rattle.std.proofs.Common.{◌≡◌, ◌<◌, ◌^◌, arith, length, true, ℕ, List, [], ◌∷◌, ◌++◌, refl, sym, subst, ap, ◌∙◌, fold, Result, Ok, Err, IfOk}
use Rattle.std.proofs.lemmas.List.{length-map}
use Rattle.std.proofs.lemmas.List.Sums.{fold-append}
use Rattle.e3_readings.specs.Opens.{open_in}
use Rattle.e3_site.proofs.past.RecordsFollow.{step_follows}
use Rattle.e3_site.specs.past.Standing.{TablesStand}
use Rattle.e3_site.specs.past.Stepping.{ActAlike, IsMadeOf}
use Rattle.e3_site.specs.declared.past.tables.Behind.{Behind}
use Rattle.e3_site.specs.declared.past.tables.Tables.{Tables}
use Rattle.e3_places.specs.Standing.{follow}
use Rattle.e3_types.specs.declared.list.NoMemory.{NoMemory}
use Rattle.e3_types.specs.declared.entries.Entry.{Entry}
use Rattle.e3_types.specs.declared.entries.Input.{Input}
use Rattle.e3_types.specs.declared.records.Record.{Record}
use Rattle.e3_types.specs.declared.scenarios.Scenario.{Scenario}
use Rattle.e3_types.specs.declared.transactions.Txn.{Txn}
use Rattle.e3_world.specs.declared.lives.Incarnation.{Incarnation}
use Rattle.e3_world.specs.declared.lives.Life.{Life}
use Rattle.e3_world.specs.declared.lives.Made.{Made}
use Rattle.e3_world.specs.declared.lives.SiteStep.{SiteStep}
use Rattle.e3_world.specs.Legal.{entry_of, made_by}
use Rattle.e3_world.specs.Lives.{incarnation_of, life_by, life_of}
use Rattle.e3_world.specs.Logs.{logged_inc}
use Rattle.e3_world.specs.Moves.{unnumbered, Move, Past, Rose, past_of, moves_of, own_entries, log_by}
use Rattle.e3_world.specs.Steps.{step_of}
use Rattle.e3_world.proofs.Numbers.{entered_move}
use Rattle.e3_world.proofs.Pushes.{past_push, incarnation_push, log_push, present_is_log}
use Rattle.e3_world.proofs.Readings.{own_same}
use Rattle.e3_world.proofs.Turns.{self}
use Rattle.e3_site.specs.SiteView.{IsPlanOf, PlanView, SiteView, Stands, planned_step, risen_with, step_kept, with_step}
use Rattle.e3_site.specs.StandsFor.{ListsOpen, PlansStep, StandsFor, StandsOn, StandsRisen, StandsStill}

-- the life of an incarnation with one more step
pub life_push : (now : Incarnation) (step : SiteStep) → life_of (with_step now step) ≡ life_by (life_of now) step
life_push now step = fold-append life_by _ now.since (step ∷ [])

-- tables of the life with a step are those of the incarnation with it
pub tables_on : (now : Incarnation) (step : SiteStep) (site : ℕ) (tables : Tables) → TablesStand site (life_by (life_of now) step) tables
    → TablesStand site (life_of (with_step now step)) tables
tables_on now step site tables stand = subst (λ (life : Life). TablesStand site life tables) (sym (life_push now step)) stand

inc_from : (life : Life) (since : List SiteStep) → (fold life_by life since).inc ≡ life.inc
inc_from life [] = refl
inc_from life (step ∷ since) = inc_from (life_by life step) since

-- the number of an incarnation's life is that of the log that it rose with
pub inc_of_rise : (now : Incarnation) → (life_of now).inc ≡ logged_inc now.rose
inc_of_rise now = inc_from _ now.since

-- the step that the site makes is the one that its history makes
made_is : (sc : Scenario) (h : List Entry) (now : Incarnation) (s : SiteView) (i : Input) → StandsFor sc h s.site s
    → incarnation_of (moves_of sc h s.site) ≡ now → planned_step now s i ≡ step_kept i (made_by sc h s.site i)
made_is sc h now s i stands is =
    ap (λ (n : Incarnation). planned_step n s i) (sym is)
    ∙ ap (λ (ws : List ℕ). step_kept i (step_of ws s.site (incarnation_of (moves_of sc h s.site)) i)) stands.weights_are

-- the records of what an input makes the site do may follow its log
pub plan_follows : (now : Incarnation) (s : SiteView) (i : Input) (step : SiteStep) → step ≡ planned_step now s i → follow (life_of now).log step.records ≡ true
plan_follows now s i step is = ap (λ (m : SiteStep). follow (life_of now).log m.records) is ∙ step_follows s.weights s.site now i

-- what is planned is kept of the step that is made
pub planned_is : (now : Incarnation) (s : SiteView) (i : Input) (made : Made) (r : Result PlanView NoMemory) → made ≡ step_of s.weights s.site now i
    → IfOk r (λ plan. plan.step ≡ step_kept i made) → IfOk r (λ plan. plan.step ≡ planned_step now s i)
planned_is now s i made (Ok plan) is kept = kept ∙ ap (step_kept i) is
planned_is now s i made (Err e) is kept = tt

-- its packets are as many as those of the step that is made
pub few_planned : (i : Input) (made : Made) (r : Result PlanView NoMemory) → length made.outs < 2 ^ 32
    → IfOk r (λ plan. plan.step ≡ step_kept i made) → IfOk r (λ plan. length plan.step.outs < 2 ^ 32)
few_planned i made (Ok plan) few kept =
    let same : length plan.step.outs ≡ length made.outs = ap (λ (s : SiteStep). length s.outs) kept ∙ length-map made.outs unnumbered in
    omega (arith, few, same)
few_planned i made (Err e) few kept = tt

pub plans_step : (now : Incarnation) (s : SiteView) (i : Input) (r : Result PlanView NoMemory) → IfOk r (λ plan. plan.step ≡ planned_step now s i)
    → IfOk r (λ plan. PlansStep now s i plan.step)
plans_step now s i (Ok plan) made = λ sc h stands is. made ∙ made_is sc h now s i stands is
plans_step now s i (Err e) made = tt

-- a value with other tables stands where these do
pub stands_still : (old new : SiteView) → new ≡ record old { tables = new.tables } → ((now : Incarnation) → Stands now old → Stands now new)
    → StandsStill old new
stands_still old new same still = λ sc h site stands. record {
  weights_are = ap (λ (s : SiteView). s.weights) same ∙ stands.weights_are;
  site_is = ap (λ (s : SiteView). s.site) same ∙ stands.site_is;
  stands = still (incarnation_of (moves_of sc h site)) stands.stands;
}

-- room is made in tables that say the same: a plan of the old value is one of the new
pub own_still : (old new : SiteView) (plan : PlanView) (behind : Behind) → behind ≡ plan.behind → ActAlike old.tables new.tables behind
    → (now : Incarnation) → Stands now old → IsPlanOf plan old → IsPlanOf plan new
own_still old new plan behind is alike now stands own =
    let P : Behind → Type 0 = λ b. IsMadeOf old.tables plan.step b in
    let Q : Behind → Type 0 = λ b. IsMadeOf new.tables plan.step b in
    subst Q is (alike.are old.site (life_of now) plan.step stands (subst P (sym is) own))

-- what is done is the plan's
pub own_parts : (s : SiteView) (plan : PlanView) (step : SiteStep) (behind : Behind) → step ≡ plan.step → behind ≡ plan.behind → IsPlanOf plan s
    → IsMadeOf s.tables step behind
own_parts s plan step behind steps is own =
    let P : SiteStep → Type 0 = λ m. IsMadeOf s.tables m behind in
    let Q : Behind → Type 0 = λ b. IsMadeOf s.tables plan.step b in
    subst P (sym steps) (subst Q (sym is) own)

-- behind the entry of a step the site's incarnation has that step
step_moves : (sc : Scenario) (h : List Entry) (site : ℕ) (i : Input) →
    incarnation_of (moves_of sc (h ++ entry_of sc h site i ∷ []) site)
    ≡ with_step (incarnation_of (moves_of sc h site)) (step_kept i (made_by sc h site i))
step_moves sc h site i =
    ap (λ l. incarnation_of (past_of sc site l).moves) (own_same site h (entry_of sc h site i) (self site))
    ∙ ap (λ (p : Past). incarnation_of p.moves) (past_push sc site (own_entries site h) (entry_of sc h site i))
    ∙ ap (λ ms. incarnation_of (moves_of sc h site ++ ms)) (entered_move sc h site i)
    ∙ incarnation_push (moves_of sc h site) _

-- so the value that did the planned step stands for the history with its entry
pub stands_on : (old new : SiteView) (step : SiteStep) (inputs : ℕ) → new ≡ record old { inputs = inputs; tables = new.tables }
    → ((now : Incarnation) (i : Input) → Stands now old → step ≡ planned_step now old i → Stands (with_step now step) new) → StandsOn old step new
stands_on old new step inputs done on = λ sc h i stands made.
    let was : Incarnation = incarnation_of (moves_of sc h old.site) in
    record {
      weights_are = ap (λ (s : SiteView). s.weights) done ∙ stands.weights_are;
      site_is = ap (λ (s : SiteView). s.site) done;
      stands =
          subst (λ (n : Incarnation). Stands n new) (ap (with_step was) made ∙ sym (step_moves sc h old.site i))
          (on was i stands.stands (made ∙ sym (made_is sc h was old i stands refl)));
    }

-- what a rise leaves is the log that it made
pub stands_risen : (s : SiteView) (log : List Record) → Stands (risen_with log) s → StandsRisen log s
stands_risen s log now = λ sc h weights risen.
    let m : Move = record { site = s.site; did = Rose risen.inc risen.records } in
    let all : log ≡ log_by risen.before ++ risen.records = risen.log_is ∙ ap log_by risen.last ∙ log_push risen.before m in
    let there : incarnation_of (moves_of sc h s.site) ≡ record { rose = log_by risen.before ++ risen.records; since = [] } =
    ap incarnation_of risen.last ∙ incarnation_push risen.before m
    ∙ ap (λ (l : List Record). record { rose = l ++ risen.records; since = [] }) (present_is_log risen.before) in
    record {
      weights_are = weights;
      site_is = refl;
      stands = subst (λ (n : Incarnation). Stands n s) (ap risen_with all ∙ sym there) now;
    }

-- what is open by the tables is open in each incarnation for which they stand
pub opens_are : (s : SiteView) (r : Result (List Txn) NoMemory)
    → IfOk r (λ txns. (site : ℕ) (life : Life) → TablesStand site life s.tables → txns ≡ open_in site life)
    → IfOk r (λ txns. (now : Incarnation) → Stands now s → txns ≡ open_in s.site (life_of now))
opens_are s (Ok txns) listed = λ now stands. listed s.site (life_of now) stands
opens_are s (Err e) listed = tt

-- what is open at the site is what is open in its history
pub lists_open : (s : SiteView) (r : Result (List Txn) NoMemory) → IfOk r (λ txns. (now : Incarnation) → Stands now s → txns ≡ open_in s.site (life_of now))
    → IfOk r (ListsOpen s)
lists_open s (Ok txns) listed = λ sc h stands. listed (incarnation_of (moves_of sc h s.site)) stands.stands
lists_open s (Err e) listed = tt
