-- What a site that stands for an alike incarnation does, and that it goes on standing so.
use Rattle.std.proofs.Common.{◌≡◌, ◌++◌, ◌∷◌, [], ℕ, List, refl, sym, ap, subst, ◌∙◌}
use Rattle.std.specs.List.{AllByRecursion as Each}
use Rattle.e3_types.specs.declared.entries.Entry.{Entry}
use Rattle.e3_types.specs.declared.entries.Input.{Input}
use Rattle.e3_types.specs.declared.records.Record.{Record}
use Rattle.e3_types.specs.declared.scenarios.Scenario.{Scenario}
use Rattle.e3_world.specs.declared.lives.Incarnation.{Incarnation}
use Rattle.e3_world.specs.declared.lives.Made.{Made}
use Rattle.e3_world.specs.Legal.{entry_of, made_by}
use Rattle.e3_world.specs.Lives.{incarnation_of, life_of, present_log}
use Rattle.e3_world.specs.Moves.{Move, Past, Rose, log_by, log_of, moves_of, own_entries, past_of}
use Rattle.e3_world.specs.Steps.{step_of}
use Rattle.e3_world.proofs.Numbers.{entered_move}
use Rattle.e3_world.proofs.Pushes.{incarnation_push, log_push, past_push, present_is_log}
use Rattle.e3_world.proofs.Readings.{own_same}
use Rattle.e3_world.proofs.Turns.{self}
use Rattle.e3_readings.specs.Opens.{open_in}
use Rattle.e3_laws.specs.brief.Alike.{ReadAlike}
use Rattle.e3_world.specs.Brief.{txns_of}
use Rattle.e3_world.specs.Orderly.{IsOrderly}
use Rattle.e3_world.specs.Transactions.{IsFoundByBits}
use Rattle.e3_laws.specs.brief.Incarnations.{AlikeNow, IsInOrder}
use Rattle.e3_laws.proofs.brief.Alike.Laws.{opens_alike, rises_alike, self_alike, steps_alike, turned_alike}
use Rattle.e3_site.specs.AlikeLaws.{ExactIsAlike, GoesOnAlike, ListsOpenAlike, PlansAlike, RisesAlike, StillAlike}
use Rattle.e3_site.specs.StandsAlike.{IsLogInOrder, StandsAlike, now_with}
use Rattle.e3_site.specs.SiteView.{SiteView, Stands, risen_with, step_kept, with_step}

-- the incarnation that a site's moves make
abbrev theirs : Scenario → List Entry → ℕ → Incarnation
theirs sc h site = incarnation_of (moves_of sc h site)

-- its log at present is the site's
log_is : (sc : Scenario) (h : List Entry) (site : ℕ) → log_of sc h site ≡ present_log (theirs sc h site)
log_is sc h site = sym (present_is_log (moves_of sc h site))

in_order : (sc : Scenario) (h : List Entry) (site : ℕ) → IsLogInOrder site (log_of sc h site) → IsInOrder site (theirs sc h site)
in_order sc h site order = record {
  orderly = subst (λ (l : List Record). IsOrderly site l) (log_is sc h site) order.orderly;
  known = subst (λ (l : List Record). Each IsFoundByBits (txns_of l)) (log_is sc h site) order.known;
}

-- the incarnation of the value is alike to the site's
alike_now : (sc : Scenario) (h : List Entry) (site : ℕ) (rose : List Record) (s : SiteView) → StandsAlike sc h site rose s → AlikeNow (now_with rose sc h site) (theirs sc h site)
alike_now sc h site rose s stands = record { rose = stands.alike; since = refl }

pub exact : ExactIsAlike
exact sc h site s stands = record {
  weights_are = stands.weights_are;
  site_is = stands.site_is;
  stands = stands.stands;
  alike = (self_alike (theirs sc h site)).rose;
}

pub rises : RisesAlike
rises sc h site s records log weights number stands risen mine others same =
    let m : Move = record { site = site; did = Rose risen.inc risen.records } in
    let all : log ≡ log_by risen.before ++ risen.records = risen.log_is ∙ ap log_by risen.last ∙ log_push risen.before m in
    let there : theirs sc h site ≡ record { rose = log_by risen.before ++ risen.records; since = [] } =
    ap incarnation_of risen.last ∙ incarnation_push risen.before m
    ∙ ap (λ (l : List Record). record { rose = l ++ risen.records; since = [] }) (present_is_log risen.before) in
    let is : risen_with log ≡ theirs sc h site = ap risen_with all ∙ sym there in
    record {
      weights_are = weights;
      site_is = number;
      stands = subst (λ (n : Incarnation). Stands (record { rose = records; since = n.since }) s) is stands;
      alike = subst (λ (n : Incarnation). ReadAlike records n.rose) is (rises_alike site records log mine others same).rose;
    }

pub plans : PlansAlike
plans sc h site rose s i stands order =
    let now : Incarnation = now_with rose sc h site in
    ap (λ (ws : List ℕ). step_kept i (step_of ws s.site now i)) stands.weights_are
    ∙ ap (λ (n : ℕ). step_kept i (step_of sc.weights n now i)) stands.site_is
    ∙ ap (λ (made : Made). step_kept i made)
    (sym (steps_alike sc.weights site (theirs sc h site) now i (in_order sc h site order) (turned_alike now (theirs sc h site) (alike_now sc h site rose s stands))))

pub opens : ListsOpenAlike
opens sc h site rose s stands orderly =
    let now : Incarnation = now_with rose sc h site in
    ap (λ (n : ℕ). open_in n (life_of now)) stands.site_is
    ∙ sym (opens_alike site (theirs sc h site) now
    (subst (λ (l : List Record). IsOrderly site l) (log_is sc h site) orderly) (turned_alike now (theirs sc h site) (alike_now sc h site rose s stands)))

pub still : StillAlike
still sc h k site rose old new stands same weights number on = record {
  weights_are = weights ∙ stands.weights_are;
  site_is = number ∙ stands.site_is;
  stands = subst (λ (ms : List Move). Stands (record { rose = rose; since = (incarnation_of ms).since }) new) same on;
  alike = subst (λ (ms : List Move). ReadAlike rose (incarnation_of ms).rose) same stands.alike;
}

-- behind the entry of a step the site's incarnation has that step
step_moves : (sc : Scenario) (h : List Entry) (site : ℕ) (i : Input) →
    theirs sc (h ++ entry_of sc h site i ∷ []) site ≡ with_step (theirs sc h site) (step_kept i (made_by sc h site i))
step_moves sc h site i =
    ap (λ l. incarnation_of (past_of sc site l).moves) (own_same site h (entry_of sc h site i) (self site))
    ∙ ap (λ (p : Past). incarnation_of p.moves) (past_push sc site (own_entries site h) (entry_of sc h site i))
    ∙ ap (λ ms. incarnation_of (moves_of sc h site ++ ms)) (entered_move sc h site i)
    ∙ incarnation_push (moves_of sc h site) _

pub on : GoesOnAlike
on sc h site rose i old new step stands made weights number behind =
    let is : with_step (theirs sc h site) step ≡ theirs sc (h ++ entry_of sc h site i ∷ []) site =
    ap (with_step (theirs sc h site)) made ∙ sym (step_moves sc h site i) in
    record {
      weights_are = weights ∙ stands.weights_are;
      site_is = number ∙ stands.site_is;
      stands = subst (λ (n : Incarnation). Stands (record { rose = rose; since = n.since }) new) is behind;
      alike = subst (λ (n : Incarnation). ReadAlike rose n.rose) is stands.alike;
    }
