-- A site that stands for a history by records that it rose with has a log in order, which reads as the history's.
use Rattle.std.proofs.Common.{◌≡◌, ◌∙◌, ◌∷◌, [], ℕ, List, fold, refl, sym, subst, ap}
use Rattle.std.specs.List.{AllByRecursion as Each}
use Rattle.e3_types.specs.declared.entries.Entry.{Entry}
use Rattle.e3_types.specs.declared.records.Record.{Record}
use Rattle.e3_types.specs.declared.scenarios.Scenario.{Scenario}
use Rattle.e3_world.specs.Brief.{txns_of}
use Rattle.e3_world.specs.Given.{IsGiven}
use Rattle.e3_world.specs.Legal.{IsLegal}
use Rattle.e3_world.specs.Lives.{incarnation_of, life_at, life_by, life_of, present_log}
use Rattle.e3_world.specs.Logs.{logged_inc}
use Rattle.e3_world.specs.Moves.{log_of, moves_of}
use Rattle.e3_world.specs.Orderly.{IsOrderly, weights_in}
use Rattle.e3_world.specs.declared.lives.Incarnation.{Incarnation}
use Rattle.e3_world.specs.declared.lives.Life.{Life}
use Rattle.e3_world.specs.declared.lives.SiteStep.{SiteStep}
use Rattle.e3_world.proofs.Pushes.{life_log, life_log_at, present_is_log}
use Rattle.e3_laws.specs.brief.Alike.{ReadAlike}
use Rattle.e3_world.specs.Transactions.{IsFoundByBits}
use Rattle.e3_laws.specs.brief.Incarnations.{AlikeNow, IsInOrder as IsInOrderNow}
use Rattle.e3_laws.proofs.brief.Alike.Laws.{logs_alike, orders_alike, turned_alike}
use Rattle.e3_laws.specs.serial.Orderly.{LogsAreOrderly}
use Rattle.e3_laws.specs.steps.Trails.{TrailsAreSound}
use Rattle.e3_site.specs.SiteView.{SiteView}
use Rattle.e3_site.specs.StandsAlike.{StandsAlike, now_with}
use Rattle.e3_site.specs.TableBrief.{IsInOrder}
use Rattle.e3_site.proofs.Legal.{in_order}

-- steps leave the incarnation of a life
inc_kept : (life : Life) (since : List SiteStep) → (fold life_by life since).inc ≡ life.inc
inc_kept life [] = refl
inc_kept life (s ∷ since) = inc_kept (life_by life s) since

pub in_order_alike : TrailsAreSound → LogsAreOrderly → (sc : Scenario) (h : List Entry) (site : ℕ) (rose : List Record) (s : SiteView) → IsGiven sc → IsLegal sc h →
    StandsAlike sc h site rose s → IsOrderly site rose →
    IsInOrder s.weights s.site (life_of (now_with rose sc h site)) × ReadAlike (log_of sc h site) (present_log (now_with rose sc h site))
in_order_alike sounds logs sc h site rose s given legal stands rose_orderly = (
  subst (λ (n : ℕ). IsInOrder s.weights n (life_of now)) (sym stands.site_is) (record {
    orderly = subst (λ (l : List Record). IsOrderly site l) (sym (life_log now)) in_now.orderly;
    weights_are = λ any.
        ap weights_in (life_log now) ∙ sym reads.weights ∙ ap weights_in (sym whole)
        ∙ all.weights_are (λ none. any (life_log now ∙ reads.empty (sym whole ∙ none))) ∙ sym stands.weights_are;
    inc_is =
        inc_kept _ now.since ∙ stands.alike.inc ∙ sym (inc_kept _ their.since) ∙ all.inc_is ∙ ap logged_inc whole ∙ reads.inc ∙ ap logged_inc (sym (life_log now));
    begun = λ zero. life_log now ∙ reads.empty (sym whole ∙ all.begun (ap logged_inc whole ∙ reads.inc ∙ ap logged_inc (sym (life_log now)) ∙ zero));
    known = subst (λ (l : List Record). Each IsFoundByBits (txns_of l)) (sym (life_log now)) in_now.known;
  }),
  reads,
)
  where
    now : Incarnation
    now = now_with rose sc h site

    their : Incarnation
    their = incarnation_of (moves_of sc h site)

    present : log_of sc h site ≡ present_log their
    present = sym (present_is_log (moves_of sc h site))

    all : IsInOrder sc.weights site (life_at (moves_of sc h site))
    all = in_order sounds logs sc h site given legal

    whole : (life_at (moves_of sc h site)).log ≡ log_of sc h site
    whole = life_log_at (moves_of sc h site)

    in_their : IsInOrderNow site their
    in_their = record {
      orderly = subst (λ (l : List Record). IsOrderly site l) (whole ∙ present) all.orderly;
      known = subst (λ (l : List Record). Each IsFoundByBits (txns_of l)) (whole ∙ present) all.known;
    }

    alike : AlikeNow their now
    alike = turned_alike now their (record { rose = stands.alike; since = refl })

    in_now : IsInOrderNow site now
    in_now = orders_alike site their now in_their rose_orderly alike

    reads : ReadAlike (log_of sc h site) (present_log now)
    reads = subst (λ (l : List Record). ReadAlike l (present_log now)) (sym present) (logs_alike site their now in_their.orderly alike)
