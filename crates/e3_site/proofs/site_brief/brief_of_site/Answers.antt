use Rattle.std.proofs.Common.{◌≡◌, ℕ, List, ap, sym, subst, ◌∙◌}
use Rattle.e3_site.specs.declared.past.tables.Tables.{Tables}
use Rattle.e3_site.specs.past.Standing.{TablesStand}
use Rattle.e3_world.specs.declared.lives.Incarnation.{Incarnation}
use Rattle.e3_world.specs.declared.lives.Life.{Life}
use Rattle.e3_world.specs.Lives.{life_at, life_of, present_log}
use Rattle.e3_world.specs.Moves.{Move, log_of, moves_of}
use Rattle.e3_world.proofs.Pushes.{life_log, life_log_at}
use Rattle.e3_world.specs.Brief.{brief}
use Rattle.e3_site.specs.TableBrief.{IsInOrder}
use Rattle.e3_laws.specs.brief.Alike.{ReadAlike}
use Rattle.e3_laws.proofs.brief.Laws.{same_brief}
use Rattle.e3_site.specs.StandsAlike.{now_with}
use Rattle.e3_site.proofs.AlikeTables.{in_order_alike}
use Rattle.e3_site.proofs.Legal.{in_order}
use Rattle.e3_site.proofs.site_brief.brief_of_site.Goals as goal
use Rattle.e3_site.proofs.site_brief.brief_of_site.Goals.{In_ok-brief}

told : (c : In_ok-brief) (life : Life) → TablesStand c.args.site.now.site life c.args.site.now.tables → IsInOrder c.args.site.now.weights c.args.site.now.site life
    → c.in_ok-brief.brief ≡ brief life.log
told c life stand order =
    let s = c.args.site.now in
    c.in_ok-brief.ensures.brief life
    (subst (λ (n : ℕ). TablesStand n life c.tables.result.now) (sym c.site.ensures) (subst (λ (t : Tables). TablesStand s.site life t) (sym c.tables.ensures) stand))
    (subst (λ (w : List ℕ). IsInOrder w c.site.result life) (sym c.weights.ensures) (subst (λ (n : ℕ). IsInOrder s.weights n life) (sym c.site.ensures) order))

pub returns-clause-now : goal.returns-clause-now
returns-clause-now c = λ now stand order. told c (life_of now) stand order ∙ ap brief (life_log now)

pub returns-clause-stands : goal.returns-clause-stands
returns-clause-stands c = λ sc history given legal stands.
    let s = c.args.site.now in
    let mine : List Move = moves_of sc history s.site in
    let order : IsInOrder sc.weights s.site (life_at mine) =
    in_order c.trails_are_sound.ensures.sound c.logs_are_orderly.ensures.logs sc history s.site given legal in
    told c (life_at mine) stands.stands (subst (λ (w : List ℕ). IsInOrder w s.site (life_at mine)) (sym stands.weights_are) order) ∙ ap brief (life_log_at mine)

pub returns-clause-alike : goal.returns-clause-alike
returns-clause-alike c = λ sc history rose given legal orderly stands.
    let s = c.args.site.now in
    let now : Incarnation = now_with rose sc history s.site in
    let both : IsInOrder s.weights s.site (life_of now) × ReadAlike (log_of sc history s.site) (present_log now) =
    in_order_alike c.trails_are_sound.ensures.sound c.logs_are_orderly.ensures.logs sc history s.site rose s given legal stands orderly in
    told c (life_of now) stands.stands both.0 ∙ ap brief (life_log now) ∙ sym (same_brief (log_of sc history s.site) (present_log now) both.1)
