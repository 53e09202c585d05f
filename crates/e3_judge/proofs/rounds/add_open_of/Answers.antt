use Rattle.std.proofs.Common.{arith, ap, List, ◌∙◌, ◌≡◌, ◌<◌, length}
use Rattle.e3_world.specs.declared.lives.Incarnation.{Incarnation}
use Rattle.e3_world.specs.declared.lives.Life.{Life}
use Rattle.e3_world.specs.declared.lives.SiteStep.{SiteStep}
use Rattle.e3_readings.proofs.Counting.{life_steps}
use Rattle.e3_judge.proofs.rounds.add_open_of.Goals as goal

pub add_undecided_in-added-requires : goal.add_undecided_in-added-requires
add_undecided_in-added-requires c =
    let now : Incarnation = record { rose = c.as_slice.result.now; since = c.as_slice-2.result.now } in
    let steps : length c.in_ok-life.life.steps ≡ length c.as_slice-2.result.now = ap (λ (life : Life). length life.steps) c.in_ok-life.ensures ∙ life_steps now in
    let since : length c.as_slice-2.result.now ≡ length c.args.incarnation.now.since = ap (λ (l : List SiteStep). length l) c.as_slice-2.ensures in
    let count : c.len.result ≡ length c.args.incarnation.now.since = c.len.ensures in
    let room : c.len.result < 4000000000 = c.in_ok-count_on.ensures in
    omega (arith, steps, since, count, room)
