use Rattle.std.proofs.Common.{arith, ap, subst, sym, ℕ, ◌≤◌, ◌<◌, length, take}
use Rattle.std.proofs.lemmas.Grind.{common_steps}
use Rattle.e3_world.specs.Gatherings.{Elections}
use Rattle.e3_readings.proofs.Counting.{calls_are_few}
use Rattle.e3_readings.proofs.elections.election_in_progress.Goals as goal

pub election_by-requires : goal.election_by-requires
election_by-requires c =
    let few = calls_are_few c.args.site c.args.inc c.args.t.now (take c.loop-m.m-index c.args.steps.now) in
    let short : length (take c.loop-m.m-index c.args.steps.now) ≤ c.loop-m.m-index = grind (arith, common_steps) in
    subst (λ (n : ℕ). n < 4294967295) (sym (ap (λ (e : Elections). e.calls) c.loop-m.invariant)) (omega (arith, few, short, c.loop-m-test.true, c.requires))
