use Rattle.std.proofs.Common.{arith, subst, sym, ◌≤◌, ◌<◌, length, take}
use Rattle.std.proofs.lemmas.Grind.{common_steps}
use Rattle.e3_world.specs.declared.lives.Expected.{Expected}
use Rattle.e3_readings.proofs.Counting.{expected_are_few}
use Rattle.e3_readings.proofs.operations.expected.Goals as goal

pub expected_by-e-requires : goal.expected_by-e-requires
expected_by-e-requires c =
    let few = expected_are_few c.args.t.now c.args.site (take c.loop-m.m-index c.args.steps.now) in
    let short : length (take c.loop-m.m-index c.args.steps.now) ≤ c.loop-m.m-index = grind (arith, common_steps) in
    subst (λ (e : Expected). e.count < 4294967295) (sym c.loop-m.invariant) (omega (arith, few, short, c.loop-m-test.true, c.requires))
