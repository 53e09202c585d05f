-- The test of a Done, which the search leaves under the definition's own match.
use Rattle.std.proofs.Common.{arith, refl, ◌≡◌, ◌&&◌, true, false}
use Rattle.std.proofs.lemmas.Grind.{common_steps}
use Rattle.std.specs.List.{list_any}
use Rattle.e3_types.specs.Same.{same_txn}
use Rattle.e3_world.specs.Operations.{tells_op}
use Rattle.e3_readings.proofs.operations.expected_with.Goals as goal

pub returns-then-tells_own : goal.returns-then-tells_own
returns-then-tells_own c =
    let own : (same_txn c.args.t.now c.in-Done.txn && list_any (tells_op c.args.t.now c.in-Done.n) c.args.events.now) ≡ true =
    grind (arith, common_steps) in
    rw (c.in-Done.is, own) c.one_more.ensures

pub returns-else-tells_own : goal.returns-else-tells_own
returns-else-tells_own c =
    let own : (same_txn c.args.t.now c.in-Done.txn && list_any (tells_op c.args.t.now c.in-Done.n) c.args.events.now) ≡ false =
    grind (arith, common_steps) in
    rw (c.in-Done.is, own) refl
