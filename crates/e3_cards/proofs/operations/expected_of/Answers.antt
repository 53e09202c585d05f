use Rattle.std.proofs.Common.{arith, ap, List, subst, sym, ◌≡◌, ◌≤◌, ◌<◌, length, take}
use Rattle.std.proofs.lemmas.Grind.{common_steps}
use Rattle.e3_world.specs.declared.lives.Expected.{Expected}
use Rattle.e3_cards.specs.declared.card.Counted.{Counted}
use Rattle.e3_cards.proofs.Countable.{expected_are_few}
use Rattle.e3_cards.proofs.operations.expected_of.Goals as goal

pub expect_by-e-requires : goal.expect_by-e-requires
expect_by-e-requires c =
    let cs = c.counted_of-c-items.result.now in
    let few = expected_are_few c.args.site (record { inc = 0; count = 0 }) (take c.loop-c.c-index cs) in
    let short : length (take c.loop-c.c-index cs) ≤ c.loop-c.c-index = grind (arith, common_steps) in
    let all : length cs ≡ _ = ap (λ (l : List Counted). length l) c.counted_of-c-items.ensures in
    subst (λ (e : Expected). e.count < 4294967295) (sym c.loop-c.invariant) (omega (arith, few, short, c.loop-c-test.true, all, c.requires))
