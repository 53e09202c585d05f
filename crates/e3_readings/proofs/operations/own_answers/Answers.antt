use Rattle.std.proofs.Common.{arith, ap, List, subst, sym, ◌∙◌, ◌≤◌, length}
use Rattle.e3_world.specs.declared.lives.Performed.{Performed}
use Rattle.e3_readings.specs.Expecting.{own_expected}
use Rattle.e3_readings.proofs.Counting.{done_are_few}
use Rattle.e3_readings.proofs.Expecting.{own_is}
use Rattle.e3_readings.proofs.operations.own_answers.Goals as goal

pub own_expected-requires : goal.own_expected-requires
own_expected-requires c =
    let few = done_are_few c.args.coordinator c.args.t.now c.args.steps.now in
    subst (λ (ps : List Performed). length ps ≤ 4294967295) (sym (c.as_slice.ensures ∙ c.in_ok-answered.ensures)) (omega (arith, few, c.requires))

pub returns : goal.returns
returns c =
    c.own_expected.ensures
    ∙ ap (λ (ps : List Performed). own_expected c.args.inc ps) (c.as_slice.ensures ∙ c.in_ok-answered.ensures)
    ∙ own_is c.args.coordinator c.args.inc c.args.t.now c.args.steps.now
