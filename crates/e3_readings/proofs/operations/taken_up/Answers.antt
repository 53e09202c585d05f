use Rattle.std.proofs.Common.{arith, ap, ℕ, List, subst, sym, ◌∙◌, ◌<◌}
use Rattle.e3_types.specs.declared.entries.Told.{Told}
use Rattle.e3_readings.specs.Bringing.{brought, issued_before}
use Rattle.e3_readings.proofs.Bringing.{taken_is}
use Rattle.e3_readings.proofs.Counting.{before_are_few}
use Rattle.e3_readings.proofs.operations.taken_up.Goals as goal

pub brought-requires : goal.brought-requires
brought-requires c =
    let few = before_are_few c.args.m.now.input c.args.steps.now in
    subst (λ (n : ℕ). n < 4294967295) (sym c.in_ok-before.ensures) (omega (arith, few, c.requires))

pub returns : goal.returns
returns c =
    let m = c.args.m.now in
    c.brought.ensures
    ∙ ap (λ (n : ℕ). brought c.args.site n m.input c.as_slice.result.now) c.in_ok-before.ensures
    ∙ ap (λ (events : List Told). brought c.args.site (issued_before m.input c.args.steps.now) m.input events) c.as_slice.ensures
    ∙ sym (taken_is c.args.site c.args.steps.now m)
