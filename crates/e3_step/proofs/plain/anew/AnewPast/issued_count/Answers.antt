use Rattle.std.proofs.Common.{arith, ap, subst, sym, ℕ, List, ◌∙◌, ◌≡◌, ◌<◌, length}
use Rattle.e3_types.specs.declared.transactions.Op.{Op}
use Rattle.e3_world.specs.declared.lives.Moment.{Moment}
use Rattle.e3_world.specs.Operations.{issued}
use Rattle.e3_readings.proofs.Counting.{issued_are_few}
use Rattle.e3_step.proofs.plain.anew.AnewPast.issued_count.Goals as goal

pub returns-clause-few : goal.returns-clause-few
returns-clause-few c =
    let steps = c.self.inside.place.life.steps in
    let few = issued_are_few c.args.t.now steps in
    let is : c.len.result ≡ length (issued c.args.t.now steps) =
    c.len.ensures ∙ ap (λ (ops : List Op). length ops) c.in_ok-ops.ensures
    ∙ ap (λ (ms : List Moment). length (issued c.args.t.now ms)) c.as_slice.ensures in
    subst (λ (n : ℕ). n < 4294967295) (sym is) (omega (arith, few, c.self.invariant))
