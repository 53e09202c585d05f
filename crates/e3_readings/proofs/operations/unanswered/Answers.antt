use Rattle.std.proofs.Common.{arith, rules, ap, subst, sym, ℕ, List, ◌∙◌, ◌≤◌, length}
use Rattle.e3_types.specs.declared.transactions.Op.{Op}
use Rattle.e3_readings.proofs.Counting.{issued_are_few}
use Rattle.e3_readings.proofs.operations.unanswered.Goals as goal

pub overflow_cast-n : goal.overflow_cast-n
overflow_cast-n c =
    let few = issued_are_few c.args.t.now c.args.steps.now in
    let is : c.len-n.result ≤ 4294967295 =
    subst (λ (n : ℕ). n ≤ 4294967295) (sym (c.len-n.ensures ∙ ap (λ (ops : List Op). length ops) c.in_ok-ops.ensures)) (omega (arith, few, c.requires)) in
    grind (arith, rules)
