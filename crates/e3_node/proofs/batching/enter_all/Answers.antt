use Rattle.std.proofs.Common.{List, sym, subst}
use Rattle.e3_node.specs.Several.{MayEnterAll}
use Rattle.e3_wire.specs.declared.marks.Mark.{Mark}
use Rattle.e3_node.proofs.Several.{entered_push, first_enters}
use Rattle.e3_node.proofs.batching.enter_all.Goals as goal

pub enter-requires : goal.enter-requires
enter-requires c =
    (first_enters c.loop-step.shared c.loop-step.step-iterator.rest.items c.next.new.self.rest.items c.in-Some.step c.in-Some.ensures.steps.0 c.loop-step.invariant.may).0

pub loop-step-preserved : goal.loop-step-preserved
loop-step-preserved c =
    let may = first_enters c.loop-step.shared c.loop-step.step-iterator.rest.items c.next.new.self.rest.items c.in-Some.step c.in-Some.ensures.steps.0 c.loop-step.invariant.may in
    let P : List Mark → Type 0 = λ l. MayEnterAll l c.next.new.self.rest.items in
    record {
      may = subst P (sym c.enter.ensures) may.1;
      entered = entered_push c.args.shared.now c.loop-step.shared c.enter.new.self c.loop-step.yielded c.in-Some.step c.loop-step.invariant.entered c.enter.ensures;
    }
