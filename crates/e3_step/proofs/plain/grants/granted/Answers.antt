use Rattle.std.proofs.Common.{◌++◌, ◌∙◌, ap, sym, List, arith}
use Rattle.e3_world.specs.declared.lives.Asked.{Asked}
use Rattle.e3_world.specs.Making.{granted_on}
use Rattle.e3_step.proofs.plain.Pieces.{flat_more}
use Rattle.e3_step.proofs.plain.grants.granted.Goals as goal

pub loop-name-preserved : goal.loop-name-preserved
loop-name-preserved c =
    c.in_ok-add_granted.ensures
    ∙ ap (λ (out : List Asked). out ++ granted_on c.args.a.now c.args.made.now c.args.asked.now c.name-item.result) c.loop-name.invariant
    ∙ sym (flat_more (granted_on c.args.a.now c.args.made.now c.args.asked.now) c.as_slice-name-items.result.now c.loop-name.name-index c.name-item.result (omega arith) c.name-item.is)
