use Rattle.std.proofs.Common.{◌++◌, ◌+◌, map, ap, ◌∙◌}
use Rattle.e3_gen.specs.declared.draws.TxnWords.{TxnWords}
use Rattle.e3_gen.specs.Generated.{step_of}
use Rattle.e3_gen.specs.Items.{items_of}
use Rattle.e3_gen.proofs.Growing.{next_generator, next_steps}
use Rattle.e3_gen.proofs.making.steps_of.Goals as goal

pub loop-before-preserved : goal.loop-before-preserved
loop-before-preserved c =
    let i = c.loop-before.invariant in (
      c.draw_txn-words.ensures.behind ∙ next_generator c.args.n c.loop-before.before c.loop-before.generator i.0,
      c.in_ok-add_txn.ensures
          ∙ ap (λ (w : TxnWords). c.loop-before.steps ++ map step_of (items_of (c.loop-before.before + 1) w)) c.draw_txn-words.ensures.value
          ∙ next_steps c.args.n c.loop-before.before c.loop-before.generator c.loop-before.steps i.0 i.1,
    )
