use Rattle.std.proofs.Common.{subst}
use Rattle.atomic_table.specs.Table.{Me}
use Rattle.std.specs.Prelude.{Option}
use Rattle.e3_turn.specs.declared.view.View.{View}
use Rattle.e3_turn.specs.Steps.{Took}
use Rattle.e3_turn.proofs.lock.TurnLock.wait.Goals as goal

pub returns-in-None-look_on-clause-turn : goal.returns-in-None-look_on-clause-turn
returns-in-None-look_on-clause-turn g c =
    subst (λ (m : Me (Option g.row.V.Denot) (View g.row.V-Mark.Denot)). Took g.V.Chronicle.marks g.V.Chronicle.belongs m c.look_on.new.pass.me) c.loop.invariant.1 c.in-None-look_on.ensures.told
