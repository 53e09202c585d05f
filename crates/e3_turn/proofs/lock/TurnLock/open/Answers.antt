use Rattle.std.proofs.Common.{rules, sym, subst, ap, arith, [], ◌∷◌, List}
use Rattle.std.specs.Prelude.{Option}
use Rattle.atomic_table.specs.Table.{opening}
use Rattle.e3_turn.specs.Rule.{Holds, newcomer}
use Rattle.e3_turn.proofs.Owners.{rests_new}
use Rattle.e3_turn.proofs.Tickets.{opens}
use Rattle.e3_turn.proofs.lock.TurnLock.open.Goals as goal

pub new-requires : goal.new-requires
new-requires g c =
    subst (λ (l : List (Option g.row.V.Denot)). Holds g.V.Chronicle.marks g.V.Chronicle.belongs c.args.owners (opening (0 ∷ 0 ∷ []) l (newcomer c.args.owners (g.V.Chronicle.marks c.of.result.value))))
    (sym c.in_ok-slots.ensures)
    (opens _ _ c.args.owners c.args.value _ (omega (arith, c.ranges.owners.fits)) (ap g.V.Chronicle.marks (sym c.of.ensures)))

pub returns-in-Ok-clause-idle : goal.returns-in-Ok-clause-idle
returns-in-Ok-clause-idle g c = record { of_lock = search rules; rests = rests_new g.V.Chronicle.marks g.V.Chronicle.belongs c.args.owners _ _ c.in-Ok.ensures.ok.4 }
