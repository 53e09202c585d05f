use Rattle.std.proofs.Common.{rules, ◌≡◌, None, subst, ℕ}
use Rattle.std.specs.Prelude.{MatchOption, Option}
use Rattle.atomic_table.specs.Table.{Me}
use Rattle.e3_turn.specs.declared.view.View.{View}
use Rattle.e3_turn.specs.Steps.{Took}
use Rattle.e3_turn.proofs.lock.TurnLock.look_on.Goals as goal

pub returns-then-is_none-clause-told : goal.returns-then-is_none-clause-told
returns-then-is_none-clause-told g c =
    let none : c.look.result ≡ None = search rules in
    let P : Option ℕ → Type 0 = λ o. MatchOption o (Took g.V.Chronicle.marks g.V.Chronicle.belongs c.loop.pass.me c.look.new.pass.me) (λ _. c.look.new.pass.me ≡ c.loop.pass.me) in
    subst (λ (m : Me (Option g.row.V.Denot) (View g.row.V-Mark.Denot)). Took g.V.Chronicle.marks g.V.Chronicle.belongs m c.look.new.pass.me) c.loop.invariant.1
    (subst P none c.look.ensures.told)

pub returns-clause-told : goal.returns-clause-told
returns-clause-told g c =
    let Q : Me (Option g.row.V.Denot) (View g.row.V-Mark.Denot) → Type 0 = λ m. MatchOption c.look-2.result (Took g.V.Chronicle.marks g.V.Chronicle.belongs m c.look-2.new.pass.me) (λ _. c.look-2.new.pass.me ≡ m) in
    subst Q c.loop.invariant.1 c.look-2.ensures.told
