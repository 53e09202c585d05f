-- the numbers ascend
use Rattle.std.proofs.Common.{◌≡◌, ◌++◌, ◌∷◌, [], sym, subst, true, List}
use Rattle.e3_types.specs.declared.transactions.NumOp.{NumOp}
use Rattle.e3_tables.specs.Work.{Noted}
use Rattle.std.specs.Prelude.{nat_lt}
use Rattle.std.specs.List.{list_all}
use Rattle.std.specs.Result.{is_ok}
use Rattle.e3_tables.proofs.Rows.{ascend_more, either_ascends}
use Rattle.e3_tables.proofs.workspace.Workspace.note.Goals as goal

pub invariant_of-self : goal.invariant_of-self
invariant_of-self c =
    let ops : List NumOp = c.self.inside.ops.items in
    let new : NumOp = c.args.op in
    let above : list_all (λ o. nat_lt o.n new.n) ops ≡ true = subst (λ (v : Noted). list_all (λ o. nat_lt o.n new.n) v.ops ≡ true) (sym c.self.view_is) c.requires in
    either_ascends (is_ok c.push.result) (ops ++ new ∷ []) ops c.push.new.self.items c.push.ensures.items (ascend_more ops new c.self.invariant above) c.self.invariant
