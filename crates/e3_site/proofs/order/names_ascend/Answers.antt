use Rattle.std.proofs.Common.{◌≡◌, ◌∷◌, [], ◌-◌, ◌≤◌, List, length, drop, true, refl, sym, ◌∙◌, arith, length-drop}
use Rattle.e3_types.specs.declared.transactions.Row.{Row}
use Rattle.e3_world.specs.Orderly.{names_ascend}
use Rattle.e3_site.proofs.order.names_ascend.Goals as goal

one_ascends : (rows : List Row) → length rows ≤ 1 → names_ascend rows ≡ true
one_ascends [] h = refl
one_ascends (row ∷ []) h = refl
one_ascends (row ∷ next ∷ rows) h = absurd (omega arith)

pub returns : goal.returns
returns c = sym (c.loop-i.invariant ∙ one_ascends (drop (c.loop-i.i - 1) c.args.rows.now) (omega (arith, length-drop (c.loop-i.i - 1) c.args.rows.now)))
