-- the row that was searched for
use Rattle.std.proofs.Common.{◌≡◌, ◌∙◌, ap, sym, subst, ℕ, List}
use Rattle.e3_types.specs.declared.transactions.Row.{Row}
use Rattle.e3_world.specs.Logs.{row_value}
use Rattle.e3_types.specs.Sorted.{IsAt, IsGap}
use Rattle.e3_tables.specs.Work.{TableRows}
use Rattle.e3_types.specs.declared.transactions.Answer.TheVariants.{Value}
use Rattle.e3_types.proofs.Edits.{get_parts}
use Rattle.e3_tables.proofs.Rows.{row_name, value_found, value_gap}
use Rattle.e3_tables.proofs.tables.Tables.value.Goals as goal

pub returns-in-Ok : goal.returns-in-Ok
returns-in-Ok c =
    let items : List Row = c.self.inside.rows.items in
    let n : List ℕ = c.args.name.now in
    let a : IsAt row_name n items c.in-Ok.at = subst (λ (l : List Row). IsAt row_name n l c.in-Ok.at) c.deref.ensures.value c.in-Ok.ensures in
    let here : c.index.result.now ≡ a.here = c.index.ensures ∙ get_parts items a.before a.behind c.in-Ok.at a.here c.index.result.now a.parts a.place in
    ap (λ (v : TableRows). row_value n v.rows) (sym c.self.view_is) ∙ ap (λ (l : List Row). row_value n l) a.parts
    ∙ value_found n a.before a.behind a.here a.under a.named ∙ ap (λ (r : Row). Value r.val) (sym here)

pub returns-in-Err : goal.returns-in-Err
returns-in-Err c =
    let items : List Row = c.self.inside.rows.items in
    let n : List ℕ = c.args.name.now in
    let a : IsGap row_name n items c.in-Err.field-0 = subst (λ (l : List Row). IsGap row_name n l c.in-Err.field-0) c.deref.ensures.value c.in-Err.ensures in
    ap (λ (v : TableRows). row_value n v.rows) (sym c.self.view_is) ∙ ap (λ (l : List Row). row_value n l) a.parts
    ∙ value_gap n a.before a.behind a.under a.over
