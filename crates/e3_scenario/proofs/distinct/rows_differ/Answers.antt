use Rattle.std.proofs.Common.{◌≡◌, ℕ, ◌<◌, true, not, cond, length, List, get_or, sym, ◌∙◌, subst, rules}
use Rattle.std.specs.List.{list_any}
use Rattle.std.specs.BTreeMap.{is_at}
use Rattle.e3_scenario.specs.Indexes.{place_cmp}
use Rattle.e3_scenario.proofs.RowKeys.{rows_start, row_new}
use Rattle.e3_scenario.proofs.distinct.rows_differ.Goals as goal

pub loop-row-init : goal.loop-row-init
loop-row-init c = rw c.new-seen.ensures.empty (rows_start c.args.rows.now)

pub loop-row-preserved : goal.loop-row-preserved
loop-row-preserved c =
    let places = c.loop-row.seen.keys in
    let more = c.insert.new.self.keys in
    let row = c.row-item.result in
    let More : List ℕ → Type 0 = λ name. (q : ℕ × List ℕ) → list_any (is_at (place_cmp q)) more ≡ cond (is_at (place_cmp (row.key.site, name)) q) true (list_any (is_at (place_cmp q)) places) in
    let New : List ℕ → Type 0 = λ name. not (list_any (is_at (place_cmp (row.key.site, name))) places) ≡ true in
    let new = subst New c.copy.ensures (sym c.in-Ok-true.ensures.added ∙ c.in-Ok-true.field-0-test) in
    let within : c.loop-row.row-index < length c.args.rows.now = search rules in
    let item : row ≡ get_or c.args.rows.now c.loop-row.row-index row = search rules in
    row_new places more c.args.rows.now c.loop-row.row-index row within item (subst More c.copy.ensures c.in-Ok-true.ensures.updates.0) new
    ∙ c.loop-row.invariant
