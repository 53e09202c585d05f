-- The first rows of a site have ascending names.
use Rattle.std.proofs.Common.{◌≡◌, ◌==◌, ◌∷◌, [], ℕ, Bool, true, false, List, refl}
use Rattle.e3_types.specs.declared.scenarios.KeyRow.{KeyRow}
use Rattle.e3_world.specs.Moves.{rows_at}
use Rattle.e3_world.specs.Orderly.{names_ascend}
use Rattle.e3_laws.proofs.steps.Rows.{set_ascends}

pub rows_ascend : (site : ℕ) (rows : List KeyRow) → names_ascend (rows_at site rows) ≡ true
rows_ascend site [] = refl
rows_ascend site (row ∷ rows) = by (row.key.site == site) refl (rows_ascend site rows)
  where
    by : (b : Bool) → (row.key.site == site) ≡ b → names_ascend (rows_at site rows) ≡ true → names_ascend (rows_at site (row ∷ rows)) ≡ true
    by true is more = rw is (set_ascends (record { name = row.key.name; val = row.val }) (rows_at site rows) more)
    by false is more = rw is more
