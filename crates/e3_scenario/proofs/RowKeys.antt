-- Rows of different keys, row by row beside the keys so far.
use Rattle.std.proofs.Common.{◌≡◌, ℕ, ◌+◌, ◌<◌, Bool, true, false, not, ◌&&◌, ◌||◌, cond, List, [], ◌∷◌, length, drop, get_or, refl, ap, ◌∙◌, arith}
use Rattle.std.specs.BTreeMap.{is_at}
use Rattle.std.specs.List.{list_any, list_all}
use Rattle.std.proofs.lemmas.Grind.{common_steps}
use Rattle.std.proofs.lemmas.List.{drop_more}
use Rattle.e3_types.specs.Same.{same_key}
use Rattle.e3_types.specs.declared.scenarios.KeyRow.{KeyRow}
use Rattle.e3_world.specs.Given.{rows_differ}
use Rattle.e3_scenario.specs.Indexes.{place_cmp, is_new}
use Rattle.e3_scenario.proofs.Indexes.{ties}

-- keys tie where they are the same
place_ties : (row other : KeyRow) → is_at (place_cmp (row.key.site, row.key.name)) (other.key.site, other.key.name) ≡ same_key row.key other.key
place_ties row other = let t = ties row.key.name other.key.name in grind (arith, common_steps, t)

-- none is among no keys
all_new : (rows : List KeyRow) → list_all (is_new []) rows ≡ true
all_new [] = refl
all_new (row ∷ rows) = all_new rows

pub rows_start : (rows : List KeyRow) → (list_all (is_new []) rows && rows_differ rows) ≡ rows_differ rows
rows_start rows = rw (all_new rows) refl

-- the keys with one more
abbrev pub IsMore : List (ℕ × List ℕ) → List (ℕ × List ℕ) → KeyRow → Type 0
IsMore places more row = (q : ℕ × List ℕ) → list_any (is_at (place_cmp q)) more ≡ cond (is_at (place_cmp (row.key.site, row.key.name)) q) true (list_any (is_at (place_cmp q)) places)

rest_new : (places more : List (ℕ × List ℕ)) (row : KeyRow) (rows : List KeyRow) → IsMore places more row
    → list_all (is_new more) rows ≡ (not (list_any (λ other. same_key row.key other.key) rows) && list_all (is_new places) rows)
rest_new places more row [] is = refl
rest_new places more row (other ∷ rows) is =
    let ih = rest_new places more row rows is in
    let here = is (other.key.site, other.key.name) in
    let same = place_ties row other in
    by (is_new more other) (list_all (is_new more) rows) (same_key row.key other.key) (list_any (λ x. same_key row.key x.key) rows)
    (list_any (is_at (place_cmp (other.key.site, other.key.name))) places) (list_all (is_new places) rows)
    (ap not (here ∙ ap (λ c. cond c true (list_any (is_at (place_cmp (other.key.site, other.key.name))) places)) same)) ih
  where
    by : (new news same sames old olds : Bool) → new ≡ not (cond same true old) → news ≡ (not sames && olds)
        → (new && news) ≡ (not (same || sames) && (not old && olds))
    by new news same sames old olds e f = grind (arith, common_steps, e, f)

-- the next row, of a new key
pub row_new : (places more : List (ℕ × List ℕ)) (rows : List KeyRow) (i : ℕ) (row : KeyRow) → i < length rows → row ≡ get_or rows i row → IsMore places more row
    → is_new places row ≡ true
    → (list_all (is_new more) (drop (i + 1) rows) && rows_differ (drop (i + 1) rows)) ≡ (list_all (is_new places) (drop i rows) && rows_differ (drop i rows))
row_new places more rows i row within is more' new =
    let rest = drop (i + 1) rows in
    rw (drop_more rows i row within, ← is, new, rest_new places more row rest more')
    (by (list_any (λ other. same_key row.key other.key) rest) (list_all (is_new places) rest) (rows_differ rest))
  where
    by : (any olds differ : Bool) → ((not any && olds) && differ) ≡ (olds && (not any && differ))
    by true true differ = refl
    by true false differ = refl
    by false true differ = refl
    by false false differ = refl
