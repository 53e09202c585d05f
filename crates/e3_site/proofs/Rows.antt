-- The rows of a site's tables are those of the table of its log.
use Rattle.std.proofs.Common.{◌≡◌, ◌++◌, ◌∷◌, [], ℕ, true, false, List, Some, refl, ap, sym, ◌∙◌, map}
use Rattle.std.specs.Prelude.{unwrap_or, Option}
use Rattle.std.specs.BTreeMap.{is_at}
use Rattle.std.specs.Cmp.Lexicographic.{slice_cmp, nat_list_cmp_total}
use Rattle.std.specs.List.{flat_map, AllByRecursion as Each}
use Rattle.std.specs.List.Sorted.{IsStrictlySortedBy}
use Rattle.std.specs.Map.{keys_of, lookup}
use Rattle.std.specs.Ordering.{nat_cmp, is_eq, match_ordering, ordering_reverse}
use Rattle.std.specs.declared.cmp.Ordering.{Ordering}
use Rattle.std.specs.declared.cmp.Ordering.TheVariants.{Less, Equal, Greater}
use Rattle.std.proofs.lemmas.Bool.{and_parts, or_parts}
use Rattle.std.proofs.lemmas.Map.Lookups.{exact_bytes}
use Rattle.std.proofs.lemmas.Map.Text.{is_eq-slice_cmp}
use Rattle.e3_types.specs.declared.transactions.Answer.TheVariants.{Absent, Value}
use Rattle.e3_types.specs.declared.transactions.Row.{Row}
use Rattle.e3_types.specs.Same.{same_numbers}
use Rattle.e3_types.proofs.Orders.{pointwise_same}
use Rattle.e3_types.proofs.SameSites.{same_numbers_refl}
use Rattle.e3_world.specs.declared.lives.Life.{Life}
use Rattle.e3_world.specs.Logs.{row_value, table_of}
use Rattle.e3_world.specs.Orderly.{names_ascend}
use Rattle.e3_places.specs.declared.places.Place.{Place}
use Rattle.e3_places.specs.Keeping.{at_name, bare, place_at}
use Rattle.e3_places.specs.Standing.{place_of}
use Rattle.e3_site.specs.TableBrief.{row_at, row_in}
use Rattle.e3_site.proofs.Merging.{Ascending, Below, among, below_more, covers_all, flat_keys, none_at, same_given, sorted_ascends}

abbrev cmp : List ℕ → List ℕ → Ordering
cmp = slice_cmp nat_cmp

abbrev names_of : List Row → List (List ℕ)
names_of rows = map (λ (r : Row). r.name) rows

-- names tie where they are the same
ties : (xs ys : List ℕ) → is_at (cmp xs) ys ≡ same_numbers xs ys
ties xs ys = is_eq-slice_cmp xs ys ∙ pointwise_same xs ys

-- rows whose names ascend one by one
is_less : (o : Ordering) → match_ordering o true false false ≡ true → o ≡ Less
is_less Less is = refl
is_less Equal is = absurd cc
is_less Greater is = absurd cc

ascending : (rows : List Row) → names_ascend rows ≡ true → Ascending cmp (names_of rows)
ascending [] up = tt
ascending (row ∷ []) up = (tt, tt)
ascending (row ∷ next ∷ more) up =
    let p = and_parts (match_ordering (cmp row.name next.name) true false false) (names_ascend (next ∷ more)) up in
    let less : cmp row.name next.name ≡ Less = is_less (cmp row.name next.name) p.0 in
    let rest = ascending (next ∷ more) p.1 in
    ((less, below_more nat_list_cmp_total row.name next.name (names_of more) less rest.0), rest)

-- each row has its value
values_behind : (row : Row) (rows xs : List Row) → Below cmp row.name (names_of xs) → Each (λ x. row_value x.name rows ≡ Value x.val) xs
    → Each (λ x. row_value x.name (row ∷ rows) ≡ Value x.val) xs
values_behind row rows [] b each = tt
values_behind row rows (x ∷ xs) b each =
    let other : same_numbers x.name row.name ≡ false = sym (ties x.name row.name) ∙ ap is_eq (nat_list_cmp_total.antisymm x.name row.name ∙ ap ordering_reverse b.0) in
    (rw other each.0, values_behind row rows xs b.1 each.1)

own_values : (rows : List Row) → Ascending cmp (names_of rows) → Each (λ x. row_value x.name rows ≡ Value x.val) rows
own_values [] a = tt
own_values (row ∷ rows) a = (rw (same_numbers_refl row.name) refl, values_behind row rows rows a.0 (own_values rows a.1))

-- and other names have none
no_value : (name : List ℕ) (rows : List Row) → among cmp name (names_of rows) ≡ false → row_value name rows ≡ Absent
no_value name [] off = refl
no_value name (row ∷ rows) off =
    let p = or_parts (is_at (cmp name) row.name) (among cmp name (names_of rows)) off in
    let other : same_numbers name row.name ≡ false = sym (ties name row.name) ∙ p.0 in
    rw other (no_value name rows p.1)

-- so the rows are what their names give
rows_back : (all rows : List Row) → Each (λ x. row_value x.name all ≡ Value x.val) rows → flat_map (λ name. row_in name (row_value name all)) (names_of rows) ≡ rows
rows_back all [] each = refl
rows_back all (row ∷ rows) each =
    let first : row_in row.name (row_value row.name all) ≡ row ∷ [] = ap (row_in row.name) each.0 in
    let rest = rows_back all rows each.1 in λ i. first i ++ rest i

module _ (site : ℕ) (life : Life) (names : List (List ℕ × Place)) (stand : (name : List ℕ) → place_at names name ≡ place_of name site life) where
  abbrev given : List ℕ → List Row
  given name = row_in name (row_value name (table_of life.log))

  each_row : (es : List (List ℕ × Place)) → Each (λ e. lookup (at_name e.0) names ≡ Some e.1) es → Each (λ e. row_at e ≡ given e.0) es
  each_row [] found = tt
  each_row (e ∷ es) found =
      let here : place_at names e.0 ≡ e.1 = ap (λ (o : Option Place). unwrap_or o bare) found.0 in
      (ap (λ (p : Place). row_in e.0 p.row) (sym here ∙ stand e.0), each_row es found.1)

  not_kept : (name : List ℕ) → among cmp name (keys_of names) ≡ false → given name ≡ []
  not_kept name off =
      let here : place_at names name ≡ bare = ap (λ (o : Option Place). unwrap_or o bare) (none_at cmp name names off) in
      ap (λ (p : Place). row_in name p.row) (sym (stand name) ∙ here)

  not_logged : (name : List ℕ) → among cmp name (names_of (table_of life.log)) ≡ false → given name ≡ []
  not_logged name off = ap (row_in name) (no_value name (table_of life.log) off)

  pub rows_told : names_ascend (table_of life.log) ≡ true → IsStrictlySortedBy cmp (keys_of names) → Each (λ e. lookup (at_name e.0) names ≡ Some e.1) names → flat_map row_at names ≡ table_of life.log
  rows_told up sorted found =
      let rows = table_of life.log in
      let ascend = ascending rows up in
      flat_keys row_at given names (each_row names found)
      ∙ same_given nat_list_cmp_total exact_bytes given (keys_of names) (names_of rows) (sorted_ascends cmp (keys_of names) sorted) ascend
      (covers_all cmp given (keys_of names) not_kept (names_of rows)) (covers_all cmp given (names_of rows) not_logged (keys_of names))
      ∙ rows_back rows rows (own_values rows ascend)
