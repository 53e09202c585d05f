-- Rows that are set one by one have ascending names.
use Rattle.std.proofs.Common.{◌≡◌, ◌∷◌, [], true, false, List, refl, ap, ◌∙◌}
use Rattle.std.specs.declared.cmp.Ordering.{Ordering}
use Rattle.std.specs.declared.cmp.Ordering.TheVariants.{Less, Equal, Greater}
use Rattle.std.specs.Ordering.{nat_cmp, match_ordering, ordering_reverse}
use Rattle.std.specs.Cmp.Lexicographic.{slice_cmp}
use Rattle.std.proofs.lemmas.Bool.{and_from, and_parts}
use Rattle.std.proofs.lemmas.Cmp.{nat_list_cmp_total}
use Rattle.e3_types.specs.declared.transactions.Row.{Row}
use Rattle.e3_world.specs.Logs.{set_row}
use Rattle.e3_world.specs.Orderly.{names_ascend}

abbrev pub order : Row → Row → Ordering
order a b = slice_cmp nat_cmp a.name b.name

-- a row before another one stands before what that one is set into
pub set_behind : (row new : Row) (rows : List Row) → order row new ≡ Less → names_ascend (row ∷ rows) ≡ true → names_ascend (set_row new rows) ≡ true →
    names_ascend (row ∷ set_row new rows) ≡ true
set_behind row new [] less up set = rw less refl
set_behind row new (next ∷ more) less up set = by (order new next) refl
  where
    by : (o : Ordering) → order new next ≡ o → names_ascend (row ∷ set_row new (next ∷ more)) ≡ true
    by Less is = rw (is, less) (rw is at set)
    by Equal is = rw (is, less) (rw is at set)
    by Greater is =
        let first = and_parts (match_ordering (order row next) true false false) (names_ascend (next ∷ more)) up in
        rw is (and_from _ _ first.0 (rw is at set))

-- a row that is set keeps the order
pub set_ascends : (new : Row) (rows : List Row) → names_ascend rows ≡ true → names_ascend (set_row new rows) ≡ true
set_ascends new [] up = refl
set_ascends new (row ∷ rows) up = by (set_ascends new rows (rest rows up)) (order new row) refl
  where
    rest : (l : List Row) → names_ascend (row ∷ l) ≡ true → names_ascend l ≡ true
    rest [] h = refl
    rest (next ∷ more) h = (and_parts _ _ h).1

    tied : (l : List Row) → order new row ≡ Equal → names_ascend (row ∷ l) ≡ true → names_ascend (new ∷ l) ≡ true
    tied [] is h = refl
    tied (next ∷ more) is h =
        let same : order new next ≡ order row next = nat_list_cmp_total.congr new.name row.name next.name is in rw same h

    by : names_ascend (set_row new rows) ≡ true → (o : Ordering) → order new row ≡ o → names_ascend (set_row new (row ∷ rows)) ≡ true
    by set Less is = rw (is, is) up
    by set Equal is = rw is (tied rows is up)
    by set Greater is =
        let less : order row new ≡ Less = nat_list_cmp_total.antisymm row.name new.name ∙ ap ordering_reverse is in
        rw is (set_behind row new rows less up set)
