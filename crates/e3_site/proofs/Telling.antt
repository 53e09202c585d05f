-- The brief that a site's tables tell is that of its log.
use Rattle.std.proofs.Common.{◌≡◌, ◌≢◌, ◌++◌, ◌∷◌, [], ℕ, Bool, true, false, List, Some, refl, ap, sym, ◌∙◌, append_assoc, arith}
use Rattle.std.specs.Prelude.{nat_lt}
use Rattle.std.specs.BTreeMap.{is_at}
use Rattle.std.specs.Cmp.Lexicographic.{slice_cmp}
use Rattle.std.specs.List.{flat_map, AllByRecursion as Each}
use Rattle.std.specs.List.Sorted.{IsStrictlySortedBy}
use Rattle.std.specs.Map.{keys_of, lookup}
use Rattle.std.specs.Ordering.{nat_cmp}
use Rattle.std.proofs.lemmas.Bool.{ltb-true, ltb-false}
use Rattle.e3_types.specs.declared.records.Record.{Record}
use Rattle.e3_types.specs.declared.records.Record.TheVariants as log
use Rattle.e3_world.specs.declared.lives.Life.{Life}
use Rattle.e3_world.specs.Logs.{logged_inc, table_of}
use Rattle.e3_world.specs.Brief.{born_in, brief, inc_in, noted, txns_of}
use Rattle.e3_laws.proofs.brief.Tables.{table_ascends}
use Rattle.e3_cards.specs.Tables.{key_cmp}
use Rattle.e3_places.specs.Keeping.{at_name}
use Rattle.e3_site.specs.declared.past.tables.Tables.{Tables}
use Rattle.e3_site.specs.past.Standing.{TablesStand}
use Rattle.e3_site.specs.TableBrief.{IsInOrder, KeyFits, brief_by, card_notes, front_by, row_at}
use Rattle.e3_site.proofs.Cards.{cards_told}
use Rattle.e3_site.proofs.Fronts.{born_one}
use Rattle.e3_site.proofs.Rows.{rows_told}

-- what a map of the program says of its entries: their keys ascend, and each is found
pub record AreFound (tables : Tables) : Type 0 where
  pub names_ascend : IsStrictlySortedBy (slice_cmp nat_cmp) (keys_of tables.names.places.names.entries)
  pub names_found : Each (λ e. lookup (at_name e.0) tables.names.places.names.entries ≡ Some e.1) tables.names.places.names.entries
  pub cards_ascend : IsStrictlySortedBy key_cmp (keys_of tables.cards.map.entries)
  pub cards_found : Each (λ e. lookup (is_at (key_cmp e.0)) tables.cards.map.entries ≡ Some e.1) tables.cards.map.entries
  pub fits : Each (λ e. KeyFits e.0) tables.cards.map.entries

module _ (weights : List ℕ) (site : ℕ) (tables : Tables) (life : Life) (found : AreFound tables) (stand : TablesStand site life tables) (order : IsInOrder weights site life) where
  inc_is : tables.cards.inc ≡ logged_inc life.log
  inc_is = stand.cards_stand.inc_is ∙ order.inc_is

  rows_are : flat_map row_at tables.names.places.names.entries ≡ table_of life.log
  rows_are =
      rows_told site life tables.names.places.names.entries stand.names_stand.places_stand.names_stand (table_ascends site life.log order.orderly) found.names_ascend found.names_found

  notes_are : flat_map (card_notes tables.names.places.txns.entries) tables.cards.map.entries ≡ flat_map (noted life.log) (txns_of life.log)
  notes_are =
      cards_told site life tables.names.places.txns.entries tables.cards.map.entries stand.names_stand.places_stand.txns_stand stand.cards_stand.cards_are order.known
      found.cards_ascend found.fits found.cards_found

  front_is : (b : Bool) → nat_lt 0 tables.cards.inc ≡ b → front_by weights site tables ≡ born_in (table_of life.log) life.log ++ inc_in (logged_inc life.log)
  front_is true is =
      let some : life.log ≢ [] = λ none. let low = ltb-true 0 tables.cards.inc is in absurd (omega (arith, low, inc_is ∙ ap logged_inc none)) in
      let born : born_in (table_of life.log) life.log ≡ log.Birth 1 site weights (flat_map row_at tables.names.places.names.entries) ∷ [] =
      born_one site (table_of life.log) life.log order.orderly some ∙ (λ i. log.Birth 1 site (order.weights_are some i) (sym rows_are i) ∷ []) in
      let inc : inc_in (logged_inc life.log) ≡ log.Inc tables.cards.inc ∷ [] = ap inc_in (sym inc_is) ∙ rw is refl in
      rw is (λ i. sym born i ++ sym inc i)
  front_is false is =
      let low = ltb-false 0 tables.cards.inc is in
      let none : life.log ≡ [] = order.begun (sym inc_is ∙ omega (arith, low)) in
      rw is (sym (ap (λ (l : List Record). born_in (table_of l) l ++ inc_in (logged_inc l)) none))

  pub told_is : brief_by weights site tables ≡ brief life.log
  told_is =
      (λ i. front_is (nat_lt 0 tables.cards.inc) refl i ++ notes_are i)
      ∙ append_assoc (born_in (table_of life.log) life.log) (inc_in (logged_inc life.log)) (flat_map (noted life.log) (txns_of life.log))
