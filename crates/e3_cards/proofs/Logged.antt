-- One more record of a log, where the card of its transaction is changed in its place.
use Rattle.std.specs.Prelude.{◌≡◌, ◌||◌, ◌++◌, ◌∷◌, [], if◌then◌else◌, ℕ, Bool, true, false, List}
use Rattle.std.specs.List.{list_any}
use Rattle.std.proofs.Common.{refl, ap, sym, ◌∙◌}
use Rattle.e3_types.specs.declared.records.Record.{Record}
use Rattle.e3_types.specs.declared.transactions.Txn.{Txn}
use Rattle.e3_types.specs.Same.{same_txn}
use Rattle.e3_world.specs.Items.{txn_of_record}
use Rattle.e3_readings.proofs.Equal.{same_txn_eq}
use Rattle.e3_cards.specs.declared.card.Card.{Card}
use Rattle.e3_cards.specs.declared.cards.Cards.{Cards}
use Rattle.e3_cards.specs.declared.keys.TxnKey.{TxnKey}
use Rattle.e3_cards.specs.declared.seen.Seen.{Seen}
use Rattle.e3_cards.specs.Cards.{card_of}
use Rattle.e3_cards.specs.Noting.{noted, unstepped}
use Rattle.e3_cards.specs.Seeing.{seen_of}
use Rattle.e3_world.specs.Transactions.{IsFoundByBits}
use Rattle.e3_cards.specs.Tables.{CardsStand, card_at, txn_key}
use Rattle.e3_cards.proofs.Putting.{Inserts, put_step, same_turned}
use Rattle.e3_cards.proofs.Seeing.{seen_push}
use Rattle.e3_cards.proofs.Untouched.{seen_one}

-- the transaction has the card, and the others have theirs
pub put_at : (ms ns : List (TxnKey × Card)) (t : Txn) (card : Card) (k : TxnKey) → IsFoundByBits t → k ≡ txn_key t → Inserts ms ns k card
    → (u : Txn) → IsFoundByBits u → card_at ns u ≡ (if same_txn t u then card else card_at ms u)
put_at ms ns t card k here key h u known = put_step ms ns (record { txn = t; card = card }) k u here known key (h (txn_key u)) (card_at ms u) refl

seen_card : (site inc : ℕ) (log : List Record) (u : Txn) (r : Record) → noted u r (card_of site u (unstepped inc log)) ≡ card_of site u (unstepped inc (log ++ r ∷ []))
seen_card site inc log u r = ap (λ (s : Seen). record (card_of site u (unstepped inc log)) { seen = s }) (sym (seen_push u log r))

other_card : (site inc : ℕ) (log : List Record) (u : Txn) (r : Record) → list_any (same_txn u) (txn_of_record r) ≡ false
    → card_of site u (unstepped inc log) ≡ card_of site u (unstepped inc (log ++ r ∷ []))
other_card site inc log u r none =
    ap (λ (s : Seen). record (card_of site u (unstepped inc log)) { seen = s }) (sym (seen_push u log r ∙ seen_one u (seen_of u log) r none))

-- the cards of a log with a record of this transaction
pub note_stands : (was now : Cards) (t : Txn) (r : Record) → txn_of_record r ≡ t ∷ [] → now.site ≡ was.site → now.inc ≡ was.inc → now.begins ≡ was.begins → now.calls ≡ was.calls
    → ((u : Txn) → IsFoundByBits u → card_at now.map.entries u ≡ (if same_txn t u then noted t r (card_at was.map.entries t) else card_at was.map.entries u))
    → (site inc : ℕ) (log : List Record) → CardsStand site was (unstepped inc log) → CardsStand site now (unstepped inc (log ++ r ∷ []))
note_stands was now t r is s i b c change site inc log stands = record {
  site_is = s ∙ stands.site_is;
  inc_is = i ∙ stands.inc_is;
  begins_are = b ∙ stands.begins_are;
  calls_are = c ∙ stands.calls_are;
  cards_are = λ u known. change u known ∙ by u known (same_txn t u) refl;
}
  where
    by : (u : Txn) → IsFoundByBits u → (b : Bool) → same_txn t u ≡ b
        → (if b then noted t r (card_at was.map.entries t) else card_at was.map.entries u) ≡ card_of site u (unstepped inc (log ++ r ∷ []))
    by u known true e = ap (λ (v : Txn). noted v r (card_at was.map.entries v)) (same_txn_eq t u e) ∙ ap (noted u r) (stands.cards_are u known) ∙ seen_card site inc log u r
    by u known false e =
        let none : list_any (same_txn u) (t ∷ []) ≡ false = ap (λ (b : Bool). b || false) (same_turned t u ∙ e) in
        stands.cards_are u known ∙ other_card site inc log u r (ap (list_any (same_txn u)) is ∙ none)

-- and with a record of none
pub note_none : (was : Cards) (r : Record) → txn_of_record r ≡ [] → (site inc : ℕ) (log : List Record) → CardsStand site was (unstepped inc log)
    → CardsStand site was (unstepped inc (log ++ r ∷ []))
note_none was r is site inc log stands = record {
  site_is = stands.site_is;
  inc_is = stands.inc_is;
  begins_are = stands.begins_are;
  calls_are = stands.calls_are;
  cards_are = λ u known. stands.cards_are u known ∙ other_card site inc log u r (ap (list_any (same_txn u)) is);
}
