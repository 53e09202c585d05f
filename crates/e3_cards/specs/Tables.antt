-- Cards by their transactions, with the counts of a site; what they stand for; and which cards a step changes.
use Rattle.std.specs.Prelude.{◌≡◌, ◌<◌, ◌≤◌, ◌++◌, ◌∷◌, [], if◌then◌else◌, ℕ, suc, List, count_by, fold, length, unwrap_or, IsSome}
use Rattle.std.specs.List.{list_any, flat_map}
use Rattle.std.specs.Map.{lookup}
use Rattle.std.specs.BTreeMap.{is_at}
use Rattle.std.specs.Ordering.{nat_cmp, ordering_then}
use Rattle.std.specs.declared.cmp.Ordering.{Ordering}
use Rattle.e3_types.specs.declared.entries.Input.{Input}
use Rattle.e3_types.specs.declared.entries.Told.{Told}
use Rattle.e3_types.specs.declared.transactions.Call.{Call}
use Rattle.e3_types.specs.declared.transactions.Txn.{Txn}
use Rattle.e3_types.specs.declared.entries.Input.TheVariants as input
use Rattle.e3_types.specs.declared.entries.Told.TheVariants as told
use Rattle.e3_types.specs.Same.{same_txn}
use Rattle.e3_types.specs.Sites.{bits_of}
use Rattle.e3_world.specs.declared.lives.Life.{Life}
use Rattle.e3_world.specs.declared.lives.SiteStep.{SiteStep}
use Rattle.e3_world.specs.Elections.{is_elect}
use Rattle.e3_world.specs.Items.{txn_of_record}
use Rattle.e3_world.specs.Sound.{txn_in}
use Rattle.e3_world.specs.Steps.{is_begin}
use Rattle.e3_world.specs.Transactions.{IsFoundByBits}
use Rattle.e3_readings.specs.Answering.{answered_txns}
use Rattle.e3_cards.specs.declared.card.Card.{Card}
use Rattle.e3_cards.specs.declared.card.Change.{Change}
use Rattle.e3_cards.specs.declared.keys.TxnKey.{TxnKey}
use Rattle.e3_cards.specs.declared.cards.Cards.{Cards}
use Rattle.e3_cards.specs.declared.cards.Changes.{Changes}
use Rattle.e3_cards.specs.Cards.{card_of, card_by, blank, moment_of}
use Rattle.e3_cards.specs.Readings.{done_of}

-- a transaction as a key
abbrev pub txn_key : Txn → TxnKey
txn_key t = record { site = t.site; inc = t.inc; seq = t.seq; bits = bits_of t.sites }

-- the order of keys
abbrev pub key_cmp : TxnKey → TxnKey → Ordering
key_cmp a b = ordering_then (nat_cmp a.site b.site) (ordering_then (nat_cmp a.inc b.inc) (ordering_then (nat_cmp a.seq b.seq) (nat_cmp a.bits b.bits)))

-- the card that entries have for a transaction
abbrev pub card_at : List (TxnKey × Card) → Txn → Card
card_at entries t = unwrap_or (lookup (is_at (key_cmp (txn_key t))) entries) blank

-- the call of an Elect that comes now
abbrev pub call_now : Cards → Call
call_now cards = record { inc = cards.inc; seq = suc cards.calls }

-- the cards and counts are those of a site's life
pub record CardsStand (site : ℕ) (cards : Cards) (life : Life) : Type 0 where
  pub site_is : cards.site ≡ site
  pub inc_is : cards.inc ≡ life.inc
  pub begins_are : cards.begins ≡ count_by is_begin life.steps
  pub calls_are : cards.calls ≡ count_by is_elect life.steps
  pub cards_are : (t : Txn) → IsFoundByBits t → card_at cards.map.entries t ≡ card_of site t life

-- 32 bits number one operation more of a card's transaction, and count those that are done here and those that count elsewhere
pub record IsCountable (card : Card) : Type 0 where
  pub issued : length card.issued < 4294967295
  pub done : length (done_of card) ≤ 4294967295
  pub counted : length card.counted ≤ 4294967295

-- so of each card, and 32 bits count one Begin more, and one Elect
pub record AreCountable (all : Cards) : Type 0 where
  pub begins : all.begins < 4294967295
  pub calls : all.calls < 4294967295
  pub cards : (t : Txn) → IsFoundByBits t → IsCountable (card_at all.map.entries t)

-- the transaction of an input
abbrev pub input_txns : Input → List Txn
input_txns (input.Begin sites) = []
input_txns (input.Do t op) = t ∷ []
input_txns (input.Commit t) = t ∷ []
input_txns (input.Cancel t) = t ∷ []
input_txns (input.Expire t) = t ∷ []
input_txns (input.Elect t group) = t ∷ []
input_txns (input.Deliver packet) = txn_in packet.msg ∷ []

-- the transaction of an event that a card keeps
abbrev pub told_txns : Told → List Txn
told_txns (told.Op t n answer) = t ∷ []
told_txns (told.Died t older) = t ∷ []
told_txns (told.Doomed t site had now) = t ∷ []
told_txns (told.Verdict t n verdict) = t ∷ []
told_txns _ = []

-- the transactions that a step names where a card may change
abbrev pub named : SiteStep → List Txn
named s = input_txns s.input ++ flat_map txn_of_record s.records ++ flat_map told_txns s.told ++ flat_map answered_txns s.outs

-- the transactions with one more, each once
abbrev pub add_once : List Txn → Txn → List Txn
add_once txns t = if list_any (same_txn t) txns then txns else txns ++ t ∷ []

-- the transactions whose cards a step may change, each once
abbrev pub touched : SiteStep → List Txn
touched s = fold add_once [] (named s)

-- the card that a step makes of a transaction's
abbrev pub change_of : ℕ → Call → List (TxnKey × Card) → SiteStep → Txn → Change
change_of site call entries s t = record { txn = t; card = card_by site call t (card_at entries t) s }

-- the card of a transaction where one more change is made
abbrev pub put : Txn → Card → Change → Card
put t was c = if same_txn c.txn t then c.card else was

-- the changes are those of a step: put in their places, they make each card the card behind it, and the counts too
pub record AreChanges (was : Cards) (s : SiteStep) (changes : Changes) : Type 0 where
  pub begins : changes.begins ≡ (if is_begin (moment_of s) then suc was.begins else was.begins)
  pub calls : changes.calls ≡ (if is_elect (moment_of s) then suc was.calls else was.calls)
  pub cards : (t : Txn) → IsFoundByBits t
      → fold (put t) (card_at was.map.entries t) changes.cards ≡ card_by was.site (call_now was) t (card_at was.map.entries t) s

-- there is a card for a key
abbrev pub HasCard : List (TxnKey × Card) → TxnKey → Type 0
HasCard entries k = IsSome (lookup (is_at (key_cmp k)) entries)

-- there is a card for each change
abbrev pub HasRoom : List (TxnKey × Card) → List Change → Type 0
HasRoom entries [] = Unit {0}
HasRoom entries (c ∷ cs) = HasCard entries (txn_key c.txn) × HasRoom entries cs

-- whatever the first entries have, the second have; and no card is another
pub record IsRoomier (old new : List (TxnKey × Card)) : Type 0 where
  pub cards : (t : Txn) → IsFoundByBits t → card_at new t ≡ card_at old t
  pub keys : (k : TxnKey) → HasCard old k → HasCard new k
