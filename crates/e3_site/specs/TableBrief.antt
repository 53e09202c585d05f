-- What the tables of a site tell of the brief of its log.
use Rattle.std.specs.Prelude.{◌≡◌, ◌≢◌, ◌++◌, ◌∷◌, [], if◌then◌else◌, ℕ, nat_lt, List}
use Rattle.std.specs.List.{flat_map, AllByRecursion as Each}
use Rattle.e3_types.specs.declared.records.Record.{Record}
use Rattle.e3_types.specs.declared.records.Record.TheVariants as log
use Rattle.e3_types.specs.declared.transactions.Answer.{Answer}
use Rattle.e3_types.specs.declared.transactions.Answer.TheVariants.{Value}
use Rattle.e3_types.specs.declared.transactions.NumOp.{NumOp}
use Rattle.e3_types.specs.declared.transactions.Row.{Row}
use Rattle.e3_types.specs.declared.transactions.Txn.{Txn}
use Rattle.e3_types.specs.Same.{same_txn}
use Rattle.e3_types.specs.Sites.{sites_of, bits_of}
use Rattle.e3_world.specs.declared.lives.Asked.{Asked}
use Rattle.e3_world.specs.declared.lives.Life.{Life}
use Rattle.e3_world.specs.Logs.{logged_inc}
use Rattle.e3_world.specs.Orderly.{weights_in, IsOrderly}
use Rattle.e3_world.specs.Brief.{vote_in, attempt_in, join_in, decision_in, txns_of}
use Rattle.e3_cards.specs.declared.card.Card.{Card}
use Rattle.e3_cards.specs.declared.keys.TxnKey.{TxnKey}
use Rattle.e3_cards.specs.declared.seen.Seen.{Seen}
use Rattle.e3_world.specs.Transactions.{IsFoundByBits}
use Rattle.e3_places.specs.declared.keys.TxnId.{TxnId as PlaceKey}
use Rattle.e3_places.specs.declared.places.Claims.{Claims}
use Rattle.e3_places.specs.declared.places.Place.{Place}
use Rattle.e3_places.specs.Keeping.{claims_at, txn_id as place_key}
use Rattle.e3_site.specs.declared.past.tables.Tables.{Tables}

-- the transaction of a key
abbrev pub txn_of : TxnKey → Txn
txn_of k = record { site = k.site; inc = k.inc; seq = k.seq; sites = sites_of k.bits }

-- a row, where a read of its name answers a value
abbrev pub row_in : List ℕ → Answer → List Row
row_in name (Value val) = record { name = name; val = val } ∷ []
row_in name _ = []

-- the row of a name, if it has one
abbrev pub row_at : List ℕ × Place → List Row
row_at e = row_in e.0 e.1.row

-- the operation of a vote, where it is one of the transaction
abbrev pub op_of : Txn → Asked → List NumOp
op_of t a = if same_txn t a.txn then record { n = a.n; op = a.op } ∷ [] else []

-- the operations of the transaction's vote that the tables have: those of an undecided one
abbrev pub ops_at : List (PlaceKey × Claims) → Txn → List NumOp
ops_at txns t = flat_map (op_of t) (claims_at txns (place_key t)).votes

-- what a brief has of a transaction of which the log says this, and which has these operations open
abbrev pub seen_notes : Txn → Seen → List NumOp → List Record
seen_notes t s ops =
    vote_in t s.voted ops ++ (attempt_in t s.attempted s.attempt ++ (join_in t s.attempt s.elected ++ decision_in t s.decision))

-- what it has of the transaction of a card
abbrev pub card_notes : List (PlaceKey × Claims) → TxnKey × Card → List Record
card_notes txns e = seen_notes (txn_of e.0) e.1.seen (ops_at txns (txn_of e.0))

-- what the brief begins with: the birth, with the rows, and the incarnation; nothing where no incarnation began
abbrev pub front_by : List ℕ → ℕ → Tables → List Record
front_by weights site tables =
    if nat_lt 0 tables.cards.inc
    then log.Birth 1 site weights (flat_map row_at tables.names.places.names.entries) ∷ log.Inc tables.cards.inc ∷ []
    else []

-- the brief that the tables of a site tell, by the site's weights and its number: what it begins with, and what is noted of
-- the transaction of each card
abbrev pub brief_by : List ℕ → ℕ → Tables → List Record
brief_by weights site tables =
    front_by weights site tables ++ flat_map (card_notes tables.names.places.txns.entries) tables.cards.map.entries

-- the bits of a key are those of a set of sites
abbrev pub KeyFits : TxnKey → Type 0
KeyFits k = bits_of (sites_of k.bits) ≡ k.bits

-- The log of a life is that of a site with these weights: it is orderly, and its birth has them; the life's incarnation is
-- the last one that it has, and without one it is empty; and the sites of each transaction are a set.
pub record IsInOrder (weights : List ℕ) (site : ℕ) (life : Life) : Type 0 where
  pub orderly : IsOrderly site life.log
  pub weights_are : life.log ≢ [] → weights_in life.log ≡ weights
  pub inc_is : life.inc ≡ logged_inc life.log
  pub begun : logged_inc life.log ≡ 0 → life.log ≡ []
  pub known : Each IsFoundByBits (txns_of life.log)
