-- Tables of names and of transactions, what they stand for, and the changes that a step makes of them.
use Rattle.std.specs.Prelude.{◌≡◌, ◌==◌, ◌&&◌, ◌∷◌, [], if◌then◌else◌, ℕ, Bool, List, Option, unwrap_or, IsSome, fold, map}
use Rattle.std.specs.Map.{lookup}
use Rattle.std.specs.BTreeMap.{is_at}
use Rattle.std.specs.Cmp.Lexicographic.{slice_cmp}
use Rattle.std.specs.Ordering.{nat_cmp, ordering_then}
use Rattle.std.specs.declared.cmp.Ordering.{Ordering}
use Rattle.e3_types.specs.declared.entries.Told.{Told}
use Rattle.e3_types.specs.declared.messages.Packet.{Packet}
use Rattle.e3_types.specs.declared.records.Record.{Record}
use Rattle.e3_types.specs.declared.transactions.Answer.TheVariants.{Absent}
use Rattle.e3_types.specs.declared.transactions.Txn.{Txn}
use Rattle.e3_types.specs.Same.{same_numbers}
use Rattle.e3_world.specs.declared.lives.Life.{Life}
use Rattle.e3_places.specs.declared.changing.Changes.{Changes}
use Rattle.e3_places.specs.declared.changing.NameChange.{NameChange}
use Rattle.e3_places.specs.declared.changing.TxnChange.{TxnChange}
use Rattle.e3_places.specs.declared.keys.TxnId.{TxnId}
use Rattle.e3_places.specs.declared.places.Claims.{Claims}
use Rattle.e3_places.specs.declared.places.Place.{Place}
use Rattle.e3_places.specs.declared.places.Places.{Places}
use Rattle.e3_places.specs.declared.places.Standing.{Standing}
use Rattle.e3_places.specs.Standing.{is_of, claims_of, claims_by, place_of, place_by}

-- nothing stands there
abbrev pub no_claims : Claims
no_claims = record { standing = []; votes = [] }

-- nothing stands on a name, and it has no row
abbrev pub bare : Place
bare = record { claims = no_claims; row = Absent }

-- a transaction as a key
abbrev pub txn_id : Txn → TxnId
txn_id t = record { site = t.site; inc = t.inc; seq = t.seq }

-- the two keys are one
abbrev pub is_key : TxnId → TxnId → Bool
is_key k l = k.site == l.site && k.inc == l.inc && k.seq == l.seq

-- the order of keys
abbrev pub key_cmp : TxnId → TxnId → Ordering
key_cmp a b = ordering_then (nat_cmp a.site b.site) (ordering_then (nat_cmp a.inc b.inc) (nat_cmp a.seq b.seq))

-- the order finds a name
abbrev pub at_name : List ℕ → List ℕ → Bool
at_name name = is_at (slice_cmp nat_cmp name)

-- the order finds a key
abbrev pub at_key : TxnId → TxnId → Bool
at_key k = is_at (key_cmp k)

-- what entries have at a key, or else this
abbrev pub value_at : {K X : Type 0} → (K → K → Bool) → X → List (K × X) → K → X
value_at at none entries k = unwrap_or (lookup (at k) entries) none

-- what a table has on a name
abbrev pub place_at : List (List ℕ × Place) → List ℕ → Place
place_at names name = value_at at_name bare names name

-- what a table has of a transaction
abbrev pub claims_at : List (TxnId × Claims) → TxnId → Claims
claims_at txns k = value_at at_key no_claims txns k

-- the tables are those of a life
pub record PlacesStand (site : ℕ) (places : Places) (life : Life) : Type 0 where
  pub names_stand : (name : List ℕ) → place_at places.names.entries name ≡ place_of name site life
  pub txns_stand : (k : TxnId) → claims_at places.txns.entries k ≡ claims_of (is_of k) site life

-- what a step makes of a name
abbrev pub name_change : List (List ℕ × Place) → Option Standing → List Record → List Told → List Packet → List ℕ → NameChange
name_change names new rs events outs name = record { name = name; place = place_by name (place_at names name) new rs events outs }

-- what a step makes of a transaction
abbrev pub txn_change : List (TxnId × Claims) → Option Standing → List Record → List Told → List Packet → TxnId → TxnChange
txn_change txns new rs events outs k = record { key = k; claims = claims_by (is_of k) (claims_at txns k) new rs events outs }

-- what is on a name where one more change is made
abbrev pub put_name : List ℕ → Place → NameChange → Place
put_name name was c = if same_numbers name c.name then c.place else was

-- what a transaction has where one more change is made
abbrev pub put_txn : TxnId → Claims → TxnChange → Claims
put_txn k was c = if is_key k c.key then c.claims else was

-- the changes are those of a step: put in their places, they make of each name and each transaction what the step makes
pub record AreChanges (places : Places) (new : Option Standing) (rs : List Record) (events : List Told) (outs : List Packet) (changes : Changes) : Type 0 where
  pub names : (name : List ℕ) → fold (put_name name) (place_at places.names.entries name) changes.names ≡ place_by name (place_at places.names.entries name) new rs events outs
  pub txns : (k : TxnId) → fold (put_txn k) (claims_at places.txns.entries k) changes.txns ≡ claims_by (is_of k) (claims_at places.txns.entries k) new rs events outs

-- there is an entry at a key
abbrev pub Has : {K X : Type 0} → (K → K → Bool) → List (K × X) → K → Type 0
Has at entries k = IsSome (lookup (at k) entries)

-- there is an entry at each key
abbrev pub HasEach : {K X : Type 0} → (K → K → Bool) → List (K × X) → List K → Type 0
HasEach at entries [] = Unit {0}
HasEach at entries (k ∷ ks) = Has at entries k × HasEach at entries ks

-- whatever the first entries have, the second have; and they say the same
pub record IsRoomier {K X : Type 0} (at : K → K → Bool) (none : X) (old new : List (K × X)) : Type 0 where
  pub values : (k : K) → value_at at none new k ≡ value_at at none old k
  pub keys : (k : K) → Has at old k → Has at new k

-- there is an entry for each change
pub record HasRoom (places : Places) (changes : Changes) : Type 0 where
  pub names : HasEach at_name places.names.entries (map (λ c. c.name) changes.names)
  pub txns : HasEach at_key places.txns.entries (map (λ c. c.key) changes.txns)

-- whatever life the first tables stand for, the second stand for; and the changes are changes of the second wherever they are
-- changes of the first
pub record ActAlike (old new : Places) (changes : Changes) : Type 0 where
  pub stand : (site : ℕ) (life : Life) → PlacesStand site old life → PlacesStand site new life
  pub are : (next : Option Standing) (rs : List Record) (events : List Told) (outs : List Packet) → AreChanges old next rs events outs changes → AreChanges new next rs events outs changes
