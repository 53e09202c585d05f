-- The pairs of a transaction and a name on which it holds a lock or waits, in the order of transactions and then names.
use Rattle.std.specs.Prelude.{◌≡◌, ◌++◌, ◌∷◌, [], ◌⊎◌, if◌then◌else◌, ℕ, List}
use Rattle.e3_types.specs.declared.locks.Grant.{Grant}
use Rattle.e3_types.specs.declared.locks.Grant.TheVariants.{Held, Waits, Dies}
use Rattle.e3_types.specs.declared.locks.Lock.{Lock}
use Rattle.e3_types.specs.declared.transactions.Txn.{Txn}
use Rattle.e3_types.specs.Locks.{front}
use Rattle.e3_types.specs.Same.{same_numbers}
use Rattle.e3_types.specs.Sites.{bits_of}
use Rattle.e3_types.specs.Sorted.{IsUnder, IsAscending}
use Rattle.e3_world.specs.Transactions.{IsFoundByBits}
use Rattle.e3_locks.specs.declared.pairs.Pair.{Pair}
use Rattle.e3_locks.specs.Places.{Place, released}
use Rattle.e3_locks.specs.Standing.{Standing, Each, place_in}

-- a transaction as numbers, whose order is that of transactions
abbrev pub key_of : Txn → List ℕ
key_of t = t.site ∷ t.inc ∷ t.seq ∷ bits_of t.sites ∷ []

-- a pair as numbers
abbrev pub pair_key : Pair → List ℕ
pair_key p = key_of p.txn ++ p.name

-- one of the pairs has the key
abbrev pub HasKey : List ℕ → List Pair → Type 0
HasKey k [] = ⊥
HasKey k (p ∷ ps) = (pair_key p ≡ k) ⊎ HasKey k ps

-- none of the pairs comes before the key
abbrev pub AreFrom : List ℕ → List Pair → Type 0
AreFrom k pairs = Each (λ p. IsUnder (pair_key p) k → ⊥) pairs

-- what holds of each lock and request of a place
abbrev pub AtEach : (Lock → Type 0) → Place → Type 0
AtEach P p = Each P p.held × Each P p.queue

-- the lock's transaction stands with the name among the pairs
abbrev pub IsPaired : List ℕ → List Pair → Lock → Type 0
IsPaired n pairs l = IsFoundByBits l.txn × HasKey (key_of l.txn ++ n) pairs

-- a request that was answered so is held or waits
abbrev pub IsPut : Grant → Type 0
IsPut Held = Unit {0}
IsPut Waits = Unit {0}
IsPut (Dies older) = ⊥

-- the places behind a release on one name
abbrev pub with_release : List ℕ → Txn → (List ℕ → Place) → List ℕ → Place
with_release name t places n = if same_numbers name n then released t (places n) else places n

-- The pairs ascend, and whoever holds a lock or waits stands among them with the name. And on no name one waits who could
-- have a lock, so that a release changes only names on which the transaction has something.
pub record IsIndex (items : List Standing) (pairs : List Pair) : Type 0 where
  pub ascending : IsAscending pair_key pairs
  pub still : (n : List ℕ) → front (place_in n items).held (place_in n items).queue ≡ []
  pub paired : (n : List ℕ) → AtEach (IsPaired n pairs) (place_in n items)
