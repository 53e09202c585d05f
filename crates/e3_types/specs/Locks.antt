-- The lock rule of one key (wait-die): who gets a lock, who waits for it and who dies, and who gets it after a release.
use Rattle.std.specs.Prelude.{◌&&◌, ◌++◌, ◌∷◌, [], if◌then◌else◌, Bool, true, false, not, List, map, filter}
use Rattle.std.specs.List.{list_any, list_all}
use Rattle.e3_types.specs.declared.locks.Grant.{Grant}
use Rattle.e3_types.specs.declared.locks.Grant.TheVariants.{Held, Waits, Dies}
use Rattle.e3_types.specs.declared.locks.Lock.{Lock}
use Rattle.e3_types.specs.declared.locks.Mode.{Mode}
use Rattle.e3_types.specs.declared.locks.Mode.TheVariants.{Shared, Exclusive}
use Rattle.e3_types.specs.declared.transactions.Txn.{Txn}
use Rattle.e3_types.specs.Same.{same_txn, is_older, oldest}

-- two modes conflict unless both are shared
abbrev pub conflicts : Mode → Mode → Bool
conflicts Shared Shared = false
conflicts _ _ = true

-- the first mode gives all that the second asks for
abbrev pub covers : Mode → Mode → Bool
covers Exclusive m = true
covers Shared Shared = true
covers Shared Exclusive = false

-- the transaction's lock among these covers the mode
abbrev pub is_covered : Lock → List Lock → Bool
is_covered wanted locks = list_any (λ l. same_txn l.txn wanted.txn && covers l.mode wanted.mode) locks

-- the lock is another transaction's, and conflicts with the one that is wanted
abbrev pub opposes : Lock → Lock → Bool
opposes wanted l = not (same_txn l.txn wanted.txn) && conflicts l.mode wanted.mode

-- the other transactions whose locks among these conflict with the one that is wanted
abbrev pub against : Lock → List Lock → List Txn
against wanted locks = map (λ l. l.txn) (filter (opposes wanted) locks)

-- A transaction that is against nobody holds its lock; it waits where it is older than all that it is against, and dies
-- for the oldest of them otherwise.
abbrev pub grant_against : Txn → List Txn → Grant
grant_against t [] = Held
grant_against t (u ∷ us) = if list_all (is_older t) (u ∷ us) then Waits else Dies (oldest u us)

-- A request that the own lock covers is held. For another one those that conflict decide, among the holders and the
-- waiters ahead.
abbrev pub lock_grant : Lock → List Lock → List Lock → Grant
lock_grant wanted holders waiters =
    if is_covered wanted holders then Held else grant_against wanted.txn (against wanted (holders ++ waiters))

-- the longest front of a queue whose members are each compatible with all other holders, those before it among them
abbrev pub front : List Lock → List Lock → List Lock
front holders [] = []
front holders (next ∷ queue) =
    if list_any (opposes next) holders then [] else next ∷ front (holders ++ next ∷ []) queue
