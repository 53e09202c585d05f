-- Who waits for whom in a history, by the lock rule.
use Rattle.std.specs.Prelude.{◌≡◌, ◌++◌, ◌∷◌, [], ℕ, List, Contains}
use Rattle.e3_types.specs.declared.entries.Entry.{Entry}
use Rattle.e3_types.specs.declared.locks.Lock.{Lock}
use Rattle.e3_types.specs.declared.scenarios.Scenario.{Scenario}
use Rattle.e3_types.specs.declared.transactions.Txn.{Txn}
use Rattle.e3_types.specs.Locks.{against}
use Rattle.e3_world.specs.declared.lives.Asked.{Asked}
use Rattle.e3_world.specs.declared.lives.Life.{Life}
use Rattle.e3_world.specs.Lives.{life_at}
use Rattle.e3_world.specs.Logs.{key_of, mode_of}
use Rattle.e3_world.specs.Moves.{moves_of}
use Rattle.e3_world.specs.Operations.{waiting, holders, queue}

-- the lock that an operation asks for
abbrev pub wanted : Asked → Lock
wanted a = record { txn = a.txn; mode = mode_of a.op }

-- The other transactions that an operation is against at a site, where these wait ahead of it: those that hold its key in a
-- mode that conflicts, and those that wait for it ahead in such a mode.
abbrev pub in_its_way : ℕ → Life → List Asked → Asked → List Txn
in_its_way site life ahead a =
    against (wanted a) (holders site (key_of a.op).name life.log life.steps ++ queue (key_of a.op).name ahead)

-- one operation of the first transaction waits at the site in this incarnation, behind those ahead of it, and the other
-- transaction is in its way
pub record WaitsAt (site : ℕ) (life : Life) (t u : Txn) : Type 0 where
  pub one : Asked
  pub ahead : List Asked
  pub behind : List Asked
  pub waits : waiting site life.log life.steps ≡ ahead ++ one ∷ behind
  pub its : one.txn ≡ t
  pub other : Contains (in_its_way site life ahead one) u

-- the first transaction waits for the second: at some site, in its present incarnation, or its last one where it is down
abbrev pub WaitsFor : Scenario → List Entry → Txn → Txn → Type 0
WaitsFor sc h t u = (site : ℕ) × WaitsAt site (life_at (moves_of sc h site)) t u

-- the first transaction waits for the last through those between: each waits for the next, at whatever sites
abbrev pub WaitsThrough : Scenario → List Entry → Txn → List Txn → Txn → Type 0
WaitsThrough sc h t [] u = WaitsFor sc h t u
WaitsThrough sc h t (v ∷ between) u = WaitsFor sc h t v × WaitsThrough sc h v between u
