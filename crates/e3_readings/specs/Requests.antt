-- The lock that a request is for.
use Rattle.e3_types.specs.declared.locks.Lock.{Lock}
use Rattle.e3_world.specs.declared.lives.Asked.{Asked}
use Rattle.e3_world.specs.Logs.{mode_of}

-- the transaction's, in the mode that its operation needs
abbrev pub lock_for : Asked → Lock
lock_for a = record { txn = a.txn; mode = mode_of a.op }
