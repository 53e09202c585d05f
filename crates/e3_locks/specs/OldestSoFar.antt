-- The oldest transaction, found one by one.
use Rattle.std.specs.Prelude.{if◌then◌else◌, Option, Some, None}
use Rattle.e3_types.specs.declared.transactions.Txn.{Txn}
use Rattle.e3_types.specs.Same.{is_older}

-- the older of the oldest so far, if any, and another
abbrev pub oldest_so_far : Option Txn → Txn → Option Txn
oldest_so_far None t = Some t
oldest_so_far (Some u) t = Some (if is_older t u then t else u)
