-- The state of the definitions is told by three readings of the log.
use Rattle.std.specs.Prelude.{◌≡◌, Bool, true, false, List, Option, Some, None}
use Rattle.std.proofs.Common.{refl}
use Rattle.e3_types.specs.declared.records.Record.{Record}
use Rattle.e3_types.specs.declared.transactions.Dir.{Dir}
use Rattle.e3_types.specs.declared.transactions.Dir.TheVariants.{Abort, Commit}
use Rattle.e3_types.specs.declared.transactions.Txn.{Txn}
use Rattle.e3_world.specs.Logs.{attempted, decision, has_voted, state_of}
use Rattle.e3_readings.specs.States.{state_by}

pub state_is : (t : Txn) (log : List Record) → state_of t log ≡ state_by (decision t log) (attempted t log) (has_voted t log)
state_is t log = by (decision t log) (attempted t log) (has_voted t log) refl refl refl
  where
    by : (d a : Option Dir) (v : Bool) → decision t log ≡ d → attempted t log ≡ a → has_voted t log ≡ v
        → state_of t log ≡ state_by (decision t log) (attempted t log) (has_voted t log)
    by (Some Commit) a v p q r = rw p refl
    by (Some Abort) a v p q r = rw p refl
    by None (Some Commit) v p q r = rw (p, q) refl
    by None (Some Abort) v p q r = rw (p, q) refl
    by None None true p q r = rw (p, q, r) refl
    by None None false p q r = rw (p, q, r) refl
