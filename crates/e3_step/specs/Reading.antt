-- What a rule needs of its site's past and of the step so far, where that is less than what the definitions list.
use Rattle.std.specs.Prelude.{ℕ, List, fold}
use Rattle.e3_types.specs.declared.transactions.Answer.{Answer}
use Rattle.e3_types.specs.declared.transactions.Txn.{Txn}
use Rattle.e3_world.specs.declared.lives.At.{At}
use Rattle.e3_world.specs.declared.lives.Made.{Made}
use Rattle.e3_world.specs.Logs.{row_value, table_of}
use Rattle.e3_world.specs.Making.{log_now, steps_now, own_write}
use Rattle.e3_world.specs.Operations.{done}

-- the value of a name in the table behind this step's records
abbrev pub row_now : At → List ℕ → Made → Answer
row_now a name made = row_value name (table_of (log_now a made))

-- the value that the transaction's last write of a name here gave it, this step's answers among them, or else this one
abbrev pub own_value : At → Txn → List ℕ → Answer → Made → Answer
own_value a t name row made = fold (own_write name) row (done a.site t (steps_now a made))
