-- The state of a transaction, by what a log says of it.
use Rattle.std.specs.Prelude.{Bool, true, false, Option, Some, None}
use Rattle.e3_types.specs.declared.transactions.Dir.{Dir}
use Rattle.e3_types.specs.declared.transactions.Dir.TheVariants.{Abort, Commit}
use Rattle.e3_types.specs.declared.transactions.State.{State}
use Rattle.e3_types.specs.declared.transactions.State.TheVariants.{Q, W, Pc, Pa, C, A}

-- by the decision, else by the direction of the last attempt, else by whether the site voted
abbrev pub state_by : Option Dir → Option Dir → Bool → State
state_by (Some Commit) attempted voted = C
state_by (Some Abort) attempted voted = A
state_by None (Some Commit) voted = Pc
state_by None (Some Abort) voted = Pa
state_by None None true = W
state_by None None false = Q
