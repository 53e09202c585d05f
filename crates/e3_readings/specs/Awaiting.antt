-- What a rule reads of a list where its first item counts, and of the operation that a coordinator awaits.
use Rattle.std.specs.Prelude.{◌==◌, ◌&&◌, ◌∷◌, [], ℕ, Bool, false, List, Option, Some, None}
use Rattle.e3_types.specs.declared.transactions.Op.{Op}
use Rattle.e3_types.specs.declared.transactions.Txn.{Txn}
use Rattle.e3_world.specs.declared.lives.At.{At}
use Rattle.e3_world.specs.declared.lives.Made.{Made}
use Rattle.e3_world.specs.Logs.{key_of}
use Rattle.e3_world.specs.Making.{log_now, steps_now}
use Rattle.e3_world.specs.Operations.{issued, nth_op, unanswered}

-- the first of a list, if it has one
abbrev pub first_of : {X : Type 0} → List X → Option X
first_of [] = None
first_of (x ∷ xs) = Some x

-- the number is this one, if there is one
abbrev pub is_number : ℕ → Option ℕ → Bool
is_number n (Some m) = n == m
is_number n None = false

-- the operation, if there is one, has its key at this site
abbrev pub is_at_site : ℕ → Option Op → Bool
is_at_site f (Some op) = (key_of op).site == f
is_at_site f None = false

-- operation n of the transaction is its unanswered one, and its key is at site f
abbrev pub is_awaited : At → ℕ → Txn → ℕ → Made → Bool
is_awaited a f t n made =
    is_number n (unanswered t (log_now a made) (steps_now a made)) && is_at_site f (nth_op n (issued t (steps_now a made)))
