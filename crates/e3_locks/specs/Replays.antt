-- What a list of calls makes of a table, by the lock rule alone. A table is seen as the locks of each name.
use Rattle.std.specs.Prelude.{◌++◌, ◌∷◌, [], if◌then◌else◌, List, ℕ}
use Rattle.e3_types.specs.declared.locks.Grant.{Grant}
use Rattle.e3_types.specs.declared.locks.Lock.{Lock}
use Rattle.e3_types.specs.Same.{same_numbers}
use Rattle.e3_locks.specs.declared.replays.LockCall.{LockCall}
use Rattle.e3_locks.specs.declared.replays.LockCall.TheVariants.{Request, Release}
use Rattle.e3_locks.specs.Places.{Place, would, requested, released}

-- the locks of each name
abbrev pub Places : Type 0
Places = List ℕ → Place

-- the places behind a request on a name that was answered so
abbrev pub with_request : List ℕ → Lock → Grant → Places → Places
with_request name wanted g places n = if same_numbers name n then requested wanted g (places n) else places n

-- the places behind a call
abbrev pub after_call : Places → LockCall → Places
after_call places (Request t name mode) =
    with_request name (record { txn = t; mode = mode }) (would (record { txn = t; mode = mode }) (places name)) places
after_call places (Release t) = λ n. released t (places n)

-- the places behind these calls
abbrev pub after_calls : Places → List LockCall → Places
after_calls places [] = places
after_calls places (call ∷ calls) = after_calls (after_call places call) calls

-- what the rule answers to a call: to a request alone
abbrev pub answer_to : Places → LockCall → List Grant
answer_to places (Request t name mode) = would (record { txn = t; mode = mode }) (places name) ∷ []
answer_to places (Release t) = []

-- what the rule answers to these calls, one after the other
abbrev pub answers_to : Places → List LockCall → List Grant
answers_to places [] = []
answers_to places (call ∷ calls) = answer_to places call ++ answers_to (after_call places call) calls
