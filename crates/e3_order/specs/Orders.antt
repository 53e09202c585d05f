-- How the committed transactions are gathered, from the last record to the first.
use Rattle.std.specs.Prelude.{◌&&◌, ◌++◌, ◌∷◌, [], if◌then◌else◌, not, ℕ, List, fold}
use Rattle.e3_types.specs.declared.records.Record.{Record}
use Rattle.e3_types.specs.declared.records.Record.TheVariants as log
use Rattle.e3_types.specs.declared.transactions.Dir.{Dir}
use Rattle.e3_types.specs.declared.transactions.Txn.{Txn}
use Rattle.e3_types.specs.Same.{same_dir}
use Rattle.e3_world.specs.Moves.{Placed}
use Rattle.e3_order.specs.Keys.{has_txn, with_txn}

-- the transactions that are decided in this direction, with one more record
abbrev pub with_decision : Dir → List (List ℕ) → Record → List (List ℕ)
with_decision dir keys (log.Decision t d) = if same_dir d dir then with_txn t keys else keys
with_decision dir keys _ = keys

-- the transactions that these records decide in this direction
abbrev pub decided : Dir → List Placed → List (List ℕ)
decided dir placed = fold (λ keys p. with_decision dir keys p.entered) [] placed

-- the transactions that are voted for, with one more record
abbrev pub with_vote : Record → List (List ℕ) → List (List ℕ)
with_vote (log.Vote t ops) keys = with_txn t keys
with_vote _ keys = keys

-- the transactions that these records vote for
abbrev pub voters_of : List Placed → List (List ℕ)
voters_of [] = []
voters_of (p ∷ placed) = with_vote p.entered (voters_of placed)

-- the transaction of a vote, where it is committed and no later vote of it stands
abbrev pub last_vote : List (List ℕ) → List (List ℕ) → Record → List Txn
last_vote committed later (log.Vote t ops) = if has_txn t committed && not (has_txn t later) then t ∷ [] else []
last_vote committed later _ = []

-- the committed transactions by their last votes, from the last to the first
abbrev pub backward : List (List ℕ) → List Placed → List Txn
backward committed [] = []
backward committed (p ∷ placed) = backward committed placed ++ last_vote committed (voters_of placed) p.entered
