-- The order that is gathered from the last record to the first is the order of the last votes.
use Rattle.std.specs.Prelude.{◌≡◌, ◌&&◌, ◌||◌, ◌++◌, ◌∷◌, [], if◌then◌else◌, not, ℕ, Bool, true, false, List, fold, reverse}
use Rattle.std.proofs.Common.{refl, ap, sym, ◌∙◌}
use Rattle.std.proofs.lemmas.List.{reverse-append}
use Rattle.std.proofs.Math.Bool.{or-false}
use Rattle.e3_types.specs.declared.records.Record.{Record}
use Rattle.e3_types.specs.declared.records.Record.TheVariants as log
use Rattle.e3_types.specs.declared.transactions.Dir.TheVariants.{Abort, Commit}
use Rattle.e3_types.specs.declared.transactions.Txn.{Txn}
use Rattle.e3_world.specs.Logs.{is_vote}
use Rattle.e3_world.specs.Moves.{Placed}
use Rattle.e3_world.specs.Serial.{is_commit, is_committed, votes_among, order_in, commit_order}
use Rattle.e3_order.specs.Keys.{has_txn}
use Rattle.e3_order.specs.Orders.{with_decision, decided, with_vote, voters_of, last_vote, backward}
use Rattle.e3_order.proofs.Maps.{txn_added}

-- the set behind one more record
commit_added : (q : Txn) (keys : List (List ℕ)) (r : Record) → has_txn q (with_decision Commit keys r) ≡ (is_commit q r || has_txn q keys)
commit_added q keys (log.Birth format site weights rows) = refl
commit_added q keys (log.Inc inc) = refl
commit_added q keys (log.Vote t ops) = refl
commit_added q keys (log.Join t n) = refl
commit_added q keys (log.Attempt t n dir) = refl
commit_added q keys (log.Decision t Abort) = refl
commit_added q keys (log.Decision t Commit) = txn_added q t keys

vote_added : (q : Txn) (keys : List (List ℕ)) (r : Record) → has_txn q (with_vote r keys) ≡ (is_vote q r || has_txn q keys)
vote_added q keys (log.Birth format site weights rows) = refl
vote_added q keys (log.Inc inc) = refl
vote_added q keys (log.Vote t ops) = txn_added q t keys
vote_added q keys (log.Join t n) = refl
vote_added q keys (log.Attempt t n dir) = refl
vote_added q keys (log.Decision t dir) = refl

swapped : (a b c : Bool) → ((a || b) || c) ≡ (b || (a || c))
swapped true true c = refl
swapped true false c = refl
swapped false b c = refl

-- the set tells what is committed
commits_tell : (q : Txn) (keys : List (List ℕ)) (placed : List Placed) →
    has_txn q (fold (λ ks p. with_decision Commit ks p.entered) keys placed) ≡ (has_txn q keys || is_committed q placed)
commits_tell q keys [] = sym (or-false (has_txn q keys))
commits_tell q keys (p ∷ placed) =
    commits_tell q (with_decision Commit keys p.entered) placed
    ∙ ap (λ b. b || is_committed q placed) (commit_added q keys p.entered)
    ∙ swapped (is_commit q p.entered) (has_txn q keys) (is_committed q placed)

-- the set tells what is voted for
voters_tell : (q : Txn) (placed : List Placed) → has_txn q (voters_of placed) ≡ votes_among q placed
voters_tell q [] = refl
voters_tell q (p ∷ placed) = vote_added q (voters_of placed) p.entered ∙ ap (λ b. is_vote q p.entered || b) (voters_tell q placed)

-- a list of at most one item is its own reverse
maybe_reversed : (b : Bool) (t : Txn) → reverse (if b then t ∷ [] else []) ≡ (if b then t ∷ [] else [])
maybe_reversed true t = refl
maybe_reversed false t = refl

-- the votes of the rest, behind one more record
one_before : (all : List Placed) (p : Placed) (rest : List Placed) (r : Record) → p.entered ≡ r →
    order_in all (p ∷ rest) ≡ reverse (last_vote (decided Commit all) (voters_of rest) r) ++ order_in all rest
one_before all p rest (log.Birth format site weights rows) is = rw is refl
one_before all p rest (log.Inc inc) is = rw is refl
one_before all p rest (log.Vote t ops) is =
    rw is (sym (ap (λ l. l ++ order_in all rest) (maybe_reversed (has_txn t (decided Commit all) && not (has_txn t (voters_of rest))) t
    ∙ ap (λ b. if b && not (has_txn t (voters_of rest)) then t ∷ [] else []) (commits_tell t [] all)
    ∙ ap (λ b. if is_committed t all && not b then t ∷ [] else []) (voters_tell t rest))))
one_before all p rest (log.Join t n) is = rw is refl
one_before all p rest (log.Attempt t n dir) is = rw is refl
one_before all p rest (log.Decision t dir) is = rw is refl

reversed_order : (all rest : List Placed) → reverse (backward (decided Commit all) rest) ≡ order_in all rest
reversed_order all [] = refl
reversed_order all (p ∷ rest) =
    reverse-append (backward (decided Commit all) rest) (last_vote (decided Commit all) (voters_of rest) p.entered)
    ∙ ap (λ l. reverse (last_vote (decided Commit all) (voters_of rest) p.entered) ++ l) (reversed_order all rest)
    ∙ sym (one_before all p rest p.entered refl)

pub order_is_reversed : (placed : List Placed) → reverse (backward (decided Commit placed) placed) ≡ commit_order placed
order_is_reversed placed = reversed_order placed placed
