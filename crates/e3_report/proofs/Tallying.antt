-- What is tallied is how many different transactions there are.
use Rattle.std.specs.Prelude.{◌≡◌, ◌||◌, ◌++◌, ◌∷◌, [], ◌+◌, if◌then◌else◌, ℕ, Bool, true, false, List, fold, length}
use Rattle.std.specs.List.{flat_map, list_any}
use Rattle.std.proofs.Common.{refl, ap, sym, ◌∙◌, length-append}
use Rattle.e3_types.specs.declared.transactions.Txn.{Txn}
use Rattle.e3_types.specs.declared.entries.Entry.{Entry}
use Rattle.e3_types.specs.declared.records.Record.{Record}
use Rattle.e3_types.specs.declared.records.Record.TheVariants as log
use Rattle.e3_types.specs.declared.scenarios.Scenario.{Scenario}
use Rattle.e3_types.specs.declared.transactions.Dir.TheVariants.{Abort, Commit}
use Rattle.e3_types.specs.Same.{same_txn}
use Rattle.e3_world.specs.Moves.{Placed}
use Rattle.e3_order.specs.Keys.{has_txn, with_txn}
use Rattle.e3_order.specs.Orders.{decided, with_decision}
use Rattle.e3_report.specs.Summary.{each_once, aborted_by, begun_by, events_of, committed, aborted, begun, summary_with, summary_over, summary_of}
use Rattle.e3_report.specs.Tallies.{with_txns}
use Rattle.e3_report.specs.Walk.{walk_of}
use Rattle.e3_order.proofs.Maps.{txn_inserted, txn_counted}
use Rattle.e3_report.proofs.Walking.{walk_placed}

-- first some, and then others
both : (keys : List (List ℕ)) (xs ys : List Txn) → with_txns keys (xs ++ ys) ≡ with_txns (with_txns keys xs) ys
both keys [] ys = refl
both keys (x ∷ xs) ys = both (with_txn x keys) xs ys

-- the transactions of each of these, one after the other
pub of_each : {X : Type 0} (f : X → List Txn) (keys : List (List ℕ)) (xs : List X) → fold (λ ks x. with_txns ks (f x)) keys xs ≡ with_txns keys (flat_map f xs)
of_each f keys [] = refl
of_each f keys (x ∷ xs) = of_each f (with_txns keys (f x)) xs ∙ sym (both keys (f x) (flat_map f xs))

-- the transactions that were seen, each once
abbrev and_new : List Txn → Txn → List Txn
and_new seen t = if list_any (same_txn t) seen then seen else seen ++ t ∷ []

-- keys stand for the transactions that were seen
record StandFor (keys : List (List ℕ)) (seen : List Txn) : Type 0 where
  same : (q : Txn) → has_txn q keys ≡ list_any (same_txn q) seen
  counted : length keys ≡ length seen

any_last : (q t : Txn) (seen : List Txn) → list_any (same_txn q) (seen ++ t ∷ []) ≡ (same_txn q t || list_any (same_txn q) seen)
any_last q t [] = refl
any_last q t (x ∷ seen) = ap (λ b. same_txn q x || b) (any_last q t seen) ∙ swapped (same_txn q x) (same_txn q t) (list_any (same_txn q) seen)
  where
    swapped : (a b c : Bool) → (a || (b || c)) ≡ (b || (a || c))
    swapped true true c = refl
    swapped true false c = refl
    swapped false b c = refl

one_stands : (keys : List (List ℕ)) (seen : List Txn) (t : Txn) → StandFor keys seen → StandFor (with_txn t keys) (and_new seen t)
one_stands keys seen t s = by (has_txn t keys) refl
  where
    by : (b : Bool) → has_txn t keys ≡ b → StandFor (with_txn t keys) (and_new seen t)
    by true is = rw (is, (sym (s.same t) ∙ is)) s
    by false is = rw (is, (sym (s.same t) ∙ is)) (record {
      same = λ q. txn_inserted q t keys ∙ ap (λ b. same_txn q t || b) (s.same q) ∙ sym (any_last q t seen);
      counted = txn_counted t keys is ∙ ap (λ n. n + 1) s.counted ∙ sym (length-append seen (t ∷ []));
    })

all_stand : (keys : List (List ℕ)) (seen txns : List Txn) → StandFor keys seen → StandFor (with_txns keys txns) (fold and_new seen txns)
all_stand keys seen [] s = s
all_stand keys seen (t ∷ txns) s = all_stand (with_txn t keys) (and_new seen t) txns (one_stands keys seen t s)

counted_once : (txns : List Txn) → length (with_txns [] txns) ≡ length (each_once txns)
counted_once txns = (all_stand [] [] txns (record { same = λ q. refl; counted = refl })).counted

-- the decisions to abort, one after the other
one_abort : (keys : List (List ℕ)) (r : Record) → with_decision Abort keys r ≡ with_txns keys (aborted_by r)
one_abort keys (log.Birth format site weights rows) = refl
one_abort keys (log.Inc inc) = refl
one_abort keys (log.Vote t ops) = refl
one_abort keys (log.Join t n) = refl
one_abort keys (log.Attempt t n dir) = refl
one_abort keys (log.Decision t Abort) = refl
one_abort keys (log.Decision t Commit) = refl

aborts : (keys : List (List ℕ)) (records : List Placed) →
    fold (λ ks p. with_decision Abort ks p.entered) keys records ≡ with_txns keys (flat_map (λ p. aborted_by p.entered) records)
aborts keys [] = refl
aborts keys (p ∷ records) =
    aborts (with_decision Abort keys p.entered) records
    ∙ ap (λ ks. with_txns ks (flat_map (λ p. aborted_by p.entered) records)) (one_abort keys p.entered)
    ∙ sym (both keys (aborted_by p.entered) (flat_map (λ p. aborted_by p.entered) records))

-- how many transactions some log aborts
pub aborts_counted : (records : List Placed) → length (decided Abort records) ≡ aborted records
aborts_counted records = ap length (aborts [] records) ∙ counted_once (flat_map (λ p. aborted_by p.entered) records)

-- how many transactions were told to be begun
pub begins_counted : (history : List Entry) → length (fold (λ keys e. with_txns keys (flat_map begun_by (events_of e.act))) [] history) ≡ begun history
begins_counted history =
    ap length (of_each (λ e. flat_map begun_by (events_of e.act)) [] history) ∙ counted_once (flat_map (λ e. flat_map begun_by (events_of e.act)) history)

-- the summary over what is counted of the records that a walk gathered is that of the history
pub summary_walked : (n ended stopped started : ℕ) (sc : Scenario) (h : List Entry) (placed : List Placed) → placed ≡ (walk_of sc h).placed →
    ended ≡ committed placed → stopped ≡ aborted placed → started ≡ begun h →
    summary_with n ended stopped started h ≡ summary_of n sc h
summary_walked n ended stopped started sc h placed gathered e s b =
    rw (e, s, b) (ap (λ (records : List Placed). summary_over n records h) (gathered ∙ walk_placed sc h))
