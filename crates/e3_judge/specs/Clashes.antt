-- The decisions in the logs of a history, and which of them clash.
use Rattle.std.specs.Prelude.{◌++◌, ◌∷◌, [], if◌then◌else◌, ℕ, Bool, true, false, List, fold, Option, Some, None, Contains}
use Rattle.std.specs.List.{list_any, flat_map}
use Rattle.e3_types.specs.declared.entries.Act.{Act}
use Rattle.e3_types.specs.declared.entries.Act.TheVariants.{Step, Fall, Rise, RiseFall}
use Rattle.e3_types.specs.declared.entries.Entry.{Entry}
use Rattle.e3_types.specs.declared.entries.Why.{Why}
use Rattle.e3_types.specs.declared.entries.Why.TheVariants.{Fault}
use Rattle.e3_types.specs.declared.records.Record.{Record}
use Rattle.e3_types.specs.declared.records.Record.TheVariants as log
use Rattle.e3_types.specs.declared.scenarios.Scenario.{Scenario}
use Rattle.e3_types.specs.declared.transactions.Dir.TheVariants.{Abort, Commit}
use Rattle.e3_types.specs.declared.transactions.Txn.{Txn}
use Rattle.e3_types.specs.Same.{same_txn}
use Rattle.e3_types.specs.Sets.{has_site}
use Rattle.e3_world.specs.Moves.{own_entries, trail_of, all_records}
use Rattle.e3_judge.specs.declared.logs.Decided.{Decided}

-- the owners with that of one more entry, each once
abbrev pub with_owner : List ℕ → Entry → List ℕ
with_owner sites e = if has_site sites e.owner then sites else sites ++ e.owner ∷ []

-- the owners of entries, each once
abbrev pub owners : List Entry → List ℕ
owners history = fold with_owner [] history

-- the record, if it is a decision
abbrev pub decisions_in : Record → List Record
decisions_in (log.Decision t dir) = log.Decision t dir ∷ []
decisions_in _ = []

-- no decision yet
abbrev pub nothing_yet : Decided
nothing_yet = record { sure = []; doubted = [] }

-- a step's decisions are sure
abbrev pub with_step : Decided → List Record → Decided
with_step was records = record { sure = was.sure ++ flat_map decisions_in records; doubted = was.doubted }

-- a fall leaves its decisions in doubt, unless its frame did not fit
abbrev pub with_fall : Decided → List Record → Why → Decided
with_fall was records Fault = record { sure = was.sure; doubted = flat_map decisions_in records }
with_fall was records _ = record { sure = was.sure; doubted = [] }

-- what is in doubt is kept or lost where the site rises
abbrev pub risen : Decided → Bool → Decided
risen was true = record { sure = was.sure ++ was.doubted; doubted = [] }
risen was false = record { sure = was.sure; doubted = [] }

-- the decisions with those of one more act
abbrev pub decided_by : Decided → Act → Decided
decided_by was (Step i records outs events) = with_step was records
decided_by was (Fall inputs records why) = with_fall was records why
decided_by was (Rise kept inc) = risen was kept
decided_by was (RiseFall kept inc why) = risen was kept
decided_by was _ = was

-- the decisions of a site's log
abbrev pub decided_at : List Entry → ℕ → List Record
decided_at history site = (fold (λ was e. decided_by was e.act) nothing_yet (own_entries site history)).sure

-- the decisions in the logs of all owners
abbrev pub decisions : List Entry → List Record
decisions history = flat_map (decided_at history) (owners history)

-- the record is an abort of the transaction
abbrev pub is_abort_of : Txn → Record → Bool
is_abort_of t (log.Decision u Abort) = same_txn t u
is_abort_of t _ = false

-- the first clash so far, with one more record: a commit of a transaction that one of all records aborts
abbrev pub clash_by : List Record → Option Txn → Record → Option Txn
clash_by all (Some t) r = Some t
clash_by all None (log.Decision t Commit) = if list_any (is_abort_of t) all then Some t else None
clash_by all None _ = None

-- some log of the history commits the transaction, and some log aborts it
abbrev pub Clashes : Scenario → List Entry → Txn → Type 0
Clashes sc history t =
    (s u : ℕ) × Contains (all_records (trail_of sc history)) (record { site = s; entered = log.Decision t Commit })
    × Contains (all_records (trail_of sc history)) (record { site = u; entered = log.Decision t Abort })
