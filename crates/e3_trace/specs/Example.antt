-- A worked example: the trace of the only site of a scenario that begins a transaction, writes and commits. It spells the
-- history, and without its closing line it is at fault behind its last line.
use Rattle.std.specs.Prelude.{◌≡◌, ◌++◌, ◌∷◌, [], ℕ, false, List, codes, Ok, Err, refl}
use Rattle.e3_types.specs.declared.entries.Act.{Act}
use Rattle.e3_types.specs.declared.entries.Act.TheVariants as act
use Rattle.e3_types.specs.declared.entries.Entry.{Entry}
use Rattle.e3_types.specs.declared.entries.Input.TheVariants as input
use Rattle.e3_types.specs.declared.entries.Told.TheVariants as told
use Rattle.e3_types.specs.declared.records.Record.TheVariants as log
use Rattle.e3_types.specs.declared.transactions.Answer.TheVariants.{Written}
use Rattle.e3_types.specs.declared.transactions.Dir.TheVariants.{Commit}
use Rattle.e3_types.specs.declared.transactions.Op.{Op}
use Rattle.e3_types.specs.declared.transactions.Op.TheVariants.{Write}
use Rattle.e3_types.specs.declared.transactions.Txn.{Txn}
use Rattle.e3_trace.specs.declared.faults.TraceFault.TheVariants as fault
use Rattle.e3_trace.specs.Fields.{number_of, numbers_of, sites_of, key_of, dir_of, op_of, answer_of, txn_name_of, named, txn_of, known_told}
use Rattle.e3_trace.specs.Inputs.{input_by, input_of}
use Rattle.e3_trace.specs.Events.{event_by, event_of, began_of, told_by, told_of}
use Rattle.e3_trace.specs.Drafts.{entry_from, vote_op_by, vote_op_of, with_op, votes_of, record_by, first_by, first_of, with_record_line, told_line, line_behind}
use Rattle.e3_trace.specs.Entries.{rise_of, act_by, draft_by, form_of}
use Rattle.e3_trace.specs.Trace.{closed, entry_line, marked_line, line_by, next_line, history_of}

-- the first transaction of site 1
abbrev first_txn : Txn
first_txn = record { site = 1; inc = 1; seq = 1; sites = 1 ∷ [] }

-- it writes a to the record x
abbrev write_a : Op
write_a = Write (record { site = 1; name = codes "x" }) (codes "a")

-- an entry of the driver, and one of the site
abbrev by_driver : Act → Entry
by_driver a = record { owner = 0; act = a }

-- an entry of the site
abbrev by_site : Act → Entry
by_site a = record { owner = 1; act = a }

-- the history
abbrev committed : List Entry
committed =
    by_site (act.Rise false 1)
    ∷ by_driver (act.Line 1)
    ∷ by_site (act.Step (input.Begin (1 ∷ [])) [] [] (told.Began first_txn ∷ []))
    ∷ by_driver (act.Line 2)
    ∷ by_site (act.Step (input.Do first_txn write_a) [] [] (told.Op first_txn 1 Written ∷ []))
    ∷ by_driver (act.Line 3)
    ∷ by_site (act.Step (input.Commit first_txn)
    (log.Vote first_txn (record { n = 1; op = write_a } ∷ []) ∷ log.Attempt first_txn 1 Commit ∷ log.Decision first_txn Commit ∷ [])
    [] (told.Ended first_txn Commit ∷ []))
    ∷ []

-- the lines up to the last step, with the mark before them
abbrev begun_text : List ℕ
begun_text = codes "weights = [1]\n#trace\n1 rise 1\n0 line 1\n1 step begin 1\nt 1.1.1 began 1\n0 line 2\n1 step do 1.1.1 write 1.x a\nt 1.1.1 op 1 written\n0 line 3\n"

-- the lines of the last step
abbrev commit_text : List ℕ
commit_text = codes "1 step commit 1.1.1\nr vote 1.1.1 1\nr write 1 x a\nr attempt 1.1.1 1 commit\nr decision 1.1.1 commit\nt 1.1.1 committed\n"

spelled : history_of (begun_text ++ commit_text ++ codes "end\n") ≡ Ok committed
unfolding history_of closed entry_line marked_line line_by next_line form_of draft_by act_by rise_of line_behind told_line with_record_line first_of first_by record_by votes_of with_op vote_op_of vote_op_by entry_from told_of told_by began_of event_of event_by input_of input_by known_told txn_of named txn_name_of answer_of op_of dir_of key_of sites_of numbers_of number_of
spelled = refl

unended : history_of (begun_text ++ commit_text) ≡ Err (fault.Line 15)
unfolding history_of closed entry_line marked_line line_by next_line form_of draft_by act_by rise_of line_behind told_line with_record_line first_of first_by record_by votes_of with_op vote_op_of vote_op_by entry_from told_of told_by began_of event_of event_by input_of input_by known_told txn_of named txn_name_of answer_of op_of dir_of key_of sites_of numbers_of number_of
unended = refl
