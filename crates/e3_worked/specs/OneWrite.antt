-- One write at one site, and its commit. Its entries stand in full.
use Rattle.std.specs.Prelude.{◌++◌, ◌∷◌, [], ℕ, false, List, codes}
use Rattle.e3_types.specs.declared.entries.Act.TheVariants.{Step, Rise, Line}
use Rattle.e3_types.specs.declared.transactions.Answer.TheVariants.{Written}
use Rattle.e3_types.specs.declared.transactions.Dir.TheVariants.{Commit}
use Rattle.e3_types.specs.declared.entries.Entry.{Entry}
use Rattle.e3_types.specs.declared.transactions.Op.TheVariants.{Write}
use Rattle.e3_types.specs.declared.records.Record.{Record}
use Rattle.e3_types.specs.declared.scenarios.Scenario.{Scenario}
use Rattle.e3_types.specs.declared.transactions.Txn.{Txn}
use Rattle.e3_types.specs.declared.entries.Input.TheVariants as input
use Rattle.e3_types.specs.declared.scenarios.Item.TheVariants as item
use Rattle.e3_types.specs.declared.records.Record.TheVariants as log
use Rattle.e3_types.specs.declared.entries.Told.TheVariants as told
use Rattle.e3_worked.specs.Names.{one_by_one, txn, s1, key_1_x}
use Rattle.e3_worked.specs.Worked.{Outcome, one_row}

-- the scenario
abbrev pub one_write : Scenario
one_write = one_by_one (1 ∷ []) (
    item.Begin (codes "t") 1 s1 ∷
    item.Write (codes "t") key_1_x (codes "a") ∷
    item.Commit (codes "t") ∷
    [])

-- its text
abbrev pub one_write_text : List ℕ
one_write_text =
    codes "# The first scenario: one site, one write, one commit.\n" ++
    codes "weights = [1]\n" ++
    codes "steps = [\n" ++
    codes "  \"begin t 1 1\",\n" ++
    codes "  \"write t 1.x a\",\n" ++
    codes "  \"commit t\",\n" ++
    codes "]\n"

-- its transaction
abbrev pub t1_1_1 : Txn
t1_1_1 = txn 1 1 s1

-- its history up to the line of the commit, entry by entry
abbrev pub before_the_commit : List Entry
before_the_commit =
    record { owner = 1; act = Rise false 1 } ∷
    record { owner = 0; act = Line 1 } ∷
    record { owner = 1; act = Step (input.Begin s1) [] [] (told.Began t1_1_1 ∷ []) } ∷
    record { owner = 0; act = Line 2 } ∷
    record { owner = 1; act = Step (input.Do t1_1_1 (Write key_1_x (codes "a"))) [] [] (told.Op t1_1_1 1 Written ∷ []) } ∷
    record { owner = 0; act = Line 3 } ∷
    []

-- the vote for the write
abbrev pub one_vote : Record
one_vote = log.Vote t1_1_1 (record { n = 1; op = Write key_1_x (codes "a") } ∷ [])

-- the frame of the commit
abbrev pub commit_frame : List Record
commit_frame = one_vote ∷ log.Attempt t1_1_1 1 Commit ∷ log.Decision t1_1_1 Commit ∷ []

-- its history, entry by entry
abbrev pub one_write_history : List Entry
one_write_history =
    before_the_commit ++
    record { owner = 1; act = Step (input.Commit t1_1_1) commit_frame [] (told.Ended t1_1_1 Commit ∷ []) } ∷
    []

-- what it comes to
abbrev pub one_write_outcome : Outcome
one_write_outcome = record {
  order = t1_1_1 ∷ [];
  tables = one_row (codes "x") (codes "a") ∷ [];
}

-- its report
abbrev pub one_write_report : List ℕ
one_write_report =
    codes "start\n" ++
    codes "1: rose 1\n" ++
    codes "step 1\n" ++
    codes "> begin t 1 1\n" ++
    codes "1: 1.1.1 began 1\n" ++
    codes "step 2\n" ++
    codes "> write t 1.x a\n" ++
    codes "1: 1.1.1 op 1 written\n" ++
    codes "step 3\n" ++
    codes "> commit t\n" ++
    codes "1: 1.1.1 committed\n" ++
    codes "order\n" ++
    codes "1.1.1\n" ++
    codes "site 1 up 1\n" ++
    codes "log\n" ++
    codes "birth 1 1\n" ++
    codes "inc 1\n" ++
    codes "vote 1.1.1 1\n" ++
    codes "write 1 x a\n" ++
    codes "attempt 1.1.1 1 commit\n" ++
    codes "decision 1.1.1 commit\n" ++
    codes "rows\n" ++
    codes "x a\n" ++
    codes "end\n"

-- its trace: the history, entry by entry, and a second `end`
abbrev pub one_write_trace : List ℕ
one_write_trace =
    codes "1 rise 1\n" ++
    codes "0 line 1\n" ++
    codes "1 step begin 1\n" ++
    codes "t 1.1.1 began 1\n" ++
    codes "0 line 2\n" ++
    codes "1 step do 1.1.1 write 1.x a\n" ++
    codes "t 1.1.1 op 1 written\n" ++
    codes "0 line 3\n" ++
    codes "1 step commit 1.1.1\n" ++
    codes "r vote 1.1.1 1\n" ++
    codes "r write 1 x a\n" ++
    codes "r attempt 1.1.1 1 commit\n" ++
    codes "r decision 1.1.1 commit\n" ++
    codes "t 1.1.1 committed\n" ++
    codes "end\n"
