-- A lock is raised from shared to exclusive: the older transaction waits, the younger dies.
use Rattle.std.specs.Prelude.{◌++◌, ◌∷◌, [], ℕ, List, codes}
use Rattle.e3_types.specs.declared.transactions.Answer.TheVariants.{Value, Written}
use Rattle.e3_types.specs.declared.transactions.Dir.TheVariants.{Abort}
use Rattle.e3_types.specs.declared.entries.Entry.{Entry}
use Rattle.e3_types.specs.declared.transactions.Op.TheVariants.{Read, Write}
use Rattle.e3_types.specs.declared.scenarios.Scenario.{Scenario}
use Rattle.e3_types.specs.declared.transactions.Txn.{Txn}
use Rattle.e3_types.specs.declared.entries.Input.TheVariants as input
use Rattle.e3_types.specs.declared.scenarios.Item.TheVariants as item
use Rattle.e3_types.specs.declared.records.Record.TheVariants as log
use Rattle.e3_types.specs.declared.entries.Told.TheVariants as told
use Rattle.e3_worked.specs.Entries.{operation, line, takes, begins, local_operation, commits_alone}
use Rattle.e3_worked.specs.Openings.{begun}
use Rattle.e3_worked.specs.Names.{one_by_one, txn, s1, key_1_x}
use Rattle.e3_worked.specs.Worked.{Outcome, one_row}

-- the scenario
abbrev pub upgrade_waits : Scenario
upgrade_waits = record (one_by_one (1 ∷ []) (
    item.Begin (codes "t") 1 s1 ∷
    item.Begin (codes "u") 1 s1 ∷
    item.Read (codes "t") key_1_x ∷
    item.Read (codes "u") key_1_x ∷
    item.Write (codes "t") key_1_x (codes "b") ∷
    item.Write (codes "u") key_1_x (codes "c") ∷
    item.Commit (codes "t") ∷
    [])) { rows = record { key = key_1_x; val = codes "a" } ∷ [] }

-- its text
abbrev pub upgrade_waits_text : List ℕ
upgrade_waits_text =
    codes "# Two transactions share the lock of a record, and both want to write it: the older one waits, the younger one\n" ++
    codes "# dies.\n" ++
    codes "weights = [1]\n" ++
    codes "rows = [\"1.x a\"]\n" ++
    codes "steps = [\n" ++
    codes "  \"begin t 1 1\",\n" ++
    codes "  \"begin u 1 1\",\n" ++
    codes "  \"read t 1.x\",\n" ++
    codes "  \"read u 1.x\",\n" ++
    codes "  \"write t 1.x b\",\n" ++
    codes "  \"write u 1.x c\",\n" ++
    codes "  \"commit t\",\n" ++
    codes "]\n"

-- its transactions
abbrev pub t1_1_1 : Txn
t1_1_1 = txn 1 1 s1

abbrev pub t1_1_2 : Txn
t1_1_2 = txn 1 2 s1

-- its history, entry by entry
abbrev pub upgrade_waits_history : List Entry
upgrade_waits_history =
    begun t1_1_1 ++
    begins t1_1_2 ∷
    line 3 ∷
    local_operation t1_1_1 1 (Read key_1_x) (Value (codes "a")) ∷
    line 4 ∷
    local_operation t1_1_2 1 (Read key_1_x) (Value (codes "a")) ∷
    line 5 ∷
    takes 1 (input.Do t1_1_1 (Write key_1_x (codes "b"))) [] [] [] ∷
    line 6 ∷
    takes 1 (input.Do t1_1_2 (Write key_1_x (codes "c"))) (log.Decision t1_1_2 Abort ∷ []) [] (told.Died t1_1_2 t1_1_1 ∷ told.Op t1_1_1 2 Written ∷ []) ∷
    line 7 ∷
    commits_alone t1_1_1 (operation 1 (Read key_1_x) ∷ operation 2 (Write key_1_x (codes "b")) ∷ []) ∷
    []

-- what it comes to
abbrev pub upgrade_waits_outcome : Outcome
upgrade_waits_outcome = record {
  order = t1_1_1 ∷ [];
  tables = one_row (codes "x") (codes "b") ∷ [];
}

-- its report
abbrev pub upgrade_waits_report : List ℕ
upgrade_waits_report =
    codes "start\n" ++
    codes "1: rose 1\n" ++
    codes "step 1\n" ++
    codes "> begin t 1 1\n" ++
    codes "1: 1.1.1 began 1\n" ++
    codes "step 2\n" ++
    codes "> begin u 1 1\n" ++
    codes "1: 1.1.2 began 1\n" ++
    codes "step 3\n" ++
    codes "> read t 1.x\n" ++
    codes "1: 1.1.1 op 1 value a\n" ++
    codes "step 4\n" ++
    codes "> read u 1.x\n" ++
    codes "1: 1.1.2 op 1 value a\n" ++
    codes "step 5\n" ++
    codes "> write t 1.x b\n" ++
    codes "step 6\n" ++
    codes "> write u 1.x c\n" ++
    codes "1: 1.1.2 died for 1.1.1\n" ++
    codes "1: 1.1.1 op 2 written\n" ++
    codes "step 7\n" ++
    codes "> commit t\n" ++
    codes "1: 1.1.1 committed\n" ++
    codes "order\n" ++
    codes "1.1.1\n" ++
    codes "site 1 up 1\n" ++
    codes "log\n" ++
    codes "birth 1 1\n" ++
    codes "row x a\n" ++
    codes "inc 1\n" ++
    codes "decision 1.1.2 abort\n" ++
    codes "vote 1.1.1 2\n" ++
    codes "read 1 x\n" ++
    codes "write 2 x b\n" ++
    codes "attempt 1.1.1 1 commit\n" ++
    codes "decision 1.1.1 commit\n" ++
    codes "rows\n" ++
    codes "x b\n" ++
    codes "end\n"

-- its trace: the history, entry by entry, and a second `end`
abbrev pub upgrade_waits_trace : List ℕ
upgrade_waits_trace =
    codes "1 rise 1\n" ++
    codes "0 line 1\n" ++
    codes "1 step begin 1\n" ++
    codes "t 1.1.1 began 1\n" ++
    codes "0 line 2\n" ++
    codes "1 step begin 1\n" ++
    codes "t 1.1.2 began 1\n" ++
    codes "0 line 3\n" ++
    codes "1 step do 1.1.1 read 1.x\n" ++
    codes "t 1.1.1 op 1 value a\n" ++
    codes "0 line 4\n" ++
    codes "1 step do 1.1.2 read 1.x\n" ++
    codes "t 1.1.2 op 1 value a\n" ++
    codes "0 line 5\n" ++
    codes "1 step do 1.1.1 write 1.x b\n" ++
    codes "0 line 6\n" ++
    codes "1 step do 1.1.2 write 1.x c\n" ++
    codes "r decision 1.1.2 abort\n" ++
    codes "t 1.1.2 died for 1.1.1\n" ++
    codes "t 1.1.1 op 2 written\n" ++
    codes "0 line 7\n" ++
    codes "1 step commit 1.1.1\n" ++
    codes "r vote 1.1.1 2\n" ++
    codes "r read 1 x\n" ++
    codes "r write 2 x b\n" ++
    codes "r attempt 1.1.1 1 commit\n" ++
    codes "r decision 1.1.1 commit\n" ++
    codes "t 1.1.1 committed\n" ++
    codes "end\n"
