-- The older transaction waits for a lock; the younger dies.
use Rattle.std.specs.Prelude.{◌++◌, ◌∷◌, [], ℕ, List, codes, take}
use Rattle.e3_types.specs.declared.transactions.Answer.TheVariants.{Written, Absent}
use Rattle.e3_types.specs.declared.transactions.Dir.TheVariants.{Abort}
use Rattle.e3_types.specs.declared.entries.Entry.{Entry}
use Rattle.e3_types.specs.declared.transactions.Op.TheVariants.{Read, Write}
use Rattle.e3_types.specs.declared.scenarios.Scenario.{Scenario}
use Rattle.e3_types.specs.declared.transactions.Txn.{Txn}
use Rattle.e3_types.specs.declared.entries.Input.TheVariants as input
use Rattle.e3_types.specs.declared.scenarios.Item.TheVariants as item
use Rattle.e3_types.specs.declared.messages.Message.TheVariants as msg
use Rattle.e3_types.specs.declared.records.Record.TheVariants as log
use Rattle.e3_types.specs.declared.entries.Told.TheVariants as told
use Rattle.e3_worked.specs.Entries.{packet, operation, line, takes, gets, begins, local_operation, asks_votes}
use Rattle.e3_worked.specs.Openings.{begun}
use Rattle.e3_worked.specs.Names.{one_by_one, txn, s1_2, key_1_x, key_2_y}
use Rattle.e3_worked.specs.Worked.{Outcome, one_row}
use Rattle.e3_worked.specs.CommitRound.{behind_request}

-- the scenario
abbrev pub older_waits_younger_dies : Scenario
older_waits_younger_dies = one_by_one (1 ∷ 1 ∷ []) (
    item.Begin (codes "t") 1 s1_2 ∷
    item.Begin (codes "u") 2 s1_2 ∷
    item.Write (codes "t") key_1_x (codes "a") ∷
    item.Write (codes "u") key_2_y (codes "b") ∷
    item.Read (codes "t") key_2_y ∷
    item.Read (codes "u") key_1_x ∷
    item.Commit (codes "t") ∷
    [])

-- its text
abbrev pub older_waits_younger_dies_text : List ℕ
older_waits_younger_dies_text =
    codes "# Each of two transactions wants what the other has. The older one waits; the younger one dies and is told for\n" ++
    codes "# whom.\n" ++
    codes "weights = [1, 1]\n" ++
    codes "steps = [\n" ++
    codes "  \"begin t 1 1,2\",\n" ++
    codes "  \"begin u 2 1,2\",\n" ++
    codes "  \"write t 1.x a\",\n" ++
    codes "  \"write u 2.y b\",\n" ++
    codes "  \"read t 2.y\",\n" ++
    codes "  \"read u 1.x\",\n" ++
    codes "  \"commit t\",\n" ++
    codes "]\n"

-- its transactions
abbrev pub t1_1_1 : Txn
t1_1_1 = txn 1 1 s1_2

abbrev pub t2_1_1 : Txn
t2_1_1 = txn 2 1 s1_2

-- its history, entry by entry
abbrev pub older_waits_younger_dies_history : List Entry
older_waits_younger_dies_history =
    let p1 = packet 1 1 2 (msg.Do t1_1_1 2 (Read key_2_y)) in
    let p2 = packet 2 2 1 (msg.Do t2_1_1 2 (Read key_1_x)) in
    let p3 = packet 3 1 2 (msg.Died t2_1_1 2 t1_1_1) in
    let p4 = packet 4 2 1 (msg.Decide t2_1_1 Abort) in
    let p5 = packet 5 2 1 (msg.Done t1_1_1 2 1 Absent) in
    let p6 = packet 6 1 2 (msg.VoteReq t1_1_1 1 1) in
    begun t1_1_1 ++
    begins t2_1_1 ∷
    line 3 ∷
    local_operation t1_1_1 1 (Write key_1_x (codes "a")) Written ∷
    line 4 ∷
    local_operation t2_1_1 1 (Write key_2_y (codes "b")) Written ∷
    line 5 ∷
    takes 1 (input.Do t1_1_1 (Read key_2_y)) [] (p1 ∷ []) [] ∷
    gets 2 p1 [] [] [] ∷
    line 6 ∷
    takes 2 (input.Do t2_1_1 (Read key_1_x)) [] (p2 ∷ []) [] ∷
    gets 1 p2 (log.Decision t2_1_1 Abort ∷ []) (p3 ∷ []) [] ∷
    gets 2 p3 (log.Decision t2_1_1 Abort ∷ []) (p4 ∷ p5 ∷ []) (told.Died t2_1_1 t1_1_1 ∷ []) ∷
    gets 1 p4 [] [] [] ∷
    gets 1 p5 [] [] (told.Op t1_1_1 2 Absent ∷ []) ∷
    line 7 ∷
    asks_votes t1_1_1 (operation 1 (Write key_1_x (codes "a")) ∷ []) (p6 ∷ []) ∷
    behind_request t1_1_1 (operation 2 (Read key_2_y) ∷ []) p6

-- its front up to the step in which the older transaction's read comes to the key that the younger one wrote
abbrev pub until_it_waits : List Entry
until_it_waits = take 13 older_waits_younger_dies_history

-- what it comes to
abbrev pub older_waits_younger_dies_outcome : Outcome
older_waits_younger_dies_outcome = record {
  order = t1_1_1 ∷ [];
  tables = one_row (codes "x") (codes "a") ∷ [] ∷ [];
}

-- its report
abbrev pub older_waits_younger_dies_report : List ℕ
older_waits_younger_dies_report =
    codes "start\n" ++
    codes "1: rose 1\n" ++
    codes "2: rose 1\n" ++
    codes "step 1\n" ++
    codes "> begin t 1 1,2\n" ++
    codes "1: 1.1.1 began 1,2\n" ++
    codes "step 2\n" ++
    codes "> begin u 2 1,2\n" ++
    codes "2: 2.1.1 began 1,2\n" ++
    codes "step 3\n" ++
    codes "> write t 1.x a\n" ++
    codes "1: 1.1.1 op 1 written\n" ++
    codes "step 4\n" ++
    codes "> write u 2.y b\n" ++
    codes "2: 2.1.1 op 1 written\n" ++
    codes "step 5\n" ++
    codes "> read t 2.y\n" ++
    codes "step 6\n" ++
    codes "> read u 1.x\n" ++
    codes "1: 1.1.1 op 2 absent\n" ++
    codes "2: 2.1.1 died for 1.1.1\n" ++
    codes "step 7\n" ++
    codes "> commit t\n" ++
    codes "1: 1.1.1 committed\n" ++
    codes "order\n" ++
    codes "1.1.1\n" ++
    codes "site 1 up 1\n" ++
    codes "log\n" ++
    codes "birth 1 1,1\n" ++
    codes "inc 1\n" ++
    codes "decision 2.1.1 abort\n" ++
    codes "vote 1.1.1 1\n" ++
    codes "write 1 x a\n" ++
    codes "attempt 1.1.1 1 commit\n" ++
    codes "decision 1.1.1 commit\n" ++
    codes "rows\n" ++
    codes "x a\n" ++
    codes "site 2 up 1\n" ++
    codes "log\n" ++
    codes "birth 1 1,1\n" ++
    codes "inc 1\n" ++
    codes "decision 2.1.1 abort\n" ++
    codes "vote 1.1.1 1\n" ++
    codes "read 2 y\n" ++
    codes "attempt 1.1.1 1 commit\n" ++
    codes "decision 1.1.1 commit\n" ++
    codes "rows\n" ++
    codes "end\n"
