-- Every packet is lost: calls are refused as busy, a cancel aborts, and a later commit is refused as over.
use Rattle.std.specs.Prelude.{◌++◌, ◌∷◌, [], ℕ, List, codes}
use Rattle.e3_types.specs.declared.transactions.Dir.TheVariants.{Abort}
use Rattle.e3_types.specs.declared.entries.Entry.{Entry}
use Rattle.e3_types.specs.declared.transactions.Op.TheVariants.{Read}
use Rattle.e3_types.specs.declared.messages.Packet.{Packet}
use Rattle.e3_types.specs.declared.scenarios.Scenario.{Scenario}
use Rattle.e3_types.specs.declared.transactions.Txn.{Txn}
use Rattle.e3_types.specs.declared.entries.Input.TheVariants as input
use Rattle.e3_types.specs.declared.scenarios.Item.TheVariants as item
use Rattle.e3_types.specs.declared.messages.Message.TheVariants as msg
use Rattle.e3_types.specs.declared.records.Record.TheVariants as log
use Rattle.e3_types.specs.declared.entries.Refusal.TheVariants as refusal
use Rattle.e3_types.specs.declared.entries.Told.TheVariants as told
use Rattle.e3_worked.specs.Entries.{packet, line, takes}
use Rattle.e3_worked.specs.Openings.{begun}
use Rattle.e3_worked.specs.Names.{one_by_one, txn, s1_2, key_1_y, key_2_x}

-- the scenario
abbrev pub busy_cancel_over : Scenario
busy_cancel_over = record (one_by_one (1 ∷ 1 ∷ []) (
    item.Begin (codes "t") 1 s1_2 ∷
    item.Read (codes "t") key_2_x ∷
    item.Read (codes "t") key_1_y ∷
    item.Commit (codes "t") ∷
    item.Cancel (codes "t") ∷
    item.Commit (codes "t") ∷
    [])) { loss = 100 }

-- its text
abbrev pub busy_cancel_over_text : List ℕ
busy_cancel_over_text =
    codes "# Every packet is lost, so an operation of another site is never answered: the client's next calls are refused\n" ++
    codes "# as busy, a cancel is taken, and a commit behind it is refused as over.\n" ++
    codes "weights = [1, 1]\n" ++
    codes "loss = 100\n" ++
    codes "steps = [\n" ++
    codes "  \"begin t 1 1,2\",\n" ++
    codes "  \"read t 2.x\",\n" ++
    codes "  \"read t 1.y\",\n" ++
    codes "  \"commit t\",\n" ++
    codes "  \"cancel t\",\n" ++
    codes "  \"commit t\",\n" ++
    codes "]\n"

-- its transaction
abbrev pub t1_1_1 : Txn
t1_1_1 = txn 1 1 s1_2

-- the request for the read, which is lost
abbrev pub p1 : Packet
p1 = packet 1 1 2 (msg.Do t1_1_1 1 (Read key_2_x))

-- its history, entry by entry
abbrev pub busy_cancel_over_history : List Entry
busy_cancel_over_history =
    let p2 = packet 2 1 2 (msg.Decide t1_1_1 Abort) in
    begun t1_1_1 ++
    takes 1 (input.Do t1_1_1 (Read key_2_x)) [] (p1 ∷ []) [] ∷
    line 3 ∷
    takes 1 (input.Do t1_1_1 (Read key_1_y)) [] [] (told.Refused t1_1_1 (refusal.Busy 1) ∷ []) ∷
    line 4 ∷
    takes 1 (input.Commit t1_1_1) [] [] (told.Refused t1_1_1 (refusal.Busy 1) ∷ []) ∷
    line 5 ∷
    takes 1 (input.Cancel t1_1_1) (log.Decision t1_1_1 Abort ∷ []) (p2 ∷ []) (told.Ended t1_1_1 Abort ∷ []) ∷
    line 6 ∷
    takes 1 (input.Commit t1_1_1) [] [] (told.Refused t1_1_1 (refusal.Over Abort) ∷ []) ∷
    []

-- its report
abbrev pub busy_cancel_over_report : List ℕ
busy_cancel_over_report =
    codes "start\n" ++
    codes "1: rose 1\n" ++
    codes "2: rose 1\n" ++
    codes "step 1\n" ++
    codes "> begin t 1 1,2\n" ++
    codes "1: 1.1.1 began 1,2\n" ++
    codes "step 2\n" ++
    codes "> read t 2.x\n" ++
    codes "step 3\n" ++
    codes "> read t 1.y\n" ++
    codes "1: 1.1.1 refused busy 1\n" ++
    codes "step 4\n" ++
    codes "> commit t\n" ++
    codes "1: 1.1.1 refused busy 1\n" ++
    codes "step 5\n" ++
    codes "> cancel t\n" ++
    codes "1: 1.1.1 aborted\n" ++
    codes "step 6\n" ++
    codes "> commit t\n" ++
    codes "1: 1.1.1 refused over abort\n" ++
    codes "order\n" ++
    codes "site 1 up 1\n" ++
    codes "log\n" ++
    codes "birth 1 1,1\n" ++
    codes "inc 1\n" ++
    codes "decision 1.1.1 abort\n" ++
    codes "rows\n" ++
    codes "site 2 up 1\n" ++
    codes "log\n" ++
    codes "birth 1 1,1\n" ++
    codes "inc 1\n" ++
    codes "rows\n" ++
    codes "end\n"

-- its trace: the history, entry by entry, and a second `end`
abbrev pub busy_cancel_over_trace : List ℕ
busy_cancel_over_trace =
    codes "1 rise 1\n" ++
    codes "2 rise 1\n" ++
    codes "0 line 1\n" ++
    codes "1 step begin 1,2\n" ++
    codes "t 1.1.1 began 1,2\n" ++
    codes "0 line 2\n" ++
    codes "1 step do 1.1.1 read 2.x\n" ++
    codes "o 1 2 do 1.1.1 1 read 2.x\n" ++
    codes "0 line 3\n" ++
    codes "1 step do 1.1.1 read 1.y\n" ++
    codes "t 1.1.1 refused busy 1\n" ++
    codes "0 line 4\n" ++
    codes "1 step commit 1.1.1\n" ++
    codes "t 1.1.1 refused busy 1\n" ++
    codes "0 line 5\n" ++
    codes "1 step cancel 1.1.1\n" ++
    codes "r decision 1.1.1 abort\n" ++
    codes "o 2 2 decide 1.1.1 abort\n" ++
    codes "t 1.1.1 aborted\n" ++
    codes "0 line 6\n" ++
    codes "1 step commit 1.1.1\n" ++
    codes "t 1.1.1 refused over abort\n" ++
    codes "end\n"
