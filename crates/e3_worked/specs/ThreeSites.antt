-- Three transactions over three sites, all committed.
use Rattle.std.specs.Prelude.{◌++◌, ◌∷◌, [], ◌+◌, ℕ, List, codes}
use Rattle.e3_types.specs.declared.transactions.Answer.{Answer}
use Rattle.e3_types.specs.declared.transactions.Answer.TheVariants.{Value, Written}
use Rattle.e3_types.specs.declared.entries.Entry.{Entry}
use Rattle.e3_types.specs.declared.transactions.NumOp.{NumOp}
use Rattle.e3_types.specs.declared.transactions.Op.{Op}
use Rattle.e3_types.specs.declared.transactions.Op.TheVariants.{Read, Write}
use Rattle.e3_types.specs.declared.messages.Packet.{Packet}
use Rattle.e3_types.specs.declared.scenarios.Scenario.{Scenario}
use Rattle.e3_types.specs.declared.transactions.Txn.{Txn}
use Rattle.e3_types.specs.declared.scenarios.Item.TheVariants as item
use Rattle.e3_types.specs.declared.messages.Message.TheVariants as msg
use Rattle.e3_worked.specs.Entries.{packet, operation, line, begins, local_operation, remote_operation, asks_votes}
use Rattle.e3_worked.specs.Openings.{all_rise}
use Rattle.e3_worked.specs.Names.{one_by_one, txn, s1_2, s2_3, s1_2_3, key_1_ann, key_2_bob, key_3_cid}
use Rattle.e3_worked.specs.Worked.{Outcome, one_row}
use Rattle.e3_worked.specs.CommitRound.{behind_request}

-- the scenario
abbrev pub three_sites : Scenario
three_sites = record (one_by_one (1 ∷ 1 ∷ 1 ∷ []) (
    item.Begin (codes "a") 1 s1_2 ∷
    item.Read (codes "a") key_1_ann ∷
    item.Read (codes "a") key_2_bob ∷
    item.Write (codes "a") key_1_ann (codes "90") ∷
    item.Write (codes "a") key_2_bob (codes "60") ∷
    item.Commit (codes "a") ∷
    item.Begin (codes "b") 3 s2_3 ∷
    item.Write (codes "b") key_3_cid (codes "17") ∷
    item.Read (codes "b") key_2_bob ∷
    item.Commit (codes "b") ∷
    item.Begin (codes "c") 2 s1_2 ∷
    item.Read (codes "c") key_1_ann ∷
    item.Commit (codes "c") ∷
    [])) {
      rows = record { key = key_1_ann; val = codes "100" } ∷ record { key = key_2_bob; val = codes "50" } ∷ record { key = key_3_cid; val = codes "7" } ∷ [];
    }

-- its text
abbrev pub three_sites_text : List ℕ
three_sites_text =
    codes "# Three transactions over three sites, one after the other: each reads what the one before it wrote.\n" ++
    codes "weights = [1, 1, 1]\n" ++
    codes "rows = [\"1.ann 100\", \"2.bob 50\", \"3.cid 7\"]\n" ++
    codes "steps = [\n" ++
    codes "  \"begin a 1 1,2\",\n" ++
    codes "  \"read a 1.ann\",\n" ++
    codes "  \"read a 2.bob\",\n" ++
    codes "  \"write a 1.ann 90\",\n" ++
    codes "  \"write a 2.bob 60\",\n" ++
    codes "  \"commit a\",\n" ++
    codes "  \"begin b 3 2,3\",\n" ++
    codes "  \"write b 3.cid 17\",\n" ++
    codes "  \"read b 2.bob\",\n" ++
    codes "  \"commit b\",\n" ++
    codes "  \"begin c 2 1,2\",\n" ++
    codes "  \"read c 1.ann\",\n" ++
    codes "  \"commit c\",\n" ++
    codes "]\n"

-- its transactions
abbrev pub t1_1_1 : Txn
t1_1_1 = txn 1 1 s1_2

abbrev pub t3_1_1 : Txn
t3_1_1 = txn 3 1 s2_3

abbrev pub t2_1_1 : Txn
t2_1_1 = txn 2 1 s1_2

-- The history, by how an operation at another site goes, by what comes of a request for the vote of the one other site, and by
-- how many packets are sent in each.
abbrev pub three_transactions : (Txn → ℕ → Op → Answer → ℕ → List Entry) → (Txn → List NumOp → Packet → List Entry) → ℕ → ℕ → List Entry
three_transactions remote behind of_operation of_commit =
    let first_write = 1 + of_operation in
    let first_commit = first_write + of_operation in
    let second_read = first_commit + of_commit in
    let second_commit = second_read + of_operation in
    let third_read = second_commit + of_commit in
    let third_commit = third_read + of_operation in
    let first_request = packet first_commit 1 2 (msg.VoteReq t1_1_1 1 2) in
    let second_request = packet second_commit 3 2 (msg.VoteReq t3_1_1 1 1) in
    let third_request = packet third_commit 2 1 (msg.VoteReq t2_1_1 1 1) in
    all_rise s1_2_3 ++
    line 1 ∷
    begins t1_1_1 ∷
    line 2 ∷
    local_operation t1_1_1 1 (Read key_1_ann) (Value (codes "100")) ∷
    line 3 ∷
    remote t1_1_1 2 (Read key_2_bob) (Value (codes "50")) 1 ++
    line 4 ∷
    local_operation t1_1_1 3 (Write key_1_ann (codes "90")) Written ∷
    line 5 ∷
    remote t1_1_1 4 (Write key_2_bob (codes "60")) Written first_write ++
    line 6 ∷
    asks_votes t1_1_1 (operation 1 (Read key_1_ann) ∷ operation 3 (Write key_1_ann (codes "90")) ∷ []) (first_request ∷ []) ∷
    behind t1_1_1 (operation 2 (Read key_2_bob) ∷ operation 4 (Write key_2_bob (codes "60")) ∷ []) first_request ++
    line 7 ∷
    begins t3_1_1 ∷
    line 8 ∷
    local_operation t3_1_1 1 (Write key_3_cid (codes "17")) Written ∷
    line 9 ∷
    remote t3_1_1 2 (Read key_2_bob) (Value (codes "60")) second_read ++
    line 10 ∷
    asks_votes t3_1_1 (operation 1 (Write key_3_cid (codes "17")) ∷ []) (second_request ∷ []) ∷
    behind t3_1_1 (operation 2 (Read key_2_bob) ∷ []) second_request ++
    line 11 ∷
    begins t2_1_1 ∷
    line 12 ∷
    remote t2_1_1 1 (Read key_1_ann) (Value (codes "90")) third_read ++
    line 13 ∷
    asks_votes t2_1_1 [] (third_request ∷ []) ∷
    behind t2_1_1 (operation 1 (Read key_1_ann) ∷ []) third_request

-- its history: each commit goes as that of CommitRound
abbrev pub three_sites_history : List Entry
three_sites_history = three_transactions remote_operation behind_request 2 5

-- what it comes to
abbrev pub three_sites_outcome : Outcome
three_sites_outcome = record {
  order = t1_1_1 ∷ t3_1_1 ∷ t2_1_1 ∷ [];
  tables = one_row (codes "ann") (codes "90") ∷ one_row (codes "bob") (codes "60") ∷ one_row (codes "cid") (codes "17") ∷ [];
}

-- its report
abbrev pub three_sites_report : List ℕ
three_sites_report =
    codes "start\n" ++
    codes "1: rose 1\n" ++
    codes "2: rose 1\n" ++
    codes "3: rose 1\n" ++
    codes "step 1\n" ++
    codes "> begin a 1 1,2\n" ++
    codes "1: 1.1.1 began 1,2\n" ++
    codes "step 2\n" ++
    codes "> read a 1.ann\n" ++
    codes "1: 1.1.1 op 1 value 100\n" ++
    codes "step 3\n" ++
    codes "> read a 2.bob\n" ++
    codes "1: 1.1.1 op 2 value 50\n" ++
    codes "step 4\n" ++
    codes "> write a 1.ann 90\n" ++
    codes "1: 1.1.1 op 3 written\n" ++
    codes "step 5\n" ++
    codes "> write a 2.bob 60\n" ++
    codes "1: 1.1.1 op 4 written\n" ++
    codes "step 6\n" ++
    codes "> commit a\n" ++
    codes "1: 1.1.1 committed\n" ++
    codes "step 7\n" ++
    codes "> begin b 3 2,3\n" ++
    codes "3: 3.1.1 began 2,3\n" ++
    codes "step 8\n" ++
    codes "> write b 3.cid 17\n" ++
    codes "3: 3.1.1 op 1 written\n" ++
    codes "step 9\n" ++
    codes "> read b 2.bob\n" ++
    codes "3: 3.1.1 op 2 value 60\n" ++
    codes "step 10\n" ++
    codes "> commit b\n" ++
    codes "3: 3.1.1 committed\n" ++
    codes "step 11\n" ++
    codes "> begin c 2 1,2\n" ++
    codes "2: 2.1.1 began 1,2\n" ++
    codes "step 12\n" ++
    codes "> read c 1.ann\n" ++
    codes "2: 2.1.1 op 1 value 90\n" ++
    codes "step 13\n" ++
    codes "> commit c\n" ++
    codes "2: 2.1.1 committed\n" ++
    codes "order\n" ++
    codes "1.1.1\n" ++
    codes "3.1.1\n" ++
    codes "2.1.1\n" ++
    codes "site 1 up 1\n" ++
    codes "log\n" ++
    codes "birth 1 1,1,1\n" ++
    codes "row ann 100\n" ++
    codes "inc 1\n" ++
    codes "vote 1.1.1 2\n" ++
    codes "read 1 ann\n" ++
    codes "write 3 ann 90\n" ++
    codes "attempt 1.1.1 1 commit\n" ++
    codes "decision 1.1.1 commit\n" ++
    codes "vote 2.1.1 1\n" ++
    codes "read 1 ann\n" ++
    codes "attempt 2.1.1 1 commit\n" ++
    codes "decision 2.1.1 commit\n" ++
    codes "rows\n" ++
    codes "ann 90\n" ++
    codes "site 2 up 1\n" ++
    codes "log\n" ++
    codes "birth 1 1,1,1\n" ++
    codes "row bob 50\n" ++
    codes "inc 1\n" ++
    codes "vote 1.1.1 2\n" ++
    codes "read 2 bob\n" ++
    codes "write 4 bob 60\n" ++
    codes "attempt 1.1.1 1 commit\n" ++
    codes "decision 1.1.1 commit\n" ++
    codes "vote 3.1.1 1\n" ++
    codes "read 2 bob\n" ++
    codes "attempt 3.1.1 1 commit\n" ++
    codes "decision 3.1.1 commit\n" ++
    codes "vote 2.1.1 0\n" ++
    codes "attempt 2.1.1 1 commit\n" ++
    codes "decision 2.1.1 commit\n" ++
    codes "rows\n" ++
    codes "bob 60\n" ++
    codes "site 3 up 1\n" ++
    codes "log\n" ++
    codes "birth 1 1,1,1\n" ++
    codes "row cid 7\n" ++
    codes "inc 1\n" ++
    codes "vote 3.1.1 1\n" ++
    codes "write 1 cid 17\n" ++
    codes "attempt 3.1.1 1 commit\n" ++
    codes "decision 3.1.1 commit\n" ++
    codes "rows\n" ++
    codes "cid 17\n" ++
    codes "end\n"

-- its trace: the history, entry by entry, and a second `end`
abbrev pub three_sites_trace : List ℕ
three_sites_trace =
    codes "1 rise 1\n" ++
    codes "2 rise 1\n" ++
    codes "3 rise 1\n" ++
    codes "0 line 1\n" ++
    codes "1 step begin 1,2\n" ++
    codes "t 1.1.1 began 1,2\n" ++
    codes "0 line 2\n" ++
    codes "1 step do 1.1.1 read 1.ann\n" ++
    codes "t 1.1.1 op 1 value 100\n" ++
    codes "0 line 3\n" ++
    codes "1 step do 1.1.1 read 2.bob\n" ++
    codes "o 1 2 do 1.1.1 2 read 2.bob\n" ++
    codes "2 step deliver 1\n" ++
    codes "o 2 1 done 1.1.1 2 1 value 50\n" ++
    codes "1 step deliver 2\n" ++
    codes "t 1.1.1 op 2 value 50\n" ++
    codes "0 line 4\n" ++
    codes "1 step do 1.1.1 write 1.ann 90\n" ++
    codes "t 1.1.1 op 3 written\n" ++
    codes "0 line 5\n" ++
    codes "1 step do 1.1.1 write 2.bob 60\n" ++
    codes "o 3 2 do 1.1.1 4 write 2.bob 60\n" ++
    codes "2 step deliver 3\n" ++
    codes "o 4 1 done 1.1.1 4 1 written\n" ++
    codes "1 step deliver 4\n" ++
    codes "t 1.1.1 op 4 written\n" ++
    codes "0 line 6\n" ++
    codes "1 step commit 1.1.1\n" ++
    codes "r vote 1.1.1 2\n" ++
    codes "r read 1 ann\n" ++
    codes "r write 3 ann 90\n" ++
    codes "o 5 2 votereq 1.1.1 1 2\n" ++
    codes "2 step deliver 5\n" ++
    codes "r vote 1.1.1 2\n" ++
    codes "r read 2 bob\n" ++
    codes "r write 4 bob 60\n" ++
    codes "o 6 1 vote 1.1.1 yes\n" ++
    codes "1 step deliver 6\n" ++
    codes "r attempt 1.1.1 1 commit\n" ++
    codes "o 7 2 pre 1.1.1 1 commit\n" ++
    codes "2 step deliver 7\n" ++
    codes "r attempt 1.1.1 1 commit\n" ++
    codes "o 8 1 ack 1.1.1 1 commit\n" ++
    codes "1 step deliver 8\n" ++
    codes "r decision 1.1.1 commit\n" ++
    codes "o 9 2 decide 1.1.1 commit\n" ++
    codes "t 1.1.1 committed\n" ++
    codes "2 step deliver 9\n" ++
    codes "r decision 1.1.1 commit\n" ++
    codes "0 line 7\n" ++
    codes "3 step begin 2,3\n" ++
    codes "t 3.1.1 began 2,3\n" ++
    codes "0 line 8\n" ++
    codes "3 step do 3.1.1 write 3.cid 17\n" ++
    codes "t 3.1.1 op 1 written\n" ++
    codes "0 line 9\n" ++
    codes "3 step do 3.1.1 read 2.bob\n" ++
    codes "o 10 2 do 3.1.1 2 read 2.bob\n" ++
    codes "2 step deliver 10\n" ++
    codes "o 11 3 done 3.1.1 2 1 value 60\n" ++
    codes "3 step deliver 11\n" ++
    codes "t 3.1.1 op 2 value 60\n" ++
    codes "0 line 10\n" ++
    codes "3 step commit 3.1.1\n" ++
    codes "r vote 3.1.1 1\n" ++
    codes "r write 1 cid 17\n" ++
    codes "o 12 2 votereq 3.1.1 1 1\n" ++
    codes "2 step deliver 12\n" ++
    codes "r vote 3.1.1 1\n" ++
    codes "r read 2 bob\n" ++
    codes "o 13 3 vote 3.1.1 yes\n" ++
    codes "3 step deliver 13\n" ++
    codes "r attempt 3.1.1 1 commit\n" ++
    codes "o 14 2 pre 3.1.1 1 commit\n" ++
    codes "2 step deliver 14\n" ++
    codes "r attempt 3.1.1 1 commit\n" ++
    codes "o 15 3 ack 3.1.1 1 commit\n" ++
    codes "3 step deliver 15\n" ++
    codes "r decision 3.1.1 commit\n" ++
    codes "o 16 2 decide 3.1.1 commit\n" ++
    codes "t 3.1.1 committed\n" ++
    codes "2 step deliver 16\n" ++
    codes "r decision 3.1.1 commit\n" ++
    codes "0 line 11\n" ++
    codes "2 step begin 1,2\n" ++
    codes "t 2.1.1 began 1,2\n" ++
    codes "0 line 12\n" ++
    codes "2 step do 2.1.1 read 1.ann\n" ++
    codes "o 17 1 do 2.1.1 1 read 1.ann\n" ++
    codes "1 step deliver 17\n" ++
    codes "o 18 2 done 2.1.1 1 1 value 90\n" ++
    codes "2 step deliver 18\n" ++
    codes "t 2.1.1 op 1 value 90\n" ++
    codes "0 line 13\n" ++
    codes "2 step commit 2.1.1\n" ++
    codes "r vote 2.1.1 0\n" ++
    codes "o 19 1 votereq 2.1.1 1 1\n" ++
    codes "1 step deliver 19\n" ++
    codes "r vote 2.1.1 1\n" ++
    codes "r read 1 ann\n" ++
    codes "o 20 2 vote 2.1.1 yes\n" ++
    codes "2 step deliver 20\n" ++
    codes "r attempt 2.1.1 1 commit\n" ++
    codes "o 21 1 pre 2.1.1 1 commit\n" ++
    codes "1 step deliver 21\n" ++
    codes "r attempt 2.1.1 1 commit\n" ++
    codes "o 22 2 ack 2.1.1 1 commit\n" ++
    codes "2 step deliver 22\n" ++
    codes "r decision 2.1.1 commit\n" ++
    codes "o 23 1 decide 2.1.1 commit\n" ++
    codes "t 2.1.1 committed\n" ++
    codes "1 step deliver 23\n" ++
    codes "r decision 2.1.1 commit\n" ++
    codes "end\n"
