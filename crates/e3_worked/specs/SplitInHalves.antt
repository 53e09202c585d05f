-- A split in halves blocks a commit; after the merge a recovery ends it.
use Rattle.std.specs.Prelude.{◌++◌, ◌∷◌, [], ℕ, true, List, codes}
use Rattle.e3_types.specs.declared.transactions.Dir.TheVariants.{Abort}
use Rattle.e3_types.specs.declared.entries.Entry.{Entry}
use Rattle.e3_types.specs.declared.transactions.Op.TheVariants.{Write}
use Rattle.e3_types.specs.declared.messages.Packet.{Packet}
use Rattle.e3_types.specs.declared.scenarios.Scenario.{Scenario}
use Rattle.e3_types.specs.declared.transactions.State.TheVariants.{Q, W}
use Rattle.e3_types.specs.declared.transactions.Txn.{Txn}
use Rattle.e3_types.specs.declared.entries.Input.TheVariants as input
use Rattle.e3_types.specs.declared.scenarios.Item.TheVariants as item
use Rattle.e3_types.specs.declared.messages.Message.TheVariants as msg
use Rattle.e3_types.specs.declared.records.Record.TheVariants as log
use Rattle.e3_types.specs.declared.entries.Told.TheVariants as told
use Rattle.e3_types.specs.declared.verdicts.Verdict.TheVariants as verdict
use Rattle.e3_worked.specs.Entries.{packet, call, operation, line, parts, takes, gets, asks_votes}
use Rattle.e3_worked.specs.Openings.{written_here}
use Rattle.e3_worked.specs.Elections.{Election, reported, elects_and_attempts, all_follow}
use Rattle.e3_worked.specs.Names.{one_by_one, txn, s1_2, s3_4, s1_2_3_4, key_1_x}

-- the scenario
abbrev pub split_in_halves : Scenario
split_in_halves = one_by_one (1 ∷ 1 ∷ 1 ∷ 1 ∷ []) (
    item.Begin (codes "t") 1 s1_2_3_4 ∷
    item.Write (codes "t") key_1_x (codes "a") ∷
    item.Split (s1_2 ∷ s3_4 ∷ []) ∷
    item.Commit (codes "t") ∷
    item.Recover s1_2 ∷
    item.Recover s3_4 ∷
    item.Merge ∷
    item.Recover s1_2_3_4 ∷
    [])

-- its text
abbrev pub split_in_halves_text : List ℕ
split_in_halves_text =
    codes "# The network is cut into halves of equal weight. Neither is a quorum, so the recovery of one blocks, and the\n" ++
    codes "# other has nothing open. The whole network aborts.\n" ++
    codes "weights = [1, 1, 1, 1]\n" ++
    codes "steps = [\n" ++
    codes "  \"begin t 1 1,2,3,4\",\n" ++
    codes "  \"write t 1.x a\",\n" ++
    codes "  \"split 1,2|3,4\",\n" ++
    codes "  \"commit t\",\n" ++
    codes "  \"recover 1,2\",\n" ++
    codes "  \"recover 3,4\",\n" ++
    codes "  \"merge\",\n" ++
    codes "  \"recover 1,2,3,4\",\n" ++
    codes "]\n"

-- its transaction
abbrev pub t1_1_1 : Txn
t1_1_1 = txn 1 1 s1_2_3_4

-- the packets up to the merge, by their numbers
abbrev pub p1 : Packet
p1 = packet 1 1 2 (msg.VoteReq t1_1_1 0 0)

abbrev pub p2 : Packet
p2 = packet 2 1 3 (msg.VoteReq t1_1_1 0 0)

abbrev pub p3 : Packet
p3 = packet 3 1 4 (msg.VoteReq t1_1_1 0 0)

abbrev pub p4 : Packet
p4 = packet 4 2 1 (msg.Vote t1_1_1 true)

abbrev pub p5 : Packet
p5 = packet 5 1 2 (msg.Ask t1_1_1 (call 1 1))

abbrev pub p6 : Packet
p6 = packet 6 2 1 (msg.LastElected t1_1_1 (call 1 1) 1)

abbrev pub p7 : Packet
p7 = packet 7 1 2 (msg.Elected t1_1_1 2)

abbrev pub p8 : Packet
p8 = packet 8 2 1 (msg.Report t1_1_1 2 W 0)

-- the election of the last recovery, which is a quorum's: packets 9 to 29
abbrev pub recovery : Election
recovery = record {
  txn = t1_1_1;
  elector = 1;
  others = 2 ∷ 3 ∷ 4 ∷ [];
  call = call 1 2;
  first = 9;
  joined = 2 ∷ 1 ∷ 1 ∷ [];
  number = 3;
  states = reported W 0 ∷ reported Q 0 ∷ reported Q 0 ∷ [];
}

-- its history, entry by entry up to the last recovery, which has entries 24 to 45, counted from 0
abbrev pub split_in_halves_history : List Entry
split_in_halves_history =
    written_here t1_1_1 ++
    parts (s1_2 ∷ s3_4 ∷ []) ∷
    line 4 ∷
    asks_votes t1_1_1 (operation 1 (Write key_1_x (codes "a")) ∷ []) (p1 ∷ p2 ∷ p3 ∷ []) ∷
    gets 2 p1 (log.Vote t1_1_1 [] ∷ []) (p4 ∷ []) [] ∷
    gets 1 p4 [] [] [] ∷
    line 5 ∷
    takes 1 (input.Elect t1_1_1 s1_2) [] (p5 ∷ []) [] ∷
    gets 2 p5 [] (p6 ∷ []) [] ∷
    gets 1 p6 (log.Join t1_1_1 2 ∷ []) (p7 ∷ []) [] ∷
    gets 2 p7 (log.Join t1_1_1 2 ∷ []) (p8 ∷ []) [] ∷
    gets 1 p8 [] [] (told.Verdict t1_1_1 2 (verdict.Block 2 4) ∷ []) ∷
    line 6 ∷
    line 7 ∷
    parts (s1_2_3_4 ∷ []) ∷
    line 8 ∷
    elects_and_attempts recovery Abort verdict.PreAbort ++
    all_follow recovery 2 Abort (told.Ended t1_1_1 Abort ∷ [])

-- its report
abbrev pub split_in_halves_report : List ℕ
split_in_halves_report =
    codes "start\n" ++
    codes "1: rose 1\n" ++
    codes "2: rose 1\n" ++
    codes "3: rose 1\n" ++
    codes "4: rose 1\n" ++
    codes "step 1\n" ++
    codes "> begin t 1 1,2,3,4\n" ++
    codes "1: 1.1.1 began 1,2,3,4\n" ++
    codes "step 2\n" ++
    codes "> write t 1.x a\n" ++
    codes "1: 1.1.1 op 1 written\n" ++
    codes "step 3\n" ++
    codes "> split 1,2|3,4\n" ++
    codes "step 4\n" ++
    codes "> commit t\n" ++
    codes "step 5\n" ++
    codes "> recover 1,2\n" ++
    codes "1: 1.1.1 election 2 block 2 of 4\n" ++
    codes "step 6\n" ++
    codes "> recover 3,4\n" ++
    codes "step 7\n" ++
    codes "> merge\n" ++
    codes "step 8\n" ++
    codes "> recover 1,2,3,4\n" ++
    codes "1: 1.1.1 election 3 pre-abort\n" ++
    codes "1: 1.1.1 aborted\n" ++
    codes "order\n" ++
    codes "site 1 up 1\n" ++
    codes "log\n" ++
    codes "birth 1 1,1,1,1\n" ++
    codes "inc 1\n" ++
    codes "vote 1.1.1 1\n" ++
    codes "write 1 x a\n" ++
    codes "join 1.1.1 2\n" ++
    codes "join 1.1.1 3\n" ++
    codes "attempt 1.1.1 3 abort\n" ++
    codes "decision 1.1.1 abort\n" ++
    codes "rows\n" ++
    codes "site 2 up 1\n" ++
    codes "log\n" ++
    codes "birth 1 1,1,1,1\n" ++
    codes "inc 1\n" ++
    codes "vote 1.1.1 0\n" ++
    codes "join 1.1.1 2\n" ++
    codes "join 1.1.1 3\n" ++
    codes "attempt 1.1.1 3 abort\n" ++
    codes "decision 1.1.1 abort\n" ++
    codes "rows\n" ++
    codes "site 3 up 1\n" ++
    codes "log\n" ++
    codes "birth 1 1,1,1,1\n" ++
    codes "inc 1\n" ++
    codes "join 1.1.1 3\n" ++
    codes "attempt 1.1.1 3 abort\n" ++
    codes "decision 1.1.1 abort\n" ++
    codes "rows\n" ++
    codes "site 4 up 1\n" ++
    codes "log\n" ++
    codes "birth 1 1,1,1,1\n" ++
    codes "inc 1\n" ++
    codes "join 1.1.1 3\n" ++
    codes "attempt 1.1.1 3 abort\n" ++
    codes "decision 1.1.1 abort\n" ++
    codes "rows\n" ++
    codes "end\n"

-- its trace: the history, entry by entry, and a second `end`
abbrev pub split_in_halves_trace : List ℕ
split_in_halves_trace =
    codes "1 rise 1\n" ++
    codes "2 rise 1\n" ++
    codes "3 rise 1\n" ++
    codes "4 rise 1\n" ++
    codes "0 line 1\n" ++
    codes "1 step begin 1,2,3,4\n" ++
    codes "t 1.1.1 began 1,2,3,4\n" ++
    codes "0 line 2\n" ++
    codes "1 step do 1.1.1 write 1.x a\n" ++
    codes "t 1.1.1 op 1 written\n" ++
    codes "0 line 3\n" ++
    codes "0 parts 1,2|3,4\n" ++
    codes "0 line 4\n" ++
    codes "1 step commit 1.1.1\n" ++
    codes "r vote 1.1.1 1\n" ++
    codes "r write 1 x a\n" ++
    codes "o 1 2 votereq 1.1.1 0 0\n" ++
    codes "o 2 3 votereq 1.1.1 0 0\n" ++
    codes "o 3 4 votereq 1.1.1 0 0\n" ++
    codes "2 step deliver 1\n" ++
    codes "r vote 1.1.1 0\n" ++
    codes "o 4 1 vote 1.1.1 yes\n" ++
    codes "1 step deliver 4\n" ++
    codes "0 line 5\n" ++
    codes "1 step elect 1.1.1 1,2\n" ++
    codes "o 5 2 ask 1.1.1 1 1\n" ++
    codes "2 step deliver 5\n" ++
    codes "o 6 1 last 1.1.1 1 1 1\n" ++
    codes "1 step deliver 6\n" ++
    codes "r join 1.1.1 2\n" ++
    codes "o 7 2 elected 1.1.1 2\n" ++
    codes "2 step deliver 7\n" ++
    codes "r join 1.1.1 2\n" ++
    codes "o 8 1 report 1.1.1 2 w 0\n" ++
    codes "1 step deliver 8\n" ++
    codes "t 1.1.1 election 2 block 2 of 4\n" ++
    codes "0 line 6\n" ++
    codes "0 line 7\n" ++
    codes "0 parts 1,2,3,4\n" ++
    codes "0 line 8\n" ++
    codes "1 step elect 1.1.1 1,2,3,4\n" ++
    codes "o 9 2 ask 1.1.1 1 2\n" ++
    codes "o 10 3 ask 1.1.1 1 2\n" ++
    codes "o 11 4 ask 1.1.1 1 2\n" ++
    codes "2 step deliver 9\n" ++
    codes "o 12 1 last 1.1.1 1 2 2\n" ++
    codes "3 step deliver 10\n" ++
    codes "o 13 1 last 1.1.1 1 2 1\n" ++
    codes "4 step deliver 11\n" ++
    codes "o 14 1 last 1.1.1 1 2 1\n" ++
    codes "1 step deliver 12\n" ++
    codes "1 step deliver 13\n" ++
    codes "1 step deliver 14\n" ++
    codes "r join 1.1.1 3\n" ++
    codes "o 15 2 elected 1.1.1 3\n" ++
    codes "o 16 3 elected 1.1.1 3\n" ++
    codes "o 17 4 elected 1.1.1 3\n" ++
    codes "2 step deliver 15\n" ++
    codes "r join 1.1.1 3\n" ++
    codes "o 18 1 report 1.1.1 3 w 0\n" ++
    codes "3 step deliver 16\n" ++
    codes "r join 1.1.1 3\n" ++
    codes "o 19 1 report 1.1.1 3 q 0\n" ++
    codes "4 step deliver 17\n" ++
    codes "r join 1.1.1 3\n" ++
    codes "o 20 1 report 1.1.1 3 q 0\n" ++
    codes "1 step deliver 18\n" ++
    codes "1 step deliver 19\n" ++
    codes "1 step deliver 20\n" ++
    codes "r attempt 1.1.1 3 abort\n" ++
    codes "o 21 2 pre 1.1.1 3 abort\n" ++
    codes "o 22 3 pre 1.1.1 3 abort\n" ++
    codes "o 23 4 pre 1.1.1 3 abort\n" ++
    codes "t 1.1.1 election 3 pre-abort\n" ++
    codes "2 step deliver 21\n" ++
    codes "r attempt 1.1.1 3 abort\n" ++
    codes "o 24 1 ack 1.1.1 3 abort\n" ++
    codes "3 step deliver 22\n" ++
    codes "r attempt 1.1.1 3 abort\n" ++
    codes "o 25 1 ack 1.1.1 3 abort\n" ++
    codes "4 step deliver 23\n" ++
    codes "r attempt 1.1.1 3 abort\n" ++
    codes "o 26 1 ack 1.1.1 3 abort\n" ++
    codes "1 step deliver 24\n" ++
    codes "1 step deliver 25\n" ++
    codes "r decision 1.1.1 abort\n" ++
    codes "o 27 2 decide 1.1.1 abort\n" ++
    codes "o 28 3 decide 1.1.1 abort\n" ++
    codes "o 29 4 decide 1.1.1 abort\n" ++
    codes "t 1.1.1 aborted\n" ++
    codes "1 step deliver 26\n" ++
    codes "2 step deliver 27\n" ++
    codes "r decision 1.1.1 abort\n" ++
    codes "3 step deliver 28\n" ++
    codes "r decision 1.1.1 abort\n" ++
    codes "4 step deliver 29\n" ++
    codes "r decision 1.1.1 abort\n" ++
    codes "end\n"
