-- A site restarts before it is asked for its vote: it votes no.
use Rattle.std.specs.Prelude.{◌++◌, ◌∷◌, [], ℕ, false, List, codes}
use Rattle.e3_types.specs.declared.transactions.Answer.TheVariants.{Value}
use Rattle.e3_types.specs.declared.transactions.Dir.TheVariants.{Abort}
use Rattle.e3_types.specs.declared.entries.Entry.{Entry}
use Rattle.e3_types.specs.declared.scenarios.Item.{Item}
use Rattle.e3_types.specs.declared.transactions.Op.TheVariants.{Read}
use Rattle.e3_types.specs.declared.messages.Packet.{Packet}
use Rattle.e3_types.specs.declared.scenarios.Scenario.{Scenario}
use Rattle.e3_types.specs.declared.transactions.Txn.{Txn}
use Rattle.e3_types.specs.declared.entries.Input.TheVariants as input
use Rattle.e3_types.specs.declared.scenarios.Item.TheVariants as item
use Rattle.e3_types.specs.declared.messages.Message.TheVariants as msg
use Rattle.e3_types.specs.declared.records.Record.TheVariants as log
use Rattle.e3_types.specs.declared.entries.Told.TheVariants as told
use Rattle.e3_worked.specs.Entries.{packet, line, rises, cut, takes, gets, asks_votes}
use Rattle.e3_worked.specs.Openings.{begun}
use Rattle.e3_worked.specs.Names.{one_by_one, txn, s1_2, key_2_x}
use Rattle.e3_worked.specs.Worked.{Outcome, one_row}

-- a scenario in which the transaction reads at site 2, which restarts; then these items come
abbrev pub restart_before : List Item → Scenario
restart_before items = record (one_by_one (1 ∷ 1 ∷ []) (
    item.Begin (codes "t") 1 s1_2 ∷
    item.Read (codes "t") key_2_x ∷
    item.Crash 2 ∷
    item.Restart 2 ∷
    items)) { rows = record { key = key_2_x; val = codes "a" } ∷ [] }

-- the scenario
abbrev pub restart_before_the_vote : Scenario
restart_before_the_vote = restart_before (item.Commit (codes "t") ∷ [])

-- its text
abbrev pub restart_before_the_vote_text : List ℕ
restart_before_the_vote_text =
    codes "# A site answers a read, loses its power and rises. It has forgotten the read, so it refuses its vote, and the\n" ++
    codes "# transaction aborts.\n" ++
    codes "weights = [1, 1]\n" ++
    codes "rows = [\"2.x a\"]\n" ++
    codes "steps = [\n" ++
    codes "  \"begin t 1 1,2\",\n" ++
    codes "  \"read t 2.x\",\n" ++
    codes "  \"crash 2\",\n" ++
    codes "  \"restart 2\",\n" ++
    codes "  \"commit t\",\n" ++
    codes "]\n"

-- its transaction
abbrev pub t1_1_1 : Txn
t1_1_1 = txn 1 1 s1_2

-- the read and its answer, in packets 1 and 2
abbrev pub p1 : Packet
p1 = packet 1 1 2 (msg.Do t1_1_1 1 (Read key_2_x))

abbrev pub p2 : Packet
p2 = packet 2 2 1 (msg.Done t1_1_1 1 1 (Value (codes "a")))

-- its history up to the line behind the restart, entry by entry
abbrev pub until_the_restart : List Entry
until_the_restart =
    begun t1_1_1 ++
    takes 1 (input.Do t1_1_1 (Read key_2_x)) [] (p1 ∷ []) [] ∷
    gets 2 p1 [] (p2 ∷ []) [] ∷
    gets 1 p2 [] [] (told.Op t1_1_1 1 (Value (codes "a")) ∷ []) ∷
    line 3 ∷
    cut 2 ∷
    line 4 ∷
    rises 2 2 ∷
    line 5 ∷
    []

-- its history, entry by entry
abbrev pub restart_before_the_vote_history : List Entry
restart_before_the_vote_history =
    let p3 = packet 3 1 2 (msg.VoteReq t1_1_1 1 1) in
    let p4 = packet 4 2 1 (msg.Vote t1_1_1 false) in
    let p5 = packet 5 1 2 (msg.Decide t1_1_1 Abort) in
    until_the_restart ++
    asks_votes t1_1_1 [] (p3 ∷ []) ∷
    gets 2 p3 (log.Decision t1_1_1 Abort ∷ []) (p4 ∷ []) [] ∷
    gets 1 p4 (log.Decision t1_1_1 Abort ∷ []) (p5 ∷ []) (told.Ended t1_1_1 Abort ∷ []) ∷
    gets 2 p5 [] [] [] ∷
    []

-- what it comes to
abbrev pub restart_before_the_vote_outcome : Outcome
restart_before_the_vote_outcome = record {
  order = [];
  tables = [] ∷ one_row (codes "x") (codes "a") ∷ [];
}

-- its report
abbrev pub restart_before_the_vote_report : List ℕ
restart_before_the_vote_report =
    codes "start\n" ++
    codes "1: rose 1\n" ++
    codes "2: rose 1\n" ++
    codes "step 1\n" ++
    codes "> begin t 1 1,2\n" ++
    codes "1: 1.1.1 began 1,2\n" ++
    codes "step 2\n" ++
    codes "> read t 2.x\n" ++
    codes "1: 1.1.1 op 1 value a\n" ++
    codes "step 3\n" ++
    codes "> crash 2\n" ++
    codes "2: cut\n" ++
    codes "step 4\n" ++
    codes "> restart 2\n" ++
    codes "2: rose 2\n" ++
    codes "step 5\n" ++
    codes "> commit t\n" ++
    codes "1: 1.1.1 aborted\n" ++
    codes "order\n" ++
    codes "site 1 up 1\n" ++
    codes "log\n" ++
    codes "birth 1 1,1\n" ++
    codes "inc 1\n" ++
    codes "vote 1.1.1 0\n" ++
    codes "decision 1.1.1 abort\n" ++
    codes "rows\n" ++
    codes "site 2 up 2\n" ++
    codes "log\n" ++
    codes "birth 1 1,1\n" ++
    codes "row x a\n" ++
    codes "inc 1\n" ++
    codes "inc 2\n" ++
    codes "decision 1.1.1 abort\n" ++
    codes "rows\n" ++
    codes "x a\n" ++
    codes "end\n"

-- its trace: the history, entry by entry, and a second `end`
abbrev pub restart_before_the_vote_trace : List ℕ
restart_before_the_vote_trace =
    codes "1 rise 1\n" ++
    codes "2 rise 1\n" ++
    codes "0 line 1\n" ++
    codes "1 step begin 1,2\n" ++
    codes "t 1.1.1 began 1,2\n" ++
    codes "0 line 2\n" ++
    codes "1 step do 1.1.1 read 2.x\n" ++
    codes "o 1 2 do 1.1.1 1 read 2.x\n" ++
    codes "2 step deliver 1\n" ++
    codes "o 2 1 done 1.1.1 1 1 value a\n" ++
    codes "1 step deliver 2\n" ++
    codes "t 1.1.1 op 1 value a\n" ++
    codes "0 line 3\n" ++
    codes "2 cut\n" ++
    codes "0 line 4\n" ++
    codes "2 rise 2\n" ++
    codes "0 line 5\n" ++
    codes "1 step commit 1.1.1\n" ++
    codes "r vote 1.1.1 0\n" ++
    codes "o 3 2 votereq 1.1.1 1 1\n" ++
    codes "2 step deliver 3\n" ++
    codes "r decision 1.1.1 abort\n" ++
    codes "o 4 1 vote 1.1.1 no\n" ++
    codes "1 step deliver 4\n" ++
    codes "r decision 1.1.1 abort\n" ++
    codes "o 5 2 decide 1.1.1 abort\n" ++
    codes "t 1.1.1 aborted\n" ++
    codes "2 step deliver 5\n" ++
    codes "end\n"
