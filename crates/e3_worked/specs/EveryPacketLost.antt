-- Every packet is lost; in a recovery, where the network is calm, the sites abort.
use Rattle.std.specs.Prelude.{◌++◌, ◌∷◌, [], ℕ, List, codes}
use Rattle.e3_types.specs.declared.transactions.Dir.TheVariants.{Abort}
use Rattle.e3_types.specs.declared.entries.Entry.{Entry}
use Rattle.e3_types.specs.declared.transactions.Op.TheVariants.{Write}
use Rattle.e3_types.specs.declared.messages.Packet.{Packet}
use Rattle.e3_types.specs.declared.scenarios.Scenario.{Scenario}
use Rattle.e3_types.specs.declared.transactions.State.TheVariants.{Q}
use Rattle.e3_types.specs.declared.transactions.Txn.{Txn}
use Rattle.e3_types.specs.declared.entries.Input.TheVariants as input
use Rattle.e3_types.specs.declared.scenarios.Item.TheVariants as item
use Rattle.e3_types.specs.declared.messages.Message.TheVariants as msg
use Rattle.e3_types.specs.declared.records.Record.TheVariants as log
use Rattle.e3_types.specs.declared.entries.Told.TheVariants as told
use Rattle.e3_types.specs.declared.verdicts.Verdict.TheVariants as verdict
use Rattle.e3_world.specs.Items.{RecoveryRound}
use Rattle.e3_worked.specs.Entries.{packet, call, operation, line, takes, gets, asks_votes}
use Rattle.e3_worked.specs.Openings.{written_here}
use Rattle.e3_worked.specs.Names.{one_by_one, txn, s1_2, key_1_x}

-- the scenario
abbrev pub every_packet_lost : Scenario
every_packet_lost = record (one_by_one (1 ∷ 1 ∷ []) (
    item.Begin (codes "t") 1 s1_2 ∷
    item.Write (codes "t") key_1_x (codes "a") ∷
    item.Commit (codes "t") ∷
    item.Recover s1_2 ∷
    [])) { loss = 100 }

-- its text
abbrev pub every_packet_lost_text : List ℕ
every_packet_lost_text =
    codes "# The request for a vote is lost, so the commit waits. A recovery, in which no packet is lost, aborts.\n" ++
    codes "weights = [1, 1]\n" ++
    codes "loss = 100\n" ++
    codes "steps = [\n" ++
    codes "  \"begin t 1 1,2\",\n" ++
    codes "  \"write t 1.x a\",\n" ++
    codes "  \"commit t\",\n" ++
    codes "  \"recover 1,2\",\n" ++
    codes "]\n"

-- its transaction
abbrev pub t1_1_1 : Txn
t1_1_1 = txn 1 1 s1_2

-- what the elector of its recovery asks
abbrev pub p2 : Packet
p2 = packet 2 1 2 (msg.Ask t1_1_1 (call 1 1))

-- the round of its recovery
abbrev pub recovery_round : RecoveryRound
recovery_round = record { txn = t1_1_1; members = s1_2; elector = 1 }

-- what is before its Elect
abbrev pub before_round : List Entry
before_round =
    let p1 = packet 1 1 2 (msg.VoteReq t1_1_1 0 0) in
    written_here t1_1_1 ++
    asks_votes t1_1_1 (operation 1 (Write key_1_x (codes "a")) ∷ []) (p1 ∷ []) ∷
    line 4 ∷
    []

-- what is behind it
abbrev pub behind_round : List Entry
behind_round =
    let p3 = packet 3 2 1 (msg.LastElected t1_1_1 (call 1 1) 1) in
    let p4 = packet 4 1 2 (msg.Elected t1_1_1 2) in
    let p5 = packet 5 2 1 (msg.Report t1_1_1 2 Q 0) in
    let p6 = packet 6 1 2 (msg.Pre t1_1_1 2 Abort) in
    let p7 = packet 7 2 1 (msg.Ack t1_1_1 2 Abort) in
    let p8 = packet 8 1 2 (msg.Decide t1_1_1 Abort) in
    gets 2 p2 [] (p3 ∷ []) [] ∷
    gets 1 p3 (log.Join t1_1_1 2 ∷ []) (p4 ∷ []) [] ∷
    gets 2 p4 (log.Join t1_1_1 2 ∷ []) (p5 ∷ []) [] ∷
    gets 1 p5 (log.Attempt t1_1_1 2 Abort ∷ []) (p6 ∷ []) (told.Verdict t1_1_1 2 verdict.PreAbort ∷ []) ∷
    gets 2 p6 (log.Attempt t1_1_1 2 Abort ∷ []) (p7 ∷ []) [] ∷
    gets 1 p7 (log.Decision t1_1_1 Abort ∷ []) (p8 ∷ []) (told.Ended t1_1_1 Abort ∷ []) ∷
    gets 2 p8 (log.Decision t1_1_1 Abort ∷ []) [] [] ∷
    []

-- its history, entry by entry
abbrev pub every_packet_lost_history : List Entry
every_packet_lost_history =
    before_round ++
    takes 1 (input.Elect t1_1_1 s1_2) [] (p2 ∷ []) [] ∷
    behind_round

-- its report
abbrev pub every_packet_lost_report : List ℕ
every_packet_lost_report =
    codes "start\n" ++
    codes "1: rose 1\n" ++
    codes "2: rose 1\n" ++
    codes "step 1\n" ++
    codes "> begin t 1 1,2\n" ++
    codes "1: 1.1.1 began 1,2\n" ++
    codes "step 2\n" ++
    codes "> write t 1.x a\n" ++
    codes "1: 1.1.1 op 1 written\n" ++
    codes "step 3\n" ++
    codes "> commit t\n" ++
    codes "step 4\n" ++
    codes "> recover 1,2\n" ++
    codes "1: 1.1.1 election 2 pre-abort\n" ++
    codes "1: 1.1.1 aborted\n" ++
    codes "order\n" ++
    codes "site 1 up 1\n" ++
    codes "log\n" ++
    codes "birth 1 1,1\n" ++
    codes "inc 1\n" ++
    codes "vote 1.1.1 1\n" ++
    codes "write 1 x a\n" ++
    codes "join 1.1.1 2\n" ++
    codes "attempt 1.1.1 2 abort\n" ++
    codes "decision 1.1.1 abort\n" ++
    codes "rows\n" ++
    codes "site 2 up 1\n" ++
    codes "log\n" ++
    codes "birth 1 1,1\n" ++
    codes "inc 1\n" ++
    codes "join 1.1.1 2\n" ++
    codes "attempt 1.1.1 2 abort\n" ++
    codes "decision 1.1.1 abort\n" ++
    codes "rows\n" ++
    codes "end\n"

-- its trace: the history, entry by entry, and a second `end`
abbrev pub every_packet_lost_trace : List ℕ
every_packet_lost_trace =
    codes "1 rise 1\n" ++
    codes "2 rise 1\n" ++
    codes "0 line 1\n" ++
    codes "1 step begin 1,2\n" ++
    codes "t 1.1.1 began 1,2\n" ++
    codes "0 line 2\n" ++
    codes "1 step do 1.1.1 write 1.x a\n" ++
    codes "t 1.1.1 op 1 written\n" ++
    codes "0 line 3\n" ++
    codes "1 step commit 1.1.1\n" ++
    codes "r vote 1.1.1 1\n" ++
    codes "r write 1 x a\n" ++
    codes "o 1 2 votereq 1.1.1 0 0\n" ++
    codes "0 line 4\n" ++
    codes "1 step elect 1.1.1 1,2\n" ++
    codes "o 2 2 ask 1.1.1 1 1\n" ++
    codes "2 step deliver 2\n" ++
    codes "o 3 1 last 1.1.1 1 1 1\n" ++
    codes "1 step deliver 3\n" ++
    codes "r join 1.1.1 2\n" ++
    codes "o 4 2 elected 1.1.1 2\n" ++
    codes "2 step deliver 4\n" ++
    codes "r join 1.1.1 2\n" ++
    codes "o 5 1 report 1.1.1 2 q 0\n" ++
    codes "1 step deliver 5\n" ++
    codes "r attempt 1.1.1 2 abort\n" ++
    codes "o 6 2 pre 1.1.1 2 abort\n" ++
    codes "t 1.1.1 election 2 pre-abort\n" ++
    codes "2 step deliver 6\n" ++
    codes "r attempt 1.1.1 2 abort\n" ++
    codes "o 7 1 ack 1.1.1 2 abort\n" ++
    codes "1 step deliver 7\n" ++
    codes "r decision 1.1.1 abort\n" ++
    codes "o 8 2 decide 1.1.1 abort\n" ++
    codes "t 1.1.1 aborted\n" ++
    codes "2 step deliver 8\n" ++
    codes "r decision 1.1.1 abort\n" ++
    codes "end\n"
