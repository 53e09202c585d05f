-- Two electors attempt different directions; a tail that is kept decides between them.
use Rattle.std.specs.Prelude.{◌++◌, ◌∷◌, [], ℕ, true, List, codes}
use Rattle.e3_types.specs.declared.transactions.Answer.TheVariants.{Written}
use Rattle.e3_types.specs.declared.transactions.Dir.{Dir}
use Rattle.e3_types.specs.declared.transactions.Dir.TheVariants.{Abort, Commit}
use Rattle.e3_types.specs.declared.entries.Entry.{Entry}
use Rattle.e3_types.specs.declared.scenarios.Leave.{Leave}
use Rattle.e3_types.specs.declared.transactions.Op.TheVariants.{Write}
use Rattle.e3_types.specs.declared.messages.Packet.{Packet}
use Rattle.e3_types.specs.declared.scenarios.Scenario.{Scenario}
use Rattle.e3_types.specs.declared.transactions.State.{State}
use Rattle.e3_types.specs.declared.transactions.State.TheVariants.{W, Pa, C}
use Rattle.e3_types.specs.declared.transactions.Txn.{Txn}
use Rattle.e3_types.specs.declared.verdicts.Verdict.{Verdict}
use Rattle.e3_types.specs.declared.entries.Input.TheVariants as input
use Rattle.e3_types.specs.declared.scenarios.Item.TheVariants as item
use Rattle.e3_types.specs.declared.scenarios.Leave.TheVariants as leave
use Rattle.e3_types.specs.declared.messages.Message.TheVariants as msg
use Rattle.e3_types.specs.declared.records.Record.TheVariants as log
use Rattle.e3_types.specs.declared.verdicts.Verdict.TheVariants as verdict
use Rattle.e3_worked.specs.Entries.{packet, call, operation, line, rises, rises_kept, cut, falls, gets, remote_operation, asks_votes}
use Rattle.e3_worked.specs.Openings.{written_here}
use Rattle.e3_worked.specs.Elections.{Reported, Election, reported, elects, concludes, elects_and_attempts, all_follow}
use Rattle.e3_worked.specs.Names.{one_by_one, txn, s1_3, s2_3, s1_2_3, key_1_x, key_2_y, key_3_z}
use Rattle.e3_worked.specs.Worked.{Outcome, one_row}

-- The scenario, by the stop of site 3: the call in which its disk stops, and what that leaves. Site 3 falls in the frame of its
-- attempt to abort.
abbrev pub cascade : ℕ → Leave → Scenario
cascade count left = one_by_one (1 ∷ 1 ∷ 1 ∷ []) (
    item.Begin (codes "t") 1 s1_2_3 ∷
    item.Write (codes "t") key_1_x (codes "a") ∷
    item.Write (codes "t") key_2_y (codes "b") ∷
    item.Write (codes "t") key_3_z (codes "c") ∷
    item.Stop 1 8 leave.All ∷
    item.Commit (codes "t") ∷
    item.Stop 3 count left ∷
    item.Elect 2 (codes "t") s2_3 ∷
    item.Restart 1 ∷
    item.Restart 3 ∷
    item.Crash 2 ∷
    item.Recover s1_3 ∷
    item.Restart 2 ∷
    item.Recover s1_2_3 ∷
    [])

-- the scenario: the frame is lost
abbrev pub cascade_commits : Scenario
cascade_commits = cascade 5 leave.None

-- its text
abbrev pub cascade_commits_text : List ℕ
cascade_commits_text =
    codes "# The coordinator falls right behind its attempt to commit, which its disk keeps. The others elect a new number\n" ++
    codes "# and one attempts to abort, but the greatest attempt of sites 1 and 3 is the commit. All commit.\n" ++
    codes "weights = [1, 1, 1]\n" ++
    codes "steps = [\n" ++
    codes "  \"begin t 1 1,2,3\",\n" ++
    codes "  \"write t 1.x a\",\n" ++
    codes "  \"write t 2.y b\",\n" ++
    codes "  \"write t 3.z c\",\n" ++
    codes "  \"stop 1 8 all\",\n" ++
    codes "  \"commit t\",\n" ++
    codes "  \"stop 3 5 none\",\n" ++
    codes "  \"elect 2 t 2,3\",\n" ++
    codes "  \"restart 1\",\n" ++
    codes "  \"restart 3\",\n" ++
    codes "  \"crash 2\",\n" ++
    codes "  \"recover 1,3\",\n" ++
    codes "  \"restart 2\",\n" ++
    codes "  \"recover 1,2,3\",\n" ++
    codes "]\n"

-- its transaction
abbrev pub t1_1_1 : Txn
t1_1_1 = txn 1 1 s1_2_3

-- the votes of sites 2 and 3, in packets 7 and 8
abbrev pub p7 : Packet
p7 = packet 7 2 1 (msg.Vote t1_1_1 true)

abbrev pub p8 : Packet
p8 = packet 8 3 1 (msg.Vote t1_1_1 true)

-- the election of site 2, which has not heard of the attempt to commit: packets 9 to 13
abbrev pub first_election : Election
first_election = record {
  txn = t1_1_1;
  elector = 2;
  others = 3 ∷ [];
  call = call 1 1;
  first = 9;
  joined = 1 ∷ [];
  number = 2;
  states = reported W 0 ∷ [];
}

-- Its history up to the rise of site 3. Sites 1 and 3 fall in the frames of their attempts: site 1 attempts to commit, and
-- site 3, with site 2, to abort.
abbrev pub before_its_rise : List Entry
before_its_rise =
    let p5 = packet 5 1 2 (msg.VoteReq t1_1_1 1 1) in
    let p6 = packet 6 1 3 (msg.VoteReq t1_1_1 1 1) in
    written_here t1_1_1 ++
    remote_operation t1_1_1 2 (Write key_2_y (codes "b")) Written 1 ++
    line 4 ∷
    remote_operation t1_1_1 3 (Write key_3_z (codes "c")) Written 3 ++
    line 5 ∷
    line 6 ∷
    asks_votes t1_1_1 (operation 1 (Write key_1_x (codes "a")) ∷ []) (p5 ∷ p6 ∷ []) ∷
    gets 2 p5 (log.Vote t1_1_1 (operation 2 (Write key_2_y (codes "b")) ∷ []) ∷ []) (p7 ∷ []) [] ∷
    gets 3 p6 (log.Vote t1_1_1 (operation 3 (Write key_3_z (codes "c")) ∷ []) ∷ []) (p8 ∷ []) [] ∷
    gets 1 p7 [] [] [] ∷
    falls 1 (input.Deliver p8) (log.Attempt t1_1_1 1 Commit ∷ []) ∷
    line 7 ∷
    line 8 ∷
    elects_and_attempts first_election Abort verdict.PreAbort ++
    falls 3 (input.Deliver (packet 13 2 3 (msg.Pre t1_1_1 2 Abort))) (log.Attempt t1_1_1 2 Abort ∷ []) ∷
    line 9 ∷
    rises_kept 1 2 ∷
    line 10 ∷
    []

-- the election of site 1, where site 3 reports this: packets 14 to 20, to the decision
abbrev pub second_election : Reported → Election
second_election by_3 = record {
  txn = t1_1_1;
  elector = 1;
  others = 3 ∷ [];
  call = call 2 1;
  first = 14;
  joined = 2 ∷ [];
  number = 3;
  states = by_3 ∷ [];
}

-- the election of site 1 with both, where site 3 has decided and is in this state: packets 21 to 28
abbrev pub third_election : State → Election
third_election state_of_3 = record {
  txn = t1_1_1;
  elector = 1;
  others = s2_3;
  call = call 2 2;
  first = 21;
  joined = 2 ∷ 3 ∷ [];
  number = 4;
  states = reported Pa 2 ∷ reported state_of_3 3 ∷ [];
}

-- What is behind the rise of site 3. It reports this to site 1: so both attempt this direction, by the first of these verdicts,
-- and decide, which leaves site 3 in this state. Site 2 rises, and hears of the decision by the second verdict.
abbrev pub behind_its_rise : Reported → Dir → State → Verdict → Verdict → List Entry
behind_its_rise by_3 dir decided first second =
    let p29 = packet 29 1 2 (msg.Decide t1_1_1 dir) in
    let p30 = packet 30 1 3 (msg.Decide t1_1_1 dir) in
    line 11 ∷
    cut 2 ∷
    line 12 ∷
    elects_and_attempts (second_election by_3) dir first ++
    all_follow (second_election by_3) 1 dir [] ++
    line 13 ∷
    rises 2 2 ∷
    line 14 ∷
    elects (third_election decided) ++
    concludes (third_election decided) [] (p29 ∷ p30 ∷ []) second ++
    gets 2 p29 (log.Decision t1_1_1 dir ∷ []) [] [] ∷
    gets 3 p30 [] [] [] ∷
    []

-- its history: nothing is kept of the attempt to abort
abbrev pub cascade_commits_history : List Entry
cascade_commits_history =
    before_its_rise ++
    rises 3 2 ∷
    behind_its_rise (reported W 0) Commit C verdict.PreCommit verdict.Commit

-- what it comes to
abbrev pub cascade_commits_outcome : Outcome
cascade_commits_outcome = record {
  order = t1_1_1 ∷ [];
  tables = one_row (codes "x") (codes "a") ∷ one_row (codes "y") (codes "b") ∷ one_row (codes "z") (codes "c") ∷ [];
}

-- its report
abbrev pub cascade_commits_report : List ℕ
cascade_commits_report =
    codes "start\n" ++
    codes "1: rose 1\n" ++
    codes "2: rose 1\n" ++
    codes "3: rose 1\n" ++
    codes "step 1\n" ++
    codes "> begin t 1 1,2,3\n" ++
    codes "1: 1.1.1 began 1,2,3\n" ++
    codes "step 2\n" ++
    codes "> write t 1.x a\n" ++
    codes "1: 1.1.1 op 1 written\n" ++
    codes "step 3\n" ++
    codes "> write t 2.y b\n" ++
    codes "1: 1.1.1 op 2 written\n" ++
    codes "step 4\n" ++
    codes "> write t 3.z c\n" ++
    codes "1: 1.1.1 op 3 written\n" ++
    codes "step 5\n" ++
    codes "> stop 1 8 all\n" ++
    codes "step 6\n" ++
    codes "> commit t\n" ++
    codes "1: fell fault\n" ++
    codes "step 7\n" ++
    codes "> stop 3 5 none\n" ++
    codes "step 8\n" ++
    codes "> elect 2 t 2,3\n" ++
    codes "2: 1.1.1 election 2 pre-abort\n" ++
    codes "3: fell fault\n" ++
    codes "step 9\n" ++
    codes "> restart 1\n" ++
    codes "1: rose 2 kept\n" ++
    codes "step 10\n" ++
    codes "> restart 3\n" ++
    codes "3: rose 2\n" ++
    codes "step 11\n" ++
    codes "> crash 2\n" ++
    codes "2: cut\n" ++
    codes "step 12\n" ++
    codes "> recover 1,3\n" ++
    codes "1: 1.1.1 election 3 pre-commit\n" ++
    codes "step 13\n" ++
    codes "> restart 2\n" ++
    codes "2: rose 2\n" ++
    codes "step 14\n" ++
    codes "> recover 1,2,3\n" ++
    codes "1: 1.1.1 election 4 commit\n" ++
    codes "order\n" ++
    codes "1.1.1\n" ++
    codes "site 1 up 2\n" ++
    codes "log\n" ++
    codes "birth 1 1,1,1\n" ++
    codes "inc 1\n" ++
    codes "vote 1.1.1 1\n" ++
    codes "write 1 x a\n" ++
    codes "attempt 1.1.1 1 commit\n" ++
    codes "inc 2\n" ++
    codes "join 1.1.1 3\n" ++
    codes "attempt 1.1.1 3 commit\n" ++
    codes "decision 1.1.1 commit\n" ++
    codes "join 1.1.1 4\n" ++
    codes "rows\n" ++
    codes "x a\n" ++
    codes "site 2 up 2\n" ++
    codes "log\n" ++
    codes "birth 1 1,1,1\n" ++
    codes "inc 1\n" ++
    codes "vote 1.1.1 1\n" ++
    codes "write 2 y b\n" ++
    codes "join 1.1.1 2\n" ++
    codes "attempt 1.1.1 2 abort\n" ++
    codes "inc 2\n" ++
    codes "join 1.1.1 4\n" ++
    codes "decision 1.1.1 commit\n" ++
    codes "rows\n" ++
    codes "y b\n" ++
    codes "site 3 up 2\n" ++
    codes "log\n" ++
    codes "birth 1 1,1,1\n" ++
    codes "inc 1\n" ++
    codes "vote 1.1.1 1\n" ++
    codes "write 3 z c\n" ++
    codes "join 1.1.1 2\n" ++
    codes "inc 2\n" ++
    codes "join 1.1.1 3\n" ++
    codes "attempt 1.1.1 3 commit\n" ++
    codes "decision 1.1.1 commit\n" ++
    codes "join 1.1.1 4\n" ++
    codes "rows\n" ++
    codes "z c\n" ++
    codes "end\n"
