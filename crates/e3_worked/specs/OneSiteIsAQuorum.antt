-- The coordinator is a quorum by itself: it attempts and commits in one step.
use Rattle.std.specs.Prelude.{◌++◌, ◌∷◌, [], ℕ, true, List, codes}
use Rattle.e3_types.specs.declared.transactions.Dir.TheVariants.{Commit}
use Rattle.e3_types.specs.declared.entries.Entry.{Entry}
use Rattle.e3_types.specs.declared.transactions.Op.TheVariants.{Write}
use Rattle.e3_types.specs.declared.scenarios.Scenario.{Scenario}
use Rattle.e3_types.specs.declared.transactions.Txn.{Txn}
use Rattle.e3_types.specs.declared.scenarios.Item.TheVariants as item
use Rattle.e3_types.specs.declared.messages.Message.TheVariants as msg
use Rattle.e3_types.specs.declared.records.Record.TheVariants as log
use Rattle.e3_types.specs.declared.entries.Told.TheVariants as told
use Rattle.e3_worked.specs.Entries.{packet, operation, gets, asks_votes}
use Rattle.e3_worked.specs.Openings.{written_there}
use Rattle.e3_worked.specs.Names.{one_by_one, txn, s1_2_3, key_2_y}
use Rattle.e3_worked.specs.Worked.{Outcome, one_row}

-- the scenario
abbrev pub one_site_is_a_quorum : Scenario
one_site_is_a_quorum = one_by_one (5 ∷ 1 ∷ 1 ∷ []) (
    item.Begin (codes "t") 1 s1_2_3 ∷
    item.Write (codes "t") key_2_y (codes "b") ∷
    item.Commit (codes "t") ∷
    [])

-- its text
abbrev pub one_site_is_a_quorum_text : List ℕ
one_site_is_a_quorum_text =
    codes "# The coordinator's weight is more than half: it is a quorum alone, and decides with its own attempt.\n" ++
    codes "weights = [5, 1, 1]\n" ++
    codes "steps = [\n" ++
    codes "  \"begin t 1 1,2,3\",\n" ++
    codes "  \"write t 2.y b\",\n" ++
    codes "  \"commit t\",\n" ++
    codes "]\n"

-- its transaction
abbrev pub t1_1_1 : Txn
t1_1_1 = txn 1 1 s1_2_3

-- its history, entry by entry
abbrev pub one_site_is_a_quorum_history : List Entry
one_site_is_a_quorum_history =
    let p3 = packet 3 1 2 (msg.VoteReq t1_1_1 1 1) in
    let p4 = packet 4 1 3 (msg.VoteReq t1_1_1 0 0) in
    let p5 = packet 5 2 1 (msg.Vote t1_1_1 true) in
    let p6 = packet 6 3 1 (msg.Vote t1_1_1 true) in
    let p7 = packet 7 1 2 (msg.Decide t1_1_1 Commit) in
    let p8 = packet 8 1 3 (msg.Decide t1_1_1 Commit) in
    written_there t1_1_1 ++
    asks_votes t1_1_1 [] (p3 ∷ p4 ∷ []) ∷
    gets 2 p3 (log.Vote t1_1_1 (operation 1 (Write key_2_y (codes "b")) ∷ []) ∷ []) (p5 ∷ []) [] ∷
    gets 3 p4 (log.Vote t1_1_1 [] ∷ []) (p6 ∷ []) [] ∷
    gets 1 p5 [] [] [] ∷
    gets 1 p6 (log.Attempt t1_1_1 1 Commit ∷ log.Decision t1_1_1 Commit ∷ []) (p7 ∷ p8 ∷ []) (told.Ended t1_1_1 Commit ∷ []) ∷
    gets 2 p7 (log.Decision t1_1_1 Commit ∷ []) [] [] ∷
    gets 3 p8 (log.Decision t1_1_1 Commit ∷ []) [] [] ∷
    []

-- what it comes to
abbrev pub one_site_is_a_quorum_outcome : Outcome
one_site_is_a_quorum_outcome = record {
  order = t1_1_1 ∷ [];
  tables = [] ∷ one_row (codes "y") (codes "b") ∷ [] ∷ [];
}

-- its report
abbrev pub one_site_is_a_quorum_report : List ℕ
one_site_is_a_quorum_report =
    codes "start\n" ++
    codes "1: rose 1\n" ++
    codes "2: rose 1\n" ++
    codes "3: rose 1\n" ++
    codes "step 1\n" ++
    codes "> begin t 1 1,2,3\n" ++
    codes "1: 1.1.1 began 1,2,3\n" ++
    codes "step 2\n" ++
    codes "> write t 2.y b\n" ++
    codes "1: 1.1.1 op 1 written\n" ++
    codes "step 3\n" ++
    codes "> commit t\n" ++
    codes "1: 1.1.1 committed\n" ++
    codes "order\n" ++
    codes "1.1.1\n" ++
    codes "site 1 up 1\n" ++
    codes "log\n" ++
    codes "birth 1 5,1,1\n" ++
    codes "inc 1\n" ++
    codes "vote 1.1.1 0\n" ++
    codes "attempt 1.1.1 1 commit\n" ++
    codes "decision 1.1.1 commit\n" ++
    codes "rows\n" ++
    codes "site 2 up 1\n" ++
    codes "log\n" ++
    codes "birth 1 5,1,1\n" ++
    codes "inc 1\n" ++
    codes "vote 1.1.1 1\n" ++
    codes "write 1 y b\n" ++
    codes "decision 1.1.1 commit\n" ++
    codes "rows\n" ++
    codes "y b\n" ++
    codes "site 3 up 1\n" ++
    codes "log\n" ++
    codes "birth 1 5,1,1\n" ++
    codes "inc 1\n" ++
    codes "vote 1.1.1 0\n" ++
    codes "decision 1.1.1 commit\n" ++
    codes "rows\n" ++
    codes "end\n"
