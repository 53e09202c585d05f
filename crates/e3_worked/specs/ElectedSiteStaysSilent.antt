-- A site that joined an election of its own gives no vote; a recovery aborts.
use Rattle.std.specs.Prelude.{◌++◌, ◌∷◌, [], ℕ, true, List, codes}
use Rattle.e3_types.specs.declared.transactions.Dir.TheVariants.{Abort}
use Rattle.e3_types.specs.declared.entries.Entry.{Entry}
use Rattle.e3_types.specs.declared.transactions.Op.TheVariants.{Write}
use Rattle.e3_types.specs.declared.scenarios.Scenario.{Scenario}
use Rattle.e3_types.specs.declared.transactions.State.TheVariants.{Q, W}
use Rattle.e3_types.specs.declared.transactions.Txn.{Txn}
use Rattle.e3_types.specs.declared.entries.Input.TheVariants as input
use Rattle.e3_types.specs.declared.scenarios.Item.TheVariants as item
use Rattle.e3_types.specs.declared.messages.Message.TheVariants as msg
use Rattle.e3_types.specs.declared.records.Record.TheVariants as log
use Rattle.e3_types.specs.declared.entries.Told.TheVariants as told
use Rattle.e3_types.specs.declared.verdicts.Verdict.TheVariants as verdict
use Rattle.e3_worked.specs.Entries.{packet, call, operation, line, takes, gets, asks_votes}
use Rattle.e3_worked.specs.Openings.{written_here}
use Rattle.e3_worked.specs.Elections.{Election, reported, elects_and_attempts, all_follow}
use Rattle.e3_worked.specs.Names.{one_by_one, txn, s2, s2_3, s1_2_3, key_1_x}

-- the scenario
abbrev pub elected_site_stays_silent : Scenario
elected_site_stays_silent = one_by_one (1 ∷ 1 ∷ 1 ∷ []) (
    item.Begin (codes "t") 1 s1_2_3 ∷
    item.Write (codes "t") key_1_x (codes "a") ∷
    item.Elect 2 (codes "t") s2 ∷
    item.Commit (codes "t") ∷
    item.Recover s1_2_3 ∷
    [])

-- its text
abbrev pub elected_site_stays_silent_text : List ℕ
elected_site_stays_silent_text =
    codes "# Site 2 joined an election of its own before it is asked for its vote, so it stays silent, and a recovery\n" ++
    codes "# aborts.\n" ++
    codes "weights = [1, 1, 1]\n" ++
    codes "steps = [\n" ++
    codes "  \"begin t 1 1,2,3\",\n" ++
    codes "  \"write t 1.x a\",\n" ++
    codes "  \"elect 2 t 2\",\n" ++
    codes "  \"commit t\",\n" ++
    codes "  \"recover 1,2,3\",\n" ++
    codes "]\n"

-- its transaction
abbrev pub t1_1_1 : Txn
t1_1_1 = txn 1 1 s1_2_3

-- the election of the recovery: packets 4 to 17
abbrev pub recovery : Election
recovery = record {
  txn = t1_1_1;
  elector = 1;
  others = s2_3;
  call = call 1 1;
  first = 4;
  joined = 2 ∷ 1 ∷ [];
  number = 3;
  states = reported Q 0 ∷ reported W 0 ∷ [];
}

-- its history, entry by entry up to the recovery
abbrev pub elected_site_stays_silent_history : List Entry
elected_site_stays_silent_history =
    let p1 = packet 1 1 2 (msg.VoteReq t1_1_1 0 0) in
    let p2 = packet 2 1 3 (msg.VoteReq t1_1_1 0 0) in
    let p3 = packet 3 3 1 (msg.Vote t1_1_1 true) in
    written_here t1_1_1 ++
    takes 2 (input.Elect t1_1_1 s2) (log.Join t1_1_1 2 ∷ []) [] (told.Verdict t1_1_1 2 (verdict.Block 1 3) ∷ []) ∷
    line 4 ∷
    asks_votes t1_1_1 (operation 1 (Write key_1_x (codes "a")) ∷ []) (p1 ∷ p2 ∷ []) ∷
    gets 2 p1 [] [] [] ∷
    gets 3 p2 (log.Vote t1_1_1 [] ∷ []) (p3 ∷ []) [] ∷
    gets 1 p3 [] [] [] ∷
    line 5 ∷
    elects_and_attempts recovery Abort verdict.PreAbort ++
    all_follow recovery 1 Abort (told.Ended t1_1_1 Abort ∷ [])

-- its report
abbrev pub elected_site_stays_silent_report : List ℕ
elected_site_stays_silent_report =
    codes "start\n" ++
    codes "1: rose 1\n" ++
    codes "2: rose 1\n" ++
    codes "3: rose 1\n" ++
    codes "step 1\n" ++
    codes "> begin t 1 1,2,3\n" ++
    codes "1: 1.1.1 began 1,2,3\n" ++
    codes "step 2\n" ++
    codes "> write t 1.x a\n" ++
    codes "1: 1.1.1 op 1 written\n" ++
    codes "step 3\n" ++
    codes "> elect 2 t 2\n" ++
    codes "2: 1.1.1 election 2 block 1 of 3\n" ++
    codes "step 4\n" ++
    codes "> commit t\n" ++
    codes "step 5\n" ++
    codes "> recover 1,2,3\n" ++
    codes "1: 1.1.1 election 3 pre-abort\n" ++
    codes "1: 1.1.1 aborted\n" ++
    codes "order\n" ++
    codes "site 1 up 1\n" ++
    codes "log\n" ++
    codes "birth 1 1,1,1\n" ++
    codes "inc 1\n" ++
    codes "vote 1.1.1 1\n" ++
    codes "write 1 x a\n" ++
    codes "join 1.1.1 3\n" ++
    codes "attempt 1.1.1 3 abort\n" ++
    codes "decision 1.1.1 abort\n" ++
    codes "rows\n" ++
    codes "site 2 up 1\n" ++
    codes "log\n" ++
    codes "birth 1 1,1,1\n" ++
    codes "inc 1\n" ++
    codes "join 1.1.1 2\n" ++
    codes "join 1.1.1 3\n" ++
    codes "attempt 1.1.1 3 abort\n" ++
    codes "decision 1.1.1 abort\n" ++
    codes "rows\n" ++
    codes "site 3 up 1\n" ++
    codes "log\n" ++
    codes "birth 1 1,1,1\n" ++
    codes "inc 1\n" ++
    codes "vote 1.1.1 0\n" ++
    codes "join 1.1.1 3\n" ++
    codes "attempt 1.1.1 3 abort\n" ++
    codes "decision 1.1.1 abort\n" ++
    codes "rows\n" ++
    codes "end\n"
