-- A cancel comes too late, an expiry keeps the state, and items of a site that is down are skipped.
use Rattle.std.specs.Prelude.{◌++◌, ◌∷◌, [], ℕ, true, List, codes}
use Rattle.e3_types.specs.declared.transactions.Dir.TheVariants.{Commit}
use Rattle.e3_types.specs.declared.entries.Entry.{Entry}
use Rattle.e3_types.specs.declared.transactions.Op.TheVariants.{Read, Write}
use Rattle.e3_types.specs.declared.scenarios.Scenario.{Scenario}
use Rattle.e3_types.specs.declared.transactions.State.TheVariants.{W}
use Rattle.e3_types.specs.declared.transactions.Txn.{Txn}
use Rattle.e3_types.specs.declared.entries.Input.TheVariants as input
use Rattle.e3_types.specs.declared.scenarios.Item.TheVariants as item
use Rattle.e3_types.specs.declared.scenarios.Leave.TheVariants as leave
use Rattle.e3_types.specs.declared.messages.Message.TheVariants as msg
use Rattle.e3_types.specs.declared.records.Record.TheVariants as log
use Rattle.e3_types.specs.declared.entries.Refusal.TheVariants as refusal
use Rattle.e3_types.specs.declared.entries.Told.TheVariants as told
use Rattle.e3_worked.specs.Entries.{packet, operation, line, rises, cut, falls, takes, gets, asks_votes}
use Rattle.e3_worked.specs.Openings.{written_here}
use Rattle.e3_worked.specs.Names.{one_by_one, txn, s1, s1_2, key_1_x}

-- the scenario
abbrev pub too_late_kept_down : Scenario
too_late_kept_down = one_by_one (1 ∷ 1 ∷ []) (
    item.Begin (codes "t") 1 s1_2 ∷
    item.Write (codes "t") key_1_x (codes "a") ∷
    item.Stop 2 5 leave.None ∷
    item.Commit (codes "t") ∷
    item.Cancel (codes "t") ∷
    item.Restart 2 ∷
    item.Expire 2 (codes "t") ∷
    item.Crash 1 ∷
    item.Begin (codes "u") 1 s1 ∷
    item.Write (codes "u") key_1_x (codes "b") ∷
    item.Restart 1 ∷
    item.Read (codes "t") key_1_x ∷
    [])

-- its text
abbrev pub too_late_kept_down_text : List ℕ
too_late_kept_down_text =
    codes "# A cancel that comes too late, an expiry that changes nothing, and items for a site that is down.\n" ++
    codes "weights = [1, 1]\n" ++
    codes "steps = [\n" ++
    codes "  \"begin t 1 1,2\",\n" ++
    codes "  \"write t 1.x a\",\n" ++
    codes "  \"stop 2 5 none\",\n" ++
    codes "  \"commit t\",\n" ++
    codes "  \"cancel t\",\n" ++
    codes "  \"restart 2\",\n" ++
    codes "  \"expire 2 t\",\n" ++
    codes "  \"crash 1\",\n" ++
    codes "  \"begin u 1 1\",\n" ++
    codes "  \"write u 1.x b\",\n" ++
    codes "  \"restart 1\",\n" ++
    codes "  \"read t 1.x\",\n" ++
    codes "]\n"

-- its transaction
abbrev pub t1_1_1 : Txn
t1_1_1 = txn 1 1 s1_2

-- its history, entry by entry
abbrev pub too_late_kept_down_history : List Entry
too_late_kept_down_history =
    let p1 = packet 1 1 2 (msg.VoteReq t1_1_1 0 0) in
    let p2 = packet 2 2 1 (msg.Vote t1_1_1 true) in
    let p3 = packet 3 1 2 (msg.Pre t1_1_1 1 Commit) in
    written_here t1_1_1 ++
    line 4 ∷
    asks_votes t1_1_1 (operation 1 (Write key_1_x (codes "a")) ∷ []) (p1 ∷ []) ∷
    gets 2 p1 (log.Vote t1_1_1 [] ∷ []) (p2 ∷ []) [] ∷
    gets 1 p2 (log.Attempt t1_1_1 1 Commit ∷ []) (p3 ∷ []) [] ∷
    falls 2 (input.Deliver p3) (log.Attempt t1_1_1 1 Commit ∷ []) ∷
    line 5 ∷
    takes 1 (input.Cancel t1_1_1) [] [] (told.Refused t1_1_1 (refusal.TooLate 1) ∷ []) ∷
    line 6 ∷
    rises 2 2 ∷
    line 7 ∷
    takes 2 (input.Expire t1_1_1) [] [] (told.Kept t1_1_1 W ∷ []) ∷
    line 8 ∷
    cut 1 ∷
    line 9 ∷
    line 10 ∷
    line 11 ∷
    rises 1 2 ∷
    line 12 ∷
    takes 1 (input.Do t1_1_1 (Read key_1_x)) [] [] (told.Refused t1_1_1 refusal.NoTxn ∷ []) ∷
    []

-- its report
abbrev pub too_late_kept_down_report : List ℕ
too_late_kept_down_report =
    codes "start\n" ++
    codes "1: rose 1\n" ++
    codes "2: rose 1\n" ++
    codes "step 1\n" ++
    codes "> begin t 1 1,2\n" ++
    codes "1: 1.1.1 began 1,2\n" ++
    codes "step 2\n" ++
    codes "> write t 1.x a\n" ++
    codes "1: 1.1.1 op 1 written\n" ++
    codes "step 3\n" ++
    codes "> stop 2 5 none\n" ++
    codes "step 4\n" ++
    codes "> commit t\n" ++
    codes "2: fell fault\n" ++
    codes "step 5\n" ++
    codes "> cancel t\n" ++
    codes "1: 1.1.1 refused too-late 1\n" ++
    codes "step 6\n" ++
    codes "> restart 2\n" ++
    codes "2: rose 2\n" ++
    codes "step 7\n" ++
    codes "> expire 2 t\n" ++
    codes "2: 1.1.1 kept w\n" ++
    codes "step 8\n" ++
    codes "> crash 1\n" ++
    codes "1: cut\n" ++
    codes "step 9\n" ++
    codes "> begin u 1 1\n" ++
    codes "1: down\n" ++
    codes "step 10\n" ++
    codes "> write u 1.x b\n" ++
    codes "0: u not begun\n" ++
    codes "step 11\n" ++
    codes "> restart 1\n" ++
    codes "1: rose 2\n" ++
    codes "step 12\n" ++
    codes "> read t 1.x\n" ++
    codes "1: 1.1.1 refused no-transaction\n" ++
    codes "order\n" ++
    codes "site 1 up 2\n" ++
    codes "log\n" ++
    codes "birth 1 1,1\n" ++
    codes "inc 1\n" ++
    codes "vote 1.1.1 1\n" ++
    codes "write 1 x a\n" ++
    codes "attempt 1.1.1 1 commit\n" ++
    codes "inc 2\n" ++
    codes "rows\n" ++
    codes "site 2 up 2\n" ++
    codes "log\n" ++
    codes "birth 1 1,1\n" ++
    codes "inc 1\n" ++
    codes "vote 1.1.1 0\n" ++
    codes "inc 2\n" ++
    codes "rows\n" ++
    codes "end\n"

-- its trace: the history, entry by entry, and a second `end`
abbrev pub too_late_kept_down_trace : List ℕ
too_late_kept_down_trace =
    codes "1 rise 1\n" ++
    codes "2 rise 1\n" ++
    codes "0 line 1\n" ++
    codes "1 step begin 1,2\n" ++
    codes "t 1.1.1 began 1,2\n" ++
    codes "0 line 2\n" ++
    codes "1 step do 1.1.1 write 1.x a\n" ++
    codes "t 1.1.1 op 1 written\n" ++
    codes "0 line 3\n" ++
    codes "0 line 4\n" ++
    codes "1 step commit 1.1.1\n" ++
    codes "r vote 1.1.1 1\n" ++
    codes "r write 1 x a\n" ++
    codes "o 1 2 votereq 1.1.1 0 0\n" ++
    codes "2 step deliver 1\n" ++
    codes "r vote 1.1.1 0\n" ++
    codes "o 2 1 vote 1.1.1 yes\n" ++
    codes "1 step deliver 2\n" ++
    codes "r attempt 1.1.1 1 commit\n" ++
    codes "o 3 2 pre 1.1.1 1 commit\n" ++
    codes "2 fall fault 1\n" ++
    codes "i deliver 3\n" ++
    codes "r attempt 1.1.1 1 commit\n" ++
    codes "0 line 5\n" ++
    codes "1 step cancel 1.1.1\n" ++
    codes "t 1.1.1 refused too-late 1\n" ++
    codes "0 line 6\n" ++
    codes "2 rise 2\n" ++
    codes "0 line 7\n" ++
    codes "2 step expire 1.1.1\n" ++
    codes "t 1.1.1 kept w\n" ++
    codes "0 line 8\n" ++
    codes "1 cut\n" ++
    codes "0 line 9\n" ++
    codes "0 line 10\n" ++
    codes "0 line 11\n" ++
    codes "1 rise 2\n" ++
    codes "0 line 12\n" ++
    codes "1 step do 1.1.1 read 1.x\n" ++
    codes "t 1.1.1 refused no-transaction\n" ++
    codes "end\n"
