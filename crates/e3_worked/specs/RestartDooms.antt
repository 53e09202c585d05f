-- A site restarts between two reads: the transaction is doomed. Up to the restart it goes as where the site restarts before the
-- vote.
use Rattle.std.specs.Prelude.{◌++◌, ◌∷◌, [], ℕ, List, codes}
use Rattle.e3_types.specs.declared.transactions.Answer.TheVariants.{Value}
use Rattle.e3_types.specs.declared.transactions.Dir.TheVariants.{Abort}
use Rattle.e3_types.specs.declared.entries.Entry.{Entry}
use Rattle.e3_types.specs.declared.transactions.Op.TheVariants.{Read}
use Rattle.e3_types.specs.declared.scenarios.Scenario.{Scenario}
use Rattle.e3_types.specs.declared.entries.Input.TheVariants as input
use Rattle.e3_types.specs.declared.scenarios.Item.TheVariants as item
use Rattle.e3_types.specs.declared.messages.Message.TheVariants as msg
use Rattle.e3_types.specs.declared.records.Record.TheVariants as log
use Rattle.e3_types.specs.declared.entries.Refusal.TheVariants as refusal
use Rattle.e3_types.specs.declared.entries.Told.TheVariants as told
use Rattle.e3_worked.specs.Entries.{packet, line, takes, gets}
use Rattle.e3_worked.specs.Names.{key_2_x}
use Rattle.e3_worked.specs.Worked.{Outcome}
use Rattle.e3_worked.specs.RestartBeforeTheVote.{t1_1_1, restart_before, until_the_restart, restart_before_the_vote_outcome}

-- the scenario
abbrev pub restart_dooms : Scenario
restart_dooms = restart_before (item.Read (codes "t") key_2_x ∷ item.Commit (codes "t") ∷ [])

-- its text
abbrev pub restart_dooms_text : List ℕ
restart_dooms_text =
    codes "# As restart_before_the_vote, but the transaction reads once more: the answer comes under the new incarnation,\n" ++
    codes "# so the coordinator dooms the transaction.\n" ++
    codes "weights = [1, 1]\n" ++
    codes "rows = [\"2.x a\"]\n" ++
    codes "steps = [\n" ++
    codes "  \"begin t 1 1,2\",\n" ++
    codes "  \"read t 2.x\",\n" ++
    codes "  \"crash 2\",\n" ++
    codes "  \"restart 2\",\n" ++
    codes "  \"read t 2.x\",\n" ++
    codes "  \"commit t\",\n" ++
    codes "]\n"

-- its history, entry by entry
abbrev pub restart_dooms_history : List Entry
restart_dooms_history =
    let p3 = packet 3 1 2 (msg.Do t1_1_1 2 (Read key_2_x)) in
    let p4 = packet 4 2 1 (msg.Done t1_1_1 2 2 (Value (codes "a"))) in
    let p5 = packet 5 1 2 (msg.Decide t1_1_1 Abort) in
    until_the_restart ++
    takes 1 (input.Do t1_1_1 (Read key_2_x)) [] (p3 ∷ []) [] ∷
    gets 2 p3 [] (p4 ∷ []) [] ∷
    gets 1 p4 (log.Decision t1_1_1 Abort ∷ []) (p5 ∷ []) (told.Doomed t1_1_1 2 1 2 ∷ []) ∷
    gets 2 p5 (log.Decision t1_1_1 Abort ∷ []) [] [] ∷
    line 6 ∷
    takes 1 (input.Commit t1_1_1) [] [] (told.Refused t1_1_1 (refusal.Doomed 2 1 2) ∷ []) ∷
    []

-- what it comes to: it aborts as well
abbrev pub restart_dooms_outcome : Outcome
restart_dooms_outcome = restart_before_the_vote_outcome

-- its report
abbrev pub restart_dooms_report : List ℕ
restart_dooms_report =
    codes "start\n" ++
    codes "1: rose 1\n" ++
    codes "2: rose 1\n" ++
    codes "step 1\n" ++
    codes "> begin t 1 1,2\n" ++
    codes "1: 1.1.1 began 1,2\n" ++
    codes "step 2\n" ++
    codes "> read t 2.x\n" ++
    codes "1: 1.1.1 op 1 value a\n" ++
    codes "step 3\n" ++
    codes "> crash 2\n" ++
    codes "2: cut\n" ++
    codes "step 4\n" ++
    codes "> restart 2\n" ++
    codes "2: rose 2\n" ++
    codes "step 5\n" ++
    codes "> read t 2.x\n" ++
    codes "1: 1.1.1 doomed 2 1 2\n" ++
    codes "step 6\n" ++
    codes "> commit t\n" ++
    codes "1: 1.1.1 refused doomed 2 1 2\n" ++
    codes "order\n" ++
    codes "site 1 up 1\n" ++
    codes "log\n" ++
    codes "birth 1 1,1\n" ++
    codes "inc 1\n" ++
    codes "decision 1.1.1 abort\n" ++
    codes "rows\n" ++
    codes "site 2 up 2\n" ++
    codes "log\n" ++
    codes "birth 1 1,1\n" ++
    codes "row x a\n" ++
    codes "inc 1\n" ++
    codes "inc 2\n" ++
    codes "decision 1.1.1 abort\n" ++
    codes "rows\n" ++
    codes "x a\n" ++
    codes "end\n"

-- its trace: the history, entry by entry, and a second `end`
abbrev pub restart_dooms_trace : List ℕ
restart_dooms_trace =
    codes "1 rise 1\n" ++
    codes "2 rise 1\n" ++
    codes "0 line 1\n" ++
    codes "1 step begin 1,2\n" ++
    codes "t 1.1.1 began 1,2\n" ++
    codes "0 line 2\n" ++
    codes "1 step do 1.1.1 read 2.x\n" ++
    codes "o 1 2 do 1.1.1 1 read 2.x\n" ++
    codes "2 step deliver 1\n" ++
    codes "o 2 1 done 1.1.1 1 1 value a\n" ++
    codes "1 step deliver 2\n" ++
    codes "t 1.1.1 op 1 value a\n" ++
    codes "0 line 3\n" ++
    codes "2 cut\n" ++
    codes "0 line 4\n" ++
    codes "2 rise 2\n" ++
    codes "0 line 5\n" ++
    codes "1 step do 1.1.1 read 2.x\n" ++
    codes "o 3 2 do 1.1.1 2 read 2.x\n" ++
    codes "2 step deliver 3\n" ++
    codes "o 4 1 done 1.1.1 2 2 value a\n" ++
    codes "1 step deliver 4\n" ++
    codes "r decision 1.1.1 abort\n" ++
    codes "o 5 2 decide 1.1.1 abort\n" ++
    codes "t 1.1.1 doomed 2 1 2\n" ++
    codes "2 step deliver 5\n" ++
    codes "r decision 1.1.1 abort\n" ++
    codes "0 line 6\n" ++
    codes "1 step commit 1.1.1\n" ++
    codes "t 1.1.1 refused doomed 2 1 2\n" ++
    codes "end\n"
