-- Two electors attempt different directions; a later attempt that is kept turns the end to an abort. It begins as the cascade
-- that commits.
use Rattle.std.specs.Prelude.{◌++◌, ◌∷◌, ℕ, List, codes}
use Rattle.e3_types.specs.declared.transactions.Dir.TheVariants.{Abort}
use Rattle.e3_types.specs.declared.entries.Entry.{Entry}
use Rattle.e3_types.specs.declared.scenarios.Scenario.{Scenario}
use Rattle.e3_types.specs.declared.transactions.State.TheVariants.{Pa, A}
use Rattle.e3_types.specs.declared.scenarios.Leave.TheVariants as leave
use Rattle.e3_types.specs.declared.verdicts.Verdict.TheVariants as verdict
use Rattle.e3_worked.specs.Entries.{rises_kept}
use Rattle.e3_worked.specs.Elections.{reported}
use Rattle.e3_worked.specs.CascadeCommits.{cascade, before_its_rise, behind_its_rise}

-- the scenario: the frame is kept
abbrev pub cascade_aborts : Scenario
cascade_aborts = cascade 8 leave.All

-- its text
abbrev pub cascade_aborts_text : List ℕ
cascade_aborts_text =
    codes "# As cascade_commits, but for one call of one disk: site 3 falls three calls later, so its log has the attempt\n" ++
    codes "# to abort. A quorum has attempted that under the greater number, and all abort.\n" ++
    codes "weights = [1, 1, 1]\n" ++
    codes "steps = [\n" ++
    codes "  \"begin t 1 1,2,3\",\n" ++
    codes "  \"write t 1.x a\",\n" ++
    codes "  \"write t 2.y b\",\n" ++
    codes "  \"write t 3.z c\",\n" ++
    codes "  \"stop 1 8 all\",\n" ++
    codes "  \"commit t\",\n" ++
    codes "  \"stop 3 8 all\",\n" ++
    codes "  \"elect 2 t 2,3\",\n" ++
    codes "  \"restart 1\",\n" ++
    codes "  \"restart 3\",\n" ++
    codes "  \"crash 2\",\n" ++
    codes "  \"recover 1,3\",\n" ++
    codes "  \"restart 2\",\n" ++
    codes "  \"recover 1,2,3\",\n" ++
    codes "]\n"

-- its history: it is that one up to the rise of site 3, whose attempt to abort is kept
abbrev pub cascade_aborts_history : List Entry
cascade_aborts_history =
    before_its_rise ++
    rises_kept 3 2 ∷
    behind_its_rise (reported Pa 2) Abort A verdict.PreAbort verdict.Abort

-- its report
abbrev pub cascade_aborts_report : List ℕ
cascade_aborts_report =
    codes "start\n" ++
    codes "1: rose 1\n" ++
    codes "2: rose 1\n" ++
    codes "3: rose 1\n" ++
    codes "step 1\n" ++
    codes "> begin t 1 1,2,3\n" ++
    codes "1: 1.1.1 began 1,2,3\n" ++
    codes "step 2\n" ++
    codes "> write t 1.x a\n" ++
    codes "1: 1.1.1 op 1 written\n" ++
    codes "step 3\n" ++
    codes "> write t 2.y b\n" ++
    codes "1: 1.1.1 op 2 written\n" ++
    codes "step 4\n" ++
    codes "> write t 3.z c\n" ++
    codes "1: 1.1.1 op 3 written\n" ++
    codes "step 5\n" ++
    codes "> stop 1 8 all\n" ++
    codes "step 6\n" ++
    codes "> commit t\n" ++
    codes "1: fell fault\n" ++
    codes "step 7\n" ++
    codes "> stop 3 8 all\n" ++
    codes "step 8\n" ++
    codes "> elect 2 t 2,3\n" ++
    codes "2: 1.1.1 election 2 pre-abort\n" ++
    codes "3: fell fault\n" ++
    codes "step 9\n" ++
    codes "> restart 1\n" ++
    codes "1: rose 2 kept\n" ++
    codes "step 10\n" ++
    codes "> restart 3\n" ++
    codes "3: rose 2 kept\n" ++
    codes "step 11\n" ++
    codes "> crash 2\n" ++
    codes "2: cut\n" ++
    codes "step 12\n" ++
    codes "> recover 1,3\n" ++
    codes "1: 1.1.1 election 3 pre-abort\n" ++
    codes "step 13\n" ++
    codes "> restart 2\n" ++
    codes "2: rose 2\n" ++
    codes "step 14\n" ++
    codes "> recover 1,2,3\n" ++
    codes "1: 1.1.1 election 4 abort\n" ++
    codes "order\n" ++
    codes "site 1 up 2\n" ++
    codes "log\n" ++
    codes "birth 1 1,1,1\n" ++
    codes "inc 1\n" ++
    codes "vote 1.1.1 1\n" ++
    codes "write 1 x a\n" ++
    codes "attempt 1.1.1 1 commit\n" ++
    codes "inc 2\n" ++
    codes "join 1.1.1 3\n" ++
    codes "attempt 1.1.1 3 abort\n" ++
    codes "decision 1.1.1 abort\n" ++
    codes "join 1.1.1 4\n" ++
    codes "rows\n" ++
    codes "site 2 up 2\n" ++
    codes "log\n" ++
    codes "birth 1 1,1,1\n" ++
    codes "inc 1\n" ++
    codes "vote 1.1.1 1\n" ++
    codes "write 2 y b\n" ++
    codes "join 1.1.1 2\n" ++
    codes "attempt 1.1.1 2 abort\n" ++
    codes "inc 2\n" ++
    codes "join 1.1.1 4\n" ++
    codes "decision 1.1.1 abort\n" ++
    codes "rows\n" ++
    codes "site 3 up 2\n" ++
    codes "log\n" ++
    codes "birth 1 1,1,1\n" ++
    codes "inc 1\n" ++
    codes "vote 1.1.1 1\n" ++
    codes "write 3 z c\n" ++
    codes "join 1.1.1 2\n" ++
    codes "attempt 1.1.1 2 abort\n" ++
    codes "inc 2\n" ++
    codes "join 1.1.1 3\n" ++
    codes "attempt 1.1.1 3 abort\n" ++
    codes "decision 1.1.1 abort\n" ++
    codes "join 1.1.1 4\n" ++
    codes "rows\n" ++
    codes "end\n"
