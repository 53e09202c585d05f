-- The commit over two sites in which nothing fails, but for site 2, which votes no where it is to vote yes: then the
-- coordinator aborts. It is no legal history.
use Rattle.std.specs.Prelude.{◌++◌, ◌∷◌, [], false, List}
use Rattle.e3_types.specs.declared.transactions.Dir.TheVariants.{Abort}
use Rattle.e3_types.specs.declared.entries.Entry.{Entry}
use Rattle.e3_types.specs.declared.messages.Message.TheVariants as msg
use Rattle.e3_types.specs.declared.records.Record.TheVariants as log
use Rattle.e3_types.specs.declared.entries.Told.TheVariants as told
use Rattle.e3_worked.specs.Entries.{packet, gets}
use Rattle.e3_worked.specs.CommitRound.{before_commit, the_commit, p1, t1_1_1}

-- what is behind the Commit
abbrev pub behind_the_commit : List Entry
behind_the_commit =
    let no = packet 2 2 1 (msg.Vote t1_1_1 false) in
    let aborts = packet 3 1 2 (msg.Decide t1_1_1 Abort) in
    gets 2 p1 (log.Decision t1_1_1 Abort ∷ []) (no ∷ []) [] ∷
    gets 1 no (log.Decision t1_1_1 Abort ∷ []) (aborts ∷ []) (told.Ended t1_1_1 Abort ∷ []) ∷
    gets 2 aborts [] [] [] ∷
    []

-- the entries, up to the end of the step
abbrev pub history_with_a_wrong_no : List Entry
history_with_a_wrong_no = before_commit ++ the_commit ∷ behind_the_commit
