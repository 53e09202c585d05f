-- Records, packets and events that are not those that the input makes.
use Rattle.std.specs.Prelude.{◌∷◌, [], true, false, List, codes}
use Rattle.e3_types.specs.declared.entries.Act.TheVariants.{Rise}
use Rattle.e3_types.specs.declared.transactions.Answer.TheVariants.{Value, Written}
use Rattle.e3_types.specs.declared.transactions.Dir.TheVariants.{Abort, Commit}
use Rattle.e3_types.specs.declared.entries.Entry.{Entry}
use Rattle.e3_types.specs.declared.transactions.Op.TheVariants.{Read}
use Rattle.e3_types.specs.declared.messages.Message.TheVariants as msg
use Rattle.e3_types.specs.declared.records.Record.TheVariants as log
use Rattle.e3_types.specs.declared.entries.Refusal.TheVariants as refusal
use Rattle.e3_types.specs.declared.entries.Told.TheVariants as told
use Rattle.e3_types.specs.declared.verdicts.Verdict.TheVariants as verdict
use Rattle.e3_worked.specs.Damage.{left_out, acted, with_records, with_outs, with_told}
use Rattle.e3_worked.specs.CascadeCommits.{cascade_commits_history}
use Rattle.e3_worked.specs.OlderWaitsYoungerDies.{older_waits_younger_dies_history}
use Rattle.e3_worked.specs.OneWrite.{one_vote, one_write_history}
use Rattle.e3_worked.specs.RestartDooms.{restart_dooms_history}
use Rattle.e3_worked.specs.SplitInHalves.{split_in_halves_history}
use Rattle.e3_worked.specs.ThreeSites.{three_sites_history}
use Rattle.e3_worked.specs.UpgradeWaits.{upgrade_waits_history}
use Rattle.e3_worked.specs.CascadeCommits as cascade
use Rattle.e3_worked.specs.OlderWaitsYoungerDies as older
use Rattle.e3_worked.specs.OneWrite as one
use Rattle.e3_worked.specs.RestartBeforeTheVote as restart
use Rattle.e3_worked.specs.SplitInHalves as halves
use Rattle.e3_worked.specs.ThreeSites as three
use Rattle.e3_worked.specs.UpgradeWaits as upgrade
use Rattle.e3_worked.specs.Entries.{packet, call, operation}
use Rattle.e3_worked.specs.Names.{key_1_ann}

-- the attempt is left out
abbrev pub record_left_out : List Entry
record_left_out = acted 6 (with_records (one_vote ∷ log.Decision one.t1_1_1 Commit ∷ [])) one_write_history

-- the attempt stands before the vote
abbrev pub records_in_another_order : List Entry
records_in_another_order = acted 6 (with_records (log.Attempt one.t1_1_1 1 Commit ∷ one_vote ∷ log.Decision one.t1_1_1 Commit ∷ [])) one_write_history

-- the vote leaves out the write
abbrev pub vote_with_an_operation_less : List Entry
vote_with_an_operation_less = acted 18 (with_records (log.Vote three.t1_1_1 (operation 1 (Read key_1_ann) ∷ []) ∷ [])) three_sites_history

-- the site joins a greater number
abbrev pub join_of_another_number : List Entry
join_of_another_number = acted 17 (with_records (log.Join halves.t1_1_1 3 ∷ [])) split_in_halves_history

-- the site attempts to commit in place of to abort
abbrev pub attempt_turned : List Entry
attempt_turned = acted 36 (with_records (log.Attempt halves.t1_1_1 3 Commit ∷ [])) split_in_halves_history

-- the site records the other decision
abbrev pub decision_turned : List Entry
decision_turned = acted 23 (with_records (log.Decision three.t1_1_1 Abort ∷ [])) three_sites_history

-- the coordinator attempts to commit at the first of two votes
abbrev pub attempt_before_the_votes : List Entry
attempt_before_the_votes = acted 20 (with_records (log.Attempt cascade.t1_1_1 1 Commit ∷ [])) cascade_commits_history

-- the fall has no records
abbrev pub fall_without_records : List Entry
fall_without_records = acted 21 (with_records []) cascade_commits_history

-- the fall has the records of a later input
abbrev pub fall_with_records_of_another_input : List Entry
fall_with_records_of_another_input = acted 21 (with_records (log.Decision cascade.t1_1_1 Commit ∷ [])) cascade_commits_history

-- the delivery of the first vote is left out, and the second makes no record
abbrev pub fall_without_the_vote_before : List Entry
fall_without_the_vote_before = left_out 20 cascade_commits_history

-- the tail with the attempt is not kept, and the site goes on as if it were
abbrev pub kept_left_off : List Entry
kept_left_off = acted 31 (λ act. Rise false 2) cascade_commits_history

-- one of three packets is left out
abbrev pub packet_left_out : List Entry
packet_left_out = acted 11 (with_outs (halves.p1 ∷ halves.p2 ∷ [])) split_in_halves_history

-- the packet is sent twice
abbrev pub packet_more : List Entry
packet_more = acted 12 (with_outs (halves.p4 ∷ record halves.p4 { number = 5 } ∷ [])) split_in_halves_history

-- a begin sends a packet
abbrev pub packet_where_none_is_due : List Entry
packet_where_none_is_due = acted 2 (with_outs (packet 1 1 1 (msg.Decide one.t1_1_1 Commit) ∷ [])) one_write_history

-- the packet skips a number
abbrev pub packet_of_another_number : List Entry
packet_of_another_number = acted 12 (with_outs (record halves.p4 { number = 5 } ∷ [])) split_in_halves_history

-- the vote goes to another site
abbrev pub packet_to_another_site : List Entry
packet_to_another_site = acted 12 (with_outs (record halves.p4 { to = 3 } ∷ [])) split_in_halves_history

-- the vote says that it comes from another site
abbrev pub packet_from_another_site : List Entry
packet_from_another_site = acted 12 (with_outs (record halves.p4 { «from» = 3 } ∷ [])) split_in_halves_history

-- the site says no in place of yes
abbrev pub vote_turned : List Entry
vote_turned = acted 12 (with_outs (record halves.p4 { msg = msg.Vote halves.t1_1_1 false } ∷ [])) split_in_halves_history

-- the site answers that it joined a greater number
abbrev pub elected_number_changed : List Entry
elected_number_changed = acted 16 (with_outs (record halves.p6 { msg = msg.LastElected halves.t1_1_1 (call 1 1) 2 } ∷ [])) split_in_halves_history

-- the read is answered with another value
abbrev pub read_sent_with_another_value : List Entry
read_sent_with_another_value = acted 6 (with_outs (record restart.p2 { msg = msg.Done restart.t1_1_1 1 1 (Value (codes "b")) } ∷ [])) restart_dooms_history

-- the tail with the attempt is kept, and the site reports as if it were not
abbrev pub kept_put_on : List Entry
kept_put_on = acted 33 (λ act. Rise true 2) cascade_commits_history

-- the second begin tells the first transaction
abbrev pub told_of_another_transaction : List Entry
told_of_another_transaction = acted 5 (with_told (told.Began older.t1_1_1 ∷ [])) older_waits_younger_dies_history

-- the read is told with another value
abbrev pub read_told_with_another_value : List Entry
read_told_with_another_value = acted 6 (with_told (told.Op three.t1_1_1 1 (Value (codes "90")) ∷ [])) three_sites_history

-- the write is refused in place of answered
abbrev pub refusal_for_an_answer : List Entry
refusal_for_an_answer = acted 4 (with_told (told.Refused one.t1_1_1 refusal.NoTxn ∷ [])) one_write_history

-- the commit is refused for another cause
abbrev pub another_refusal : List Entry
another_refusal = acted 18 (with_told (told.Refused restart.t1_1_1 (refusal.Over Abort) ∷ [])) restart_dooms_history

-- the end is not told
abbrev pub told_left_out : List Entry
told_left_out = acted 6 (with_told []) one_write_history

-- the commit is told at the attempt
abbrev pub told_early : List Entry
told_early = acted 20 (with_told (told.Ended three.t1_1_1 Commit ∷ [])) three_sites_history

-- the end is told as an abort
abbrev pub told_turned : List Entry
told_turned = acted 6 (with_told (told.Ended one.t1_1_1 Abort ∷ [])) one_write_history

-- a site that is not the coordinator tells the end
abbrev pub told_by_another_site : List Entry
told_by_another_site = acted 45 (with_told (told.Ended halves.t1_1_1 Abort ∷ [])) split_in_halves_history

-- the elector tells a pre-commit
abbrev pub verdict_changed : List Entry
verdict_changed = acted 36 (with_told (told.Verdict halves.t1_1_1 3 verdict.PreCommit ∷ [])) split_in_halves_history

-- the grant is told before the death that made it
abbrev pub events_in_another_order : List Entry
events_in_another_order = acted 12 (with_told (told.Op upgrade.t1_1_1 2 Written ∷ told.Died upgrade.t1_1_2 upgrade.t1_1_1 ∷ [])) upgrade_waits_history
