-- Cuts and rises that no step asks for, tails that are not open, and wrong incarnations.
use Rattle.std.specs.Prelude.{true, false, List}
use Rattle.e3_types.specs.declared.entries.Act.TheVariants.{Rise, RiseFall, Miss}
use Rattle.e3_types.specs.declared.entries.Entry.{Entry}
use Rattle.e3_types.specs.declared.entries.Why.TheVariants.{Fault, Full}
use Rattle.e3_worked.specs.Damage.{put_in, twice, swapped, owned, acted, with_why}
use Rattle.e3_worked.specs.CascadeCommits.{cascade_commits_history}
use Rattle.e3_worked.specs.MissedAndFailedRises.{missed_and_failed_rises_history}
use Rattle.e3_worked.specs.OneWrite.{one_write_history}
use Rattle.e3_worked.specs.RestartDooms.{restart_dooms_history}
use Rattle.e3_worked.specs.Entries.{rises, cut}

-- a site's power is cut in a step that has no crash
abbrev pub cut_outside_its_crash : List Entry
cut_outside_its_crash = put_in 4 (cut 2) restart_dooms_history

-- the power of another site is cut than the crash names
abbrev pub cut_of_another_site : List Entry
cut_of_another_site = owned 9 1 restart_dooms_history

-- the second site rises before the first
abbrev pub rise_before_its_turn : List Entry
rise_before_its_turn = swapped 0 restart_dooms_history

-- the site rises before the line of its restart
abbrev pub rise_before_its_line : List Entry
rise_before_its_line = swapped 10 restart_dooms_history

-- another site that is down rises in the restart
abbrev pub rise_of_another_site : List Entry
rise_of_another_site = owned 31 3 cascade_commits_history

-- the site misses its rise twice in one step
abbrev pub missed_rise_twice : List Entry
missed_rise_twice = twice 5 missed_and_failed_rises_history

-- the site misses its rise before the line of its restart
abbrev pub missed_rise_before_its_line : List Entry
missed_rise_before_its_line = swapped 4 missed_and_failed_rises_history

-- the rise fails before the line of its restart
abbrev pub failed_rise_before_its_line : List Entry
failed_rise_before_its_line = swapped 7 missed_and_failed_rises_history

-- the site misses its rise, and rises in the same step
abbrev pub rise_behind_a_missed_rise : List Entry
rise_behind_a_missed_rise = put_in 6 (rises 1 2) missed_and_failed_rises_history

-- a tail is kept at the first rise of a site
abbrev pub kept_at_the_first_rise : List Entry
kept_at_the_first_rise = acted 0 (λ act. Rise true 1) one_write_history

-- a tail is kept behind a cut, which leaves none
abbrev pub kept_behind_a_cut : List Entry
kept_behind_a_cut = acted 11 (λ act. Rise true 2) restart_dooms_history

-- a tail is kept at a rise that fails, where none is open
abbrev pub kept_at_a_failed_rise : List Entry
kept_at_a_failed_rise = acted 8 (λ act. RiseFall true 2 Fault) missed_and_failed_rises_history

-- the frame did not fit, which leaves no tail, and a tail is kept
abbrev pub kept_behind_a_full_disk : List Entry
kept_behind_a_full_disk = acted 21 (with_why (Full 120 100)) cascade_commits_history

-- the rise that failed was missed, which leaves no tail, and one is kept
abbrev pub kept_behind_a_missed_rise : List Entry
kept_behind_a_missed_rise = acted 8 (λ act. Miss) missed_and_failed_rises_history

-- the first incarnation is 2
abbrev pub inc_skipped : List Entry
inc_skipped = acted 0 (λ act. Rise false 2) one_write_history

-- the incarnation of the restart is the one before
abbrev pub inc_again : List Entry
inc_again = acted 11 (λ act. Rise false 1) restart_dooms_history

-- the incarnation of the failed rise is one too great
abbrev pub inc_of_a_failed_rise_skipped : List Entry
inc_of_a_failed_rise_skipped = acted 8 (λ act. RiseFall false 3 Fault) missed_and_failed_rises_history

-- the tail that is kept has an incarnation, and the rise has the same
abbrev pub inc_of_a_kept_tail_again : List Entry
inc_of_a_kept_tail_again = acted 10 (λ act. Rise true 2) missed_and_failed_rises_history

-- the tail that is left has an incarnation, and the rise counts it
abbrev pub kept_left_off_a_tail_with_an_inc : List Entry
kept_left_off_a_tail_with_an_inc = acted 10 (λ act. Rise false 3) missed_and_failed_rises_history
