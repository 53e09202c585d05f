-- Entries of an owner that may not enter them, and sites that are up or down where they must not be.
use Rattle.std.specs.Prelude.{◌∷◌, [], false, List}
use Rattle.e3_types.specs.declared.entries.Act.TheVariants.{RiseFall, Miss}
use Rattle.e3_types.specs.declared.entries.Entry.{Entry}
use Rattle.e3_types.specs.declared.entries.Why.TheVariants.{Fault}
use Rattle.e3_worked.specs.Damage.{put_in, twice, owned, acted}
use Rattle.e3_worked.specs.CascadeCommits.{cascade_commits_history}
use Rattle.e3_worked.specs.DroppedPackets.{dropped_packets_history}
use Rattle.e3_worked.specs.MissedAndFailedRises.{missed_and_failed_rises_history}
use Rattle.e3_worked.specs.OneWrite.{one_write_history}
use Rattle.e3_worked.specs.RestartDooms.{restart_dooms_history}
use Rattle.e3_worked.specs.SplitInHalves.{split_in_halves_history}
use Rattle.e3_worked.specs.TooLateKeptDown.{too_late_kept_down_history}
use Rattle.e3_worked.specs.Entries.{rises, gets}
use Rattle.e3_worked.specs.CascadeCommits as cascade
use Rattle.e3_worked.specs.RestartBeforeTheVote as restart

-- the first line is entered by the site
abbrev pub line_by_a_site : List Entry
line_by_a_site = owned 1 1 one_write_history

-- the begin is entered by the driver
abbrev pub step_by_the_driver : List Entry
step_by_the_driver = owned 2 0 one_write_history

-- the begin is entered by a site that there is not
abbrev pub step_of_no_site : List Entry
step_of_no_site = owned 2 2 one_write_history

-- a second site rises, where there is one alone
abbrev pub rise_of_no_site : List Entry
rise_of_no_site = put_in 1 (rises 2 1) one_write_history

-- the parts are entered by a site
abbrev pub parts_by_a_site : List Entry
parts_by_a_site = owned 9 1 split_in_halves_history

-- the drop is entered by the site that the packet was for
abbrev pub drop_by_a_site : List Entry
drop_by_a_site = owned 12 3 dropped_packets_history

-- the fall is entered by a site that there is not
abbrev pub fall_of_no_site : List Entry
fall_of_no_site = owned 21 4 cascade_commits_history

-- the cut is entered by the driver
abbrev pub cut_by_the_driver : List Entry
cut_by_the_driver = owned 9 0 restart_dooms_history

-- the missed rise is entered by the driver
abbrev pub miss_by_the_driver : List Entry
miss_by_the_driver = owned 5 0 missed_and_failed_rises_history

-- the failed rise is entered by the driver
abbrev pub failed_rise_by_the_driver : List Entry
failed_rise_by_the_driver = owned 8 0 missed_and_failed_rises_history

-- the site rises twice
abbrev pub rise_of_a_site_that_is_up : List Entry
rise_of_a_site_that_is_up = twice 0 one_write_history

-- a rise of a site that is up fails
abbrev pub failed_rise_of_a_site_that_is_up : List Entry
failed_rise_of_a_site_that_is_up = put_in 1 (record { owner = 1; act = RiseFall false 2 Fault }) one_write_history

-- a site that is up misses its rise
abbrev pub missed_rise_of_a_site_that_is_up : List Entry
missed_rise_of_a_site_that_is_up = put_in 1 (record { owner = 1; act = Miss }) one_write_history

-- the rise was missed, and the site takes its item all the same
abbrev pub step_of_a_site_that_is_down : List Entry
step_of_a_site_that_is_down = acted 15 (λ act. Miss) too_late_kept_down_history

-- the site fell over a packet, and takes it all the same
abbrev pub step_behind_a_fall : List Entry
step_behind_a_fall = put_in 22 (gets 1 cascade.p8 [] [] []) cascade_commits_history

-- a site whose power was cut takes a packet
abbrev pub step_behind_a_cut : List Entry
step_behind_a_cut = put_in 10 (gets 2 restart.p1 [] (restart.p2 ∷ []) []) restart_dooms_history

-- a site falls twice
abbrev pub fall_of_a_site_that_is_down : List Entry
fall_of_a_site_that_is_down = twice 21 cascade_commits_history

-- the power of a site is cut twice
abbrev pub cut_of_a_site_that_is_down : List Entry
cut_of_a_site_that_is_down = twice 9 restart_dooms_history
