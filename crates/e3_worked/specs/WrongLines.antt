-- Lines, parts and drops that are not due.
use Rattle.std.specs.Prelude.{◌∷◌, [], List}
use Rattle.e3_types.specs.declared.entries.Act.TheVariants.{Drop, Parts, Line}
use Rattle.e3_types.specs.declared.entries.Entry.{Entry}
use Rattle.e3_worked.specs.Damage.{left_out, put_in, twice, swapped, acted}
use Rattle.e3_worked.specs.BusyCancelOver.{busy_cancel_over_history}
use Rattle.e3_worked.specs.CascadeCommits.{cascade_commits_history}
use Rattle.e3_worked.specs.DroppedPackets.{dropped_packets_history}
use Rattle.e3_worked.specs.FallenGroup.{fallen_group_history}
use Rattle.e3_worked.specs.OneWrite.{one_write_history}
use Rattle.e3_worked.specs.RestartDooms.{restart_dooms_history}
use Rattle.e3_worked.specs.SplitInHalves.{split_in_halves_history}
use Rattle.e3_worked.specs.Entries.{line, parts, drops}
use Rattle.e3_worked.specs.Names.{s1, s1_2, s3_4, s1_2_3_4}

-- the line of a step that asks nothing of a site is left out
abbrev pub line_left_out : List Entry
line_left_out = left_out 15 cascade_commits_history

-- the first line stands twice
abbrev pub line_twice : List Entry
line_twice = twice 1 one_write_history

-- two lines are swapped
abbrev pub lines_swapped : List Entry
lines_swapped = swapped 15 cascade_commits_history

-- the third line stands in the place of the second
abbrev pub line_skipped : List Entry
line_skipped = acted 3 (λ act. Line 3) one_write_history

-- the first line has the number 0
abbrev pub line_zero : List Entry
line_zero = acted 1 (λ act. Line 0) one_write_history

-- there is a line more than the scenario has
abbrev pub line_past_the_last : List Entry
line_past_the_last = put_in 7 (line 4) one_write_history

-- the rise of the site is left out
abbrev pub line_before_a_rise : List Entry
line_before_a_rise = left_out 0 one_write_history

-- the next line stands before the begin
abbrev pub line_before_an_item : List Entry
line_before_an_item = swapped 2 one_write_history

-- the next line stands before the delivery of the vote
abbrev pub line_with_a_packet_pending : List Entry
line_with_a_packet_pending = swapped 13 split_in_halves_history

-- the drop is left out, and the next line has a packet pending
abbrev pub line_before_the_drop : List Entry
line_before_the_drop = left_out 12 dropped_packets_history

-- the next line stands before the parts
abbrev pub line_before_the_parts : List Entry
line_before_the_parts = swapped 9 split_in_halves_history

-- the line behind a recover step stands before its round
abbrev pub line_before_the_round : List Entry
line_before_the_round = put_in 15 (line 6) split_in_halves_history

-- the cut is left out
abbrev pub line_before_the_cut : List Entry
line_before_the_cut = left_out 9 restart_dooms_history

-- the rise of a restart step is left out
abbrev pub line_before_the_restart : List Entry
line_before_the_restart = left_out 11 restart_dooms_history

-- the network is parted in a step that has no split
abbrev pub parts_without_a_split : List Entry
parts_without_a_split = put_in 2 (parts (s1 ∷ [])) one_write_history

-- the network is parted before the first line
abbrev pub parts_before_the_first_line : List Entry
parts_before_the_first_line = put_in 4 (parts (s1_2_3_4 ∷ [])) split_in_halves_history

-- all sites are one part in the step of the split
abbrev pub parts_of_another_split : List Entry
parts_of_another_split = acted 9 (λ act. Parts (s1_2_3_4 ∷ [])) split_in_halves_history

-- the parts of the split stand in another order
abbrev pub parts_in_another_order : List Entry
parts_in_another_order = acted 9 (λ act. Parts (s3_4 ∷ s1_2 ∷ [])) split_in_halves_history

-- the parts stand twice
abbrev pub parts_twice : List Entry
parts_twice = twice 9 split_in_halves_history

-- the parts stand before the line of the split
abbrev pub parts_before_their_line : List Entry
parts_before_their_line = swapped 8 split_in_halves_history

-- the merge parts the network as the split did
abbrev pub merge_into_halves : List Entry
merge_into_halves = acted 22 (λ act. Parts (s1_2 ∷ s3_4 ∷ [])) split_in_halves_history

-- the packet is dropped, though its receiver is up
abbrev pub drop_at_a_site_that_is_up : List Entry
drop_at_a_site_that_is_up = put_in 12 (drops 1) split_in_halves_history

-- a packet between two parts is dropped
abbrev pub drop_of_a_split_packet : List Entry
drop_of_a_split_packet = put_in 12 (drops 2) split_in_halves_history

-- a packet that was lost is dropped
abbrev pub drop_of_a_lost_packet : List Entry
drop_of_a_lost_packet = put_in 6 (drops 1) busy_cancel_over_history

-- a packet is dropped twice, of which there is one copy
abbrev pub drop_twice : List Entry
drop_twice = twice 12 dropped_packets_history

-- a packet is dropped that was not sent yet
abbrev pub drop_of_another_number : List Entry
drop_of_another_number = acted 12 (λ act. Drop 3) dropped_packets_history

-- the packet is dropped before it is sent
abbrev pub drop_before_it_is_sent : List Entry
drop_before_it_is_sent = put_in 10 (drops 2) dropped_packets_history

-- a packet is dropped over which the site fell
abbrev pub drop_of_a_delivered_packet : List Entry
drop_of_a_delivered_packet = put_in 22 (drops 8) cascade_commits_history

-- in a recover step the second packet is dropped before the first
abbrev pub drop_out_of_order : List Entry
drop_out_of_order = swapped 18 fallen_group_history
