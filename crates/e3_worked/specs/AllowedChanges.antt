-- Changes that break no guard: some leave the scenario unfinished, some do nothing to it.
use Rattle.std.specs.Prelude.{List}
use Rattle.e3_types.specs.declared.entries.Entry.{Entry}
use Rattle.e3_types.specs.declared.entries.Why.TheVariants.{Full}
use Rattle.e3_worked.specs.Damage.{left_out, swapped, acted, with_why}
use Rattle.e3_worked.specs.DroppedPackets.{dropped_packets_history}
use Rattle.e3_worked.specs.FallenGroup.{fallen_group_history}
use Rattle.e3_worked.specs.MissedAndFailedRises.{missed_and_failed_rises_history}
use Rattle.e3_worked.specs.OneWrite.{one_write_history}
use Rattle.e3_worked.specs.SplitInHalves.{split_in_halves_history}
use Rattle.e3_worked.specs.TwoSitesAtOnce.{two_sites_at_once_history}

-- the last item was not taken
abbrev pub last_step_left_out : List Entry
last_step_left_out = left_out 6 one_write_history

-- the last line was not entered
abbrev pub last_line_left_out : List Entry
last_line_left_out = left_out 11 missed_and_failed_rises_history

-- the last packet was not delivered
abbrev pub last_delivery_left_out : List Entry
last_delivery_left_out = left_out 45 split_in_halves_history

-- the last packet was not dropped
abbrev pub last_drop_left_out : List Entry
last_drop_left_out = left_out 19 fallen_group_history

-- the second site begins before the first
abbrev pub items_swapped : List Entry
items_swapped = swapped 3 two_sites_at_once_history

-- the second packet is delivered before the first
abbrev pub deliveries_swapped : List Entry
deliveries_swapped = swapped 10 two_sites_at_once_history

-- a packet is delivered before the drop of the one sent before it
abbrev pub drop_behind_a_delivery : List Entry
drop_behind_a_delivery = swapped 12 dropped_packets_history

-- the site falls for want of room
abbrev pub fall_for_another_cause : List Entry
fall_for_another_cause = acted 27 (with_why (Full 120 100)) dropped_packets_history
