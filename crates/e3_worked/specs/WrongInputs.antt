-- Inputs that are not due at their site.
use Rattle.std.specs.Prelude.{◌∷◌, [], List, codes}
use Rattle.e3_types.specs.declared.transactions.Dir.TheVariants.{Abort}
use Rattle.e3_types.specs.declared.entries.Entry.{Entry}
use Rattle.e3_types.specs.declared.transactions.Op.TheVariants.{Write}
use Rattle.e3_types.specs.declared.entries.Input.TheVariants as input
use Rattle.e3_types.specs.declared.messages.Message.TheVariants as msg
use Rattle.e3_worked.specs.Damage.{left_out, put_in, twice, swapped, owned, acted, with_input, with_inputs}
use Rattle.e3_worked.specs.BusyCancelOver.{busy_cancel_over_history}
use Rattle.e3_worked.specs.CascadeCommits.{cascade_commits_history}
use Rattle.e3_worked.specs.DroppedPackets.{dropped_packets_history}
use Rattle.e3_worked.specs.FallenGroup.{fallen_group_history}
use Rattle.e3_worked.specs.OlderWaitsYoungerDies.{older_waits_younger_dies_history}
use Rattle.e3_worked.specs.OneWrite.{one_write_history}
use Rattle.e3_worked.specs.SplitInHalves.{split_in_halves_history}
use Rattle.e3_worked.specs.ThreeSites.{three_sites_history}
use Rattle.e3_worked.specs.TwoSitesAtOnce.{two_sites_at_once_history}
use Rattle.e3_worked.specs.BusyCancelOver as busy
use Rattle.e3_worked.specs.CascadeCommits as cascade
use Rattle.e3_worked.specs.FallenGroup as fallen
use Rattle.e3_worked.specs.OlderWaitsYoungerDies as older
use Rattle.e3_worked.specs.OneWrite as one
use Rattle.e3_worked.specs.SplitInHalves as halves
use Rattle.e3_worked.specs.ThreeSites as three
use Rattle.e3_worked.specs.TwoSitesAtOnce as two
use Rattle.e3_worked.specs.Entries.{packet, takes, gets}
use Rattle.e3_worked.specs.Names.{s1_2, s1_2_3, key_1_x}

-- the line of the write is left out
abbrev pub item_without_its_line : List Entry
item_without_its_line = left_out 3 one_write_history

-- the begin stands twice
abbrev pub item_twice : List Entry
item_twice = twice 2 one_write_history

-- the begin is taken by another site than it names
abbrev pub item_of_another_site : List Entry
item_of_another_site = owned 3 2 older_waits_younger_dies_history

-- a commit stands in the place of the write
abbrev pub item_of_another_kind : List Entry
item_of_another_kind = acted 4 (with_input (input.Commit one.t1_1_1)) one_write_history

-- the write is one of another value
abbrev pub item_with_another_value : List Entry
item_with_another_value = acted 4 (with_input (input.Do one.t1_1_1 (Write key_1_x (codes "b")))) one_write_history

-- the write is one of the other transaction
abbrev pub item_of_another_transaction : List Entry
item_of_another_transaction = acted 7 (with_input (input.Do older.t2_1_1 (Write key_1_x (codes "a")))) older_waits_younger_dies_history

-- the begin is one of a single site
abbrev pub begin_for_other_sites : List Entry
begin_for_other_sites = acted 3 (with_input (input.Begin (1 ∷ []))) older_waits_younger_dies_history

-- an item is taken again behind a delivery
abbrev pub item_behind_a_delivery : List Entry
item_behind_a_delivery = put_in 9 (takes 2 (input.Do two.t2_1_1 (Write key_1_x (codes "b"))) [] [] []) two_sites_at_once_history

-- the elector asks a part of its group
abbrev pub elect_of_another_group : List Entry
elect_of_another_group = acted 24 (with_input (input.Elect halves.t1_1_1 s1_2)) split_in_halves_history

-- another member of the group is the elector
abbrev pub elect_by_another_site : List Entry
elect_by_another_site = owned 15 2 split_in_halves_history

-- the elector begins twice
abbrev pub elect_twice : List Entry
elect_twice = twice 15 split_in_halves_history

-- the elector begins before the line of the recover step
abbrev pub elect_before_its_line : List Entry
elect_before_its_line = swapped 14 split_in_halves_history

-- the first round is one of the second transaction
abbrev pub elect_of_the_second_transaction : List Entry
elect_of_the_second_transaction = acted 10 (with_input (input.Elect fallen.t1_1_2 s1_2_3)) fallen_group_history

-- the second round begins while a packet of the first is pending
abbrev pub elect_with_a_packet_pending : List Entry
elect_with_a_packet_pending = swapped 16 fallen_group_history

-- a packet is delivered twice, of which there is one copy
abbrev pub delivery_twice : List Entry
delivery_twice = twice 12 split_in_halves_history

-- a packet is delivered to a site that it is not for
abbrev pub delivery_to_another_site : List Entry
delivery_to_another_site = owned 12 3 split_in_halves_history

-- a packet between two parts is delivered
abbrev pub delivery_of_a_split_packet : List Entry
delivery_of_a_split_packet = put_in 13 (gets 3 halves.p2 [] [] []) split_in_halves_history

-- a packet that was lost is delivered
abbrev pub delivery_of_a_lost_packet : List Entry
delivery_of_a_lost_packet = put_in 6 (gets 2 busy.p1 [] [] []) busy_cancel_over_history

-- a packet is delivered before it is sent
abbrev pub delivery_before_it_is_sent : List Entry
delivery_before_it_is_sent = swapped 8 three_sites_history

-- the packet has the number of another
abbrev pub delivery_of_another_number : List Entry
delivery_of_another_number = acted 12 (with_input (input.Deliver (record halves.p1 { number = 2 }))) split_in_halves_history

-- the packet brings a greater number of an election
abbrev pub delivery_of_another_election : List Entry
delivery_of_another_election = acted 18 (with_input (input.Deliver (record halves.p7 { msg = msg.Elected halves.t1_1_1 3 }))) split_in_halves_history

-- the packet brings the other decision
abbrev pub delivery_of_another_decision : List Entry
delivery_of_another_decision = acted 23 (with_input (input.Deliver (packet 9 1 2 (msg.Decide three.t1_1_1 Abort)))) three_sites_history

-- a site takes a packet before its item
abbrev pub delivery_before_all_items : List Entry
delivery_before_all_items = swapped 7 two_sites_at_once_history

-- in a recover step the second packet is delivered before the first
abbrev pub delivery_out_of_order : List Entry
delivery_out_of_order = swapped 25 split_in_halves_history

-- the site falls over a packet that it has taken before
abbrev pub fall_over_a_delivered_packet : List Entry
fall_over_a_delivered_packet = acted 21 (with_input (input.Deliver cascade.p7)) cascade_commits_history

-- the site falls over the packet twice, of which there is one copy
abbrev pub fall_over_a_packet_twice : List Entry
fall_over_a_packet_twice = acted 21 (with_inputs (input.Deliver cascade.p8 ∷ input.Deliver cascade.p8 ∷ [])) cascade_commits_history

-- the site falls over a begin that nobody asks for
abbrev pub fall_over_another_input : List Entry
fall_over_another_input = acted 21 (with_input (input.Begin s1_2_3)) cascade_commits_history

-- in a recover step a packet is delivered before the drop of the least
abbrev pub delivery_before_the_drop : List Entry
delivery_before_the_drop = swapped 30 dropped_packets_history

-- in a recover step a site falls over the second packet before another falls over the first
abbrev pub falls_out_of_order : List Entry
falls_out_of_order = swapped 15 fallen_group_history
