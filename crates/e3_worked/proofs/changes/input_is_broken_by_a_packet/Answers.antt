use Rattle.e3_worked.proofs.changes.input_is_broken_by_a_packet.Goals as goal
use Rattle.std.specs.Prelude.{refl}
use Rattle.e3_types.specs.Sites.{bits_of}

pub returns-clause-delivery_twice : goal.returns-clause-delivery_twice
unfolding bits_of
returns-clause-delivery_twice c = refl

pub returns-clause-delivery_to_another_site : goal.returns-clause-delivery_to_another_site
unfolding bits_of
returns-clause-delivery_to_another_site c = refl

pub returns-clause-delivery_of_a_split_packet : goal.returns-clause-delivery_of_a_split_packet
unfolding bits_of
returns-clause-delivery_of_a_split_packet c = refl

pub returns-clause-delivery_of_a_lost_packet : goal.returns-clause-delivery_of_a_lost_packet
unfolding bits_of
returns-clause-delivery_of_a_lost_packet c = refl

pub returns-clause-delivery_before_it_is_sent : goal.returns-clause-delivery_before_it_is_sent
unfolding bits_of
returns-clause-delivery_before_it_is_sent c = refl

pub returns-clause-delivery_of_another_number : goal.returns-clause-delivery_of_another_number
unfolding bits_of
returns-clause-delivery_of_another_number c = refl

pub returns-clause-delivery_of_another_election : goal.returns-clause-delivery_of_another_election
unfolding bits_of
returns-clause-delivery_of_another_election c = refl

pub returns-clause-delivery_of_another_decision : goal.returns-clause-delivery_of_another_decision
unfolding bits_of
returns-clause-delivery_of_another_decision c = refl

pub returns-clause-delivery_before_all_items : goal.returns-clause-delivery_before_all_items
unfolding bits_of
returns-clause-delivery_before_all_items c = refl

pub returns-clause-delivery_out_of_order : goal.returns-clause-delivery_out_of_order
unfolding bits_of
returns-clause-delivery_out_of_order c = refl
