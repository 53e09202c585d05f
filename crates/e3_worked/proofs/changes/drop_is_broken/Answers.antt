use Rattle.e3_worked.proofs.changes.drop_is_broken.Goals as goal
use Rattle.std.specs.Prelude.{refl}
use Rattle.e3_types.specs.Sites.{bits_of}

pub returns-clause-drop_at_a_site_that_is_up : goal.returns-clause-drop_at_a_site_that_is_up
unfolding bits_of
returns-clause-drop_at_a_site_that_is_up c = refl

pub returns-clause-drop_of_a_split_packet : goal.returns-clause-drop_of_a_split_packet
unfolding bits_of
returns-clause-drop_of_a_split_packet c = refl

pub returns-clause-drop_of_a_lost_packet : goal.returns-clause-drop_of_a_lost_packet
unfolding bits_of
returns-clause-drop_of_a_lost_packet c = refl

pub returns-clause-drop_twice : goal.returns-clause-drop_twice
unfolding bits_of
returns-clause-drop_twice c = refl

pub returns-clause-drop_of_another_number : goal.returns-clause-drop_of_another_number
unfolding bits_of
returns-clause-drop_of_another_number c = refl

pub returns-clause-drop_before_it_is_sent : goal.returns-clause-drop_before_it_is_sent
unfolding bits_of
returns-clause-drop_before_it_is_sent c = refl

pub returns-clause-drop_of_a_delivered_packet : goal.returns-clause-drop_of_a_delivered_packet
unfolding bits_of
returns-clause-drop_of_a_delivered_packet c = refl

pub returns-clause-drop_out_of_order : goal.returns-clause-drop_out_of_order
unfolding bits_of
returns-clause-drop_out_of_order c = refl
