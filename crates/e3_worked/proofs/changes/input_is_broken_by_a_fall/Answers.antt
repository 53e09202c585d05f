use Rattle.e3_worked.proofs.changes.input_is_broken_by_a_fall.Goals as goal
use Rattle.std.specs.Prelude.{refl}
use Rattle.e3_types.specs.Sites.{bits_of}

pub returns-clause-fall_over_a_delivered_packet : goal.returns-clause-fall_over_a_delivered_packet
unfolding bits_of
returns-clause-fall_over_a_delivered_packet c = refl

pub returns-clause-fall_over_a_packet_twice : goal.returns-clause-fall_over_a_packet_twice
unfolding bits_of
returns-clause-fall_over_a_packet_twice c = refl

pub returns-clause-fall_over_another_input : goal.returns-clause-fall_over_another_input
unfolding bits_of
returns-clause-fall_over_another_input c = refl

pub returns-clause-delivery_before_the_drop : goal.returns-clause-delivery_before_the_drop
unfolding bits_of
returns-clause-delivery_before_the_drop c = refl

pub returns-clause-falls_out_of_order : goal.returns-clause-falls_out_of_order
unfolding bits_of
returns-clause-falls_out_of_order c = refl
