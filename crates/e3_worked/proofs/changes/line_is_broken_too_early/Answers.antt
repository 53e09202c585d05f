use Rattle.e3_worked.proofs.changes.line_is_broken_too_early.Goals as goal
use Rattle.std.specs.Prelude.{refl}
use Rattle.e3_types.specs.Sites.{bits_of}

pub returns-clause-line_before_a_rise : goal.returns-clause-line_before_a_rise
unfolding bits_of
returns-clause-line_before_a_rise c = refl

pub returns-clause-line_before_an_item : goal.returns-clause-line_before_an_item
unfolding bits_of
returns-clause-line_before_an_item c = refl

pub returns-clause-line_with_a_packet_pending : goal.returns-clause-line_with_a_packet_pending
unfolding bits_of
returns-clause-line_with_a_packet_pending c = refl

pub returns-clause-line_before_the_drop : goal.returns-clause-line_before_the_drop
unfolding bits_of
returns-clause-line_before_the_drop c = refl

pub returns-clause-line_before_the_parts : goal.returns-clause-line_before_the_parts
unfolding bits_of
returns-clause-line_before_the_parts c = refl

pub returns-clause-line_before_the_round : goal.returns-clause-line_before_the_round
unfolding bits_of
returns-clause-line_before_the_round c = refl

pub returns-clause-line_before_the_cut : goal.returns-clause-line_before_the_cut
unfolding bits_of
returns-clause-line_before_the_cut c = refl

pub returns-clause-line_before_the_restart : goal.returns-clause-line_before_the_restart
unfolding bits_of
returns-clause-line_before_the_restart c = refl
