use Rattle.e3_worked.proofs.changes.input_is_broken_by_an_election.Goals as goal
use Rattle.std.specs.Prelude.{refl}
use Rattle.e3_types.specs.Sites.{bits_of}

pub returns-clause-elect_of_another_group : goal.returns-clause-elect_of_another_group
unfolding bits_of
returns-clause-elect_of_another_group c = refl

pub returns-clause-elect_by_another_site : goal.returns-clause-elect_by_another_site
unfolding bits_of
returns-clause-elect_by_another_site c = refl

pub returns-clause-elect_twice : goal.returns-clause-elect_twice
unfolding bits_of
returns-clause-elect_twice c = refl

pub returns-clause-elect_before_its_line : goal.returns-clause-elect_before_its_line
unfolding bits_of
returns-clause-elect_before_its_line c = refl

pub returns-clause-elect_of_the_second_transaction : goal.returns-clause-elect_of_the_second_transaction
unfolding bits_of
returns-clause-elect_of_the_second_transaction c = refl

pub returns-clause-elect_with_a_packet_pending : goal.returns-clause-elect_with_a_packet_pending
unfolding bits_of
returns-clause-elect_with_a_packet_pending c = refl
