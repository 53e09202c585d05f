use Rattle.e3_worked.proofs.changes.records_are_broken.Goals as goal
use Rattle.std.specs.Prelude.{refl}
use Rattle.e3_types.specs.Sites.{bits_of}

pub returns-clause-record_left_out : goal.returns-clause-record_left_out
unfolding bits_of
returns-clause-record_left_out c = refl

pub returns-clause-records_in_another_order : goal.returns-clause-records_in_another_order
unfolding bits_of
returns-clause-records_in_another_order c = refl

pub returns-clause-vote_with_an_operation_less : goal.returns-clause-vote_with_an_operation_less
unfolding bits_of
returns-clause-vote_with_an_operation_less c = refl

pub returns-clause-join_of_another_number : goal.returns-clause-join_of_another_number
unfolding bits_of
returns-clause-join_of_another_number c = refl

pub returns-clause-attempt_turned : goal.returns-clause-attempt_turned
unfolding bits_of
returns-clause-attempt_turned c = refl

pub returns-clause-decision_turned : goal.returns-clause-decision_turned
unfolding bits_of
returns-clause-decision_turned c = refl

pub returns-clause-attempt_before_the_votes : goal.returns-clause-attempt_before_the_votes
unfolding bits_of
returns-clause-attempt_before_the_votes c = refl
