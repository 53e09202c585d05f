use Rattle.e3_worked.proofs.changes.records_of_a_fall_are_broken.Goals as goal
use Rattle.std.specs.Prelude.{refl}
use Rattle.e3_types.specs.Sites.{bits_of}

pub returns-clause-fall_without_records : goal.returns-clause-fall_without_records
unfolding bits_of
returns-clause-fall_without_records c = refl

pub returns-clause-fall_with_records_of_another_input : goal.returns-clause-fall_with_records_of_another_input
unfolding bits_of
returns-clause-fall_with_records_of_another_input c = refl

pub returns-clause-fall_without_the_vote_before : goal.returns-clause-fall_without_the_vote_before
unfolding bits_of
returns-clause-fall_without_the_vote_before c = refl

pub returns-clause-kept_left_off : goal.returns-clause-kept_left_off
unfolding bits_of
returns-clause-kept_left_off c = refl
