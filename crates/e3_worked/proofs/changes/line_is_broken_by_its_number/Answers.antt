use Rattle.e3_worked.proofs.changes.line_is_broken_by_its_number.Goals as goal
use Rattle.std.specs.Prelude.{refl}
use Rattle.e3_types.specs.Sites.{bits_of}

pub returns-clause-line_left_out : goal.returns-clause-line_left_out
unfolding bits_of
returns-clause-line_left_out c = refl

pub returns-clause-line_twice : goal.returns-clause-line_twice
unfolding bits_of
returns-clause-line_twice c = refl

pub returns-clause-lines_swapped : goal.returns-clause-lines_swapped
unfolding bits_of
returns-clause-lines_swapped c = refl

pub returns-clause-line_skipped : goal.returns-clause-line_skipped
unfolding bits_of
returns-clause-line_skipped c = refl

pub returns-clause-line_zero : goal.returns-clause-line_zero
unfolding bits_of
returns-clause-line_zero c = refl

pub returns-clause-line_past_the_last : goal.returns-clause-line_past_the_last
unfolding bits_of
returns-clause-line_past_the_last c = refl
