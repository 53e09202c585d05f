use Rattle.e3_worked.proofs.changes.parts_are_broken.Goals as goal
use Rattle.std.specs.Prelude.{refl}
use Rattle.e3_types.specs.Sites.{bits_of}

pub returns-clause-parts_without_a_split : goal.returns-clause-parts_without_a_split
unfolding bits_of
returns-clause-parts_without_a_split c = refl

pub returns-clause-parts_before_the_first_line : goal.returns-clause-parts_before_the_first_line
unfolding bits_of
returns-clause-parts_before_the_first_line c = refl

pub returns-clause-parts_of_another_split : goal.returns-clause-parts_of_another_split
unfolding bits_of
returns-clause-parts_of_another_split c = refl

pub returns-clause-parts_in_another_order : goal.returns-clause-parts_in_another_order
unfolding bits_of
returns-clause-parts_in_another_order c = refl

pub returns-clause-parts_twice : goal.returns-clause-parts_twice
unfolding bits_of
returns-clause-parts_twice c = refl

pub returns-clause-parts_before_their_line : goal.returns-clause-parts_before_their_line
unfolding bits_of
returns-clause-parts_before_their_line c = refl

pub returns-clause-merge_into_halves : goal.returns-clause-merge_into_halves
unfolding bits_of
returns-clause-merge_into_halves c = refl
