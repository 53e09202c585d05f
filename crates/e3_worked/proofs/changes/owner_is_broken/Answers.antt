use Rattle.e3_worked.proofs.changes.owner_is_broken.Goals as goal
use Rattle.std.specs.Prelude.{refl}
use Rattle.e3_types.specs.Sites.{bits_of}

pub returns-clause-line_by_a_site : goal.returns-clause-line_by_a_site
unfolding bits_of
returns-clause-line_by_a_site c = refl

pub returns-clause-step_by_the_driver : goal.returns-clause-step_by_the_driver
unfolding bits_of
returns-clause-step_by_the_driver c = refl

pub returns-clause-step_of_no_site : goal.returns-clause-step_of_no_site
unfolding bits_of
returns-clause-step_of_no_site c = refl

pub returns-clause-rise_of_no_site : goal.returns-clause-rise_of_no_site
unfolding bits_of
returns-clause-rise_of_no_site c = refl

pub returns-clause-parts_by_a_site : goal.returns-clause-parts_by_a_site
unfolding bits_of
returns-clause-parts_by_a_site c = refl

pub returns-clause-drop_by_a_site : goal.returns-clause-drop_by_a_site
unfolding bits_of
returns-clause-drop_by_a_site c = refl

pub returns-clause-fall_of_no_site : goal.returns-clause-fall_of_no_site
unfolding bits_of
returns-clause-fall_of_no_site c = refl

pub returns-clause-cut_by_the_driver : goal.returns-clause-cut_by_the_driver
unfolding bits_of
returns-clause-cut_by_the_driver c = refl

pub returns-clause-miss_by_the_driver : goal.returns-clause-miss_by_the_driver
unfolding bits_of
returns-clause-miss_by_the_driver c = refl

pub returns-clause-failed_rise_by_the_driver : goal.returns-clause-failed_rise_by_the_driver
unfolding bits_of
returns-clause-failed_rise_by_the_driver c = refl
