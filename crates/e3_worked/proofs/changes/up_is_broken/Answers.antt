use Rattle.e3_worked.proofs.changes.up_is_broken.Goals as goal
use Rattle.std.specs.Prelude.{refl}
use Rattle.e3_types.specs.Sites.{bits_of}

pub returns-clause-rise_of_a_site_that_is_up : goal.returns-clause-rise_of_a_site_that_is_up
unfolding bits_of
returns-clause-rise_of_a_site_that_is_up c = refl

pub returns-clause-failed_rise_of_a_site_that_is_up : goal.returns-clause-failed_rise_of_a_site_that_is_up
unfolding bits_of
returns-clause-failed_rise_of_a_site_that_is_up c = refl

pub returns-clause-missed_rise_of_a_site_that_is_up : goal.returns-clause-missed_rise_of_a_site_that_is_up
unfolding bits_of
returns-clause-missed_rise_of_a_site_that_is_up c = refl

pub returns-clause-step_of_a_site_that_is_down : goal.returns-clause-step_of_a_site_that_is_down
unfolding bits_of
returns-clause-step_of_a_site_that_is_down c = refl

pub returns-clause-step_behind_a_fall : goal.returns-clause-step_behind_a_fall
unfolding bits_of
returns-clause-step_behind_a_fall c = refl

pub returns-clause-step_behind_a_cut : goal.returns-clause-step_behind_a_cut
unfolding bits_of
returns-clause-step_behind_a_cut c = refl

pub returns-clause-fall_of_a_site_that_is_down : goal.returns-clause-fall_of_a_site_that_is_down
unfolding bits_of
returns-clause-fall_of_a_site_that_is_down c = refl

pub returns-clause-cut_of_a_site_that_is_down : goal.returns-clause-cut_of_a_site_that_is_down
unfolding bits_of
returns-clause-cut_of_a_site_that_is_down c = refl
