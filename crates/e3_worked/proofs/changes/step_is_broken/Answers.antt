use Rattle.e3_worked.proofs.changes.step_is_broken.Goals as goal
use Rattle.std.specs.Prelude.{refl}
use Rattle.e3_types.specs.Sites.{bits_of}

pub returns-clause-cut_outside_its_crash : goal.returns-clause-cut_outside_its_crash
unfolding bits_of
returns-clause-cut_outside_its_crash c = refl

pub returns-clause-cut_of_another_site : goal.returns-clause-cut_of_another_site
unfolding bits_of
returns-clause-cut_of_another_site c = refl

pub returns-clause-rise_before_its_turn : goal.returns-clause-rise_before_its_turn
unfolding bits_of
returns-clause-rise_before_its_turn c = refl

pub returns-clause-rise_before_its_line : goal.returns-clause-rise_before_its_line
unfolding bits_of
returns-clause-rise_before_its_line c = refl

pub returns-clause-rise_of_another_site : goal.returns-clause-rise_of_another_site
unfolding bits_of
returns-clause-rise_of_another_site c = refl

pub returns-clause-missed_rise_twice : goal.returns-clause-missed_rise_twice
unfolding bits_of
returns-clause-missed_rise_twice c = refl

pub returns-clause-missed_rise_before_its_line : goal.returns-clause-missed_rise_before_its_line
unfolding bits_of
returns-clause-missed_rise_before_its_line c = refl

pub returns-clause-failed_rise_before_its_line : goal.returns-clause-failed_rise_before_its_line
unfolding bits_of
returns-clause-failed_rise_before_its_line c = refl

pub returns-clause-rise_behind_a_missed_rise : goal.returns-clause-rise_behind_a_missed_rise
unfolding bits_of
returns-clause-rise_behind_a_missed_rise c = refl
