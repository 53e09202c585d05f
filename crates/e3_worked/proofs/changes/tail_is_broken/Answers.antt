use Rattle.e3_worked.proofs.changes.tail_is_broken.Goals as goal
use Rattle.std.specs.Prelude.{refl}
use Rattle.e3_types.specs.Sites.{bits_of}

pub returns-clause-kept_at_the_first_rise : goal.returns-clause-kept_at_the_first_rise
unfolding bits_of
returns-clause-kept_at_the_first_rise c = refl

pub returns-clause-kept_behind_a_cut : goal.returns-clause-kept_behind_a_cut
unfolding bits_of
returns-clause-kept_behind_a_cut c = refl

pub returns-clause-kept_at_a_failed_rise : goal.returns-clause-kept_at_a_failed_rise
unfolding bits_of
returns-clause-kept_at_a_failed_rise c = refl

pub returns-clause-kept_behind_a_full_disk : goal.returns-clause-kept_behind_a_full_disk
unfolding bits_of
returns-clause-kept_behind_a_full_disk c = refl

pub returns-clause-kept_behind_a_missed_rise : goal.returns-clause-kept_behind_a_missed_rise
unfolding bits_of
returns-clause-kept_behind_a_missed_rise c = refl
