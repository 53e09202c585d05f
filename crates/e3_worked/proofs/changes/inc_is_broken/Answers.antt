use Rattle.e3_worked.proofs.changes.inc_is_broken.Goals as goal
use Rattle.std.specs.Prelude.{refl}
use Rattle.e3_types.specs.Sites.{bits_of}

pub returns-clause-inc_skipped : goal.returns-clause-inc_skipped
unfolding bits_of
returns-clause-inc_skipped c = refl

pub returns-clause-inc_again : goal.returns-clause-inc_again
unfolding bits_of
returns-clause-inc_again c = refl

pub returns-clause-inc_of_a_failed_rise_skipped : goal.returns-clause-inc_of_a_failed_rise_skipped
unfolding bits_of
returns-clause-inc_of_a_failed_rise_skipped c = refl

pub returns-clause-inc_of_a_kept_tail_again : goal.returns-clause-inc_of_a_kept_tail_again
unfolding bits_of
returns-clause-inc_of_a_kept_tail_again c = refl

pub returns-clause-kept_left_off_a_tail_with_an_inc : goal.returns-clause-kept_left_off_a_tail_with_an_inc
unfolding bits_of
returns-clause-kept_left_off_a_tail_with_an_inc c = refl
