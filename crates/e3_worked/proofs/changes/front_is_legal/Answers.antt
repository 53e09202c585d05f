use Rattle.e3_worked.proofs.changes.front_is_legal.Goals as goal
use Rattle.std.specs.Prelude.{refl}
use Rattle.e3_types.specs.Sites.{bits_of}

pub returns-clause-last_step_left_out : goal.returns-clause-last_step_left_out
unfolding bits_of
returns-clause-last_step_left_out c = refl

pub returns-clause-last_step_is_missing : goal.returns-clause-last_step_is_missing
unfolding bits_of
returns-clause-last_step_is_missing c = refl

pub returns-clause-last_line_left_out : goal.returns-clause-last_line_left_out
unfolding bits_of
returns-clause-last_line_left_out c = refl

pub returns-clause-last_line_is_missing : goal.returns-clause-last_line_is_missing
unfolding bits_of
returns-clause-last_line_is_missing c = refl

pub returns-clause-last_delivery_left_out : goal.returns-clause-last_delivery_left_out
unfolding bits_of
returns-clause-last_delivery_left_out c = refl

pub returns-clause-last_delivery_is_missing : goal.returns-clause-last_delivery_is_missing
unfolding bits_of
returns-clause-last_delivery_is_missing c = refl

pub returns-clause-last_drop_left_out : goal.returns-clause-last_drop_left_out
unfolding bits_of
returns-clause-last_drop_left_out c = refl

pub returns-clause-last_drop_is_missing : goal.returns-clause-last_drop_is_missing
unfolding bits_of
returns-clause-last_drop_is_missing c = refl
