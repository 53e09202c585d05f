use Rattle.e3_worked.proofs.changes.outs_are_broken.Goals as goal
use Rattle.std.specs.Prelude.{refl}
use Rattle.e3_types.specs.Sites.{bits_of}

pub returns-clause-packet_left_out : goal.returns-clause-packet_left_out
unfolding bits_of
returns-clause-packet_left_out c = refl

pub returns-clause-packet_more : goal.returns-clause-packet_more
unfolding bits_of
returns-clause-packet_more c = refl

pub returns-clause-packet_where_none_is_due : goal.returns-clause-packet_where_none_is_due
unfolding bits_of
returns-clause-packet_where_none_is_due c = refl

pub returns-clause-packet_of_another_number : goal.returns-clause-packet_of_another_number
unfolding bits_of
returns-clause-packet_of_another_number c = refl

pub returns-clause-packet_to_another_site : goal.returns-clause-packet_to_another_site
unfolding bits_of
returns-clause-packet_to_another_site c = refl

pub returns-clause-packet_from_another_site : goal.returns-clause-packet_from_another_site
unfolding bits_of
returns-clause-packet_from_another_site c = refl

pub returns-clause-vote_turned : goal.returns-clause-vote_turned
unfolding bits_of
returns-clause-vote_turned c = refl

pub returns-clause-elected_number_changed : goal.returns-clause-elected_number_changed
unfolding bits_of
returns-clause-elected_number_changed c = refl

pub returns-clause-read_sent_with_another_value : goal.returns-clause-read_sent_with_another_value
unfolding bits_of
returns-clause-read_sent_with_another_value c = refl

pub returns-clause-kept_put_on : goal.returns-clause-kept_put_on
unfolding bits_of
returns-clause-kept_put_on c = refl
