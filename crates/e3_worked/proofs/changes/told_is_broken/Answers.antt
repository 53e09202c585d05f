use Rattle.e3_worked.proofs.changes.told_is_broken.Goals as goal
use Rattle.std.specs.Prelude.{refl}
use Rattle.e3_types.specs.Sites.{bits_of}

pub returns-clause-told_of_another_transaction : goal.returns-clause-told_of_another_transaction
unfolding bits_of
returns-clause-told_of_another_transaction c = refl

pub returns-clause-read_told_with_another_value : goal.returns-clause-read_told_with_another_value
unfolding bits_of
returns-clause-read_told_with_another_value c = refl

pub returns-clause-refusal_for_an_answer : goal.returns-clause-refusal_for_an_answer
unfolding bits_of
returns-clause-refusal_for_an_answer c = refl

pub returns-clause-another_refusal : goal.returns-clause-another_refusal
unfolding bits_of
returns-clause-another_refusal c = refl

pub returns-clause-told_left_out : goal.returns-clause-told_left_out
unfolding bits_of
returns-clause-told_left_out c = refl

pub returns-clause-told_early : goal.returns-clause-told_early
unfolding bits_of
returns-clause-told_early c = refl

pub returns-clause-told_turned : goal.returns-clause-told_turned
unfolding bits_of
returns-clause-told_turned c = refl

pub returns-clause-told_by_another_site : goal.returns-clause-told_by_another_site
unfolding bits_of
returns-clause-told_by_another_site c = refl

pub returns-clause-verdict_changed : goal.returns-clause-verdict_changed
unfolding bits_of
returns-clause-verdict_changed c = refl

pub returns-clause-events_in_another_order : goal.returns-clause-events_in_another_order
unfolding bits_of
returns-clause-events_in_another_order c = refl
