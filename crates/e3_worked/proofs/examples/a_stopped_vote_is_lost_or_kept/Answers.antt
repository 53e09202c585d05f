use Rattle.std.specs.Prelude.{◌&&◌, true, refl}
use Rattle.std.proofs.Common.{ap}
use Rattle.std.proofs.lemmas.Bool.{le-leb}
use Rattle.e3_types.specs.Sites.{bits_of}
use Rattle.e3_worked.specs.VoteStopped.{vote_stopped, vote_lost_history, vote_kept_history}
use Rattle.e3_worked.specs.Worked.{nothing_at}
use Rattle.e3_worked.proofs.Judging.{worked}
use Rattle.e3_worked.proofs.examples.a_stopped_vote_is_lost_or_kept.Goals as goal

pub returns-clause-lost : goal.returns-clause-lost
unfolding bits_of
returns-clause-lost c = (c.checks_are_exact.ensures.whole (vote_stopped c.args.count c.args.leave) vote_lost_history).0 refl

pub returns-clause-lost_outcome : goal.returns-clause-lost_outcome
unfolding bits_of
returns-clause-lost_outcome c = refl

pub returns-clause-lost_is_worked : goal.returns-clause-lost_is_worked
unfolding bits_of
returns-clause-lost_is_worked c = λ some. worked c.checks_are_exact.ensures.whole c.trails_are_sound.ensures.sound (vote_stopped c.args.count c.args.leave) vote_lost_history (nothing_at 2) (ap (λ b. (b && true) && true) (le-leb 1 c.args.count some)) refl refl

pub returns-clause-kept : goal.returns-clause-kept
unfolding bits_of
returns-clause-kept c = (c.checks_are_exact.ensures.whole (vote_stopped c.args.count c.args.leave) vote_kept_history).0 refl

pub returns-clause-kept_outcome : goal.returns-clause-kept_outcome
unfolding bits_of
returns-clause-kept_outcome c = refl

pub returns-clause-kept_is_worked : goal.returns-clause-kept_is_worked
unfolding bits_of
returns-clause-kept_is_worked c = λ some. worked c.checks_are_exact.ensures.whole c.trails_are_sound.ensures.sound (vote_stopped c.args.count c.args.leave) vote_kept_history (nothing_at 2) (ap (λ b. (b && true) && true) (le-leb 1 c.args.count some)) refl refl
