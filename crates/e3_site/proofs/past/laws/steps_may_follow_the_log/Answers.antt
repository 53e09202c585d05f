use Rattle.e3_site.proofs.past.MayFollow.{steps_may_follow}
use Rattle.e3_site.proofs.past.laws.steps_may_follow_the_log.Goals as goal

pub returns : goal.returns
returns c = steps_may_follow
