use Rattle.e3_laws.proofs.rounds.Commits.Whole.{commits_end}
use Rattle.e3_laws.proofs.rounds.commits_end.Goals as goal

pub returns : goal.returns
returns c = commits_end
