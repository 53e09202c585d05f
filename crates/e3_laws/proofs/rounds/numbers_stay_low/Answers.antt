use Rattle.e3_laws.proofs.rounds.Numbers.Entries.{numbers_stay_low}
use Rattle.e3_laws.proofs.rounds.numbers_stay_low.Goals as goal

pub returns : goal.returns
returns c = numbers_stay_low
