use Rattle.e3_laws.proofs.steps.Suits.Laws.{records_suit, votes_suit}
use Rattle.e3_laws.proofs.steps.records_suit_their_site.Goals as goal

pub returns-clause-records : goal.returns-clause-records
returns-clause-records c = records_suit

pub returns-clause-votes : goal.returns-clause-votes
returns-clause-votes c = votes_suit
