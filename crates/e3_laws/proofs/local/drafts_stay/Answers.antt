use Rattle.e3_laws.proofs.local.Drafted as drafted
use Rattle.e3_laws.proofs.local.drafts_stay.Goals as goal

pub returns-clause-stay : goal.returns-clause-stay
returns-clause-stay c = drafted.drafts_stay

pub returns-clause-allowed : goal.returns-clause-allowed
returns-clause-allowed c = drafted.drafts_are_allowed
