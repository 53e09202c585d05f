use Rattle.e3_wire.proofs.Claimed.{claimed_entries_may_enter, claimed_entries_stay, taken_is_due}
use Rattle.e3_wire.proofs.laws.claimed_entries_may_enter.Goals as goal

pub returns-clause-alone : goal.returns-clause-alone
returns-clause-alone c = claimed_entries_may_enter

pub returns-clause-stay : goal.returns-clause-stay
returns-clause-stay c = claimed_entries_stay

pub returns-clause-due : goal.returns-clause-due
returns-clause-due c = taken_is_due
