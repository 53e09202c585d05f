use Rattle.e3_wire.proofs.Planned.{claimed_drafts_may_enter}
use Rattle.e3_wire.proofs.laws.claimed_drafts_may_enter.Goals as goal

pub returns : goal.returns
returns c = claimed_drafts_may_enter
