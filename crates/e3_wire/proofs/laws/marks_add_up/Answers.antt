use Rattle.e3_wire.proofs.Notes.{claim_promises, entries_follow, entry_uses, nothing_promised, scenario_stays}
use Rattle.e3_wire.proofs.Spending.{growth_adds_up}
use Rattle.e3_wire.proofs.laws.marks_add_up.Goals as goal

pub returns-clause-entries : goal.returns-clause-entries
returns-clause-entries c = entries_follow

pub returns-clause-scenario : goal.returns-clause-scenario
returns-clause-scenario c = scenario_stays

pub returns-clause-claim : goal.returns-clause-claim
returns-clause-claim c = claim_promises

pub returns-clause-entry : goal.returns-clause-entry
returns-clause-entry c = entry_uses

pub returns-clause-none : goal.returns-clause-none
returns-clause-none c = nothing_promised

pub returns-clause-growth : goal.returns-clause-growth
returns-clause-growth c = growth_adds_up
