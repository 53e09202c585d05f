use Rattle.e3_laws.proofs.steps.Begun.Laws.{entries_mention, due_mentions, steps_mention, records_mention, packets_mention}
use Rattle.e3_laws.proofs.steps.legal_histories_mention_what_stands.Goals as goal

pub returns-clause-entries : goal.returns-clause-entries
returns-clause-entries c = entries_mention

pub returns-clause-due : goal.returns-clause-due
returns-clause-due c = due_mentions

pub returns-clause-steps : goal.returns-clause-steps
returns-clause-steps c = steps_mention

pub returns-clause-records : goal.returns-clause-records
returns-clause-records c = records_mention

pub returns-clause-packets : goal.returns-clause-packets
returns-clause-packets c = packets_mention
