use Rattle.e3_trace.proofs.verdicts.Along.{legal_tellable}
use Rattle.e3_trace.proofs.verdicts.Reading.{read_back}
use Rattle.e3_trace.proofs.verdicts.traces.legal_traces_read_back.Goals as goal

pub returns-clause-tellable : goal.returns-clause-tellable
returns-clause-tellable c = legal_tellable

pub returns-clause-back : goal.returns-clause-back
returns-clause-back c = read_back c.traces_read_back.ensures
