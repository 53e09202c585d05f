use Rattle.e3_trace.proofs.Telling.{read_back}
use Rattle.e3_trace.proofs.laws.traces_read_back.Goals as goal

pub returns : goal.returns
returns c = read_back
