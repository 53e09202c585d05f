use Rattle.e3_trace.proofs.verdicts.Passing.{traces_pass}
use Rattle.e3_trace.proofs.verdicts.checking.legal_traces_pass.Goals as goal

pub returns : goal.returns
returns c = traces_pass (record {
  legal = c.checks_are_exact.ensures.legal;
  broken = c.checks_are_exact.ensures.broken;
  whole = c.checks_are_exact.ensures.whole;
  agree = c.histories_agree.ensures.agree;
  voted = c.histories_agree.ensures.voted;
  told = c.histories_agree.ensures.told;
  serial = c.one_order.ensures;
}) c.legal_traces_read_back.ensures.back
