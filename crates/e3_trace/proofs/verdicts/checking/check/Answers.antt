use Rattle.e3_trace.proofs.verdicts.Verdicts.{verdict_by}
use Rattle.e3_trace.proofs.verdicts.checking.check.Goals as goal

pub returns-clause-verdict : goal.returns-clause-verdict
returns-clause-verdict c = verdict_by (record {
  legal = c.checks_are_exact.ensures.legal;
  broken = c.checks_are_exact.ensures.broken;
  whole = c.checks_are_exact.ensures.whole;
  agree = c.histories_agree.ensures.agree;
  voted = c.histories_agree.ensures.voted;
  told = c.histories_agree.ensures.told;
  serial = c.one_order.ensures;
}) c.args.bytes.now c.in_ok-finding.field-0.finding c.status.result c.in_ok-finding.field-0.history.entries c.in_ok-text.text
    c.in_ok-finding.ensures.finding c.status.ensures c.in_ok-finding.ensures.history c.in_ok-text.ensures
