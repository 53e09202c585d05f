use Rattle.e3_laws.proofs.steps.Sending.{send_few}
use Rattle.e3_laws.proofs.steps.steps_send_few.Goals as goal

pub returns : goal.returns
returns c = send_few
