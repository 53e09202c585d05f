-- the step says nothing of the transaction
use Rattle.e3_client.proofs.Beside.{passes}
use Rattle.e3_client.proofs.client.quiet_steps_pass.Goals as goal

pub returns : goal.returns
returns c = λ coordinator steps m kept quiet. passes coordinator steps c.args._client.now m kept quiet
