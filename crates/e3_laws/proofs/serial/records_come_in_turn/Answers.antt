use Rattle.e3_laws.proofs.serial.Orderly.Logs.{come_in_turn}
use Rattle.e3_laws.proofs.serial.records_come_in_turn.Goals as goal

pub returns : goal.returns
returns c = come_in_turn
