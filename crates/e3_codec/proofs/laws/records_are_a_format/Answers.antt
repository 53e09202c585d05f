use Rattle.e3_codec.proofs.Records.{record_format}
use Rattle.e3_codec.proofs.laws.records_are_a_format.Goals as goal

pub returns : goal.returns
returns c = record_format
