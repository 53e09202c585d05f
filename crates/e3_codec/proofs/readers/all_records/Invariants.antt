use Rattle.std.proofs.Common.{◌≡◌, ◌++◌, length}
use Rattle.e3_types.specs.Spelling.{spelling}
use Rattle.e3_codec.specs.Fields.{AllCanBeReadBack}
use Rattle.e3_codec.proofs.readers.all_records.Given as goal

abbrev pub invariant-loop-rest : goal.invariant-loop-rest
invariant-loop-rest l = record { parts : l.bytes ≡ spelling l.records ++ l.rest; fits : AllCanBeReadBack l.site l.records }

abbrev pub decreases-loop-rest : goal.decreases-loop-rest
decreases-loop-rest l = length l.rest
