use Rattle.std.proofs.Common.{◌≡◌, take}
use Rattle.std.specs.List.{AllByRecursion}
use Rattle.e3_types.specs.Spelling.{spelling}
use Rattle.e3_codec.specs.Fields.{HasSpelling}
use Rattle.e3_codec.proofs.writers.put_records.Given as goal

abbrev pub invariant-loop-r : goal.invariant-loop-r
invariant-loop-r l = record {
  bytes : l.out ≡ spelling (take l.r-index l.records);
  few : AllByRecursion HasSpelling (take l.r-index l.records);
}
