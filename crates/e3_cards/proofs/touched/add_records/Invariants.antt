use Rattle.std.proofs.Common.{◌≡◌, take, fold}
use Rattle.std.specs.List.{flat_map}
use Rattle.e3_world.specs.Items.{txn_of_record}
use Rattle.e3_cards.specs.Tables.{add_once}
use Rattle.e3_cards.proofs.touched.add_records.Given as goal

abbrev pub invariant-loop-r : goal.invariant-loop-r
invariant-loop-r l = l.out ≡ fold add_once l.initial.out (flat_map txn_of_record (take l.r-index l.records))
