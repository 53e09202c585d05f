use Rattle.std.proofs.Common.{◌≡◌, take}
use Rattle.std.specs.List.{flat_map}
use Rattle.e3_site.specs.TableBrief.{op_of}
use Rattle.e3_site.proofs.table_brief.votes_in.Given as goal

abbrev pub invariant-loop-a : goal.invariant-loop-a
invariant-loop-a l = l.ops ≡ flat_map (op_of l.t) (take l.a-index l.votes)
