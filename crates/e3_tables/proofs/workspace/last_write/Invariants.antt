-- nothing behind this place writes to the name
use Rattle.std.proofs.Common.{◌≡◌, ◌≤◌, fold, take, length}
use Rattle.e3_types.specs.declared.transactions.Answer.{Answer}
use Rattle.e3_tables.specs.Work.{read_by}
use Rattle.e3_tables.proofs.workspace.last_write.Given as goal

abbrev pub invariant-back : goal.invariant-back
invariant-back l = record {
  few : l.count ≤ length l.ops;
  rest : (was : Answer) → fold (read_by l.name) was l.ops ≡ fold (read_by l.name) was (take l.count l.ops);
}

abbrev pub decreases-back : goal.decreases-back
decreases-back l = l.count
