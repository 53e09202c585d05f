-- as many as the group has are the whole group
use Rattle.std.proofs.Common.{sym}
use Rattle.e3_elect.proofs.Members.{whole_test}
use Rattle.e3_elect.proofs.counting.is_as_many.Goals as goal

pub returns-clause-whole : goal.returns-clause-whole
returns-clause-whole c = λ sites many behind.
    whole_test c.args.group sites c.args.came c.count.result (sym many) c.count.ensures.number c.count.ensures.ascending behind
