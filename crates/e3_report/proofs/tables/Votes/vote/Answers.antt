-- the operations of a transaction are taken out and put back with more
use Rattle.std.specs.Prelude.{◌++◌, if◌then◌else◌}
use Rattle.std.specs.BTreeMap.{is_at}
use Rattle.std.specs.Cmp.Lexicographic.{slice_cmp}
use Rattle.std.specs.Ordering.{nat_cmp}
use Rattle.std.proofs.Common.{◌∙◌, ap}
use Rattle.e3_report.specs.Tables.{ops_at}
use Rattle.e3_report.proofs.Tabling.{voted}
use Rattle.e3_report.proofs.tables.Votes.vote.Goals as goal

pub returns-in-Ok : goal.returns-in-Ok
returns-in-Ok c = λ key.
    voted c.of-key.result key c.args.ops.now c.add_copies.new.self c.take-all.result c.args.self.now c.self.inside.ops.entries c.insert.new.self.entries
    c.take-all.ensures.taken c.in_ok-add_copies.ensures.ok (λ q other. ap (λ m. ops_at m q) c.self.view_is ∙ c.take-all.ensures.others q other) (c.in-Ok.ensures.updates.0 key)
    ∙ ap (λ k. if is_at (slice_cmp nat_cmp k) key then ops_at c.args.self.now key ++ c.args.ops.now else ops_at c.args.self.now key) c.of-key.ensures
