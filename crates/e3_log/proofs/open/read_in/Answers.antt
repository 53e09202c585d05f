use Rattle.std.proofs.Common.{length, ◌∙◌, arith}
use Rattle.e3_log.proofs.Windows.{read_window}
use Rattle.e3_log.proofs.open.read_in.Goals as goal

pub returns-clause-bytes : goal.returns-clause-bytes
returns-clause-bytes g c =
    c.in_ok-read_at.ensures.bytes
    ∙ read_window c.args.spot.span.from c.args.spot.span.count c.args.spot.at (length c.args.into.now) (g.D.Disk.meaning.content c.args.disk.now) (omega arith)
