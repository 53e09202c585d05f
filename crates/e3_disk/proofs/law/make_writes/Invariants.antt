use Rattle.std.proofs.Common.{◌≤◌, length, take}
use Rattle.e3_disk.specs.Images.{TearsBy}
use Rattle.e3_disk.specs.Pieces.{ranges_of}
use Rattle.e3_disk.proofs.law.make_writes.Given as goal

abbrev pub invariant-loop-piece : goal.invariant-loop-piece
invariant-loop-piece g l = record {
  torn : TearsBy (ranges_of (take l.piece-index l.pieces)) (g.D.Disk.meaning.image l.fn.disk) (g.D.Disk.meaning.image l.disk);
  long : length (g.D.Disk.meaning.content l.fn.disk) ≤ length (g.D.Disk.meaning.content l.disk);
}
