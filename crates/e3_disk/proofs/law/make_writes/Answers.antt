use Rattle.std.proofs.Common.{◌≤◌, ◌+◌, length, sym, subst, arith}
use Rattle.e3_disk.specs.declared.law.Piece.{Piece}
use Rattle.e3_disk.proofs.Pieces.{torn_next, torn_all}
use Rattle.e3_disk.proofs.Tearing.{no_fewer}
use Rattle.e3_disk.proofs.law.make_writes.Goals as goal

pub returns-in_err-write_at : goal.returns-in_err-write_at
returns-in_err-write_at g c =
    torn_all c.args.pieces.now (c.loop-piece.piece-index + 1) _ _ (torn_next c.args.pieces.now c.loop-piece.piece-index c.piece-item.result c.as_slice.result.now _ _ _
    c.loop-piece-test.true c.piece-item.is c.as_slice.ensures c.loop-piece.invariant.torn c.write_at.ensures.images)

pub loop-piece-preserved : goal.loop-piece-preserved
loop-piece-preserved g c =
    let long = c.loop-piece.invariant.long in
    let within : c.piece-item.result.place ≤ length (g.D.Disk.meaning.content c.args.disk.now) =
    subst (λ (p : Piece). p.place ≤ length (g.D.Disk.meaning.content c.args.disk.now)) (sym c.piece-item.is) (c.requires c.loop-piece.piece-index c.piece-item.result c.loop-piece-test.true) in
    let here : c.piece-item.result.place ≤ length (g.D.Disk.meaning.content c.loop-piece.disk) = omega (arith, within, long) in
    record {
      torn = torn_next c.args.pieces.now c.loop-piece.piece-index c.piece-item.result c.as_slice.result.now _ _ _
          c.loop-piece-test.true c.piece-item.is c.as_slice.ensures c.loop-piece.invariant.torn c.write_at.ensures.images;
      long = omega (arith, long, no_fewer _ _ _ _ here c.in_ok-write_at.ensures.written);
    }
