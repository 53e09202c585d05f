use Rattle.std.proofs.Common.{arith}
use Rattle.e3_disk.proofs.Padding.{reach_to}
use Rattle.e3_disk.proofs.cells.Cells.reach.Goals as goal

pub returns-then-len-place : goal.returns-then-len-place
returns-then-len-place c = record {
  same = reach_to c.self.inside.front.items c.stretch.new.buffer.items c.self.inside.blank c.self.inside.room c.args.place c.args.self.now c.self.view_is c.stretch.ensures.items
      (omega (arith, c.if-len-place.true)) c.requires;
}
