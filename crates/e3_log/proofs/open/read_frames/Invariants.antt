use Rattle.std.proofs.Common.{◌≡◌, ◌++◌, ◌≤◌, ◌-◌, length, drop, true}
use Rattle.std.specs.List.{AllByRecursion}
use Rattle.e3_disk.specs.Images.{Within}
use Rattle.e3_disk.specs.Meters.{Keeps}
use Rattle.e3_log.specs.Frames.{frames, Fits}
use Rattle.e3_log.specs.Found.{bodies_of, frames_from}
use Rattle.e3_log.specs.Regions.{window}
use Rattle.e3_log.proofs.open.read_frames.Given as goal

abbrev pub invariant-reading : goal.invariant-reading
invariant-reading g l = record {
  parts : window l.span.from l.span.count (g.D.Disk.meaning.content l.fn.disk) ≡ frames (bodies_of l.frames) ++ drop l.at (window l.span.from l.span.count (g.D.Disk.meaning.content l.fn.disk));
  fits : AllByRecursion Fits (bodies_of l.frames);
  place : l.at ≡ length (frames (bodies_of l.frames));
  within : l.at ≤ l.span.count;
  same : g.D.Disk.meaning.content l.disk ≡ g.D.Disk.meaning.content l.fn.disk;
  images : Within (g.D.Disk.meaning.image l.fn.disk) (g.D.Disk.meaning.image l.disk);
  places : l.frames ≡ frames_from l.span.from (bodies_of l.frames);
  powered : (g.D.Disk.meaning.meters l.disk).powered ≡ true;
  calls : (g.D.Disk.meaning.meters l.disk).calls_left ≡ (g.D.Disk.meaning.meters l.fn.disk).calls_left;
  stops : (g.D.Disk.meaning.meters l.disk).stops ≡ (g.D.Disk.meaning.meters l.fn.disk).stops;
  keeps : Keeps (g.D.Disk.meaning.meters l.fn.disk) (g.D.Disk.meaning.meters l.disk);
}

abbrev pub decreases-reading : goal.decreases-reading
decreases-reading g l = l.span.count - l.at
