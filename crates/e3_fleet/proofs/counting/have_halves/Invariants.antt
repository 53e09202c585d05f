use Rattle.std.proofs.Common.{◌≡◌, ◌≤◌, ◌<◌, ℕ, Some}
use Rattle.std.specs.Prelude.{slice_get}
use Rattle.e3_fleet.proofs.counting.have_halves.Given as goal

abbrev pub invariant-loop-disk : goal.invariant-loop-disk
invariant-loop-disk g l = (at : ℕ) (disk : g.row.D.Denot) → at < l.disk-index → slice_get l.disks at ≡ Some disk → 2 ≤ (g.D.Disk.meaning.meters disk).capacity
