use Rattle.std.proofs.Common.{◌≡◌, ◌≤◌, ℕ, suc, Some, length}
use Rattle.e3_disk.specs.Memory.{memory_meaning}
use Rattle.e3_fleet.specs.MemoryDisks.{AreMade}
use Rattle.e3_fleet.specs.Over.{AreBlank}
use Rattle.e3_fleet.proofs.in_memory.memory_disks.Given as goal

abbrev pub invariant-loop-at : goal.invariant-loop-at
invariant-loop-at l = record {
  number : length l.disks ≡ l.at;
  blank : AreBlank memory_meaning l.disks;
  made : AreMade l.capacity l.site l.fn.fails l.disks;
  listed : (k : ℕ) → l.at ≤ k → suc k ≡ l.site → l.fails ≡ Some l.fn.fails;
}
