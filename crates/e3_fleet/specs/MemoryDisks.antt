-- What disks in memory for the sites of a run are when they are made.
use Rattle.std.specs.Prelude.{◌≡◌, ◌==◌, [], if◌then◌else◌, ℕ, suc, List, slice_get, Some}
use Rattle.e3_disk.specs.Memory.{blank_state, state_of}
use Rattle.e3_disk.specs.declared.memory.MemDisk.{MemDisk}

-- the numbers of the calls that fail of the disk of a site: these where it is the one site, else none
abbrev pub fails_at : ℕ → List ℕ → ℕ → List ℕ
fails_at the_one fails site = if site == the_one then fails else []

-- these disks, that of site 1 first, are blank, each of this capacity, and calls of these numbers fail at the one site alone
abbrev pub AreMade : ℕ → ℕ → List ℕ → List MemDisk → Type 0
AreMade capacity the_one fails disks = (at : ℕ) (disk : MemDisk) → slice_get disks at ≡ Some disk →
    state_of disk ≡ blank_state capacity (fails_at the_one fails (suc at))
