-- The two regions of a disk: the first half of its capacity, rounded down, and the rest.
use Rattle.std.specs.Prelude.{ℕ, ◌/◌, ◌-◌, List, take, drop}
use Rattle.e3_log.specs.declared.region.Region.{Region}
use Rattle.e3_log.specs.declared.region.Region.TheVariants.{First, Second}

-- the place at which the second region begins
abbrev pub half : ℕ → ℕ
half capacity = capacity / 2

-- the place of a region's first gate
abbrev pub start : ℕ → Region → ℕ
start capacity First = 0
start capacity Second = half capacity

-- the place behind a region
abbrev pub limit : ℕ → Region → ℕ
limit capacity First = half capacity
limit capacity Second = capacity

-- the other region
abbrev pub other : Region → Region
other First = Second
other Second = First

-- so many bytes from a place on
abbrev pub window : ℕ → ℕ → List ℕ → List ℕ
window from count bytes = take count (drop from bytes)

-- how many bytes a region has room for
abbrev pub size : ℕ → Region → ℕ
size capacity First = half capacity
size capacity Second = capacity - half capacity

-- the bytes of a region
abbrev pub piece : ℕ → Region → List ℕ → List ℕ
piece capacity region bytes = window (start capacity region) (size capacity region) bytes
