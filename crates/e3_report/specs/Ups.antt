-- The sites that are up, kept from entry to entry.
use Rattle.std.specs.Prelude.{◌==◌, if◌then◌else◌, ℕ, Bool, List}
use Rattle.e3_types.specs.declared.entries.Entry.{Entry}
use Rattle.e3_world.specs.Progress.{up_behind}
use Rattle.e3_order.specs.Keys.{has_number}

-- the site is one of these, which are up
abbrev pub up_in : List ℕ → ℕ → Bool
up_in ups site = has_number site ups

-- whether a site is up behind one more entry, where it was up or not before it
abbrev pub up_with : ℕ → Entry → Bool → Bool
up_with site e was = if e.owner == site then up_behind was e.act else was
