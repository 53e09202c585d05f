-- A history as contracts see it: its entries, and for how many more there is room.
use Rattle.std.specs.Prelude.{ℕ, List}
use Rattle.e3_types.specs.declared.entries.Entry.{Entry}

-- the entries, the oldest first, and the room
pub record Roomy : Type 0 where
  pub entries : List Entry
  pub room : ℕ
