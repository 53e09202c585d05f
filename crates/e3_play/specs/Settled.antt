-- What a step asks of the sites, and what comes of it within the step.
use Rattle.std.specs.Prelude.{◌≡◌, ◌||◌, ◌++◌, ◌∷◌, [], Bool, true, false, List}
use Rattle.std.specs.List.{list_all, list_any}
use Rattle.e3_types.specs.declared.entries.Entry.{Entry}
use Rattle.e3_types.specs.declared.scenarios.Item.{Item}
use Rattle.e3_types.specs.declared.scenarios.Item.TheVariants as item
use Rattle.e3_world.specs.Given.{is_groupable}
use Rattle.e3_world.specs.Packets.{is_line}

-- the step sets the parts of the network
abbrev pub is_parted : List Item → Bool
is_parted (item.Split parts ∷ []) = true
is_parted (item.Merge ∷ []) = true
is_parted items = false

-- the step is a group, a split or a merge
abbrev pub is_asking : List Item → Bool
is_asking items = is_parted items || list_all is_groupable items

-- the step goes on: more entries, none of them a line
pub record StaysInStep (was now : List Entry) : Type 0 where
  pub more : List Entry
  pub entered : now ≡ was ++ more
  pub no_line : list_any is_line more ≡ false
