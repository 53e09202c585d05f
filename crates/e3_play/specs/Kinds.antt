-- The kinds of steps, by what the driver does for them.
use Rattle.std.specs.Prelude.{◌∷◌, [], List, Option, Some, None}
use Rattle.e3_play.specs.declared.kinds.Kind.{Kind}
use Rattle.e3_play.specs.declared.kinds.Kind.TheVariants as kind
use Rattle.e3_types.specs.declared.scenarios.Item.{Item}
use Rattle.e3_types.specs.declared.scenarios.Item.TheVariants as item

-- the item of a step that has just one
abbrev pub only : List Item → Option Item
only (it ∷ []) = Some it
only items = None

-- a step of this one item
abbrev pub kind_by : Item → Kind
kind_by (item.Crash site) = kind.Crash site
kind_by (item.Restart site) = kind.Restart site
kind_by (item.Recover sites) = kind.Recovery sites
kind_by (item.Stop site calls leave) = kind.Stop site calls leave
kind_by it = kind.Exchange

-- a step of these items
abbrev pub kind_of : List Item → Kind
kind_of items = by (only items)
  where
    by : Option Item → Kind
    by (Some it) = kind_by it
    by None = kind.Exchange
