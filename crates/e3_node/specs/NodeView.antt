-- A node as contracts see it.
use Rattle.std.specs.Prelude.{ℕ, Bool, true, false, List}
use Rattle.e3_node.specs.declared.state.State.{State}
use Rattle.e3_node.specs.declared.state.State.TheVariants.{Down, Up}
use Rattle.e3_types.specs.declared.transactions.Row.{Row}

-- a node: its site's number, the weights of all sites, the site's first rows, and its disk, with the site where it is up
pub record NodeView (D : Type 0) : Type 0 where
  pub site : ℕ
  pub weights : List ℕ
  pub rows : List Row
  pub state : State D

-- its disk, which is in a log while the site is up
abbrev pub disk_of : {D : Type 0} → State D → D
disk_of (Down disk logged) = disk
disk_of (Up site log rose logged) = log.disk

-- the site is up
abbrev pub is_up_in : {D : Type 0} → State D → Bool
is_up_in (Down disk logged) = false
is_up_in (Up site log rose logged) = true
