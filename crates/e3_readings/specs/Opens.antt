-- The transactions that are open at a site.
use Rattle.std.specs.Prelude.{[], ℕ, List, fold}
use Rattle.e3_types.specs.declared.transactions.Txn.{Txn}
use Rattle.e3_world.specs.declared.lives.Life.{Life}
use Rattle.e3_world.specs.Items.{add_txn, undecided_in}

-- the undecided transactions that a site with this life knows, each once, ascending
abbrev pub open_in : ℕ → Life → List Txn
open_in site life = fold add_txn [] (undecided_in site life)
