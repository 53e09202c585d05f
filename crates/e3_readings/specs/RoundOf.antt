-- The round of a transaction, by the members of the group that are up and among its sites.
use Rattle.std.specs.Prelude.{◌∷◌, [], ℕ, List}
use Rattle.e3_types.specs.declared.transactions.Txn.{Txn}
use Rattle.e3_world.specs.Items.{RecoveryRound}

-- none where there is no such member; else the least of them is the elector
abbrev pub round_of : Txn → List ℕ → List RecoveryRound
round_of t [] = []
round_of t (r ∷ more) = record { txn = t; members = r ∷ more; elector = r } ∷ []
