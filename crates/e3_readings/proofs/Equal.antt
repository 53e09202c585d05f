-- What the tests of equality of the definitions come to.
use Rattle.std.specs.Prelude.{◌≡◌, true}
use Rattle.std.proofs.Common.{arith}
use Rattle.std.proofs.lemmas.Grind.{common_steps}
use Rattle.e3_types.specs.declared.transactions.Txn.{Txn}
use Rattle.e3_types.specs.Same.{same_txn}
use Rattle.e3_types.proofs.SameSites.{same_numbers_refl, same_numbers_eq}

-- a transaction is the same as itself
pub same_txn_refl : (t : Txn) → same_txn t t ≡ true
same_txn_refl t = let e = same_numbers_refl t.sites in grind (arith, common_steps, e)

-- two that are the same are equal
pub same_txn_eq : (t u : Txn) → same_txn t u ≡ true → t ≡ u
same_txn_eq t u e = let sites = same_numbers_eq t.sites u.sites in grind (arith, common_steps, sites, e)
