-- A transaction as a key.
use Rattle.std.specs.Prelude.{◌≡◌}
use Rattle.e3_types.specs.declared.transactions.Txn.{Txn}
use Rattle.e3_types.specs.Sites.{sites_of, bits_of}

-- the sites of the transaction are a set, which its bits give back
abbrev pub IsFoundByBits : Txn → Type 0
IsFoundByBits t = sites_of (bits_of t.sites) ≡ t.sites
