-- What a transaction's name has to be.
use Rattle.std.specs.Prelude.{◌&&◌, nat_lt, Bool}
use Rattle.e3_types.specs.declared.transactions.Txn.{Txn}
use Rattle.e3_types.specs.Sets.{has_site}

-- its coordinator is one of its sites, and both counts have begun
abbrev pub is_txn : Txn → Bool
is_txn t = has_site t.sites t.site && nat_lt 0 t.inc && nat_lt 0 t.seq
