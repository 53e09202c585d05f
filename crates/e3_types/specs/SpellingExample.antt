-- A worked example of the spelling: what the only site of a transaction with one write of the value "a" to the record
-- "x" logs, from its birth to its commit.
use Rattle.std.specs.Prelude.{◌≡◌, ◌∷◌, [], List, refl}
use Rattle.e3_types.specs.declared.transactions.Dir.TheVariants.{Commit}
use Rattle.e3_types.specs.declared.transactions.Op.TheVariants.{Write}
use Rattle.e3_types.specs.declared.transactions.Txn.{Txn}
use Rattle.e3_types.specs.declared.records.Record.{Record}
use Rattle.e3_types.specs.declared.records.Record.TheVariants as log
use Rattle.e3_types.specs.Sites.{bits_of}
use Rattle.e3_types.specs.Spelling.{spelling}

-- the first transaction of site 1
abbrev first_txn : Txn
first_txn = record { site = 1; inc = 1; seq = 1; sites = 1 ∷ [] }

-- a birth with one weight and no row, and the first incarnation
abbrev born : List Record
born = log.Birth 1 1 (1 ∷ []) [] ∷ log.Inc 1 ∷ []

-- 26 bytes
born_spelled : spelling born
    ≡ 1 ∷ 0 ∷ 0 ∷ 0 ∷ 1 ∷ 0 ∷ 0 ∷ 0 ∷ 1 ∷ 0 ∷ 0 ∷ 0 ∷ 1 ∷ 0 ∷ 0 ∷ 0 ∷ 1 ∷ 0 ∷ 0 ∷ 0 ∷ 0 ∷ 2 ∷ 0 ∷ 0 ∷ 0 ∷ 1 ∷ []
born_spelled = refl

-- the vote with its write, the attempt to commit and the commit
abbrev committed : List Record
committed =
    log.Vote first_txn (record { n = 1; op = Write (record { site = 1; name = 120 ∷ [] }) (97 ∷ []) } ∷ [])
    ∷ log.Attempt first_txn 1 Commit ∷ log.Decision first_txn Commit ∷ []

-- 83 bytes
committed_spelled : spelling committed
    ≡ 3 ∷ 0 ∷ 0 ∷ 0 ∷ 1 ∷ 0 ∷ 0 ∷ 0 ∷ 1 ∷ 0 ∷ 0 ∷ 0 ∷ 1 ∷ 0 ∷ 0 ∷ 0 ∷ 0 ∷ 0 ∷ 0 ∷ 0 ∷ 1 ∷ 0 ∷ 0 ∷ 0 ∷ 1 ∷ 0 ∷ 0 ∷ 0 ∷
    1 ∷ 1 ∷ 1 ∷ 120 ∷ 0 ∷ 1 ∷ 97 ∷ 5 ∷ 0 ∷ 0 ∷ 0 ∷ 1 ∷ 0 ∷ 0 ∷ 0 ∷ 1 ∷ 0 ∷ 0 ∷ 0 ∷ 1 ∷ 0 ∷ 0 ∷ 0 ∷ 0 ∷ 0 ∷ 0 ∷ 0 ∷
    1 ∷ 0 ∷ 0 ∷ 0 ∷ 1 ∷ 1 ∷ 6 ∷ 0 ∷ 0 ∷ 0 ∷ 1 ∷ 0 ∷ 0 ∷ 0 ∷ 1 ∷ 0 ∷ 0 ∷ 0 ∷ 1 ∷ 0 ∷ 0 ∷ 0 ∷ 0 ∷ 0 ∷ 0 ∷ 0 ∷ 1 ∷ 1 ∷ []
unfolding bits_of
committed_spelled = refl
