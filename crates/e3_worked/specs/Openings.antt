-- How many worked histories begin: all sites rise, and site 1 begins its first transaction, which is over all of them.
use Rattle.std.specs.Prelude.{◌++◌, ◌∷◌, [], ℕ, List, codes, map}
use Rattle.e3_types.specs.declared.transactions.Answer.TheVariants.{Written}
use Rattle.e3_types.specs.declared.entries.Entry.{Entry}
use Rattle.e3_types.specs.declared.transactions.Op.TheVariants.{Write}
use Rattle.e3_types.specs.declared.transactions.Txn.{Txn}
use Rattle.e3_worked.specs.Entries.{line, rises, begins, local_operation, remote_operation}
use Rattle.e3_worked.specs.Names.{key_1_x, key_2_y}

-- these sites rise for the first time
abbrev pub all_rise : List ℕ → List Entry
all_rise sites = map (λ site. rises site 1) sites

-- the sites of this transaction rise, and it is begun: up to the second line
abbrev pub begun : Txn → List Entry
begun t =
    all_rise t.sites ++
    line 1 ∷
    begins t ∷
    line 2 ∷
    []

-- then it writes a to record x of site 1, which is its coordinator: up to the third line
abbrev pub written_here : Txn → List Entry
written_here t =
    begun t ++
    local_operation t 1 (Write key_1_x (codes "a")) Written ∷
    line 3 ∷
    []

-- or it writes b to record y of site 2, by packets 1 and 2: up to the third line
abbrev pub written_there : Txn → List Entry
written_there t =
    begun t ++
    remote_operation t 1 (Write key_2_y (codes "b")) Written 1 ++
    line 3 ∷
    []
