-- The items of a transaction of a generated scenario.
use Rattle.std.specs.Prelude.{◌+◌, ◌-◌, ◌%◌, ◌==◌, ◌∷◌, ◌++◌, [], if◌then◌else◌, nat_lt, ℕ, List, codes, filter, slice_index_or}
use Rattle.std.specs.Fmt.{decimal}
use Rattle.e3_types.specs.declared.scenarios.Item.{Item}
use Rattle.e3_types.specs.declared.scenarios.Item.TheVariants as item
use Rattle.e3_types.specs.declared.scenarios.Leave.TheVariants as leave
use Rattle.e3_types.specs.declared.transactions.Key.{Key}
use Rattle.e3_types.specs.Sets.{others}
use Rattle.e3_gen.specs.declared.draws.RecordWords.{RecordWords}
use Rattle.e3_gen.specs.declared.draws.TxnWords.{TxnWords}

-- the sites of a generated scenario
abbrev pub five : List ℕ
five = 1 ∷ 2 ∷ 3 ∷ 4 ∷ 5 ∷ []

-- the name of the transaction with this number: `tJ`
unfoldable pub txn_name : ℕ → List ℕ
txn_name j = codes "t" ++ decimal j

-- the coordinator that a word gives: its rest modulo 5, and 1
abbrev pub coordinator : ℕ → ℕ
coordinator word = word % 5 + 1

-- the sites of a coordinator's transaction: it and the next two, where 1 comes after 5
abbrev pub sites_of : ℕ → List ℕ
sites_of c = filter (λ s. nat_lt ((s + 5 - c) % 5) 3) five

-- the least site of the transaction other than the coordinator
abbrev pub fellow : ℕ → ℕ
fellow c = slice_index_or (others c (sites_of c)) 0 c

-- the record of a site that a word gives: `S.kX`, where X is the word modulo 100
unfoldable pub key_of : ℕ → ℕ → Key
key_of site word = record { site = site; name = codes "k" ++ decimal (word % 100) }

-- at each of the sites, with the words of its record: `write tJ S.kX V`, where V is a word, and `read tJ S.kX`
abbrev pub operations : List ℕ → List RecordWords → List ℕ → List Item
operations name (words ∷ more) (site ∷ sites) =
    item.Write name (key_of site words.name) (decimal words.value) ∷ item.Read name (key_of site words.name)
    ∷ operations name more sites
operations name (words ∷ more) [] = []
operations name [] sites = []

-- cut off from its coordinator c and healed: `split c|O`, `commit tJ`, `recover O`, `merge`, `recover 1,2,3,4,5`, where O
-- are the four sites other than c
abbrev pub cut_off : List ℕ → ℕ → List Item
cut_off name c =
    item.Split ((c ∷ []) ∷ others c five ∷ []) ∷ item.Commit name ∷ item.Recover (others c five) ∷ item.Merge
    ∷ item.Recover five ∷ []

-- a site loses its power before the commit: `crash S`, `restart S`, `commit tJ`
abbrev pub crashed : List ℕ → ℕ → List Item
crashed name site = item.Crash site ∷ item.Restart site ∷ item.Commit name ∷ []

-- the coordinator's disk stops inside the commit: `stop c 8 all`, `commit tJ`, `recover O`, `restart c`,
-- `recover 1,2,3,4,5`
abbrev pub stopped : List ℕ → ℕ → List Item
stopped name c =
    item.Stop c 8 leave.All ∷ item.Commit name ∷ item.Recover (others c five) ∷ item.Restart c ∷ item.Recover five ∷ []

-- how the transaction ends, by its number modulo 10: at 0 `cancel tJ`, at 3, 5 and 7 as above, else `commit tJ`
abbrev pub last_items : ℕ → List ℕ → ℕ → List Item
last_items digit name c =
    if digit == 0 then item.Cancel name ∷ []
    else if digit == 3 then cut_off name c
    else if digit == 5 then crashed name (fellow c)
    else if digit == 7 then stopped name c
    else item.Commit name ∷ []

-- the items of a transaction with this coordinator: `begin tJ C SITES`, its operations, and how it ends
abbrev pub items_at : ℕ → ℕ → List RecordWords → List Item
items_at j c words =
    item.Begin (txn_name j) c (sites_of c) ∷ operations (txn_name j) words (sites_of c) ++ last_items (j % 10) (txn_name j) c

-- the items of the transaction with this number, from its words
abbrev pub items_of : ℕ → TxnWords → List Item
items_of j words = items_at j (coordinator words.coordinator) words.records
