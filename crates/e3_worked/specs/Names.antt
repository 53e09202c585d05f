-- Names that worked histories share: scenarios over some weights, transactions, sets of sites by their numbers, and keys by
-- their site and their name.
use Rattle.std.specs.Prelude.{◌∷◌, [], ℕ, List, codes, map}
use Rattle.e3_types.specs.declared.scenarios.Item.{Item}
use Rattle.e3_types.specs.declared.scenarios.Scenario.{Scenario}
use Rattle.e3_types.specs.declared.transactions.Key.{Key}
use Rattle.e3_types.specs.declared.transactions.Txn.{Txn}

-- sites of these weights: no rows, no step, and no packet is lost or comes twice
abbrev pub bare : List ℕ → Scenario
bare weights = record { weights = weights; rows = []; loss = 0; repeat = 0; luck = 0; steps = [] }

-- sites of these weights, and a step for each of these items
abbrev pub one_by_one : List ℕ → List Item → Scenario
one_by_one weights items = record (bare weights) { steps = map (λ item. item ∷ []) items }

-- the transaction that a site begins in its first incarnation, by its number there, over these sites
abbrev pub txn : ℕ → ℕ → List ℕ → Txn
txn site seq sites = record { site = site; inc = 1; seq = seq; sites = sites }

-- sets of sites
abbrev pub s1 : List ℕ
s1 = 1 ∷ []

abbrev pub s2 : List ℕ
s2 = 2 ∷ []

abbrev pub s1_2 : List ℕ
s1_2 = 1 ∷ 2 ∷ []

abbrev pub s1_3 : List ℕ
s1_3 = 1 ∷ 3 ∷ []

abbrev pub s2_3 : List ℕ
s2_3 = 2 ∷ 3 ∷ []

abbrev pub s3_4 : List ℕ
s3_4 = 3 ∷ 4 ∷ []

abbrev pub s1_2_3 : List ℕ
s1_2_3 = 1 ∷ 2 ∷ 3 ∷ []

abbrev pub s1_2_3_4 : List ℕ
s1_2_3_4 = 1 ∷ 2 ∷ 3 ∷ 4 ∷ []

-- keys
abbrev pub key_1_ann : Key
key_1_ann = record { site = 1; name = codes "ann" }

abbrev pub key_1_x : Key
key_1_x = record { site = 1; name = codes "x" }

abbrev pub key_1_y : Key
key_1_y = record { site = 1; name = codes "y" }

abbrev pub key_2_bob : Key
key_2_bob = record { site = 2; name = codes "bob" }

abbrev pub key_2_x : Key
key_2_x = record { site = 2; name = codes "x" }

abbrev pub key_2_y : Key
key_2_y = record { site = 2; name = codes "y" }

abbrev pub key_3_cid : Key
key_3_cid = record { site = 3; name = codes "cid" }

abbrev pub key_3_z : Key
key_3_z = record { site = 3; name = codes "z" }
