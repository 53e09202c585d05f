-- The sites of a transaction, with quorums by weight.
use Rattle.std.specs.Prelude.{◌&&◌, ◌∷◌, [], ℕ, Bool, true, not, List}
use Rattle.e3_types.specs.declared.transactions.Txn.{Txn}
use Rattle.e3_types.specs.Quorums.{is_quorum}
use Rattle.e3_types.specs.Sets.{has_site, is_within}
use Rattle.e3_laws.specs.agreement.Rules.{Party}

-- no site stands twice
abbrev pub differ : List ℕ → Bool
differ [] = true
differ (x ∷ xs) = not (has_site xs x) && differ xs

-- these are some of all, none of them twice, and have more than half of the weight of all
abbrev pub is_majority : List ℕ → List ℕ → List ℕ → Bool
is_majority weights all these = is_within these all && (differ these && is_quorum weights these all)

-- those who take part in a transaction
abbrev pub party_of : List ℕ → Txn → Party
party_of weights t = record { members = t.sites; coordinator = t.site; quorum = is_majority weights t.sites }
