-- What a log says of a transaction behind more records.
use Rattle.std.specs.Prelude.{◌≡◌, ◌++◌, ◌∷◌, [], List, fold}
use Rattle.std.proofs.Common.{ap, sym, ◌∙◌, arith}
use Rattle.std.proofs.lemmas.Grind.{common_steps}
use Rattle.e3_types.specs.declared.records.Record.{Record}
use Rattle.e3_types.specs.declared.transactions.Txn.{Txn}
use Rattle.e3_cards.specs.declared.seen.Seen.{Seen}
use Rattle.e3_cards.specs.Seeing.{seen_of, seen_by}

-- one more record
pub seen_push : (t : Txn) (log : List Record) (r : Record) → seen_of t (log ++ r ∷ []) ≡ seen_by t (seen_of t log) r
seen_push t log r = grind (arith, common_steps)

regroup : (log : List Record) (r : Record) (rs : List Record) → (log ++ r ∷ []) ++ rs ≡ log ++ r ∷ rs
regroup log r rs = grind (arith, common_steps)

-- more records
pub seen_more : (t : Txn) (log rs : List Record) → fold (seen_by t) (seen_of t log) rs ≡ seen_of t (log ++ rs)
seen_more t log [] = grind (arith, common_steps)
seen_more t log (r ∷ rs) =
    ap (λ (s : Seen). fold (seen_by t) s rs) (sym (seen_push t log r)) ∙ seen_more t (log ++ r ∷ []) rs
    ∙ ap (seen_of t) (regroup log r rs)
