-- The birth of an orderly log, and the weights that it has.
use Rattle.std.proofs.Common.{◌≡◌, ◌≢◌, ◌++◌, ◌∷◌, [], ℕ, true, false, List, refl, ap, sym, ◌∙◌, append_assoc, append-nil}
use Rattle.e3_types.specs.declared.records.Record.{Record}
use Rattle.e3_types.specs.declared.records.Record.TheVariants as log
use Rattle.e3_types.specs.declared.transactions.Row.{Row}
use Rattle.e3_world.specs.Orderly.{weights_in, MayFollow, OrderlyAfter, IsOrderly}
use Rattle.e3_world.specs.Brief.{born_by, born_in}
use Rattle.e3_laws.proofs.brief.Lists.{no_push}
use Rattle.e3_laws.proofs.brief.Shape.{keeps_weights}

follows_none : (site : ℕ) (rows : List Row) (before : List Record) (r : Record) → before ≢ [] → MayFollow site before r → born_by rows r ≡ []
follows_none site rows before (log.Birth format number weights was) some may = absurd (some may.first)
follows_none site rows before (log.Inc n) some may = refl
follows_none site rows before (log.Vote u ops) some may = refl
follows_none site rows before (log.Join u n) some may = refl
follows_none site rows before (log.Attempt u n dir) some may = refl
follows_none site rows before (log.Decision u dir) some may = refl

rest_births : (site : ℕ) (rows : List Row) (before rest : List Record) → before ≢ [] → OrderlyAfter site before rest → born_in rows rest ≡ []
rest_births site rows before [] some orderly = refl
rest_births site rows before (r ∷ rest) some orderly =
    let first = follows_none site rows before r some orderly.0 in
    let more = rest_births site rows (before ++ r ∷ []) rest (no_push before r) orderly.1 in λ i. first i ++ more i

pub rest_weights : (site : ℕ) (before rest : List Record) → before ≢ [] → OrderlyAfter site before rest → weights_in (before ++ rest) ≡ weights_in before
rest_weights site before [] some orderly = ap weights_in (append-nil before)
rest_weights site before (r ∷ rest) some orderly =
    ap weights_in (sym (append_assoc before (r ∷ []) rest)) ∙ rest_weights site (before ++ r ∷ []) rest (no_push before r) orderly.1 ∙ keeps_weights site before r orderly.0 some

-- an orderly log has one birth, of format 1, with the site's number and the log's weights
pub born_one : (site : ℕ) (rows : List Row) (l : List Record) → IsOrderly site l → l ≢ [] → born_in rows l ≡ log.Birth 1 site (weights_in l) rows ∷ []
born_one site rows [] orderly some = absurd (some refl)
born_one site rows (log.Birth format number weights was ∷ rest) orderly some =
    let first : List Record = log.Birth format number weights was ∷ [] in
    let stands : first ≢ [] = λ e. absurd cc in
    let none : born_in rows rest ≡ [] = rest_births site rows first rest stands orderly.1 in
    let same : weights_in (log.Birth format number weights was ∷ rest) ≡ weights = rest_weights site first rest stands orderly.1 in
    ap (λ (x : List Record). log.Birth format number weights rows ∷ x) none ∙ (λ i. log.Birth (orderly.0.one i) (orderly.0.of_site i) (sym same i) rows ∷ [])
born_one site rows (log.Inc n ∷ rest) orderly some = absurd (orderly.0.born refl)
born_one site rows (log.Vote t ops ∷ rest) orderly some = absurd (let h : false ≡ true = orderly.0.known in cc)
born_one site rows (log.Join t n ∷ rest) orderly some = absurd (let h : false ≡ true = orderly.0.known in cc)
born_one site rows (log.Attempt t n dir ∷ rest) orderly some = absurd (let h : false ≡ true = orderly.0.known in cc)
born_one site rows (log.Decision t dir ∷ rest) orderly some = absurd (let h : false ≡ true = orderly.0.known in cc)
