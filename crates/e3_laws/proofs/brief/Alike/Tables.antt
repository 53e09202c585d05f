-- The table of both logs behind the same records, none of which votes for or decides what the log has decided.
use Rattle.std.proofs.Common.{◌≡◌, ◌++◌, ◌∷◌, [], true, false, List, Option, Some, None, is_none, refl, sym, ap, subst, ◌∙◌, if◌then◌else◌, fold, append_assoc, append-nil}
use Rattle.std.specs.List.{AllByRecursion as Each}
use Rattle.std.proofs.lemmas.Grind.{fold-append, flat_map-append}
use Rattle.e3_types.specs.declared.records.Record.{Record}
use Rattle.e3_types.specs.declared.records.Record.TheVariants as log
use Rattle.e3_types.specs.declared.transactions.Dir.{Dir}
use Rattle.e3_types.specs.declared.transactions.Dir.TheVariants.{Abort, Commit}
use Rattle.e3_types.specs.declared.transactions.NumOp.{NumOp}
use Rattle.e3_types.specs.declared.transactions.Row.{Row}
use Rattle.e3_types.specs.declared.transactions.Txn.{Txn}
use Rattle.e3_types.specs.Same.{same_txn}
use Rattle.e3_world.specs.Logs.{decision, decision_by, install_op, is_undecided, ops_of_vote, table_by, table_of, voted_ops}
use Rattle.e3_laws.proofs.brief.Lists.{fold_alike}
use Rattle.e3_laws.proofs.steps.Ascending.{apart, other_way}
use Rattle.e3_laws.proofs.steps.Each.{each-weaker}
use Rattle.e3_laws.proofs.steps.Tests.{same_self}
use Rattle.e3_laws.proofs.steps.Undecided.{stays}
use Rattle.e3_laws.proofs.brief.Alike.Notes.{NotesAlike, notes_open}

-- the record's transaction was undecided in this log, if it is a vote or a decision
abbrev pub WasOpen : List Record → Record → Type 0
WasOpen l (log.Vote t ops) = is_undecided t l ≡ true
WasOpen l (log.Decision t dir) = is_undecided t l ≡ true
WasOpen l r = Unit {0}

-- each decision of a log is of a transaction that it decides
abbrev DecidedIn : List Record → Record → Type 0
DecidedIn all (log.Decision u d) = is_undecided u all ≡ false
DecidedIn all r = Unit {0}

decided_here : (ahead : List Record) (r : Record) (rest : List Record) → DecidedIn (ahead ++ r ∷ rest) r
decided_here ahead (log.Decision u d) rest =
    ap is_none (fold-append (decision_by u) None ahead (log.Decision u d ∷ rest) ∙ ap (λ (x : Option Dir). fold (decision_by u) x rest) own) ∙ stays u d rest
  where
    own : (if same_txn u u then Some d else decision u ahead) ≡ Some d
    own = rw (same_self u) refl
decided_here ahead r rest = tt

each_decided : (ahead l : List Record) → Each (DecidedIn (ahead ++ l)) l
each_decided ahead [] = tt
each_decided ahead (r ∷ rs) =
    (decided_here ahead r rs, subst (λ (x : List Record). Each (DecidedIn x) rs) (append_assoc ahead (r ∷ []) rs) (each_decided (ahead ++ r ∷ []) rs))

-- such records have no operations of a decided transaction
no_ops : (l more : List Record) (u : Txn) → is_undecided u l ≡ false → Each (WasOpen l) more → voted_ops u more ≡ []
no_ops l [] u decided free = refl
no_ops l (log.Vote t ops ∷ more) u decided free =
    let differ : same_txn u t ≡ false = other_way t u (apart (λ (x : Txn). is_undecided x l) t u free.0 decided) in
    rw differ (no_ops l more u decided free.1)
no_ops l (r ∷ more) u decided free = no_ops l more u decided free.1

-- so they leave what the log's own commits install
ahead_same : (l more : List Record) → Each (WasOpen l) more → (r : Record) → DecidedIn l r → (rows : List Row) → table_by (l ++ more) rows r ≡ table_by l rows r
ahead_same l more free (log.Decision u Commit) decided rows = ap (λ (ops : List NumOp). fold install_op rows ops)
    (flat_map-append (ops_of_vote u) l more ∙ ap (λ (ops : List NumOp). voted_ops u l ++ ops) (no_ops l more u decided free) ∙ append-nil (voted_ops u l))
ahead_same l more free (log.Decision u Abort) decided rows = refl
ahead_same l more free r decided rows = refl

table_ahead : (l more : List Record) → Each (WasOpen l) more → fold (table_by (l ++ more)) [] l ≡ table_of l
table_ahead l more free = fold_alike (table_by (l ++ more)) (table_by l) l
    (each-weaker (DecidedIn l) (λ r. (rows : List Row) → table_by (l ++ more) rows r ≡ table_by l rows r) (ahead_same l more free) l (each_decided [] l)) []

-- and their commits install the same
behind_same : (x y more : List Record) → NotesAlike x y → (r : Record) → WasOpen x r → (rows : List Row) → table_by (x ++ more) rows r ≡ table_by (y ++ more) rows r
behind_same x y more s (log.Decision u Commit) free rows = ap (λ (ops : List NumOp). fold install_op rows ops)
    (flat_map-append (ops_of_vote u) x more ∙ ap (λ (ops : List NumOp). ops ++ voted_ops u more) (s.ops u free) ∙ sym (flat_map-append (ops_of_vote u) y more))
behind_same x y more s (log.Decision u Abort) free rows = refl
behind_same x y more s r free rows = refl

open_too : (x y : List Record) → NotesAlike x y → (r : Record) → WasOpen x r → WasOpen y r
open_too x y s (log.Vote t ops) free = sym (notes_open x y s t) ∙ free
open_too x y s (log.Decision t dir) free = sym (notes_open x y s t) ∙ free
open_too x y s r free = tt

pub table_more : (x y more : List Record) → NotesAlike x y → table_of x ≡ table_of y → Each (WasOpen x) more → table_of (x ++ more) ≡ table_of (y ++ more)
table_more x y more s same free =
    fold-append (table_by (x ++ more)) [] x more
    ∙ ap (λ (rows : List Row). fold (table_by (x ++ more)) rows more) (table_ahead x more free ∙ same)
    ∙ fold_alike (table_by (x ++ more)) (table_by (y ++ more)) more
    (each-weaker (WasOpen x) (λ r. (rows : List Row) → table_by (x ++ more) rows r ≡ table_by (y ++ more) rows r) (behind_same x y more s) more free) (table_of y)
    ∙ ap (λ (rows : List Row). fold (table_by (y ++ more)) rows more) (sym (table_ahead y more (each-weaker (WasOpen x) (WasOpen y) (open_too x y s) more free)))
    ∙ sym (fold-append (table_by (y ++ more)) [] y more)
