-- The table of a log with one more record.
use Rattle.std.proofs.Common.{◌≡◌, ◌∷◌, [], ◌++◌, ℕ, true, false, List, Option, Some, None, is_none, refl, sym, ap, subst, ◌∙◌, fold, append_assoc, append-nil, if◌then◌else◌}
use Rattle.std.specs.List.{AllByRecursion as Each}
use Rattle.std.proofs.lemmas.Grind.{fold-append}
use Rattle.e3_types.specs.declared.records.Record.{Record}
use Rattle.e3_types.specs.declared.records.Record.TheVariants as log
use Rattle.e3_types.specs.declared.transactions.Dir.{Dir}
use Rattle.e3_types.specs.declared.transactions.Dir.TheVariants.{Abort, Commit}
use Rattle.e3_types.specs.declared.transactions.NumOp.{NumOp}
use Rattle.e3_types.specs.declared.transactions.Op.{Op}
use Rattle.e3_types.specs.declared.transactions.Op.TheVariants.{Read, Write}
use Rattle.e3_types.specs.declared.transactions.Row.{Row}
use Rattle.e3_types.specs.declared.transactions.Txn.{Txn}
use Rattle.e3_types.specs.Same.{same_txn}
use Rattle.e3_world.specs.Logs.{decision, decision_by, install_op, is_undecided, ops_of_vote, table_by, table_of, voted_ops}
use Rattle.e3_world.specs.Orderly.{names_ascend, MayFollow, OrderlyAfter, IsOrderly}
use Rattle.e3_laws.proofs.brief.Lists.{fold_alike}
use Rattle.e3_laws.proofs.brief.Shape.{ops_push, quiet_from, Quiet}
use Rattle.e3_laws.proofs.steps.Ascending.{apart, other_way}
use Rattle.e3_laws.proofs.steps.Each.{each-weaker}
use Rattle.e3_laws.proofs.steps.Tests.{same_self}
use Rattle.e3_laws.proofs.steps.Rows.{set_ascends}
use Rattle.e3_laws.proofs.steps.Undecided.{stays}

-- each decision of a log is of a transaction that it decides
abbrev DecidedIn : List Record → Record → Type 0
DecidedIn all (log.Decision u d) = is_undecided u all ≡ false
DecidedIn all r = Unit {0}

decided_here : (front : List Record) (r : Record) (rest : List Record) → DecidedIn (front ++ r ∷ rest) r
decided_here front (log.Birth format site weights rows) rest = tt
decided_here front (log.Inc n) rest = tt
decided_here front (log.Vote u ops) rest = tt
decided_here front (log.Join u n) rest = tt
decided_here front (log.Attempt u n dir) rest = tt
decided_here front (log.Decision u d) rest =
    ap is_none (fold-append (decision_by u) None front (log.Decision u d ∷ rest) ∙ ap (λ (x : Option Dir). fold (decision_by u) x rest) own) ∙ stays u d rest
  where
    own : (if same_txn u u then Some d else decision u front) ≡ Some d
    own = rw (same_self u) refl

each_decided : (front back : List Record) → Each (DecidedIn (front ++ back)) back
each_decided front [] = tt
each_decided front (r ∷ rs) =
    (decided_here front r rs, subst (λ (x : List Record). Each (DecidedIn x) rs) (append_assoc front (r ∷ []) rs) (each_decided (front ++ r ∷ []) rs))

-- a record that may follow has no operations of a decided transaction
steady : (site : ℕ) (l : List Record) (r : Record) → MayFollow site l r → (u : Txn) → is_undecided u l ≡ false → ops_of_vote u r ≡ []
steady site l (log.Birth format number weights rows) may u decided = refl
steady site l (log.Inc n) may u decided = refl
steady site l (log.Join t n) may u decided = refl
steady site l (log.Attempt t n dir) may u decided = refl
steady site l (log.Decision t dir) may u decided = refl
steady site l (log.Vote t ops) may u decided =
    let q : Quiet t l = quiet_from t l may.fresh in
    let differ : same_txn u t ≡ false = other_way t u (apart (λ x. is_undecided x l) t u (ap is_none q.undecided) decided) in
    rw differ refl

-- no record adds operations to those of a decided transaction, and none but a vote adds any
no_more : (t : Txn) (l : List Record) (r : Record) → ops_of_vote t r ≡ [] → voted_ops t (l ++ r ∷ []) ≡ voted_ops t l
no_more t l r none = ops_push t l r ∙ ap (λ x. voted_ops t l ++ x) none ∙ append-nil (voted_ops t l)

table_step : (l : List Record) (r : Record) → ((u : Txn) → is_undecided u l ≡ false → ops_of_vote u r ≡ []) → (x : Record) → DecidedIn l x
    → (rows : List Row) → table_by (l ++ r ∷ []) rows x ≡ table_by l rows x
table_step l r none (log.Birth format site weights born) decided rows = refl
table_step l r none (log.Inc n) decided rows = refl
table_step l r none (log.Vote u ops) decided rows = refl
table_step l r none (log.Join u n) decided rows = refl
table_step l r none (log.Attempt u n dir) decided rows = refl
table_step l r none (log.Decision u Abort) decided rows = refl
table_step l r none (log.Decision u Commit) decided rows = ap (λ (ops : List NumOp). fold install_op rows ops) (no_more u l r (none u decided))

last_step : (l : List Record) (r : Record) (rows : List Row) → table_by (l ++ r ∷ []) rows r ≡ table_by l rows r
last_step l (log.Birth format site weights born) rows = refl
last_step l (log.Inc n) rows = refl
last_step l (log.Vote u ops) rows = refl
last_step l (log.Join u n) rows = refl
last_step l (log.Attempt u n dir) rows = refl
last_step l (log.Decision u Abort) rows = refl
last_step l (log.Decision u Commit) rows = ap (λ (ops : List NumOp). fold install_op rows ops) (no_more u l (log.Decision u Commit) refl)

pub table_push : (site : ℕ) (l : List Record) (r : Record) → MayFollow site l r → table_of (l ++ r ∷ []) ≡ table_by l (table_of l) r
table_push site l r may =
    fold-append (table_by (l ++ r ∷ [])) [] l (r ∷ [])
    ∙ ap (λ (rows : List Row). table_by (l ++ r ∷ []) rows r)
    (fold_alike (table_by (l ++ r ∷ [])) (table_by l) l
    (each-weaker (DecidedIn l) (λ x. (rows : List Row) → table_by (l ++ r ∷ []) rows x ≡ table_by l rows x) (table_step l r (steady site l r may)) l (each_decided [] l)) [])
    ∙ last_step l r (table_of l)

install_ascends : (op : NumOp) (rows : List Row) → names_ascend rows ≡ true → names_ascend (install_op rows op) ≡ true
install_ascends op rows up = by op.op refl
  where
    by : (o : Op) → op.op ≡ o → names_ascend (install_op rows op) ≡ true
    by (Read key) is = rw is up
    by (Write key val) is = rw is (set_ascends (record { name = key.name; val = val }) rows up)

installs_ascend : (ops : List NumOp) (rows : List Row) → names_ascend rows ≡ true → names_ascend (fold install_op rows ops) ≡ true
installs_ascend [] rows up = up
installs_ascend (o ∷ ops) rows up = installs_ascend ops (install_op rows o) (install_ascends o rows up)

next_ascends : (site : ℕ) (l : List Record) (r : Record) (rows : List Row) → MayFollow site l r → names_ascend rows ≡ true → names_ascend (table_by l rows r) ≡ true
next_ascends site l (log.Birth format number weights born) rows may up = may.ascending
next_ascends site l (log.Inc n) rows may up = up
next_ascends site l (log.Vote u ops) rows may up = up
next_ascends site l (log.Join u n) rows may up = up
next_ascends site l (log.Attempt u n dir) rows may up = up
next_ascends site l (log.Decision u Abort) rows may up = up
next_ascends site l (log.Decision u Commit) rows may up = installs_ascend (voted_ops u l) rows up

ascends_all : (site : ℕ) (l rest : List Record) → names_ascend (table_of l) ≡ true → OrderlyAfter site l rest → names_ascend (table_of (l ++ rest)) ≡ true
ascends_all site l [] up orderly = subst (λ (x : List Record). names_ascend (table_of x) ≡ true) (sym (append-nil l)) up
ascends_all site l (r ∷ rest) up orderly =
    subst (λ (x : List Record). names_ascend (table_of x) ≡ true) (append_assoc l (r ∷ []) rest)
    (ascends_all site (l ++ r ∷ []) rest
    (subst (λ (x : List Row). names_ascend x ≡ true) (sym (table_push site l r orderly.0)) (next_ascends site l r (table_of l) orderly.0 up)) orderly.1)

pub table_ascends : (site : ℕ) (l : List Record) → IsOrderly site l → names_ascend (table_of l) ≡ true
table_ascends site l orderly = ascends_all site [] l refl orderly
