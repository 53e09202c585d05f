-- Of which logs names are known.
use Rattle.std.proofs.Common.{◌≡◌, ◌&&◌, ◌++◌, ◌∷◌, [], ℕ, Bool, true, false, List, length, refl, ap, sym, ◌∙◌, subst, append-nil, append_assoc, arith}
use Rattle.std.specs.Prelude.{◌==◌, Option, Some, None, is_none, take}
use Rattle.std.specs.Option.{IsSome}
use Rattle.std.proofs.lemmas.Bool.{and_parts}
use Rattle.std.proofs.lemmas.Grind.{common_steps}
use Rattle.e3_types.specs.declared.records.Record.{Record}
use Rattle.e3_types.specs.declared.records.Record.TheVariants as log
use Rattle.e3_types.specs.declared.transactions.Dir.{Dir}
use Rattle.e3_types.specs.declared.transactions.Dir.TheVariants.{Abort, Commit}
use Rattle.e3_types.specs.declared.transactions.State.TheVariants.{Q, C, A}
use Rattle.e3_types.specs.declared.transactions.Txn.{Txn}
use Rattle.e3_world.specs.Logs.{decision, is_undecided, state_of}
use Rattle.e3_world.specs.Orderly.{IsOrderly, MayFollow, OrderlyAfter, is_known}
use Rattle.e3_site.specs.declared.past.logged.Logged.{Logged}
use Rattle.e3_site.specs.past.Standing.{LoggedStand, may_all_be_read, may_be_read}

both : (a b : Bool) → a ≡ true → b ≡ true → (a && b) ≡ true
both true true e f = refl
both true false e f = f
both false b e f = e

-- what is read of a log with one more record
pub read_push : (before log : List Record) (r : Record) → may_all_be_read before (log ++ r ∷ []) ≡ true → (may_all_be_read before log ≡ true) × (may_be_read (before ++ log) r ≡ true)
read_push before [] r all =
    (refl, subst (λ (l : List Record). may_be_read l r ≡ true) (sym (append-nil before)) (and_parts (may_be_read before r) true all).0)
read_push before (x ∷ log) r all =
    let parts : (may_be_read before x ≡ true) × (may_all_be_read (before ++ x ∷ []) (log ++ r ∷ []) ≡ true) =
    and_parts (may_be_read before x) (may_all_be_read (before ++ x ∷ []) (log ++ r ∷ [])) all in
    let more : (may_all_be_read (before ++ x ∷ []) log ≡ true) × (may_be_read ((before ++ x ∷ []) ++ log) r ≡ true) = read_push (before ++ x ∷ []) log r parts.1 in (
      both (may_be_read before x) (may_all_be_read (before ++ x ∷ []) log) parts.0 more.0,
      subst (λ (l : List Record). may_be_read l r ≡ true) (append_assoc before (x ∷ []) log) more.1,
    )

-- a transaction in q is undecided
open_in_q : (t : Txn) (l : List Record) → state_of t l ≡ Q → is_undecided t l ≡ true
open_in_q t l is = by (decision t l) refl
  where
    by : (d : Option Dir) → decision t l ≡ d → is_undecided t l ≡ true
    by None e = ap is_none e
    by (Some Commit) e = absurd (let now : state_of t l ≡ C = rw e refl in let no : C ≡ Q = sym now ∙ is in cc)
    by (Some Abort) e = absurd (let now : state_of t l ≡ A = rw e refl in let no : A ≡ Q = sym now ∙ is in cc)

-- no transaction is known where there is no record
none_known : (site : ℕ) (t : Txn) (r : Record) → is_known site [] t ≡ true → may_be_read [] r ≡ true
none_known site t r e = absurd (let no : false ≡ true = e in cc)

-- a record that may stand behind those before it in the log of a site
may : (site : ℕ) (before : List Record) (r : Record) → MayFollow site before r → may_be_read before r ≡ true
may site [] (log.Birth format number weights rows) h = refl
may site [] (log.Inc inc) h = absurd (h.born refl)
may site [] (log.Vote t ops) h = none_known site t (log.Vote t ops) h.known
may site [] (log.Join t n) h = none_known site t (log.Join t n) h.known
may site [] (log.Attempt t n dir) h = none_known site t (log.Attempt t n dir) h.known
may site [] (log.Decision t dir) h = none_known site t (log.Decision t dir) h.known
may site (x ∷ before) (log.Birth format number weights rows) h = absurd (let no : x ∷ before ≡ [] = h.first in cc)
may site (x ∷ before) (log.Inc inc) h = refl
may site (x ∷ before) (log.Vote t ops) h = open_in_q t (x ∷ before) h.fresh
may site (x ∷ before) (log.Join t n) h = refl
may site (x ∷ before) (log.Attempt t n dir) h = refl
may site (x ∷ before) (log.Decision t dir) h = h.undecided

orderly_after : (site : ℕ) (before rest : List Record) → OrderlyAfter site before rest → may_all_be_read before rest ≡ true
orderly_after site before [] o = refl
orderly_after site before (r ∷ rest) o =
    both (may_be_read before r) (may_all_be_read (before ++ r ∷ []) rest) (may site before r o.0) (orderly_after site (before ++ r ∷ []) rest o.1)

-- the names of a site's log are known
pub orderly_known : (site inc : ℕ) (records : List Record) (read : Logged) → LoggedStand site read inc records → IsOrderly site records → IsSome read.places
orderly_known site inc records read stand orderly = stand.places_known (orderly_after site [] records orderly)

-- a log with one more record is not empty
pub not_empty : (log : List Record) (r : Record) → false ≡ (length (log ++ r ∷ []) == 0)
not_empty log r = grind (arith, common_steps)

take_whole : (k : ℕ) (xs : List Record) → k ≡ length xs → take k xs ≡ xs
take_whole k xs e = grind (arith, common_steps, e)

pub whole_known : (site inc : ℕ) (records : List Record) (read : Logged) (k : ℕ) → k ≡ length records → LoggedStand site read inc (take k records) → IsOrderly site records
    → IsSome read.places
whole_known site inc records read k all stand =
    orderly_known site inc records read (subst (λ (l : List Record). LoggedStand site read inc l) (take_whole k records all) stand)
