-- The names of a log are known, also where its first incarnation is a later one.
use Rattle.std.proofs.Common.{◌≡◌, ◌++◌, ◌∷◌, [], ℕ, true, false, List, refl, sym, subst, append_assoc, append-nil}
use Rattle.std.specs.Option.{IsSome}
use Rattle.std.proofs.lemmas.Bool.{and_from, and_parts}
use Rattle.e3_types.specs.declared.records.Record.{Record}
use Rattle.e3_types.specs.declared.records.Record.TheVariants as log
use Rattle.e3_types.specs.declared.transactions.Txn.{Txn}
use Rattle.e3_world.specs.Orderly.{is_known, IsOrderly, MayFollow, OrderlyAfter}
use Rattle.e3_site.specs.Orderly.{is_orderly_next}
use Rattle.e3_site.specs.declared.past.logged.Logged.{Logged}
use Rattle.e3_site.specs.past.Standing.{LoggedStand, may_all_be_read, may_be_read}
use Rattle.e3_laws.proofs.steps.Adding.{idle_open}
use Rattle.e3_site.proofs.Follows.{follows}

-- no transaction is known where there is no record
none_known : (site : ℕ) (t : Txn) (r : Record) → is_known site [] t ≡ true → may_be_read [] r ≡ true
none_known site t r e = absurd (let nothing : false ≡ true = e in cc)

-- a record that may stand behind those before it in the log of a site
may : (site : ℕ) (before : List Record) (r : Record) → MayFollow site before r → may_be_read before r ≡ true
may site [] (log.Birth format number weights rows) h = refl
may site [] (log.Inc inc) h = absurd (h.born refl)
may site [] (log.Vote t ops) h = none_known site t (log.Vote t ops) h.known
may site [] (log.Join t n) h = none_known site t (log.Join t n) h.known
may site [] (log.Attempt t n dir) h = none_known site t (log.Attempt t n dir) h.known
may site [] (log.Decision t dir) h = none_known site t (log.Decision t dir) h.known
may site (x ∷ before) (log.Birth format number weights rows) h = absurd (let nothing : x ∷ before ≡ [] = h.first in cc)
may site (x ∷ before) (log.Inc inc) h = refl
may site (x ∷ before) (log.Vote t ops) h = idle_open t (x ∷ before) h.fresh
may site (x ∷ before) (log.Join t n) h = refl
may site (x ∷ before) (log.Attempt t n dir) h = refl
may site (x ∷ before) (log.Decision t dir) h = h.undecided

orderly_after : (site : ℕ) (before rest : List Record) → OrderlyAfter site before rest → may_all_be_read before rest ≡ true
orderly_after site before [] o = refl
orderly_after site before (r ∷ rest) o =
    and_from (may_be_read before r) (may_all_be_read (before ++ r ∷ []) rest) (may site before r o.0) (orderly_after site (before ++ r ∷ []) rest o.1)

-- a record that passes the test may be read, and so may all with it
pub next_read : (site : ℕ) (before : List Record) (r : Record) → is_orderly_next site before r ≡ true → may_be_read before r ≡ true
next_read site before r is = may site before r (follows site before r is)

all_more : (before rest : List Record) (r : Record) → may_all_be_read before rest ≡ true → may_be_read (before ++ rest) r ≡ true → may_all_be_read before (rest ++ r ∷ []) ≡ true
all_more before [] r all one = and_from (may_be_read before r) true (subst (λ (l : List Record). may_be_read l r ≡ true) (append-nil before) one) refl
all_more before (x ∷ rest) r all one =
    let parts = and_parts (may_be_read before x) (may_all_be_read (before ++ x ∷ []) rest) all in
    and_from (may_be_read before x) (may_all_be_read (before ++ x ∷ []) (rest ++ r ∷ [])) parts.0
    (all_more (before ++ x ∷ []) rest r parts.1 (subst (λ (l : List Record). may_be_read l r ≡ true) (sym (append_assoc before (x ∷ []) rest)) one))

pub read_one_more : (site : ℕ) (records : List Record) (r : Record) → may_all_be_read [] records ≡ true → is_orderly_next site records r ≡ true → may_all_be_read [] (records ++ r ∷ []) ≡ true
read_one_more site records r all is = all_more [] records r all (next_read site records r is)

-- the names of a site's log are known
pub orderly_known : (site inc : ℕ) (records : List Record) (read : Logged) → LoggedStand site read inc records → IsOrderly site records → IsSome read.places
orderly_known site inc records read stand orderly = stand.places_known (orderly_after site [] records orderly)
