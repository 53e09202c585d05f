-- What is found is a clash, and where none is found there is none.
use Rattle.std.proofs.Common.{◌≡◌, inl, inr, ◌∷◌, [], ◌||◌, Bool, true, false, List, fold, Option, Some, None, refl, sym, ap, subst, ◌∙◌, if◌then◌else◌}
use Rattle.std.specs.List.{list_any}
use Rattle.std.proofs.lemmas.Bool.{or_cases, or_right}
use Rattle.e3_types.specs.declared.entries.Entry.{Entry}
use Rattle.e3_types.specs.declared.records.Record.{Record}
use Rattle.e3_types.specs.declared.records.Record.TheVariants as log
use Rattle.e3_types.specs.declared.scenarios.Scenario.{Scenario}
use Rattle.e3_types.specs.declared.transactions.Dir.TheVariants.{Abort, Commit}
use Rattle.e3_types.specs.declared.transactions.Txn.{Txn}
use Rattle.e3_world.specs.Given.{IsGiven}
use Rattle.e3_world.specs.Legal.{IsLegal}
use Rattle.e3_world.specs.Moves.{trail_of}
use Rattle.e3_world.specs.Safe.{Agrees}
use Rattle.e3_laws.specs.agreement.Logs.{IsIn}
use Rattle.e3_laws.proofs.agreement.Refinement.Lists.{same_from}
use Rattle.e3_laws.proofs.agreement.Histories.{given_agrees}
use Rattle.e3_judge.specs.Clashes.{decisions, is_abort_of, clash_by, Clashes}
use Rattle.e3_judge.proofs.Placing.{looked_at, stands_placed}
use Rattle.e3_laws.proofs.steps.Tests.{same_is}

-- an abort that is found is among the records
abort_in : (t : Txn) (rs : List Record) → list_any (is_abort_of t) rs ≡ true → IsIn (log.Decision t Abort) rs
abort_in t [] is = cc
abort_in t (r ∷ rs) is = elim (or_cases (is_abort_of t r) (list_any (is_abort_of t) rs) is) [
  | inl this ↦ inl (sym (one r this))
  | inr more ↦ inr (abort_in t rs more)
]
  where
    one : (r : Record) → is_abort_of t r ≡ true → r ≡ log.Decision t Abort
    one (log.Decision u Abort) this = ap (λ v. log.Decision v Abort) (sym (same_is t u this))
    one (log.Decision u Commit) this = cc
    one (log.Vote u ops) this = cc
    one (log.Join u n) this = cc
    one (log.Attempt u n d) this = cc
    one (log.Birth format site weights rows) this = cc
    one (log.Inc inc) this = cc

-- and one that is among them is found
abort_found : (t : Txn) (rs : List Record) → IsIn (log.Decision t Abort) rs → list_any (is_abort_of t) rs ≡ true
abort_found t [] k = absurd k
abort_found t (r ∷ rs) (inl e) =
    let this : is_abort_of t r ≡ true = subst (λ (z : Record). is_abort_of t z ≡ true) e (same_from t t refl) in
    ap (λ b. b || list_any (is_abort_of t) rs) this
abort_found t (r ∷ rs) (inr k) = or_right (is_abort_of t r) (list_any (is_abort_of t) rs) (abort_found t rs k)

-- what is found stays found
found_stays : (all : List Record) (t : Txn) (rs : List Record) → fold (clash_by all) (Some t) rs ≡ Some t
found_stays all t [] = refl
found_stays all t (r ∷ rs) = found_stays all t rs

-- what one record finds
abbrev Finds : List Record → Txn → Record → Type 0
Finds all t r = (r ≡ log.Decision t Commit) × IsIn (log.Decision t Abort) all

finds : (all : List Record) (t : Txn) (r : Record) → clash_by all None r ≡ Some t → Finds all t r
finds all t (log.Decision u Commit) is = by (list_any (is_abort_of u) all) refl is
  where
    by : (b : Bool) → list_any (is_abort_of u) all ≡ b → (if b then Some u else None) ≡ Some t → Finds all t (log.Decision u Commit)
    by true has q = let same : u ≡ t = cc in (ap (λ v. log.Decision v Commit) same, subst (λ v. IsIn (log.Decision v Abort) all) same (abort_in u all has))
    by false has q = cc
finds all t (log.Decision u Abort) is = cc
finds all t (log.Vote u ops) is = cc
finds all t (log.Join u n) is = cc
finds all t (log.Attempt u n d) is = cc
finds all t (log.Birth format site weights rows) is = cc
finds all t (log.Inc inc) is = cc

-- a transaction that is found is committed and aborted
found_clashes : (all : List Record) (t : Txn) (rs : List Record) → fold (clash_by all) None rs ≡ Some t → IsIn (log.Decision t Commit) rs × IsIn (log.Decision t Abort) all
found_clashes all t [] is = cc
found_clashes all t (r ∷ rs) is = by (clash_by all None r) refl is (λ q. found_clashes all t rs q)
  where
    by : (o : Option Txn) → clash_by all None r ≡ o → fold (clash_by all) o rs ≡ Some t → (fold (clash_by all) None rs ≡ Some t → IsIn (log.Decision t Commit) rs × IsIn (log.Decision t Abort) all)
        → IsIn (log.Decision t Commit) (r ∷ rs) × IsIn (log.Decision t Abort) all
    by None now q rest = let k = rest q in (inr k.0, k.1)
    by (Some u) now q rest =
        let last : Some u ≡ Some t = sym (found_stays all u rs) ∙ q in
        let f : Finds all t r = finds all t r (now ∙ last) in
        (inl (sym f.0), f.1)

-- where none is found none is committed and aborted
none_clashes : (all : List Record) (t : Txn) (rs : List Record) → fold (clash_by all) None rs ≡ None → IsIn (log.Decision t Commit) rs → IsIn (log.Decision t Abort) all → ⊥
none_clashes all t [] is k a = k
none_clashes all t (r ∷ rs) is k a = by (clash_by all None r) refl is k (λ q j. none_clashes all t rs q j a)
  where
    by : (o : Option Txn) → clash_by all None r ≡ o → fold (clash_by all) o rs ≡ None → IsIn (log.Decision t Commit) (r ∷ rs) → (fold (clash_by all) None rs ≡ None → IsIn (log.Decision t Commit) rs → ⊥) → ⊥
    by (Some u) now q k rest = let clash : Some u ≡ None = sym (found_stays all u rs) ∙ q in cc
    by None now q (inr k) rest = rest q k
    by None now q (inl e) rest =
        let here : clash_by all None (log.Decision t Commit) ≡ None = subst (λ (z : Record). clash_by all None z ≡ None) (sym e) now in
        let there : clash_by all None (log.Decision t Commit) ≡ Some t = ap (λ b. let o : Option Txn = if b then Some t else None in o) (abort_found t all a) in
        let clash : None ≡ Some t = sym here ∙ there in cc

-- the clause on none
pub none_agrees : (sc : Scenario) (h : List Entry) → fold (clash_by (decisions h)) None (decisions h) ≡ None → Agrees (trail_of sc h)
none_agrees sc h is s u t Commit Commit a b = refl
none_agrees sc h is s u t Abort Abort a b = refl
none_agrees sc h is s u t Commit Abort a b = absurd (none_clashes (decisions h) t (decisions h) is (looked_at sc h s t Commit a) (looked_at sc h u t Abort b))
none_agrees sc h is s u t Abort Commit a b = absurd (none_clashes (decisions h) t (decisions h) is (looked_at sc h u t Commit b) (looked_at sc h s t Abort a))

-- the clause on some
pub some_clashes : (sc : Scenario) (h : List Entry) (t : Txn) → fold (clash_by (decisions h)) None (decisions h) ≡ Some t → Clashes sc h t
some_clashes sc h t is =
    let k = found_clashes (decisions h) t (decisions h) is in
    let s = stands_placed sc h (log.Decision t Commit) k.0 in
    let u = stands_placed sc h (log.Decision t Abort) k.1 in
    (s.0, u.0, s.1, u.1)

-- a legal history has none
pub legal_has_none : (sc : Scenario) (h : List Entry) → IsGiven sc → IsLegal sc h → fold (clash_by (decisions h)) None (decisions h) ≡ None
legal_has_none sc h given legal = by (fold (clash_by (decisions h)) None (decisions h)) refl
  where
    by : (o : Option Txn) → fold (clash_by (decisions h)) None (decisions h) ≡ o → fold (clash_by (decisions h)) None (decisions h) ≡ None
    by None is = is
    by (Some t) is = absurd (
        let k = some_clashes sc h t is in
        let same : Commit ≡ Abort = given_agrees sc h given legal k.0 k.1 t Commit Abort k.2 k.3 in
        cc)
