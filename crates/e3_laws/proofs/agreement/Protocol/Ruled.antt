-- The verdict over reports gives what the rules of attempts and decisions ask for.
use Rattle.std.proofs.Common.{◌≡◌, ◌⊎◌, inl, inr, ℕ, ◌<◌, ◌≤◌, ◌*◌, List, [], ◌∷◌, refl, sym, ap, subst, arith, true, false, Bool}
use Rattle.std.specs.Prelude.{◌==◌, ◌||◌, if◌then◌else◌, not, nat_le, max, fold, map}
use Rattle.std.specs.List.{list_all}
use Rattle.std.proofs.lemmas.Bool.{cases_lt, cond_both, eqb-true, eq-eqb, or_cases, or_parts, and_parts, and_cases, leb-false}
use Rattle.e3_types.specs.declared.transactions.Dir.TheVariants.{Abort, Commit}
use Rattle.e3_types.specs.declared.transactions.State.{State}
use Rattle.e3_types.specs.declared.transactions.State.TheVariants.{Q, W, Pc, Pa, C, A}
use Rattle.e3_types.specs.declared.verdicts.SiteReport.{SiteReport}
use Rattle.e3_types.specs.declared.verdicts.Verdict.{Verdict}
use Rattle.e3_types.specs.declared.verdicts.Verdict.TheVariants as verdict
use Rattle.e3_types.specs.Quorums.{weight_of}
use Rattle.e3_types.specs.Same.{same_state}
use Rattle.e3_types.specs.Verdicts.{reports_state, greatest_attempt, verdict_of}
use Rattle.e3_laws.specs.agreement.Logs.{IsIn}
use Rattle.e3_laws.specs.agreement.Rules.{Reply, AsksFor}
use Rattle.e3_laws.specs.agreement.Verdicts.{status_in, reply_of, TopAsks, HaveMost, Rules}

abbrev replies : List SiteReport → List Reply
replies rs = map reply_of rs

pub same_means : (st su : State) → same_state st su ≡ true → st ≡ su
same_means Q Q h = refl
same_means W W h = refl
same_means Pc Pc h = refl
same_means Pa Pa h = refl
same_means C C h = refl
same_means A A h = refl
same_means st su h = cc

-- a state that is reported is in a reply
reported_in : (st : State) (rs : List SiteReport) → reports_state st rs ≡ true → (r : Reply) × IsIn r (replies rs) × (r.stood ≡ status_in st)
reported_in st [] h = cc
reported_in st (r ∷ rs) h = elim (or_cases (same_state r.state st) (reports_state st rs) h) [
  | inl e ↦ (reply_of r, inl refl, ap status_in (same_means r.state st e))
  | inr k ↦ (let t = reported_in st rs k in (t.0, inr t.1, t.2))
]

-- the greatest attempt, from a number on
abbrev greatest_from : ℕ → List SiteReport → ℕ
greatest_from n rs = fold (λ m r. max m r.attempt) n rs

from_on : (n : ℕ) (rs : List SiteReport) → n ≤ greatest_from n rs
from_on n [] = omega arith
from_on n (r ∷ rs) = omega (arith, from_on (max n r.attempt) rs)

up_to : (n : ℕ) (rs : List SiteReport) (r : Reply) → IsIn r (replies rs) → r.tried ≤ greatest_from n rs
up_to n [] r m = absurd m
up_to n (q ∷ rs) r (inl p) = let e : r.tried ≡ q.attempt = ap (λ (z : Reply). z.tried) p in omega (arith, from_on (max n q.attempt) rs)
up_to n (q ∷ rs) r (inr m) = up_to (max n q.attempt) rs r m

-- the report is one of these, with this attempt
abbrev Tried : List SiteReport → ℕ → Type 0
Tried rs n = (r : SiteReport) × IsIn r rs × (r.attempt ≡ n)

reached : (n : ℕ) (rs : List SiteReport) → (greatest_from n rs ≡ n) ⊎ Tried rs (greatest_from n rs)
reached n [] = inl refl
reached n (q ∷ rs) = go (reached (max n q.attempt) rs) (cases_lt n q.attempt)
  where
    go : (greatest_from (max n q.attempt) rs ≡ max n q.attempt) ⊎ Tried rs (greatest_from (max n q.attempt) rs) → (n < q.attempt) ⊎ (q.attempt ≤ n)
        → (greatest_from (max n q.attempt) rs ≡ n) ⊎ Tried (q ∷ rs) (greatest_from (max n q.attempt) rs)
    go (inl e) (inl lt) = inr (q, inl refl, omega (arith, e))
    go (inl e) (inr le) = inl (omega (arith, e))
    go (inr t) k = inr (t.0, inr t.1, t.2)

-- some report has the greatest attempt, where there is a report
top_of : (first : SiteReport) (rs : List SiteReport) → Tried (first ∷ rs) (greatest_attempt (first ∷ rs))
top_of first rs = go (reached (max 0 first.attempt) rs)
  where
    go : (greatest_from (max 0 first.attempt) rs ≡ max 0 first.attempt) ⊎ Tried rs (greatest_from (max 0 first.attempt) rs) → Tried (first ∷ rs) (greatest_attempt (first ∷ rs))
    go (inl e) = (first, inl refl, omega (arith, e))
    go (inr t) = (t.0, inr t.1, t.2)

in_replies : (r : SiteReport) (rs : List SiteReport) → IsIn r rs → IsIn (reply_of r) (replies rs)
in_replies r [] m = absurd m
in_replies r (q ∷ rs) (inl e) = inl (ap reply_of e)
in_replies r (q ∷ rs) (inr m) = inr (in_replies r rs m)

-- the report does not speak against a commit: its attempt is not this one, or it is pre-committed
abbrev fits_commit : ℕ → SiteReport → Bool
fits_commit n r = not (r.attempt == n) || same_state r.state Pc

abbrev all_fit : ℕ → List SiteReport → Bool
all_fit n rs = list_all (λ r. not (r.attempt == n) || same_state r.state Pc) rs

all_mean : (n : ℕ) (rs : List SiteReport) → all_fit n rs ≡ true → (r : SiteReport) → IsIn r rs → fits_commit n r ≡ true
all_mean n [] h r m = absurd m
all_mean n (q ∷ rs) h r (inl p) = subst (λ (z : SiteReport). fits_commit n z ≡ true) (sym p) (and_parts (fits_commit n q) (all_fit n rs) h).0
all_mean n (q ∷ rs) h r (inr m) = all_mean n rs (and_parts (fits_commit n q) (all_fit n rs) h).1 r m

not_all : (n : ℕ) (rs : List SiteReport) → all_fit n rs ≡ false → (r : SiteReport) × IsIn r rs × (fits_commit n r ≡ false)
not_all n [] h = cc
not_all n (q ∷ rs) h = elim (and_cases (fits_commit n q) (all_fit n rs) h) [
  | inl e ↦ (q, inl refl, e)
  | inr e ↦ (let t = not_all n rs e in (t.0, inr t.1, t.2))
]

commit_asked : (n : ℕ) (r : SiteReport) → fits_commit n r ≡ true → r.attempt ≡ n → AsksFor (status_in r.state) Commit
commit_asked n r h e = go (r.attempt == n) (eq-eqb r.attempt n e) h
  where
    go : (b : Bool) → b ≡ true → (not b || same_state r.state Pc) ≡ true → AsksFor (status_in r.state) Commit
    go true p q = subst (λ (st : State). AsksFor (status_in st) Commit) (sym (same_means r.state Pc q)) refl
    go false p q = cc

-- a report that speaks against a commit has this attempt and is not pre-committed
against_it : (n : ℕ) (r : SiteReport) → fits_commit n r ≡ false → (r.attempt ≡ n) × (same_state r.state Pc ≡ false)
against_it n r h = go (r.attempt == n) refl (or_parts (not (r.attempt == n)) (same_state r.state Pc) h)
  where
    go : (b : Bool) → (r.attempt == n) ≡ b → (not b ≡ false) × (same_state r.state Pc ≡ false) → (r.attempt ≡ n) × (same_state r.state Pc ≡ false)
    go true e p = (eqb-true r.attempt n e, p.1)
    go false e p = let q = p.0 in cc

not_reported : (st : State) (rs : List SiteReport) → reports_state st rs ≡ false → (r : SiteReport) → IsIn r rs → same_state r.state st ≡ false
not_reported st [] h r m = absurd m
not_reported st (q ∷ rs) h r (inl p) = subst (λ (z : SiteReport). same_state z.state st ≡ false) (sym p) (or_parts (same_state q.state st) (reports_state st rs) h).0
not_reported st (q ∷ rs) h r (inr m) = not_reported st rs (or_parts (same_state q.state st) (reports_state st rs) h).1 r m

abort_asked : (st : State) → same_state st Pc ≡ false → same_state st A ≡ false → same_state st C ≡ false → AsksFor (status_in st) Abort
abort_asked Q p a c = refl
abort_asked W p a c = refl
abort_asked Pa p a c = refl
abort_asked Pc p a c = cc
abort_asked C p a c = cc
abort_asked A p a c = cc

pub verdicts_rule : (weights sites : List ℕ) (first : SiteReport) (others : List SiteReport) → Rules weights sites (first ∷ others) (verdict_of weights sites (first ∷ others))
verdicts_rule weights sites first others =
    cond_both (reports_state A rs) verdict.Abort else_committed (Rules weights sites rs)
    (λ e. reported_in A rs e)
    (λ a. cond_both (reports_state C rs) verdict.Commit else_blocked (Rules weights sites rs)
    (λ e. reported_in C rs e)
    (λ c. cond_both (nat_le (2 * have) total) (verdict.Block have total) else_prepared (Rules weights sites rs)
    (λ e. tt)
    (λ q. cond_both (all_fit (greatest_attempt rs) rs) verdict.PreCommit verdict.PreAbort (Rules weights sites rs) (λ e. (most q, tops e)) (λ e. (most q, top_aborts a c e)))))
  where
    rs : List SiteReport
    rs = first ∷ others

    have : ℕ
    have = weight_of weights (map (λ r. r.site) rs)

    total : ℕ
    total = weight_of weights sites

    else_prepared : Verdict
    else_prepared = if all_fit (greatest_attempt rs) rs then verdict.PreCommit else verdict.PreAbort

    else_blocked : Verdict
    else_blocked = if nat_le (2 * have) total then verdict.Block have total else else_prepared

    else_committed : Verdict
    else_committed = if reports_state C rs then verdict.Commit else else_blocked

    most : nat_le (2 * have) total ≡ false → HaveMost weights sites rs
    most q = leb-false (2 * have) total q

    tops : all_fit (greatest_attempt rs) rs ≡ true → TopAsks (replies rs) Commit
    tops e =
        let t = top_of first others in record {
          top = reply_of t.0;
          top_in = in_replies t.0 rs t.1;
          greatest = λ r m. subst (λ k. r.tried ≤ k) (sym t.2) (up_to 0 rs r m);
          asks = commit_asked (greatest_attempt rs) t.0 (all_mean (greatest_attempt rs) rs e t.0 t.1) t.2;
        }

    top_aborts : reports_state A rs ≡ false → reports_state C rs ≡ false → all_fit (greatest_attempt rs) rs ≡ false → TopAsks (replies rs) Abort
    top_aborts a c e =
        let t = not_all (greatest_attempt rs) rs e in
        let k = against_it (greatest_attempt rs) t.0 t.2 in record {
          top = reply_of t.0;
          top_in = in_replies t.0 rs t.1;
          greatest = λ r m. subst (λ n. r.tried ≤ n) (sym k.0) (up_to 0 rs r m);
          asks = abort_asked t.0.state k.1 (not_reported A rs a t.0 t.1) (not_reported C rs c t.0 t.1);
        }
