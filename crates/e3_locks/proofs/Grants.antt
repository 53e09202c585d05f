-- The lock rule, computed over the holders and then over the waiters.
use Rattle.std.specs.Prelude.{◌≡◌, ◌||◌, ◌++◌, ◌∷◌, [], if◌then◌else◌, Bool, true, false, not, List, fold, Some, None}
use Rattle.std.proofs.Common.{refl, arith, ◌∙◌, sym}
use Rattle.std.proofs.lemmas.Grind.{common_steps}
use Rattle.std.proofs.lemmas.List.Elements.{filter-append}
use Rattle.std.proofs.lemmas.List.Sums.{fold-append}
use Rattle.std.specs.List.{list_all}
use Rattle.e3_types.specs.declared.locks.Grant.TheVariants.{Held, Waits, Dies}
use Rattle.e3_types.specs.declared.locks.Lock.{Lock}
use Rattle.e3_types.specs.declared.transactions.Txn.{Txn}
use Rattle.e3_types.specs.Same.{is_older, oldest}
use Rattle.e3_types.specs.Locks.{opposes, against, grant_against}
use Rattle.e3_locks.specs.OldestSoFar.{oldest_so_far}

pub against_append : (wanted : Lock) (xs ys : List Lock) → against wanted (xs ++ ys) ≡ against wanted xs ++ against wanted ys
against_append wanted xs ys = grind (arith, common_steps, filter-append (opposes wanted) xs ys)

oldest_from : (u : Txn) (us : List Txn) → fold oldest_so_far (Some u) us ≡ Some (oldest u us)
oldest_from u [] = refl
oldest_from u (t ∷ us) = oldest_from (if is_older t u then t else u) us

fold_against : (wanted : Lock) (xs ys : List Lock)
    → fold oldest_so_far (fold oldest_so_far None (against wanted xs)) (against wanted ys) ≡ fold oldest_so_far None (against wanted (xs ++ ys))
fold_against wanted xs ys = rw against_append (sym (fold-append oldest_so_far None (against wanted xs) (against wanted ys)))

-- where nobody was found, nobody is in the way
found_none : (t : Txn) (us : List Txn) → fold oldest_so_far None us ≡ None → grant_against t us ≡ Held
found_none t [] e = refl
found_none t (u ∷ us) e = let s = oldest_from u us in cc

-- where one was found and all are younger, the request waits
found_younger : (t : Txn) (us : List Txn) (u : Txn) → fold oldest_so_far None us ≡ Some u → list_all (is_older t) us ≡ true → grant_against t us ≡ Waits
found_younger t [] u e all = cc
found_younger t (v ∷ us) u e all = rw all refl

-- where not all are younger, the request dies for the oldest
found_older : (t : Txn) (us : List Txn) (u : Txn) → fold oldest_so_far None us ≡ Some u → list_all (is_older t) us ≡ false → grant_against t us ≡ Dies u
found_older t [] u e all = cc
found_older t (v ∷ us) u e all = let s : oldest v us ≡ u = (let o = oldest_from v us in cc) in rw (all, s) refl

all_opposing : (wanted : Lock) (locks : List Lock)
    → list_all (λ l. not (opposes wanted l) || is_older wanted.txn l.txn) locks ≡ list_all (is_older wanted.txn) (against wanted locks)
all_opposing wanted [] = refl
all_opposing wanted (l ∷ locks) = let ih = all_opposing wanted locks in by (opposes wanted l) refl ih
  where
    by : (b : Bool) → opposes wanted l ≡ b
        → list_all (λ l. not (opposes wanted l) || is_older wanted.txn l.txn) locks ≡ list_all (is_older wanted.txn) (against wanted locks)
        → list_all (λ l. not (opposes wanted l) || is_older wanted.txn l.txn) (l ∷ locks) ≡ list_all (is_older wanted.txn) (against wanted (l ∷ locks))
    by true e ih = rw (e, ih) refl
    by false e ih = rw (e, ih) refl

-- nobody conflicts among the holders and the waiters
pub grant_held : (wanted : Lock) (hs ws : List Lock)
    → fold oldest_so_far (fold oldest_so_far None (against wanted hs)) (against wanted ws) ≡ None
    → grant_against wanted.txn (against wanted (hs ++ ws)) ≡ Held
grant_held wanted hs ws e = found_none wanted.txn (against wanted (hs ++ ws)) (sym (fold_against wanted hs ws) ∙ e)

-- all who conflict are younger
pub grant_waits : (wanted : Lock) (hs ws : List Lock) (u : Txn)
    → fold oldest_so_far (fold oldest_so_far None (against wanted hs)) (against wanted ws) ≡ Some u
    → list_all (λ l. not (opposes wanted l) || is_older wanted.txn l.txn) (hs ++ ws) ≡ true
    → grant_against wanted.txn (against wanted (hs ++ ws)) ≡ Waits
grant_waits wanted hs ws u e all =
    found_younger wanted.txn (against wanted (hs ++ ws)) u (sym (fold_against wanted hs ws) ∙ e) (sym (all_opposing wanted (hs ++ ws)) ∙ all)

-- one who conflicts is not younger
pub grant_dies : (wanted : Lock) (hs ws : List Lock) (u : Txn)
    → fold oldest_so_far (fold oldest_so_far None (against wanted hs)) (against wanted ws) ≡ Some u
    → list_all (λ l. not (opposes wanted l) || is_older wanted.txn l.txn) (hs ++ ws) ≡ false
    → grant_against wanted.txn (against wanted (hs ++ ws)) ≡ Dies u
grant_dies wanted hs ws u e all =
    found_older wanted.txn (against wanted (hs ++ ws)) u (sym (fold_against wanted hs ws) ∙ e) (sym (all_opposing wanted (hs ++ ws)) ∙ all)
