-- Facts of one log.
use Rattle.std.proofs.Common.{◌≡◌, inl, inr, ℕ, ◌<◌, ◌≤◌, List, [], ◌∷◌, refl, ap, ◌∙◌, subst, arith, cond, ltb, eqb, sym, ◌⊎◌}
use Rattle.std.specs.Prelude.{max}
use Rattle.std.proofs.lemmas.Bool.{cases_eq, cond-true, cond-false, cond_both, lt-ltb, le-ltb, ltb-true, eq-eqb, eqb-true, false_from_ne_true}
use Rattle.e3_types.specs.declared.transactions.Dir.{Dir}
use Rattle.e3_types.specs.declared.transactions.Dir.TheVariants.{Commit}
use Rattle.e3_laws.specs.agreement.Logs.{IsIn, Note, Vote, Join, Attempt, Decision, Status, Idle, Waiting, Prepared, Final, elected, attempt, below, status, before_join, Fits, Orderly, Backs}

pub elected_some : (l : List Note) → 1 ≤ elected l
elected_some [] = omega arith
elected_some (Join n e ∷ l) = let r = elected_some l in omega arith
elected_some (r ∷ l) = elected_some l

pub attempt-elected : (l : List Note) → Orderly l → attempt l ≤ elected l
attempt-elected [] o = omega arith
attempt-elected (Join n e ∷ l) o = let r = attempt-elected l o.1 in omega arith
attempt-elected (Attempt n d ∷ l) o = let r = attempt-elected l o.1 in omega (arith, o.0.current)
attempt-elected (r ∷ l) o = attempt-elected l o.1

pub join_bound : (n e : ℕ) (l : List Note) → IsIn (Join n e) l → n ≤ elected l
join_bound n e [] h = absurd h
join_bound n e (Join m f ∷ l) (inl p) = let q : n ≡ m = cc in omega arith
join_bound n e (Join m f ∷ l) (inr t) = let r = join_bound n e l t in omega arith
join_bound n e (r ∷ l) (inl p) = cc
join_bound n e (r ∷ l) (inr t) = join_bound n e l t

pub join_some : (n e : ℕ) (l : List Note) → Orderly l → IsIn (Join n e) l → 2 ≤ n
join_some n e [] o h = absurd h
join_some n e (Join m f ∷ l) o (inl p) = let q : n ≡ m = cc in omega (arith, elected_some l, o.0)
join_some n e (r ∷ l) o (inl p) = cc
join_some n e (r ∷ l) o (inr t) = join_some n e l o.1 t

pub attempt_bound : (n : ℕ) (d : Dir) (l : List Note) → IsIn (Attempt n d) l → n ≤ attempt l
attempt_bound n d [] h = absurd h
attempt_bound n d (Attempt m e ∷ l) (inl p) = let q : n ≡ m = cc in omega arith
attempt_bound n d (Attempt m e ∷ l) (inr t) = let r = attempt_bound n d l t in omega arith
attempt_bound n d (r ∷ l) (inl p) = cc
attempt_bound n d (r ∷ l) (inr t) = attempt_bound n d l t

pub attempt_some : (n : ℕ) (d : Dir) (l : List Note) → Orderly l → IsIn (Attempt n d) l → 1 ≤ n
attempt_some n d [] o h = absurd h
attempt_some n d (Attempt m e ∷ l) o (inl p) = let q : n ≡ m = cc in omega (arith, elected_some l, o.0.current)
attempt_some n d (r ∷ l) o (inl p) = cc
attempt_some n d (r ∷ l) o (inr t) = attempt_some n d l o.1 t

pub first_commits : (d : Dir) (l : List Note) → Orderly l → IsIn (Attempt 1 d) l → d ≡ Commit
first_commits d [] o h = absurd h
first_commits d (Attempt m e ∷ l) o (inl p) = let q : d ≡ e = cc in let one : m ≡ 1 = cc in q ∙ o.0.first_commits one
first_commits d (r ∷ l) o (inl p) = cc
first_commits d (r ∷ l) o (inr t) = first_commits d l o.1 t

-- one leader a number in one log
pub same_leader : (n e f : ℕ) (l : List Note) → Orderly l → IsIn (Join n e) l → IsIn (Join n f) l → e ≡ f
same_leader n e f [] o h k = absurd h
same_leader n e f (Join m x ∷ l) o (inl p) (inl q) = cc
same_leader n e f (Join m x ∷ l) o (inl p) (inr k) = let s : n ≡ m = cc in absurd (omega (arith, o.0, join_bound n f l k))
same_leader n e f (Join m x ∷ l) o (inr h) (inl q) = let s : n ≡ m = cc in absurd (omega (arith, o.0, join_bound n e l h))
same_leader n e f (r ∷ l) o (inl p) k = cc
same_leader n e f (r ∷ l) o (inr h) (inl q) = cc
same_leader n e f (r ∷ l) o (inr h) (inr k) = same_leader n e f l o.1 h k

-- one direction a number in one log
pub same_direction : (n : ℕ) (d e : Dir) (l : List Note) → Orderly l → IsIn (Attempt n d) l → IsIn (Attempt n e) l → d ≡ e
same_direction n d e [] o h k = absurd h
same_direction n d e (Attempt m x ∷ l) o (inl p) (inl q) = cc
same_direction n d e (Attempt m x ∷ l) o (inl p) (inr k) = let s : n ≡ m = cc in absurd (omega (arith, o.0.fresh, attempt_bound n e l k))
same_direction n d e (Attempt m x ∷ l) o (inr h) (inl q) = let s : n ≡ m = cc in absurd (omega (arith, o.0.fresh, attempt_bound n d l h))
same_direction n d e (r ∷ l) o (inl p) k = cc
same_direction n d e (r ∷ l) o (inr h) (inl q) = cc
same_direction n d e (r ∷ l) o (inr h) (inr k) = same_direction n d e l o.1 h k

below_at : (m n b : ℕ) → m < n → cond (ltb m n) (max m b) b ≡ max m b
below_at m n b h = cond-true (ltb m n) (max m b) b (lt-ltb m n h)

below_past : (m n b : ℕ) → n ≤ m → cond (ltb m n) (max m b) b ≡ b
below_past m n b h = cond-false (ltb m n) (max m b) b (le-ltb m n h)

below_either : (m n b : ℕ) → (b ≤ cond (ltb m n) (max m b) b) × (b < n → cond (ltb m n) (max m b) b < n)
below_either m n b = cond_both (ltb m n) (max m b) b (λ v. (b ≤ v) × (b < n → v < n)) (λ e. (omega arith, λ h. omega (arith, ltb-true m n e))) (λ e. (omega arith, λ h. h))

pub below_reaches : (n m : ℕ) (d : Dir) (l : List Note) → IsIn (Attempt n d) l → n < m → n ≤ below l m
below_reaches n m d [] h lt = absurd h
below_reaches n m d (Attempt k e ∷ l) (inl p) lt = let q : n ≡ k = cc in let b = below_at k m (below l m) (omega arith) in omega arith
below_reaches n m d (Attempt k e ∷ l) (inr t) lt = let r = below_reaches n m d l t lt in let b = (below_either k m (below l m)).0 in omega arith
below_reaches n m d (r ∷ l) (inl p) lt = cc
below_reaches n m d (r ∷ l) (inr t) lt = below_reaches n m d l t lt

pub below_less : (m : ℕ) (l : List Note) → 1 ≤ m → below l m < m
below_less m [] h = h
below_less m (Attempt k e ∷ l) h = (below_either k m (below l m)).1 (below_less m l h)
below_less m (r ∷ l) h = below_less m l h

pub below-attempt : (n : ℕ) (l : List Note) → attempt l < n → below l n ≡ attempt l
below-attempt n [] h = refl
below-attempt n (Attempt k e ∷ l) h = let r = below-attempt n l (omega arith) in let b = below_at k n (below l n) (omega arith) in omega arith
below-attempt n (r ∷ l) h = below-attempt n l h

-- what was tried below a number that was joined stays
pub below_stays : (n e : ℕ) (r : Note) (l : List Note) → Fits r l → IsIn (Join n e) l → below (r ∷ l) n ≡ below l n
below_stays n e (Attempt m d) l f h = below_past m n (below l n) (omega (arith, f.current, join_bound n e l h))
below_stays n e r l f h = refl

pub final_is : (d : Dir) (l : List Note) → Orderly l → IsIn (Decision d) l → status l ≡ Final d
final_is d [] o h = absurd h
final_is d (Vote ∷ l) o (inr t) = absurd (subst (λ z. IsIn (Decision d) z) o.0 t)
final_is d (Join n e ∷ l) o (inr t) = final_is d l o.1 t
final_is d (Attempt n e ∷ l) o (inr t) = absurd (o.0.open_yet d (final_is d l o.1 t))
final_is d (Decision e ∷ l) o (inl p) = cc
final_is d (Decision e ∷ l) o (inr t) = absurd (o.0.open_yet d (final_is d l o.1 t))
final_is d (r ∷ l) o (inl p) = cc

pub idle_unvoted : (l : List Note) → status l ≡ Idle → IsIn Vote l → ⊥
idle_unvoted [] s h = h
idle_unvoted (Join n e ∷ l) s (inl p) = cc
idle_unvoted (Join n e ∷ l) s (inr t) = idle_unvoted l s t
idle_unvoted (r ∷ l) s h = cc

-- who stands in q and has elected 1 has no record
pub blank : (l : List Note) → Orderly l → status l ≡ Idle → elected l ≡ 1 → l ≡ []
blank [] o s e = refl
blank (Join n x ∷ l) o s e = absurd (omega (arith, o.0, elected_some l))
blank (r ∷ l) o s e = cc

pub backs-more : (st : Status) (a : ℕ) (r : Note) (l : List Note) → Backs st a l → Backs st a (r ∷ l)
backs-more Idle a r l b = b
backs-more Waiting a r l b = (b.0, inr b.1)
backs-more (Prepared d) a r l b = (b.0, inr b.1)
backs-more (Final d) a r l b = inr b

pub backs_now : (l : List Note) → Orderly l → Backs (status l) (attempt l) l
backs_now [] o = refl
backs_now (Vote ∷ l) o = (ap attempt o.0, inl refl)
backs_now (Join n e ∷ l) o = backs-more (status l) (attempt l) (Join n e) l (backs_now l o.1)
backs_now (Attempt n d ∷ l) o =
    let now : max n (attempt l) ≡ n = omega (arith, o.0.fresh) in
    (omega (arith, o.0.fresh), inl (ap (λ k. Attempt k d) now))
backs_now (Decision d ∷ l) o = inl refl

-- the last attempt has a direction
pub attempted : (l : List Note) → Orderly l → 1 ≤ attempt l → (d : Dir) × IsIn (Attempt (attempt l) d) l
attempted [] o h = absurd (omega arith)
attempted (Attempt n d ∷ l) o h = (d, let now : max n (attempt l) ≡ n = omega (arith, o.0.fresh) in inl (ap (λ k. Attempt k d) now))
attempted (r ∷ l) o h = let t = attempted l o.1 h in (t.0, inr t.1)

-- what was tried below the number of a join is what was tried before it
pub before_join_below : (n e : ℕ) (l : List Note) → Orderly l → IsIn (Join n e) l → below l n ≡ attempt (before_join n l)
before_join_below n e [] o h = absurd h
before_join_below n e (Vote ∷ l) o (inl p) = cc
before_join_below n e (Vote ∷ l) o (inr h) = before_join_below n e l o.1 h
before_join_below n e (Decision d ∷ l) o (inl p) = cc
before_join_below n e (Decision d ∷ l) o (inr h) = before_join_below n e l o.1 h
before_join_below n e (Attempt m d ∷ l) o (inl p) = cc
before_join_below n e (Attempt m d ∷ l) o (inr h) =
    below_past m n (below l n) (omega (arith, o.0.current, join_bound n e l h)) ∙ before_join_below n e l o.1 h
before_join_below n e (Join m f ∷ l) o h = go (λ k. before_join_below n e l o.1 k) (cases_eq m n) h
  where
    low : m ≡ n → below l n ≡ attempt l
    low same = below-attempt n l (omega (arith, o.0, attempt-elected l o.1))

    go : (IsIn (Join n e) l → below l n ≡ attempt (before_join n l)) → (m ≡ n) ⊎ (m ≡ n → ⊥) → (Join n e ≡ Join m f) ⊎ IsIn (Join n e) l → below l n ≡ attempt (cond (eqb m n) l (before_join n l))
    go rest (inl same) k = low same ∙ sym (ap attempt (cond-true (eqb m n) l (before_join n l) (eq-eqb m n same)))
    go rest (inr other) (inl p) = absurd (other (let q : m ≡ n = cc in q))
    go rest (inr other) (inr k) = rest k ∙ sym (ap attempt (cond-false (eqb m n) l (before_join n l) (false_from_ne_true (eqb m n) (λ q. other (eqb-true m n q)))))

-- how a site stood before a join is backed by its log
pub before_join_backs : (n : ℕ) (l : List Note) → Orderly l → Backs (status (before_join n l)) (attempt (before_join n l)) l
before_join_backs n [] o = refl
before_join_backs n (Join m f ∷ l) o = cond_both (eqb m n) l (before_join n l) (λ (z : List Note). Backs (status z) (attempt z) (Join m f ∷ l))
    (λ q. backs-more (status l) (attempt l) (Join m f) l (backs_now l o.1))
    (λ q. backs-more (status (before_join n l)) (attempt (before_join n l)) (Join m f) l (before_join_backs n l o.1))
before_join_backs n (r ∷ l) o = backs-more (status (before_join n l)) (attempt (before_join n l)) r l (before_join_backs n l o.1)

-- a decision ends votes and attempts
pub no_vote_stays : (d : Dir) (r : Note) (l : List Note) → Fits r l → IsIn (Decision d) l → (IsIn Vote l → ⊥) → IsIn Vote (r ∷ l) → ⊥
no_vote_stays d Vote l f h unvoted v = subst (λ z. IsIn (Decision d) z) f h
no_vote_stays d r l f h unvoted (inl p) = cc
no_vote_stays d r l f h unvoted (inr t) = unvoted t

pub no_attempt_stays : (d : Dir) (r : Note) (l : List Note) → Orderly l → Fits r l → IsIn (Decision d) l → attempt l ≡ 0 → attempt (r ∷ l) ≡ 0
no_attempt_stays d (Attempt n e) l o f h none = absurd (f.open_yet d (final_is d l o h))
no_attempt_stays d r l o f h none = none
