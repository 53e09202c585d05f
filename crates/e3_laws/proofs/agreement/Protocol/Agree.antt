-- What follows from the invariant at one state.
use Rattle.std.proofs.Common.{◌≡◌, ◌⊎◌, inl, inr, ℕ, zero, suc, ◌<◌, ◌≤◌, refl, sym, ◌∙◌, subst, arith}
use Rattle.std.proofs.lemmas.Bool.{cases_order, cases_lt}
use Rattle.e3_types.specs.declared.transactions.Dir.{Dir}
use Rattle.e3_types.specs.declared.transactions.Dir.TheVariants.{Abort, Commit}
use Rattle.e3_laws.specs.agreement.Logs.{IsIn, Attempt, Decision, below}
use Rattle.e3_laws.specs.agreement.Rules.{Party, Situation}
use Rattle.e3_laws.specs.agreement.Invariant.{Invariant, Support, Somewhere, Majority, Voted, Reason, ByMajority, ByRefusal, ByCallingOff}
use Rattle.e3_laws.proofs.agreement.Protocol.Logs.{attempt_some, first_commits, same_leader, same_direction, below_reaches, attempt_bound}

-- two attempts of one number that a quorum supports have one direction
same_support : (g : Party) (s : Situation) → Invariant g s → (n : ℕ) (d e : Dir) → Support g s n d → Support g s n e → d ≡ e
same_support g s i n d e a b =
    let m = i.shared a.group b.group a.enough b.enough in
    let same : a.leader ≡ b.leader = same_leader n a.leader b.leader (s.log m.0) (i.orderly m.0) (a.joined m.0 m.1) (b.joined m.0 m.2) in
    same_direction n d e (s.log b.leader) (i.orderly b.leader) (subst (λ x. IsIn (Attempt n d) (s.log x)) same a.led) b.led

-- one direction a number
pub one_direction : (g : Party) (s : Situation) → Invariant g s → (x y n : ℕ) (d e : Dir) → IsIn (Attempt n d) (s.log x) → IsIn (Attempt n e) (s.log y) → d ≡ e
one_direction g s i x y n d e h k = go (cases_lt n 2)
  where
    go : (n < 2) ⊎ (2 ≤ n) → d ≡ e
    go (inl lt) =
        let some = attempt_some n d (s.log x) (i.orderly x) h in
        let one : n ≡ 1 = omega arith in
        first_commits d (s.log x) (i.orderly x) (subst (λ m. IsIn (Attempt m d) (s.log x)) one h) ∙ sym (first_commits e (s.log y) (i.orderly y) (subst (λ m. IsIn (Attempt m e) (s.log y)) one k))
    go (inr le) = same_support g s i n d e (i.support x n d le h) (i.support y n e le k)

-- what a quorum attempted binds each later number
binds_to : (bound : ℕ) (g : Party) (s : Situation) → Invariant g s → (n m x : ℕ) (d e : Dir) → Majority g s n d → m ≤ bound → n < m → IsIn (Attempt m e) (s.log x) → e ≡ d
binds_to zero g s i n m x d e q le lt h = absurd (omega arith)
binds_to (suc bound) g s i n m x d e q le lt h =
    let some_in = i.shared q.group q.group q.enough q.enough in
    let one = attempt_some n d (s.log some_in.0) (i.orderly some_in.0) (q.all some_in.0 some_in.1) in
    let a : Support g s m e = i.support x m e (omega arith) h in
    let y = i.shared q.group a.group q.enough a.enough in
    let up : n ≤ below (s.log y.0) m = below_reaches n m d (s.log y.0) (q.all y.0 y.1) lt in
    let reach : n ≤ a.top = omega (arith, a.greatest y.0 y.2) in
    go a one reach y.0 (q.all y.0 y.1) (λ k z before after f. binds_to bound g s i n k z d e q before after f)
  where
    go : (a : Support g s m e) → 1 ≤ n → n ≤ a.top → (y : ℕ) → IsIn (Attempt n d) (s.log y) → ((k z : ℕ) → k ≤ bound → n < k → IsIn (Attempt k e) (s.log z) → e ≡ d) → e ≡ d
    go a one reach y own ih = top_is a.follows
      where
        top_is : ((a.top ≡ 0) × (e ≡ Abort)) ⊎ Somewhere s a.top e → e ≡ d
        top_is (inl z) = absurd (omega arith)
        top_is (inr w) = next (cases_order n a.top)
          where
            next : (n ≡ a.top) ⊎ ((n < a.top) ⊎ (a.top < n)) → e ≡ d
            next (inl same) = one_direction g s i w.0 y n e d (subst (λ k. IsIn (Attempt k e) (s.log w.0)) (sym same) w.1) own
            next (inr (inl less)) = ih a.top w.0 (omega (arith, a.top_below)) less w.1
            next (inr (inr more)) = absurd (omega arith)

pub binds : (g : Party) (s : Situation) → Invariant g s → (n m x : ℕ) (d e : Dir) → Majority g s n d → n < m → IsIn (Attempt m e) (s.log x) → e ≡ d
binds g s i n m x d e q lt h = binds_to m g s i n m x d e q (omega arith) lt h

-- a site of a quorum, with its attempt
pub one_of : (g : Party) (s : Situation) → Invariant g s → (n : ℕ) (d : Dir) → Majority g s n d → Somewhere s n d
one_of g s i n d q = let y = i.shared q.group q.group q.enough q.enough in (y.0, q.all y.0 y.1)

-- two quorums have one direction
pub same_majority : (g : Party) (s : Situation) → Invariant g s → (n m : ℕ) (d e : Dir) → Majority g s n d → Majority g s m e → d ≡ e
same_majority g s i n m d e a b = go (cases_order n m) (one_of g s i n d a) (one_of g s i m e b)
  where
    go : (n ≡ m) ⊎ ((n < m) ⊎ (m < n)) → Somewhere s n d → Somewhere s m e → d ≡ e
    go (inl same) u v = one_direction g s i u.0 v.0 m d e (subst (λ k. IsIn (Attempt k d) (s.log u.0)) same u.1) v.1
    go (inr (inl lt)) u v = sym (binds g s i n m v.0 d e a lt v.1)
    go (inr (inr lt)) u v = binds g s i m n u.0 e d b lt u.1

-- a commit has every vote behind it
pub all_voted : (g : Party) (s : Situation) → Invariant g s → Reason g s Commit → Voted g s
all_voted g s i (ByMajority n q) = let w = one_of g s i n Commit q in i.voted w.0 n w.1
all_voted g s i (ByRefusal e y m h v) = cc
all_voted g s i (ByCallingOff e h a) = cc

-- what reasons agree on
commit_and : (g : Party) (s : Situation) → Invariant g s → (e : Dir) → Reason g s Commit → Reason g s e → Commit ≡ e
commit_and g s i e (ByMajority n a) (ByMajority m b) = same_majority g s i n m Commit e a b
commit_and g s i e (ByMajority n a) (ByRefusal p y m h v) = absurd (v ((all_voted g s i (ByMajority n a)).0 y m))
commit_and g s i e (ByMajority n a) (ByCallingOff p h z) = absurd (omega (arith, attempt_bound 1 Commit (s.log g.coordinator) (all_voted g s i (ByMajority n a)).1))
commit_and g s i e (ByRefusal p y m h v) r = cc
commit_and g s i e (ByCallingOff p h z) r = cc

pub agrees : (g : Party) (s : Situation) → Invariant g s → (x y : ℕ) (d e : Dir) → IsIn (Decision d) (s.log x) → IsIn (Decision e) (s.log y) → d ≡ e
agrees g s i x y Commit e h k = commit_and g s i e (i.reason x Commit h) (i.reason y e k)
agrees g s i x y Abort Commit h k = sym (commit_and g s i Abort (i.reason y Commit k) (i.reason x Abort h))
agrees g s i x y Abort Abort h k = refl
