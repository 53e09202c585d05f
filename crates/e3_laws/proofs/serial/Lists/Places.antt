-- What the words on records read, by places.
use Rattle.std.proofs.Common.{◌≡◌, inl, inr, ℕ, zero, suc, ◌<◌, Bool, true, false, cond, ◌&&◌, ◌||◌, ◌==◌, List, [], ◌∷◌, ◌++◌, refl, sym, ap, ◌∙◌, subst, arith}
use Rattle.std.proofs.lemmas.Bool.{true≢false, eqb-true, eq-eqb, and_parts, and_from}
use Rattle.e3_types.specs.declared.transactions.Txn.{Txn}
use Rattle.e3_laws.proofs.serial.Lists.Entries.{Name, same}
use Rattle.e3_laws.proofs.serial.Lists.Names.{same-true, eq-same}
use Rattle.e3_laws.proofs.serial.Lists.Entries.{In, At, Sorted}
use Rattle.e3_laws.proofs.serial.Lists.Entries.{Entry, Vote, Decide, Other, through, writes}
use Rattle.e3_types.specs.declared.transactions.Answer.{Answer}
use Rattle.e3_types.specs.declared.transactions.NumOp.{NumOp}
use Rattle.e3_laws.proofs.serial.Lists.Entries.{commits, committed, has_vote, voters, vote_ops, after, AllRows, run, replay, Behind, writers}
use Rattle.e3_laws.proofs.serial.Lists.Members.{sorted_change, at_same}
use Rattle.e3_laws.proofs.serial.Lists.Values.{untouched}

pub record VoteOf (all : List Entry) (t : Txn) : Type 0 where
  pub place : ℕ
  pub site : ℕ
  pub ops : List NumOp
  pub vote : At all place (Vote site t ops)

pub later_vote : (e : Entry) {all : List Entry} {t : Txn} → VoteOf all t → VoteOf (e ∷ all) t
later_vote e v = record { place = suc v.place; site = v.site; ops = v.ops; vote = v.vote }

pub at_has_vote : (all : List Entry) (i s : ℕ) (t : Txn) (ds : List NumOp) → At all i (Vote s t ds) → has_vote t all ≡ true
at_has_vote [] i s t ds h = absurd h
at_has_vote (Other ∷ rest) zero s t ds h = absurd (cc)
at_has_vote (Other ∷ rest) (suc i) s t ds h = at_has_vote rest i s t ds h
at_has_vote (Vote y u es ∷ rest) zero s t ds h = let q : u ≡ t = cc in subst (λ b. (b || has_vote t rest) ≡ true) (sym (eq-same u t q)) refl
at_has_vote (Vote y u es ∷ rest) (suc i) s t ds h = go (same u t) (at_has_vote rest i s t ds h)
  where
    go : (b : Bool) → has_vote t rest ≡ true → (b || has_vote t rest) ≡ true
    go true e = refl
    go false e = e
at_has_vote (Decide y u c ∷ rest) zero s t ds h = absurd (cc)
at_has_vote (Decide y u c ∷ rest) (suc i) s t ds h = at_has_vote rest i s t ds h

pub has_vote_of : (all : List Entry) (t : Txn) → has_vote t all ≡ true → VoteOf all t
has_vote_of [] t h = absurd (true≢false (sym h))
has_vote_of (Other ∷ rest) t h = later_vote Other (has_vote_of rest t h)
has_vote_of (Vote y u es ∷ rest) t h = go (same u t) refl h (has_vote_of rest t)
  where
    go : (b : Bool) → same u t ≡ b → (b || has_vote t rest) ≡ true → (has_vote t rest ≡ true → VoteOf rest t) → VoteOf (Vote y u es ∷ rest) t
    go true e k ih = record { place = 0; site = y; ops = es; vote = ap (λ z. Vote y z es) (same-true u t e) }
    go false e k ih = later_vote (Vote y u es) (ih k)
has_vote_of (Decide y u c ∷ rest) t h = later_vote (Decide y u c) (has_vote_of rest t h)

pub voters_of : (all : List Entry) (t : Txn) → In t (voters all) → VoteOf all t
voters_of [] t h = absurd h
voters_of (Other ∷ rest) t h = later_vote Other (voters_of rest t h)
voters_of (Vote y u es ∷ rest) t h = go (has_vote u rest) h (voters_of rest t)
  where
    go : (b : Bool) → In t (cond b (voters rest) (u ∷ voters rest)) → (In t (voters rest) → VoteOf rest t) → VoteOf (Vote y u es ∷ rest) t
    go true k ih = later_vote (Vote y u es) (ih k)
    go false (inl q) ih = record { place = 0; site = y; ops = es; vote = ap (λ z. Vote y z es) q }
    go false (inr k) ih = later_vote (Vote y u es) (ih k)
voters_of (Decide y u c ∷ rest) t h = later_vote (Decide y u c) (voters_of rest t h)

pub in_voters : (all : List Entry) (t : Txn) → has_vote t all ≡ true → In t (voters all)
in_voters [] t h = absurd (true≢false (sym h))
in_voters (Other ∷ rest) t h = in_voters rest t h
in_voters (Vote y u es ∷ rest) t h = go (has_vote u rest) refl (same u t) refl h (in_voters rest t)
  where
    go : (b : Bool) → has_vote u rest ≡ b → (c : Bool) → same u t ≡ c → (c || has_vote t rest) ≡ true → (has_vote t rest ≡ true → In t (voters rest)) → In t (cond b (voters rest) (u ∷ voters rest))
    go true e true f k ih = ih (subst (λ z. has_vote z rest ≡ true) (same-true u t f) e)
    go true e false f k ih = ih k
    go false e true f k ih = inl (same-true u t f)
    go false e false f k ih = inr (ih k)
in_voters (Decide y u c ∷ rest) t h = in_voters rest t h

pub later_behind : (e : Entry) (rest : List Entry) (t u : Txn) → Behind rest t u → Behind (e ∷ rest) t u
later_behind e rest t u b = record { place = suc b.place; site = b.site; ops = b.ops; vote = b.vote; behind = go }
  where
    go : (i y : ℕ) (ds : List NumOp) → At (e ∷ rest) i (Vote y t ds) → i < suc b.place
    go zero y ds h = omega arith
    go (suc i) y ds h = let l = b.behind i y ds h in omega arith

pub voters_sorted : (all : List Entry) → Sorted (Behind all) (voters all)
voters_sorted [] = tt
voters_sorted (Other ∷ rest) = sorted_change (Behind rest) (Behind (Other ∷ rest)) (voters rest) (λ a b i j r. later_behind Other rest a b r) (voters_sorted rest)
voters_sorted (Vote y t es ∷ rest) = go (has_vote t rest) refl (sorted_change (Behind rest) (Behind (Vote y t es ∷ rest)) (voters rest) (λ a b i j r. later_behind (Vote y t es) rest a b r) (voters_sorted rest))
  where
    only : has_vote t rest ≡ false → (p : ℕ) (i z : ℕ) (ds : List NumOp) → At (Vote y t es ∷ rest) i (Vote z t ds) → i < suc p
    only e p zero z ds h = omega arith
    only e p (suc i) z ds h = absurd (true≢false (sym (at_has_vote rest i z t ds h) ∙ e))

    behind_first : has_vote t rest ≡ false → (u : Txn) → VoteOf rest u → Behind (Vote y t es ∷ rest) t u
    behind_first e u v = record { place = suc v.place; site = v.site; ops = v.ops; vote = v.vote; behind = only e v.place }

    go : (b : Bool) → has_vote t rest ≡ b → Sorted (Behind (Vote y t es ∷ rest)) (voters rest) → Sorted (Behind (Vote y t es ∷ rest)) (cond b (voters rest) (t ∷ voters rest))
    go true e ih = ih
    go false e ih = (λ u k. behind_first e u (voters_of rest u k), ih)
voters_sorted (Decide y t c ∷ rest) = sorted_change (Behind rest) (Behind (Decide y t c ∷ rest)) (voters rest) (λ a b i j r. later_behind (Decide y t c) rest a b r) (voters_sorted rest)

-- commits
pub record CommitOf (all : List Entry) (t : Txn) : Type 0 where
  pub place : ℕ
  pub site : ℕ
  pub commit : At all place (Decide site t true)

pub later_commit : (e : Entry) {all : List Entry} {t : Txn} → CommitOf all t → CommitOf (e ∷ all) t
later_commit e v = record { place = suc v.place; site = v.site; commit = v.commit }

pub committed_of : (all : List Entry) (t : Txn) → committed t all ≡ true → CommitOf all t
committed_of [] t h = absurd (true≢false (sym h))
committed_of (Other ∷ rest) t h = later_commit Other (committed_of rest t h)
committed_of (Vote y u es ∷ rest) t h = later_commit (Vote y u es) (committed_of rest t h)
committed_of (Decide y u false ∷ rest) t h = later_commit (Decide y u false) (committed_of rest t h)
committed_of (Decide y u true ∷ rest) t h = go (same u t) refl h (committed_of rest t)
  where
    go : (b : Bool) → same u t ≡ b → (b || committed t rest) ≡ true → (committed t rest ≡ true → CommitOf rest t) → CommitOf (Decide y u true ∷ rest) t
    go true e k ih = record { place = 0; site = y; commit = ap (λ z. Decide y z true) (same-true u t e) }
    go false e k ih = later_commit (Decide y u true) (ih k)

pub at_committed : (all : List Entry) (i s : ℕ) (t : Txn) → At all i (Decide s t true) → committed t all ≡ true
at_committed [] i s t h = absurd h
at_committed (Other ∷ rest) zero s t h = absurd (cc)
at_committed (Other ∷ rest) (suc i) s t h = at_committed rest i s t h
at_committed (Vote y u es ∷ rest) zero s t h = absurd (cc)
at_committed (Vote y u es ∷ rest) (suc i) s t h = at_committed rest i s t h
at_committed (Decide y u false ∷ rest) zero s t h = absurd (let q : false ≡ true = cc in true≢false (sym q))
at_committed (Decide y u false ∷ rest) (suc i) s t h = at_committed rest i s t h
at_committed (Decide y u true ∷ rest) zero s t h = let q : u ≡ t = cc in subst (λ b. (b || committed t rest) ≡ true) (sym (eq-same u t q)) refl
at_committed (Decide y u true ∷ rest) (suc i) s t h = go (same u t) (at_committed rest i s t h)
  where
    go : (b : Bool) → committed t rest ≡ true → (b || committed t rest) ≡ true
    go true e = refl
    go false e = e

pub at_commits : (all : List Entry) (i s : ℕ) (t : Txn) → At all i (Decide s t true) → In t (commits s all)
at_commits [] i s t h = absurd h
at_commits (Other ∷ rest) zero s t h = absurd (cc)
at_commits (Other ∷ rest) (suc i) s t h = at_commits rest i s t h
at_commits (Vote y u es ∷ rest) zero s t h = absurd (cc)
at_commits (Vote y u es ∷ rest) (suc i) s t h = at_commits rest i s t h
at_commits (Decide y u false ∷ rest) zero s t h = absurd (let q : false ≡ true = cc in true≢false (sym q))
at_commits (Decide y u false ∷ rest) (suc i) s t h = at_commits rest i s t h
at_commits (Decide y u true ∷ rest) zero s t h = let q : u ≡ t = cc in let p : y ≡ s = cc in subst (λ b. In t (cond b (u ∷ commits s rest) (commits s rest))) (sym (eq-eqb y s p)) (inl q)
at_commits (Decide y u true ∷ rest) (suc i) s t h = go (y == s) (at_commits rest i s t h)
  where
    go : (b : Bool) → In t (commits s rest) → In t (cond b (u ∷ commits s rest) (commits s rest))
    go true e = inr e
    go false e = e

pub record CommitAt (all : List Entry) (s : ℕ) (t : Txn) : Type 0 where
  pub place : ℕ
  pub commit : At all place (Decide s t true)

pub later_at : (e : Entry) {all : List Entry} {s : ℕ} {t : Txn} → CommitAt all s t → CommitAt (e ∷ all) s t
later_at e v = record { place = suc v.place; commit = v.commit }

pub commits_of : (all : List Entry) (s : ℕ) (t : Txn) → In t (commits s all) → CommitAt all s t
commits_of [] s t h = absurd h
commits_of (Other ∷ rest) s t h = later_at Other (commits_of rest s t h)
commits_of (Vote y u es ∷ rest) s t h = later_at (Vote y u es) (commits_of rest s t h)
commits_of (Decide y u false ∷ rest) s t h = later_at (Decide y u false) (commits_of rest s t h)
commits_of (Decide y u true ∷ rest) s t h = go (y == s) refl h (commits_of rest s t)
  where
    go : (b : Bool) → y == s ≡ b → In t (cond b (u ∷ commits s rest) (commits s rest)) → (In t (commits s rest) → CommitAt rest s t) → CommitAt (Decide y u true ∷ rest) s t
    go true e (inl q) ih = record { place = 0; commit = (λ i. Decide (eqb-true y s e i) (q i) true) }
    go true e (inr k) ih = later_at (Decide y u true) (ih k)
    go false e k ih = later_at (Decide y u true) (ih k)

-- t's commit at s stands before u's
pub record Sooner (all : List Entry) (s : ℕ) (t u : Txn) : Type 0 where
  pub first : ℕ
  pub second : ℕ
  pub less : first < second
  pub one : At all first (Decide s t true)
  pub other : At all second (Decide s u true)

later_sooner : (e : Entry) (rest : List Entry) (s : ℕ) (t u : Txn) → Sooner rest s t u → Sooner (e ∷ rest) s t u
later_sooner e rest s t u r = record { first = suc r.first; second = suc r.second; less = (let l = r.less in omega arith); one = r.one; other = r.other }

pub commits_sorted : (all : List Entry) (s : ℕ) → Sorted (Sooner all s) (commits s all)
commits_sorted [] s = tt
commits_sorted (Other ∷ rest) s = sorted_change (Sooner rest s) (Sooner (Other ∷ rest) s) (commits s rest) (λ a b i j r. later_sooner Other rest s a b r) (commits_sorted rest s)
commits_sorted (Vote y t es ∷ rest) s = sorted_change (Sooner rest s) (Sooner (Vote y t es ∷ rest) s) (commits s rest) (λ a b i j r. later_sooner (Vote y t es) rest s a b r) (commits_sorted rest s)
commits_sorted (Decide y t false ∷ rest) s = sorted_change (Sooner rest s) (Sooner (Decide y t false ∷ rest) s) (commits s rest) (λ a b i j r. later_sooner (Decide y t false) rest s a b r) (commits_sorted rest s)
commits_sorted (Decide y t true ∷ rest) s = go (y == s) refl (sorted_change (Sooner rest s) (Sooner (Decide y t true ∷ rest) s) (commits s rest) (λ a b i j r. later_sooner (Decide y t true) rest s a b r) (commits_sorted rest s))
  where
    first : y == s ≡ true → (u : Txn) → CommitAt rest s u → Sooner (Decide y t true ∷ rest) s t u
    first e u v = record { first = 0; second = suc v.place; less = omega arith; one = ap (λ z. Decide z t true) (eqb-true y s e); other = v.commit }

    go : (b : Bool) → y == s ≡ b → Sorted (Sooner (Decide y t true ∷ rest) s) (commits s rest) → Sorted (Sooner (Decide y t true ∷ rest) s) (cond b (t ∷ commits s rest) (commits s rest))
    go true e ih = (λ u k. first e u (commits_of rest s u k), ih)
    go false e ih = ih

pub commits-append : (s : ℕ) (xs ys : List Entry) → commits s (xs ++ ys) ≡ commits s xs ++ commits s ys
commits-append s [] ys = refl
commits-append s (Other ∷ xs) ys = commits-append s xs ys
commits-append s (Vote y t es ∷ xs) ys = commits-append s xs ys
commits-append s (Decide y t false ∷ xs) ys = commits-append s xs ys
commits-append s (Decide y t true ∷ xs) ys = go (y == s) (commits-append s xs ys)
  where
    go : (b : Bool) → commits s (xs ++ ys) ≡ commits s xs ++ commits s ys → cond b (t ∷ commits s (xs ++ ys)) (commits s (xs ++ ys)) ≡ cond b (t ∷ commits s xs) (commits s xs) ++ commits s ys
    go true e = ap (λ z. t ∷ z) e
    go false e = e

-- a vote's operations
pub record OpsAt (all : List Entry) (s : ℕ) (t : Txn) : Type 0 where
  pub place : ℕ
  pub vote : At all place (Vote s t (vote_ops s t all))

pub vote_ops_at : (all : List Entry) (s : ℕ) (t : Txn) (d : NumOp) → In d (vote_ops s t all) → OpsAt all s t
vote_ops_at [] s t d h = absurd h
vote_ops_at (Other ∷ rest) s t d h = let r = vote_ops_at rest s t d h in record { place = suc r.place; vote = r.vote }
vote_ops_at (Vote y u es ∷ rest) s t d h = let r = go (y == s && same u t) refl h (vote_ops_at rest s t d) in record { place = r.0; vote = r.1 }
  where
    go : (b : Bool) → (y == s && same u t) ≡ b → In d (cond b es (vote_ops s t rest)) → (In d (vote_ops s t rest) → OpsAt rest s t) → (p : ℕ) × At (Vote y u es ∷ rest) p (Vote s t (cond b es (vote_ops s t rest)))
    go true e k ih = let r = and_parts (y == s) (same u t) e in (0, λ i. Vote (eqb-true y s r.0 i) (same-true u t r.1 i) es)
    go false e k ih = let r = ih k in (suc r.place, r.vote)
vote_ops_at (Decide y u c ∷ rest) s t d h = let r = vote_ops_at rest s t d h in record { place = suc r.place; vote = r.vote }

pub vote_ops_front : (xs ys : List Entry) (i s : ℕ) (t : Txn) (ds : List NumOp) → At xs i (Vote s t ds) → vote_ops s t (xs ++ ys) ≡ vote_ops s t xs
vote_ops_front [] ys i s t ds h = absurd h
vote_ops_front (Other ∷ xs) ys zero s t ds h = absurd (cc)
vote_ops_front (Other ∷ xs) ys (suc i) s t ds h = vote_ops_front xs ys i s t ds h
vote_ops_front (Vote y u es ∷ xs) ys zero s t ds h =
    let p : y ≡ s = cc in let q : u ≡ t = cc in
    let r = and_from (y == s) (same u t) (eq-eqb y s p) (eq-same u t q) in
    subst (λ b. cond b es (vote_ops s t (xs ++ ys)) ≡ cond b es (vote_ops s t xs)) (sym r) refl
vote_ops_front (Vote y u es ∷ xs) ys (suc i) s t ds h = ap (λ z. cond (y == s && same u t) es z) (vote_ops_front xs ys i s t ds h)
vote_ops_front (Decide y u c ∷ xs) ys zero s t ds h = absurd (cc)
vote_ops_front (Decide y u c ∷ xs) ys (suc i) s t ds h = vote_ops_front xs ys i s t ds h

-- only a key's writers count for its value
pub after_writers : (s : ℕ) (all : List Entry) (n : Name) (ts : List Txn) (v : Answer) → after s all n ts v ≡ after s all n (writers s n all ts) v
after_writers s all n [] v = refl
after_writers s all n (t ∷ ts) v = go (writes n (vote_ops s t all)) refl (after_writers s all n ts)
  where
    go : (b : Bool) → writes n (vote_ops s t all) ≡ b → ((w : Answer) → after s all n ts w ≡ after s all n (writers s n all ts) w) → after s all n ts (through (vote_ops s t all) n v) ≡ after s all n (cond b (t ∷ writers s n all ts) (writers s n all ts)) v
    go true e ih = ih (through (vote_ops s t all) n v)
    go false e ih = ap (λ w. after s all n ts w) (untouched n (vote_ops s t all) v e) ∙ ih v

pub after_front : (s : ℕ) (xs ys : List Entry) (n : Name) (ts : List Txn) (v : Answer) → ((t : Txn) → In t ts → vote_ops s t ys ≡ vote_ops s t xs) → after s xs n ts v ≡ after s ys n ts v
after_front s xs ys n [] v f = refl
after_front s xs ys n (t ∷ ts) v f = ap (λ ds. after s xs n ts (through ds n v)) (sym (f t (inl refl))) ∙ after_front s xs ys n ts (through (vote_ops s t ys) n v) (λ u k. f u (inr k))

pub replay_after : (all : List Entry) (ts : List Txn) (rows : AllRows) (s : ℕ) (n : Name) → replay all ts rows s n ≡ after s all n ts (rows s n)
replay_after all [] rows s n = refl
replay_after all (t ∷ ts) rows s n = replay_after all ts (run all t rows) s n

-- a vote without operations, where the transaction votes once
first_ops : (all : List Entry) (s : ℕ) (t : Txn) (i : ℕ) (ds : List NumOp) → At all i (Vote s t ds) → (p : ℕ) × At all p (Vote s t (vote_ops s t all))
first_ops [] s t i ds h = absurd h
first_ops (Vote y u es ∷ rest) s t zero ds h =
    let p : y ≡ s = cc in let q : u ≡ t = cc in
    (zero, subst (λ b. Vote y u es ≡ Vote s t (cond b es (vote_ops s t rest))) (sym (and_from (y == s) (same u t) (eq-eqb y s p) (eq-same u t q))) (λ i. Vote (p i) (q i) es))
first_ops (Vote y u es ∷ rest) s t (suc i) ds h = go (y == s && same u t) refl (first_ops rest s t i ds h)
  where
    go : (b : Bool) → (y == s && same u t) ≡ b → (p : ℕ) × At rest p (Vote s t (vote_ops s t rest)) → (p : ℕ) × At (Vote y u es ∷ rest) p (Vote s t (cond b es (vote_ops s t rest)))
    go true e ih = let r = and_parts (y == s) (same u t) e in (zero, λ i. Vote (eqb-true y s r.0 i) (same-true u t r.1 i) es)
    go false e ih = (suc ih.0, ih.1)
first_ops (Decide y u c ∷ rest) s t zero ds h = absurd (cc)
first_ops (Decide y u c ∷ rest) s t (suc i) ds h = let r = first_ops rest s t i ds h in (suc r.0, r.1)
first_ops (Other ∷ rest) s t zero ds h = absurd (cc)
first_ops (Other ∷ rest) s t (suc i) ds h = let r = first_ops rest s t i ds h in (suc r.0, r.1)

-- a vote's operations, where the transaction votes once
pub vote_ops_is : (all : List Entry) (i s : ℕ) (t : Txn) (ds : List NumOp) → ((i j : ℕ) (a b : List NumOp) → At all i (Vote s t a) → At all j (Vote s t b) → i ≡ j) →
    At all i (Vote s t ds) → vote_ops s t all ≡ ds
vote_ops_is all i s t ds once h =
    let r = first_ops all s t i ds h in
    let e : Vote s t (vote_ops s t all) ≡ Vote s t ds = at_same all i (Vote s t (vote_ops s t all)) (Vote s t ds) (subst (λ z. At all z (Vote s t (vote_ops s t all))) (once r.0 i (vote_ops s t all) ds r.1 h) r.1) h in
    cc
