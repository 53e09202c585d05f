-- The order, the replay and the tables of logs are those over plain lists.
use Rattle.std.proofs.Common.{◌≡◌, inl, ℕ, suc, ◌==◌, Bool, true, false, not, cond, ◌&&◌, ◌||◌, List, [], ◌∷◌, ◌++◌, map, filter, fold, refl, sym, ap, ◌∙◌, subst, arith, append-nil, eqb-true}
use Rattle.std.specs.List.{list_any, AllByRecursion as Each}
use Rattle.e3_types.specs.declared.records.Record.{Record}
use Rattle.e3_types.specs.declared.records.Record.TheVariants as log
use Rattle.e3_types.specs.declared.transactions.Dir.TheVariants.{Abort, Commit}
use Rattle.e3_types.specs.declared.transactions.NumOp.{NumOp}
use Rattle.e3_types.specs.declared.transactions.Txn.{Txn}
use Rattle.e3_types.specs.Same.{same_txn}
use Rattle.e3_laws.specs.steps.Bounds.{IsHere}
use Rattle.e3_world.specs.Logs.{voted_ops, ops_of_vote}
use Rattle.e3_world.specs.Moves.{Placed}
use Rattle.e3_world.specs.Orderly.{ops_ascend}
use Rattle.e3_world.specs.Serial.{World, add_op, all_ops, run_txn, is_commit, is_committed, votes_among, order_in, commit_order, committed_in}
use Rattle.e3_laws.proofs.serial.Lists.Entries.{Name, AllRows, In, At, has, through, Entry, Vote, commits, committed, has_vote, voters, order, vote_ops, run, replay, committed_at}
use Rattle.e3_laws.proofs.serial.Lists.Names.{same-true}
use Rattle.e3_laws.proofs.serial.Lists.Placing.{entries, logged}
use Rattle.e3_laws.proofs.serial.Lists.Places.{vote_ops_at}
use Rattle.e3_laws.proofs.serial.Lists.Replaying.{is_at, ran, filter_sorted, sorted_same, here_all, there_none, filter-append}
use Rattle.e3_laws.proofs.agreement.Refinement.Agreeing.{put}

-- a transaction votes once at a site
abbrev pub VotesOnce : List Placed → ℕ → Txn → Type 0
VotesOnce ps s t = (i j : ℕ) (a b : List NumOp) → At (entries ps) i (Vote s t a) → At (entries ps) j (Vote s t b) → i ≡ j

votes_later : (p : Placed) (ps : List Placed) (s : ℕ) (t : Txn) → VotesOnce (p ∷ ps) s t → VotesOnce ps s t
votes_later p ps s t h i j a b k l = let q = h (suc i) (suc j) a b k l in omega arith

-- where a transaction has no vote, it has no operations
no_ops : (E : List Entry) (s : ℕ) (t : Txn) → ((i : ℕ) (a : List NumOp) → At E i (Vote s t a) → ⊥) → vote_ops s t E ≡ []
no_ops E s t h = go (vote_ops s t E) refl
  where
    go : (l : List NumOp) → vote_ops s t E ≡ l → vote_ops s t E ≡ []
    go [] e = e
    go (d ∷ l) e = let v = vote_ops_at E s t d (subst (λ z. In d z) (sym e) (inl refl)) in absurd (h v.place (vote_ops s t E) v.vote)

-- the operations that a log reads of a transaction are those of its vote
pub voted_at : (ps : List Placed) (s : ℕ) (t : Txn) → VotesOnce ps s t → voted_ops t (logged s ps) ≡ vote_ops s t (entries ps)
voted_at [] s t h = refl
voted_at (p ∷ ps) s t h = go p.entered h (voted_at ps s t (votes_later p ps s t h))
  where
    later : (b : Bool) (r : Record) → ops_of_vote t r ≡ [] → voted_ops t (logged s ps) ≡ vote_ops s t (entries ps) →
        voted_ops t (map (λ p. p.entered) (cond b (put p.site r ∷ filter (λ p. p.site == s) ps) (filter (λ p. p.site == s) ps))) ≡ vote_ops s t (entries ps)
    later true r e ih = ap (λ z. z ++ voted_ops t (logged s ps)) e ∙ ih
    later false r e ih = ih

    voted : (u : Txn) (os : List NumOp) (b : Bool) → (p.site == s) ≡ b → (c : Bool) → same_txn t u ≡ c → VotesOnce (put p.site (log.Vote u os) ∷ ps) s t →
        voted_ops t (logged s ps) ≡ vote_ops s t (entries ps) →
        voted_ops t (map (λ p. p.entered) (cond b (put p.site (log.Vote u os) ∷ filter (λ p. p.site == s) ps) (filter (λ p. p.site == s) ps))) ≡ cond (b && c) os (vote_ops s t (entries ps))
    voted u os true e true f once ih =
        ap (λ b. cond b os [] ++ voted_ops t (logged s ps)) f
        ∙ ap (λ z. os ++ z) (ih ∙ no_ops (entries ps) s t (λ i a k. (let q = once 0 (suc i) os a (λ j. Vote (eqb-true p.site s e j) (same-true u t f j) os) k in omega arith)))
        ∙ append-nil os
    voted u os true e false f once ih = ap (λ b. cond b os [] ++ voted_ops t (logged s ps)) f ∙ ih
    voted u os false e c f once ih = ih

    go : (r : Record) → VotesOnce (put p.site r ∷ ps) s t → voted_ops t (logged s ps) ≡ vote_ops s t (entries ps) → voted_ops t (logged s (put p.site r ∷ ps)) ≡ vote_ops s t (entries (put p.site r ∷ ps))
    go (log.Vote u os) once ih = voted u os (p.site == s) refl (same_txn t u) refl once ih
    go (log.Decision u Commit) once ih = later (p.site == s) (log.Decision u Commit) refl ih
    go (log.Decision u Abort) once ih = later (p.site == s) (log.Decision u Abort) refl ih
    go (log.Birth f n w rows) once ih = later (p.site == s) (log.Birth f n w rows) refl ih
    go (log.Inc m) once ih = later (p.site == s) (log.Inc m) refl ih
    go (log.Join u n) once ih = later (p.site == s) (log.Join u n) refl ih
    go (log.Attempt u n d) once ih = later (p.site == s) (log.Attempt u n d) refl ih

-- each vote's operations are on keys of its site
abbrev pub VotesHere : List Placed → Type 0
VotesHere ps = (i y : ℕ) (u : Txn) (ops : List NumOp) → At ps i (put y (log.Vote u ops)) → Each (IsHere y) ops

-- of all operations of a transaction, those at a site are what the site's log reads
pub ops_here : (ps : List Placed) (s : ℕ) (t : Txn) → VotesHere ps → filter (is_at s) (voted_ops t (map (λ p. p.entered) ps)) ≡ voted_ops t (logged s ps)
ops_here [] s t h = refl
ops_here (p ∷ ps) s t h =
    filter-append (is_at s) (ops_of_vote t p.entered) (voted_ops t (map (λ p. p.entered) ps))
    ∙ go p.entered h (ops_here ps s t (λ i y u ops k. h (suc i) y u ops k))
  where
    rest : List NumOp
    rest = filter (is_at s) (voted_ops t (map (λ p. p.entered) ps))

    other : (b : Bool) (r : Record) → ops_of_vote t r ≡ [] → rest ≡ voted_ops t (logged s ps) →
        filter (is_at s) (ops_of_vote t r) ++ rest ≡ voted_ops t (map (λ p. p.entered) (cond b (put p.site r ∷ filter (λ p. p.site == s) ps) (filter (λ p. p.site == s) ps)))
    other true r e ih = ap (λ z. filter (is_at s) z ++ rest) e ∙ ih ∙ ap (λ z. z ++ voted_ops t (logged s ps)) (sym e)
    other false r e ih = ap (λ z. filter (is_at s) z ++ rest) e ∙ ih

    voted : (u : Txn) (os : List NumOp) (b : Bool) → (p.site == s) ≡ b → Each (IsHere p.site) os → rest ≡ voted_ops t (logged s ps) → (c : Bool) → same_txn t u ≡ c →
        filter (is_at s) (cond (same_txn t u) os []) ++ rest ≡ voted_ops t (map (λ p. p.entered) (cond b (put p.site (log.Vote u os) ∷ filter (λ p. p.site == s) ps) (filter (λ p. p.site == s) ps)))
    voted u os true e h ih true f =
        ap (λ c. filter (is_at s) (cond c os []) ++ rest) f
        ∙ ap (λ z. z ++ rest) (here_all s os (subst (λ y. Each (IsHere y) os) (eqb-true p.site s e) h))
        ∙ ap (λ z. os ++ z) ih
        ∙ ap (λ c. cond c os [] ++ voted_ops t (logged s ps)) (sym f)
    voted u os false e h ih true f =
        ap (λ c. filter (is_at s) (cond c os []) ++ rest) f
        ∙ ap (λ z. z ++ rest) (there_none p.site s os e h)
        ∙ ih
    voted u os true e h ih false f = ap (λ c. filter (is_at s) (cond c os []) ++ rest) f ∙ ih ∙ ap (λ c. cond c os [] ++ voted_ops t (logged s ps)) (sym f)
    voted u os false e h ih false f = ap (λ c. filter (is_at s) (cond c os []) ++ rest) f ∙ ih

    go : (r : Record) → VotesHere (put p.site r ∷ ps) → rest ≡ voted_ops t (logged s ps) → filter (is_at s) (ops_of_vote t r) ++ rest ≡ voted_ops t (logged s (put p.site r ∷ ps))
    go (log.Vote u os) k ih = voted u os (p.site == s) refl (k 0 p.site u os refl) ih (same_txn t u) refl
    go (log.Decision u d) k ih = other (p.site == s) (log.Decision u d) refl ih
    go (log.Birth f n w rows) k ih = other (p.site == s) (log.Birth f n w rows) refl ih
    go (log.Inc m) k ih = other (p.site == s) (log.Inc m) refl ih
    go (log.Join u n) k ih = other (p.site == s) (log.Join u n) refl ih
    go (log.Attempt u n d) k ih = other (p.site == s) (log.Attempt u n d) refl ih

-- each vote's operations ascend
abbrev pub VotesAscend : List Placed → Type 0
VotesAscend ps = (i y : ℕ) (u : Txn) (ops : List NumOp) → At (entries ps) i (Vote y u ops) → ops_ascend 0 ops ≡ true

pub vote_ascends : (ps : List Placed) (s : ℕ) (t : Txn) → VotesAscend ps → ops_ascend 0 (vote_ops s t (entries ps)) ≡ true
vote_ascends ps s t h = go (vote_ops s t (entries ps)) refl
  where
    go : (l : List NumOp) → vote_ops s t (entries ps) ≡ l → ops_ascend 0 (vote_ops s t (entries ps)) ≡ true
    go [] e = ap (λ z. ops_ascend 0 z) e
    go (d ∷ l) e = let v = vote_ops_at (entries ps) s t d (subst (λ z. In d z) (sym e) (inl refl)) in h v.place s t (vote_ops s t (entries ps)) v.vote

-- of all operations of a transaction in the order of their numbers, those at a site are its vote's there
pub all_at : (ps : List Placed) (s : ℕ) (t : Txn) → VotesOnce ps s t → VotesHere ps → VotesAscend ps → filter (is_at s) (all_ops t ps) ≡ vote_ops s t (entries ps)
all_at ps s t once here rises =
    filter_sorted (is_at s) (voted_ops t (map (λ p. p.entered) ps)) [] tt
    ∙ ap (λ z. fold add_op [] z) (ops_here ps s t here ∙ voted_at ps s t once)
    ∙ sorted_same (vote_ops s t (entries ps)) [] 0 (vote_ascends ps s t rises) tt

-- the replay, one site at a time
pub replay_is : (ps : List Placed) → ((s : ℕ) (t : Txn) → filter (is_at s) (all_ops t ps) ≡ vote_ops s t (entries ps)) →
    (ts : List Txn) (world : World) (rows : AllRows) → ((s : ℕ) (n : Name) → world (record { site = s; name = n }) ≡ rows s n) →
    (s : ℕ) (n : Name) → fold (run_txn ps) world ts (record { site = s; name = n }) ≡ replay (entries ps) ts rows s n
replay_is ps ops [] world rows h s n = h s n
replay_is ps ops (t ∷ ts) world rows h s n =
    replay_is ps ops ts (run_txn ps world t) (run (entries ps) t rows)
    (λ y m. ran (all_ops t ps) world y m ∙ ap (λ z. through z m (world (record { site = y; name = m }))) (ops y t) ∙ ap (λ v. through (vote_ops y t (entries ps)) m v) (h y m)) s n

-- which are committed, and which vote
pub committed_is : (t : Txn) (ps : List Placed) → is_committed t ps ≡ committed t (entries ps)
committed_is t [] = refl
committed_is t (p ∷ ps) = go p.entered (committed_is t ps)
  where
    go : (r : Record) → is_committed t ps ≡ committed t (entries ps) → is_committed t (put p.site r ∷ ps) ≡ committed t (entries (put p.site r ∷ ps))
    go (log.Vote u os) e = e
    go (log.Decision u Commit) e = ap (λ b. same_txn t u || b) e
    go (log.Decision u Abort) e = e
    go (log.Birth f n w rows) e = e
    go (log.Inc m) e = e
    go (log.Join u n) e = e
    go (log.Attempt u n d) e = e

among_is : (t : Txn) (ps : List Placed) → votes_among t ps ≡ has_vote t (entries ps)
among_is t [] = refl
among_is t (p ∷ ps) = go p.entered (among_is t ps)
  where
    go : (r : Record) → votes_among t ps ≡ has_vote t (entries ps) → votes_among t (put p.site r ∷ ps) ≡ has_vote t (entries (put p.site r ∷ ps))
    go (log.Vote u os) e = ap (λ b. same_txn t u || b) e
    go (log.Decision u Commit) e = e
    go (log.Decision u Abort) e = e
    go (log.Birth f n w rows) e = e
    go (log.Inc m) e = e
    go (log.Join u n) e = e
    go (log.Attempt u n d) e = e

order_in_is : (all ps : List Placed) → order_in all ps ≡ filter (λ t. committed t (entries all)) (voters (entries ps))
order_in_is all [] = refl
order_in_is all (p ∷ ps) = go p.entered (order_in_is all ps)
  where
    voted : (u : Txn) (b : Bool) → is_committed u all ≡ b → (c : Bool) → votes_among u ps ≡ c → order_in all ps ≡ filter (λ t. committed t (entries all)) (voters (entries ps)) →
        cond (b && not c) (u ∷ []) [] ++ order_in all ps ≡ filter (λ t. committed t (entries all)) (cond c (voters (entries ps)) (u ∷ voters (entries ps)))
    voted u true e true f ih = ih
    voted u true e false f ih = rw (sym (committed_is u all) ∙ e) (ap (λ z. u ∷ z) ih)
    voted u false e true f ih = ih
    voted u false e false f ih = rw (sym (committed_is u all) ∙ e) ih

    go : (r : Record) → order_in all ps ≡ filter (λ t. committed t (entries all)) (voters (entries ps)) →
        order_in all (put p.site r ∷ ps) ≡ filter (λ t. committed t (entries all)) (voters (entries (put p.site r ∷ ps)))
    go (log.Vote u os) ih =
        voted u (is_committed u all) refl (votes_among u ps) refl ih
        ∙ ap (λ b. filter (λ t. committed t (entries all)) (cond b (voters (entries ps)) (u ∷ voters (entries ps)))) (among_is u ps)
    go (log.Decision u Commit) ih = ih
    go (log.Decision u Abort) ih = ih
    go (log.Birth f n w rows) ih = ih
    go (log.Inc m) ih = ih
    go (log.Join u n) ih = ih
    go (log.Attempt u n d) ih = ih

pub order_is : (ps : List Placed) → commit_order ps ≡ order (entries ps)
order_is ps = order_in_is ps ps

-- what one log commits
commits_here : (t : Txn) (s : ℕ) (ps : List Placed) → list_any (is_commit t) (logged s ps) ≡ has t (commits s (entries ps))
commits_here t s [] = refl
commits_here t s (p ∷ ps) = go p.entered (commits_here t s ps)
  where
    skip : (b : Bool) (r : Record) → is_commit t r ≡ false → list_any (is_commit t) (logged s ps) ≡ has t (commits s (entries ps)) →
        list_any (is_commit t) (map (λ p. p.entered) (cond b (put p.site r ∷ filter (λ p. p.site == s) ps) (filter (λ p. p.site == s) ps))) ≡ has t (commits s (entries ps))
    skip true r e ih = ap (λ b. b || list_any (is_commit t) (logged s ps)) e ∙ ih
    skip false r e ih = ih

    commit : (b : Bool) (u : Txn) → list_any (is_commit t) (logged s ps) ≡ has t (commits s (entries ps)) →
        list_any (is_commit t) (map (λ p. p.entered) (cond b (put p.site (log.Decision u Commit) ∷ filter (λ p. p.site == s) ps) (filter (λ p. p.site == s) ps)))
        ≡ has t (cond b (u ∷ commits s (entries ps)) (commits s (entries ps)))
    commit true u ih = ap (λ b. same_txn t u || b) ih
    commit false u ih = ih

    go : (r : Record) → list_any (is_commit t) (logged s ps) ≡ has t (commits s (entries ps)) → list_any (is_commit t) (logged s (put p.site r ∷ ps)) ≡ has t (commits s (entries (put p.site r ∷ ps)))
    go (log.Vote u os) ih = skip (p.site == s) (log.Vote u os) refl ih
    go (log.Decision u Commit) ih = commit (p.site == s) u ih
    go (log.Decision u Abort) ih = skip (p.site == s) (log.Decision u Abort) refl ih
    go (log.Birth f n w rows) ih = skip (p.site == s) (log.Birth f n w rows) refl ih
    go (log.Inc m) ih = skip (p.site == s) (log.Inc m) refl ih
    go (log.Join u n) ih = skip (p.site == s) (log.Join u n) refl ih
    go (log.Attempt u n d) ih = skip (p.site == s) (log.Attempt u n d) refl ih

filter_same : {X : Type 0} (p q : X → Bool) → ((x : X) → p x ≡ q x) → (xs : List X) → filter p xs ≡ filter q xs
filter_same p q h [] = refl
filter_same p q h (x ∷ xs) = ap (λ b. cond b (x ∷ filter p xs) (filter p xs)) (h x) ∙ ap (λ z. cond (q x) (x ∷ z) z) (filter_same p q h xs)

pub committed_in_is : (s : ℕ) (ps : List Placed) (ts : List Txn) → committed_in (logged s ps) ts ≡ committed_at s (entries ps) ts
committed_in_is s ps ts = filter_same (λ t. list_any (is_commit t) (logged s ps)) (λ t. has t (commits s (entries ps))) (λ t. commits_here t s ps) ts
