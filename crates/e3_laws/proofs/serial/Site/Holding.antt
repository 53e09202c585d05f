-- Which locks a site's log and steps hold, and what a request that gets its lock is free of.
use Rattle.std.proofs.Common.{◌≡◌, ◌⊎◌, inl, inr, ⊎_elim, ◌&&◌, ◌++◌, ◌∷◌, [], ℕ, Bool, true, false, not, List, length, filter, take, refl, sym, subst, ap, ◌∙◌, if◌then◌else◌}
use Rattle.std.specs.List.{list_any, list_all, flat_map, AllByRecursion as Each}
use Rattle.std.proofs.lemmas.Bool.{and_parts, and_from, true≢false, false_from_ne_true}
use Rattle.e3_types.specs.declared.locks.Grant.TheVariants.{Held, Waits, Dies}
use Rattle.e3_types.specs.declared.locks.Lock.{Lock}
use Rattle.e3_types.specs.declared.locks.Mode.TheVariants.{Exclusive}
use Rattle.e3_types.specs.declared.records.Record.{Record}
use Rattle.e3_types.specs.declared.records.Record.TheVariants as log
use Rattle.e3_types.specs.declared.transactions.NumOp.{NumOp}
use Rattle.e3_types.specs.declared.transactions.Op.{Op}
use Rattle.e3_types.specs.declared.transactions.Op.TheVariants.{Read, Write}
use Rattle.e3_types.specs.declared.transactions.Txn.{Txn}
use Rattle.e3_types.specs.Locks.{conflicts, covers, is_covered, opposes, against, grant_against, lock_grant, front}
use Rattle.e3_types.specs.Same.{same_txn, same_numbers, is_older}
use Rattle.e3_laws.proofs.agreement.Refinement.Lists.{same_numbers_are}
use Rattle.e3_world.specs.declared.lives.Asked.{Asked}
use Rattle.e3_world.specs.declared.lives.At.{At}
use Rattle.e3_world.specs.declared.lives.Made.{Made}
use Rattle.e3_world.specs.declared.lives.Moment.{Moment}
use Rattle.e3_world.specs.Logs.{is_undecided, key_of, mode_of, lock_on, vote_locks, voted_locks}
use Rattle.e3_world.specs.Making.{log_now, steps_now, names_of, asked_on, granted_on, grants_after}
use Rattle.e3_world.specs.Operations.{arrivals, is_answered, waiting, done_locks, holders, queue}
use Rattle.e3_laws.proofs.serial.Lists.Entries.{In, Clash, name_of, changes}
use Rattle.e3_laws.proofs.serial.Lists.Members.{in_append, in_front, in_back, in_filter, filter_in}
use Rattle.e3_laws.proofs.serial.Step.Steadying.{any_in, in_any}
use Rattle.e3_laws.proofs.serial.Step.Answering.{in_each}
use Rattle.e3_laws.proofs.serial.Step.Stepping.{in_flat, in_take}
use Rattle.e3_laws.proofs.serial.Lists.Facts.{vote_lock, none_against, clash_conflicts}
use Rattle.e3_laws.proofs.serial.Lists.Names.{eq-same_name}
use Rattle.e3_laws.proofs.steps.Tests.{same_is}

-- a transaction holds the lock of this operation: it was done in this incarnation, or it is in its vote
pub data Holds (site : ℕ) (records : List Record) (steps : List Moment) (t : Txn) (op : Op) : Type 0 where
  ByDone : (q : Asked) → In q (arrivals site steps) → is_answered steps q ≡ true → q.txn ≡ t → q.op ≡ op → Holds site records steps t op
  ByVote : (ops : List NumOp) (o : NumOp) → In (log.Vote t ops) records → In o ops → o.op ≡ op → Holds site records steps t op

-- the lock of an operation
abbrev pub lock_of : Txn → Op → Lock
lock_of t op = record { txn = t; mode = mode_of op }

lock_on_one : (name : List ℕ) (t : Txn) (op : Op) → name_of op ≡ name → lock_on name t op ≡ lock_of t op ∷ []
lock_on_one name t op e = subst (λ b. (if b then lock_of t op ∷ [] else []) ≡ lock_of t op ∷ []) (sym (eq-same_name (name_of op) name e)) refl

pub in_flat_from : {X Y : Type 0} (f : X → List Y) (xs : List X) (x : X) (y : Y) → In x xs → In y (f x) → In y (flat_map f xs)
in_flat_from f [] x y h k = absurd h
in_flat_from f (z ∷ xs) x y (inl e) k = in_front (f z) (flat_map f xs) y (subst (λ w. In y (f w)) (sym e) k)
in_flat_from f (z ∷ xs) x y (inr h) k = in_back (f z) (flat_map f xs) y (in_flat_from f xs x y h k)

-- what an undecided transaction holds is among the holders
pub held_lock : (site : ℕ) (records : List Record) (steps : List Moment) (t : Txn) (op : Op) → is_undecided t records ≡ true → Holds site records steps t op →
    In (lock_of t op) (holders site (name_of op) records steps)
held_lock site records steps t op open_yet (ByDone q h y same is) =
    in_front (done_locks site (name_of op) records steps) (voted_locks (name_of op) records) (lock_of t op)
    (in_flat_from (λ a. lock_on (name_of op) a.txn a.op) (filter (λ a. is_undecided a.txn records && is_answered steps a) (arrivals site steps)) q (lock_of t op)
    (filter_in (λ a. is_undecided a.txn records && is_answered steps a) (arrivals site steps) q h
    (and_from (is_undecided q.txn records) (is_answered steps q) (subst (λ u. is_undecided u records ≡ true) (sym same) open_yet) y))
    (subst (λ z. In (lock_of t op) z) (sym (lock_on_one (name_of op) q.txn q.op (ap name_of is))) (inl (λ i. lock_of (same i) (is i)))))
held_lock site records steps t op open_yet (ByVote ops o h k is) =
    in_back (done_locks site (name_of op) records steps) (voted_locks (name_of op) records) (lock_of t op)
    (subst (λ z. In (lock_of t z) (voted_locks (name_of op) records)) is (vote_lock (name_of op) t ops records o open_yet h k (ap name_of is)))

-- what a lock is held for
pub record HeldFor (site : ℕ) (name : List ℕ) (records : List Record) (steps : List Moment) (l : Lock) : Type 0 where
  pub op : Op
  pub holds : Holds site records steps l.txn op
  pub undecided : is_undecided l.txn records ≡ true
  pub name_is : name_of op ≡ name
  pub mode_is : mode_of op ≡ l.mode

lock_on_in : (name : List ℕ) (t : Txn) (op : Op) (l : Lock) → In l (lock_on name t op) → (name_of op ≡ name) × (t ≡ l.txn) × (mode_of op ≡ l.mode)
lock_on_in name t op l h = by (same_numbers name (name_of op)) refl h
  where
    by : (b : Bool) → same_numbers name (name_of op) ≡ b → In l (if b then lock_of t op ∷ [] else []) → (name_of op ≡ name) × (t ≡ l.txn) × (mode_of op ≡ l.mode)
    by true is (inl e) = (sym (same_numbers_are name (name_of op) is), ap (λ (z : Lock). z.txn) e, ap (λ (z : Lock). z.mode) e)
    by true is (inr k) = absurd k
    by false is k = absurd k

vote_lock_in : (name : List ℕ) (all rs : List Record) (l : Lock) → In l (flat_map (vote_locks name all) rs) →
    (ops : List NumOp) × (o : NumOp) × In (log.Vote l.txn ops) rs × In o ops × (is_undecided l.txn all ≡ true) × (name_of o.op ≡ name) × (mode_of o.op ≡ l.mode)
vote_lock_in name all [] l h = absurd h
vote_lock_in name all (r ∷ rs) l h = go (in_append (vote_locks name all r) (flat_map (vote_locks name all) rs) l h) (vote_lock_in name all rs l)
  where
    Found : List Record → Type 0
    Found rs = (ops : List NumOp) × (o : NumOp) × In (log.Vote l.txn ops) rs × In o ops × (is_undecided l.txn all ≡ true) × (name_of o.op ≡ name) × (mode_of o.op ≡ l.mode)

    voted : (u : Txn) (ops : List NumOp) → r ≡ log.Vote u ops → (b : Bool) → is_undecided u all ≡ b → In l (if b then flat_map (λ o. lock_on name u o.op) ops else []) →
        (ops : List NumOp) × (o : NumOp) × In (log.Vote l.txn ops) (r ∷ rs) × In o ops × (is_undecided l.txn all ≡ true) × (name_of o.op ≡ name) × (mode_of o.op ≡ l.mode)
    voted u ops is true open_yet k =
        let p = in_flat (λ o. lock_on name u o.op) ops l k in
        let q = lock_on_in name u p.0.op l p.2 in
        (ops, p.0, inl (is ∙ ap (λ z. log.Vote z ops) q.1), p.1, subst (λ z. is_undecided z all ≡ true) q.1 open_yet, q.0, q.2)
    voted u ops is false open_yet k = absurd k

    here : (x : Record) → r ≡ x → In l (vote_locks name all x) → (ops : List NumOp) × (o : NumOp) × In (log.Vote l.txn ops) (r ∷ rs) × In o ops × (is_undecided l.txn all ≡ true) × (name_of o.op ≡ name) × (mode_of o.op ≡ l.mode)
    here (log.Vote u ops) is k = voted u ops is (is_undecided u all) refl k
    here (log.Birth f n w rows) is k = absurd k
    here (log.Inc m) is k = absurd k
    here (log.Join u n) is k = absurd k
    here (log.Attempt u n d) is k = absurd k
    here (log.Decision u d) is k = absurd k

    go : In l (vote_locks name all r) ⊎ In l (flat_map (vote_locks name all) rs) →
        (In l (flat_map (vote_locks name all) rs) → (ops : List NumOp) × (o : NumOp) × In (log.Vote l.txn ops) rs × In o ops × (is_undecided l.txn all ≡ true) × (name_of o.op ≡ name) × (mode_of o.op ≡ l.mode)) →
        (ops : List NumOp) × (o : NumOp) × In (log.Vote l.txn ops) (r ∷ rs) × In o ops × (is_undecided l.txn all ≡ true) × (name_of o.op ≡ name) × (mode_of o.op ≡ l.mode)
    go (inl k) ih = here r refl k
    go (inr k) ih = let z = ih k in (z.0, z.1, inr z.2, z.3, z.4, z.5, z.6)

pub held_for : (site : ℕ) (name : List ℕ) (records : List Record) (steps : List Moment) (l : Lock) → In l (holders site name records steps) → HeldFor site name records steps l
held_for site name records steps l h = by (in_append (done_locks site name records steps) (voted_locks name records) l h)
  where
    by : In l (done_locks site name records steps) ⊎ In l (voted_locks name records) → HeldFor site name records steps l
    by (inl k) =
        let p = in_flat (λ a. lock_on name a.txn a.op) (filter (λ a. is_undecided a.txn records && is_answered steps a) (arrivals site steps)) l k in
        let f = in_filter (λ a. is_undecided a.txn records && is_answered steps a) (arrivals site steps) p.0 p.1 in
        let b = and_parts (is_undecided p.0.txn records) (is_answered steps p.0) f.1 in
        let q = lock_on_in name p.0.txn p.0.op l p.2 in
        record { op = p.0.op; holds = ByDone p.0 f.0 b.1 q.1 refl; undecided = subst (λ z. is_undecided z records ≡ true) q.1 b.0; name_is = q.0; mode_is = q.2 }
    by (inr k) =
        let p = vote_lock_in name records records l k in
        record { op = p.1.op; holds = ByVote p.0 p.1 p.2 p.3 refl; undecided = p.4; name_is = p.5; mode_is = p.6 }

-- no two undecided transactions hold locks that conflict
abbrev pub Apart : ℕ → List Record → List Moment → Type 0
Apart site records steps = (t u : Txn) (op other : Op) → is_undecided t records ≡ true → is_undecided u records ≡ true → Holds site records steps t op → Holds site records steps u other →
    (t ≡ u → ⊥) → Clash op other → ⊥

pub turn_clash : (a b : Op) → Clash a b → Clash b a
turn_clash a b c = record { same_name = sym c.same_name; one_changes = ⊎_elim (λ h. inr h) (λ h. inl h) c.one_changes }

-- locks that another opposes, and those that it does not
pub opposed : (t u : Txn) (op other : Op) → (t ≡ u → ⊥) → Clash op other → opposes (lock_of t op) (lock_of u other) ≡ true
opposed t u op other apart c =
    and_from (not (same_txn u t)) (conflicts (mode_of other) (mode_of op))
    (ap not (false_from_ne_true (same_txn u t) (λ e. apart (sym (same_is u t e)))))
    (clash_conflicts other op (turn_clash op other c))

mode_back : (op : Op) → mode_of op ≡ Exclusive → changes op ≡ true
mode_back (Read key) e = absurd (cc)
mode_back (Write key val) e = refl

-- a lock that covers a mode clashes with whatever an operation of that mode clashes with
pub cover_clash : (op own other : Op) → name_of own ≡ name_of op → covers (mode_of own) (mode_of op) ≡ true → Clash op other → Clash own other
cover_clash op own other same enough c = record { same_name = same ∙ c.same_name; one_changes = go own op enough c.one_changes }
  where
    go : (own op : Op) → covers (mode_of own) (mode_of op) ≡ true → (changes op ≡ true) ⊎ (changes other ≡ true) → (changes own ≡ true) ⊎ (changes other ≡ true)
    go (Read k) (Read l) e (inl h) = absurd (true≢false (sym h))
    go (Read k) (Write l v) e h = absurd (true≢false (sym e))
    go (Write k v) op e h = inl refl
    go own op e (inr h) = inr h

-- a request that gets its lock is free of what others hold
pub lock_free : (site : ℕ) (records : List Record) (steps : List Moment) (waits : List Lock) (t : Txn) (op : Op) → Apart site records steps → is_undecided t records ≡ true →
    lock_grant (lock_of t op) (holders site (name_of op) records steps) waits ≡ Held →
    (u : Txn) (other : Op) → is_undecided u records ≡ true → Holds site records steps u other → (t ≡ u → ⊥) → Clash op other → ⊥
lock_free site records steps waits t op apart still held u other open_yet holds differ c = by (is_covered (lock_of t op) hs) refl
  where
    hs : List Lock
    hs = holders site (name_of op) records steps

    other_in : In (lock_of u other) (holders site (name_of op) records steps)
    other_in = subst (λ n. In (lock_of u other) (holders site n records steps)) (sym c.same_name) (held_lock site records steps u other open_yet holds)

    nobody : (l : List Txn) → against (lock_of t op) (holders site (name_of op) records steps ++ waits) ≡ l → grant_against t l ≡ Held → against (lock_of t op) (holders site (name_of op) records steps ++ waits) ≡ []
    nobody [] e h = e
    nobody (x ∷ xs) e h = absurd (go (list_all (is_older t) (x ∷ xs)) h)
      where
        go : (b : Bool) → (if b then Waits else Dies (Rattle.e3_types.specs.Same.oldest x xs)) ≡ Held → ⊥
        go true k = cc
        go false k = cc

    by : (b : Bool) → is_covered (lock_of t op) (holders site (name_of op) records steps) ≡ b → ⊥
    by true is =
        let p = any_in (λ l. same_txn l.txn t && covers l.mode (mode_of op)) (holders site (name_of op) records steps) is in
        let q = and_parts (same_txn p.0.txn t) (covers p.0.mode (mode_of op)) p.2 in
        let f = held_for site (name_of op) records steps p.0 p.1 in
        let mine : p.0.txn ≡ t = same_is p.0.txn t q.0 in
        apart t u f.op other still open_yet (subst (λ z. Holds site records steps z f.op) mine f.holds) holds differ
        (cover_clash op f.op other f.name_is (subst (λ m. covers m (mode_of op) ≡ true) (sym f.mode_is) q.1) c)
    by false is =
        let now : grant_against t (against (lock_of t op) (holders site (name_of op) records steps ++ waits)) ≡ Held =
        ap (λ b. if b then Held else grant_against t (against (lock_of t op) (holders site (name_of op) records steps ++ waits))) (sym is) ∙ held in
        let none = none_against (lock_of t op) (lock_of u other) (holders site (name_of op) records steps ++ waits) (nobody _ refl now)
        (in_front (holders site (name_of op) records steps) waits (lock_of u other) other_in) in
        true≢false (sym (opposed t u op other differ c) ∙ none)

-- The longest front of a queue: each of its requests is free of the holders, and of those before it.
abbrev pub front_of : List Lock → List ℕ → List Asked → List Asked
front_of hs name qs = take (length (front hs (queue name qs))) qs

abbrev OnName : List ℕ → List Asked → Type 0
OnName name qs = Each (λ q. name_of q.op ≡ name) qs

queue_more : (name : List ℕ) (q : Asked) (qs : List Asked) → name_of q.op ≡ name → queue name (q ∷ qs) ≡ lock_of q.txn q.op ∷ queue name qs
queue_more name q qs e = ap (λ z. z ++ queue name qs) (lock_on_one name q.txn q.op e)

front_free : (name : List ℕ) (hs : List Lock) (qs : List Asked) → OnName name qs → (q : Asked) → In q (front_of hs name qs) → (l : Lock) → In l hs → opposes (lock_of q.txn q.op) l ≡ false
front_free name hs [] on q h l k = absurd h
front_free name hs (x ∷ qs) on q h l k =
    go (list_any (opposes (lock_of x.txn x.op)) hs) refl
    (subst (λ z. In q (take (length (front hs z)) (x ∷ qs))) (queue_more name x qs on.0) h)
    (λ m. front_free name (hs ++ lock_of x.txn x.op ∷ []) qs on.1 q m l (in_front hs (lock_of x.txn x.op ∷ []) l k))
  where
    go : (b : Bool) → list_any (opposes (lock_of x.txn x.op)) hs ≡ b →
        In q (take (length (if b then [] else lock_of x.txn x.op ∷ front (hs ++ lock_of x.txn x.op ∷ []) (queue name qs))) (x ∷ qs)) →
        (In q (front_of (hs ++ lock_of x.txn x.op ∷ []) name qs) → opposes (lock_of q.txn q.op) l ≡ false) → opposes (lock_of q.txn q.op) l ≡ false
    go true is m ih = absurd m
    go false is (inl e) ih = subst (λ z. opposes (lock_of z.txn z.op) l ≡ false) e (false_from_ne_true _ (λ y. true≢false (sym (in_any (opposes (lock_of x.txn x.op)) hs l k y) ∙ is)))
    go false is (inr m) ih = ih m

front_apart : (name : List ℕ) (hs : List Lock) (qs : List Asked) → OnName name qs → (q r : Asked) → In q (front_of hs name qs) → In r (front_of hs name qs) → (q.txn ≡ r.txn → ⊥) →
    (opposes (lock_of q.txn q.op) (lock_of r.txn r.op) ≡ false) ⊎ (opposes (lock_of r.txn r.op) (lock_of q.txn q.op) ≡ false)
front_apart name hs [] on q r h k differ = absurd h
front_apart name hs (x ∷ qs) on q r h k differ =
    go (list_any (opposes (lock_of x.txn x.op)) hs)
    (subst (λ z. In q (take (length (front hs z)) (x ∷ qs))) (queue_more name x qs on.0) h)
    (subst (λ z. In r (take (length (front hs z)) (x ∷ qs))) (queue_more name x qs on.0) k)
    (λ m n. front_apart name (hs ++ lock_of x.txn x.op ∷ []) qs on.1 q r m n differ)
  where
    last : In (lock_of x.txn x.op) (hs ++ lock_of x.txn x.op ∷ [])
    last = in_back hs (lock_of x.txn x.op ∷ []) (lock_of x.txn x.op) (inl refl)

    go : (b : Bool) →
        In q (take (length (if b then [] else lock_of x.txn x.op ∷ front (hs ++ lock_of x.txn x.op ∷ []) (queue name qs))) (x ∷ qs)) →
        In r (take (length (if b then [] else lock_of x.txn x.op ∷ front (hs ++ lock_of x.txn x.op ∷ []) (queue name qs))) (x ∷ qs)) →
        (In q (front_of (hs ++ lock_of x.txn x.op ∷ []) name qs) → In r (front_of (hs ++ lock_of x.txn x.op ∷ []) name qs) →
        (opposes (lock_of q.txn q.op) (lock_of r.txn r.op) ≡ false) ⊎ (opposes (lock_of r.txn r.op) (lock_of q.txn q.op) ≡ false)) →
        (opposes (lock_of q.txn q.op) (lock_of r.txn r.op) ≡ false) ⊎ (opposes (lock_of r.txn r.op) (lock_of q.txn q.op) ≡ false)
    go true m n ih = absurd m
    go false (inl e) (inl f) ih = absurd (differ (ap (λ (z : Asked). z.txn) (sym e ∙ f)))
    go false (inl e) (inr n) ih = inr (subst (λ z. opposes (lock_of r.txn r.op) (lock_of z.txn z.op) ≡ false) e (front_free name (hs ++ lock_of x.txn x.op ∷ []) qs on.1 r n (lock_of x.txn x.op) last))
    go false (inr m) (inl f) ih = inl (subst (λ z. opposes (lock_of q.txn q.op) (lock_of z.txn z.op) ≡ false) f (front_free name (hs ++ lock_of x.txn x.op ∷ []) qs on.1 q m (lock_of x.txn x.op) last))
    go false (inr m) (inr n) ih = ih m n

on_name : (name : List ℕ) (qs : List Asked) → OnName name (asked_on name qs)
on_name name [] = tt
on_name name (q ∷ qs) = by (same_numbers name (key_of q.op).name) refl (on_name name qs)
  where
    by : (b : Bool) → same_numbers name (key_of q.op).name ≡ b → OnName name (asked_on name qs) → OnName name (if b then q ∷ asked_on name qs else asked_on name qs)
    by true is more = (sym (same_numbers_are name (key_of q.op).name is), more)
    by false is more = more

-- a request that is granted stands in the front of its name's queue
granted_front : (a : At) (made : Made) (q : Asked) → In q (grants_after a made) →
    In q (granted_on a made (waiting a.site (log_now a made) (steps_now a made)) (name_of q.op))
granted_front a made q h =
    let waits : List Asked = waiting a.site (log_now a made) (steps_now a made) in
    let r = in_flat (granted_on a made waits) (names_of waits) q h in
    subst (λ n. In q (granted_on a made waits n)) (sym (in_each (λ x. name_of x.op ≡ r.0) (asked_on r.0 waits) q (on_name r.0 waits) (in_take _ (asked_on r.0 waits) q r.2))) r.2

-- a request that is granted is free of what others hold, and of the others that are granted
pub granted_free : (a : At) (made : Made) (q : Asked) → In q (grants_after a made) → (u : Txn) (other : Op) → is_undecided u (log_now a made) ≡ true →
    Holds a.site (log_now a made) (steps_now a made) u other → (q.txn ≡ u → ⊥) → Clash q.op other → ⊥
granted_free a made q h u other open_yet holds differ c =
    let waits : List Asked = waiting a.site (log_now a made) (steps_now a made) in
    let l = subst (λ n. In (lock_of u other) (holders a.site n (log_now a made) (steps_now a made))) (sym c.same_name) (held_lock a.site (log_now a made) (steps_now a made) u other open_yet holds) in
    let none = front_free (name_of q.op) (holders a.site (name_of q.op) (log_now a made) (steps_now a made)) (asked_on (name_of q.op) waits) (on_name (name_of q.op) waits) q (granted_front a made q h) (lock_of u other) l in
    true≢false (sym (opposed q.txn u q.op other differ c) ∙ none)

pub granted_apart : (a : At) (made : Made) (q r : Asked) → In q (grants_after a made) → In r (grants_after a made) → (q.txn ≡ r.txn → ⊥) → Clash q.op r.op → ⊥
granted_apart a made q r h k differ c =
    let waits : List Asked = waiting a.site (log_now a made) (steps_now a made) in
    elim (front_apart (name_of q.op) (holders a.site (name_of q.op) (log_now a made) (steps_now a made)) (asked_on (name_of q.op) waits) (on_name (name_of q.op) waits) q r (granted_front a made q h)
    (subst (λ n. In r (granted_on a made waits n)) (sym c.same_name) (granted_front a made r k)) differ) [
      | inl none ↦ true≢false (sym (opposed q.txn r.txn q.op r.op differ c) ∙ none)
      | inr none ↦ true≢false (sym (opposed r.txn q.txn r.op q.op (λ e. differ (sym e)) (turn_clash q.op r.op c)) ∙ none)
    ]
