-- What the lock rule tells of two operations: which are against each other, and who of them is older.
use Rattle.std.proofs.Common.{◌≡◌, ◌⊎◌, inl, inr, ◌++◌, ◌∷◌, [], ℕ, Bool, true, false, not, List, filter, map, refl, sym, subst, ap, ◌∙◌, if◌then◌else◌}
use Rattle.std.specs.List.{list_all}
use Rattle.std.proofs.lemmas.Bool.{and_parts, and_from, true≢false, false_from_ne_true}
use Rattle.e3_types.specs.declared.locks.Grant.TheVariants.{Held, Waits, Dies}
use Rattle.e3_types.specs.declared.locks.Lock.{Lock}
use Rattle.e3_types.specs.declared.transactions.Op.{Op}
use Rattle.e3_types.specs.declared.transactions.Op.TheVariants.{Read, Write}
use Rattle.e3_types.specs.declared.transactions.Txn.{Txn}
use Rattle.e3_types.specs.Locks.{conflicts, is_covered, opposes, against, grant_against, lock_grant}
use Rattle.e3_types.specs.Same.{same_txn, same_numbers, is_older, oldest}
use Rattle.e3_laws.proofs.agreement.Refinement.Lists.{same_from, same_numbers_are}
use Rattle.e3_world.specs.declared.lives.Asked.{Asked}
use Rattle.e3_world.specs.Logs.{mode_of, lock_on}
use Rattle.e3_world.specs.Operations.{queue}
use Rattle.e3_laws.proofs.serial.Lists.Entries.{In, Clash, name_of}
use Rattle.e3_laws.proofs.serial.Lists.Members.{in_filter, filter_in}
use Rattle.e3_laws.proofs.serial.Lists.Names.{eq-same_name}
use Rattle.e3_laws.proofs.serial.Lists.Facts.{none_against, clash_conflicts, all_in}
use Rattle.e3_laws.proofs.serial.Step.Stepping.{in_flat}
use Rattle.e3_laws.proofs.serial.Site.Holding.{lock_of, in_flat_from, turn_clash}
use Rattle.e3_laws.proofs.steps.Tests.{same_is}

in_map : {X Y : Type 0} (f : X → Y) (xs : List X) (x : X) → In x xs → In (f x) (map f xs)
in_map f [] x h = absurd h
in_map f (y ∷ xs) x (inl e) = inl (ap f e)
in_map f (y ∷ xs) x (inr h) = inr (in_map f xs x h)

map_in : {X Y : Type 0} (f : X → Y) (xs : List X) (y : Y) → In y (map f xs) → (x : X) × In x xs × (f x ≡ y)
map_in f [] y h = absurd h
map_in f (x ∷ xs) y (inl e) = (x, inl refl, e)
map_in f (x ∷ xs) y (inr h) = let r = map_in f xs y h in (r.0, inr r.1, r.2)

-- a lock that opposes is another transaction's, and conflicts
pub opposed_parts : (wanted l : Lock) → opposes wanted l ≡ true → (wanted.txn ≡ l.txn → ⊥) × (conflicts l.mode wanted.mode ≡ true)
opposed_parts wanted l h =
    let p = and_parts (not (same_txn l.txn wanted.txn)) (conflicts l.mode wanted.mode) h in
    ((λ e. true≢false (sym p.0 ∙ ap not (same_from l.txn wanted.txn (sym e)))), p.1)

-- operations on one name whose modes conflict clash
pub mode_clash : (a b : Op) → name_of a ≡ name_of b → conflicts (mode_of b) (mode_of a) ≡ true → Clash a b
mode_clash (Read k) (Read l) same h = absurd (true≢false (sym h))
mode_clash (Read k) (Write l v) same h = record { same_name = same; one_changes = inr refl }
mode_clash (Write k v) b same h = record { same_name = same; one_changes = inl refl }

-- operations of two transactions that clash are against each other
pub clash_opposes : (t u : Txn) (op other : Op) → (t ≡ u → ⊥) → Clash op other → opposes (lock_of t op) (lock_of u other) ≡ true
clash_opposes t u op other differ c =
    and_from (not (same_txn u t)) (conflicts (mode_of other) (mode_of op))
    (ap not (false_from_ne_true (same_txn u t) (λ e. differ (sym (same_is u t e)))))
    (clash_conflicts other op (turn_clash op other c))

-- whoever is against a lock has one that opposes it
pub against_lock : (wanted : Lock) (ls : List Lock) (u : Txn) → In u (against wanted ls) → (l : Lock) × In l ls × (opposes wanted l ≡ true) × (l.txn ≡ u)
against_lock wanted ls u h =
    let m = map_in (λ (l : Lock). l.txn) (filter (opposes wanted) ls) u h in
    let f = in_filter (opposes wanted) ls m.0 m.1 in
    (m.0, f.0, f.1, m.2)

lock_against : (wanted l : Lock) (ls : List Lock) → In l ls → opposes wanted l ≡ true → In l.txn (against wanted ls)
lock_against wanted l ls h o = in_map (λ (l : Lock). l.txn) (filter (opposes wanted) ls) l (filter_in (opposes wanted) ls l h o)

-- a request that waits is older than all that oppose it
pub waits_older : (wanted : Lock) (hs ws : List Lock) → lock_grant wanted hs ws ≡ Waits → (l : Lock) → In l (hs ++ ws) → opposes wanted l ≡ true → is_older wanted.txn l.txn ≡ true
waits_older wanted hs ws grant l h o = by (is_covered wanted hs) grant
  where
    each : (u : Txn) (us : List Txn) → In l.txn (u ∷ us) → (b : Bool) → list_all (is_older wanted.txn) (u ∷ us) ≡ b →
        (if b then Waits else Dies (oldest u us)) ≡ Waits → is_older wanted.txn l.txn ≡ true
    each u us k true is g = all_in (is_older wanted.txn) (u ∷ us) l.txn is k
    each u us k false is g = absurd cc

    all : (us : List Txn) → In l.txn us → grant_against wanted.txn us ≡ Waits → is_older wanted.txn l.txn ≡ true
    all [] k g = absurd k
    all (u ∷ us) k g = each u us k (list_all (is_older wanted.txn) (u ∷ us)) refl g

    by : (b : Bool) → (if b then Held else grant_against wanted.txn (against wanted (hs ++ ws))) ≡ Waits → is_older wanted.txn l.txn ≡ true
    by true g = absurd cc
    by false g = all (against wanted (hs ++ ws)) (lock_against wanted l (hs ++ ws) h o) g

-- a request that gets its lock has it already, or nobody opposes it
pub held_free : (wanted : Lock) (hs ws : List Lock) → lock_grant wanted hs ws ≡ Held →
    (is_covered wanted hs ≡ true) ⊎ ((l : Lock) → In l (hs ++ ws) → opposes wanted l ≡ false)
held_free wanted hs ws grant = by (is_covered wanted hs) refl grant
  where
    nobody : (us : List Txn) → against wanted (hs ++ ws) ≡ us → grant_against wanted.txn us ≡ Held → against wanted (hs ++ ws) ≡ []
    nobody [] e g = e
    nobody (u ∷ us) e g = absurd (go (list_all (is_older wanted.txn) (u ∷ us)) g)
      where
        go : (b : Bool) → (if b then Waits else Dies (oldest u us)) ≡ Held → ⊥
        go true k = cc
        go false k = cc

    by : (b : Bool) → is_covered wanted hs ≡ b → (if b then Held else grant_against wanted.txn (against wanted (hs ++ ws))) ≡ Held →
        (is_covered wanted hs ≡ true) ⊎ ((l : Lock) → In l (hs ++ ws) → opposes wanted l ≡ false)
    by true is g = inl is
    by false is g = inr (λ l h. none_against wanted l (hs ++ ws) (nobody (against wanted (hs ++ ws)) refl g) h)

lock_on_one : (name : List ℕ) (t : Txn) (op : Op) → name_of op ≡ name → lock_on name t op ≡ lock_of t op ∷ []
lock_on_one name t op e = subst (λ b. (if b then lock_of t op ∷ [] else []) ≡ lock_of t op ∷ []) (sym (eq-same_name (name_of op) name e)) refl

lock_on_in : (name : List ℕ) (t : Txn) (op : Op) (l : Lock) → In l (lock_on name t op) → (name_of op ≡ name) × (t ≡ l.txn) × (mode_of op ≡ l.mode)
lock_on_in name t op l h = by (same_numbers name (name_of op)) refl h
  where
    by : (b : Bool) → same_numbers name (name_of op) ≡ b → In l (if b then lock_of t op ∷ [] else []) → (name_of op ≡ name) × (t ≡ l.txn) × (mode_of op ≡ l.mode)
    by true is (inl e) = (sym (same_numbers_are name (name_of op) is), ap (λ (z : Lock). z.txn) e, ap (λ (z : Lock). z.mode) e)
    by true is (inr k) = absurd k
    by false is k = absurd k

-- whose lock in a queue it is
pub queue_in : (name : List ℕ) (qs : List Asked) (l : Lock) → In l (queue name qs) → (x : Asked) × In x qs × (name_of x.op ≡ name) × (x.txn ≡ l.txn) × (mode_of x.op ≡ l.mode)
queue_in name qs l h =
    let f = in_flat (λ (x : Asked). lock_on name x.txn x.op) qs l h in
    let o = lock_on_in name f.0.txn f.0.op l f.2 in
    (f.0, f.1, o.0, o.1, o.2)

-- the lock for which an operation waits is in its queue
pub in_queue : (name : List ℕ) (qs : List Asked) (x : Asked) → In x qs → name_of x.op ≡ name → In (lock_of x.txn x.op) (queue name qs)
in_queue name qs x h e =
    in_flat_from (λ (x : Asked). lock_on name x.txn x.op) qs x (lock_of x.txn x.op) h
    (subst (λ z. In (lock_of x.txn x.op) z) (sym (lock_on_one name x.txn x.op e)) (inl refl))
