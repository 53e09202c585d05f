-- Requests wait for younger transactions alone, whatever calls are made.
use Rattle.std.specs.Prelude.{◌≡◌, ◌&&◌, ◌++◌, ◌∷◌, [], Bool, true, false, not, List, length, drop, fold}
use Rattle.std.specs.List.{list_any, list_all, flat_map}
use Rattle.std.proofs.Common.{refl, ap, sym, ◌∙◌, subst, arith, append_assoc, ℕ}
use Rattle.std.proofs.lemmas.Grind.{common_steps}
use Rattle.std.proofs.lemmas.List.{append-nil}
use Rattle.std.proofs.lemmas.List.Folds.{list_all-append}
use Rattle.e3_types.specs.declared.locks.Grant.{Grant}
use Rattle.e3_types.specs.declared.locks.Grant.TheVariants.{Held, Waits, Dies}
use Rattle.e3_types.specs.declared.locks.Lock.{Lock}
use Rattle.e3_types.specs.declared.locks.Mode.{Mode}
use Rattle.e3_types.specs.declared.locks.Mode.TheVariants.{Shared, Exclusive}
use Rattle.e3_types.specs.declared.transactions.Txn.{Txn}
use Rattle.e3_types.specs.Locks.{conflicts, covers, is_covered, opposes, against, grant_against, lock_grant, front}
use Rattle.e3_types.specs.Same.{same_txn, same_numbers, is_older, oldest}
use Rattle.e3_types.proofs.SameSites.{same_numbers_refl, same_numbers_eq}
use Rattle.e3_world.specs.Items.{add_txn}
use Rattle.e3_locks.specs.Places.{Place, others_of, released, requested}
use Rattle.e3_locks.specs.declared.granted.Granted.{Granted}
use Rattle.e3_locks.specs.LockLists.{LockLists, lock_of, on, place, names_of, held_with, queue_with}
use Rattle.e3_locks.specs.Replays.{with_request}
use Rattle.e3_locks.specs.Waiting.{awaited, awaited_at, waits_for, is_fair}
use Rattle.e3_locks.proofs.Grants.{against_append}
use Rattle.e3_locks.proofs.Requests.{requested_lists}

left : (a b : Bool) → (a && b) ≡ true → a ≡ true
left true b e = refl
left false b e = e

right : (a b : Bool) → (a && b) ≡ true → b ≡ true
right true b e = e
right false b e = cc

both : (a b : Bool) → a ≡ true → b ≡ true → (a && b) ≡ true
both a b p q = rw (p, q) refl

-- all whom the lock is against among these are younger
abbrev pub younger : Lock → List Lock → Bool
younger w locks = list_all (is_older w.txn) (against w locks)

younger_cons : (w l : Lock) (xs : List Lock) → younger w (l ∷ xs) ≡ (younger w (l ∷ []) && younger w xs)
younger_cons w l xs = by (opposes w l) refl
  where
    and_true : (a : Bool) → a ≡ (a && true)
    and_true true = refl
    and_true false = refl

    pass : (a b : Bool) → (a && b) ≡ ((a && true) && b)
    pass true b = refl
    pass false b = refl

    by : (b : Bool) → opposes w l ≡ b → younger w (l ∷ xs) ≡ (younger w (l ∷ []) && younger w xs)
    by true e = rw e (pass (is_older w.txn l.txn) (younger w xs))
    by false e = rw e refl

and_assoc : (a b c : Bool) → (a && (b && c)) ≡ ((a && b) && c)
and_assoc true b c = refl
and_assoc false b c = refl

younger_append : (w : Lock) (xs ys : List Lock) → younger w (xs ++ ys) ≡ (younger w xs && younger w ys)
younger_append w [] ys = refl
younger_append w (x ∷ xs) ys =
    younger_cons w x (xs ++ ys) ∙ ap (λ (b : Bool). younger w (x ∷ []) && b) (younger_append w xs ys)
    ∙ and_assoc (younger w (x ∷ [])) (younger w xs) (younger w ys) ∙ ap (λ (b : Bool). b && younger w ys) (sym (younger_cons w x xs))

joined : (w : Lock) (xs ys : List Lock) → younger w xs ≡ true → younger w ys ≡ true → younger w (xs ++ ys) ≡ true
joined w xs ys p q = younger_append w xs ys ∙ both (younger w xs) (younger w ys) p q

first : (w : Lock) (xs ys : List Lock) → younger w (xs ++ ys) ≡ true → younger w xs ≡ true
first w xs ys e = left (younger w xs) (younger w ys) (sym (younger_append w xs ys) ∙ e)

second : (w : Lock) (xs ys : List Lock) → younger w (xs ++ ys) ≡ true → younger w ys ≡ true
second w xs ys e = right (younger w xs) (younger w ys) (sym (younger_append w xs ys) ∙ e)

-- what is ahead of a queue may change, so long as nobody older comes
fair_under : (ahead behind more queue : List Lock)
    → ((w : Lock) → younger w ahead ≡ true → younger w more ≡ true → younger w behind ≡ true)
    → list_all (λ w. younger w more) queue ≡ true → is_fair ahead queue ≡ true → is_fair behind queue ≡ true
fair_under ahead behind more [] h e f = refl
fair_under ahead behind more (v ∷ queue) h e f =
    let own : younger v more ≡ true = left (younger v more) (list_all (λ w. younger w more) queue) e in
    let rest : list_all (λ w. younger w more) queue ≡ true = right (younger v more) (list_all (λ w. younger w more) queue) e in
    let here : younger v ahead ≡ true = left (younger v ahead) (is_fair (ahead ++ v ∷ []) queue) f in
    let later : is_fair (ahead ++ v ∷ []) queue ≡ true = right (younger v ahead) (is_fair (ahead ++ v ∷ []) queue) f in
    both (younger v behind) (is_fair (behind ++ v ∷ []) queue) (h v here own)
    (fair_under (ahead ++ v ∷ []) (behind ++ v ∷ []) more queue
    (λ w p q. joined w behind (v ∷ []) (h w (first w ahead (v ∷ []) p) q) (second w ahead (v ∷ []) p)) rest later)

-- those who leave are in nobody's way
fair_less : (t : Txn) (ahead behind queue : List Lock) → ((w : Lock) → younger w ahead ≡ true → younger w behind ≡ true)
    → is_fair ahead queue ≡ true → is_fair behind (others_of t queue) ≡ true
fair_less t ahead behind [] h f = refl
fair_less t ahead behind (v ∷ queue) h f =
    by (same_txn t v.txn) refl (left (younger v ahead) (is_fair (ahead ++ v ∷ []) queue) f)
    (fair_less t (ahead ++ v ∷ []) behind queue (λ w p. h w (first w ahead (v ∷ []) p)) (right (younger v ahead) (is_fair (ahead ++ v ∷ []) queue) f))
    (fair_less t (ahead ++ v ∷ []) (behind ++ v ∷ []) queue
    (λ w p. joined w behind (v ∷ []) (h w (first w ahead (v ∷ []) p)) (second w ahead (v ∷ []) p)) (right (younger v ahead) (is_fair (ahead ++ v ∷ []) queue) f))
  where
    by : (b : Bool) → same_txn t v.txn ≡ b → younger v ahead ≡ true → is_fair behind (others_of t queue) ≡ true
        → is_fair (behind ++ v ∷ []) (others_of t queue) ≡ true → is_fair behind (others_of t (v ∷ queue)) ≡ true
    by true e here gone stays = rw e gone
    by false e here gone stays = rw e (both (younger v behind) (is_fair (behind ++ v ∷ []) (others_of t queue)) (h v here) stays)

younger_others : (t : Txn) (w : Lock) (xs : List Lock) → younger w xs ≡ true → younger w (others_of t xs) ≡ true
younger_others t w [] e = refl
younger_others t w (x ∷ xs) e =
    by (same_txn t x.txn) refl (younger_others t w xs (second w (x ∷ []) xs e))
  where
    by : (b : Bool) → same_txn t x.txn ≡ b → younger w (others_of t xs) ≡ true → younger w (others_of t (x ∷ xs)) ≡ true
    by true f ih = rw f ih
    by false f ih = rw f (joined w (x ∷ []) (others_of t xs) (first w (x ∷ []) xs e) ih)

-- a front that gets its locks is then among the holders
fair_front : (held queue : List Lock) → is_fair held queue ≡ true → is_fair (held ++ front held queue) (drop (length (front held queue)) queue) ≡ true
fair_front held [] f = refl
fair_front held (v ∷ queue) f = by (list_any (opposes v) held) refl (fair_front (held ++ v ∷ []) queue (right (younger v held) (is_fair (held ++ v ∷ []) queue) f))
  where
    by : (b : Bool) → list_any (opposes v) held ≡ b
        → is_fair ((held ++ v ∷ []) ++ front (held ++ v ∷ []) queue) (drop (length (front (held ++ v ∷ []) queue)) queue) ≡ true
        → is_fair (held ++ front held (v ∷ queue)) (drop (length (front held (v ∷ queue))) (v ∷ queue)) ≡ true
    by true e ih = rw (e, append-nil held) f
    by false e ih =
        let a : held ++ (v ∷ front (held ++ v ∷ []) queue) ≡ (held ++ v ∷ []) ++ front (held ++ v ∷ []) queue = sym (append_assoc held (v ∷ []) (front (held ++ v ∷ []) queue)) in
        rw (e, a) ih

-- a release keeps a place fair
pub fair_released : (t : Txn) (p : Place) → is_fair p.held p.queue ≡ true → is_fair (released t p).held (released t p).queue ≡ true
fair_released t p f =
    fair_front (others_of t p.held) (others_of t p.queue) (fair_less t p.held (others_of t p.held) p.queue (λ w e. younger_others t w p.held e) f)

-- a request that waits is older than all whom it is against
fair_waits : (w : Lock) (held queue : List Lock) → younger w held ≡ true → younger w queue ≡ true → is_fair held queue ≡ true → is_fair held (queue ++ w ∷ []) ≡ true
fair_waits w held [] p q f = both (younger w held) true p refl
fair_waits w held (v ∷ queue) p q f =
    both (younger v held) (is_fair (held ++ v ∷ []) (queue ++ w ∷ [])) (left (younger v held) (is_fair (held ++ v ∷ []) queue) f)
    (fair_waits w (held ++ v ∷ []) queue (joined w held (v ∷ []) p (first w (v ∷ []) queue q)) (second w (v ∷ []) queue q)
    (right (younger v held) (is_fair (held ++ v ∷ []) queue) f))

-- each request of a fair queue is older than the holders in its way
fair_ahead : (ahead queue : List Lock) → is_fair ahead queue ≡ true → list_all (λ w. younger w ahead) queue ≡ true
fair_ahead ahead [] f = refl
fair_ahead ahead (v ∷ queue) f =
    both (younger v ahead) (list_all (λ w. younger w ahead) queue) (left (younger v ahead) (is_fair (ahead ++ v ∷ []) queue) f)
    (weaker queue (fair_ahead (ahead ++ v ∷ []) queue (right (younger v ahead) (is_fair (ahead ++ v ∷ []) queue) f)))
  where
    weaker : (ws : List Lock) → list_all (λ w. younger w (ahead ++ v ∷ [])) ws ≡ true → list_all (λ w. younger w ahead) ws ≡ true
    weaker [] e = refl
    weaker (w ∷ ws) e =
        both (younger w ahead) (list_all (λ w. younger w ahead) ws) (first w ahead (v ∷ []) (left (younger w (ahead ++ v ∷ [])) (list_all (λ w. younger w (ahead ++ v ∷ [])) ws) e))
        (weaker ws (right (younger w (ahead ++ v ∷ [])) (list_all (λ w. younger w (ahead ++ v ∷ [])) ws) e))

same_txn_eq : (t u : Txn) → same_txn t u ≡ true → t ≡ u
same_txn_eq t u e = let sites = same_numbers_eq t.sites u.sites in grind (arith, common_steps, sites, e)

same_txn_refl : (t : Txn) → same_txn t t ≡ true
same_txn_refl t = let e = same_numbers_refl t.sites in grind (arith, common_steps, e)

turned : (t u : Txn) → same_txn t u ≡ false → same_txn u t ≡ false
turned t u e = by (same_txn u t) refl
  where
    by : (b : Bool) → same_txn u t ≡ b → same_txn u t ≡ false
    by true f = let P : Txn → Type 0 = λ x. same_txn t x ≡ false in let g : same_txn t t ≡ false = subst P (same_txn_eq u t f) e in let r = same_txn_refl t in cc
    by false f = f

modes_turned : (m n : Mode) → conflicts m n ≡ conflicts n m
modes_turned Shared Shared = refl
modes_turned Shared Exclusive = refl
modes_turned Exclusive Shared = refl
modes_turned Exclusive Exclusive = refl

covers_more : (m n k : Mode) → covers m n ≡ true → conflicts n k ≡ true → conflicts m k ≡ true
covers_more Exclusive n Shared e f = refl
covers_more Exclusive n Exclusive e f = refl
covers_more Shared Shared k e f = f
covers_more Shared Exclusive k e f = cc

same_turned : (t u : Txn) → same_txn t u ≡ same_txn u t
same_turned t u = by (same_txn t u) (same_txn u t) refl refl
  where
    by : (b c : Bool) → same_txn t u ≡ b → same_txn u t ≡ c → same_txn t u ≡ same_txn u t
    by true true e f = e ∙ sym f
    by false false e f = e ∙ sym f
    by true false e f = let g = turned u t f in cc
    by false true e f = let g = turned t u e in cc

opposes_turned : (v w : Lock) → opposes v w ≡ opposes w v
opposes_turned v w =
    ap (λ (b : Bool). not b && conflicts w.mode v.mode) (same_turned w.txn v.txn) ∙ ap (λ (b : Bool). not (same_txn v.txn w.txn) && b) (modes_turned w.mode v.mode)

younger_apart : (v w : Lock) → opposes v w ≡ false → younger v (w ∷ []) ≡ true
younger_apart v w e = rw e refl

-- nobody in a queue minds a lock that is against nobody there
all_apart : (w : Lock) (queue : List Lock) → against w queue ≡ [] → list_all (λ v. younger v (w ∷ [])) queue ≡ true
all_apart w [] e = refl
all_apart w (v ∷ queue) e = by (opposes w v) refl e (λ q. all_apart w queue q)
  where
    by : (b : Bool) → opposes w v ≡ b → against w (v ∷ queue) ≡ [] → (against w queue ≡ [] → list_all (λ v. younger v (w ∷ [])) queue ≡ true)
        → list_all (λ v. younger v (w ∷ [])) (v ∷ queue) ≡ true
    by true f q rest = let some : v.txn ∷ against w queue ≡ [] = rw f at q in cc
    by false f q rest =
        let none : against w queue ≡ [] = rw f at q in
        both (younger v (w ∷ [])) (list_all (λ v. younger v (w ∷ [])) queue) (younger_apart v w (opposes_turned v w ∙ f)) (rest none)

-- nor one that its own transaction's lock covers
covered_by : (l w v : Lock) → (same_txn l.txn w.txn && covers l.mode w.mode) ≡ true → younger v (l ∷ []) ≡ true → younger v (w ∷ []) ≡ true
covered_by l w v e y = by (opposes v w) refl
  where
    own : l.txn ≡ w.txn
    own = same_txn_eq l.txn w.txn (left (same_txn l.txn w.txn) (covers l.mode w.mode) e)

    by : (b : Bool) → opposes v w ≡ b → younger v (w ∷ []) ≡ true
    by false f = younger_apart v w f
    by true f =
        let other : not (same_txn w.txn v.txn) ≡ true = left (not (same_txn w.txn v.txn)) (conflicts w.mode v.mode) f in
        let clash : conflicts w.mode v.mode ≡ true = right (not (same_txn w.txn v.txn)) (conflicts w.mode v.mode) f in
        let P : Txn → Type 0 = λ t. not (same_txn t v.txn) ≡ true in
        let against_l : opposes v l ≡ true =
        both (not (same_txn l.txn v.txn)) (conflicts l.mode v.mode) (subst P (sym own) other)
        (covers_more l.mode w.mode v.mode (right (same_txn l.txn w.txn) (covers l.mode w.mode) e) clash) in
        let older : (is_older v.txn l.txn && true) ≡ true = rw against_l at y in
        let R : Txn → Type 0 = λ t. is_older v.txn t ≡ true in
        let older_w : is_older v.txn w.txn ≡ true = subst R own (left (is_older v.txn l.txn) true older) in
        rw f (both (is_older v.txn w.txn) true older_w refl)

covered : (w v : Lock) (held : List Lock) → is_covered w held ≡ true → younger v held ≡ true → younger v (w ∷ []) ≡ true
covered w v [] e y = cc
covered w v (l ∷ held) e y = by (same_txn l.txn w.txn && covers l.mode w.mode) refl e (λ q. covered w v held q (second v (l ∷ []) held y))
  where
    by : (b : Bool) → (same_txn l.txn w.txn && covers l.mode w.mode) ≡ b → is_covered w (l ∷ held) ≡ true
        → (is_covered w held ≡ true → younger v (w ∷ []) ≡ true) → younger v (w ∷ []) ≡ true
    by true f q rest = covered_by l w v f (first v (l ∷ []) held y)
    by false f q rest = let later : is_covered w held ≡ true = rw f at q in rest later

all_covered : (w : Lock) (held queue : List Lock) → is_covered w held ≡ true → list_all (λ v. younger v held) queue ≡ true → list_all (λ v. younger v (w ∷ [])) queue ≡ true
all_covered w held [] e f = refl
all_covered w held (v ∷ queue) e f =
    both (younger v (w ∷ [])) (list_all (λ v. younger v (w ∷ [])) queue) (covered w v held e (left (younger v held) (list_all (λ v. younger v held) queue) f))
    (all_covered w held queue e (right (younger v held) (list_all (λ v. younger v held) queue) f))

none_against : (t : Txn) (us : List Txn) → Held ≡ grant_against t us → us ≡ []
none_against t [] e = refl
none_against t (u ∷ us) e = by (list_all (is_older t) (u ∷ us)) refl e
  where
    by : (b : Bool) → list_all (is_older t) (u ∷ us) ≡ b → Held ≡ grant_against t (u ∷ us) → u ∷ us ≡ []
    by true f q = let bad : Held ≡ Waits = rw f at q in cc
    by false f q = let bad : Held ≡ Dies (oldest u us) = rw f at q in cc

all_younger : (t : Txn) (us : List Txn) → Waits ≡ grant_against t us → list_all (is_older t) us ≡ true
all_younger t [] e = refl
all_younger t (u ∷ us) e = by (list_all (is_older t) (u ∷ us)) refl e
  where
    by : (b : Bool) → list_all (is_older t) (u ∷ us) ≡ b → Waits ≡ grant_against t (u ∷ us) → list_all (is_older t) (u ∷ us) ≡ true
    by true f q = f
    by false f q = let bad : Waits ≡ Dies (oldest u us) = rw f at q in cc

empty_behind : (xs ys : List Txn) → xs ++ ys ≡ [] → ys ≡ []
empty_behind [] ys e = e
empty_behind (x ∷ xs) ys e = cc

-- a request that is answered by the rule keeps a place fair
pub fair_requested : (w : Lock) (p : Place) (g : Grant) → g ≡ lock_grant w p.held p.queue → is_fair p.held p.queue ≡ true
    → is_fair (requested w g p).held (requested w g p).queue ≡ true
fair_requested w p Held e f =
    fair_under p.held (p.held ++ w ∷ []) (w ∷ []) p.queue (λ v q r. joined v p.held (w ∷ []) q r) (more (is_covered w p.held) refl e) f
  where
    more : (b : Bool) → is_covered w p.held ≡ b → Held ≡ lock_grant w p.held p.queue → list_all (λ v. younger v (w ∷ [])) p.queue ≡ true
    more true c q = all_covered w p.held p.queue c (fair_ahead p.held p.queue f)
    more false c q =
        let free : Held ≡ grant_against w.txn (against w (p.held ++ p.queue)) = rw c at q in
        let none : against w (p.held ++ p.queue) ≡ [] = none_against w.txn (against w (p.held ++ p.queue)) free in
        all_apart w p.queue (empty_behind (against w p.held) (against w p.queue) (sym (against_append w p.held p.queue) ∙ none))
fair_requested w p Waits e f = by (is_covered w p.held) refl e
  where
    by : (b : Bool) → is_covered w p.held ≡ b → Waits ≡ lock_grant w p.held p.queue → is_fair p.held (p.queue ++ w ∷ []) ≡ true
    by true c q = let bad : Waits ≡ Held = rw c at q in cc
    by false c q =
        let waits : Waits ≡ grant_against w.txn (against w (p.held ++ p.queue)) = rw c at q in
        let all : younger w (p.held ++ p.queue) ≡ true = all_younger w.txn (against w (p.held ++ p.queue)) waits in
        fair_waits w p.held p.queue (first w p.held p.queue all) (second w p.held p.queue all) f
fair_requested w p (Dies older) e f = f

-- whom a fair queue's requests wait for is younger
pub awaited_younger : (t : Txn) (ahead queue : List Lock) → is_fair ahead queue ≡ true → list_all (is_older t) (awaited t ahead queue) ≡ true
awaited_younger t ahead [] f = refl
awaited_younger t ahead (w ∷ queue) f = by (same_txn t w.txn) refl (awaited_younger t (ahead ++ w ∷ []) queue (right (younger w ahead) (is_fair (ahead ++ w ∷ []) queue) f))
  where
    by : (b : Bool) → same_txn t w.txn ≡ b → list_all (is_older t) (awaited t (ahead ++ w ∷ []) queue) ≡ true → list_all (is_older t) (awaited t ahead (w ∷ queue)) ≡ true
    by false e ih = rw e ih
    by true e ih =
        let P : Txn → Type 0 = λ u. list_all (is_older u) (against w ahead) ≡ true in
        let here : list_all (is_older t) (against w ahead) ≡ true = subst P (sym (same_txn_eq t w.txn e)) (left (younger w ahead) (is_fair (ahead ++ w ∷ []) queue) f) in
        let rest : List Txn = awaited t (ahead ++ w ∷ []) queue in
        rw e (list_all-append (is_older t) (against w ahead) rest ∙ both (list_all (is_older t) (against w ahead)) (list_all (is_older t) rest) here ih)

add_all : (p : Txn → Bool) (new : Txn) (ts : List Txn) → list_all p ts ≡ true → p new ≡ true → list_all p (add_txn ts new) ≡ true
add_all p new [] e f = both (p new) true f refl
add_all p new (t ∷ ts) e f = by (same_txn t new) (is_older new t) refl refl (add_all p new ts (right (p t) (list_all p ts) e) f)
  where
    by : (b c : Bool) → same_txn t new ≡ b → is_older new t ≡ c → list_all p (add_txn ts new) ≡ true → list_all p (add_txn (t ∷ ts) new) ≡ true
    by true c q r ih = rw q e
    by false true q r ih = rw (q, r) (both (p new) (p t && list_all p ts) f e)
    by false false q r ih = rw (q, r) (both (p t) (list_all p (add_txn ts new)) (left (p t) (list_all p ts) e) ih)

pub fold_all : (p : Txn → Bool) (ts xs : List Txn) → list_all p ts ≡ true → list_all p xs ≡ true → list_all p (fold add_txn ts xs) ≡ true
fold_all p ts [] e f = e
fold_all p ts (x ∷ xs) e f = fold_all p (add_txn ts x) xs (add_all p x ts e (left (p x) (list_all p xs) f)) (right (p x) (list_all p xs) f)

flat_all : (p : Txn → Bool) (f : List ℕ → List Txn) (names : List (List ℕ)) → ((n : List ℕ) → list_all p (f n) ≡ true) → list_all p (flat_map f names) ≡ true
flat_all p f [] e = refl
flat_all p f (n ∷ ns) e = list_all-append p (f n) (flat_map f ns) ∙ both (list_all p (f n)) (list_all p (flat_map f ns)) (e n) (flat_all p f ns e)

-- in a table whose places are fair, whoever is waited for is younger
pub waits_younger : (t : Txn) (l : LockLists) → ((n : List ℕ) → is_fair (on n l.held) (on n l.queue) ≡ true) → list_all (is_older t) (waits_for t l) ≡ true
waits_younger t l fair =
    fold_all (is_older t) [] (flat_map (λ name. awaited_at t (place name l)) (names_of l.queue)) refl
    (flat_all (is_older t) (λ name. awaited_at t (place name l)) (names_of l.queue) (λ n. awaited_younger t (on n l.held) (on n l.queue) (fair n)))

-- the locks of all names behind a request that is answered by the rule
pub fair_with : (held queue : List Granted) (x : Granted) (g : Grant) → g ≡ lock_grant (lock_of x) (on x.name held) (on x.name queue)
    → ((n : List ℕ) → is_fair (on n held) (on n queue) ≡ true) → (n : List ℕ) → is_fair (on n (held_with g x held)) (on n (queue_with g x queue)) ≡ true
fair_with held queue x g e fair n =
    let P : Place → Type 0 = λ p. is_fair p.held p.queue ≡ true in
    subst P (sym (requested_lists held queue x g n)) (by (same_numbers x.name n) refl)
  where
    by : (b : Bool) → same_numbers x.name n ≡ b
        → is_fair (with_request x.name (lock_of x) g (λ m. record { held = on m held; queue = on m queue }) n).held
        (with_request x.name (lock_of x) g (λ m. record { held = on m held; queue = on m queue }) n).queue ≡ true
    by false q = rw q (fair n)
    by true q =
        let R : List ℕ → Type 0 = λ m. g ≡ lock_grant (lock_of x) (on m held) (on m queue) in
        rw q (fair_requested (lock_of x) (record { held = on n held; queue = on n queue }) g (subst R (same_numbers_eq x.name n q) e) (fair n))
