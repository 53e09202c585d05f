-- On no name one waits who could have a lock, whatever calls are made.
use Rattle.std.specs.Prelude.{◌≡◌, ◌++◌, ◌∷◌, [], Bool, true, false, List, length, drop}
use Rattle.std.specs.List.{list_any}
use Rattle.std.proofs.Common.{refl, ap, sym, ◌∙◌, append_assoc}
use Rattle.std.proofs.lemmas.List.{append-nil}
use Rattle.e3_types.specs.declared.locks.Grant.{Grant}
use Rattle.e3_types.specs.declared.locks.Grant.TheVariants.{Held, Waits, Dies}
use Rattle.e3_types.specs.declared.locks.Lock.{Lock}
use Rattle.e3_types.specs.declared.transactions.Txn.{Txn}
use Rattle.e3_types.specs.Locks.{is_covered, opposes, against, grant_against, lock_grant, front}
use Rattle.e3_types.specs.Same.{same_txn}
use Rattle.e3_locks.specs.Places.{Place, others_of, without, advanced, released, requested}
use Rattle.e3_locks.specs.Pairs.{AtEach, IsPut}
use Rattle.e3_locks.specs.Standing.{Each}
use Rattle.e3_locks.proofs.Granting.{stuck}

any_more : (w : Lock) (xs ys : List Lock) → list_any (opposes w) xs ≡ true → list_any (opposes w) (xs ++ ys) ≡ true
any_more w [] ys e = cc
any_more w (x ∷ xs) ys e = by (opposes w x) refl e (any_more w xs ys)
  where
    by : (b : Bool) → opposes w x ≡ b → list_any (opposes w) (x ∷ xs) ≡ true → (list_any (opposes w) xs ≡ true → list_any (opposes w) (xs ++ ys) ≡ true)
        → list_any (opposes w) (x ∷ (xs ++ ys)) ≡ true
    by true q e ih = rw q refl
    by false q e ih = let rest : list_any (opposes w) xs ≡ true = rw q at e in rw q (ih rest)

-- where there is no front the first of the queue has a holder in its way
stopped : (held queue : List Lock) (v : Lock) → front held (v ∷ queue) ≡ [] → list_any (opposes v) held ≡ true
stopped held queue v e = by (list_any (opposes v) held) refl e
  where
    by : (b : Bool) → list_any (opposes v) held ≡ b → front held (v ∷ queue) ≡ [] → list_any (opposes v) held ≡ true
    by true q e = q
    by false q e = let bad : v ∷ front (held ++ v ∷ []) queue ≡ [] = rw q at e in cc

still_more : (held ys queue : List Lock) → front held queue ≡ [] → front (held ++ ys) queue ≡ []
still_more held ys [] e = refl
still_more held ys (v ∷ queue) e = let more : list_any (opposes v) (held ++ ys) ≡ true = any_more v held ys (stopped held queue v e) in rw more refl

none_against : (w : Lock) (xs : List Lock) → list_any (opposes w) xs ≡ false → against w xs ≡ []
none_against w [] e = refl
none_against w (x ∷ xs) e = by (opposes w x) refl e (none_against w xs)
  where
    by : (b : Bool) → opposes w x ≡ b → list_any (opposes w) (x ∷ xs) ≡ false → (list_any (opposes w) xs ≡ false → against w xs ≡ []) → against w (x ∷ xs) ≡ []
    by true q e ih = let bad : true ≡ false = rw q at e in cc
    by false q e ih = let rest : list_any (opposes w) xs ≡ false = rw q at e in rw q (ih rest)

-- whoever waits first has a holder in its way
waits_for_one : (w : Lock) (held : List Lock) → Waits ≡ lock_grant w held [] → list_any (opposes w) held ≡ true
waits_for_one w held e = by (list_any (opposes w) held) (is_covered w held) refl refl e
  where
    by : (b c : Bool) → list_any (opposes w) held ≡ b → is_covered w held ≡ c → Waits ≡ lock_grant w held [] → list_any (opposes w) held ≡ true
    by true c q r e = q
    by false true q r e = let bad : Waits ≡ Held = rw r at e in cc
    by false false q r e =
        let none : against w (held ++ []) ≡ [] = ap (against w) (append-nil held) ∙ none_against w held q in
        let waits : Waits ≡ grant_against w.txn (against w (held ++ [])) = rw r at e in
        let bad : Waits ≡ Held = waits ∙ ap (grant_against w.txn) none in cc

still_waits : (w : Lock) (held queue : List Lock) → Waits ≡ lock_grant w held queue → front held queue ≡ [] → front held (queue ++ w ∷ []) ≡ []
still_waits w held [] e f = let stop : list_any (opposes w) held ≡ true = waits_for_one w held e in rw stop refl
still_waits w held (v ∷ queue) e f = let stop : list_any (opposes v) held ≡ true = stopped held queue v f in rw stop refl

abbrev pub IsStill : Place → Type 0
IsStill p = front p.held p.queue ≡ []

pub still_requested : (w : Lock) (p : Place) (g : Grant) → g ≡ lock_grant w p.held p.queue → IsStill p → IsStill (requested w g p)
still_requested w p Held e f = still_more p.held (w ∷ []) p.queue f
still_requested w p Waits e f = still_waits w p.held p.queue e f
still_requested w p (Dies older) e f = f

still_front : (held queue : List Lock) → front (held ++ front held queue) (drop (length (front held queue)) queue) ≡ []
still_front held [] = refl
still_front held (v ∷ queue) = by (list_any (opposes v) held) refl (still_front (held ++ v ∷ []) queue)
  where
    by : (b : Bool) → list_any (opposes v) held ≡ b
        → front ((held ++ v ∷ []) ++ front (held ++ v ∷ []) queue) (drop (length (front (held ++ v ∷ []) queue)) queue) ≡ []
        → front (held ++ front held (v ∷ queue)) (drop (length (front held (v ∷ queue))) (v ∷ queue)) ≡ []
    by true e ih = rw (e, append-nil held, e) refl
    by false e ih =
        let a : held ++ (v ∷ front (held ++ v ∷ []) queue) ≡ (held ++ v ∷ []) ++ front (held ++ v ∷ []) queue = sym (append_assoc held (v ∷ []) (front (held ++ v ∷ []) queue)) in
        rw (e, a) ih

pub still_released : (t : Txn) (p : Place) → IsStill (released t p)
still_released t p = still_front (others_of t p.held) (others_of t p.queue)

-- what holds of each lock of a place holds of each behind a request or a release
each_append : (P : Lock → Type 0) (xs ys : List Lock) → Each P xs → Each P ys → Each P (xs ++ ys)
each_append P [] ys a b = b
each_append P (x ∷ xs) ys a b = (a.0, each_append P xs ys a.1 b)

pub each_requested : (P : Lock → Type 0) (w : Lock) (p : Place) (g : Grant) → (IsPut g → P w) → AtEach P p → AtEach P (requested w g p)
each_requested P w p Held h a = (each_append P p.held (w ∷ []) a.0 (h tt, tt), a.1)
each_requested P w p Waits h a = (a.0, each_append P p.queue (w ∷ []) a.1 (h tt, tt))
each_requested P w p (Dies older) h a = a

each_advanced : (P : Lock → Type 0) (held queue : List Lock) → Each P held → Each P queue
    → AtEach P (record { held = held ++ front held queue; queue = drop (length (front held queue)) queue })
each_advanced P held [] a b = (each_append P held [] a tt, tt)
each_advanced P held (v ∷ queue) a b = by (list_any (opposes v) held) refl (each_advanced P (held ++ v ∷ []) queue (each_append P held (v ∷ []) a (b.0, tt)) b.1)
  where
    by : (c : Bool) → list_any (opposes v) held ≡ c
        → AtEach P (record { held = (held ++ v ∷ []) ++ front (held ++ v ∷ []) queue; queue = drop (length (front (held ++ v ∷ []) queue)) queue })
        → AtEach P (record { held = held ++ front held (v ∷ queue); queue = drop (length (front held (v ∷ queue))) (v ∷ queue) })
    by true e ih = rw e (each_append P held [] a tt, b)
    by false e ih =
        let l : held ++ (v ∷ front (held ++ v ∷ []) queue) ≡ (held ++ v ∷ []) ++ front (held ++ v ∷ []) queue = sym (append_assoc held (v ∷ []) (front (held ++ v ∷ []) queue)) in
        rw (e, l) ih

each_others : (P Q : Lock → Type 0) (t : Txn) (xs : List Lock) → ((l : Lock) → P l → same_txn t l.txn ≡ false → Q l) → Each P xs → Each Q (others_of t xs)
each_others P Q t [] h a = tt
each_others P Q t (x ∷ xs) h a = by (same_txn t x.txn) refl (each_others P Q t xs h a.1)
  where
    by : (b : Bool) → same_txn t x.txn ≡ b → Each Q (others_of t xs) → Each Q (others_of t (x ∷ xs))
    by true e ih = rw e ih
    by false e ih = rw e (h x a.0 e, ih)

pub each_released : (P Q : Lock → Type 0) (t : Txn) (p : Place) → ((l : Lock) → P l → same_txn t l.txn ≡ false → Q l) → AtEach P p → AtEach Q (released t p)
each_released P Q t p h a = each_advanced Q (others_of t p.held) (others_of t p.queue) (each_others P Q t p.held h a.0) (each_others P Q t p.queue h a.1)

pub each_place : (P Q : Lock → Type 0) (p : Place) → ((l : Lock) → P l → Q l) → AtEach P p → AtEach Q p
each_place P Q p h a = (all p.held a.0, all p.queue a.1)
  where
    all : (xs : List Lock) → Each P xs → Each Q xs
    all [] a = tt
    all (x ∷ xs) a = (h x a.0, all xs a.1)

-- a release of a transaction that has nothing on a name leaves it as it is
pub others_all : (t : Txn) (xs : List Lock) → Each (λ l. same_txn t l.txn ≡ false) xs → others_of t xs ≡ xs
others_all t [] a = refl
others_all t (x ∷ xs) a = let e : same_txn t x.txn ≡ false = a.0 in let ih = others_all t xs a.1 in rw (e, ih) refl

pub released_none : (t : Txn) (p : Place) → AtEach (λ l. same_txn t l.txn ≡ false) p → IsStill p → released t p ≡ p
released_none t p a s =
    let h : others_of t p.held ≡ p.held = others_all t p.held a.0 in
    let q : others_of t p.queue ≡ p.queue = others_all t p.queue a.1 in
    let w : without t p ≡ p = λ i. record { held = h i; queue = q i } in
    ap advanced w ∙ stuck p.held p.queue s

each_any : (p : List Lock) → Each (λ l. Unit {0}) p
each_any [] = tt
each_any (x ∷ xs) = (tt, each_any xs)

pub released_twice : (t : Txn) (p : Place) → released t (released t p) ≡ released t p
released_twice t p =
    released_none t (released t p) (each_released (λ l. Unit {0}) (λ l. same_txn t l.txn ≡ false) t p (λ l u e. e) (each_any p.held, each_any p.queue)) (still_released t p)
