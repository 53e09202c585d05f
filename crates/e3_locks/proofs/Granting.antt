-- One request of a queue gets its lock.
use Rattle.std.proofs.Common.{◌≡◌, ◌⊎◌, inl, inr, ℕ, suc, ◌+◌, ◌<◌, take, get_or, drop-cons, Bool, true, false, List, [], ◌∷◌, ◌++◌, length, drop, refl, ap, sym, ◌∙◌, subst, arith, append_assoc}
use Rattle.std.specs.List.{list_any, remove}
use Rattle.std.specs.Prelude.{slice_index_or}
use Rattle.std.proofs.lemmas.List.{take-append-drop, take_more, length-take-le}
use Rattle.std.proofs.lemmas.List.{append-nil}
use Rattle.e3_types.specs.declared.locks.Lock.{Lock}
use Rattle.e3_types.specs.Locks.{front, opposes}
use Rattle.e3_types.specs.Same.{same_numbers}
use Rattle.e3_types.proofs.SameSites.{same_numbers_eq}
use Rattle.e3_locks.specs.declared.granted.Granted.{Granted}
use Rattle.e3_locks.specs.LockLists.{lock_of, on}
use Rattle.e3_locks.specs.Fronts.{IsFree}
use Rattle.e3_locks.specs.Places.{Place, advanced}
use Rattle.e3_locks.proofs.Claims.{on_append, on_one, on_other, none_on, some_on}

get_or-append_seam : (xs : List Granted) (x : Granted) (ys : List Granted) (d : Granted) → get_or (xs ++ x ∷ ys) (length xs) d ≡ x
get_or-append_seam [] x ys d = refl
get_or-append_seam (z ∷ zs) x ys d = get_or-append_seam zs x ys d

removed_seam : (xs : List Granted) (x : Granted) (ys : List Granted) → remove (xs ++ x ∷ ys) (length xs) ≡ xs ++ ys
removed_seam [] x ys = refl
removed_seam (z ∷ zs) x ys = ap (λ (l : List Granted). z ∷ l) (removed_seam zs x ys)

-- the first of a queue gets its lock: the place comes to the same
advance_one : (held queue : List Lock) (w : Lock) → list_any (opposes w) held ≡ false
    → advanced (record { held = held; queue = w ∷ queue }) ≡ advanced (record { held = held ++ w ∷ []; queue = queue })
advance_one held queue w e =
    let a : held ++ (w ∷ front (held ++ w ∷ []) queue) ≡ (held ++ w ∷ []) ++ front (held ++ w ∷ []) queue = sym (append_assoc held (w ∷ []) (front (held ++ w ∷ []) queue)) in
    let q : List Lock = drop (length (front (held ++ w ∷ []) queue)) queue in
    let whole : Place = advanced (record { held = held ++ w ∷ []; queue = queue }) in
    rw e (λ i. record { held = a i; queue = q })

-- where nobody may have a lock the place stays
pub stuck : (held queue : List Lock) → front held queue ≡ [] → advanced (record { held = held; queue = queue }) ≡ record { held = held; queue = queue }
stuck held queue e = let a : held ++ [] ≡ held = append-nil held in rw e (λ i. record { held = a i; queue = queue })

-- a request that is free moves to the holders: each name comes to the same
pub granted_one : (held before behind : List Granted) (next : Granted)
    → on next.name before ≡ [] → list_any (opposes (lock_of next)) (on next.name held) ≡ false → (n : List ℕ)
    → advanced (record { held = on n held; queue = on n (before ++ next ∷ behind) })
    ≡ advanced (record { held = on n (held ++ next ∷ []); queue = on n (before ++ behind) })
granted_one held before behind next first free n = by (same_numbers n next.name) refl
  where
    by : (b : Bool) → same_numbers n next.name ≡ b
        → advanced (record { held = on n held; queue = on n (before ++ next ∷ behind) })
        ≡ advanced (record { held = on n (held ++ next ∷ []); queue = on n (before ++ behind) })
    by true e =
        let same : n ≡ next.name = same_numbers_eq n next.name e in
        let P : List ℕ → Type 0 = λ m. on m before ≡ [] in
        let R : List ℕ → Type 0 = λ m. list_any (opposes (lock_of next)) (on m held) ≡ false in
        let none : on n before ≡ [] = subst P (sym same) first in
        let open_ : list_any (opposes (lock_of next)) (on n held) ≡ false = subst R (sym same) free in
        let cons : on n (next ∷ behind) ≡ lock_of next ∷ on n behind = on_append n (next ∷ []) behind ∙ ap (λ (l : List Lock). l ++ on n behind) (on_one n next e) in
        let q : on n (before ++ next ∷ behind) ≡ lock_of next ∷ on n behind = on_append n before (next ∷ behind) ∙ ap (λ (l : List Lock). l ++ on n (next ∷ behind)) none ∙ cons in
        let r : on n (before ++ behind) ≡ on n behind = on_append n before behind ∙ ap (λ (l : List Lock). l ++ on n behind) none in
        let h : on n (held ++ next ∷ []) ≡ on n held ++ lock_of next ∷ [] = on_append n held (next ∷ []) ∙ ap (λ (l : List Lock). on n held ++ l) (on_one n next e) in
        let left : advanced (record { held = on n held; queue = on n (before ++ next ∷ behind) }) ≡ advanced (record { held = on n held; queue = lock_of next ∷ on n behind }) = ap (λ (l : List Lock). advanced (record { held = on n held; queue = l })) q in
        let right : advanced (record { held = on n (held ++ next ∷ []); queue = on n (before ++ behind) }) ≡ advanced (record { held = on n held ++ lock_of next ∷ []; queue = on n behind }) =
        ap (λ (l : List Lock). advanced (record { held = l; queue = on n (before ++ behind) })) h ∙ ap (λ (l : List Lock). advanced (record { held = on n held ++ lock_of next ∷ []; queue = l })) r in
        left ∙ advance_one (on n held) (on n behind) (lock_of next) open_ ∙ sym right
    by false e =
        let cons : on n (next ∷ behind) ≡ on n behind = on_append n (next ∷ []) behind ∙ ap (λ (l : List Lock). l ++ on n behind) (on_other n next e) in
        let q : on n (before ++ next ∷ behind) ≡ on n (before ++ behind) = on_append n before (next ∷ behind) ∙ ap (λ (l : List Lock). on n before ++ l) cons ∙ sym (on_append n before behind) in
        let h : on n (held ++ next ∷ []) ≡ on n held = on_append n held (next ∷ []) ∙ ap (λ (l : List Lock). on n held ++ l) (on_other n next e) ∙ append-nil (on n held) in
        ap (λ (l : List Lock). advanced (record { held = on n held; queue = l })) q ∙ sym (ap (λ (l : List Lock). advanced (record { held = l; queue = on n (before ++ behind) })) h)

-- a request that is not free: its name has one before it, or a holder in its way
pub passed_one : (held before behind : List Granted) (next : Granted)
    → (list_any (λ g. same_numbers next.name g.name) before ≡ true) ⊎ (list_any (opposes (lock_of next)) (on next.name held) ≡ true) → (n : List ℕ)
    → (on n before ≡ []) ⊎ (front (on n held) (on n (before ++ next ∷ behind)) ≡ [])
    → (on n (before ++ next ∷ []) ≡ []) ⊎ (front (on n held) (on n (before ++ next ∷ behind)) ≡ [])
passed_one held before behind next why n (inr stays) = inr stays
passed_one held before behind next why n (inl none) = by (same_numbers n next.name) refl why
  where
    by : (b : Bool) → same_numbers n next.name ≡ b
        → (list_any (λ g. same_numbers next.name g.name) before ≡ true) ⊎ (list_any (opposes (lock_of next)) (on next.name held) ≡ true)
        → (on n (before ++ next ∷ []) ≡ []) ⊎ (front (on n held) (on n (before ++ next ∷ behind)) ≡ [])
    by false e why = inl (on_append n before (next ∷ []) ∙ ap (λ (l : List Lock). on n before ++ l) (on_other n next e) ∙ append-nil (on n before) ∙ none)
    by true e (inl named) =
        let same : n ≡ next.name = same_numbers_eq n next.name e in
        let P : List ℕ → Type 0 = λ m. on m before ≡ [] in
        absurd (some_on next.name before named (subst P same none))
    by true e (inr blocked) =
        let same : n ≡ next.name = same_numbers_eq n next.name e in
        let R : List ℕ → Type 0 = λ m. list_any (opposes (lock_of next)) (on m held) ≡ true in
        let closed_ : list_any (opposes (lock_of next)) (on n held) ≡ true = subst R (sym same) blocked in
        let cons : on n (next ∷ behind) ≡ lock_of next ∷ on n behind = on_append n (next ∷ []) behind ∙ ap (λ (l : List Lock). l ++ on n behind) (on_one n next e) in
        let q : on n (before ++ next ∷ behind) ≡ lock_of next ∷ on n behind = on_append n before (next ∷ behind) ∙ ap (λ (l : List Lock). l ++ on n (next ∷ behind)) none ∙ cons in
        inr (ap (λ (l : List Lock). front (on n held) l) q ∙ rw closed_ refl)

-- a list, in the parts before and behind a place
pub at_place : (xs : List Granted) (k : ℕ) (x : Granted) → k < length xs → x ≡ get_or xs k x → xs ≡ take k xs ++ x ∷ drop (suc k) xs
at_place xs k x lt is =
    sym (take-append-drop k xs) ∙ ap (λ (l : List Granted). take k xs ++ l) (drop-cons xs k x lt ∙ ap (λ (y : Granted). y ∷ drop (suc k) xs) (sym is))

pub take_next : (xs : List Granted) (k : ℕ) (x : Granted) → k < length xs → x ≡ get_or xs k x → take (k + 1) xs ≡ take k xs ++ x ∷ []
take_next xs k x lt is = take_more xs k x lt ∙ ap (λ (y : Granted). take k xs ++ y ∷ []) (sym is)

pub passed_at : (held queue : List Granted) (k : ℕ) (x : Granted) → k < length queue → x ≡ get_or queue k x
    → (list_any (λ g. same_numbers x.name g.name) (take k queue) ≡ true) ⊎ (list_any (opposes (lock_of x)) (on x.name held) ≡ true)
    → ((n : List ℕ) → (on n (take k queue) ≡ []) ⊎ (front (on n held) (on n queue) ≡ []))
    → (n : List ℕ) → (on n (take (k + 1) queue) ≡ []) ⊎ (front (on n held) (on n queue) ≡ [])
passed_at held queue k x lt is why inv n =
    let q : queue ≡ take k queue ++ x ∷ drop (suc k) queue = at_place queue k x lt is in
    let t : take (k + 1) queue ≡ take k queue ++ x ∷ [] = take_next queue k x lt is in
    let P : List Granted → List Granted → Type 0 = λ a b. (on n a ≡ []) ⊎ (front (on n held) (on n b) ≡ []) in
    let old : P (take k queue) (take k queue ++ x ∷ drop (suc k) queue) = subst (λ (b : List Granted). P (take k queue) b) q (inv n) in
    let new : P (take k queue ++ x ∷ []) (take k queue ++ x ∷ drop (suc k) queue) = passed_one held (take k queue) (drop (suc k) queue) x why n old in
    let there : P (take (k + 1) queue) (take k queue ++ x ∷ drop (suc k) queue) = subst (λ (a : List Granted). P a (take k queue ++ x ∷ drop (suc k) queue)) (sym t) new in
    subst (λ (b : List Granted). P (take (k + 1) queue) b) (sym q) there

pub free_at : (held queue : List Granted) (k : ℕ) (x : Granted) → k < length queue → x ≡ get_or queue k x
    → list_any (λ g. same_numbers x.name g.name) (take k queue) ≡ false → list_any (opposes (lock_of x)) (on x.name held) ≡ false → IsFree held queue k
free_at held queue k x lt is named opposed = record {
  before = take k queue;
  next = x;
  behind = drop (suc k) queue;
  parts = at_place queue k x lt is;
  place = length-take-le k queue (omega (arith, lt));
  first = none_on x.name (take k queue) named;
  free = opposed;
}

-- a request that is free is taken out of the queue and held: each name comes to the same
pub moved_one : (held queue more left : List Granted) (k : ℕ) (x : Granted) → IsFree held queue k → x ≡ slice_index_or queue k x
    → more ≡ held ++ x ∷ [] → left ≡ remove queue k → (n : List ℕ)
    → advanced (record { held = on n held; queue = on n queue }) ≡ advanced (record { held = on n more; queue = on n left })
moved_one held queue more left k x f is m e n =
    let whole : queue ≡ f.before ++ f.next ∷ f.behind = f.parts in
    let at_k : get_or (f.before ++ f.next ∷ f.behind) k x ≡ f.next = rw (← f.place) (get_or-append_seam f.before f.next f.behind x) in
    let same : x ≡ f.next = is ∙ ap (λ (l : List Granted). get_or l k x) whole ∙ at_k in
    let gone : left ≡ f.before ++ f.behind = e ∙ ap (λ (l : List Granted). remove l k) whole ∙ rw (← f.place) (removed_seam f.before f.next f.behind) in
    let held_too : more ≡ held ++ f.next ∷ [] = m ∙ ap (λ (y : Granted). held ++ y ∷ []) same in
    ap (λ (l : List Granted). advanced (record { held = on n held; queue = on n l })) whole
    ∙ granted_one held f.before f.behind f.next f.first f.free n
    ∙ sym (ap (λ (l : List Granted). advanced (record { held = on n l; queue = on n left })) held_too ∙ ap (λ (l : List Granted). advanced (record { held = on n (held ++ f.next ∷ []); queue = on n l })) gone)

pub free_there : (h held q queue : List Granted) (k : ℕ) → h ≡ held → q ≡ queue → IsFree h q k → IsFree held queue k
free_there h held q queue k a b f = subst (λ (y : List Granted). IsFree held y k) b (subst (λ (x : List Granted). IsFree x q k) a f)
