-- A request, and a list of calls, seen as the locks of each name.
use Rattle.std.proofs.Common.{◌≡◌, ℕ, ◌+◌, ◌<◌, Bool, true, false, List, [], ◌∷◌, ◌++◌, length, take, get_or, refl, ap, sym, ◌∙◌, arith, append_assoc}
use Rattle.std.specs.List.{flat_map}
use Rattle.std.proofs.lemmas.Grind.{common_steps}
use Rattle.std.proofs.lemmas.List.{append-nil, take_more}
use Rattle.e3_types.specs.declared.locks.Grant.{Grant}
use Rattle.e3_types.specs.declared.locks.Grant.TheVariants.{Held, Waits, Dies}
use Rattle.e3_types.specs.declared.locks.Lock.{Lock}
use Rattle.e3_types.specs.Same.{same_numbers}
use Rattle.e3_locks.specs.declared.granted.Granted.{Granted}
use Rattle.e3_locks.specs.declared.replays.LockCall.{LockCall}
use Rattle.e3_locks.specs.LockLists.{lock_of, on, held_with, queue_with}
use Rattle.e3_locks.specs.Replays.{Places, with_request, after_call, after_calls, answer_to, answers_to}
use Rattle.e3_locks.proofs.Claims.{on_append, on_one, on_other}

pub same_turned : (xs ys : List ℕ) → same_numbers xs ys ≡ same_numbers ys xs
same_turned [] [] = refl
same_turned (x ∷ xs) (y ∷ ys) = let ih = same_turned xs ys in grind (arith, common_steps, ih)
same_turned [] (y ∷ ys) = refl
same_turned (x ∷ xs) [] = refl

one_more : (name : List ℕ) (locks : List Granted) (x : Granted) → same_numbers name x.name ≡ true → on name (locks ++ x ∷ []) ≡ on name locks ++ lock_of x ∷ []
one_more name locks x e = on_append name locks (x ∷ []) ∙ ap (λ (l : List Lock). on name locks ++ l) (on_one name x e)

no_more : (name : List ℕ) (locks : List Granted) (x : Granted) → same_numbers name x.name ≡ false → on name (locks ++ x ∷ []) ≡ on name locks
no_more name locks x e = on_append name locks (x ∷ []) ∙ ap (λ (l : List Lock). on name locks ++ l) (on_other name x e) ∙ append-nil (on name locks)

-- the locks of each name behind a request
pub requested_lists : (held queue : List Granted) (x : Granted) (g : Grant) (n : List ℕ)
    → record { held = on n (held_with g x held); queue = on n (queue_with g x queue) }
    ≡ with_request x.name (lock_of x) g (λ m. record { held = on m held; queue = on m queue }) n
requested_lists held queue x g n = by g (same_numbers n x.name) refl (same_turned x.name n)
  where
    by : (g : Grant) (b : Bool) → same_numbers n x.name ≡ b → same_numbers x.name n ≡ same_numbers n x.name
        → record { held = on n (held_with g x held); queue = on n (queue_with g x queue) }
        ≡ with_request x.name (lock_of x) g (λ m. record { held = on m held; queue = on m queue }) n
    by Held true e t = let h = one_more n held x e in let u : same_numbers x.name n ≡ true = t ∙ e in rw u (λ i. record { held = h i; queue = on n queue })
    by Held false e t = let h = no_more n held x e in let u : same_numbers x.name n ≡ false = t ∙ e in rw u (λ i. record { held = h i; queue = on n queue })
    by Waits true e t = let q = one_more n queue x e in let u : same_numbers x.name n ≡ true = t ∙ e in rw u (λ i. record { held = on n held; queue = q i })
    by Waits false e t = let q = no_more n queue x e in let u : same_numbers x.name n ≡ false = t ∙ e in rw u (λ i. record { held = on n held; queue = q i })
    by (Dies older) true e t = let u : same_numbers x.name n ≡ true = t ∙ e in rw u refl
    by (Dies older) false e t = let u : same_numbers x.name n ≡ false = t ∙ e in rw u refl

pub after_more : (P : Places) (xs : List LockCall) (c : LockCall) → after_calls P (xs ++ c ∷ []) ≡ after_call (after_calls P xs) c
after_more P [] c = refl
after_more P (x ∷ xs) c = after_more (after_call P x) xs c

pub answers_more : (P : Places) (xs : List LockCall) (c : LockCall) → answers_to P (xs ++ c ∷ []) ≡ answers_to P xs ++ answer_to (after_calls P xs) c
answers_more P [] c = append-nil (answer_to P c)
answers_more P (x ∷ xs) c =
    ap (λ (l : List Grant). answer_to P x ++ l) (answers_more (after_call P x) xs c)
    ∙ sym (append_assoc (answer_to P x) (answers_to (after_call P x) xs) (answer_to (after_calls (after_call P x) xs) c))

pub next_call : (xs : List LockCall) (k : ℕ) (x : LockCall) → k < length xs → x ≡ get_or xs k x → take (k + 1) xs ≡ take k xs ++ x ∷ []
next_call xs k x lt is = take_more xs k x lt ∙ ap (λ (y : LockCall). take k xs ++ y ∷ []) (sym is)

-- the places behind one call more
pub places_step : (P Q R : Places) (xs : List LockCall) (k : ℕ) (x : LockCall) → take (k + 1) xs ≡ take k xs ++ x ∷ []
    → ((n : List ℕ) → Q n ≡ after_calls P (take k xs) n) → ((n : List ℕ) → R n ≡ after_call Q x n) → (n : List ℕ) → R n ≡ after_calls P (take (k + 1) xs) n
places_step P Q R xs k x t before now n =
    let same : Q ≡ after_calls P (take k xs) = λ i m. before m i in
    now n ∙ ap (λ (S : Places). after_call S x n) same ∙ sym (ap (λ (S : Places). S n) (ap (λ (l : List LockCall). after_calls P l) t ∙ after_more P (take k xs) x))

-- the answers with those of one call more
pub answers_step : (P Q : Places) (xs : List LockCall) (k : ℕ) (x : LockCall) (gs more : List Grant) → take (k + 1) xs ≡ take k xs ++ x ∷ []
    → ((n : List ℕ) → Q n ≡ after_calls P (take k xs) n) → gs ≡ answers_to P (take k xs) → more ≡ gs ++ answer_to Q x → more ≡ answers_to P (take (k + 1) xs)
answers_step P Q xs k x gs more t before so_far now =
    let same : Q ≡ after_calls P (take k xs) = λ i m. before m i in
    now ∙ ap (λ (l : List Grant). l ++ answer_to Q x) so_far ∙ ap (λ (S : Places). answers_to P (take k xs) ++ answer_to S x) same
    ∙ sym (ap (λ (l : List LockCall). answers_to P l) t ∙ answers_more P (take k xs) x)

-- one more piece of a flat_map
pub flat_more : {X Y : Type 0} (f : X → List Y) (xs : List X) (i : ℕ) (x : X) → i < length xs → x ≡ get_or xs i x
    → flat_map f (take (i + 1) xs) ≡ flat_map f (take i xs) ++ f x
flat_more f xs i x h e = grind (arith, common_steps, h, e)
