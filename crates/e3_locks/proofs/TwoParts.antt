-- The one vector of a place, in its two parts.
use Rattle.std.specs.Prelude.{◌≡◌, ◌+◌, ◌≤◌, ◌++◌, ◌∷◌, [], ℕ, not, List, length, take, drop}
use Rattle.std.specs.List.{insert}
use Rattle.std.proofs.Common.{refl, ap, sym, ◌∙◌, arith, append_assoc}
use Rattle.std.proofs.lemmas.Grind.{common_steps}
use Rattle.std.proofs.lemmas.List.{length-take-le}
use Rattle.std.proofs.lemmas.List.Elements.{filter-append}
use Rattle.e3_types.specs.declared.locks.Lock.{Lock}
use Rattle.e3_types.specs.declared.transactions.Txn.{Txn}
use Rattle.e3_types.specs.Locks.{front}
use Rattle.e3_types.specs.Same.{same_txn}
use Rattle.e3_locks.specs.Places.{Place, others_of, without, advanced, requested}
use Rattle.e3_types.specs.declared.locks.Grant.TheVariants.{Held}

take_front : (xs ys : List Lock) → take (length xs) (xs ++ ys) ≡ xs
take_front [] ys = grind (arith, common_steps)
take_front (x ∷ xs) ys = ap (λ (l : List Lock). x ∷ l) (take_front xs ys)

drop_front : (xs ys : List Lock) → drop (length xs) (xs ++ ys) ≡ ys
drop_front [] ys = grind (arith, common_steps)
drop_front (x ∷ xs) ys = drop_front xs ys

both : (xs : List Lock) (h : ℕ) → xs ≡ take h xs ++ drop h xs
both xs h = grind (arith, common_steps)

abbrev pub view : List Lock → ℕ → Place
view xs h = record { held = take h xs; queue = drop h xs }

-- a vector of two parts, cut where the first ends
pub cut : (xs ys zs : List Lock) (h : ℕ) (p : Place) → zs ≡ xs ++ ys → h ≡ length xs → p.held ≡ xs → p.queue ≡ ys
    → view zs h ≡ p
cut xs ys zs h p e f g k =
    let held : take h zs ≡ p.held = ap (λ (l : List Lock). take h l) e ∙ ap (λ (n : ℕ). take n (xs ++ ys)) f ∙ take_front xs ys ∙ sym g in
    let queue : drop h zs ≡ p.queue = ap (λ (l : List Lock). drop h l) e ∙ ap (λ (n : ℕ). drop n (xs ++ ys)) f ∙ drop_front xs ys ∙ sym k in
    λ i. record { held = held i; queue = queue i }

-- one more holder
pub cut_insert : (xs zs : List Lock) (h : ℕ) (x : Lock) (p : Place) → h ≤ length xs → view xs h ≡ p → zs ≡ insert xs h x
    → view zs (h + 1) ≡ requested x Held p
cut_insert xs zs h x p small is e =
    let n : h + 1 ≡ length (take h xs ++ x ∷ []) = grind (arith, common_steps, small) in
    let parts : zs ≡ (take h xs ++ x ∷ []) ++ drop h xs = e ∙ grind (arith, common_steps) in
    cut (take h xs ++ x ∷ []) (drop h xs) zs (h + 1) (record { held = p.held ++ x ∷ []; queue = p.queue }) parts n
    (ap (λ (q : Place). q.held ++ x ∷ []) (sym is)) (ap (λ (q : Place). q.queue) (sym is))

-- a transaction less
pub cut_without : (xs zs : List Lock) (h k : ℕ) (t : Txn) (p : Place) → view xs h ≡ p → k ≡ length (others_of t (take h xs)) → zs ≡ others_of t xs
    → view zs k ≡ without t p
cut_without xs zs h k t p is n e =
    cut (others_of t (take h xs)) (others_of t (drop h xs)) zs k (without t p)
    (e ∙ ap (others_of t) (both xs h) ∙ filter-append (λ l. not (same_txn t l.txn)) (take h xs) (drop h xs)) n
    (ap (λ (q : Place). others_of t q.held) (sym is)) (ap (λ (q : Place). others_of t q.queue) (sym is))

pub few_without : (xs zs : List Lock) (h k : ℕ) (t : Txn) → k ≡ length (others_of t (take h xs)) → zs ≡ others_of t xs → k ≤ length zs
few_without xs zs h k t n e =
    let parts : zs ≡ others_of t (take h xs) ++ others_of t (drop h xs) = e ∙ ap (others_of t) (both xs h) ∙ filter-append (λ l. not (same_txn t l.txn)) (take h xs) (drop h xs) in
    grind (arith, common_steps, n, parts)

-- the front of the queue behind the holders
pub cut_advanced : (xs : List Lock) (h k : ℕ) (p : Place) → h ≤ length xs → view xs h ≡ p → k ≤ length p.queue → take k p.queue ≡ front p.held p.queue
    → view xs (h + k) ≡ advanced p
cut_advanced xs h k p small is few e =
    let held : take h xs ≡ p.held = ap (λ (q : Place). q.held) is in
    let queue : drop h xs ≡ p.queue = ap (λ (q : Place). q.queue) is in
    let n : k ≡ length (front p.held p.queue) = sym (length-take-le k p.queue few) ∙ ap (λ (l : List Lock). length l) e in
    let parts : xs ≡ (p.held ++ front p.held p.queue) ++ drop k p.queue =
    both xs h ∙ ap (λ (l : List Lock). l ++ drop h xs) held ∙ ap (λ (l : List Lock). p.held ++ l) (queue ∙ both p.queue k)
    ∙ sym (append_assoc p.held (take k p.queue) (drop k p.queue)) ∙ ap (λ (l : List Lock). (p.held ++ l) ++ drop k p.queue) e in
    let len : length p.held ≡ h = ap (λ (l : List Lock). length l) (sym held) ∙ length-take-le h xs small in
    let all : h + k ≡ length (p.held ++ front p.held p.queue) = grind (arith, common_steps, n, len) in
    cut (p.held ++ front p.held p.queue) (drop k p.queue) xs (h + k) (advanced p) parts all refl (ap (λ (m : ℕ). drop m p.queue) (sym n))
