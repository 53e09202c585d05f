-- Whom a transaction waits for, added up request by request and place by place.
use Rattle.std.specs.Prelude.{◌≡◌, ◌+◌, ◌<◌, ◌++◌, ◌∷◌, [], if◌then◌else◌, ℕ, suc, List, length, take, drop, fold}
use Rattle.std.specs.List.{flat_map}
use Rattle.std.proofs.Common.{ap, sym, ◌∙◌, get_or, drop-cons, arith}
use Rattle.std.proofs.lemmas.List.{take_more}
use Rattle.std.proofs.lemmas.List.Sums.{fold-append}
use Rattle.e3_types.specs.declared.locks.Lock.{Lock}
use Rattle.e3_types.specs.declared.transactions.Txn.{Txn}
use Rattle.e3_types.specs.Locks.{against}
use Rattle.e3_types.specs.Same.{same_txn}
use Rattle.e3_world.specs.Items.{add_txn}
use Rattle.e3_locks.specs.Waiting.{awaited}
use Rattle.e3_locks.proofs.Requests.{flat_more}

-- one request of a queue
pub awaited_step : (t : Txn) (locks : List Lock) (k : ℕ) (w : Lock) (acc more : List Txn) → k < length locks → w ≡ get_or locks k w
    → more ≡ fold add_txn acc (if same_txn t w.txn then against w (take k locks) else [])
    → fold add_txn acc (awaited t (take k locks) (drop k locks)) ≡ fold add_txn more (awaited t (take (k + 1) locks) (drop (k + 1) locks))
awaited_step t locks k w acc more lt is e =
    let rest : List Lock = drop (suc k) locks in
    let d : drop k locks ≡ w ∷ rest = drop-cons locks k w lt ∙ ap (λ (y : Lock). y ∷ rest) (sym is) in
    let m : take (k + 1) locks ≡ take k locks ++ w ∷ [] = take_more locks k w lt ∙ ap (λ (y : Lock). take k locks ++ y ∷ []) (sym is) in
    let next : k + 1 ≡ suc k = omega arith in
    let n : drop (k + 1) locks ≡ rest = ap (λ (j : ℕ). drop j locks) next in
    let own : List Txn = if same_txn t w.txn then against w (take k locks) else [] in
    ap (λ (l : List Lock). fold add_txn acc (awaited t (take k locks) l)) d
    ∙ fold-append add_txn acc own (awaited t (take k locks ++ w ∷ []) rest)
    ∙ ap (λ (a : List Txn). fold add_txn a (awaited t (take k locks ++ w ∷ []) rest)) (sym e)
    ∙ ap (λ (l : List Lock). fold add_txn more (awaited t l rest)) (sym m)
    ∙ ap (λ (l : List Lock). fold add_txn more (awaited t (take (k + 1) locks) l)) (sym n)

-- one name, or one place
pub next_awaited : {A : Type 0} (f : A → List Txn) (xs : List A) (i : ℕ) (x : A) (acc more : List Txn) → i < length xs → x ≡ get_or xs i x
    → acc ≡ fold add_txn [] (flat_map f (take i xs)) → more ≡ fold add_txn acc (f x) → more ≡ fold add_txn [] (flat_map f (take (i + 1) xs))
next_awaited f xs i x acc more lt is so_far now =
    now ∙ ap (λ (a : List Txn). fold add_txn a (f x)) so_far ∙ sym (fold-append add_txn [] (flat_map f (take i xs)) (f x))
    ∙ sym (ap (λ (l : List Txn). fold add_txn [] l) (flat_more f xs i x lt is))
