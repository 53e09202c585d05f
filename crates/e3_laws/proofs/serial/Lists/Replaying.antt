-- The operations of a transaction, its replay and the tables of logs, one site at a time.
use Rattle.std.proofs.Common.{◌≡◌, ℕ, ◌<◌, ◌≤◌, ◌==◌, nat_lt, Bool, true, false, cond, ◌&&◌, List, [], ◌∷◌, ◌++◌, filter, fold, refl, sym, ap, ◌∙◌, subst, arith, append-nil, append_assoc, eqb-true, eq-eqb}
use Rattle.std.specs.List.{AllByRecursion as Each}
use Rattle.std.proofs.lemmas.Bool.{true≢false, and_parts, ltb-true, ltb-false, lt-ltb, le-ltb}
use Rattle.e3_types.specs.declared.transactions.Answer.{Answer}
use Rattle.e3_types.specs.declared.transactions.Answer.TheVariants.{Value}
use Rattle.e3_types.specs.declared.transactions.Key.{Key}
use Rattle.e3_types.specs.declared.transactions.NumOp.{NumOp}
use Rattle.e3_types.specs.declared.transactions.Op.{Op}
use Rattle.e3_types.specs.declared.transactions.Op.TheVariants.{Read, Write}
use Rattle.e3_types.specs.Same.{same_numbers}
use Rattle.e3_laws.specs.steps.Bounds.{IsHere}
use Rattle.e3_world.specs.Logs.{key_of}
use Rattle.e3_world.specs.Orderly.{ops_ascend}
use Rattle.e3_world.specs.Serial.{World, run_op, add_op}
use Rattle.e3_laws.proofs.serial.Lists.Entries.{Name, same_name, name_of, effect, through}

-- the operation is on a key of the site
abbrev pub is_at : ℕ → NumOp → Bool
is_at s o = s == (key_of o.op).site

-- what operations on all keys do to one of them is what those of its site do
pub ran : (ops : List NumOp) (world : World) (s : ℕ) (n : Name) → fold run_op world ops (record { site = s; name = n }) ≡ through (filter (is_at s) ops) n (world (record { site = s; name = n }))
ran [] world s n = refl
ran (o ∷ ops) world s n = go o.op refl (ran ops (run_op world o) s n)
  where
    key : Key
    key = record { site = s; name = n }

    step : (b : Bool) (v : Answer) → fold run_op (run_op world o) ops (record { site = s; name = n }) ≡ through (filter (is_at s) ops) n v
        → (b ≡ true → v ≡ cond (same_name (name_of o.op) n) (effect o.op (world (record { site = s; name = n }))) (world (record { site = s; name = n })))
        → (b ≡ false → v ≡ world (record { site = s; name = n }))
        → fold run_op (run_op world o) ops (record { site = s; name = n }) ≡ through (cond b (o ∷ filter (is_at s) ops) (filter (is_at s) ops)) n (world (record { site = s; name = n }))
    step true v ih f g = ih ∙ ap (λ w. through (filter (is_at s) ops) n w) (f refl)
    step false v ih f g = ih ∙ ap (λ w. through (filter (is_at s) ops) n w) (g refl)

    go : (op : Op) → o.op ≡ op → fold run_op (run_op world o) ops (record { site = s; name = n }) ≡ through (filter (is_at s) ops) n (run_op world o (record { site = s; name = n }))
        → fold run_op (run_op world o) ops (record { site = s; name = n }) ≡ through (cond (is_at s o) (o ∷ filter (is_at s) ops) (filter (is_at s) ops)) n (world (record { site = s; name = n }))
    go (Read k) e ih = step (is_at s o) (run_op world o (record { site = s; name = n })) ih
        (λ q. subst (λ p. run_op world (record o { op = p }) (record { site = s; name = n }) ≡ cond (same_name (name_of p) n) (effect p (world (record { site = s; name = n }))) (world (record { site = s; name = n }))) (sym e) (same (same_name k.name n)))
        (λ q. subst (λ p. run_op world (record o { op = p }) (record { site = s; name = n }) ≡ world (record { site = s; name = n })) (sym e) refl)
      where
        same : (b : Bool) → world (record { site = s; name = n }) ≡ cond b (world (record { site = s; name = n })) (world (record { site = s; name = n }))
        same true = refl
        same false = refl
    go (Write k val) e ih = step (is_at s o) (run_op world o (record { site = s; name = n })) ih
        (λ q. subst (λ p. run_op world (record o { op = p }) (record { site = s; name = n }) ≡ cond (same_name (name_of p) n) (effect p (world (record { site = s; name = n }))) (world (record { site = s; name = n }))) (sym e)
        (subst (λ b. cond (b && same_numbers n k.name) (Value val) (world (record { site = s; name = n })) ≡ cond (same_numbers n k.name) (Value val) (world (record { site = s; name = n })))
        (sym (subst (λ p. (s == (key_of p).site) ≡ true) e q)) refl))
        (λ q. subst (λ p. run_op world (record o { op = p }) (record { site = s; name = n }) ≡ world (record { site = s; name = n })) (sym e)
        (subst (λ b. cond (b && same_numbers n k.name) (Value val) (world (record { site = s; name = n })) ≡ world (record { site = s; name = n }))
        (sym (subst (λ p. (s == (key_of p).site) ≡ false) e q)) refl))

-- The numbers of a list do not fall, and none is below the first.
abbrev pub Rises : ℕ → List NumOp → Type 0
Rises low [] = Unit {0}
Rises low (o ∷ ops) = (low ≤ o.n) × Rises o.n ops

rises_lower : (low less : ℕ) (ops : List NumOp) → less ≤ low → Rises low ops → Rises less ops
rises_lower low less [] l h = tt
rises_lower low less (o ∷ ops) l h = ((let k : low ≤ o.n = h.0 in omega arith), h.1)

pub add_rises : (low : ℕ) (ops : List NumOp) (o : NumOp) → low ≤ o.n → Rises low ops → Rises low (add_op ops o)
add_rises low [] o l h = (l, tt)
add_rises low (x ∷ ops) o l h = go (nat_lt o.n x.n) refl (λ k. add_rises x.n ops o k h.1)
  where
    go : (b : Bool) → nat_lt o.n x.n ≡ b → (x.n ≤ o.n → Rises x.n (add_op ops o)) → Rises low (cond b (o ∷ x ∷ ops) (x ∷ add_op ops o))
    go true e ih = let k = ltb-true o.n x.n e in (l, ((omega arith), h.1))
    go false e ih = let k = ltb-false o.n x.n e in (h.0, ih (omega arith))

-- a filter of a list in order with one more
low_add : (p : NumOp → Bool) (low : ℕ) (ops : List NumOp) (o : NumOp) → Rises low ops → o.n < low → add_op (filter p ops) o ≡ o ∷ filter p ops
low_add p low [] o h l = refl
low_add p low (x ∷ ops) o h l = go (p x) (low_add p x.n ops o h.1)
  where
    less : o.n < x.n
    less = let k : low ≤ x.n = h.0 in omega arith

    go : (b : Bool) → (o.n < x.n → add_op (filter p ops) o ≡ o ∷ filter p ops) → add_op (cond b (x ∷ filter p ops) (filter p ops)) o ≡ o ∷ cond b (x ∷ filter p ops) (filter p ops)
    go true ih = subst (λ b. cond b (o ∷ x ∷ filter p ops) (x ∷ add_op (filter p ops) o) ≡ o ∷ x ∷ filter p ops) (sym (lt-ltb o.n x.n less)) refl
    go false ih = ih less

filter_add : (p : NumOp → Bool) (low : ℕ) (ops : List NumOp) (o : NumOp) → Rises low ops → filter p (add_op ops o) ≡ cond (p o) (add_op (filter p ops) o) (filter p ops)
filter_add p low [] o h = refl
filter_add p low (x ∷ ops) o h = go (nat_lt o.n x.n) refl (p o) (p x) refl refl (filter_add p x.n ops o h.1)
  where
    go : (b : Bool) → nat_lt o.n x.n ≡ b → (c d : Bool) → p o ≡ c → p x ≡ d → filter p (add_op ops o) ≡ cond c (add_op (filter p ops) o) (filter p ops) →
        filter p (cond b (o ∷ x ∷ ops) (x ∷ add_op ops o)) ≡ cond c (add_op (cond d (x ∷ filter p ops) (filter p ops)) o) (cond d (x ∷ filter p ops) (filter p ops))
    go true e true true q r ih = rw (q, r, e) refl
    go true e true false q r ih = rw (q, r) (sym (low_add p x.n ops o h.1 (ltb-true o.n x.n e)))
    go true e false true q r ih = rw (q, r) refl
    go true e false false q r ih = rw (q, r) refl
    go false e true true q r ih = rw (r, e) (ap (λ z. x ∷ z) ih)
    go false e true false q r ih = rw (r) ih
    go false e false true q r ih = rw (r) (ap (λ z. x ∷ z) ih)
    go false e false false q r ih = rw (r) ih

-- sorting keeps what passes a test together, and in order
pub filter_sorted : (p : NumOp → Bool) (ops acc : List NumOp) → Rises 0 acc → filter p (fold add_op acc ops) ≡ fold add_op (filter p acc) (filter p ops)
filter_sorted p [] acc h = refl
filter_sorted p (o ∷ ops) acc h = filter_sorted p ops (add_op acc o) (add_rises 0 acc o (omega arith) h) ∙ go (p o) (filter_add p 0 acc o h)
  where
    go : (b : Bool) → filter p (add_op acc o) ≡ cond b (add_op (filter p acc) o) (filter p acc) → fold add_op (filter p (add_op acc o)) (filter p ops) ≡ fold add_op (filter p acc) (cond b (o ∷ filter p ops) (filter p ops))
    go true e = ap (λ z. fold add_op z (filter p ops)) e
    go false e = ap (λ z. fold add_op z (filter p ops)) e

-- all of the list are at most the number
abbrev UpTo : ℕ → List NumOp → Type 0
UpTo n ops = Each (λ o. o.n ≤ n) ops

add_last : (ops : List NumOp) (o : NumOp) → UpTo o.n ops → add_op ops o ≡ ops ++ o ∷ []
add_last [] o h = refl
add_last (x ∷ ops) o h =
    subst (λ b. cond b (o ∷ x ∷ ops) (x ∷ add_op ops o) ≡ x ∷ (ops ++ o ∷ [])) (sym (le-ltb o.n x.n h.0)) (ap (λ z. x ∷ z) (add_last ops o h.1))

up_more : (m n : ℕ) (ops : List NumOp) → m ≤ n → UpTo m ops → UpTo n ops
up_more m n [] l h = tt
up_more m n (o ∷ ops) l h = ((let k : o.n ≤ m = h.0 in omega arith), up_more m n ops l h.1)

up_push : (n : ℕ) (ops : List NumOp) (o : NumOp) → UpTo n ops → o.n ≤ n → UpTo n (ops ++ o ∷ [])
up_push n [] o h l = (l, tt)
up_push n (x ∷ ops) o h l = (h.0, up_push n ops o h.1 l)

-- a list that ascends is sorted
pub sorted_same : (ops acc : List NumOp) (low : ℕ) → ops_ascend low ops ≡ true → UpTo low acc → fold add_op acc ops ≡ acc ++ ops
sorted_same [] acc low h k = sym (append-nil acc)
sorted_same (o ∷ ops) acc low h k =
    let parts = and_parts (nat_lt low o.n) (ops_ascend o.n ops) h in
    let less = ltb-true low o.n parts.0 in
    let all : UpTo o.n acc = up_more low o.n acc (omega arith) k in
    ap (λ z. fold add_op z ops) (add_last acc o all)
    ∙ sorted_same ops (acc ++ o ∷ []) o.n parts.1 (up_push o.n acc o all (omega arith))
    ∙ append_assoc acc (o ∷ []) ops

pub filter_filter : {X : Type 0} (p q : X → Bool) (xs : List X) → filter p (filter q xs) ≡ filter q (filter p xs)
filter_filter p q [] = refl
filter_filter p q (x ∷ xs) = go (p x) refl (q x) refl (filter_filter p q xs)
  where
    go : (b : Bool) → p x ≡ b → (c : Bool) → q x ≡ c → filter p (filter q xs) ≡ filter q (filter p xs) →
        filter p (cond c (x ∷ filter q xs) (filter q xs)) ≡ filter q (cond b (x ∷ filter p xs) (filter p xs))
    go true e true f ih = rw (e, f) (ap (λ z. x ∷ z) ih)
    go true e false f ih = rw (f) ih
    go false e true f ih = rw (e) ih
    go false e false f ih = ih

-- the operations of a site's vote are at the site, and at no other
pub here_all : (s : ℕ) (ops : List NumOp) → Each (IsHere s) ops → filter (is_at s) ops ≡ ops
here_all s [] h = refl
here_all s (o ∷ ops) h =
    subst (λ b. cond b (o ∷ filter (is_at s) ops) (filter (is_at s) ops) ≡ o ∷ ops) (sym (eq-eqb s (key_of o.op).site (sym h.0))) (ap (λ z. o ∷ z) (here_all s ops h.1))

pub there_none : (y s : ℕ) (ops : List NumOp) → (y == s) ≡ false → Each (IsHere y) ops → filter (is_at s) ops ≡ []
there_none y s [] e h = refl
there_none y s (o ∷ ops) e h = go (is_at s o) refl (there_none y s ops e h.1)
  where
    go : (b : Bool) → (s == (key_of o.op).site) ≡ b → filter (is_at s) ops ≡ [] → cond b (o ∷ filter (is_at s) ops) (filter (is_at s) ops) ≡ []
    go true q ih = absurd (true≢false (sym (eq-eqb y s (sym h.0 ∙ sym (eqb-true s (key_of o.op).site q))) ∙ e))
    go false q ih = ih

pub filter-append : {X : Type 0} (p : X → Bool) (xs ys : List X) → filter p (xs ++ ys) ≡ filter p xs ++ filter p ys
filter-append p [] ys = refl
filter-append p (x ∷ xs) ys = go (p x) (filter-append p xs ys)
  where
    go : (b : Bool) → filter p (xs ++ ys) ≡ filter p xs ++ filter p ys → cond b (x ∷ filter p (xs ++ ys)) (filter p (xs ++ ys)) ≡ cond b (x ∷ filter p xs) (filter p xs) ++ filter p ys
    go true ih = ap (λ z. x ∷ z) ih
    go false ih = ih
