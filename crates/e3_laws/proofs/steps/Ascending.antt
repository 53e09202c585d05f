-- Transactions that ascend.
use Rattle.std.proofs.Common.{◌≡◌, ◌≢◌, ◌∷◌, [], ◌++◌, Bool, true, false, List, refl, sym, ap, subst, ◌∙◌, fold, append_assoc, append-nil}
use Rattle.std.specs.List.{flat_map, list_any, AllByRecursion as Each}
use Rattle.std.proofs.lemmas.Bool.{or_parts, or_from, true≢false}
use Rattle.std.proofs.lemmas.Grind.{fold-append}
use Rattle.e3_types.specs.declared.transactions.Txn.{Txn}
use Rattle.e3_types.specs.Same.{same_txn, is_older}
use Rattle.e3_types.proofs.Orders.{older_irreflexive, older_transitive}
use Rattle.e3_world.specs.Items.{add_txn}
use Rattle.e3_laws.proofs.steps.Each.{each-append, each-weaker}
use Rattle.e3_laws.proofs.steps.Tests.{same_is, same_self}

pub same_from : (t u : Txn) → t ≡ u → same_txn t u ≡ true
same_from t u e = subst (λ (v : Txn). same_txn t v ≡ true) e (same_self t)

-- what holds of one of two and not of the other tells them apart
pub apart : (p : Txn → Bool) (t u : Txn) → p t ≡ true → p u ≡ false → same_txn t u ≡ false
apart p t u holds fails = by (same_txn t u) refl
  where
    by : (b : Bool) → same_txn t u ≡ b → b ≡ false
    by false is = refl
    by true is = absurd (true≢false (sym holds ∙ ap p (same_is t u is) ∙ fails))

pub other_way : (t u : Txn) → same_txn t u ≡ false → same_txn u t ≡ false
other_way t u differ = by (same_txn u t) refl
  where
    by : (b : Bool) → same_txn u t ≡ b → b ≡ false
    by false is = refl
    by true is = absurd (true≢false (sym (same_from t u (sym (same_is u t is))) ∙ differ))

-- another transaction, which is not older than the first
pub record IsLater (t u : Txn) : Type 0 where
  pub other : same_txn t u ≡ false
  pub not_older : is_older u t ≡ false

-- each is later than those before it
abbrev pub Ascends : List Txn → Type 0
Ascends [] = Unit {0}
Ascends (t ∷ ts) = Each (IsLater t) ts × Ascends ts

-- one is not older than an older one, nor than what is later than that
pub later_from : (new t v : Txn) → is_older new t ≡ true → IsLater t v → IsLater new v
later_from new t v older later = record {
  other = other (same_txn new v) refl;
  not_older = kept (is_older v new) refl;
}
  where
    other : (b : Bool) → same_txn new v ≡ b → b ≡ false
    other false is = refl
    other true is = absurd (true≢false (sym (subst (λ (x : Txn). is_older x t ≡ true) (same_is new v is) older) ∙ later.not_older))

    kept : (b : Bool) → is_older v new ≡ b → b ≡ false
    kept false is = refl
    kept true is = absurd (true≢false (sym (older_transitive v new t is older) ∙ later.not_older))

pub later_than_older : (new t : Txn) → same_txn t new ≡ false → is_older new t ≡ true → IsLater new t
later_than_older new t other older = record { other = other_way t new other; not_older = kept (is_older t new) refl }
  where
    kept : (b : Bool) → is_older t new ≡ b → b ≡ false
    kept false is = refl
    kept true is = absurd (true≢false (sym (older_transitive t new t is older) ∙ older_irreflexive t))

pub each_add : (P : Txn → Type 0) (ts : List Txn) (new : Txn) → P new → Each P ts → Each P (add_txn ts new)
each_add P [] new p each = (p, tt)
each_add P (t ∷ ts) new p each = by (each_add P ts new p each.1) (same_txn t new) refl (is_older new t) refl
  where
    by : Each P (add_txn ts new) → (b : Bool) → same_txn t new ≡ b → (c : Bool) → is_older new t ≡ c → Each P (add_txn (t ∷ ts) new)
    by more true is c older = rw is each
    by more false is true older = rw (is, older) (p, each)
    by more false is false older = rw (is, older) (each.0, more)

ascends_add : (ts : List Txn) (new : Txn) → Ascends ts → Ascends (add_txn ts new)
ascends_add [] new up = (tt, tt)
ascends_add (t ∷ ts) new up = by (ascends_add ts new up.1) (same_txn t new) refl (is_older new t) refl
  where
    by : Ascends (add_txn ts new) → (b : Bool) → same_txn t new ≡ b → (c : Bool) → is_older new t ≡ c → Ascends (add_txn (t ∷ ts) new)
    by more true is c older = rw is up
    by more false is true older = rw (is, older)
        ((later_than_older new t is older, each-weaker (IsLater t) (IsLater new) (λ v later. later_from new t v older later) ts up.0), up)
    by more false is false older = rw (is, older) (each_add (IsLater t) ts new (record { other = is; not_older = older }) up.0, more)

pub ascends_fold : (ts xs : List Txn) → Ascends ts → Ascends (fold add_txn ts xs)
ascends_fold ts [] up = up
ascends_fold ts (x ∷ xs) up = ascends_fold (add_txn ts x) xs (ascends_add ts x up)

pub each_fold : (P : Txn → Type 0) (ts xs : List Txn) → Each P ts → Each P xs → Each P (fold add_txn ts xs)
each_fold P ts [] each more = each
each_fold P ts (x ∷ xs) each more = each_fold P (add_txn ts x) xs (each_add P ts x more.0 each) more.1

-- a later one goes to the end, also once more
add_last : (ts : List Txn) (t : Txn) → Each (λ u. IsLater u t) ts → add_txn ts t ≡ ts ++ t ∷ []
add_last [] t each = refl
add_last (u ∷ us) t each = rw (each.0.other, each.0.not_older) (ap (λ l. u ∷ l) (add_last us t each.1))

add_again : (ts : List Txn) (t : Txn) → Each (λ u. IsLater u t) ts → add_txn (ts ++ t ∷ []) t ≡ ts ++ t ∷ []
add_again [] t each = rw (same_self t) refl
add_again (u ∷ us) t each = rw (each.0.other, each.0.not_older) (ap (λ l. u ∷ l) (add_again us t each.1))

add_same : (ts : List Txn) (t : Txn) (xs : List Txn) → Each (λ u. IsLater u t) ts → Each (λ x. x ≡ t) xs → fold add_txn (ts ++ t ∷ []) xs ≡ ts ++ t ∷ []
add_same ts t [] before each = refl
add_same ts t (x ∷ xs) before each =
    ap (λ (l : List Txn). fold add_txn l xs) (ap (add_txn (ts ++ t ∷ [])) each.0 ∙ add_again ts t before) ∙ add_same ts t xs before each.1

add_block : (ts : List Txn) (t : Txn) (xs : List Txn) → Each (λ u. IsLater u t) ts → Each (λ x. x ≡ t) xs → xs ≢ [] → fold add_txn ts xs ≡ ts ++ t ∷ []
add_block ts t [] before each some = absurd (some refl)
add_block ts t (x ∷ xs) before each some =
    ap (λ (l : List Txn). fold add_txn l xs) (ap (add_txn ts) each.0 ∙ add_last ts t before) ∙ add_same ts t xs before each.1

-- those before a later one too
behind_push : (before : List Txn) (t : Txn) (ts : List Txn) → Each (λ v. Each (λ u. IsLater u v) before) ts → Each (IsLater t) ts
    → Each (λ v. Each (λ u. IsLater u v) (before ++ t ∷ [])) ts
behind_push before t [] behind later = tt
behind_push before t (v ∷ vs) behind later =
    (each-append (λ u. IsLater u v) before (t ∷ []) behind.0 (later.0, tt), behind_push before t vs behind.1 later.1)

-- transactions that ascend, each some times, are added as they stand
pub add_blocks : (f : Txn → List Txn) → ((t : Txn) → Each (λ x. x ≡ t) (f t)) → (before ts : List Txn) → Each (λ t. f t ≢ []) ts
    → Each (λ v. Each (λ u. IsLater u v) before) ts → Ascends ts → fold add_txn before (flat_map f ts) ≡ before ++ ts
add_blocks f same before [] some behind up = sym (append-nil before)
add_blocks f same before (t ∷ ts) some behind up =
    fold-append add_txn before (f t) (flat_map f ts)
    ∙ ap (λ (l : List Txn). fold add_txn l (flat_map f ts)) (add_block before t (f t) behind.0 (same t) some.0)
    ∙ add_blocks f same (before ++ t ∷ []) ts some.1 (behind_push before t ts behind.1 up.0) up.1
    ∙ append_assoc before (t ∷ []) ts

-- what is not among transactions behind an addition was not before, and is not the one that was added
off_add : (t : Txn) (ts : List Txn) (new : Txn) → list_any (same_txn t) (add_txn ts new) ≡ false → (same_txn t new ≡ false) × (list_any (same_txn t) ts ≡ false)
off_add t [] new off = ((or_parts (same_txn t new) false off).0, refl)
off_add t (u ∷ us) new off = by (off_add t us new) (same_txn u new) refl (is_older new u) refl
  where
    by : (list_any (same_txn t) (add_txn us new) ≡ false → (same_txn t new ≡ false) × (list_any (same_txn t) us ≡ false))
        → (b : Bool) → same_txn u new ≡ b → (c : Bool) → is_older new u ≡ c → (same_txn t new ≡ false) × (list_any (same_txn t) (u ∷ us) ≡ false)
    by more true is c older =
        let h : list_any (same_txn t) (u ∷ us) ≡ false = rw is at off in
        (subst (λ (x : Txn). same_txn t x ≡ false) (same_is u new is) (or_parts (same_txn t u) (list_any (same_txn t) us) h).0, h)
    by more false is true older =
        let h : list_any (same_txn t) (new ∷ u ∷ us) ≡ false = rw (is, older) at off in
        or_parts (same_txn t new) (list_any (same_txn t) (u ∷ us)) h
    by more false is false older =
        let h : list_any (same_txn t) (u ∷ add_txn us new) ≡ false = rw (is, older) at off in
        let p = or_parts (same_txn t u) (list_any (same_txn t) (add_txn us new)) h in
        let q = more p.1 in
        (q.0, or_from (same_txn t u) (list_any (same_txn t) us) p.0 q.1)

pub off_fold : (t : Txn) (ts xs : List Txn) → list_any (same_txn t) (fold add_txn ts xs) ≡ false → (list_any (same_txn t) xs ≡ false) × (list_any (same_txn t) ts ≡ false)
off_fold t ts [] off = (refl, off)
off_fold t ts (x ∷ xs) off =
    let more = off_fold t (add_txn ts x) xs off in
    let h = off_add t ts x more.1 in
    (or_from (same_txn t x) (list_any (same_txn t) xs) h.0 more.0, h.1)

-- transactions that are all later than another one are others than it
pub off_later : (t u : Txn) (us : List Txn) → t ≡ u → Each (IsLater u) us → list_any (same_txn t) us ≡ false
off_later t u [] is each = refl
off_later t u (v ∷ vs) is each =
    or_from (same_txn t v) (list_any (same_txn t) vs) (subst (λ (x : Txn). same_txn x v ≡ false) (sym is) each.0.other) (off_later t u vs is each.1)
