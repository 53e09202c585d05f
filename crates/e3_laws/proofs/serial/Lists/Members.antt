-- Lists by members, places and order.
use Rattle.std.proofs.Common.{◌≡◌, ◌≢◌, ◌⊎◌, inl, inr, ℕ, zero, suc, ◌+◌, ◌<◌, Bool, true, false, cond, ◌||◌, List, [], ◌∷◌, ◌++◌, take, filter, refl, sym, ◌∙◌, subst, arith}
use Rattle.e3_types.specs.declared.transactions.Txn.{Txn}
use Rattle.e3_laws.proofs.serial.Lists.Entries.{same}
use Rattle.e3_laws.proofs.serial.Lists.Names.{same-true, eq-same}
use Rattle.e3_laws.proofs.serial.Lists.Entries.{In, At, Sorted, has}

module _ {A : Type 0} where
  pub in_filter : (p : A → Bool) (xs : List A) (x : A) → In x (filter p xs) → In x xs × (p x ≡ true)
  in_filter p [] x h = absurd h
  in_filter p (y ∷ xs) x h = go (p y) refl h (in_filter p xs x)
    where
      go : (b : Bool) → p y ≡ b → In x (cond b (y ∷ filter p xs) (filter p xs)) → (In x (filter p xs) → In x xs × (p x ≡ true)) → In x (y ∷ xs) × (p x ≡ true)
      go true e (inl q) ih = (inl q, subst (λ z. p z ≡ true) q e)
      go true e (inr k) ih = let r = ih k in (inr r.0, r.1)
      go false e k ih = let r = ih k in (inr r.0, r.1)

  pub filter_in : (p : A → Bool) (xs : List A) (x : A) → In x xs → p x ≡ true → In x (filter p xs)
  filter_in p [] x h e = absurd h
  filter_in p (y ∷ xs) x h e = go (p y) refl h (filter_in p xs x)
    where
      go : (b : Bool) → p y ≡ b → In x (y ∷ xs) → (In x xs → p x ≡ true → In x (filter p xs)) → In x (cond b (y ∷ filter p xs) (filter p xs))
      go true q (inl s) ih = inl s
      go true q (inr k) ih = inr (ih k e)
      go false q (inl s) ih = absurd (Rattle.std.proofs.Common.true≢false (sym e ∙ subst (λ z. p z ≡ false) s q))
      go false q (inr k) ih = ih k e

  pub in_append : (xs ys : List A) (x : A) → In x (xs ++ ys) → In x xs ⊎ In x ys
  in_append [] ys x h = inr h
  in_append (z ∷ xs) ys x (inl q) = inl (inl q)
  in_append (z ∷ xs) ys x (inr k) = Rattle.std.proofs.Common.⊎_elim (λ a. inl (inr a)) (λ b. inr b) (in_append xs ys x k)

  pub in_front : (xs ys : List A) (x : A) → In x xs → In x (xs ++ ys)
  in_front [] ys x h = absurd h
  in_front (z ∷ xs) ys x (inl q) = inl q
  in_front (z ∷ xs) ys x (inr k) = inr (in_front xs ys x k)

  pub in_back : (xs ys : List A) (x : A) → In x ys → In x (xs ++ ys)
  in_back [] ys x h = h
  in_back (z ∷ xs) ys x h = inr (in_back xs ys x h)

  -- places
  pub at_same : (xs : List A) (i : ℕ) (x y : A) → At xs i x → At xs i y → x ≡ y
  at_same [] i x y h k = absurd h
  at_same (z ∷ xs) zero x y h k = sym h ∙ k
  at_same (z ∷ xs) (suc i) x y h k = at_same xs i x y h k

  pub at_in : (xs : List A) (i : ℕ) (x : A) → At xs i x → In x xs
  at_in [] i x h = absurd h
  at_in (z ∷ xs) zero x h = inl h
  at_in (z ∷ xs) (suc i) x h = inr (at_in xs i x h)

  pub in_at : (xs : List A) (x : A) → In x xs → (i : ℕ) × At xs i x
  in_at [] x h = absurd h
  in_at (z ∷ xs) x (inl q) = (zero, q)
  in_at (z ∷ xs) x (inr k) = let r = in_at xs x k in (suc r.0, r.1)

  pub at_take : (n : ℕ) (xs : List A) (i : ℕ) (x : A) → At (take n xs) i x → At xs i x × (i < n)
  at_take zero xs i x h = absurd h
  at_take (suc n) [] i x h = absurd h
  at_take (suc n) (z ∷ xs) zero x h = (h, omega arith)
  at_take (suc n) (z ∷ xs) (suc i) x h = let r = at_take n xs i x h in (r.0, (let l : i < n = r.1 in omega arith))

  pub take_at : (n : ℕ) (xs : List A) (i : ℕ) (x : A) → At xs i x → i < n → At (take n xs) i x
  take_at zero xs i x h l = absurd (omega arith)
  take_at (suc n) [] i x h l = absurd h
  take_at (suc n) (z ∷ xs) zero x h l = h
  take_at (suc n) (z ∷ xs) (suc i) x h l = take_at n xs i x h (omega arith)

  -- order
  pub sorted_filter : (R : A → A → Type 0) (p : A → Bool) (xs : List A) → Sorted R xs → Sorted R (filter p xs)
  sorted_filter R p [] h = tt
  sorted_filter R p (x ∷ xs) h = go (p x) (sorted_filter R p xs h.1)
    where
      go : (b : Bool) → Sorted R (filter p xs) → Sorted R (cond b (x ∷ filter p xs) (filter p xs))
      go true ih = (λ y k. h.0 y (in_filter p xs y k).0, ih)
      go false ih = ih

  pub sorted_front : (R : A → A → Type 0) (xs ys : List A) → Sorted R (xs ++ ys) → Sorted R xs
  sorted_front R [] ys h = tt
  sorted_front R (x ∷ xs) ys h = (λ y k. h.0 y (in_front xs ys y k), sorted_front R xs ys h.1)

  pub sorted_around : (R : A → A → Type 0) (xs : List A) (x : A) (ys : List A) → Sorted R (xs ++ x ∷ ys) → ((y : A) → In y xs → R y x) × ((y : A) → In y ys → R x y)
  sorted_around R [] x ys h = (λ y k. absurd k, h.0)
  sorted_around R (z ∷ xs) x ys h = let r = sorted_around R xs x ys h.1 in (go r.0, r.1)
    where
      go : ((y : A) → In y xs → R y x) → (y : A) → In y (z ∷ xs) → R y x
      go f y (inl q) = subst (λ u. R u x) q (h.0 x (in_back xs (x ∷ ys) x (inl refl)))
      go f y (inr k) = f y k

  pub sorted_change : (R Q : A → A → Type 0) (xs : List A) → ((x y : A) → In x xs → In y xs → R x y → Q x y) → Sorted R xs → Sorted Q xs
  sorted_change R Q [] f h = tt
  sorted_change R Q (x ∷ xs) f h = (λ y k. f x y (inl refl) (inr k) (h.0 y k), sorted_change R Q xs (λ a b i j. f a b (inr i) (inr j)) h.1)

  pub sorted_push : (R : A → A → Type 0) (xs : List A) (y : A) → Sorted R xs → ((x : A) → In x xs → R x y) → Sorted R (xs ++ y ∷ [])
  sorted_push R [] y h f = (λ z k. absurd k, tt)
  sorted_push R (x ∷ xs) y h f = (λ z k. go z (in_append xs (y ∷ []) z k), sorted_push R xs y h.1 (λ z k. f z (inr k)))
    where
      go : (z : A) → In z xs ⊎ In z (y ∷ []) → R x z
      go z (inl k) = h.0 z k
      go z (inr (inl e)) = subst (λ w. R x w) e (f x (inl refl))
      go z (inr (inr k)) = absurd k

  -- a list without members is in order
  pub sorted_if : (R : A → A → Type 0) (xs : List A) → ((x : A) → In x xs → Sorted R xs) → Sorted R xs
  sorted_if R [] f = tt
  sorted_if R (x ∷ xs) f = f x (inl refl)

  pub in_split : (xs : List A) (x : A) → In x xs → (a b : List A) × (xs ≡ a ++ x ∷ b)
  in_split [] x h = absurd h
  in_split (y ∷ xs) x (inl q) = ([], xs, λ i. q i ∷ xs)
  in_split (y ∷ xs) x (inr k) = let r = in_split xs x k in (y ∷ r.0, r.1, λ i. y ∷ r.2 i)

  -- Two lists with the same members, both in the order of an asymmetric relation, are one list.
  pub same_sorted : (R : A → A → Type 0) → ((x y : A) → R x y → R y x → ⊥) → (xs ys : List A) → Sorted R xs → Sorted R ys → ((x : A) → In x xs → In x ys) → ((x : A) → In x ys → In x xs) → xs ≡ ys
  same_sorted R asym [] [] h k f g = refl
  same_sorted R asym [] (y ∷ ys) h k f g = absurd (g y (inl refl))
  same_sorted R asym (x ∷ xs) [] h k f g = absurd (f x (inl refl))
  same_sorted R asym (x ∷ xs) (y ∷ ys) h k f g = let rest = same_sorted R asym xs ys h.1 k.1 (λ z a. later z a (f z (inr a))) (λ z a. back z a (g z (inr a))) in λ i. same i ∷ rest i
    where
      first : In x (y ∷ ys) → In y (x ∷ xs) → y ≡ x
      first (inl q) b = q
      first (inr a) (inl q) = sym q
      first (inr a) (inr b) = absurd (asym x y (h.0 y b) (k.0 x a))

      same : x ≡ y
      same = sym (first (f x (inl refl)) (g y (inl refl)))

      later : (z : A) → In z xs → In z (y ∷ ys) → In z ys
      later z a (inl q) = let r = h.0 x (subst (λ u. In u xs) (sym q ∙ sym same) a) in absurd (asym x x r r)
      later z a (inr b) = b

      back : (z : A) → In z ys → In z (x ∷ xs) → In z xs
      back z a (inl q) = let r = k.0 y (subst (λ u. In u ys) (sym q ∙ same) a) in absurd (asym y y r r)
      back z a (inr b) = b

pub has_in : (n : Txn) (ms : List Txn) → has n ms ≡ true → In n ms
has_in n [] h = absurd (Rattle.std.proofs.Common.true≢false (sym h))
has_in n (m ∷ ms) h = go (same m n) refl h (has_in n ms)
  where
    go : (b : Bool) → same m n ≡ b → (b || has n ms) ≡ true → (has n ms ≡ true → In n ms) → In n (m ∷ ms)
    go true e k ih = inl (same-true m n e)
    go false e k ih = inr (ih k)

pub in_has : (n : Txn) (ms : List Txn) → In n ms → has n ms ≡ true
in_has n [] h = absurd h
in_has n (m ∷ ms) (inl q) = subst (λ b. (b || has n ms) ≡ true) (sym (eq-same m n q)) refl
in_has n (m ∷ ms) (inr k) = go (same m n) (in_has n ms k)
  where
    go : (b : Bool) → has n ms ≡ true → (b || has n ms) ≡ true
    go true e = refl
    go false e = e
