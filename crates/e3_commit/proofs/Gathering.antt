-- Sites that are missing, and sets of those that came.
use Rattle.std.proofs.Common.{◌≡◌, ℕ, ◌+◌, ◌<◌, ◌≤◌, Bool, true, false, List, [], ◌∷◌, ◌++◌, length, fold, refl, ap, sym, ◌∙◌, arith, eqb}
use Rattle.std.specs.Prelude.{◌==◌, ◌&&◌, ◌||◌, ◌↔◌, not, nat_lt, filter, IsTrue}
use Rattle.std.proofs.lemmas.Grind.{common_steps}
use Rattle.std.proofs.lemmas.List.Folds.{list_any-append}
use Rattle.std.proofs.lemmas.List.Sums.{fold-append}
use Rattle.std.proofs.lemmas.Bool.{eqb-true, or_parts}
use Rattle.e3_types.specs.Sets.{ascends, has_site, with_site, others, is_within}
use Rattle.e3_types.specs.declared.transactions.Dir.{Dir}
use Rattle.e3_types.specs.Same.{same_dir}
use Rattle.e3_world.specs.Gatherings.{Round}
use Rattle.e3_commit.specs.Senders.{set_of}
use Rattle.e3_commit.specs.Missing.{missing}

-- where none came, all are missing
pub missing_none : (all : List ℕ) → all ≡ missing all []
missing_none [] = refl
missing_none (s ∷ ss) = ap (λ (l : List ℕ). s ∷ l) (missing_none ss)

-- a list is empty where its length is 0
pub none_left : (xs : List ℕ) → IsTrue (length xs == 0) ↔ (xs ≡ [])
none_left [] = (λ e. refl, λ e. refl)
none_left (x ∷ xs) = (λ e. grind (arith, common_steps, e), λ e. cc)

came_too : (came : List ℕ) (f s : ℕ) → has_site (came ++ f ∷ []) s ≡ (has_site came s || (f == s))
came_too came f s = list_any-append (λ x. x == s) came (f ∷ []) ∙ grind (arith, common_steps)

-- one more that came is missing no more
pub one_less : (all came : List ℕ) (f : ℕ) → others f (missing all came) ≡ missing all (came ++ f ∷ [])
one_less [] came f = refl
one_less (s ∷ ss) came f = by (has_site came s) (f == s) refl refl (one_less ss came f)
  where
    by : (b c : Bool) → has_site came s ≡ b → (f == s) ≡ c → others f (missing ss came) ≡ missing ss (came ++ f ∷ [])
        → others f (missing (s ∷ ss) came) ≡ missing (s ∷ ss) (came ++ f ∷ [])
    by true c e q ih =
        let here : has_site (came ++ f ∷ []) s ≡ true = came_too came f s ∙ ap (λ b. b || (f == s)) e in
        rw (e, here) ih
    by false true e q ih =
        let here : has_site (came ++ f ∷ []) s ≡ true = came_too came f s ∙ rw (e, q) refl in
        let back : (s == f) ≡ true = grind (arith, common_steps, q) in
        rw (e, here, back) ih
    by false false e q ih =
        let here : has_site (came ++ f ∷ []) s ≡ false = came_too came f s ∙ rw (e, q) refl in
        let back : (s == f) ≡ false = grind (arith, common_steps, q) in
        rw (e, here, back) (ap (λ (l : List ℕ). s ∷ l) ih)

-- all came where none is missing
pub within_missing : (all came : List ℕ) → is_within all came ≡ (length (missing all came) == 0)
within_missing [] came = refl
within_missing (s ∷ ss) came = by (has_site came s) refl (within_missing ss came)
  where
    by : (b : Bool) → has_site came s ≡ b → is_within ss came ≡ (length (missing ss came) == 0) → is_within (s ∷ ss) came ≡ (length (missing (s ∷ ss) came) == 0)
    by true e ih = rw (e, ih) refl
    by false e ih = rw e (grind (arith, common_steps))

has_filter : (p : ℕ → Bool) (xs : List ℕ) (s : ℕ) → has_site (filter p xs) s ≡ (p s && has_site xs s)
has_filter p [] s = grind (arith, common_steps)
has_filter p (x ∷ xs) s = by (p x) (x == s) refl refl (has_filter p xs s)
  where
    by : (b c : Bool) → p x ≡ b → (x == s) ≡ c → has_site (filter p xs) s ≡ (p s && has_site xs s) → has_site (filter p (x ∷ xs)) s ≡ (p s && has_site (x ∷ xs) s)
    by true true e q ih =
        let same : x ≡ s = grind (arith, common_steps, q) in
        let here : p s ≡ true = ap p (sym same) ∙ e in
        rw (e, q, here) refl
    by true false e q ih = rw (e, q, ih) refl
    by false true e q ih =
        let same : x ≡ s = grind (arith, common_steps, q) in
        let here : p s ≡ false = ap p (sym same) ∙ e in
        rw (e, here) (ih ∙ rw here refl)
    by false false e q ih = rw (e, q, ih) refl

-- one more in a set
has_with : (f : ℕ) (xs : List ℕ) (s : ℕ) → has_site (with_site f xs) s ≡ (has_site xs s || (f == s))
has_with f xs s =
    list_any-append (λ x. x == s) (filter (λ x. nat_lt x f) xs) (f ∷ filter (λ x. nat_lt f x) xs)
    ∙ (let a = has_filter (λ x. nat_lt x f) xs s in let b = has_filter (λ x. nat_lt f x) xs s in grind (arith, common_steps, a, b))

pub snoc_set : (xs : List ℕ) (f : ℕ) → set_of (xs ++ f ∷ []) ≡ with_site f (set_of xs)
snoc_set xs f = fold-append (λ set site. with_site site set) [] xs (f ∷ [])

has_fold : (xs set : List ℕ) (s : ℕ) → has_site (fold (λ set site. with_site site set) set xs) s ≡ (has_site set s || has_site xs s)
has_fold [] set s = grind (arith, common_steps)
has_fold (x ∷ xs) set s = has_fold xs (with_site x set) s ∙ (let h = has_with x set s in grind (arith, common_steps, h))

-- a set has just what came
pub has_set : (xs : List ℕ) (s : ℕ) → has_site (set_of xs) s ≡ has_site xs s
has_set xs s = has_fold xs [] s

split_length : (f : ℕ) (xs : List ℕ) → has_site xs f ≡ false → length (filter (λ x. nat_lt x f) xs) + length (filter (λ x. nat_lt f x) xs) ≡ length xs
split_length f [] h = refl
split_length f (x ∷ xs) h =
    let apart = or_parts (eqb x f) (has_site xs f) h in
    by (nat_lt x f) (nat_lt f x) refl refl apart.0 (split_length f xs apart.1)
  where
    by : (a b : Bool) → nat_lt x f ≡ a → nat_lt f x ≡ b → eqb x f ≡ false
        → length (filter (λ x. nat_lt x f) xs) + length (filter (λ x. nat_lt f x) xs) ≡ length xs
        → length (filter (λ x. nat_lt x f) (x ∷ xs)) + length (filter (λ x. nat_lt f x) (x ∷ xs)) ≡ length (x ∷ xs)
    by true true p q e ih = grind (arith, common_steps, p, q)
    by true false p q e ih = rw (p, q) (omega (arith, ih))
    by false true p q e ih = rw (p, q) (omega (arith, ih))
    by false false p q e ih = grind (arith, common_steps, p, q, e)

-- a site that a set does not have makes it longer by one
with_longer : (f : ℕ) (xs : List ℕ) → has_site xs f ≡ false → length (with_site f xs) ≡ length xs + 1
with_longer f xs h = let l = split_length f xs h in grind (arith, common_steps, l)

-- a site of a set is above its lowest bound, and 64 at most
pub asked_within : (low : ℕ) (xs : List ℕ) (f : ℕ) → ascends low xs ≡ true → has_site xs f ≡ true → (low + 1 ≤ f) × (f ≤ 64)
asked_within low [] f up h = cc
asked_within low (x ∷ xs) f up h =
    let above : low < x = grind (arith, common_steps, up) in
    let small : x ≤ 64 = grind (arith, common_steps, up) in
    let rest : ascends x xs ≡ true = grind (arith, common_steps, up) in
    by (eqb x f) refl above small (λ k. asked_within x xs f rest k)
  where
    by : (b : Bool) → eqb x f ≡ b → low < x → x ≤ 64 → (has_site xs f ≡ true → (x + 1 ≤ f) × (f ≤ 64)) → (low + 1 ≤ f) × (f ≤ 64)
    by true e above small later = let same : x ≡ f = eqb-true x f e in (omega (arith, same, above), omega (arith, same, small))
    by false e above small later =
        let k : has_site xs f ≡ true = grind (arith, common_steps, e, h) in
        let r = later k in (omega (arith, r.0, above), r.1)

-- what holds of an acknowledgement that counts
ack_parts : (own way asked was : Bool) → (own && way && asked && not was) ≡ true → (asked ≡ true) × (was ≡ false)
ack_parts true true true false e = (refl, refl)
ack_parts true true true true e = cc
ack_parts true true false was e = cc
ack_parts true false asked was e = cc
ack_parts false way asked was e = cc

-- an acknowledgement that counts is by one that was asked, and the first of it
pub ack_counts : (a : Round) (f n : ℕ) (dir : Dir)
    → (a.n == n && same_dir a.dir dir && has_site a.to f && not (has_site a.acked f)) ≡ true
    → (has_site a.to f ≡ true) × (has_site a.acked f ≡ false)
ack_counts a f n dir e = ack_parts (a.n == n) (same_dir a.dir dir) (has_site a.to f) (has_site a.acked f) e

-- with it the set is longer by one
pub acked_longer : (a : Round) (set : List ℕ) (f : ℕ) → set ≡ set_of a.acked → has_site a.acked f ≡ false
    → length (with_site f set) ≡ length set + 1
acked_longer a set f same h = with_longer f set (ap (λ (l : List ℕ). has_site l f) same ∙ has_set a.acked f ∙ h)
