-- Operations by their numbers: which is unanswered, with one more operation and with one more answer.
use Rattle.std.specs.Prelude.{◌≡◌, ◌==◌, ◌&&◌, ◌||◌, ◌++◌, ◌∷◌, [], ◌+◌, ◌<◌, ◌≤◌, ℕ, zero, suc, Bool, true, false, not, List, length, map, fold, Option, Some, None, is_none, slice_get, slice_set}
use Rattle.std.proofs.Common.{refl, ap, sym, subst, ◌∙◌, arith}
use Rattle.std.proofs.lemmas.Grind.{common_steps}
use Rattle.e3_world.proofs.Turns.{true_not_false}
use Rattle.e3_world.specs.declared.lives.Expected.{Expected}
use Rattle.e3_client.specs.declared.client.Issued.{Issued}
use Rattle.e3_client.specs.Clients.{unanswered_from, expected_with, is_of}
use Rattle.e3_client.specs.Rule.{is_answered_from}

-- the first operation is unanswered, or the search goes on behind it
here : (first : ℕ) (op : Issued) (ops : List Issued) → is_none op.answered ≡ true → unanswered_from first (op ∷ ops) ≡ Some first
here first op ops is = rw is refl

behind : (first : ℕ) (op : Issued) (ops : List Issued) → is_none op.answered ≡ false → unanswered_from first (op ∷ ops) ≡ unanswered_from (suc first) ops
behind first op ops is = rw is refl

none_some : (n : ℕ) (o : Option ℕ) → o ≡ Some n → o ≡ None → ⊥
none_some n o is none = cc

some_same : (m n : ℕ) (o : Option ℕ) → o ≡ Some m → o ≡ Some n → m ≡ n
some_same m n o is same = cc

-- what is unanswered has no number below the first
pub from_first : (first n : ℕ) (ops : List Issued) → unanswered_from first ops ≡ Some n → first ≤ n
from_first first n [] e = absurd cc
from_first first n (op ∷ ops) e = by (is_none op.answered) refl (λ rest. from_first (suc first) n ops rest)
  where
    by : (b : Bool) → is_none op.answered ≡ b → (unanswered_from (suc first) ops ≡ Some n → suc first ≤ n) → first ≤ n
    by true is more = let same = some_same first n _ (here first op ops is) e in omega (arith, same)
    by false is more = let above = more (sym (behind first op ops is) ∙ e) in omega (arith, above)

-- nor is one answered there
none_below : (first n : ℕ) (ops : List Issued) → n < first → is_answered_from first n ops ≡ false
none_below first n [] low = refl
none_below first n (op ∷ ops) low =
    let rest : is_answered_from (suc first) n ops ≡ false = none_below (suc first) n ops (omega (arith, low)) in
    let other : (first == n) ≡ false = grind (arith, common_steps, low) in
    rw (other, rest) refl

-- where none is unanswered, each is answered
pub all_answered : (first i : ℕ) (ops : List Issued) → unanswered_from first ops ≡ None → i < length ops → is_answered_from first (first + i) ops ≡ true
all_answered first i [] free low = absurd (omega (arith, low))
all_answered first zero (op ∷ ops) free low = by (is_none op.answered) refl
  where
    by : (b : Bool) → is_none op.answered ≡ b → is_answered_from first (first + 0) (op ∷ ops) ≡ true
    by true is = absurd (none_some first _ (here first op ops is) free)
    by false is = let same : (first == first + 0) ≡ true = grind (arith, common_steps) in rw (same, is) refl
all_answered first (suc i) (op ∷ ops) free low = by (is_none op.answered) refl (λ rest. all_answered (suc first) i ops rest (omega (arith, low)))
  where
    by : (b : Bool) → is_none op.answered ≡ b → (unanswered_from (suc first) ops ≡ None → is_answered_from (suc first) (suc first + i) ops ≡ true)
        → is_answered_from first (first + suc i) (op ∷ ops) ≡ true
    by true is more = absurd (none_some first _ (here first op ops is) free)
    by false is more =
        let other : (first == first + suc i) ≡ false = grind (arith, common_steps) in
        let number : suc first + i ≡ first + suc i = omega arith in
        let rest = more (sym (behind first op ops is) ∙ free) in
        rw other (subst (λ (n : ℕ). is_answered_from (suc first) n ops ≡ true) number rest)

-- what is unanswered is not answered
pub not_answered : (first n : ℕ) (ops : List Issued) → unanswered_from first ops ≡ Some n → is_answered_from first n ops ≡ false
not_answered first n [] e = refl
not_answered first n (op ∷ ops) e = by (is_none op.answered) refl (λ rest. not_answered (suc first) n ops rest)
  where
    by : (b : Bool) → is_none op.answered ≡ b → (unanswered_from (suc first) ops ≡ Some n → is_answered_from (suc first) n ops ≡ false)
        → is_answered_from first n (op ∷ ops) ≡ false
    by true is more =
        let same = some_same first n _ (here first op ops is) e in
        let rest : is_answered_from (suc first) n ops ≡ false = none_below (suc first) n ops (omega (arith, same)) in
        grind (arith, common_steps, is, rest)
    by false is more =
        let next = sym (behind first op ops is) ∙ e in
        let above = from_first (suc first) n ops next in
        let other : (first == n) ≡ false = grind (arith, common_steps, above) in
        let rest = more next in
        rw (other, rest) refl

-- with one more operation
pub answered_push : (first n : ℕ) (ops : List Issued) (op : Issued) → is_none op.answered ≡ true → is_answered_from first n (ops ++ op ∷ []) ≡ is_answered_from first n ops
answered_push first n [] op none = by (first == n) refl
  where
    by : (b : Bool) → (first == n) ≡ b → ((first == n && not (is_none op.answered)) || false) ≡ false
    by true is = rw (is, none) refl
    by false is = rw is refl
answered_push first n (o ∷ ops) op none = ap (λ (b : Bool). (first == n && not (is_none o.answered)) || b) (answered_push (suc first) n ops op none)

pub unanswered_push : (first : ℕ) (ops : List Issued) (op : Issued) → unanswered_from first ops ≡ None → is_none op.answered ≡ true
    → unanswered_from first (ops ++ op ∷ []) ≡ Some (first + length ops)
unanswered_push first [] op free none = let same : first ≡ first + 0 = omega arith in here first op [] none ∙ ap (λ (n : ℕ). Some n) same
unanswered_push first (o ∷ ops) op free none = by (is_none o.answered) refl (λ rest. unanswered_push (suc first) ops op rest none)
  where
    by : (b : Bool) → is_none o.answered ≡ b → (unanswered_from (suc first) ops ≡ None → unanswered_from (suc first) (ops ++ op ∷ []) ≡ Some (suc first + length ops))
        → unanswered_from first ((o ∷ ops) ++ op ∷ []) ≡ Some (first + length (o ∷ ops))
    by true is more = absurd (none_some first _ (here first o ops is) free)
    by false is more =
        let number : suc first + length ops ≡ first + suc (length ops) = omega arith in
        behind first o (ops ++ op ∷ []) is ∙ more (sym (behind first o ops is) ∙ free) ∙ ap (λ (n : ℕ). Some n) number

-- an operation without an answer counts for no site
pub none_counts : (site : ℕ) (was : Expected) (op : Issued) → is_none op.answered ≡ true → expected_with site was op ≡ was
none_counts site was op none = by op.answered refl (op.site == site) refl
  where
    by : (o : Option ℕ) → op.answered ≡ o → (b : Bool) → (op.site == site) ≡ b → expected_with site was op ≡ was
    by None is true e = rw (e, is) refl
    by None is false e = rw e refl
    by (Some inc) is b e = absurd (true_not_false (sym none ∙ rw is refl))

-- with an answer to the last operation, which was unanswered
pub answered_set : (first i n : ℕ) (ops : List Issued) (op : Issued) → i < length ops → is_none op.answered ≡ false
    → is_answered_from first n (slice_set ops i op) ≡ (n == first + i || is_answered_from first n ops)
answered_set first i n [] op low some = absurd (omega (arith, low))
answered_set first zero n (o ∷ ops) op low some = by (first == n) refl
  where
    by : (b : Bool) → (first == n) ≡ b → is_answered_from first n (op ∷ ops) ≡ (n == first + 0 || is_answered_from first n (o ∷ ops))
    by true is = let back : (n == first + 0) ≡ true = grind (arith, common_steps, is) in rw (is, some, back) refl
    by false is = let back : (n == first + 0) ≡ false = grind (arith, common_steps, is) in rw (is, back) refl
answered_set first (suc i) n (o ∷ ops) op low some =
    let number : suc first + i ≡ first + suc i = omega arith in
    let rest = answered_set (suc first) i n ops op (omega (arith, low)) some in
    let moved : is_answered_from (suc first) n (slice_set ops i op) ≡ (n == first + suc i || is_answered_from (suc first) n ops) =
    subst (λ (k : ℕ). is_answered_from (suc first) n (slice_set ops i op) ≡ (n == k || is_answered_from (suc first) n ops)) number rest in
    ap (λ (b : Bool). (first == n && not (is_none o.answered)) || b) moved
    ∙ swap (first == n && not (is_none o.answered)) (n == first + suc i) (is_answered_from (suc first) n ops)
  where
    swap : (a b c : Bool) → (a || (b || c)) ≡ (b || (a || c))
    swap true true c = refl
    swap true false c = refl
    swap false b c = refl

pub unanswered_set : (first i : ℕ) (ops : List Issued) (op : Issued) → unanswered_from first ops ≡ Some (first + i) → suc i ≡ length ops → is_none op.answered ≡ false
    → unanswered_from first (slice_set ops i op) ≡ None
unanswered_set first i [] op e last some = absurd (omega (arith, last))
unanswered_set first zero (o ∷ []) op e last some = behind first op [] some
unanswered_set first zero (o ∷ p ∷ ops) op e last some = absurd (omega (arith, last))
unanswered_set first (suc i) (o ∷ ops) op e last some = by (is_none o.answered) refl (λ rest. unanswered_set (suc first) i ops op rest (omega (arith, last)) some)
  where
    by : (b : Bool) → is_none o.answered ≡ b → (unanswered_from (suc first) ops ≡ Some (suc first + i) → unanswered_from (suc first) (slice_set ops i op) ≡ None)
        → unanswered_from first (o ∷ slice_set ops i op) ≡ None
    by true is more = absurd (let same = some_same first (first + suc i) _ (here first o ops is) e in omega (arith, same))
    by false is more =
        let number : first + suc i ≡ suc first + i = omega arith in
        behind first o (slice_set ops i op) is ∙ more (sym (behind first o ops is) ∙ e ∙ ap (λ (n : ℕ). Some n) number)

pub expected_set : (site first i : ℕ) (was : Expected) (ops : List Issued) (op : Issued) → unanswered_from first ops ≡ Some (first + i) → suc i ≡ length ops
    → fold (expected_with site) was (slice_set ops i op) ≡ expected_with site (fold (expected_with site) was ops) op
expected_set site first i was [] op e last = absurd (omega (arith, last))
expected_set site first zero was (o ∷ []) op e last = by (is_none o.answered) refl
  where
    by : (b : Bool) → is_none o.answered ≡ b → expected_with site was op ≡ expected_with site (expected_with site was o) op
    by true is = ap (λ (w : Expected). expected_with site w op) (sym (none_counts site was o is))
    by false is = absurd (none_some (first + 0) _ (sym (behind first o [] is) ∙ e) refl)
expected_set site first zero was (o ∷ p ∷ ops) op e last = absurd (omega (arith, last))
expected_set site first (suc i) was (o ∷ ops) op e last =
    by (is_none o.answered) refl (λ rest. expected_set site (suc first) i (expected_with site was o) ops op rest (omega (arith, last)))
  where
    by : (b : Bool) → is_none o.answered ≡ b
        → (unanswered_from (suc first) ops ≡ Some (suc first + i) → fold (expected_with site) (expected_with site was o) (slice_set ops i op)
        ≡ expected_with site (fold (expected_with site) (expected_with site was o) ops) op)
        → fold (expected_with site) was (o ∷ slice_set ops i op) ≡ expected_with site (fold (expected_with site) was (o ∷ ops)) op
    by true is more = absurd (let same = some_same first (first + suc i) _ (here first o ops is) e in omega (arith, same))
    by false is more =
        let number : first + suc i ≡ suc first + i = omega arith in
        more (sym (behind first o ops is) ∙ e ∙ ap (λ (n : ℕ). Some n) number)

-- an operation of the same site in another's place
pub sites_set : (site i : ℕ) (ops : List Issued) (op : Issued) → is_of site (slice_get ops i) ≡ true → op.site ≡ site
    → map (λ o. o.site) (slice_set ops i op) ≡ map (λ o. o.site) ops
sites_set site i [] op is same = refl
sites_set site zero (o ∷ ops) op is same =
    let one : op.site ≡ o.site = (let own : o.site ≡ site = grind (arith, common_steps, is) in same ∙ sym own) in
    ap (λ (s : ℕ). s ∷ map (λ o. o.site) ops) one
sites_set site (suc i) (o ∷ ops) op is same = ap (λ (l : List ℕ). o.site ∷ l) (sites_set site i ops op is same)
