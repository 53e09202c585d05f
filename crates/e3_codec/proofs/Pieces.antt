-- Writing one field behind the other writes them all.
use Rattle.std.proofs.Common.{Result, Ok, Err, OnOk, ◌≡◌, ◌<◌, ◌/◌, ◌%◌, ◌++◌, ◌∷◌, [], ℕ, List, arith, ap, ◌∙◌, append_assoc}
use Rattle.e3_types.specs.Spelling.{u8}

-- a byte is spelled by itself
pub one_byte : (n : ℕ) → n < 256 → u8 n ≡ n ∷ []
one_byte n few = let same : n / 1 % 256 ≡ n = omega (arith, few) in (λ i. same i ∷ [])

-- two pieces, one behind the other
pub appended_2 : (out a b p q : List ℕ) → p ≡ out ++ a → q ≡ p ++ b → q ≡ out ++ (a ++ b)
appended_2 out a b p q ep eq = let all : q ≡ (out ++ a) ++ b = eq ∙ ap (λ (l : List ℕ). l ++ b) ep in all ∙ simp append_assoc

-- four pieces, one behind the other
pub appended_4 : (out a b c d p q r s : List ℕ) → p ≡ out ++ a → q ≡ p ++ b → r ≡ q ++ c → s ≡ r ++ d → s ≡ out ++ (a ++ (b ++ (c ++ d)))
appended_4 out a b c d p q r s ep eq er es =
    let all : s ≡ ((out ++ a) ++ b) ++ c ++ d = es ∙ ap (λ (l : List ℕ). l ++ d) (er ∙ ap (λ (l : List ℕ). l ++ c) (eq ∙ ap (λ (l : List ℕ). l ++ b) ep)) in
    all ∙ simp append_assoc

-- five pieces, one behind the other
pub appended_5 : (out a b c d e p q r s t : List ℕ) → p ≡ out ++ a → q ≡ p ++ b → r ≡ q ++ c → s ≡ r ++ d → t ≡ s ++ e →
    t ≡ out ++ (a ++ (b ++ (c ++ (d ++ e))))
appended_5 out a b c d e p q r s t ep eq er es et =
    et ∙ ap (λ (l : List ℕ). l ++ e) (appended_4 out a b c d p q r s ep eq er es) ∙ simp append_assoc

-- a third piece behind two that were written as one
pub behind_head : (out a b c p q : List ℕ) → p ≡ out ++ (a ++ b) → q ≡ p ++ c → q ≡ out ++ (a ++ (b ++ c))
behind_head out a b c p q ep eq = let all : q ≡ (out ++ (a ++ b)) ++ c = eq ∙ ap (λ (l : List ℕ). l ++ c) ep in all ∙ simp append_assoc

-- what follows with Ok from what holds with Ok
pub on_ok : {T E P Q : Type 0} (r : Result T E) → (P → Q) → OnOk r P → OnOk r Q
on_ok (Ok x) follows holds = follows holds
on_ok (Err e) follows holds = holds
