-- Equal sets of sites have equal bits.
use Rattle.std.specs.Prelude.{◌≡◌, ◌==◌, ◌^◌, ◌<◌, ◌∷◌, [], ℕ, true, List}
use Rattle.std.proofs.Common.{refl, arith, ◌∙◌, ap, sym}
use Rattle.std.proofs.lemmas.Grind.{common_steps}
use Rattle.e3_types.specs.Same.{same_numbers}
use Rattle.e3_types.specs.Sites.{sites_of, bits_of}
use Rattle.e3_types.specs.SetBits.{bits_back}

-- a list of numbers equals itself
pub same_numbers_refl : (xs : List ℕ) → same_numbers xs xs ≡ true
same_numbers_refl [] = refl
same_numbers_refl (x ∷ xs) = let ih = same_numbers_refl xs in grind (arith, common_steps, ih)

-- lists that pass the test are one
pub same_numbers_eq : (xs : List ℕ) → (ys : List ℕ) → same_numbers xs ys ≡ true → xs ≡ ys
same_numbers_eq [] [] e = refl
same_numbers_eq (x ∷ xs) (y ∷ ys) e = let ih = same_numbers_eq xs ys in grind (arith, common_steps, ih, e)
same_numbers_eq [] (y ∷ ys) e = grind (arith, common_steps, e)
same_numbers_eq (x ∷ xs) [] e = grind (arith, common_steps, e)

-- equal sets have equal bits
pub same_bits : (a b : ℕ) → a < 2 ^ 64 → b < 2 ^ 64 → (a == b) ≡ same_numbers (sites_of a) (sites_of b)
same_bits a b p q =
    let here : a ≡ b → same_numbers (sites_of a) (sites_of b) ≡ true = λ e. rw e (same_numbers_refl (sites_of b)) in
    let back : same_numbers (sites_of a) (sites_of b) ≡ true → a ≡ b =
    λ e. sym (bits_back a p) ∙ ap bits_of (same_numbers_eq (sites_of a) (sites_of b) e) ∙ bits_back b q in
    grind (arith, common_steps, here, back)
