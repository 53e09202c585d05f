-- A set of sites and its bits determine each other: what the view of a set by the list of its sites rests on.
use Rattle.std.specs.Prelude.{◌≡◌, ℕ, zero, suc, ◌+◌, ◌*◌, ◌/◌, ◌%◌, ◌^◌, ◌<◌, ◌==◌, Bool, true, false, ◌∷◌, if◌then◌else◌, refl}
use Rattle.std.proofs.Common.{arith, ◌∙◌, ap, mul-zero, eqb-true, add-one}
use Rattle.std.proofs.Math.Nat.{pow-suc}
use Rattle.std.proofs.lemmas.Bool.{eqb-false}
use Rattle.e3_types.specs.declared.sites.SiteSet.TheInside.{Inside}
use Rattle.e3_types.specs.Sites.{sites_from, sites_of, bits_of}

-- an odd number is twice its half, and 1
odd : (p q bits : ℕ) → bits ≡ 2 * q + 1 → p + (p * 2) * q ≡ p * bits
odd p q bits e = rw e (grind arith)

-- an even number is twice its half
even : (p q bits : ℕ) → bits ≡ 2 * q → (p * 2) * q ≡ p * bits
even p q bits e = rw e (grind arith)

-- the lowest bit makes up a number with the others
bits_by : (k n bits : ℕ) (b : Bool) → (bits % 2 == 1) ≡ b → bits_of (sites_from (suc (suc k)) n (bits / 2)) ≡ 2 ^ suc k * (bits / 2)
    → bits_of (if b then suc k ∷ sites_from (suc (suc k)) n (bits / 2) else sites_from (suc (suc k)) n (bits / 2)) ≡ 2 ^ k * bits
unfolding bits_of
bits_by k n bits true is rest =
    let e : bits ≡ 2 * (bits / 2) + 1 = omega (arith, eqb-true (bits % 2) 1 is) in
    rw rest (grind (arith, add-one, pow-suc 2 k, odd (2 ^ k) (bits / 2) bits e))
bits_by k n bits false is rest =
    let e : bits ≡ 2 * (bits / 2) = omega (arith, eqb-false (bits % 2) 1 is) in
    rw rest (rw (pow-suc 2 k) (even (2 ^ k) (bits / 2) bits e))

-- the sites of the n lowest bits have these bits
bits_from : (k n bits : ℕ) → bits < 2 ^ n → bits_of (sites_from (suc k) n bits) ≡ 2 ^ k * bits
unfolding sites_from bits_of
bits_from k zero bits h = let z : bits ≡ 0 = omega arith in rw (z, mul-zero) refl
bits_from k (suc n) bits h =
    let small : bits / 2 < 2 ^ n = omega (arith, pow-suc 2 n) in
    bits_by k n bits (bits % 2 == 1) refl (bits_from (suc k) n (bits / 2) small)

-- the bits of the sites of a number are that number
pub bits_back : (bits : ℕ) → bits < 2 ^ 64 → bits_of (sites_of bits) ≡ bits
bits_back bits h = bits_from 0 64 bits h ∙ (omega arith)

-- so a set's field comes back from the list of its sites
pub bits_of-sites_of : (a : Inside) → a.bits < 2 ^ 64 → record { bits = bits_of (sites_of a.bits) } ≡ a
bits_of-sites_of a h = ap (λ (b : ℕ). let i : Inside = record { bits = b } in i) (bits_back a.bits h)
