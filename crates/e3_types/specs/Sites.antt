-- Sets of sites as bits: which list of numbers the bits stand for, and which bits a list.
use Rattle.std.specs.Prelude.{ℕ, zero, suc, ◌+◌, ◌-◌, ◌/◌, ◌%◌, ◌^◌, ◌==◌, List, [], ◌∷◌, if◌then◌else◌}

-- the sites of the n lowest bits, the lowest of which stands for site k
unfoldable pub sites_from : ℕ → ℕ → ℕ → List ℕ
sites_from k zero bits = []
sites_from k (suc n) bits =
    if bits % 2 == 1 then k ∷ sites_from (suc k) n (bits / 2) else sites_from (suc k) n (bits / 2)

-- the sites of a number in which bit k - 1 stands for site k, in ascending order
abbrev pub sites_of : ℕ → List ℕ
sites_of bits = sites_from 1 64 bits

-- the number in which bit k - 1 stands for site k
unfoldable pub bits_of : List ℕ → ℕ
bits_of [] = 0
bits_of (site ∷ sites) = 2 ^ (site - 1) + bits_of sites
