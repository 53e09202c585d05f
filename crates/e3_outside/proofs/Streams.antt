-- Reads and writes one after another.
use Rattle.std.proofs.Common.{List, ℕ, Option, Some, None, ◌++◌, append_assoc, sym, ap, ◌∙◌}
use Rattle.std.specs.Io.KnownBytes.{Consumes, Appends}

-- two reads take the bytes of both
pub Consumes-then : (a b c : Option (List ℕ)) (xs ys : List ℕ) → Consumes a b xs → Consumes b c ys → Consumes a c (xs ++ ys)
Consumes-then None b c xs ys p q = tt
Consumes-then (Some u) None c xs ys p q = absurd p
Consumes-then (Some u) (Some v) None xs ys p q = absurd q
Consumes-then (Some u) (Some v) (Some w) xs ys p q = p ∙ ap (λ (z : List ℕ). xs ++ z) q ∙ sym (append_assoc xs ys w)

-- two writes append the bytes of both
pub Appends-then : (a b c : Option (List ℕ)) (xs ys : List ℕ) → Appends a b xs → Appends b c ys → Appends a c (xs ++ ys)
Appends-then None b c xs ys p q = tt
Appends-then (Some u) None c xs ys p q = absurd p
Appends-then (Some u) (Some v) None xs ys p q = absurd q
Appends-then (Some u) (Some v) (Some w) xs ys p q = q ∙ ap (λ (z : List ℕ). z ++ ys) p ∙ append_assoc u xs ys
