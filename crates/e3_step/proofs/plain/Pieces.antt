-- Facts over variables that proofs of the step's parts join.
use Rattle.std.specs.Prelude.{◌≡◌, ◌+◌, ◌++◌, ◌<◌, ℕ, List, length, take}
use Rattle.std.specs.List.{flat_map}
use Rattle.std.proofs.Common.{◌∙◌, ap, get_or, arith}
use Rattle.std.proofs.lemmas.Grind.{common_steps}
use Rattle.e3_types.specs.declared.locks.Grant.{Grant}
use Rattle.e3_types.specs.declared.locks.Lock.{Lock}
use Rattle.e3_types.specs.Locks.{lock_grant}

-- one more piece of a flat_map
pub flat_more : {X Y : Type 0} (f : X → List Y) (xs : List X) (i : ℕ) (x : X) → i < length xs → x ≡ get_or xs i x
    → flat_map f (take (i + 1) xs) ≡ flat_map f (take i xs) ++ f x
flat_more f xs i x h e = grind (arith, common_steps, h, e)

-- the lock rule over equal locks, holders and waiters
pub grant_is : (g : Grant) (x y : Lock) (hs ks ws vs : List Lock) → g ≡ lock_grant x hs ws → x ≡ y → hs ≡ ks → ws ≡ vs
    → g ≡ lock_grant y ks vs
grant_is g x y hs ks ws vs d e f h =
    d ∙ ap (λ (l : Lock). lock_grant l hs ws) e ∙ ap (λ (ls : List Lock). lock_grant y ls ws) f
    ∙ ap (λ (ls : List Lock). lock_grant y ks ls) h
