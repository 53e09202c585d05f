-- What tests of numbers, states and transactions tell.
use Rattle.std.proofs.Common.{◌≡◌, ◌==◌, ◌||◌, ◌≤◌, ℕ, Bool, true, false, not, Option, Some, None, is_none, refl, sym, arith, eq-eqb, eqb-true, nat_le, true≢false}
use Rattle.std.proofs.lemmas.Grind.{common_steps}
use Rattle.e3_types.specs.declared.messages.Message.{Message}
use Rattle.e3_types.specs.declared.messages.Message.TheVariants as msg
use Rattle.e3_types.specs.declared.transactions.Txn.{Txn}
use Rattle.e3_types.specs.Ranks.{rank}
use Rattle.e3_types.specs.Same.{same_txn}
use Rattle.e3_types.proofs.SameSites.{same_numbers_eq, same_numbers_refl}

pub or_true : (b : Bool) → (b || true) ≡ true
or_true true = refl
or_true false = refl

pub or_false : (b : Bool) → (b || false) ≡ b
or_false true = refl
or_false false = refl

-- a test that fails, turned
pub not_true : (b : Bool) → not b ≡ true → b ≡ false
not_true true is = absurd (true≢false (sym is))
not_true false is = refl

pub both_ways : (n m : ℕ) → (n == m) ≡ true → (m == n) ≡ true
both_ways n m is = eq-eqb m n (sym (eqb-true n m is))

pub le_is : (a b : ℕ) → a ≤ b → nat_le a b ≡ true
le_is a b less = grind (arith, common_steps, less)

pub some_is : {X : Type 0} (o : Option X) → is_none o ≡ false → (x : X) × (o ≡ Some x)
some_is None is = absurd cc
some_is (Some x) is = (x, refl)

-- transactions that are one
pub same_self : (t : Txn) → same_txn t t ≡ true
same_self t = let sites = same_numbers_refl t.sites in grind (arith, common_steps, sites)

pub same_is : (t u : Txn) → same_txn t u ≡ true → t ≡ u
same_is t u e =
    let sites = same_numbers_eq t.sites u.sites in
    grind (arith, common_steps, sites, e)

-- all ranks are at most eleven
pub few_ranks : (x : Message) → rank x ≤ 11
few_ranks (msg.Do t n op) = omega arith
few_ranks (msg.Done t n inc answer) = omega arith
few_ranks (msg.Died t n older) = omega arith
few_ranks (msg.Ask t call) = omega arith
few_ranks (msg.LastElected t call elected) = omega arith
few_ranks (msg.Elected t n) = omega arith
few_ranks (msg.Report t n st attempt) = omega arith
few_ranks (msg.VoteReq t inc count) = omega arith
few_ranks (msg.Vote t said) = omega arith
few_ranks (msg.Pre t n dir) = omega arith
few_ranks (msg.Ack t n dir) = omega arith
few_ranks (msg.Decide t dir) = omega arith
