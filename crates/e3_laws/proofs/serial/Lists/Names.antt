-- What the tests of transactions and names tell.
use Rattle.std.proofs.Common.{◌≡◌, true, false, sym, ◌∙◌, subst}
use Rattle.std.proofs.lemmas.Bool.{true≢false}
use Rattle.e3_types.specs.declared.transactions.Txn.{Txn}
use Rattle.e3_types.specs.Same.{same_numbers}
use Rattle.e3_types.proofs.SameSites.{same_numbers_refl}
use Rattle.e3_laws.proofs.agreement.Refinement.Lists.{same_from, same_numbers_are}
use Rattle.e3_laws.proofs.serial.Lists.Entries.{Name, same, same_name}
use Rattle.e3_laws.proofs.steps.Tests.{same_is}

pub same-true : (a b : Txn) → same a b ≡ true → a ≡ b
same-true a b h = sym (same_is b a h)

pub eq-same : (a b : Txn) → a ≡ b → same a b ≡ true
eq-same a b e = same_from b a (sym e)

pub same-false : (a b : Txn) → same a b ≡ false → a ≡ b → ⊥
same-false a b h e = true≢false (sym (eq-same a b e) ∙ h)

pub same_name-true : (a b : Name) → same_name a b ≡ true → a ≡ b
same_name-true a b h = sym (same_numbers_are b a h)

pub eq-same_name : (a b : Name) → a ≡ b → same_name a b ≡ true
eq-same_name a b e = subst (λ z. same_numbers z a ≡ true) e (same_numbers_refl a)
