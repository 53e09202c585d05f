-- An answer that is awaited is one to an operation that was issued.
use Rattle.std.proofs.Common.{◌≡◌, ℕ, zero, suc, ◌≤◌, true, List, length, refl, arith}
use Rattle.std.specs.Prelude.{Option, Some, None, slice_get}
use Rattle.std.proofs.lemmas.Bool.{and_parts}
use Rattle.std.proofs.lemmas.Option.{slice_get_within}
use Rattle.e3_client.specs.declared.client.Issued.{Issued}
use Rattle.e3_client.specs.Clients.{unanswered, is_of, is_issued_to, is_awaited, is_awaited_from}

issued_within : (site n : ℕ) (ops : List Issued) → is_issued_to site n ops ≡ true → (1 ≤ n) × (n ≤ length ops)
issued_within site zero ops e = cc
issued_within site (suc n) ops e = by (slice_get ops n) refl e
  where
    by : (o : Option Issued) → slice_get ops n ≡ o → is_of site o ≡ true → (1 ≤ suc n) × (suc n ≤ length ops)
    by None q e = cc
    by (Some x) q e = let h = slice_get_within ops n x q in (omega arith, omega (arith, h))

pub awaited_within : (site n : ℕ) (ops : List Issued) → is_awaited_from site n ops ≡ true → (1 ≤ n) × (n ≤ length ops)
awaited_within site n ops e = issued_within site n ops (and_parts (is_awaited n (unanswered ops)) (is_issued_to site n ops) e).1
