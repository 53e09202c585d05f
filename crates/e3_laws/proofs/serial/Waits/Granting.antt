-- A request that is granted stands ahead of all that wait on its name and are not granted.
use Rattle.std.proofs.Common.{◌≡◌, ◌⊎◌, inl, inr, [], ◌∷◌, ℕ, zero, suc, List, take, length, sym, subst, ◌∙◌}
use Rattle.e3_types.specs.Locks.{front}
use Rattle.e3_types.specs.Same.{same_numbers}
use Rattle.e3_laws.proofs.agreement.Refinement.Lists.{same_numbers_are}
use Rattle.e3_world.specs.declared.lives.Asked.{Asked}
use Rattle.e3_world.specs.declared.lives.At.{At}
use Rattle.e3_world.specs.declared.lives.Made.{Made}
use Rattle.e3_world.specs.Logs.{key_of}
use Rattle.e3_world.specs.Making.{log_now, steps_now, names_of, asked_on, granted_on, grants_after}
use Rattle.e3_world.specs.Operations.{waiting, holders, queue}
use Rattle.e3_laws.proofs.serial.Lists.Entries.{In, Sorted, name_of}
use Rattle.e3_laws.proofs.serial.Lists.Members.{in_filter, filter_in, sorted_filter}
use Rattle.e3_laws.proofs.serial.Lists.Names.{eq-same_name}
use Rattle.e3_laws.proofs.serial.Step.Stepping.{in_flat, in_take}
use Rattle.e3_laws.proofs.serial.Site.Holding.{in_flat_from}

-- of a member of a list and one of its front, the first is in the front too, or the second stands before it
taken_or_behind : {X : Type 0} (R : X → X → Type 0) (n : ℕ) (xs : List X) (q r : X) → Sorted R xs → In q xs → In r (take n xs) → In q (take n xs) ⊎ R r q
taken_or_behind R zero xs q r s h k = absurd k
taken_or_behind R (suc n) [] q r s h k = absurd k
taken_or_behind R (suc n) (x ∷ xs) q r s (inl e) k = inl (inl e)
taken_or_behind R (suc n) (x ∷ xs) q r s (inr h) (inl e) = inr (subst (λ z. R z q) e (s.0 q h))
taken_or_behind R (suc n) (x ∷ xs) q r s (inr h) (inr k) = elim (taken_or_behind R n xs q r s.1 h k) [ inl a ↦ inl (inr a) | inr b ↦ inr b ]

pub granted_or_behind : (R : Asked → Asked → Type 0) (a : At) (made : Made) (q r : Asked) → Sorted R (waiting a.site (log_now a made) (steps_now a made)) →
    In q (waiting a.site (log_now a made) (steps_now a made)) → In r (grants_after a made) → name_of q.op ≡ name_of r.op → In q (grants_after a made) ⊎ R r q
granted_or_behind R a made q r s h k same =
    by (in_flat (granted_on a made (waiting a.site (log_now a made) (steps_now a made))) (names_of (waiting a.site (log_now a made) (steps_now a made))) r k)
  where
    by : (n : List ℕ) × In n (names_of (waiting a.site (log_now a made) (steps_now a made))) × In r (granted_on a made (waiting a.site (log_now a made) (steps_now a made)) n) →
        In q (grants_after a made) ⊎ R r q
    by g =
        let waits : List Asked = waiting a.site (log_now a made) (steps_now a made) in
        let f = in_filter (λ (x : Asked). same_numbers g.0 (key_of x.op).name) waits r (in_take _ (asked_on g.0 waits) r g.2) in
        let name : g.0 ≡ name_of r.op = same_numbers_are g.0 (name_of r.op) f.1 in
        let on : In q (asked_on g.0 waits) = filter_in (λ (x : Asked). same_numbers g.0 (key_of x.op).name) waits q h (eq-same_name (name_of q.op) g.0 (same ∙ sym name)) in
        elim (taken_or_behind R (length (front (holders a.site g.0 (log_now a made) (steps_now a made)) (queue g.0 (asked_on g.0 waits)))) (asked_on g.0 waits) q r
        (sorted_filter R (λ (x : Asked). same_numbers g.0 (key_of x.op).name) waits s) on g.2) [
          | inl granted ↦ inl (in_flat_from (granted_on a made waits) (names_of waits) g.0 q g.1 granted)
          | inr behind ↦ inr behind
        ]
