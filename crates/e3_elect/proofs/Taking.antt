-- What the definitions make of an answer and of a report that count.
use Rattle.std.proofs.Common.{◌≡◌, ℕ, Bool, true, false, List, [], ◌∷◌, ◌++◌, refl}
use Rattle.std.specs.Prelude.{◌==◌, ◌&&◌, not, Option, Some, None}
use Rattle.std.specs.List.{list_any}
use Rattle.e3_types.specs.declared.transactions.Call.{Call}
use Rattle.e3_types.specs.declared.verdicts.SiteReport.{SiteReport}
use Rattle.e3_types.specs.Same.{same_call}
use Rattle.e3_types.specs.Sets.{has_site}
use Rattle.e3_world.specs.Gatherings.{Election}
use Rattle.e3_world.specs.declared.elections.Named.{Named}
use Rattle.e3_world.specs.Elections.{hear, take_report}

-- what holds of an answer that counts
pub awaited_parts : (same member was : Bool) → (same && member && not was) ≡ true → (same ≡ true) × (member ≡ true) × (was ≡ false)
awaited_parts true true false h = (refl, refl, refl)
awaited_parts true true true h = cc
awaited_parts true false was h = cc
awaited_parts false member was h = cc

-- what holds of a report that counts
pub owed_parts : (member was : Bool) → (member && not was) ≡ true → (member ≡ true) × (was ≡ false)
owed_parts true false h = (refl, refl)
owed_parts true true h = cc
owed_parts false was h = cc

pub hear_new : (e : Election) (f : ℕ) (call : Call) (n : ℕ) → same_call e.call call ≡ true → has_site e.group f ≡ true → list_any (λ h. h.site == f) e.heard ≡ false
    → hear e f call n ≡ Some (record e { heard = e.heard ++ record { site = f; elected = n } ∷ [] })
hear_new e f call n a b d = rw (a, b, d) refl

-- the number is this one
abbrev pub is_number : Option ℕ → ℕ → Bool
is_number None n = false
is_number (Some k) n = n == k

pub take_new : (call : Call) (group : List ℕ) (heard : List Named) (number : Option ℕ) (reports : List SiteReport) (n : ℕ) (r : SiteReport)
    → is_number number n ≡ true → has_site group r.site ≡ true → list_any (λ x. x.site == r.site) reports ≡ false
    → take_report (record { call = call; group = group; heard = heard; number = number; reports = reports }) n r
    ≡ Some (record { call = call; group = group; heard = heard; number = number; reports = reports ++ r ∷ [] })
take_new call group heard None reports n r a g h = cc
take_new call group heard (Some k) reports n r a g h = rw (a, g, h) refl
