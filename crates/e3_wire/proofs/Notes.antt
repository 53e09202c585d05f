-- What one more mark says.
use Rattle.std.proofs.Common.{◌≡◌, ◌≤◌, ℕ, zero, suc, [], ◌∷◌, ◌∙◌, ap, refl, arith}
use Rattle.e3_wire.specs.Claims.{ClaimPromises, EntriesFollow, EntryUses, NothingPromised, ScenarioStays}
use Rattle.e3_wire.specs.declared.marks.Mark.TheVariants as mark
use Rattle.e3_wire.specs.declared.marks.Note.{Note}
use Rattle.e3_wire.specs.Marks.{last_owner, note_of, promised, total}
use Rattle.e3_wire.proofs.Foreign.{entries_append}
use Rattle.e3_wire.proofs.Noting.{note_push}
use Rattle.e3_wire.proofs.Sums.{itself}

pub entries_follow : EntriesFollow
entries_follow seen since = entries_append seen since

pub scenario_stays : ScenarioStays
scenario_stays (mark.Start sc most ∷ seen) since played = (refl, refl)
scenario_stays [] since played = absurd (let some = played.given.some in omega (arith, some))
scenario_stays (mark.Entered e ∷ seen) since played = absurd (let some = played.given.some in omega (arith, some))
scenario_stays (mark.Place o outs ∷ seen) since played = absurd (let some = played.given.some in omega (arith, some))
scenario_stays (mark.Freed o ∷ seen) since played = absurd (let some = played.given.some in omega (arith, some))

pub claim_promises : ClaimPromises
claim_promises o outs marks = note_push o marks (mark.Place o outs) ∙ (rw (itself o) refl)

pub entry_uses : EntryUses
entry_uses e marks = note_push e.owner marks (mark.Entered e) ∙ (rw (itself e.owner) refl)

all_none : (f : ℕ → ℕ) (n : ℕ) → ((o : ℕ) → o ≤ n → f o ≡ 0) → total f n ≡ 0
all_none f zero none = none 0 (omega arith)
all_none f (suc n) none =
    let rest : total f n ≡ 0 = all_none f n (λ o few. none o (omega (arith, few))) in
    let last : f (suc n) ≡ 0 = none (suc n) (omega arith) in
    omega (arith, rest, last)

pub nothing_promised : NothingPromised
nothing_promised marks none =
    let places : promised (last_owner marks) marks ≡ 0 = all_none (λ o. (note_of o marks).places) (last_owner marks) (λ o low. ap (λ (w : Note). w.places) (none o low)) in
    omega (arith, places)
