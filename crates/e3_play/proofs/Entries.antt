-- The history stays legal behind what is entered.
use Rattle.std.proofs.Common.{◌≡◌, ◌++◌, ◌∷◌, [], ◌≤◌, inl, inr, ℕ, suc, false, List, length, refl, sym, subst, ap, ◌∙◌, append_assoc, append-nil}
use Rattle.e3_types.specs.declared.entries.Act.TheVariants.{Miss, Rise, RiseFall}
use Rattle.e3_types.specs.declared.entries.Entry.{Entry}
use Rattle.e3_types.specs.declared.scenarios.Scenario.{Scenario}
use Rattle.e3_world.specs.Legal.{Guard, IsLegal, IsRising, LegalAfter}
use Rattle.e3_world.specs.Packets.{pending}
use Rattle.e3_world.proofs.Rises.{Rising, rise_one, miss_one, next_rise}
use Rattle.e3_play.proofs.Quiet.{none_pending}
use Rattle.e3_play.specs.Entering.{AfterRise}
use Rattle.e3_play.specs.Settled.{StaysInStep}
use Rattle.e3_play.proofs.SameSteps.{stays_one}

-- the last entry of a legal history meets its guard
last_guard : (sc : Scenario) (before h : List Entry) (e : Entry) → LegalAfter sc before (h ++ e ∷ []) → Guard sc (before ++ h) e
last_guard sc before [] e legal = let P : List Entry → Type 0 = λ l. Guard sc l e in subst P (sym (append-nil before)) legal.0
last_guard sc before (x ∷ h) e legal =
    let P : List Entry → Type 0 = λ l. Guard sc l e in
    subst P (append_assoc before (x ∷ []) h) (last_guard sc (before ++ x ∷ []) h e legal.1)

pub guard_last : (sc : Scenario) (h : List Entry) (e : Entry) → IsLegal sc (h ++ e ∷ []) → Guard sc h e
guard_last sc h e legal = last_guard sc [] h e legal

-- the next site may rise
pub turn_to_rise : (sc : Scenario) (h : List Entry) (k : ℕ) → suc k ≤ length sc.weights → Rising sc h k → IsRising sc h (suc k)
turn_to_rise sc h k some was = (guard_last sc h (record { owner = suc k; act = Rise false 1 }) (rise_one sc h k some was).legal).rising

-- one more site had its rise, however it ended
pub one_risen : (sc : Scenario) (h more : List Entry) (k : ℕ) → suc k ≤ length sc.weights → Rising sc h k → AfterRise sc h (suc k) more → Rising sc more (suc k)
one_risen sc h more k some was (inl rose) =
    let P : List Entry → Type 0 = λ l. Rising sc l (suc k) in subst P (sym rose.entered) (next_rise sc h k (Rise rose.kept rose.inc) was rose.allowed refl refl)
one_risen sc h more k some was (inr (inl failed)) =
    let P : List Entry → Type 0 = λ l. Rising sc l (suc k) in
    subst P (sym failed.entered) (next_rise sc h k (RiseFall failed.kept failed.inc failed.why) was failed.allowed refl refl)
one_risen sc h more k some was (inr (inr missed)) = let P : List Entry → Type 0 = λ l. Rising sc l (suc k) in subst P (sym missed) (miss_one sc h k some was)

-- a rise sends nothing
pub rise_quiet : (sc : Scenario) (h more : List Entry) (site : ℕ) → pending sc h ≡ [] → AfterRise sc h site more → pending sc more ≡ []
rise_quiet sc h more site none (inl rose) = ap (pending sc) rose.entered ∙ none_pending sc h _ refl none
rise_quiet sc h more site none (inr (inl failed)) = ap (pending sc) failed.entered ∙ none_pending sc h _ refl none
rise_quiet sc h more site none (inr (inr missed)) = ap (pending sc) missed ∙ none_pending sc h _ refl none

-- and is no line
pub rise_stays : (sc : Scenario) (h more : List Entry) (site : ℕ) → AfterRise sc h site more → StaysInStep h more
rise_stays sc h more site (inl rose) = stays_one h more (record { owner = site; act = Rise rose.kept rose.inc }) rose.entered refl
rise_stays sc h more site (inr (inl failed)) = stays_one h more (record { owner = site; act = RiseFall failed.kept failed.inc failed.why }) failed.entered refl
rise_stays sc h more site (inr (inr missed)) = stays_one h more (record { owner = site; act = Miss }) missed refl
