-- The set of sites that are up tells of each site whether it is up.
use Rattle.std.specs.Prelude.{◌≡◌, ◌++◌, ◌∷◌, [], ◌==◌, if◌then◌else◌, ℕ, Bool, true, false, List}
use Rattle.std.proofs.Common.{refl}
use Rattle.e3_types.specs.declared.entries.Entry.{Entry}
use Rattle.e3_world.specs.Progress.{up_behind}
use Rattle.e3_world.proofs.Readings.{up_same, up_other}
use Rattle.e3_report.specs.Steps.{up_after}
use Rattle.e3_report.specs.Ups.{up_with}

up_push_at : (s : ℕ) (h : List Entry) (e : Entry) (b : Bool) → (e.owner == s) ≡ b →
    up_after (h ++ e ∷ []) s ≡ (if b then up_behind (up_after h s) e.act else up_after h s)
up_push_at s h e true is = up_same h e s is
up_push_at s h e false is = up_other h e s is

-- which sites are up behind one more entry
pub up_push : (s : ℕ) (h : List Entry) (e : Entry) → up_after (h ++ e ∷ []) s ≡ up_with s e (up_after h s)
up_push s h e = up_push_at s h e (e.owner == s) refl
