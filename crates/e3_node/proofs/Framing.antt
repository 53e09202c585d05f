-- Where a write puts a frame.
use Rattle.std.proofs.Common.{◌≡◌, ◌≢◌, ◌∷◌, [], inl, inr, ℕ, List, Option, refl, sym, subst, ◌∙◌}
use Rattle.std.specs.Prelude.{None, Some}
use Rattle.e3_disk.specs.Meters.{Meters}
use Rattle.e3_log.specs.Regions.{other}
use Rattle.e3_log.specs.Stands.{LogState}
use Rattle.e3_log.specs.declared.region.Region.{Region}
use Rattle.e3_log.specs.declared.region.Region.TheVariants.{First, Second}
use Rattle.e3_node.specs.Ends.{IsOneFrame}
use Rattle.e3_node.specs.site_log.Ends.{HasRoom, IsBehind, IsPut, IsShortIf, IsTurned, size_of}
use Rattle.e3_node.specs.declared.site_log.writing.Short.{Short}
use Rattle.e3_types.specs.declared.records.Record.{Record}

-- the other region is another one
other_differs : (r : Region) → other r ≡ r → ⊥
other_differs First same = cc
other_differs Second same = cc

-- one frame, or nothing where there are no records
pub one_frame : {D : Type 0} (meters : D → Meters) (site : ℕ) (old new : LogState D) (log records : List Record) (short : Option Short) → IsShortIf site log short →
    (records ≡ [] → new ≡ old) → (records ≢ [] → IsPut meters old short records new) → (HasRoom meters old (size_of records) → records ≢ [] → IsBehind old records new) →
    IsOneFrame meters log records old new
one_frame meters site old new log [] short is same put room = same refl
one_frame meters site old new log (r ∷ rs) None is same put room = inl (put (λ none. cc))
one_frame meters site old new log (r ∷ rs) (Some s) is same put room = by (put (λ none. cc))
  where
    by : IsPut meters old (Some s) (r ∷ rs) new → IsOneFrame meters log (r ∷ rs) old new
    by (inl behind) = inl behind
    by (inr turned) = inr (
      (λ fits. other_differs old.region (sym turned.region ∙ (room fits (λ none. cc)).region)),
      subst (λ (body : List ℕ). IsTurned meters old body (r ∷ rs) new) is.body_is turned,
    )
