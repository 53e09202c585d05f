-- A frame that is no list of records is one of the frames.
use Rattle.std.proofs.Common.{◌≡◌, ◌<◌, ◌∷◌, [], inl, inr, ℕ, zero, suc, List, length, get_or, subst, arith}
use Rattle.e3_log.specs.Found.{bodies_of}
use Rattle.e3_log.specs.declared.open.Frame.{Frame}
use Rattle.e3_node.specs.Rising.{NoRecords, SomeIsBad}

pub bad_among : (site : ℕ) (frames : List Frame) (k : ℕ) (f d : Frame) → k < length frames → f ≡ get_or frames k d → NoRecords site f.body →
    SomeIsBad site (bodies_of frames)
bad_among site [] k f d less is bad = absurd (omega (arith, less))
bad_among site (x ∷ xs) zero f d less is bad = inl (subst (λ (y : Frame). NoRecords site y.body) is bad)
bad_among site (x ∷ xs) (suc k) f d less is bad = inr (bad_among site xs k f d (omega (arith, less)) is bad)
