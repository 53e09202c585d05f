use Rattle.std.proofs.Common.{◌<◌, List, ℕ, subst, sym}
use Rattle.e3_turn.specs.Chronicles.{count_of}
use Rattle.e3_wire.proofs.Claiming.{owner_on}
use Rattle.e3_wire.proofs.Puts.{grew_place}
use Rattle.e3_wire.proofs.wire.Wire.claim.Goals as goal

pub claim-claimed-requires : goal.claim-claimed-requires
claim-claimed-requires g c = owner_on _ _ _ _ c.args.owner c.take-shared.ensures.grew c.requires.exists

pub put-requires-clause-grew : goal.put-requires-clause-grew
put-requires-clause-grew g c =
    grew_place _ _ _ _ _ c.args.owner c.args.outs _ (subst (λ (l : List ℕ). 0 < count_of c.args.owner l) (sym c.take-shared.ensures.same.owners) c.requires.owns)
    c.take-shared.ensures.seen c.claim-claimed.ensures.ok c.claim-claimed.ensures.kept
