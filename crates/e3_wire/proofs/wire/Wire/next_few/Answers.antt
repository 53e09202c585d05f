use Rattle.std.proofs.Common.{◌<◌, List, ℕ, subst, sym}
use Rattle.e3_turn.specs.Chronicles.{count_of}
use Rattle.e3_wire.proofs.Claiming.{owner_on}
use Rattle.e3_wire.proofs.Puts.{grew_places}
use Rattle.e3_wire.proofs.wire.Wire.next_few.Goals as goal

pub next_few-found-requires : goal.next_few-found-requires
next_few-found-requires g c = owner_on _ _ _ _ c.args.site c.take-shared.ensures.grew c.requires.exists

pub put-requires-clause-grew : goal.put-requires-clause-grew
put-requires-clause-grew g c =
    grew_places _ _ _ _ _ c.args.site _ _ (subst (λ (l : List ℕ). 0 < count_of c.args.site l) (sym c.take-shared.ensures.same.owners) c.requires.owns)
    c.take-shared.ensures.seen c.next_few-found.ensures.ok c.next_few-found.ensures.kept
