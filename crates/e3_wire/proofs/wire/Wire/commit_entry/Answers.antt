use Rattle.std.proofs.Common.{◌<◌, List, ℕ, subst, sym}
use Rattle.e3_turn.specs.Chronicles.{count_of}
use Rattle.e3_wire.proofs.Puts.{grew_entry}
use Rattle.e3_wire.proofs.Staying.{may_enter}
use Rattle.e3_wire.proofs.wire.Wire.commit_entry.Goals as goal

pub enter-requires : goal.enter-requires
enter-requires g c = may_enter _ _ _ _ c.args.entry c.take-shared.ensures.grew c.take-shared.ensures.played c.requires.owns c.requires.alone c.requires.may

pub put-requires-clause-grew : goal.put-requires-clause-grew
put-requires-clause-grew g c =
    grew_entry _ _ _ _ _ c.args.entry c.requires.may.site (subst (λ (l : List ℕ). 0 < count_of c.args.entry.owner l) (sym c.take-shared.ensures.same.owners) c.requires.owns)
    c.take-shared.ensures.seen c.enter.ensures
