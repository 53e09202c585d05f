use Rattle.std.specs.Prelude.{Option}
use Rattle.std.specs.Option.{IsSome}
use Rattle.std.proofs.Common.{subst}
use Rattle.std.proofs.lemmas.Bool.{false≢true}
use Rattle.e3_places.specs.declared.places.Places.{Places}
use Rattle.e3_site.proofs.before.TabledBefore.is_free.Goals as goal

-- records in order have tables of their names
pub unreachable-requires : goal.unreachable-requires
unreachable-requires c = false≢true (subst (λ (p : Option Places). IsSome p) c.in-None.is (c.self.invariant.stand.places_known c.self.invariant.in_turn))
