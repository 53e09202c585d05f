use Rattle.std.proofs.Common.{subst, ℕ, List}
use Rattle.e3_types.specs.Same.{same_numbers}
use Rattle.e3_places.specs.Keeping.{at_name, bare}
use Rattle.e3_places.proofs.Turning.{put_at}
use Rattle.e3_places.proofs.Putting.{Inserts, names_turned}
use Rattle.e3_places.proofs.taking.put_place.Goals as goal

pub returns-in-Ok : goal.returns-in-Ok
returns-in-Ok c =
    put_at at_name same_numbers bare c.args.names.now.entries c.insert.new.self.entries c.args.name.now c.args.place (names_turned c.args.name.now)
    (subst (λ (n : List ℕ). Inserts at_name c.args.names.now.entries c.insert.new.self.entries n c.args.place) c.copy.ensures c.in-Ok.ensures.updates.0)
