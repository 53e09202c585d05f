use Rattle.std.proofs.Common.{sym, ◌∙◌, subst, ℕ, List}
use Rattle.e3_places.specs.Keeping.{at_name, bare}
use Rattle.e3_places.proofs.Putting.{Inserts, roomier_by, names_eq}
use Rattle.e3_places.proofs.changing.ready_name.Goals as goal

pub returns-in-Ok-clause-same : goal.returns-in-Ok-clause-same
returns-in-Ok-clause-same c =
    roomier_by at_name bare c.args.names.now.entries c.insert.new.self.entries c.args.name.now c.bare.result names_eq c.bare.ensures (sym c.if-contains_key.false ∙ c.contains_key.ensures)
    (subst (λ (n : List ℕ). Inserts at_name c.args.names.now.entries c.insert.new.self.entries n c.bare.result) c.copy.ensures c.in-Ok.ensures.updates.0)
