use Rattle.e3_types.specs.declared.transactions.Answer.TheVariants.{Value}
use Rattle.e3_places.proofs.Entering.{row_put}
use Rattle.e3_places.proofs.rising.add_row.Goals as goal

pub returns-in-Ok : goal.returns-in-Ok
returns-in-Ok c =
    row_put c.args.names.now.entries c.insert.new.self.entries c.copy-2.result c.args.row.now (record { claims = c.no_claims.result; row = Value c.copy.result }) c.copy-2.ensures
    (λ i. record { claims = c.no_claims.ensures i; row = Value (c.copy.ensures i) }) c.in-Ok.ensures.updates.0
