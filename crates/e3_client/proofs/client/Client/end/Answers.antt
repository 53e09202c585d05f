-- the reason that the step tells
use Rattle.std.proofs.Common.{◌++◌, ◌∷◌, [], sym, subst}
use Rattle.e3_client.specs.Clients.{Kept}
use Rattle.e3_client.specs.Rule.{IsKept, and_told}
use Rattle.e3_client.proofs.Beside.{ends}
use Rattle.e3_client.proofs.client.Client.end.Goals as goal

pub returns-clause-rule : goal.returns-clause-rule
returns-clause-rule c = λ coordinator steps m e kept is.
    subst (λ (k : Kept). IsKept coordinator (steps ++ and_told m e ∷ []) k) (sym c.keep.ensures) (ends coordinator steps c.args.self.now m e c.args.why kept is)
