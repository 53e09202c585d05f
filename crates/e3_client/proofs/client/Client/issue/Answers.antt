-- the operation that the step issues
use Rattle.std.proofs.Common.{◌++◌, ◌∷◌, [], sym, subst}
use Rattle.e3_client.specs.Clients.{Kept}
use Rattle.e3_client.specs.Rule.{IsKept}
use Rattle.e3_client.proofs.Beside.{issues}
use Rattle.e3_client.proofs.client.Client.issue.Goals as goal

pub returns-clause-rule : goal.returns-clause-rule
returns-clause-rule c = λ coordinator steps m op kept silent made at.
    subst (λ (k : Kept). IsKept coordinator (steps ++ m ∷ []) k) (sym c.push.ensures)
    (issues coordinator c.args.site steps c.args.self.now m op kept c.requires.free silent made at)
