-- what the step refuses, by what the client refuses
use Rattle.std.specs.Prelude.{Option}
use Rattle.std.proofs.Common.{subst, ◌∙◌}
use Rattle.e3_types.specs.declared.entries.Refusal.{Refusal}
use Rattle.e3_client.specs.Clients.{GoesUnless}
use Rattle.e3_client.proofs.Refusing.{refuse_same}
use Rattle.e3_client.proofs.client.Client.ready.Goals as goal

pub returns-clause-refused : goal.returns-clause-refused
returns-clause-refused c = subst (λ (o : Option Refusal). GoesUnless o c.unless_refused.result) c.refuse.ensures c.unless_refused.ensures

pub returns-clause-rule : goal.returns-clause-rule
returns-clause-rule c = λ a made at.
    let same = c.refuse.ensures ∙ refuse_same a made c.args.self.now c.args.state c.args.attempt at in
    subst (λ (o : Option Refusal). GoesUnless o c.unless_refused.result) same c.unless_refused.ensures
