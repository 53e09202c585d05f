-- what the step refuses, by what the client refuses
use Rattle.std.proofs.Common.{arith}
use Rattle.e3_client.proofs.Refusing.{count, refuse_same}
use Rattle.e3_client.proofs.client.Client.next_op.Goals as goal

pub returns-in-Some-clause-rule : goal.returns-in-Some-clause-rule
returns-in-Some-clause-rule c = λ a made at.
    let same = refuse_same a made c.args.self.now c.args.state c.args.attempt at in
    let told = c.refuse.ensures in
    let is = c.in-Some.is in
    cc

pub returns-in-None-clause-rule : goal.returns-in-None-clause-rule
returns-in-None-clause-rule c = λ a made at.
    let same = refuse_same a made c.args.self.now c.args.state c.args.attempt at in
    let told = c.refuse.ensures in
    let is = c.in-None.is in
    let number = c.issued.ensures in
    let issued = count a.site a.life.steps c.args.self.now at.kept in
    (cc, omega (arith, number, issued))
