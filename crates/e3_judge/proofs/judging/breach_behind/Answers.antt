use Rattle.std.proofs.Common.{subst}
use Rattle.std.specs.Prelude.{◌≡◌, IfOk, Option}
use Rattle.e3_judge.specs.declared.breach.Breach.{Breach}
use Rattle.e3_judge.proofs.Breaches.{breach_behind}
use Rattle.e3_judge.proofs.judging.breach_behind.Goals as goal

pub returns : goal.returns
returns c =
    subst (λ (x : Option Breach). IfOk c.breach_of.result (λ b. b ≡ x))
    (breach_behind c.args.scenario.now c.args.history.now c.args.from c.requires.legal) c.breach_of.ensures
