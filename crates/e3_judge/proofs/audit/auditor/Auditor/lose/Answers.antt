use Rattle.std.proofs.Common.{refl}
use Rattle.e3_judge.proofs.audit.FallsAndRises.{dropped}
use Rattle.e3_judge.proofs.audit.auditor.Auditor.lose.Goals as goal

pub returns-in-Some : goal.returns-in-Some
returns-in-Some c = λ yes.
    dropped c.args.prefix.now.scenario.now c.args.prefix.now.entries.now c.args.number c.in-Some.site c.args.self.now _ c.requires c.in-Some.ensures refl c.take-taken.ensures.traffic refl
