use Rattle.std.proofs.Common.{[], subst, sym}
use Rattle.e3_gate_runs.specs.Marks.{IsNext}
use Rattle.e3_gate_runs.proofs.Local.{legal-push}
use Rattle.e3_gate_runs.proofs.turns.journal.Journal.push.Goals as goal

pub invariant_of-self-2 : goal.invariant_of-self-2
invariant_of-self-2 c = rw c.in_ok-push.ensures.items (legal-push [] _ c.args.mark c.self.invariant (subst (λ l. IsNext l c.args.mark) (sym c.self.view_is) c.requires))
