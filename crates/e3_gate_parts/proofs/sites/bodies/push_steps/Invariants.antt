use Rattle.e3_site.specs.SiteView.{Stands}
use Rattle.e3_gate_parts.proofs.sites.bodies.push_steps.Given as goal

abbrev pub invariant-loop-entry : goal.invariant-loop-entry
invariant-loop-entry l = Stands (record { rose = l.rose; since = l.since }) l.site
