use Rattle.std.proofs.Common.{ap, ◌∙◌}
use Rattle.e3_judge.specs.declared.sites.Standing.{Standing}
use Rattle.e3_judge.proofs.Standings.{incarnation_stands}
use Rattle.e3_judge.proofs.prefix.Prefix.incarnation_at.Goals as goal

pub returns : goal.returns
returns c = ap (λ (s : Standing). s.incarnation) c.in_ok-standing.ensures ∙ incarnation_stands c.args.self.now.scenario.now c.args.self.now.entries.now c.args.site
