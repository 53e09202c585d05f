use Rattle.e3_wire.specs.Marks.{entries_of, scenario_of}
use Rattle.e3_site.specs.StandsAlike.{now_with}
use Rattle.e3_node.proofs.stepping.step.Given as goal

abbrev pub ghost-prepare : goal.ghost-prepare
ghost-prepare g a = now_with a._rose.now (scenario_of a.shared.now) (entries_of a.shared.now) a.site.now.site
