use Rattle.e3_node.specs.Turns.{history_seen, scenario_seen}
use Rattle.e3_site.specs.StandsAlike.{now_with}
use Rattle.e3_node.proofs.turning.step_by_turns.Given as goal

abbrev pub ghost-prepare_by_turns : goal.ghost-prepare_by_turns
ghost-prepare_by_turns g a = now_with a._rose.now (scenario_seen a._pass.now) (history_seen a._pass.now) a.site.now.site
