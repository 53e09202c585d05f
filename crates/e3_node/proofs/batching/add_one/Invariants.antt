-- the site is in the incarnation that the steps so far make
use Rattle.e3_node.specs.Batches.{stepped}
use Rattle.e3_site.specs.StandsAlike.{now_with}
use Rattle.e3_node.proofs.batching.add_one.Given as goal

abbrev pub ghost-planned : goal.ghost-planned
ghost-planned g a = now_with g.at.rose g.at.scenario (stepped g.at.scenario g.at.history g.at.site g.at.done) a.site.now.site
