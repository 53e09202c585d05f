-- the batch is made behind what was taken
use Rattle.std.proofs.Common.{[]}
use Rattle.e3_wire.specs.Marks.{entries_of, scenario_of}
use Rattle.e3_node.proofs.batching.plan_all.Given as goal

abbrev pub ghost-add_all : goal.ghost-add_all
ghost-add_all g a = record { scenario = scenario_of a.shared.now; history = entries_of a.shared.now; site = a.number; rose = a._rose.now; marks = a.shared.now; first = a.site.now.inputs; done = [] }
