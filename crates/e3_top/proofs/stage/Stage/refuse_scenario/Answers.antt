use Rattle.std.proofs.Common.{inl}
use Rattle.e3_top.proofs.Runs.{fault_due}
use Rattle.e3_top.proofs.Statuses.{fault_may}
use Rattle.e3_top.proofs.stage.Stage.refuse_scenario.Goals as goal

pub returns : goal.returns
returns g c = record {
  outcome =
      fault_due g.D.Disk.meaning c.args.disks.items c.unplayed.result.disks.items c.args.self.now.words.now c.args.trace c.args.bytes.now c.args.fault.now c.args.self.now.most
      c.unplayed.result.history.entries c.unplayed.result.due c.line_of.result c.requires.run c.requires.refused c.unplayed.ensures.nothing c.line_of.ensures c.unplayed.ensures.due;
  status = fault_may c.args.self.now.words.now c.args.trace c.unplayed.result.due c.line_of.result c.requires.run c.unplayed.ensures.due;
  only_memory = c.unplayed.ensures.only_memory;
  cut_short = λ e. inl c.unplayed.ensures.nothing;
}
