use Rattle.std.proofs.Common.{inl}
use Rattle.e3_top.proofs.Runs.{told_due}
use Rattle.e3_top.proofs.Statuses.{told_may}
use Rattle.e3_top.proofs.stage.Stage.tell_generated.Goals as goal

pub returns-clause-due : goal.returns-clause-due
returns-clause-due g c = record {
  outcome =
      told_due g.D.Disk.meaning c.args.disks.items c.unplayed.result.disks.items c.args.self.now.words.now c.args.n c.args.self.now.most c.unplayed.result.history.entries
      c.unplayed.result.due c.generated.result c.requires.spelled c.unplayed.ensures.nothing c.generated.ensures c.unplayed.ensures.due;
  status = told_may c.args.self.now.words.now c.args.n c.unplayed.result.due c.generated.result c.requires.spelled c.unplayed.ensures.due;
  only_memory = c.unplayed.ensures.only_memory;
  cut_short = λ e. inl c.unplayed.ensures.nothing;
}
