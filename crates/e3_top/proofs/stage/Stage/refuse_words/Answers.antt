use Rattle.std.proofs.Common.{inl}
use Rattle.e3_top.proofs.Runs.{refused_due}
use Rattle.e3_top.proofs.Statuses.{refused_may}
use Rattle.e3_top.proofs.stage.Stage.refuse_words.Goals as goal

pub returns-clause-due : goal.returns-clause-due
returns-clause-due g c = record {
  outcome =
      refused_due g.D.Disk.meaning c.args.disks.items c.unplayed.result.disks.items c.args.self.now.words.now c.args.self.now.most c.unplayed.result.history.entries
      c.unplayed.result.due c.refused_words.result c.requires c.unplayed.ensures.nothing c.refused_words.ensures c.unplayed.ensures.due;
  status = refused_may c.args.self.now.words.now c.unplayed.result.due c.refused_words.result c.requires c.unplayed.ensures.due;
  only_memory = c.unplayed.ensures.only_memory;
  cut_short = λ e. inl c.unplayed.ensures.nothing;
}
