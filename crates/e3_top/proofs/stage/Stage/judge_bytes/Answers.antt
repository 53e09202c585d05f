use Rattle.e3_top.proofs.SourceBytes.{wants_memory}
use Rattle.e3_top.proofs.Statuses.{judged_may}
use Rattle.e3_top.proofs.Verdicts.{checked_due}
use Rattle.e3_top.proofs.stage.Stage.judge_bytes.Goals as goal

pub returns-in-Ok-clause-due : goal.returns-in-Ok-clause-due
returns-in-Ok-clause-due g c = record {
  outcome =
      checked_due g.D.Disk.meaning c.args.disks.items c.args.self.now.words.now c.args.bytes.now c.args.self.now.most c.in-Ok.checked.status c.in-Ok.checked.history.entries c.in-Ok.checked.text
      c.requires c.in-Ok.ensures.verdict;
  status = judged_may c.args.self.now.words.now c.args.bytes.now c.in-Ok.checked.status c.in-Ok.checked.history.entries c.in-Ok.checked.text c.requires c.in-Ok.ensures.verdict;
  only_memory = tt;
  cut_short = λ e. absurd (let other = e in cc);
}

pub returns-in-Err-clause-due : goal.returns-in-Err-clause-due
returns-in-Err-clause-due g c = wants_memory _ _ _ _ _ _ _ _ c.unprepared.ensures.due c.unprepared.ensures.nothing
