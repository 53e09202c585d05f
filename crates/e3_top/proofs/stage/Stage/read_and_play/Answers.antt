use Rattle.std.proofs.Common.{inl, sym, subst, List, ℕ}
use Rattle.e3_top.specs.Ends.{IsRead}
use Rattle.e3_top.proofs.SourceBytes.{cut_before, fails_reading, lost_ready, read_for, ready_of, wanting_ready}
use Rattle.e3_top.proofs.stage.Stage.read_and_play.Goals as goal
use Rattle.e3_top.specs.declared.commands.Command.TheVariants.{Run}

pub returns-in-Ok : goal.returns-in-Ok
returns-in-Ok g c =
    let words = c.args.self.now.words.now in record {
      ready =
          ready_of _ g.S.Source.left g.S.Source.faults _ _ _ c.args.source.now c.read_up_to.new.source c.as_slice.result.now _ _ _
          (subst (λ (b : List ℕ). IsRead words (g.S.Source.left c.args.source.now) (g.S.Source.left c.read_up_to.new.source) b) (sym c.as_slice.ensures) (read_for words (g.S.Source.left c.args.source.now) (g.S.Source.left c.read_up_to.new.source) c.in-Ok.bytes (Run c.args.trace) c.requires.run c.in-Ok.ensures.bytes c.in-Ok.ensures.bound c.in-Ok.ensures.end))
          c.prepare_bytes.ensures c.read_up_to.ensures.never_falls;
    }

pub returns-in-Err-NoMemory : goal.returns-in-Err-NoMemory
returns-in-Err-NoMemory g c = record {
  ready =
      wanting_ready _ g.S.Source.left g.S.Source.faults _ _ _ c.args.source.now c.read_up_to.new.source _ _ _ c.unprepared-in-Err-NoMemory.ensures.due
      (cut_before g.D.Disk.meaning c.args.disks.items c.unprepared-in-Err-NoMemory.result.disks.items c.args.self.now.words.now (g.S.Source.left c.args.source.now) (g.S.Source.left c.read_up_to.new.source)
      c.args.self.now.most c.unprepared-in-Err-NoMemory.result.history.entries (Run c.args.trace) c.requires.run (c.read_up_to.ensures.no_memory (rw c.in-Err-NoMemory.field-0-is at c.in-Err-NoMemory.is)) c.unprepared-in-Err-NoMemory.ensures.nothing)
      c.read_up_to.ensures.never_falls;
}

pub returns-in-Err-Failed : goal.returns-in-Err-Failed
returns-in-Err-Failed g c = record {
  ready =
      lost_ready _ g.S.Source.left g.S.Source.faults _ _ _ c.args.source.now c.read_up_to.new.source _ _ _ c.unprepared.ensures.due
      (fails_reading c.args.disks.items c.unprepared.result.disks.items c.args.self.now.words.now (g.S.Source.left c.args.source.now) (g.S.Source.left c.read_up_to.new.source)
      (g.S.Source.faults c.args.source.now) (g.S.Source.faults c.read_up_to.new.source) c.unprepared.result.history.entries (Run c.args.trace) c.requires.run (inl (record { trace = c.args.trace; spelled = c.requires.run }))
      (c.read_up_to.ensures.failed (rw c.in-Err-Failed.field-0-is at c.in-Err-Failed.is)) (c.read_up_to.ensures.counted (rw c.in-Err-Failed.field-0-is at c.in-Err-Failed.is)) c.unprepared.ensures.nothing)
      c.read_up_to.ensures.never_falls;
}
