use Rattle.std.proofs.Common.{inr, sym, subst, List, ℕ}
use Rattle.e3_top.specs.Ends.{IsRead}
use Rattle.e3_top.proofs.SourceBytes.{cut_before, fails_reading, lost_ready, read_for, ready_of, wanting_ready}
use Rattle.e3_top.proofs.stage.Stage.read_and_judge.Goals as goal
use Rattle.e3_top.specs.declared.commands.Command.TheVariants.{Check}

pub returns-in-Ok-clause-ready : goal.returns-in-Ok-clause-ready
returns-in-Ok-clause-ready g c =
    ready_of _ g.S.Source.left g.S.Source.faults _ _ _ c.args.source.now c.read_up_to.new.source c.as_slice.result.now _ _ _
    (subst (λ (b : List ℕ). IsRead c.args.self.now.words.now (g.S.Source.left c.args.source.now) (g.S.Source.left c.read_up_to.new.source) b) (sym c.as_slice.ensures) (read_for c.args.self.now.words.now (g.S.Source.left c.args.source.now) (g.S.Source.left c.read_up_to.new.source) c.in-Ok.bytes Check c.requires c.in-Ok.ensures.bytes c.in-Ok.ensures.bound c.in-Ok.ensures.end))
    c.judge_bytes.ensures.due c.read_up_to.ensures.never_falls

pub returns-in-Err-NoMemory-clause-ready : goal.returns-in-Err-NoMemory-clause-ready
returns-in-Err-NoMemory-clause-ready g c =
    wanting_ready _ g.S.Source.left g.S.Source.faults _ _ _ c.args.source.now c.read_up_to.new.source _ _ _ c.unprepared-in-Err-NoMemory.ensures.due
    (cut_before g.D.Disk.meaning c.args.disks.items c.unprepared-in-Err-NoMemory.result.disks.items c.args.self.now.words.now (g.S.Source.left c.args.source.now) (g.S.Source.left c.read_up_to.new.source)
    c.args.self.now.most c.unprepared-in-Err-NoMemory.result.history.entries Check c.requires (c.read_up_to.ensures.no_memory (rw c.in-Err-NoMemory.field-0-is at c.in-Err-NoMemory.is)) c.unprepared-in-Err-NoMemory.ensures.nothing)
    c.read_up_to.ensures.never_falls

pub returns-in-Err-Failed-clause-ready : goal.returns-in-Err-Failed-clause-ready
returns-in-Err-Failed-clause-ready g c =
    lost_ready _ g.S.Source.left g.S.Source.faults _ _ _ c.args.source.now c.read_up_to.new.source _ _ _ c.unprepared.ensures.due
    (fails_reading c.args.disks.items c.unprepared.result.disks.items c.args.self.now.words.now (g.S.Source.left c.args.source.now) (g.S.Source.left c.read_up_to.new.source)
    (g.S.Source.faults c.args.source.now) (g.S.Source.faults c.read_up_to.new.source) c.unprepared.result.history.entries Check c.requires (inr (record { spelled = c.requires }))
    (c.read_up_to.ensures.failed (rw c.in-Err-Failed.field-0-is at c.in-Err-Failed.is)) (c.read_up_to.ensures.counted (rw c.in-Err-Failed.field-0-is at c.in-Err-Failed.is)) c.unprepared.ensures.nothing)
    c.read_up_to.ensures.never_falls
