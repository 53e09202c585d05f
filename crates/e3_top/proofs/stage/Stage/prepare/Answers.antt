use Rattle.std.proofs.Common.{[], arith, refl}
use Rattle.e3_top.proofs.SourceBytes.{idle_read, other_read, ready_of}
use Rattle.e3_top.proofs.stage.Stage.prepare.Goals as goal
use Rattle.e3_top.specs.declared.commands.Command.TheVariants.{Gen, Drill}

pub returns-in-Some-Drill-clause-ready : goal.returns-in-Some-Drill-clause-ready
returns-in-Some-Drill-clause-ready g c =
    ready_of _ g.S.Source.left g.S.Source.faults _ _ _ c.args.source.now c.args.source.now [] _ _ _
    (idle_read c.args.self.now.words.now (g.S.Source.left c.args.source.now) (Drill c.in-Some-Drill.n) (rw c.in-Some-Drill.field-0-is at c.in-Some-Drill.ensures.command) refl)
    c.generate_and_play.ensures (omega arith)

pub returns-in-None-clause-ready : goal.returns-in-None-clause-ready
returns-in-None-clause-ready g c =
    ready_of _ g.S.Source.left g.S.Source.faults _ _ _ c.args.source.now c.args.source.now [] _ _ _
    (other_read c.args.self.now.words.now (g.S.Source.left c.args.source.now) (c.in-None.ensures.none refl)) c.refuse_words.ensures.due (omega arith)

pub returns-in-Some-Gen-clause-ready : goal.returns-in-Some-Gen-clause-ready
returns-in-Some-Gen-clause-ready g c =
    ready_of _ g.S.Source.left g.S.Source.faults _ _ _ c.args.source.now c.args.source.now [] _ _ _
    (idle_read c.args.self.now.words.now (g.S.Source.left c.args.source.now) (Gen c.in-Some-Gen.n) (rw c.in-Some-Gen.field-0-is at c.in-Some-Gen.ensures.command) refl)
    c.tell_generated.ensures.due (omega arith)
