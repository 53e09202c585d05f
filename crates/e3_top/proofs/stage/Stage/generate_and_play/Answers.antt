use Rattle.e3_top.proofs.SourceBytes.{wants_memory}
use Rattle.e3_top.proofs.stage.Stage.generate_and_play.Goals as goal

pub returns-in-Err : goal.returns-in-Err
returns-in-Err g c = wants_memory _ _ _ _ _ _ _ _ c.unprepared.ensures.due c.unprepared.ensures.nothing
