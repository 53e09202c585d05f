use Rattle.e3_types.specs.declared.entries.Act.TheVariants.{Line}
use Rattle.e3_fleet.proofs.Driven.{driven}
use Rattle.e3_fleet.proofs.driving.enter_line.Goals as goal

pub returns : goal.returns
returns c =
    driven (Line c.args.number) c.args.shared.now c.line-entered.new.self c.line-entered.result c.told.result c.requires.standing c.told.ensures.played c.line-entered.ensures c.told.ensures.answer
