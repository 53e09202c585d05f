use Rattle.e3_types.specs.declared.entries.Act.TheVariants.{Parts}
use Rattle.e3_fleet.proofs.Driven.{driven}
use Rattle.e3_fleet.proofs.driving.enter_parts.Goals as goal

pub returns : goal.returns
returns c =
    driven (Parts c.args.parted) c.args.shared.now c.parts-entered.new.self c.parts-entered.result c.told.result c.requires.standing c.told.ensures.played c.parts-entered.ensures c.told.ensures.answer
