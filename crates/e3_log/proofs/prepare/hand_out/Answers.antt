use Rattle.std.proofs.Common.{◌≡◌, true, rules}
use Rattle.e3_log.specs.Fronts.{is_told}
use Rattle.e3_log.proofs.HandedOut.{handed_out}
use Rattle.e3_log.proofs.prepare.hand_out.Goals as goal

pub returns-then-is_told : goal.returns-then-is_told
returns-then-is_told c =
    let told : is_told c.args.region_front ≡ true = search rules in
    handed_out c.args.from c.args.region_front c.args.frames c.requires.raw told _ c.without_head.ensures
