use Rattle.std.proofs.Common.{◌≡◌, ◌∙◌, ◌+◌, ◌++◌, length, length-append, ap, arith, List}
use Rattle.e3_types.specs.declared.entries.Entry.{Entry}
use Rattle.e3_play.proofs.Falling.{turn_enters}
use Rattle.e3_play.proofs.recovering.take_turn.Goals as goal

pub behind-requires : goal.behind-requires
behind-requires g c =
    let S = g.S.Sites in
    let h = S.entries c.args.sites.now in
    let more = S.entries c.make_round.new.sites in
    let enters : (entered : List Entry) × (more ≡ h ++ entered) = turn_enters (S.scenario c.args.sites.now) h more c.args.round.now c.in_ok-make_round.ensures.made in
    let long : length more ≡ length h + length enters.0 = ap length enters.1 ∙ length-append h enters.0 in
    let before : length c.history-from.result.now ≡ length h = ap length c.history-from.ensures in
    let now : length c.history.result.now ≡ length more = ap length c.history.ensures in
    omega (arith, long, before, now)
