use Rattle.std.proofs.Common.{rules, ◌≡◌, false, sym, ap, ◌∙◌}
use Rattle.e3_wire.specs.Marks.{entries_of, scenario_of}
use Rattle.e3_world.specs.Items.{is_up_at}
use Rattle.e3_fleet.proofs.crew.Drops.{dropped_none}
use Rattle.e3_fleet.proofs.crew.dropping.drop_to.Goals as goal

pub returns-then-is_up-clause-dropped : goal.returns-then-is_up-clause-dropped
returns-then-is_up-clause-dropped g c = dropped_none c.args.shared.now

pub drop_all_for-requires-clause-down : goal.drop_all_for-requires-clause-down
drop_all_for-requires-clause-down g c =
    let down : c.is_up.result ≡ false = search rules in
    ap (is_up_at (entries_of c.args.shared.now)) c.site.ensures ∙ sym (c.is_up.ensures.stands (scenario_of c.args.shared.now) (entries_of c.args.shared.now) c.requires.standing) ∙ down
