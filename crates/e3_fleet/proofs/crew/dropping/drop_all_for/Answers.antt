use Rattle.std.proofs.Common.{rules, ◌≡◌, Err, true, false, sym, subst, ◌∙◌}
use Rattle.e3_fleet.specs.crew.Drops.{DropHadNoRoom}
use Rattle.e3_fleet.proofs.crew.Drops.{dropped_for, dropped_on, dropped_restless, dropped_up, no_drop_room}
use Rattle.e3_wire.specs.declared.fault.WireFault.TheVariants.{HistoryFull}
use Rattle.e3_wire.specs.Marks.{entries_of, scenario_of}
use Rattle.e3_world.specs.Packets.{is_calm, present_items}
use Rattle.e3_fleet.proofs.crew.dropping.drop_all_for.Goals as goal

pub drop_for-requires-clause-down : goal.drop_for-requires-clause-down
drop_for-requires-clause-down g c = dropped_up c.args.shared.now c.loop.shared c.args.site false c.loop.invariant.dropped c.requires.down

pub drop_for-requires-clause-order : goal.drop_for-requires-clause-order
drop_for-requires-clause-order g c = λ calm p first. absurd
    (let still : is_calm (present_items (scenario_of c.loop.shared) (entries_of c.loop.shared)) ≡ false =
    dropped_restless c.args.shared.now c.loop.shared c.requires.played c.loop.invariant.dropped c.requires.restless in
    let both : true ≡ false = sym calm ∙ still in cc)

pub loop-preserved : goal.loop-preserved
loop-preserved g c = record {
  dropped = dropped_on c.args.shared.now c.loop.shared c.drop_for.new.self c.loop.invariant.dropped
      (dropped_for c.args.site c.in-Ok-Some.field-0 c.loop.shared c.drop_for.new.self c.in-Ok-Some.ensures.dropped);
}

pub returns-in-Err-clause-full : goal.returns-in-Err-clause-full
returns-in-Err-clause-full g c = λ is.
    let full : c.drop_for.result ≡ Err HistoryFull = search rules in
    subst DropHadNoRoom (sym c.in-Err.ensures.kept) (no_drop_room c.loop.shared c.args.site (c.drop_for.ensures.full.0 full))
