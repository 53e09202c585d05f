use Rattle.std.proofs.Common.{rules, ◌≡◌, ℕ, Err, Some, sym, subst, ap, ◌∙◌, add-one}
use Rattle.std.specs.Prelude.{slice_get}
use Rattle.e3_fleet.specs.crew.Workers.{ItemHadNoRoom}
use Rattle.e3_fleet.proofs.crew.Places.{none_back_none, none_back_on}
use Rattle.e3_node.specs.Places.{HasGivenNoneBack}
use Rattle.e3_fleet.proofs.crew.Taking.{at_index, item_may, item_refused, next_given, item_is_no_packet}
use Rattle.e3_fleet.proofs.crew.Turning.{worked_none, worked_on}
use Rattle.e3_node.specs.Turns.{history_seen, scenario_seen}
use Rattle.e3_play.specs.declared.sites.RunFault.TheVariants.{HistoryFull}
use Rattle.e3_turn.specs.Passes.{seen_by}
use Rattle.e3_fleet.proofs.crew.working.give_items.Goals as goal

pub loop-item-init : goal.loop-item-init
loop-item-init g c = record {
  pass = c.requires.pass;
  worked = worked_none g.D.Disk.meaning (seen_by c.args.pass.now) c.args.node.now c.requires.knows;
  none_back = none_back_none c.args.node.now.site (seen_by c.args.pass.now);
  done = c.requires.begun;
}

pub give-requires-clause-due : goal.give-requires-clause-due
give-requires-clause-due g c = λ up.
    let at = c.loop-item.item-index in
    let got : slice_get c.args.items.now at ≡ Some c.copy.result = at_index c.args.items.now at c.item-item.result c.loop-item-test.true c.item-item.is ∙ ap Some (sym c.copy.ensures) in
    item_may (scenario_seen c.loop-item.pass) c.loop-item.node.site c.args.items.now at c.copy.result (history_seen c.loop-item.pass) got
    (item_is_no_packet c.args.items.now at c.copy.result c.requires.no_packets got) c.loop-item.invariant.done up

pub loop-item-preserved : goal.loop-item-preserved
loop-item-preserved g c =
    let was = c.loop-item.invariant in
    let now = c.in_ok-give.ensures in
    let at = c.loop-item.item-index in
    let got : slice_get c.args.items.now at ≡ Some c.copy.result = at_index c.args.items.now at c.item-item.result c.loop-item-test.true c.item-item.is ∙ ap Some (sym c.copy.ensures) in
    rw add-one (record {
      pass = now.pass;
      worked = worked_on g.D.Disk.meaning (seen_by c.args.pass.now) (seen_by c.loop-item.pass) (seen_by c.give.new.pass)
          c.args.node.now c.loop-item.node c.give.new.node was.worked now.given.worked;
      none_back = (let P : ℕ → Type 0 = λ site. HasGivenNoneBack site (seen_by c.loop-item.pass) (seen_by c.give.new.pass) in
          none_back_on c.args.node.now.site (seen_by c.args.pass.now) (seen_by c.loop-item.pass) (seen_by c.give.new.pass) was.none_back
          (subst P was.worked.site now.given.none_back));
      done = next_given g.D.Disk.meaning (seen_by c.loop-item.pass) (seen_by c.give.new.pass) c.loop-item.node c.give.new.node c.copy.result
          c.args.items.now at got (item_is_no_packet c.args.items.now at c.copy.result c.requires.no_packets got) was.worked.knows was.done now.given.worked now.given.taken;
    })

pub returns-in_err-give-clause-worked : goal.returns-in_err-give-clause-worked
returns-in_err-give-clause-worked g c =
    worked_on g.D.Disk.meaning (seen_by c.args.pass.now) (seen_by c.loop-item.pass) (seen_by c.give.new.pass)
    c.args.node.now c.loop-item.node c.give.new.node c.loop-item.invariant.worked c.give.ensures.given.worked

pub returns-in_err-give-clause-none_back : goal.returns-in_err-give-clause-none_back
returns-in_err-give-clause-none_back g c =
    let was = c.loop-item.invariant in
    let P : ℕ → Type 0 = λ site. HasGivenNoneBack site (seen_by c.loop-item.pass) (seen_by c.give.new.pass) in
    none_back_on c.args.node.now.site (seen_by c.args.pass.now) (seen_by c.loop-item.pass) (seen_by c.give.new.pass) was.none_back
    (subst P was.worked.site c.give.ensures.given.none_back)

pub returns-in_err-give-clause-full : goal.returns-in_err-give-clause-full
returns-in_err-give-clause-full g c = λ is.
    let was = c.loop-item.invariant in
    let at = c.loop-item.item-index in
    let got : slice_get c.args.items.now at ≡ Some c.copy.result = at_index c.args.items.now at c.item-item.result c.loop-item-test.true c.item-item.is ∙ ap Some (sym c.copy.ensures) in
    let full : c.give.result ≡ Err HistoryFull = search rules in
    let P : ℕ → Type 0 = λ site. ItemHadNoRoom (seen_by c.give.new.pass) site in
    subst P was.worked.site (item_refused g.D.Disk.meaning (seen_by c.loop-item.pass) (seen_by c.give.new.pass) c.loop-item.node c.give.new.node
    c.copy.result c.args.items.now at c.give.result got was.worked.knows was.done c.give.ensures.given full)
