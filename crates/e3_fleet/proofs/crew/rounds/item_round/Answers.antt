use Rattle.std.proofs.Common.{◌<◌, ◌∙◌, List, sym, ap, subst, arith, length}
use Rattle.std.specs.Prelude.{slice_index_or}
use Rattle.e3_fleet.specs.crew.Workers.{AddedByOthers}
use Rattle.e3_node.specs.NodeView.{NodeView}
use Rattle.e3_play.specs.declared.sites.RunFault.TheVariants.{HistoryFull}
use Rattle.e3_turn.specs.Passes.{seen_by}
use Rattle.e3_wire.specs.declared.marks.Mark.{Mark}
use Rattle.e3_wire.specs.Wires.{IsPlayed}
use Rattle.e3_fleet.proofs.crew.Items.{can_take, items_done, items_full}
use Rattle.e3_fleet.proofs.crew.Rounding.{crew_again, gone_on}
use Rattle.e3_fleet.proofs.crew.rounds.item_round.Goals as goal

pub deal-requires-clause-idle : goal.deal-requires-clause-idle
deal-requires-clause-idle g c = c.requires.crew.idle

pub deal-requires-clause-all : goal.deal-requires-clause-all
deal-requires-clause-all g c = c.requires.crew.all

pub deal-requires-clause-last : goal.deal-requires-clause-last
deal-requires-clause-last g c = c.requires.crew.last

pub gather-requires-clause-idle : goal.gather-requires-clause-idle
gather-requires-clause-idle g c = c.deal.ensures.idle

pub gather-requires-clause-driver : goal.gather-requires-clause-driver
gather-requires-clause-driver g c = c.deal.ensures.driver

pub deal-requires-clause-sites : goal.deal-requires-clause-sites
deal-requires-clause-sites g c i d low = (c.requires.crew.each i d low).site

pub all_take-requires-after_bounds : goal.all_take-requires-after_bounds
all_take-requires-after_bounds g c κs lives k d lt =
    let low : k < length c.args.workers.now = omega (arith, lt, c.deal.auto.workers) in
    can_take g.D.Disk.meaning c.args.works.now.wire.now c.args.pass.now c.args.workers.now (slice_index_or c.deal.new.workers k d) k d c.requires.crew low
    (c.deal.ensures.dealt k d low) (c.requires.items k d low) c.requires.fresh

pub gather-requires-clause-played : goal.gather-requires-clause-played
gather-requires-clause-played g c = subst IsPlayed (sym c.deal.ensures.seen) c.requires.crew.played

pub gather-requires-clause-passes : goal.gather-requires-clause-passes
gather-requires-clause-passes g c i d lt =
    let low : i < length c.args.workers.now = omega (arith, lt, c.deal.auto.workers, c.all_take.auto.workers) in
    let took = c.all_take.ensures i d (omega (arith, low, c.deal.auto.workers)) in
    (took.pass, took.worked.site ∙ ap (λ (n : NodeView g.row.D.Denot). n.site) (c.deal.ensures.dealt i d low).node ∙ (c.requires.crew.each i d low).site)

pub gather-requires-clause-each_played : goal.gather-requires-clause-each_played
gather-requires-clause-each_played g c i d lt =
    (c.all_take.ensures i d (omega (arith, lt, c.all_take.auto.workers))).worked.knows.played

pub returns-clause-crew : goal.returns-clause-crew
returns-clause-crew g c = crew_again g.D.Disk.meaning c.others_leave_nodes.ensures.nodes c.args.works.now.wire.now c.args.pass.now c.gather.new.pass c.args.workers.now c.deal.new.workers c.all_take.new.workers c.gather.new.workers
    (record {
      was = c.requires.crew;
      dealt_count = c.deal.auto.workers;
      turned_count = c.all_take.auto.workers ∙ c.deal.auto.workers;
      count = c.gather.auto.workers ∙ c.all_take.auto.workers ∙ c.deal.auto.workers;
      dealt = c.deal.ensures.dealt;
      worked = λ i d low. (c.all_take.ensures i d (omega (arith, low, c.deal.auto.workers))).worked;
      same = λ i d low. c.gather.ensures.same i d (omega (arith, low, c.deal.auto.workers, c.all_take.auto.workers));
      each = λ i d low. c.gather.ensures.each i d (omega (arith, low, c.deal.auto.workers, c.all_take.auto.workers));
      driver = (let P : List Mark → Type 0 = λ l. AddedByOthers 0 l (seen_by c.gather.new.pass) in subst P c.deal.ensures.seen c.gather.ensures.driver);
      idle = c.gather.ensures.idle;
      owns = λ o low. c.gather.ensures.all o (omega (arith, low, c.deal.auto.workers, c.all_take.auto.workers));
      last = c.gather.ensures.last ∙ c.deal.ensures.last;
      played = c.gather.ensures.played;
    })

pub returns-clause-on : goal.returns-clause-on
returns-clause-on g c = gone_on g.D.Disk.meaning c.others_leave_nodes.ensures.nodes c.args.works.now.wire.now c.args.pass.now c.gather.new.pass c.args.workers.now c.deal.new.workers c.all_take.new.workers c.gather.new.workers
    (record {
      was = c.requires.crew;
      dealt_count = c.deal.auto.workers;
      turned_count = c.all_take.auto.workers ∙ c.deal.auto.workers;
      count = c.gather.auto.workers ∙ c.all_take.auto.workers ∙ c.deal.auto.workers;
      dealt = c.deal.ensures.dealt;
      worked = λ i d low. (c.all_take.ensures i d (omega (arith, low, c.deal.auto.workers))).worked;
      same = λ i d low. c.gather.ensures.same i d (omega (arith, low, c.deal.auto.workers, c.all_take.auto.workers));
      each = λ i d low. c.gather.ensures.each i d (omega (arith, low, c.deal.auto.workers, c.all_take.auto.workers));
      driver = (let P : List Mark → Type 0 = λ l. AddedByOthers 0 l (seen_by c.gather.new.pass) in subst P c.deal.ensures.seen c.gather.ensures.driver);
      idle = c.gather.ensures.idle;
      owns = λ o low. c.gather.ensures.all o (omega (arith, low, c.deal.auto.workers, c.all_take.auto.workers));
      last = c.gather.ensures.last ∙ c.deal.ensures.last;
      played = c.gather.ensures.played;
    })

pub returns-clause-done : goal.returns-clause-done
returns-clause-done g c = items_done g.D.Disk.meaning c.others_leave_nodes.ensures.nodes c.args.works.now.wire.now c.args.pass.now c.gather.new.pass c.args.workers.now c.deal.new.workers c.all_take.new.workers c.gather.new.workers
    (record {
      was = c.requires.crew;
      dealt_count = c.deal.auto.workers;
      turned_count = c.all_take.auto.workers ∙ c.deal.auto.workers;
      count = c.gather.auto.workers ∙ c.all_take.auto.workers ∙ c.deal.auto.workers;
      dealt = c.deal.ensures.dealt;
      worked = λ i d low. (c.all_take.ensures i d (omega (arith, low, c.deal.auto.workers))).worked;
      same = λ i d low. c.gather.ensures.same i d (omega (arith, low, c.deal.auto.workers, c.all_take.auto.workers));
      each = λ i d low. c.gather.ensures.each i d (omega (arith, low, c.deal.auto.workers, c.all_take.auto.workers));
      driver = (let P : List Mark → Type 0 = λ l. AddedByOthers 0 l (seen_by c.gather.new.pass) in subst P c.deal.ensures.seen c.gather.ensures.driver);
      idle = c.gather.ensures.idle;
      owns = λ o low. c.gather.ensures.all o (omega (arith, low, c.deal.auto.workers, c.all_take.auto.workers));
      last = c.gather.ensures.last ∙ c.deal.ensures.last;
      played = c.gather.ensures.played;
    }) c.requires.begun c.requires.form c.requires.items
    (λ i d low. c.all_take.ensures i d (omega (arith, low, c.deal.auto.workers))) c.ended.result c.ended.ensures.well

pub returns-clause-full : goal.returns-clause-full
returns-clause-full g c = λ is. items_full g.D.Disk.meaning c.others_leave_nodes.ensures.nodes c.args.works.now.wire.now c.args.pass.now c.gather.new.pass c.args.workers.now c.deal.new.workers c.all_take.new.workers c.gather.new.workers
    (record {
      was = c.requires.crew;
      dealt_count = c.deal.auto.workers;
      turned_count = c.all_take.auto.workers ∙ c.deal.auto.workers;
      count = c.gather.auto.workers ∙ c.all_take.auto.workers ∙ c.deal.auto.workers;
      dealt = c.deal.ensures.dealt;
      worked = λ i d low. (c.all_take.ensures i d (omega (arith, low, c.deal.auto.workers))).worked;
      same = λ i d low. c.gather.ensures.same i d (omega (arith, low, c.deal.auto.workers, c.all_take.auto.workers));
      each = λ i d low. c.gather.ensures.each i d (omega (arith, low, c.deal.auto.workers, c.all_take.auto.workers));
      driver = (let P : List Mark → Type 0 = λ l. AddedByOthers 0 l (seen_by c.gather.new.pass) in subst P c.deal.ensures.seen c.gather.ensures.driver);
      idle = c.gather.ensures.idle;
      owns = λ o low. c.gather.ensures.all o (omega (arith, low, c.deal.auto.workers, c.all_take.auto.workers));
      last = c.gather.ensures.last ∙ c.deal.ensures.last;
      played = c.gather.ensures.played;
    }) c.requires.begun c.requires.form c.requires.items
    (λ i d low. c.all_take.ensures i d (omega (arith, low, c.deal.auto.workers))) c.marks_add_up.ensures.none (c.ended.ensures.refused HistoryFull is)
