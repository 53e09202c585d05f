use Rattle.std.proofs.Common.{◌≡◌, [], List, length, sym, ap, subst, ◌∙◌}
use Rattle.e3_fleet.specs.Fleets.{AreSeated, nodes_of}
use Rattle.e3_fleet.proofs.Driven.{opened}
use Rattle.e3_fleet.proofs.Holding.{nodes_length}
use Rattle.e3_fleet.proofs.flying.open.Goals as goal
use Rattle.e3_types.specs.declared.entries.Entry.{Entry}
use Rattle.e3_types.specs.declared.scenarios.Scenario.{Scenario}
use Rattle.e3_wire.specs.Marks.{entries_of, most_of, scenario_of}
use Rattle.e3_wire.specs.declared.marks.Mark.{Mark}

pub returns-in-Ok-clause-new : goal.returns-in-Ok-clause-new
returns-in-Ok-clause-new g c = (
  ap (λ (l : List Mark). scenario_of l) c.in_ok-opened.ensures.shared,
  ap (λ (l : List Mark). entries_of l) c.in_ok-opened.ensures.shared,
  ap (λ (l : List Mark). most_of l) c.in_ok-opened.ensures.shared,
)

pub returns-in-Ok-clause-stands : goal.returns-in-Ok-clause-stands
returns-in-Ok-clause-stands g c =
    let keys : scenario_of c.in_ok-opened.opened.shared ≡ c.args.scenario.now = ap (λ (l : List Mark). scenario_of l) c.in_ok-opened.ensures.shared in
    let none : entries_of c.in_ok-opened.opened.shared ≡ [] = ap (λ (l : List Mark). entries_of l) c.in_ok-opened.ensures.shared in
    record {
      shared_stands = opened _ c.args.most c.in_ok-opened.opened.shared c.in_ok-opened.ensures.shared c.in_ok-opened.ensures.played;
      count = nodes_length c.seat_all.new.workers.items ∙ c.in-Ok.ensures.all ∙ ap (λ (sc : Scenario). length sc.weights) (sym keys);
      seated = subst (λ (sc : Scenario). AreSeated g.D.Disk.meaning sc (entries_of c.in_ok-opened.opened.shared) (nodes_of c.seat_all.new.workers.items))
          (sym keys)
          (subst (λ (h : List Entry). AreSeated g.D.Disk.meaning c.args.scenario.now h (nodes_of c.seat_all.new.workers.items))
          (sym none) c.seat_all.ensures.seated);
    }
