use Rattle.std.proofs.Common.{List, sym, subst, ◌∙◌}
use Rattle.e3_fleet.specs.Fleets.{HaveKept, Seated, nodes_of}
use Rattle.e3_fleet.proofs.Ending.{have_kept_start}
use Rattle.e3_fleet.proofs.Holding.{nodes_length}
use Rattle.e3_fleet.proofs.flying.fly.Goals as goal
use Rattle.e3_play.specs.Delivered.{IsFull}
use Rattle.e3_types.specs.declared.entries.Entry.{Entry}
use Rattle.e3_types.specs.declared.scenarios.Scenario.{Scenario}
use Rattle.e3_wire.specs.Marks.{entries_of, most_of, scenario_of}

pub returns-clause-seated : goal.returns-clause-seated
returns-clause-seated g c = λ at node there.
    subst (λ (h : List Entry). Seated g.D.Disk.meaning c.args.scenario.now h at node) (sym c.close.ensures)
    (subst (λ (sc : Scenario). Seated g.D.Disk.meaning sc (entries_of c.play-ended.new.fleet.held.shared) at node)
    (c.play-ended.ensures.on.scenario ∙ c.requires.played) (c.play-ended.ensures.on.stands.fleet.seated at node there))

pub returns-clause-kept : goal.returns-clause-kept
returns-clause-kept g c =
    subst (λ (h : List Entry). HaveKept g.D.Disk.meaning.meters c.args.scenario.now h (nodes_of c.args.workers.items) (nodes_of c.play-ended.new.fleet.held.workers.items)) (sym c.close.ensures)
    (subst (λ (sc : Scenario). HaveKept g.D.Disk.meaning.meters sc (entries_of c.play-ended.new.fleet.held.shared) (nodes_of c.args.workers.items) (nodes_of c.play-ended.new.fleet.held.workers.items))
    (c.play-ended.ensures.on.scenario ∙ c.requires.played)
    (c.play-ended.ensures.on.since (record { alloc = c.args.alloc; wire = c.args.opened.wire; pass = c.args.opened.pass; held = record { shared = c.args.opened.shared; workers = c.args.workers } })
    (subst (λ (h : List Entry). HaveKept g.D.Disk.meaning.meters (scenario_of c.args.opened.shared) h (nodes_of c.args.workers.items) (nodes_of c.args.workers.items)) (sym c.requires.empty)
    (have_kept_start g.D.Disk.meaning.meters c.disks_are_counted.ensures (scenario_of c.args.opened.shared) (nodes_of c.args.workers.items) c.requires.unarmed))))

pub returns-clause-count : goal.returns-clause-count
returns-clause-count g c =
    let kept = c.play-ended.ensures.on.since (record { alloc = c.args.alloc; wire = c.args.opened.wire; pass = c.args.opened.pass; held = record { shared = c.args.opened.shared; workers = c.args.workers } })
    (subst (λ (h : List Entry). HaveKept g.D.Disk.meaning.meters (scenario_of c.args.opened.shared) h (nodes_of c.args.workers.items) (nodes_of c.args.workers.items)) (sym c.requires.empty)
    (have_kept_start g.D.Disk.meaning.meters c.disks_are_counted.ensures (scenario_of c.args.opened.shared) (nodes_of c.args.workers.items) c.requires.unarmed)) in
    sym (nodes_length c.play-ended.new.fleet.held.workers.items) ∙ kept.count ∙ nodes_length c.args.workers.items

pub returns-clause-full : goal.returns-clause-full
returns-clause-full g c = λ is.
    subst (λ (h : List Entry). IsFull c.args.scenario.now h (most_of c.args.opened.shared)) (sym c.close.ensures) (c.play-ended.ensures.full is)
