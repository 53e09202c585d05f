use Rattle.std.proofs.Common.{ℕ, ◌≡◌, ◌≤◌, ◌+◌, List, Some, length, sym, ap, subst, ◌∙◌, [], arith}
use Rattle.std.specs.Prelude.{slice_get}
use Rattle.e3_fleet.specs.Over.{AreOver}
use Rattle.e3_fleet.specs.Fleets.{nodes_of}
use Rattle.e3_fleet.proofs.Ending.{came_back, never_began, room_left, unarmed}
use Rattle.e3_fleet.proofs.Holding.{nodes_length}
use Rattle.e3_fleet.proofs.flying.play_over.Goals as goal
use Rattle.e3_play.specs.Delivered.{IsFull}
use Rattle.e3_types.specs.declared.entries.Entry.{Entry}
use Rattle.e3_types.specs.declared.scenarios.Scenario.{Scenario}
use Rattle.e3_world.specs.Legal.{IsLegal}

pub fly-ended-requires-clause-unarmed : goal.fly-ended-requires-clause-unarmed
fly-ended-requires-clause-unarmed g c κs lives =
    unarmed g.D.Disk.meaning (nodes_of c.open.new.workers.items) c.open.new.disks.items c.args.disks.items c.open.ensures.disks c.requires.blank

pub returns-in-Ok-clause-disks : goal.returns-in-Ok-clause-disks
returns-in-Ok-clause-disks g c =
    came_back g.D.Disk.meaning c.a_node_tells_of_its_disk.ensures.disks c.args.scenario.now c.fly-ended.result.history.entries
    (nodes_of c.open.new.workers.items) (nodes_of c.fly-ended.result.workers.items) c.open.new.disks.items c.args.disks.items c.unseat_all.new.disks.items
    (c.in-Ok.ensures.stands.count ∙ ap (λ (sc : Scenario). length sc.weights) c.in-Ok.ensures.new.0)
    c.fly-ended.ensures.seated c.fly-ended.ensures.kept c.open.ensures.disks c.unseat_all.ensures

pub returns-in-Err-clause-disks : goal.returns-in-Err-clause-disks
returns-in-Err-clause-disks g c =
    subst (λ (h : List Entry). AreOver g.D.Disk.meaning c.args.scenario.now h c.args.disks.items c.unseat_all-in-Err.new.disks.items) (sym c.new.ensures)
    (subst (λ (ds : List g.row.D.Denot). AreOver g.D.Disk.meaning c.args.scenario.now [] c.args.disks.items ds)
    (sym (c.unseat_all-in-Err.ensures ∙ c.open.ensures.disks))
    (never_began g.D.Disk.meaning c.disks_are_counted.ensures c.args.scenario.now c.args.disks.items halves c.requires.blank))
  where
    halves : (at : ℕ) (d : g.row.D.Denot) → slice_get c.args.disks.items at ≡ Some d → 2 ≤ (g.D.Disk.meaning.meters d).capacity
    halves = subst (λ (ds : List g.row.D.Denot). (at : ℕ) (d : g.row.D.Denot) → slice_get ds at ≡ Some d → 2 ≤ (g.D.Disk.meaning.meters d).capacity)
        c.as_slice.ensures.value c.have_halves.ensures

pub returns-in-Ok-clause-full : goal.returns-in-Ok-clause-full
returns-in-Ok-clause-full g c = λ is.
    subst (λ (most : ℕ). IsFull c.args.scenario.now c.fly-ended.result.history.entries most) c.in-Ok.ensures.new.2 (c.fly-ended.ensures.full is)

pub unseat_all-requires : goal.unseat_all-requires
unseat_all-requires g c =
    let all : length c.open.new.disks.items + length c.fly-ended.result.workers.items ≡ length c.args.disks.items =
    room_left (nodes_of c.open.new.workers.items) c.open.new.disks.items c.args.disks.items (length c.fly-ended.result.workers.items) c.open.ensures.disks
    (c.fly-ended.ensures.count ∙ sym (nodes_length c.open.new.workers.items)) in
    let one = c.open.new.disks.ok.0 in
    let two = c.args.disks.ok.0 in
    let low = c.args.disks.ok.1 in
    let same = c.open.ensures.disks_room in
    omega (arith, all, one, two, low, same)

pub fly-ended-requires-clause-played : goal.fly-ended-requires-clause-played
fly-ended-requires-clause-played g c κs lives = c.in-Ok.ensures.new.0

pub fly-ended-requires-clause-empty : goal.fly-ended-requires-clause-empty
fly-ended-requires-clause-empty g c κs lives = c.in-Ok.ensures.new.1

pub fly-ended-requires-clause-taken : goal.fly-ended-requires-clause-taken
fly-ended-requires-clause-taken g c κs lives = c.in-Ok.ensures.taken

pub fly-ended-requires-clause-stands : goal.fly-ended-requires-clause-stands
fly-ended-requires-clause-stands g c κs lives = c.in-Ok.ensures.stands

pub returns-in-Ok-clause-legal : goal.returns-in-Ok-clause-legal
returns-in-Ok-clause-legal g c = c.fly-ended.ensures.legal

pub returns-in-Ok-clause-within : goal.returns-in-Ok-clause-within
returns-in-Ok-clause-within g c =
    subst (λ (most : ℕ). length c.fly-ended.result.history.entries ≤ most) c.in-Ok.ensures.new.2 c.fly-ended.ensures.within

pub returns-in-Ok-clause-whole : goal.returns-in-Ok-clause-whole
returns-in-Ok-clause-whole g c = c.fly-ended.ensures.whole

pub returns-in-Err-clause-legal : goal.returns-in-Err-clause-legal
returns-in-Err-clause-legal g c = subst (λ (h : List Entry). IsLegal c.args.scenario.now h) (sym c.new.ensures) tt

pub returns-in-Err-clause-within : goal.returns-in-Err-clause-within
returns-in-Err-clause-within g c = subst (λ (h : List Entry). length h ≤ c.args.most) (sym c.new.ensures) (omega arith)

pub returns-in-Err-clause-whole : goal.returns-in-Err-clause-whole
returns-in-Err-clause-whole g c = tt

pub fly-ended-requires-clause-given : goal.fly-ended-requires-clause-given
fly-ended-requires-clause-given g c κs lives = c.requires.given

pub unseat_all-requires-in-Err : goal.unseat_all-requires-in-Err
unseat_all-requires-in-Err g c =
    let all : length c.open.new.disks.items + length c.open.new.workers.items ≡ length c.args.disks.items =
    room_left (nodes_of c.open.new.workers.items) c.open.new.disks.items c.args.disks.items (length c.open.new.workers.items) c.open.ensures.disks
    (sym (nodes_length c.open.new.workers.items)) in
    let one = c.open.new.disks.ok.0 in
    let two = c.args.disks.ok.0 in
    let low = c.args.disks.ok.1 in
    let same = c.open.ensures.disks_room in
    omega (arith, all, one, two, low, same)
