use Rattle.std.proofs.Common.{◌≡◌, ◌≢◌, ◌∙◌, [], ℕ, true, List, sym, subst}
use Rattle.std.specs.Prelude.{Err, OnOk}
use Rattle.e3_fleet.specs.crew.Crews.{HasGoneOn, IsCrew}
use Rattle.e3_fleet.specs.declared.crew.worker.Worker.{Worker}
use Rattle.e3_fleet.specs.Fleets.{FleetStands, IsFleetOn, nodes_of}
use Rattle.e3_fleet.proofs.Holding.{crew_of, filled, may_put, nothing_added, taken_again, told_of}
use Rattle.e3_fleet.proofs.Working.{crew_on}
use Rattle.e3_fleet.proofs.settling.settled_by.Goals as goal
use Rattle.e3_play.specs.Delivered.{IsFullBefore, IsItemOrPacket}
use Rattle.e3_play.specs.Settled.{StaysInStep, is_asking}
use Rattle.e3_play.specs.declared.sites.RunFault.TheVariants.{HistoryFull}
use Rattle.e3_turn.specs.Passes.{seen_by}
use Rattle.e3_wire.specs.declared.marks.Mark.{Mark}
use Rattle.e3_wire.specs.Marks.{entries_of, most_of, scenario_of}
use Rattle.e3_world.specs.Items.{plan_of, taken_at}
use Rattle.e3_world.specs.Packets.{lines, pending, present_items}
use Rattle.e3_world.specs.Progress.{Delivering}

pub put-requires-clause-grew : goal.put-requires-clause-grew
put-requires-clause-grew g c = may_put c.args.wire.now c.args.pass.now c.args.held.shared c.requires.taken

pub settle-answer-requires-clause-crew : goal.settle-answer-requires-clause-crew
settle-answer-requires-clause-crew g c κs lives =
    let P : List (Worker g.row.D.Denot) → Type 0 = λ ws. IsCrew g.D.Disk.meaning c.args.wire.now c.put.new.pass ws in
    subst P (sym c.as_mut_slice.ensures.value)
    (crew_of g.D.Disk.meaning c.args.wire.now c.args.pass.now c.put.new.pass c.args.held.shared c.args.held.workers.items c.requires.taken c.requires.standing
    c.requires.form c.put.ensures.idle c.put.ensures.same c.put.ensures.seen c.put.ensures.played)

pub settle-answer-requires-clause-begun : goal.settle-answer-requires-clause-begun
settle-answer-requires-clause-begun g c κs lives = (let P : List Mark → Type 0 = λ l. lines (entries_of l) ≢ 0 in subst P (sym c.put.ensures.seen) c.requires.begun)

pub settle-answer-requires-clause-form : goal.settle-answer-requires-clause-form
settle-answer-requires-clause-form g c κs lives =
    (let P : List Mark → Type 0 = λ l. is_asking (present_items (scenario_of l) (entries_of l)) ≡ true in subst P (sym c.put.ensures.seen) c.requires.form)

pub settle-answer-requires-clause-asked : goal.settle-answer-requires-clause-asked
settle-answer-requires-clause-asked g c κs lives =
    (let P : List Mark → Type 0 = λ l. c.args.inputs.now ≡ plan_of (scenario_of l) (entries_of l) in subst P (sym c.put.ensures.seen) c.requires.asked)

pub settle-answer-requires-clause-fresh : goal.settle-answer-requires-clause-fresh
settle-answer-requires-clause-fresh g c κs lives =
    (let P : List Mark → Type 0 = λ l. (site : ℕ) → taken_at (entries_of l) site ≡ [] in subst P (sym c.put.ensures.seen) c.requires.fresh)

pub returns-clause-taken : goal.returns-clause-taken
returns-clause-taken g c =
    let crew = c.settle-answer.ensures.crew in
    taken_again c.args.wire.now c.settle-answer.new.pass c.take-shared.new.pass c.take-shared.result crew.all (crew.last ∙ sym crew.count)
    c.take-shared.ensures.turn c.take-shared.ensures.same c.take-shared.ensures.seen c.take-shared.ensures.grew c.take-shared.ensures.played

pub returns-clause-on : goal.returns-clause-on
returns-clause-on g c =
    let crew = c.settle-answer.ensures.crew in
    let again : c.take-shared.result ≡ seen_by c.settle-answer.new.pass = nothing_added c.settle-answer.new.pass c.take-shared.result crew.all c.take-shared.ensures.grew in
    let P : List Mark → List Mark → Type 0 = λ a b. IsFleetOn g.D.Disk.meaning a b (nodes_of c.args.held.workers.items) (nodes_of c.settle-answer.new.workers) in
    let Q : List Mark → Type 0 = λ l. FleetStands g.D.Disk.meaning l (nodes_of c.args.held.workers.items) in
    let S : List (Worker g.row.D.Denot) → Type 0 = λ ws. HasGoneOn g.D.Disk.meaning.meters (seen_by c.put.new.pass) ws (seen_by c.settle-answer.new.pass) c.settle-answer.new.workers in
    let T : List (Worker g.row.D.Denot) → Type 0 = λ ws. IsFleetOn g.D.Disk.meaning c.args.held.shared c.take-shared.result (nodes_of c.args.held.workers.items) (nodes_of ws) in
    subst T (sym (filled c.args.held.workers.items c.settle-answer.new.workers c.args.held.workers.len (c.settle-answer.auto.workers ∙ c.as_mut_slice.ensures.len)))
    (told_of P (seen_by c.put.new.pass) c.args.held.shared (seen_by c.settle-answer.new.pass) c.take-shared.result c.put.ensures.seen (sym again)
    (crew_on g.D.Disk.meaning c.disks_are_counted.ensures c.args.wire.now c.put.new.pass c.settle-answer.new.pass c.args.held.workers.items c.settle-answer.new.workers
    (subst Q (sym c.put.ensures.seen) c.requires.standing) crew (subst S c.as_mut_slice.ensures.value c.settle-answer.ensures.on)))

pub returns-clause-grown : goal.returns-clause-grown
returns-clause-grown g c =
    let again : c.take-shared.result ≡ seen_by c.settle-answer.new.pass = nothing_added c.settle-answer.new.pass c.take-shared.result c.settle-answer.ensures.crew.all c.take-shared.ensures.grew in
    let P : List Mark → List Mark → Type 0 = λ a b. StaysInStep (entries_of a) (entries_of b) in
    told_of P (seen_by c.put.new.pass) c.args.held.shared (seen_by c.settle-answer.new.pass) c.take-shared.result c.put.ensures.seen (sym again) c.settle-answer.ensures.on.grown

pub returns-clause-delivering : goal.returns-clause-delivering
returns-clause-delivering g c =
    let again : c.take-shared.result ≡ seen_by c.settle-answer.new.pass = nothing_added c.settle-answer.new.pass c.take-shared.result c.settle-answer.ensures.crew.all c.take-shared.ensures.grew in
    let P : List Mark → List Mark → Type 0 = λ a b. OnOk c.settle-answer.result (Delivering (scenario_of a) (entries_of b)) in
    told_of P (seen_by c.put.new.pass) c.args.held.shared (seen_by c.settle-answer.new.pass) c.take-shared.result c.put.ensures.seen (sym again) c.settle-answer.ensures.delivering

pub returns-clause-settled : goal.returns-clause-settled
returns-clause-settled g c =
    let again : c.take-shared.result ≡ seen_by c.settle-answer.new.pass = nothing_added c.settle-answer.new.pass c.take-shared.result c.settle-answer.ensures.crew.all c.take-shared.ensures.grew in
    let P : List Mark → List Mark → Type 0 = λ a b. OnOk c.settle-answer.result (pending (scenario_of a) (entries_of b) ≡ []) in
    told_of P (seen_by c.put.new.pass) c.args.held.shared (seen_by c.settle-answer.new.pass) c.take-shared.result c.put.ensures.seen (sym again) c.settle-answer.ensures.settled

pub returns-clause-full : goal.returns-clause-full
returns-clause-full g c =
    let again : c.take-shared.result ≡ seen_by c.settle-answer.new.pass = nothing_added c.settle-answer.new.pass c.take-shared.result c.settle-answer.ensures.crew.all c.take-shared.ensures.grew in
    let P : List Mark → List Mark → Type 0 = λ a b. c.settle-answer.result ≡ Err HistoryFull → IsFullBefore IsItemOrPacket (scenario_of a) (entries_of b) (most_of a) in
    told_of P (seen_by c.put.new.pass) c.args.held.shared (seen_by c.settle-answer.new.pass) c.take-shared.result c.put.ensures.seen (sym again) c.settle-answer.ensures.full
