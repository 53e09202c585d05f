use Rattle.std.proofs.Common.{◌≡◌, ◌∙◌, ◌+◌, ◌++◌, ◌∷◌, [], ℕ, List, length, refl, rules, sym, ap, subst}
use Rattle.std.proofs.lemmas.Option.{slice_get_read}
use Rattle.e3_fleet.specs.declared.crew.worker.Worker.{Worker}
use Rattle.e3_fleet.specs.Fleets.{AreSeated, nodes_of}
use Rattle.e3_fleet.specs.Over.{AreBlank}
use Rattle.e3_fleet.proofs.Holding.{nodes_length, nodes_more}
use Rattle.e3_fleet.proofs.Seats.{rest_blank, seat_more}
use Rattle.e3_fleet.proofs.seating.seat_next.Goals as goal
use Rattle.e3_node.specs.NodeView.{NodeView}

pub down-node-requires-clause-blank : goal.down-node-requires-clause-blank
down-node-requires-clause-blank g c = (c.requires.blank 0 c.remove-disk.result (slice_get_read c.args.disks.now.items (length c.args.disks.now.items) 0 c.remove-disk.result refl c.requires.enough c.remove-disk.ensures.value)).blank

pub returns-clause-blank : goal.returns-clause-blank
returns-clause-blank g c = subst (λ (ds : List g.row.D.Denot). AreBlank g.D.Disk.meaning ds) (sym c.remove-disk.ensures.items)
    (rest_blank g.D.Disk.meaning c.args.disks.now.items c.requires.blank)

pub returns-clause-seated : goal.returns-clause-seated
returns-clause-seated g c =
    let more : nodes_of c.push_within.new.items.items ≡ nodes_of c.args.workers.now.items ++ c.down-node.result ∷ [] =
    ap (λ (ws : List (Worker g.row.D.Denot)). nodes_of ws) c.push_within.ensures.items ∙ nodes_more c.args.workers.now.items c.new.result
    ∙ ap (λ (n : NodeView g.row.D.Denot). nodes_of c.args.workers.now.items ++ n ∷ []) c.new.ensures.node in
    let site : c.down-node.result.site ≡ length c.args.workers.now.items + 1 = search rules in
    subst (λ (ns : List (NodeView g.row.D.Denot)). AreSeated g.D.Disk.meaning c.args.scenario.now [] ns) (sym more)
    (seat_more g.D.Disk.meaning c.args.scenario.now (nodes_of c.args.workers.now.items) c.down-node.result c.requires.seated
    (site ∙ ap (λ (n : ℕ). n + 1) (sym (nodes_length c.args.workers.now.items))) (c.down-node.ensures.stands c.args.scenario.now (search rules) (search rules)))

pub returns-in_err-weights-clause-seated : goal.returns-in_err-weights-clause-seated
returns-in_err-weights-clause-seated g c = c.requires.seated

pub returns-in_err-weights-clause-disks : goal.returns-in_err-weights-clause-disks
returns-in_err-weights-clause-disks g c = refl

pub returns-in_err-weights-clause-blank : goal.returns-in_err-weights-clause-blank
returns-in_err-weights-clause-blank g c = c.requires.blank

pub returns-in_err-rows-clause-seated : goal.returns-in_err-rows-clause-seated
returns-in_err-rows-clause-seated g c = c.requires.seated

pub returns-in_err-rows-clause-disks : goal.returns-in_err-rows-clause-disks
returns-in_err-rows-clause-disks g c = refl

pub returns-in_err-rows-clause-blank : goal.returns-in_err-rows-clause-blank
returns-in_err-rows-clause-blank g c = c.requires.blank
