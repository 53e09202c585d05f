use Rattle.std.proofs.Common.{List, ap, sym, ◌∙◌}
use Rattle.e3_fleet.proofs.Holding.{owns_from}
use Rattle.e3_gate_runs.proofs.Going.{two_at_first}
use Rattle.e3_turn.specs.Passes.{seen_by}
use Rattle.e3_wire.specs.Marks.{last_owner}
use Rattle.e3_wire.specs.declared.marks.Mark.{Mark}
use Rattle.e3_gate_runs.proofs.at_once.nodes.plays_scenario.Goals as goal

pub plays_up_to-requires-clause-all : goal.plays_up_to-requires-clause-all
plays_up_to-requires-clause-all g c = owns_from c.in-Ok.opened.1 _ c.in-Ok.ensures.owners.0 c.in-Ok.ensures.owners.1

pub plays_up_to-requires-clause-last : goal.plays_up_to-requires-clause-last
plays_up_to-requires-clause-last g c = c.in-Ok.ensures.owners.1 ∙ ap (λ (l : List Mark). last_owner l) (sym c.in-Ok.ensures.seen)

pub plays_up_to-requires-clause-two : goal.plays_up_to-requires-clause-two
plays_up_to-requires-clause-two g c =
    two_at_first g.D.Disk.meaning c.args.scenario 2000000 (seen_by c.in-Ok.opened.1) c.args.node.now c.args.other.now c.in-Ok.ensures.seen c.in-Ok.ensures.played
    c.requires.node c.requires.other c.requires.apart
