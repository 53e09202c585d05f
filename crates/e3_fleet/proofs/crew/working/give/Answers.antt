use Rattle.std.proofs.Common.{◌∷◌, [], sym, ap, subst, ◌∙◌}
use Rattle.e3_turn.specs.Passes.{seen_by}
use Rattle.e3_fleet.specs.crew.Workers.{HasGiven}
use Rattle.e3_fleet.proofs.crew.Giving.{gave}
use Rattle.e3_fleet.proofs.crew.Turning.{owns_one}
use Rattle.e3_fleet.proofs.crew.working.give.Goals as goal

pub input_by_turns-answer-requires-clause-turns : goal.input_by_turns-answer-requires-clause-turns
input_by_turns-answer-requires-clause-turns g c =
    let k = c.requires.knows in
    record { idle = c.requires.pass.idle; owns = owns_one _ _ c.requires.pass.owner_is; played = k.played; stands = k.stands; restless = k.restless }

pub returns-clause-pass : goal.returns-clause-pass
returns-clause-pass g c = record {
  idle = c.input_by_turns-answer.ensures.turned.turned.idle;
  owner_is = c.input_by_turns-answer.ensures.turned.turned.same.owners ∙ c.requires.pass.owner_is ∙ ap (λ s. s ∷ []) (sym c.input_by_turns-answer.ensures.site);
}

pub returns-clause-given : goal.returns-clause-given
returns-clause-given g c =
    let e = c.input_by_turns-answer.ensures in
    let P = HasGiven g.D.Disk.meaning (seen_by c.args.pass.now) c.args.node.now c.args.input
    (seen_by c.input_by_turns-answer.new.pass) c.input_by_turns-answer.new.self in
    subst P (sym c.given.ensures)
    (gave g.D.Disk.meaning c.others_leave_nodes.ensures.moves (seen_by c.args.pass.now)
    (seen_by c.input_by_turns-answer.new.pass) c.args.node.now c.input_by_turns-answer.new.self c.args.input c.input_by_turns-answer.result c.requires.knows (record {
      played = e.turned.turned.played;
      scenario = e.scenario.0;
      most = e.scenario.1;
      promised = e.turned.promised;
      room = e.turned.room;
      stands = e.stands;
      site = e.site;
      stepped = e.stepped;
      fell = e.fell;
      down = e.down;
      full = e.full;
      kept = e.kept;
      why = e.why;
      keeps = e.meters;
      takes = e.takes;
      none_back = e.none_back;
    }))
