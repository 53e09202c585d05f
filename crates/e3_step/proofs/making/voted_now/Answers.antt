use Rattle.std.proofs.Common.{◌||◌, ◌∙◌, ap, sym, Bool, List}
use Rattle.e3_types.specs.declared.records.Record.{Record}
use Rattle.e3_world.specs.Logs.{has_voted}
use Rattle.e3_step.proofs.Pieces.{voted_more}
use Rattle.e3_step.proofs.making.voted_now.Goals as goal

pub returns : goal.returns
returns g c =
    c.or_voted.ensures ∙ ap (λ (b : Bool). b || has_voted c.args.t.now c.as_slice.result.now) c.voted.ensures
    ∙ ap (λ (rs : List Record). has_voted c.args.t.now (g.P.Past.at c.args.p.now).life.log || has_voted c.args.t.now rs) c.as_slice.ensures
    ∙ sym (voted_more c.args.t.now (g.P.Past.at c.args.p.now).life.log c.args.made.now.records)
