use Rattle.std.proofs.Common.{◌∙◌, ap, List}
use Rattle.std.specs.Prelude.{[]}
use Rattle.e3_types.specs.declared.records.Record.{Record}
use Rattle.e3_world.specs.Rounds.{round_by}
use Rattle.e3_readings.proofs.rounds.round_by.Goals as goal

pub returns : goal.returns
returns c =
    c.after.ensures
    ∙ ap (λ (rs : List Record). round_by c.args.site c.args.t.now c.args.was (record { before = []; input = c.args.m.now.input; records = rs; outs = []; told = [] })) c.as_slice.ensures
