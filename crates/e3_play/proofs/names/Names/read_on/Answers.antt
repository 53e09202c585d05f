use Rattle.std.proofs.Common.{◌∙◌, ap, length}
use Rattle.e3_play.proofs.Knowing.{reads_on}
use Rattle.e3_play.specs.declared.names.Names.{Names}
use Rattle.e3_world.specs.declared.names.Binding.{Binding}
use Rattle.e3_play.proofs.names.Names.read_on.Goals as goal

pub returns : goal.returns
returns c =
    let named : Binding → Names = λ b. record { binding = b; read = length c.args.history.now } in
    ap named (c.in_ok-bind.ensures ∙ reads_on c.args.scenario.now c.args.history.now c.args.self.now c.requires.known)
