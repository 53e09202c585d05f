use Rattle.std.proofs.Common.{◌≡◌, fold, take}
use Rattle.e3_judge.specs.audit.Seats.{noted}
use Rattle.e3_judge.proofs.audit.several.note_all.Given as goal

abbrev pub invariant-loop-input : goal.invariant-loop-input
invariant-loop-input l = l.seat ≡ fold noted l.initial.seat (take l.input-index l.inputs)
