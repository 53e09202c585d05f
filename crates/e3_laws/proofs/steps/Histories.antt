-- The laws of legal histories.
use Rattle.std.proofs.Common.{ap}
use Rattle.e3_world.specs.Lives.{incarnation_of}
use Rattle.e3_world.specs.Legal.{made_by}
use Rattle.e3_world.specs.Moves.{past_of}
use Rattle.e3_world.specs.Steps.{step_of}
use Rattle.e3_world.proofs.Numbers.{unnumber_numbered}
use Rattle.e3_world.proofs.Pushes.{legal_front, step_unnumbered}
use Rattle.e3_laws.specs.steps.Claims.{PrefixIsLegal, StepIsOwn, NumbersAreAll, TakenNumberIsNothing}

pub front_is_legal : PrefixIsLegal
front_is_legal = legal_front

pub step_is_own : StepIsOwn
step_is_own sc h k site i same = ap (λ mine. step_of sc.weights site (incarnation_of (past_of sc site mine).moves) i) same

pub numbers_are_all : NumbersAreAll
numbers_are_all sc h site i = unnumber_numbered _ (made_by sc h site i).outs

pub taken_number : TakenNumberIsNothing
taken_number = step_unnumbered
