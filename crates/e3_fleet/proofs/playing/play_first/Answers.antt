use Rattle.std.proofs.Common.{◌≡◌, ◌≤◌, ◌+◌, ◌∙◌, ℕ, suc, arith, subst, sym}
use Rattle.e3_fleet.specs.Settling.{history_in}
use Rattle.e3_fleet.proofs.playing.play_first.Goals as goal
use Rattle.e3_play.proofs.Onward.{goes_on}
use Rattle.e3_play.specs.Played.{IsSettled}

pub rise_all-requires-clause-standing : goal.rise_all-requires-clause-standing
rise_all-requires-clause-standing g c = c.requires.standing

pub rise_all-requires-clause-empty : goal.rise_all-requires-clause-empty
rise_all-requires-clause-empty g c = c.requires.empty

pub returns-in_err-rise_all-clause-on : goal.returns-in_err-rise_all-clause-on
returns-in_err-rise_all-clause-on g c = c.rise_all.ensures.on

pub play_step-requires-clause-played : goal.play_step-requires-clause-played
play_step-requires-clause-played g c κs lives = c.loop-done.invariant.played

pub play_step-requires-clause-standing : goal.play_step-requires-clause-standing
play_step-requires-clause-standing g c κs lives = c.loop-done.invariant.on.stands

pub play_step-requires-clause-given : goal.play_step-requires-clause-given
play_step-requires-clause-given g c κs lives = c.requires.given

pub play_step-requires-clause-most : goal.play_step-requires-clause-most
play_step-requires-clause-most g c κs lives = subst (λ (most : ℕ). most ≤ 2000000) (sym c.loop-done.invariant.on.most) c.requires.most

pub play_step-requires-clause-settled : goal.play_step-requires-clause-settled
play_step-requires-clause-settled g c κs lives = c.loop-done.invariant.settled

pub play_step-requires-clause-known : goal.play_step-requires-clause-known
play_step-requires-clause-known g c κs lives = c.loop-done.invariant.known

pub returns-in_err-play_step-clause-on : goal.returns-in_err-play_step-clause-on
returns-in_err-play_step-clause-on g c = goes_on c.loop-done.invariant.on c.play_step.ensures.on

pub returns-clause-on : goal.returns-clause-on
returns-clause-on g c = c.loop-done.invariant.on

pub loop-done-preserved : goal.loop-done-preserved
loop-done-preserved g c = record {
  played = c.play_step.ensures.on.scenario ∙ c.loop-done.invariant.played;
  on = goes_on c.loop-done.invariant.on c.play_step.ensures.on;
  known = c.in_ok-play_step.ensures.known;
  settled = subst (λ (n : ℕ). IsSettled c.args.scenario.now (history_in c.play_step.new.fleet) n) next c.in_ok-play_step.ensures.settles;
}
  where
    next : suc c.loop-done.done ≡ c.loop-done.done + 1
    next = omega arith
