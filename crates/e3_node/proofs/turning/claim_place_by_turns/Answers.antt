use Rattle.std.proofs.Common.{◌++◌, ◌∷◌, [], ◌∙◌, ℕ, ap, length}
use Rattle.e3_turn.specs.Passes.{seen_by}
use Rattle.e3_wire.specs.declared.marks.Mark.TheVariants as mark
use Rattle.e3_node.proofs.InputsByTurns.{with_error}
use Rattle.e3_node.proofs.Places.{looked_back, still_back}
use Rattle.e3_node.proofs.Waiting.{looked}
use Rattle.e3_node.proofs.turning.claim_place_by_turns.Goals as goal

pub returns-clause-claimed : goal.returns-clause-claimed
returns-clause-claimed g c =
    let cl = c.in_ok-claim.ensures.claimed in
    record {
      between = cl.0;
      grew = cl.1;
      played = cl.5;
      left = λ all. (let full = cl.4.1 all in cc);
      is = cl.2 ∙ ap (λ (n : ℕ). cl.0 ++ mark.Place c.args.number n ∷ []) (c.room_for.ensures ∙ ap length c.outs.ensures);
    }

pub returns-in_err-claim-clause-turned : goal.returns-in_err-claim-clause-turned
returns-in_err-claim-clause-turned g c =
    let cl = c.in_err-claim.ensures.claimed in
    with_error c.from_residual-in_err-claim.result (looked c.args.wire.now c.args.pass.now c.claim.new.pass c.args.number cl.0 c.requires.turns.owns c.requires.turns.played c.claim.ensures.played c.claim.ensures.idle c.claim.ensures.same cl.1 cl.3).0

pub returns-in_err-claim-clause-meanwhile : goal.returns-in_err-claim-clause-meanwhile
returns-in_err-claim-clause-meanwhile g c =
    let cl = c.in_err-claim.ensures.claimed in
    with_error c.from_residual-in_err-claim.result (looked c.args.wire.now c.args.pass.now c.claim.new.pass c.args.number cl.0 c.requires.turns.owns c.requires.turns.played c.claim.ensures.played c.claim.ensures.idle c.claim.ensures.same cl.1 cl.3).1

pub returns-in_err-claim-clause-none_back : goal.returns-in_err-claim-clause-none_back
returns-in_err-claim-clause-none_back g c =
    let cl = c.in_err-claim.ensures.claimed in
    with_error c.from_residual-in_err-claim.result (looked_back c.args.pass.now c.claim.new.pass c.args.number cl.0 c.requires.turns.owns cl.1 cl.3)

pub returns-in_err-short-clause-none_back : goal.returns-in_err-short-clause-none_back
returns-in_err-short-clause-none_back g c = with_error c.from_residual.result (still_back c.args.number (seen_by c.args.pass.now))
