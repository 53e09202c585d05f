use Rattle.std.proofs.Common.{◌∙◌, ap, sym, false, length, refl, arith}
use Rattle.e3_judge.specs.declared.audit.seat.Seat.{Seat}
use Rattle.std.proofs.lemmas.Option.{slice_get_read, slice_get_within}
use Rattle.e3_judge.proofs.audit.Asking.{asked_all, ask_next}
use Rattle.e3_judge.proofs.audit.Places.{set_length}
use Rattle.e3_judge.proofs.audit.lining.ask_all.Goals as goal

pub loop-at-preserved : goal.loop-at-preserved
loop-at-preserved c =
    let was = c.loop-at.invariant in
    let count = was.count in
    let there = slice_get_read c.loop-at.seats (length c.loop-at.seats) c.loop-at.at c.index-seats-at.result refl (omega (arith, count)) c.index-seats-at.is in
    record {
      count = set_length c.loop-at.seats c.loop-at.at c.ask.new.seat ∙ count;
      asked = ask_next c.args.prefix.now.scenario.now c.args.prefix.now.entries.now c.args._number c.loop-at.at _ c.loop-at.seats c.index-seats-at.result c.ask.new.seat
          c.args.asked.now c.in_ok-inputs.inputs refl was.asked there c.requires.asked c.in_ok-inputs.ensures
          (c.ask.ensures ∙ ap (λ (s : Seat). record s { inputs = c.in_ok-inputs.inputs; turn = 0; delivered = false; rising = false }) (sym c.index-seats-at.is));
    }

pub returns-clause-stand : goal.returns-clause-stand
returns-clause-stand c =
    asked_all c.args.prefix.now.scenario.now c.args.prefix.now.entries.now c.args._number c.loop-at.at c.loop-at.seats c.loop-at.invariant.asked (λ j s there.
    let low = slice_get_within c.loop-at.seats j s there in
    let count = c.loop-at.invariant.count in omega (arith, low, count))
