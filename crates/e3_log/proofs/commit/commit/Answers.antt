use Rattle.std.proofs.Common.{inl, inr, subst, ℕ, List}
use Rattle.e3_disk.specs.Images.{Torn}
use Rattle.e3_log.proofs.Tearing.{only_torn}
use Rattle.e3_log.proofs.Spending.{spends_parts}
use Rattle.e3_log.proofs.commit.commit.Goals as goal

pub returns-in_err-write_frame-clause-images : goal.returns-in_err-write_frame-clause-images
returns-in_err-write_frame-clause-images g c = λ only image at. inl (only_torn _ _ _ _ _ only c.write_frame.ensures.images image at)

pub returns-in_err-set_gate-clause-images : goal.returns-in_err-set_gate-clause-images
returns-in_err-set_gate-clause-images g c = λ only image at.
    inr (subst (λ (d : List ℕ). Torn c.args.end 1 d image) c.in_ok-write_frame.ensures.written
    (only_torn _ _ _ _ _ c.in_ok-write_frame.ensures.durable c.set_gate.ensures.images image at))

pub returns-clause-images : goal.returns-clause-images
returns-clause-images g c = λ only image at.
    inr (subst (λ (d : List ℕ). Torn c.args.end 1 d image) c.in_ok-write_frame.ensures.written
    (only_torn _ _ _ _ _ c.in_ok-write_frame.ensures.durable c.set_gate.ensures.images image at))

pub returns-clause-meters : goal.returns-clause-meters
returns-clause-meters g c = spends_parts c.in_ok-write_frame.ensures.meters c.in_ok-set_gate.ensures.meters
