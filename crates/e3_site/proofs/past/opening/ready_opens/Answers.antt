use Rattle.std.proofs.Common.{refl}
use Rattle.e3_site.proofs.past.Undecided.{each_room, same_open}
use Rattle.e3_site.proofs.past.opening.ready_opens.Goals as goal

pub returns-in_err-reserve-clause-stand : goal.returns-in_err-reserve-clause-stand
returns-in_err-reserve-clause-stand c = same_open c.args.opens.now _ c.reserve.ensures.same refl refl

pub returns-in_err-reserve-2-clause-stand : goal.returns-in_err-reserve-2-clause-stand
returns-in_err-reserve-2-clause-stand c = same_open c.args.opens.now _ c.reserve.ensures.same c.reserve-2.ensures.same refl

pub returns-clause-stand : goal.returns-clause-stand
returns-clause-stand c = same_open c.args.opens.now _ c.reserve.ensures.same c.reserve-2.ensures.same c.reserve-3.ensures.same

pub returns-clause-ok : goal.returns-clause-ok
returns-clause-ok c =
    each_room c.reserve-3.result _ c.args.more.now c.as_slice.result.now c.as_slice-2.result.now c.as_slice-3.result.now
    c.as_slice.ensures.value c.as_slice-2.ensures.value c.as_slice-3.ensures.value c.in_ok-reserve.ensures.ok c.in_ok-reserve-2.ensures.ok c.reserve-3.ensures.ok
