use Rattle.std.proofs.Common.{append-nil, sym}
use Rattle.e3_site.proofs.past.opening.add_known.Goals as goal

pub returns-in-Some : goal.returns-in-Some
returns-in-Some g c = rw c.in-Some.ensures c.add_one.ensures

pub returns-in-None : goal.returns-in-None
returns-in-None g c = rw c.in-None.ensures (λ a cards. sym (append-nil c.args.out.now.items))
