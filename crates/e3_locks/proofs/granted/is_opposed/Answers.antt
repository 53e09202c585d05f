-- the test of the locks on a name is that of all locks that are on it
use Rattle.std.proofs.Common.{◌∙◌, sym}
use Rattle.e3_types.specs.Locks.{opposes}
use Rattle.e3_locks.proofs.Claims.{any_on}
use Rattle.e3_locks.proofs.granted.is_opposed.Goals as goal

pub returns : goal.returns
returns c = c.any_opposed.ensures ∙ sym (any_on (opposes c.args.wanted.now) c.args.name.now c.args.locks.now)
