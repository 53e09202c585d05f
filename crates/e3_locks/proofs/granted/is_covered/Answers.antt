-- the test of the locks on a name is that of all locks that are on it
use Rattle.std.proofs.Common.{◌∙◌, sym}
use Rattle.std.specs.Prelude.{◌&&◌}
use Rattle.e3_types.specs.Locks.{covers}
use Rattle.e3_types.specs.Same.{same_txn}
use Rattle.e3_locks.proofs.Claims.{any_on}
use Rattle.e3_locks.proofs.granted.is_covered.Goals as goal

pub returns : goal.returns
returns c = c.any_covers.ensures ∙ sym (any_on (λ l. same_txn l.txn c.args.wanted.now.txn && covers l.mode c.args.wanted.now.mode) c.args.name.now c.args.locks.now)
