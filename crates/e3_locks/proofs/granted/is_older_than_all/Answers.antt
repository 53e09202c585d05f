-- the test of the locks on a name is that of all locks that are on it
use Rattle.std.proofs.Common.{◌∙◌, sym, ap, ◌++◌, List, Bool}
use Rattle.std.specs.Prelude.{◌||◌, not}
use Rattle.std.specs.List.{list_all}
use Rattle.e3_types.specs.declared.locks.Lock.{Lock}
use Rattle.e3_types.specs.Locks.{opposes}
use Rattle.e3_types.specs.Same.{is_older}
use Rattle.e3_locks.proofs.Claims.{all_on, on_append}
use Rattle.e3_locks.proofs.granted.is_older_than_all.Goals as goal

pub returns : goal.returns
returns c =
    let p : Lock → Bool = λ l. not (opposes c.args.wanted.now l) || is_older c.args.wanted.now.txn l.txn in
    c.all_let_wait.ensures ∙ sym (all_on p c.args.name.now (c.args.held.now ++ c.args.queue.now))
    ∙ ap (λ (l : List Lock). list_all p l) (on_append c.args.name.now c.args.held.now c.args.queue.now)
