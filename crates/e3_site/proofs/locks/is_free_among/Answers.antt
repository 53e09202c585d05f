use Rattle.std.proofs.Common.{ap, sym, not, ◌∙◌}
use Rattle.std.specs.List.{list_any}
use Rattle.e3_types.specs.declared.locks.Mode.{Mode}
use Rattle.e3_types.specs.declared.transactions.Key.{Key}
use Rattle.e3_types.specs.Locks.{opposes}
use Rattle.e3_world.specs.Logs.{vote_locks}
use Rattle.e3_site.proofs.Freedom.{lock_of, free_any}
use Rattle.e3_site.proofs.locks.is_free_among.Goals as goal

pub returns : goal.returns
returns c =
    let t = c.args.t.now in
    let o = c.args.o.now in
    let before = c.args.before.now in
    ap not (c.is_opposed.ensures
    ∙ ap (λ (m : Mode). list_any (λ r. list_any (opposes (record { txn = t; mode = m })) (vote_locks c.key_of.result.now.name before r)) before) c.mode_of.ensures
    ∙ ap (λ (k : Key). list_any (λ r. list_any (opposes (lock_of t o)) (vote_locks k.name before r)) before) c.key_of.ensures)
    ∙ sym (free_any t before o)
