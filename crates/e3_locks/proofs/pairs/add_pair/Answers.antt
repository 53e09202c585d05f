-- the pair is there, or is put in its place
use Rattle.std.proofs.Common.{rules, ◌≡◌, ◌++◌, List, ℕ}
use Rattle.std.specs.List.{insert}
use Rattle.e3_types.specs.Sorted.{IsAt, IsGap}
use Rattle.e3_locks.specs.declared.pairs.Pair.{Pair}
use Rattle.e3_locks.specs.Pairs.{key_of, pair_key}
use Rattle.e3_locks.proofs.Pairing.{found_own, added_ascends, added_more, added_own}
use Rattle.e3_locks.proofs.pairs.add_pair.Goals as goal

pub returns-in-Ok-clause-there : goal.returns-in-Ok-clause-there
returns-in-Ok-clause-there c =
    let k : List ℕ = key_of c.args.txn.now ++ c.args.name.now in
    let a : IsAt pair_key k c.args.pairs.now.items c.in-Ok.field-0 = search rules in
    found_own c.args.pairs.now.items c.in-Ok.field-0 k a

pub returns-in-Err-clause-ascending : goal.returns-in-Err-clause-ascending
returns-in-Err-clause-ascending c =
    let y : Pair = record { txn = c.args.txn.now; name = c.args.name.now } in
    let e : c.insert.new.self.items ≡ insert c.args.pairs.now.items c.in-Err.at y = search rules in
    let a : IsGap pair_key (pair_key y) c.args.pairs.now.items c.in-Err.at = search rules in
    added_ascends c.args.pairs.now.items c.insert.new.self.items c.in-Err.at y a e c.requires.ascending

pub returns-in-Err-clause-more : goal.returns-in-Err-clause-more
returns-in-Err-clause-more c =
    let y : Pair = record { txn = c.args.txn.now; name = c.args.name.now } in
    let e : c.insert.new.self.items ≡ insert c.args.pairs.now.items c.in-Err.at y = search rules in
    let a : IsGap pair_key (pair_key y) c.args.pairs.now.items c.in-Err.at = search rules in
    added_more c.args.pairs.now.items c.insert.new.self.items c.in-Err.at y a e

pub returns-in-Err-clause-there : goal.returns-in-Err-clause-there
returns-in-Err-clause-there c =
    let y : Pair = record { txn = c.args.txn.now; name = c.args.name.now } in
    let e : c.insert.new.self.items ≡ insert c.args.pairs.now.items c.in-Err.at y = search rules in
    let a : IsGap pair_key (pair_key y) c.args.pairs.now.items c.in-Err.at = search rules in
    added_own c.args.pairs.now.items c.insert.new.self.items c.in-Err.at y a e
