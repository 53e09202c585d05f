-- the locks of each name behind the request, and its pair
use Rattle.std.proofs.Common.{rules, ◌≡◌, ◌∙◌, ap, sym, subst, List, ℕ}
use Rattle.e3_types.specs.declared.locks.Grant.{Grant}
use Rattle.e3_types.specs.declared.locks.Lock.{Lock}
use Rattle.e3_locks.specs.declared.pairs.Pair.{Pair}
use Rattle.e3_locks.specs.LockLists.{LockLists, place}
use Rattle.e3_locks.specs.Pairs.{IsIndex}
use Rattle.e3_locks.specs.Places.{would}
use Rattle.e3_locks.specs.Replays.{with_request}
use Rattle.e3_locks.specs.Standing.{Standing, place_in}
use Rattle.e3_locks.proofs.Pairing.{index_requested}
use Rattle.e3_locks.proofs.Tables.{place_is, request_in}
use Rattle.e3_locks.proofs.table.LockTableLocks.request.Goals as goal

pub invariant_of-self-2 : goal.invariant_of-self-2
invariant_of-self-2 c =
    let items : List Standing = c.self.inside.places.items in
    let new : List Standing = c.request_on.new.places.items in
    let w : Lock = record { txn = c.args.txn; mode = c.args.mode } in
    let kept : c.reserve.new.self.items ≡ c.self.inside.pairs.items = search rules in
    let index : IsIndex items c.reserve.new.self.items = subst (λ (l : List Pair). IsIndex items l) (sym kept) c.self.invariant.2 in (
      c.request_on.ensures.table,
      c.request_on.ensures.spare,
      index_requested items new c.reserve.new.self.items c.add_put.new.pairs.items c.args.name.now w c.in_ok-grant.grant c.found_by_bits.ensures c.in_ok-grant.ensures.grant
          c.in_ok-grant.ensures.ok c.add_put.ensures.ascending c.add_put.ensures.more c.add_put.ensures.there index,
    )

pub returns-clause-grant : goal.returns-clause-grant
returns-clause-grant c =
    let items : List Standing = c.self.inside.places.items in
    let n : List ℕ = c.args.name.now in
    let w : Lock = record { txn = c.args.txn; mode = c.args.mode } in
    let e : place_in n items ≡ place n c.args.self.now = sym (place_is n items 0 c.self.invariant.0.ascending) ∙ ap (λ (v : LockLists). place n v) c.self.view_is in
    c.in_ok-grant.ensures.grant ∙ ap (would w) e

pub returns-clause-ok : goal.returns-clause-ok
returns-clause-ok c = λ m.
    let items : List Standing = c.self.inside.places.items in
    let new : List Standing = c.request_on.new.places.items in
    let n : List ℕ = c.args.name.now in
    let w : Lock = record { txn = c.args.txn; mode = c.args.mode } in
    let g : Grant = c.in_ok-grant.grant in
    request_in items new n w g 0 0 c.self.invariant.0.ascending c.request_on.ensures.table.ascending c.in_ok-grant.ensures.ok m
    ∙ ap (λ (v : LockLists). with_request n w g (λ k. place k v) m) c.self.view_is
