use Rattle.std.proofs.Common.{◌≡◌, fold, map}
use Rattle.e3_places.specs.declared.keys.TxnId.{TxnId}
use Rattle.e3_places.specs.Keeping.{put_txn, claims_at, at_key, HasEach}
use Rattle.e3_places.proofs.changing.put_txns.Given as goal

abbrev pub invariant-loop-change : goal.invariant-loop-change
invariant-loop-change l = record {
  right : (k : TxnId) → claims_at l.txns.entries k ≡ fold (put_txn k) (claims_at l.initial.txns.entries k) l.yielded;
  room : HasEach at_key l.txns.entries (map (λ c. c.key) l.change-iterator.rest.items);
}
