use Rattle.std.proofs.Common.{◌≡◌, fold}
use Rattle.e3_types.specs.declared.transactions.Txn.{Txn}
use Rattle.e3_world.specs.Transactions.{IsFoundByBits}
use Rattle.e3_cards.specs.Tables.{put, card_at, HasRoom}
use Rattle.e3_cards.proofs.changing.put_all.Given as goal

abbrev pub invariant-loop-change : goal.invariant-loop-change
invariant-loop-change l = record {
  right : (t : Txn) → IsFoundByBits t → card_at l.map.entries t ≡ fold (put t) (card_at l.initial.map.entries t) l.yielded;
  room : HasRoom l.map.entries l.change-iterator.rest.items;
}
