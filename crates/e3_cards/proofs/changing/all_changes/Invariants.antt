use Rattle.std.proofs.Common.{◌≡◌, take, map}
use Rattle.e3_cards.specs.Tables.{call_now, change_of}
use Rattle.e3_cards.proofs.changing.all_changes.Given as goal

abbrev pub invariant-loop-t : goal.invariant-loop-t
invariant-loop-t l = l.out ≡ map (change_of l.cards.site (call_now l.cards) l.cards.map.entries l.step) (take l.t-index l.t-items)
