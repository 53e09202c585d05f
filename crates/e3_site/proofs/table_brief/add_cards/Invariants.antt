use Rattle.std.proofs.Common.{◌≡◌, ◌++◌}
use Rattle.std.specs.List.{flat_map, AllByRecursion as Each}
use Rattle.e3_site.specs.TableBrief.{KeyFits, card_notes}
use Rattle.e3_site.proofs.table_brief.add_cards.Given as goal

-- the notes so far, and those of the cards that are left; where the keys of these fit, all do
abbrev pub invariant-loop-entry : goal.invariant-loop-entry
invariant-loop-entry l =
    (l.out ++ flat_map (card_notes l.txns.entries) l.entry-iterator ≡ l.initial.out ++ flat_map (card_notes l.txns.entries) l.cards.entries)
    × (Each (λ e. KeyFits e.0) l.entry-iterator → Each (λ e. KeyFits e.0) l.cards.entries)
