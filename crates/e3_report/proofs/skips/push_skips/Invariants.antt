use Rattle.std.proofs.Common.{◌≡◌, ◌++◌, [], drop, true}
use Rattle.e3_report.specs.Names.{meant}
use Rattle.e3_report.specs.Skips.{skip_lines}
use Rattle.e3_report.specs.Ups.{up_in}
use Rattle.e3_report.proofs.skips.push_skips.Given as goal

abbrev pub invariant-loop-item : goal.invariant-loop-item
invariant-loop-item l = l.page.is_whole ≡ true → (l.initial.page.is_whole ≡ true)
    × (l.page.text ++ skip_lines (meant l.known.names) (up_in l.known.ups.keys) l.during l.earlier (drop l.item-index l.items)
    ≡ l.initial.page.text ++ skip_lines (meant l.known.names) (up_in l.known.ups.keys) l.during [] l.items)
