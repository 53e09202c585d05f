use Rattle.std.proofs.Common.{◌++◌, take}
use Rattle.std.specs.List.{flat_map}
use Rattle.e3_report.specs.lines.Texts.{line_end}
use Rattle.e3_report.specs.Pages.{Adds}
use Rattle.e3_report.proofs.lines.listed.push_marked_lines.Given as goal

abbrev pub invariant-loop-one : goal.invariant-loop-one
invariant-loop-one g l = Adds l.initial.page l.page (flat_map (λ one. l.mark ++ g.T.Marked.words one ++ line_end) (take l.one-index l.listed))
