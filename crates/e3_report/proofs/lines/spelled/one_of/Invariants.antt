use Rattle.std.proofs.Common.{◌≡◌, drop}
use Rattle.e3_report.specs.lines.Spelled.{one_of}
use Rattle.e3_report.proofs.lines.spelled.one_of.Given as goal

abbrev pub invariant-loop-word : goal.invariant-loop-word
invariant-loop-word g l = one_of l.text (drop l.word-index l.words) ≡ one_of l.text l.words
