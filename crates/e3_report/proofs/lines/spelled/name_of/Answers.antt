use Rattle.std.proofs.Common.{◌≡◌, ℕ, List, Option, Some, None, IfSome, IfNone, ap, ◌∙◌, sym}
use Rattle.e3_types.specs.Text.{IsName}
use Rattle.e3_report.specs.lines.Spelled.{name_of}
use Rattle.e3_report.proofs.lines.Names.{name_of-name, name_of-none}
use Rattle.e3_report.proofs.lines.spelled.name_of.Goals as goal

named : (text : List ℕ) (o : Option (List ℕ)) → IfSome o (λ name. (name ≡ text) × IsName text) → IfNone o (IsName text → ⊥) → o ≡ name_of text
named text None some none = sym (name_of-none text none)
named text (Some name) some none = ap Some some.0 ∙ sym (name_of-name text some.1)

pub returns : goal.returns
returns c = named c.args.text.now c.new.result c.new.ensures.some c.new.ensures.none
