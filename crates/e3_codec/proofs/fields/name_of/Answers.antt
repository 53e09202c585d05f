use Rattle.std.proofs.Common.{◌≡◌, Bool, true, false, ℕ, List, Option, Some, None, IfSome, IfNone, ap, refl, if◌then◌else◌}
use Rattle.e3_types.specs.Text.{IsName}
use Rattle.e3_codec.specs.Reading.{is_name}
use Rattle.e3_codec.proofs.Records.{name_is, is_a_name}
use Rattle.e3_codec.proofs.fields.name_of.Goals as goal

named : (text : List ℕ) (o : Option (List ℕ)) → IfSome o (λ name. (name ≡ text) × IsName text) → IfNone o (IsName text → ⊥) →
    o ≡ (if is_name text then Some text else None)
named text (Some name) some none = rw (is_a_name text some.1) (ap Some some.0)
named text None some none = by (is_name text) refl
  where
    by : (b : Bool) → is_name text ≡ b → None ≡ (if is_name text then Some text else None)
    by true is = absurd (none (name_is text is))
    by false is = rw is refl

pub returns : goal.returns
returns c = named c.args.text.now c.new.result c.new.ensures.some c.new.ensures.none
