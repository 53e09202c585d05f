-- Bytes are read as a name where they are one.
use Rattle.std.proofs.Common.{◌≡◌, ℕ, Bool, true, false, ◌&&◌, nat_le, List, length, Some, None, refl, le-leb, if◌then◌else◌}
use Rattle.std.specs.List.{list_all}
use Rattle.std.proofs.lemmas.Bool.{and_parts, leb-true}
use Rattle.std.proofs.lemmas.List.Sums.{AllPass-from_list_all, list_all-from_AllPass}
use Rattle.e3_types.specs.Text.{IsName, is_letter}
use Rattle.e3_report.specs.lines.Spelled.{name_of}

pub name_of-name : (text : List ℕ) → IsName text → name_of text ≡ Some text
name_of-name text is = rw (le-leb 1 (length text) is.some, le-leb (length text) 32 is.few, list_all-from_AllPass is_letter text is.letters) refl

pub name_of-none : (text : List ℕ) → (IsName text → ⊥) → name_of text ≡ None
name_of-none text isnt = by (nat_le 1 (length text) && nat_le (length text) 32 && list_all is_letter text) refl
  where
    by : (b : Bool) → (nat_le 1 (length text) && nat_le (length text) 32 && list_all is_letter text) ≡ b → (if b then Some text else None) ≡ None
    by true is =
        let (lengths, letters) = and_parts (nat_le 1 (length text) && nat_le (length text) 32) (list_all is_letter text) is in
        let (some, few) = and_parts (nat_le 1 (length text)) (nat_le (length text) 32) lengths in
        absurd (isnt (record { some = leb-true _ _ some; few = leb-true _ _ few; letters = AllPass-from_list_all is_letter text letters }))
    by false is = refl
