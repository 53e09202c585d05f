-- The document of a scenario, and the values at its keys.
use Rattle.std.specs.Prelude.{ℕ, ◌-◌, ℤ, pos, negsuc, nat_le, Bool, true, false, ◌&&◌, ◌||◌, not, List, [], ◌∷◌, ◌++◌, length, codes, bytes_eq, Option, Some, None, option_map, option_and_then, is_some, if◌then◌else◌}
use Rattle.std.specs.List.{list_any, list_all}
use Rattle.std.specs.Option.{option_map_or}
use Rattle.std.specs.Str.{is_utf8}
use Rattle.toml.specs.Data.{Data, Items, no_items, item, Members, no_members, member, get_member, as_array, as_integer, as_str}
use Rattle.toml.specs.Parse.{parse_document}
use Rattle.e3_types.specs.Sets.{has_site}
use Rattle.e3_types.specs.declared.scenarios.KeyRow.{KeyRow}
use Rattle.e3_types.specs.declared.transactions.Key.{Key}
use Rattle.e3_scenario.specs.declared.documents.Kind.{Kind}
use Rattle.e3_scenario.specs.declared.documents.Kind.TheVariants as kind
use Rattle.e3_scenario.specs.declared.faults.Field.{Field}
use Rattle.e3_scenario.specs.declared.faults.Field.TheVariants as field
use Rattle.e3_scenario.specs.Parts.{key_of, value_of}
use Rattle.e3_scenario.specs.Words.{is_printable, before, after}
use Rattle.e3_report.specs.lines.Marks.{space}

-- the document that bytes spell: text in UTF-8, read by the grammar of TOML 1.1
abbrev pub document : List ℕ → Option Members
document bytes = if is_utf8 bytes then parse_document bytes else None

-- the key is one of the six
unfoldable pub is_known : List ℕ → Bool
is_known key =
    list_any (bytes_eq key) (codes "weights" ∷ codes "rows" ∷ codes "loss" ∷ codes "repeat" ∷ codes "luck" ∷ codes "steps" ∷ [])

-- each key of the document is one of the six
abbrev pub keys_known : Members → Bool
keys_known no_members = true
keys_known (member key value more) = is_known key && keys_known more

-- the items of an array, as a list
abbrev pub values_in : Items → List Data
values_in no_items = []
values_in (item value more) = value ∷ values_in more

-- the values of an array
abbrev pub values_of : Data → Option (List Data)
values_of value = option_map values_in (as_array value)

-- the value is an integer; it is a string
abbrev pub is_integer : Data → Bool
is_integer value = is_some (as_integer value)

abbrev pub is_text : Data → Bool
is_text value = is_some (as_str value)

-- the value is an array of strings
abbrev pub is_texts : Data → Bool
is_texts value = option_map_or (list_all is_text) (values_of value) false

-- the value is a string or an array of strings
abbrev pub is_step : Data → Bool
is_step value = is_text value || is_texts value

-- the value is of the kind
abbrev pub is_kind : Kind → Data → Bool
is_kind kind.Integer value = is_integer value
is_kind kind.Integers value = option_map_or (list_all is_integer) (values_of value) false
is_kind kind.Texts value = is_texts value
is_kind kind.Steps value = option_map_or (list_all is_step) (values_of value) false

-- the value at the key is of the kind; there may be none at a key that may be left out
abbrev pub has_kind : Members → List ℕ → Bool → Kind → Bool
has_kind members key optional wanted = option_map_or (is_kind wanted) (get_member key members) optional

-- the first field of another kind than its own
abbrev pub kind_fault : Members → Option Field
kind_fault members =
    if not (has_kind members (codes "weights") false kind.Integers) then Some field.Weights
    else if not (has_kind members (codes "rows") true kind.Texts) then Some field.Rows
    else if not (has_kind members (codes "loss") true kind.Integer) then Some field.Loss
    else if not (has_kind members (codes "repeat") true kind.Integer) then Some field.Repeat
    else if not (has_kind members (codes "luck") true kind.Integer) then Some field.Luck
    else if not (has_kind members (codes "steps") false kind.Steps) then Some field.Steps
    else None

-- a number, if it is from the first to the second of these
abbrev pub number_within : ℕ → ℕ → ℤ → Option ℕ
number_within least most (pos n) = if nat_le least n && nat_le n most then Some n else None
number_within least most (negsuc n) = None

-- a weight is a number from 1 to 1,000
abbrev pub weight_of : Data → Option ℕ
weight_of value = option_and_then (number_within 1 1000) (as_integer value)

-- more weights
abbrev pub more_weights : List ℕ → List Data → Option (List ℕ)
more_weights weights [] = Some weights
more_weights weights (value ∷ values) = option_and_then (λ w. more_weights (weights ++ w ∷ []) values) (weight_of value)

-- 1 to 16 weights
abbrev pub weights_of : List Data → Option (List ℕ)
weights_of values = if nat_le 1 (length values) && nat_le (length values) 16 then more_weights [] values else None

-- a row of this key and value, if the key is at one of these sites
abbrev pub row_with : List ℕ → Option Key → Option (List ℕ) → Option KeyRow
row_with all (Some key) (Some val) = if has_site all key.site then Some (record { key = key; val = val }) else None
row_with all _ _ = None

-- a row: a KEY at one of these sites, a space and a VALUE, in printable bytes
abbrev pub row_of : List ℕ → List ℕ → Option KeyRow
row_of all text =
    if list_all is_printable text then row_with all (key_of (before space text)) (option_and_then value_of (after space text)) else None

-- the row that a string spells
abbrev pub row_in : List ℕ → Data → Option KeyRow
row_in all value = option_and_then (row_of all) (as_str value)

-- more rows
abbrev pub more_rows : List ℕ → List KeyRow → List Data → Option (List KeyRow)
more_rows all rows [] = Some rows
more_rows all rows (value ∷ values) = option_and_then (λ row. more_rows all (rows ++ row ∷ []) values) (row_in all value)

-- a number from 0 to this, 0 where it is left out
abbrev pub number_at : ℕ → Members → List ℕ → Option ℕ
number_at most members key = by (get_member key members)
  where
    by : Option Data → Option ℕ
    by None = Some 0
    by (Some value) = option_and_then (number_within 0 most) (as_integer value)

-- a share of a hundred, 0 where it is left out
abbrev pub share_at : Members → List ℕ → Option ℕ
share_at members key = number_at 100 members key

-- the luck, 0 where it is left out
abbrev pub luck_at : Members → Option ℕ
luck_at members = number_at 9223372036854775807 members (codes "luck")

-- the values of an array; none where it is no array
abbrev pub values_or_none : Data → List Data
values_or_none value = option_map_or (λ values. values) (values_of value) []

-- the values of the array at a key
abbrev pub values_at : Members → List ℕ → List Data
values_at members key = option_map_or values_or_none (get_member key members) []

-- how many items a step has: a string is one
abbrev pub step_size : Data → ℕ
step_size value = option_map_or length (values_of value) 1

-- each step has 1 to 16 items, and all together no more than this number
abbrev pub sizes_fit : ℕ → List Data → Bool
sizes_fit room [] = true
sizes_fit room (value ∷ values) =
    nat_le 1 (step_size value) && nat_le (step_size value) 16 && nat_le (step_size value) room && sizes_fit (room - step_size value) values

-- at most 10,000 steps, with at most 10,000 items
abbrev pub steps_fit : List Data → Bool
steps_fit values = nat_le (length values) 10000 && sizes_fit 10000 values
