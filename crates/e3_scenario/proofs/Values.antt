-- The values of an array, as the document has them and as the code goes over them.
use Rattle.std.proofs.Common.{◌≡◌, ℕ, suc, ◌+◌, ◌<◌, Bool, ◌&&◌, List, [], ◌∷◌, length, map, drop, get_or, String, Global, string_bytes, refl, ap}
use Rattle.std.proofs.lemmas.List.{drop_more}
use Rattle.std.proofs.lemmas.List.Folds.{list_all-map}
use Rattle.std.specs.List.{list_all}
use Rattle.toml.specs.declared.value.Value.{Value}
use Rattle.toml.specs.View.{view, items_of, members_view}
use Rattle.toml.specs.Data.{Data}
use Rattle.e3_scenario.specs.Documents.{is_known, keys_known, values_in}

-- the next value
pub next_value : (values : List Value) (i : ℕ) (value : Value) → i < length values → value ≡ get_or values i value
    → map view (drop i values) ≡ view value ∷ map view (drop (i + 1) values)
next_value values i value within is = rw (drop_more values i value within, ← is) refl

-- a test of each value
pub all_values : (test : Data → Bool) (values : List Value) → list_all test (map view values) ≡ list_all (λ value. test (view value)) values
all_values test values = list_all-map test view values

pub values_in_of : (values : List Data) → values_in (items_of values) ≡ values
values_in_of [] = refl
values_in_of (value ∷ values) = ap (λ vs. value ∷ vs) (values_in_of values)

pub values_in_view : (values : List Value) → values_in (items_of (map view values)) ≡ map view values
values_in_view values = values_in_of (map view values)

pub length_view : (values : List Value) → length (map view values) ≡ length values
length_view [] = refl
length_view (value ∷ values) = ap suc (length_view values)

pub keys_known_keys : (entries : List (String Global × Value)) → keys_known (members_view entries) ≡ list_all (λ (k : String Global). is_known (string_bytes k)) (map (λ e. e.0) entries)
keys_known_keys [] = refl
keys_known_keys (e ∷ entries) = ap (λ b. is_known (string_bytes e.0) && b) (keys_known_keys entries)
