-- The parts of an item: NAME, SITE, SITES, KEY, VALUE, COUNT and LEAVE, and the parts of a split.
use Rattle.std.specs.Prelude.{ℕ, ◌==◌, Bool, false, nat_le, nat_lt, List, [], ◌∷◌, ◌++◌, codes, bytes_eq, Option, Some, None, option_map, option_and_then, if◌then◌else◌}
use Rattle.e3_types.specs.Sets.{with_site}
use Rattle.e3_types.specs.declared.scenarios.Leave.{Leave}
use Rattle.e3_types.specs.declared.scenarios.Leave.TheVariants as leave
use Rattle.e3_types.specs.declared.transactions.Key.{Key}
-- NAME, VALUE, and digits
pub use Rattle.e3_report.specs.lines.Spelled.{name_of, value_of, is_digit, digits_from}
use Rattle.e3_scenario.specs.Words.{before, after, rest}
use Rattle.e3_report.specs.lines.Marks.{space, point, comma, bar, pieces}

-- the text begins with the digit 0
abbrev pub has_leading_zero : List ℕ → Bool
has_leading_zero [] = false
has_leading_zero (b ∷ text) = b == 48

-- a number from 1 to `most`, in digits without leading zeros
abbrev pub number_of : ℕ → List ℕ → Option ℕ
number_of most text =
    if has_leading_zero text then None
    else option_and_then (λ n. if nat_le 1 n then Some n else None) (digits_from most 0 text)

-- SITE: a number from 1 to 64
abbrev pub site_of : List ℕ → Option ℕ
site_of text = number_of 64 text

-- more sites of a set, each a SITE and above the one before it
abbrev pub sites_above : ℕ → List ℕ → List (List ℕ) → Option (List ℕ)
sites_above low sites [] = Some sites
sites_above low sites (piece ∷ more) =
    option_and_then (λ site. if nat_lt low site then sites_above site (with_site site sites) more else None) (site_of piece)

-- SITES: one or more SITE, strictly ascending, with commas
unfoldable pub sites_of : List ℕ → Option (List ℕ)
sites_of text = sites_above 0 [] (pieces comma text)

-- KEY: SITE, a point, NAME
abbrev pub key_of : List ℕ → Option Key
key_of text = key_with (site_of (before point text)) (option_and_then name_of (after point text))
  where
    key_with : Option ℕ → Option (List ℕ) → Option Key
    key_with (Some site) (Some name) = Some (record { site = site; name = name })
    key_with _ _ = None

-- COUNT: a number from 1 to 1,000,000
abbrev pub count_of : List ℕ → Option ℕ
count_of text = number_of 1000000 text

-- a number from 0 to 255 without leading zeros
abbrev pub byte_of : List ℕ → Option ℕ
byte_of text = if bytes_eq text (codes "0") then Some 0 else number_of 255 text

-- junk and a byte
abbrev pub junk_of : List ℕ → Option Leave
junk_of text = option_map leave.Junk (option_and_then byte_of (rest 1 text))

-- LEAVE: none, half, all, or junk and a byte
unfoldable pub leave_of : List ℕ → Option Leave
leave_of text =
    if bytes_eq text (codes "none") then Some leave.None
    else if bytes_eq text (codes "half") then Some leave.Half
    else if bytes_eq text (codes "all") then Some leave.All
    else if bytes_eq (before space text) (codes "junk") then junk_of text
    else None

-- more parts of the network, each a SITES
abbrev pub more_parts : List (List ℕ) → List (List ℕ) → Option (List (List ℕ))
more_parts parts [] = Some parts
more_parts parts (piece ∷ more) = option_and_then (λ sites. more_parts (parts ++ sites ∷ []) more) (sites_of piece)

-- SITES|SITES, with any number of parts
unfoldable pub parts_of : List ℕ → Option (List (List ℕ))
parts_of text = more_parts [] (pieces bar text)
