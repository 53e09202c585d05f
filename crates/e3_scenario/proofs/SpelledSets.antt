-- The sets of sites that an item was read with are sets, and not empty.
use Rattle.std.proofs.Common.{◌≡◌, ℕ, ◌+◌, ◌-◌, ◌*◌, Bool, true, false, ◌&&◌, nat_le, nat_lt, List, [], ◌∷◌, ◌++◌, filter, Option, Some, None, if◌then◌else◌, refl, sym, arith, subst}
use Rattle.std.specs.Prelude.{option_and_then, option_map}
use Rattle.std.specs.List.{list_all}
use Rattle.std.specs.Option.{option_or}
use Rattle.std.proofs.lemmas.Bool.{and_parts}
use Rattle.std.proofs.lemmas.Bool.Decides.{nat_tests}
use Rattle.std.proofs.lemmas.Grind.{common_steps}
use Rattle.std.proofs.lemmas.List.Folds.{list_all-append}
use Rattle.e3_types.specs.Sets.{ascends, is_set, with_site}
use Rattle.e3_types.specs.declared.scenarios.Item.{Item}
use Rattle.e3_types.specs.declared.scenarios.Item.TheVariants as item
use Rattle.e3_scenario.specs.Words.{before, after, rest, word}
use Rattle.e3_report.specs.lines.Marks.{space, comma, bar, pieces}
use Rattle.e3_scenario.specs.Parts.{digits_from, has_leading_zero, is_digit, site_of, sites_above, sites_of, more_parts, parts_of}
use Rattle.e3_scenario.specs.Items.{begin_of, read_of, write_of, commit_of, cancel_of, expire_of, elect_of, recover_of, split_of, merge_of, crash_of, restart_of, stop_of, transaction_item, site_item, item_by, item_of}
use Rattle.e3_scenario.proofs.Pieces.{pieces_cut, more_pieces}

-- a set of sites that is not empty
abbrev pub is_some_set : List ℕ → Bool
is_some_set [] = false
is_some_set (site ∷ sites) = is_set (site ∷ sites)

-- the sets that an item names are sets, and not empty
abbrev pub has_sets : Item → Bool
has_sets (item.Begin name site sites) = is_some_set sites
has_sets (item.Elect site name sites) = is_some_set sites
has_sets (item.Recover sites) = is_some_set sites
has_sets (item.Split parts) = list_all is_some_set parts
has_sets _ = true

-- what is there
pub there : {A B : Type 0} (o : Option A) (next : A → Option B) (y : B) → option_and_then next o ≡ Some y → (x : A) × (o ≡ Some x) × (next x ≡ Some y)
there None next y h = cc
there (Some x) next y h = (x, refl, h)

pub mapped : {A B : Type 0} (o : Option A) (made : A → B) (y : B) → option_map made o ≡ Some y → (x : A) × (o ≡ Some x) × (made x ≡ y)
mapped None made y h = cc
mapped (Some x) made y h = (x, refl, cc)

pub then_some : {A : Type 0} (c : Bool) (o : Option A) (y : A) → (if c then o else None) ≡ Some y → (c ≡ true) × (o ≡ Some y)
then_some true o y h = (refl, h)
then_some false o y h = cc

pub else_some : {A : Type 0} (c : Bool) (o : Option A) (y : A) → (if c then None else o) ≡ Some y → o ≡ Some y
else_some true o y h = cc
else_some false o y h = h

-- a number that is read is from 1 to the most
digits_few : (most n : ℕ) (text : List ℕ) (m : ℕ) → nat_le n most ≡ true → digits_from most n text ≡ Some m → nat_le m most ≡ true
digits_few most n [] m few h =
    let e : n ≡ m = cc in
    let Few : ℕ → Type 0 = λ q. nat_le q most ≡ true in
    subst Few e few
digits_few most n (b ∷ text) m few h =
    let (fits, more) = then_some (is_digit b && nat_le (n * 10 + (b - 48)) most) (digits_from most (n * 10 + (b - 48)) text) m h in
    let (digit, within) = and_parts (is_digit b) (nat_le (n * 10 + (b - 48)) most) fits in
    digits_few most (n * 10 + (b - 48)) text m within more

site_fits : (text : List ℕ) (site : ℕ) → site_of text ≡ Some site → (nat_le 1 site ≡ true) × (nat_le site 64 ≡ true)
site_fits text site h =
    let some = else_some (has_leading_zero text) (option_and_then (λ n. if nat_le 1 n then Some n else None) (digits_from 64 0 text)) site h in
    let (n, read, least) = there (digits_from 64 0 text) (λ n. if nat_le 1 n then Some n else None) site some in
    let (low, same) = then_some (nat_le 1 n) (Some n) site least in
    let e : n ≡ site = cc in
    let Fits : ℕ → Type 0 = λ q. (nat_le 1 q ≡ true) × (nat_le q 64 ≡ true) in
    subst Fits e (low, digits_few 64 0 text n refl read)

-- a site above all others goes to the end
keep_all : (sites : List ℕ) (site : ℕ) → list_all (λ x. nat_lt x site) sites ≡ true → filter (λ x. nat_lt x site) sites ≡ sites
keep_all [] site h = refl
keep_all (x ∷ sites) site h =
    let (here, more) = and_parts (nat_lt x site) (list_all (λ x. nat_lt x site) sites) h in
    rw (here, keep_all sites site more) refl

keep_none : (sites : List ℕ) (site : ℕ) → list_all (λ x. nat_lt x site) sites ≡ true → filter (λ x. nat_lt site x) sites ≡ []
keep_none [] site h = refl
keep_none (x ∷ sites) site h =
    let (here, more) = and_parts (nat_lt x site) (list_all (λ x. nat_lt x site) sites) h in
    let no : nat_lt site x ≡ false = grind (arith, nat_tests, here) in
    rw (no, keep_none sites site more) refl

at_end : (sites : List ℕ) (site : ℕ) → list_all (λ x. nat_lt x site) sites ≡ true → with_site site sites ≡ sites ++ site ∷ []
at_end sites site h = rw (keep_all sites site h, keep_none sites site h) refl

ascends_more : (low : ℕ) (sites : List ℕ) (site : ℕ) → ascends low sites ≡ true → list_all (λ x. nat_lt x site) sites ≡ true
    → nat_lt low site ≡ true → nat_le site 64 ≡ true → ascends low (sites ++ site ∷ []) ≡ true
ascends_more low [] site up below above few = rw (above, few) refl
ascends_more low (x ∷ sites) site up below above few =
    let (head, rest) = and_parts (nat_lt low x && nat_le x 64) (ascends x sites) up in
    let (here, more) = and_parts (nat_lt x site) (list_all (λ x. nat_lt x site) sites) below in
    rw (head, ascends_more x sites site rest more here few) refl

-- what lies below a number lies below a greater one
below_more : (sites : List ℕ) (low site : ℕ) → nat_lt low site ≡ true → list_all (λ x. nat_le x low) sites ≡ true → list_all (λ x. nat_lt x site) sites ≡ true
below_more [] low site up h = refl
below_more (x ∷ sites) low site up h =
    let (here, more) = and_parts (nat_le x low) (list_all (λ x. nat_le x low) sites) h in
    let less : nat_lt x site ≡ true = grind (arith, nat_tests, here, up) in
    rw (less, below_more sites low site up more) refl

below_at : (sites : List ℕ) (site : ℕ) → list_all (λ x. nat_lt x site) sites ≡ true → list_all (λ x. nat_le x site) sites ≡ true
below_at [] site h = refl
below_at (x ∷ sites) site h =
    let (here, more) = and_parts (nat_lt x site) (list_all (λ x. nat_lt x site) sites) h in
    let less : nat_le x site ≡ true = grind (arith, nat_tests, here) in
    rw (less, below_at sites site more) refl

at_most : (site : ℕ) → nat_le site site ≡ true
at_most site = grind (arith, nat_tests)

some_set : (sites : List ℕ) (site : ℕ) → is_set (sites ++ site ∷ []) ≡ true → is_some_set (sites ++ site ∷ []) ≡ true
some_set [] site h = h
some_set (x ∷ sites) site h = h

-- a set of sites up to this one
record IsSetTo (low : ℕ) (sites : List ℕ) : Type 0 where
  up : is_set sites ≡ true
  below : list_all (λ x. nat_le x low) sites ≡ true

set_more : (low : ℕ) (sites : List ℕ) (site : ℕ) → IsSetTo low sites → nat_lt low site ≡ true → nat_le 1 site ≡ true → nat_le site 64 ≡ true
    → (IsSetTo site (with_site site sites)) × (is_some_set (with_site site sites) ≡ true)
set_more low sites site is above some few =
    let below = below_more sites low site above is.below in
    let least : nat_lt 0 site ≡ true = grind (arith, nat_tests, some) in
    let up = ascends_more 0 sites site is.up below least few in
    let Is : List ℕ → Type 0 = λ q. (IsSetTo site q) × (is_some_set q ≡ true) in
    let made : IsSetTo site (sites ++ site ∷ []) = record {
      up = up;
      below = rw (list_all-append (λ x. nat_le x site) sites (site ∷ []), below_at sites site below, at_most site) refl;
    } in
    subst Is (sym (at_end sites site below)) (made, some_set sites site up)

above_set : (low : ℕ) (sites : List ℕ) (more : List (List ℕ)) (out : List ℕ) → IsSetTo low sites → is_some_set sites ≡ true
    → sites_above low sites more ≡ Some out → is_some_set out ≡ true
above_set low sites [] out is some h =
    let e : sites ≡ out = cc in
    let Is : List ℕ → Type 0 = λ q. is_some_set q ≡ true in
    subst Is e some
above_set low sites (piece ∷ more) out is some h =
    let (site, read, next) = there (site_of piece) (λ site. if nat_lt low site then sites_above site (with_site site sites) more else None) out h in
    let (above, left) = then_some (nat_lt low site) (sites_above site (with_site site sites) more) out next in
    let (least, few) = site_fits piece site read in
    let (made, one) = set_more low sites site is above least few in
    above_set site (with_site site sites) more out made one left

pub sites_set : (text out : List ℕ) → sites_of text ≡ Some out → is_some_set out ≡ true
unfolding sites_of
sites_set text out h =
    let Read : List (List ℕ) → Type 0 = λ q. sites_above 0 [] q ≡ Some out in
    let cut = subst Read (pieces_cut comma text) h in
    let (site, read, next) = there (site_of (before comma text)) (λ site. if nat_lt 0 site then sites_above site (with_site site []) (more_pieces comma (after comma text)) else None) out cut in
    let (above, left) = then_some (nat_lt 0 site) (sites_above site (with_site site []) (more_pieces comma (after comma text))) out next in
    let (least, few) = site_fits (before comma text) site read in
    let (made, one) = set_more 0 [] site (record { up = refl; below = refl }) above least few in
    above_set site (with_site site []) (more_pieces comma (after comma text)) out made one left

parts_set : (parts : List (List ℕ)) (more : List (List ℕ)) (out : List (List ℕ)) → list_all is_some_set parts ≡ true
    → more_parts parts more ≡ Some out → list_all is_some_set out ≡ true
parts_set parts [] out is h =
    let e : parts ≡ out = cc in
    let Are : List (List ℕ) → Type 0 = λ q. list_all is_some_set q ≡ true in
    subst Are e is
parts_set parts (piece ∷ more) out is h =
    let (sites, read, next) = there (sites_of piece) (λ sites. more_parts (parts ++ sites ∷ []) more) out h in
    parts_set (parts ++ sites ∷ []) more out (rw (list_all-append is_some_set parts (sites ∷ []), is, sites_set piece sites read) refl) next

-- the words of sites
word_set : (o : Option (List ℕ)) (out : List ℕ) → option_and_then sites_of o ≡ Some out → is_some_set out ≡ true
word_set o out h = let (text, is, read) = there o sites_of out h in sites_set text out read

begin_sets : (text : List ℕ) (i : Item) → begin_of text ≡ Some i → has_sets i ≡ true
unfolding begin_of
begin_sets text i h = let w = word_set (rest 3 text) in grind (arith, common_steps, h, w)

read_sets : (text : List ℕ) (i : Item) → read_of text ≡ Some i → has_sets i ≡ true
unfolding read_of
read_sets text i h = grind (arith, common_steps, h)

write_sets : (text : List ℕ) (i : Item) → write_of text ≡ Some i → has_sets i ≡ true
unfolding write_of
write_sets text i h = grind (arith, common_steps, h)

commit_sets : (text : List ℕ) (i : Item) → commit_of text ≡ Some i → has_sets i ≡ true
unfolding commit_of
commit_sets text i h = grind (arith, common_steps, h)

cancel_sets : (text : List ℕ) (i : Item) → cancel_of text ≡ Some i → has_sets i ≡ true
unfolding cancel_of
cancel_sets text i h = grind (arith, common_steps, h)

expire_sets : (text : List ℕ) (i : Item) → expire_of text ≡ Some i → has_sets i ≡ true
unfolding expire_of
expire_sets text i h = grind (arith, common_steps, h)

elect_sets : (text : List ℕ) (i : Item) → elect_of text ≡ Some i → has_sets i ≡ true
unfolding elect_of
elect_sets text i h = let w = word_set (rest 3 text) in grind (arith, common_steps, h, w)

recover_sets : (text : List ℕ) (i : Item) → recover_of text ≡ Some i → has_sets i ≡ true
unfolding recover_of
recover_sets text i h =
    let (sites, read, is) = mapped (option_and_then sites_of (rest 1 text)) item.Recover i h in
    let Has : Item → Type 0 = λ q. has_sets q ≡ true in
    subst Has is (word_set (rest 1 text) sites read)

split_sets : (text : List ℕ) (i : Item) → split_of text ≡ Some i → has_sets i ≡ true
unfolding split_of parts_of
split_sets text i h =
    let (parts, read, is) = mapped (option_and_then parts_of (rest 1 text)) item.Split i h in
    let (word, some, spelled) = there (rest 1 text) parts_of parts read in
    let Has : Item → Type 0 = λ q. has_sets q ≡ true in
    subst Has is (parts_set [] (pieces bar word) parts refl spelled)

merge_sets : (text : List ℕ) (i : Item) → merge_of text ≡ Some i → has_sets i ≡ true
unfolding merge_of
merge_sets text i h = grind (arith, common_steps, h)

crash_sets : (text : List ℕ) (i : Item) → crash_of text ≡ Some i → has_sets i ≡ true
unfolding crash_of
crash_sets text i h = grind (arith, common_steps, h)

restart_sets : (text : List ℕ) (i : Item) → restart_of text ≡ Some i → has_sets i ≡ true
unfolding restart_of
restart_sets text i h = grind (arith, common_steps, h)

stop_sets : (text : List ℕ) (i : Item) → stop_of text ≡ Some i → has_sets i ≡ true
unfolding stop_of
stop_sets text i h = grind (arith, common_steps, h)

-- of two that have a fact, whichever is taken has it
either_has : (c : Bool) (o p : Option Item) (i : Item) → (o ≡ Some i → has_sets i ≡ true) → (p ≡ Some i → has_sets i ≡ true)
    → (if c then o else p) ≡ Some i → has_sets i ≡ true
either_has true o p i a b h = a h
either_has false o p i a b h = b h

or_has : (o p : Option Item) (i : Item) → (o ≡ Some i → has_sets i ≡ true) → (p ≡ Some i → has_sets i ≡ true) → option_or o p ≡ Some i → has_sets i ≡ true
or_has None p i a b h = b h
or_has (Some x) p i a b h = a h

none_has : (i : Item) → None ≡ Some i → has_sets i ≡ true
none_has i h = cc

transaction_sets : (verb text : List ℕ) (i : Item) → transaction_item verb text ≡ Some i → has_sets i ≡ true
unfolding transaction_item
transaction_sets verb text i =
    either_has _ _ _ i (begin_sets text i)
    (either_has _ _ _ i (read_sets text i)
    (either_has _ _ _ i (write_sets text i)
    (either_has _ _ _ i (commit_sets text i)
    (either_has _ _ _ i (cancel_sets text i)
    (either_has _ _ _ i (expire_sets text i)
    (either_has _ _ _ i (elect_sets text i) (none_has i)))))))

site_sets : (verb text : List ℕ) (i : Item) → site_item verb text ≡ Some i → has_sets i ≡ true
unfolding site_item
site_sets verb text i =
    either_has _ _ _ i (recover_sets text i)
    (either_has _ _ _ i (merge_sets text i)
    (either_has _ _ _ i (crash_sets text i)
    (either_has _ _ _ i (restart_sets text i)
    (either_has _ _ _ i (stop_sets text i) (none_has i)))))

by_sets : (verb text : List ℕ) (i : Item) → item_by verb text ≡ Some i → has_sets i ≡ true
unfolding item_by
by_sets verb text i =
    either_has _ _ _ i (split_sets text i)
    (or_has (transaction_item verb text) (site_item verb text) i (transaction_sets verb text i) (site_sets verb text i))

-- the sets of an item that a text spells
pub item_sets : (text : List ℕ) (i : Item) → item_of text ≡ Some i → has_sets i ≡ true
unfolding item_of
item_sets text i = either_has _ _ _ i (by_sets (before space text) text i) (none_has i)
