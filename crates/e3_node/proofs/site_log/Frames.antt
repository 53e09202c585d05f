-- Frames of lists of records: one more list, and what they spell.
use Rattle.std.proofs.Common.{◌≡◌, ◌≢◌, ◌==◌, ◌+◌, ◌<◌, true, false, ◌++◌, ◌∷◌, [], ℕ, List, length, refl, sym, ap, ◌∙◌, append-nil, length-append, get_or, arith}
use Rattle.std.specs.List.{flat_map}
use Rattle.std.proofs.lemmas.Grind.{flat_map-append}
use Rattle.e3_node.specs.site_log.Bodies.{bodies_in, body_of, joined}
use Rattle.e3_types.specs.Spelling.{spell_record, spelling}
use Rattle.e3_types.specs.declared.records.Record.{Record}
use Rattle.e3_types.specs.declared.records.Record.TheVariants as log

pub bodies_push : (lists : List (List Record)) (rs : List Record) → bodies_in (lists ++ rs ∷ []) ≡ bodies_in lists ++ body_of rs
bodies_push lists rs =
    flat_map-append body_of lists (rs ∷ []) ∙ ap (λ (l : List (List ℕ)). bodies_in lists ++ l) (append-nil (body_of rs))

pub joined_push : (lists : List (List Record)) (rs : List Record) → joined (lists ++ rs ∷ []) ≡ joined lists ++ rs
joined_push lists rs = flat_map-append (λ l. l) lists (rs ∷ []) ∙ ap (λ (l : List Record). joined lists ++ l) (append-nil rs)

-- the bodies of frames, one after the other, are the spelling of their records
pub spells : (lists : List (List Record)) → flat_map (λ body. body) (bodies_in lists) ≡ spelling (joined lists)
spells [] = refl
spells (rs ∷ lists) = by rs (spells lists)
  where
    by : (records : List Record) → flat_map (λ body. body) (bodies_in lists) ≡ spelling (joined lists) →
        flat_map (λ body. body) (body_of records ++ bodies_in lists) ≡ spelling (records ++ joined lists)
    by [] rest = rest
    by (r ∷ rs) rest = ap (λ (l : List ℕ). spelling (r ∷ rs) ++ l) rest ∙ sym (flat_map-append spell_record (r ∷ rs) (joined lists))

-- a record has bytes
one_spelled : (r : Record) → 0 < length (spell_record r)
one_spelled (log.Birth format site weights rows) = omega arith
one_spelled (log.Inc inc) = omega arith
one_spelled (log.Vote t ops) = omega arith
one_spelled (log.Join t n) = omega arith
one_spelled (log.Attempt t n dir) = omega arith
one_spelled (log.Decision t dir) = omega arith

pub some_spelled : (records : List Record) (body : List ℕ) → body ≡ spelling records → records ≢ [] → 0 < length body
some_spelled [] body is some = absurd (some refl)
some_spelled (r ∷ rs) body is some =
    let one : 0 < length (spell_record r) = one_spelled r in
    let all : length (spell_record r ++ spelling rs) ≡ length (spell_record r) + length (spelling rs) = length-append (spell_record r) (spelling rs) in
    let same : length body ≡ length (spell_record r ++ spelling rs) = ap length is in
    omega (arith, one, all, same)

-- and no record begins with the byte of a turn
first_byte : (r : Record) (more : List ℕ) → get_or (spell_record r ++ more) 0 0 ≢ 7
first_byte (log.Birth format site weights rows) more = λ is. omega (arith, is)
first_byte (log.Inc inc) more = λ is. omega (arith, is)
first_byte (log.Vote t ops) more = λ is. omega (arith, is)
first_byte (log.Join t n) more = λ is. omega (arith, is)
first_byte (log.Attempt t n dir) more = λ is. omega (arith, is)
first_byte (log.Decision t dir) more = λ is. omega (arith, is)

pub untagged : (records : List Record) (body : List ℕ) → body ≡ spelling records → records ≢ [] → get_or body 0 0 ≢ 7
untagged [] body is some = absurd (some refl)
untagged (r ∷ rs) body is some = λ seven. first_byte r (spelling rs) (sym (ap (λ (l : List ℕ). get_or l 0 0) is) ∙ seven)

-- the bodies with that of some records
pub with_body : (bodies : List (List ℕ)) (records : List Record) (body : List ℕ) → body ≡ spelling records → records ≢ [] →
    bodies ++ body ∷ [] ≡ bodies ++ body_of records
with_body bodies [] body is some = absurd (some refl)
with_body bodies (r ∷ rs) body is some = ap (λ (b : List ℕ). bodies ++ b ∷ []) is

pub one_body : (records : List Record) (body : List ℕ) → body ≡ spelling records → records ≢ [] → body ∷ [] ≡ bodies_in (records ∷ [])
one_body records body is some = with_body [] records body is some ∙ sym (append-nil (body_of records))

-- a list that is not of length 0 is not empty
pub some_of : (records : List Record) → (length records == 0) ≡ false → records ≢ []
some_of [] is = λ none. absurd (let no : true ≡ false = is in cc)
some_of (r ∷ rs) is = λ none. cc
