-- Each part of a record, and the records, are formats.
use Rattle.std.proofs.Common.{◌≡◌, ◌&&◌, ℕ, zero, suc, ◌^◌, ◌<◌, true, List, [], ◌∷◌, ◌++◌, length, Some, None, refl, sym, ap, subst, ◌∙◌, arith, nat_le, le-leb}
use Rattle.std.specs.Int.{w16, w64}
use Rattle.std.specs.List.{list_all}
use Rattle.std.specs.Prelude.{Result, Ok, Err, IfOk, IsErrOf}
use Rattle.std.proofs.lemmas.List.{length-append, append-nil}
use Rattle.e3_codec.specs.declared.faults.Fault.{Fault}
use Rattle.e3_codec.specs.declared.faults.Fault.TheVariants.{Bad, NoMemory}
use Rattle.e3_codec.specs.Claims.{SpellingsAreRead, OnePlace}
use Rattle.e3_codec.specs.Places.{NoRecord}
use Rattle.std.proofs.lemmas.Bool.{and_parts, leb-true}
use Rattle.std.proofs.lemmas.List.Sums.{AllPass-from_list_all, list_all-from_AllPass}
use Rattle.e3_types.specs.declared.transactions.Dir.{Dir}
use Rattle.e3_types.specs.declared.transactions.Dir.TheVariants.{Abort, Commit}
use Rattle.e3_types.specs.declared.transactions.NumOp.{NumOp}
use Rattle.e3_types.specs.declared.transactions.Op.{Op}
use Rattle.e3_types.specs.declared.transactions.Op.TheVariants.{Read, Write}
use Rattle.e3_types.specs.declared.records.Record.{Record}
use Rattle.e3_types.specs.declared.transactions.Row.{Row}
use Rattle.e3_types.specs.declared.transactions.Txn.{Txn}
use Rattle.e3_types.specs.declared.records.Record.TheVariants as log
use Rattle.e3_types.specs.SetBits.{bits_back}
use Rattle.e3_types.specs.Sites.{sites_of, bits_of}
use Rattle.e3_types.specs.Spelling.{high_first, u8, u16, u32, spell_name, spell_val, spell_txn, spell_dir, spell_op, spell_row, spell_list, spell_record, spelling}
use Rattle.e3_types.specs.Text.{IsName, IsValue, is_letter}
use Rattle.e3_types.specs.Transactions.{is_txn}
use Rattle.e3_codec.specs.Fields.{IsShort, ListFits, SetFits, TxnNumbersFit, TxnFits, RowFits, OpFits, NumOpFits, CanBeReadBack, AllCanBeReadBack}
use Rattle.e3_codec.specs.Reader.{Reader, Gives, pair_at, mapped_at, number_at, byte_at}
use Rattle.e3_codec.specs.Reading.{u32_at, txn_from, txn_at, dir_of, dir_at, is_name, name_at, is_value, val_at, row_from, row_at, read_from, write_from, kind_at, op_at, num_op_from, num_op_at, birth_at, vote_at, join_at, attempt_at, decision_at, body_at, record_at}
use Rattle.e3_codec.specs.Format.{IsBytes, Takes, IsFormat}
use Rattle.e3_codec.proofs.Formats.{list_free, IsBytes-rest, pair_format, mapped_format, refit, respell, tested_format, counted_format, list_format, u16_format, u32_format, u64_format, byte_format, bind_some, some_is}

-- sets of sites, as eight bytes
sites_there : (sites : List ℕ) → SetFits sites → sites_of (bits_of sites) ≡ sites
sites_there sites fits =
    ap (λ (l : List ℕ). sites_of (bits_of l)) fits.2 ∙ ap sites_of (bits_back fits.0 fits.1) ∙ sym fits.2

sites_few : (sites : List ℕ) → SetFits sites → bits_of sites < 2 ^ 64
sites_few sites fits = let same : bits_of sites ≡ fits.0 = ap bits_of fits.2 ∙ bits_back fits.0 fits.1 in omega (arith, same, fits.1)

abbrev txn_to : Txn → ℕ × (ℕ × (ℕ × ℕ))
txn_to t = (t.site, (t.inc, (t.seq, bits_of t.sites)))

abbrev Numbers : ℕ × (ℕ × (ℕ × ℕ)) → Type 0
Numbers p = IsShort p.0 × (IsShort p.1.0 × (IsShort p.1.1.0 × (p.1.1.1 < 2 ^ 64)))

numbers_format : IsFormat (λ (p : ℕ × (ℕ × (ℕ × ℕ))). u32 p.0 ++ (u32 p.1.0 ++ (u32 p.1.1.0 ++ high_first 8 p.1.1.1))) Numbers (pair_at u32_at (pair_at u32_at (pair_at u32_at (number_at w64))))
numbers_format = pair_format _ _ _ _ _ _ u32_format (pair_format _ _ _ _ _ _ u32_format (pair_format _ _ _ _ _ _ u32_format u64_format))

pub numbered_format : IsFormat spell_txn TxnNumbersFit (mapped_at txn_from (pair_at u32_at (pair_at u32_at (pair_at u32_at (number_at w64)))))
numbered_format = mapped_format txn_from txn_to _ Numbers TxnNumbersFit _
    (λ p few. ap (λ (bits : ℕ). (p.0, (p.1.0, (p.1.1.0, bits)))) (bits_back p.1.1.1 few.1.1.1))
    (λ t fits. ap (λ (sites : List ℕ). record t { sites = sites }) (sites_there t.sites fits.sites))
    (λ p few. record { site = few.0; inc = few.1.0; seq = few.1.1.0; sites = (p.1.1.1, few.1.1.1, refl) })
    (λ t fits. (fits.site, (fits.inc, (fits.seq, sites_few t.sites fits.sites)))) numbers_format

pub txn_format : IsFormat spell_txn TxnFits txn_at
unfolding txn_at
txn_format = refit spell_txn (λ t. TxnNumbersFit t × (is_txn t ≡ true)) TxnFits _
    (λ t fits. record { site = fits.0.site; inc = fits.0.inc; seq = fits.0.seq; sites = fits.0.sites; is_one = fits.1 })
    (λ t fits. (record { site = fits.site; inc = fits.inc; seq = fits.seq; sites = fits.sites }, fits.is_one))
    (tested_format is_txn spell_txn TxnNumbersFit _ numbered_format)

-- directions
dir_takes : (bytes : List ℕ) (d : Dir) (rest : List ℕ) → IsBytes bytes → dir_at bytes ≡ Some (d, rest) → Takes bytes (spell_dir d) rest × Unit {0}
unfolding dir_at dir_of byte_at
dir_takes [] d rest fits e = absurd cc
dir_takes (zero ∷ bytes) d rest fits e =
    subst (λ (y : Dir × List ℕ). Takes (0 ∷ bytes) (spell_dir y.0) y.1 × Unit {0}) (some_is {A = Dir × List ℕ} (Abort, bytes) (d, rest) e) (record { parts = refl; rest_fits = IsBytes-rest 0 bytes fits }, tt)
dir_takes (suc zero ∷ bytes) d rest fits e =
    subst (λ (y : Dir × List ℕ). Takes (1 ∷ bytes) (spell_dir y.0) y.1 × Unit {0}) (some_is {A = Dir × List ℕ} (Commit, bytes) (d, rest) e) (record { parts = refl; rest_fits = IsBytes-rest 1 bytes fits }, tt)
dir_takes (suc (suc b) ∷ bytes) d rest fits e = absurd cc

dir_again : (d : Dir) (rest : List ℕ) → Unit {0} → dir_at (spell_dir d ++ rest) ≡ Some (d, rest)
unfolding dir_at dir_of byte_at
dir_again Abort rest fits = refl
dir_again Commit rest fits = refl

pub dir_format : IsFormat spell_dir (λ d. Unit {0}) dir_at
dir_format = record { takes = λ bytes d rest fits e. dir_takes bytes d rest fits e; again = λ d rest fits. dir_again d rest fits }

-- names and values
pub name_is : (bytes : List ℕ) → is_name bytes ≡ true → IsName bytes
name_is bytes is =
    let (lengths, letters) = and_parts (nat_le 1 (length bytes) && nat_le (length bytes) 32) (list_all is_letter bytes) is in
    let (some, few) = and_parts (nat_le 1 (length bytes)) (nat_le (length bytes) 32) lengths in
    record { some = leb-true _ _ some; few = leb-true _ _ few; letters = AllPass-from_list_all is_letter bytes letters }

pub is_a_name : (bytes : List ℕ) → IsName bytes → is_name bytes ≡ true
is_a_name bytes is = rw (le-leb 1 (length bytes) is.some, le-leb (length bytes) 32 is.few, list_all-from_AllPass is_letter bytes is.letters) refl

name_format : IsFormat spell_name IsName name_at
unfolding name_at
name_format = refit spell_name (λ t. (length t < 256) × (is_name t ≡ true)) IsName _
    (λ t fits. name_is t fits.1)
    (λ t is. (omega (arith, is.few), is_a_name t is))
    (tested_format is_name spell_name _ _ (counted_format u8 256 byte_at byte_format))

val_format : IsFormat spell_val IsValue val_at
unfolding val_at
val_format = refit spell_val (λ t. (length t < 2 ^ 16) × (is_value t ≡ true)) IsValue _
    (λ t fits. leb-true (length t) 256 fits.1)
    (λ t is. (omega (arith, is), le-leb (length t) 256 is))
    (tested_format is_value spell_val _ _ (counted_format u16 (2 ^ 16) (number_at w16) u16_format))

-- rows
row_format : IsFormat spell_row RowFits row_at
unfolding row_at
row_format = mapped_format row_from (λ (row : Row). (row.name, row.val)) _ (λ (p : List ℕ × List ℕ). IsName p.0 × IsValue p.1) RowFits _
    (λ p fits. refl) (λ row fits. refl) (λ p fits. fits) (λ row fits. fits)
    (pair_format _ _ _ _ _ _ name_format val_format)

-- operations
abbrev spell_kind : Op → List ℕ
spell_kind (Read key) = u8 0 ++ spell_name key.name
spell_kind (Write key val) = u8 1 ++ spell_name key.name ++ spell_val val

-- a kind behind its code
module _ {A : Type 0} (to : A → Op) (code : ℕ) (s : A → List ℕ) (f : A → Type 0) (r : Reader A) (site : ℕ) (one : IsFormat s f r)
    (spelled : (a : A) → spell_kind (to a) ≡ code ∷ s a) (fitting : (a : A) → f a → OpFits site (to a)) where
  op_kind : (bytes : List ℕ) (x : Op) (rest : List ℕ) → IsBytes (code ∷ bytes) → mapped_at to r bytes ≡ Some (x, rest) → Takes (code ∷ bytes) (spell_kind x) rest × OpFits site x
  op_kind bytes x rest fits e =
      let a = bind_some (r bytes) (λ v. Some (to v.0, v.1)) (x, rest) e in
      let t = one.takes bytes a.0.0 a.0.1 (IsBytes-rest code bytes fits) a.1 in
      let made : Op × List ℕ = (to a.0.0, a.0.1) in
      subst (λ (y : Op × List ℕ). Takes (code ∷ bytes) (spell_kind y.0) y.1 × OpFits site y.0) (some_is made (x, rest) a.2)
      (record { parts = ap (λ (l : List ℕ). code ∷ l) t.0.parts ∙ ap (λ (l : List ℕ). l ++ a.0.1) (sym (spelled a.0.0)); rest_fits = t.0.rest_fits }, fitting a.0.0 t.1)

written_format : IsFormat (λ (p : List ℕ × List ℕ). spell_name p.0 ++ spell_val p.1) (λ p. IsName p.0 × IsValue p.1) (pair_at name_at val_at)
written_format = pair_format _ _ _ _ _ _ name_format val_format

op_takes : (site : ℕ) (bytes : List ℕ) (x : Op) (rest : List ℕ) → IsBytes bytes → op_at site bytes ≡ Some (x, rest) → Takes bytes (spell_kind x) rest × OpFits site x
unfolding op_at kind_at byte_at
op_takes site [] x rest fits e = absurd cc
op_takes site (zero ∷ bytes) x rest fits e = op_kind (read_from site) 0 _ _ _ site name_format (λ a. refl) (λ a is. (refl, is)) bytes x rest fits e
op_takes site (suc zero ∷ bytes) x rest fits e = op_kind (write_from site) 1 _ _ _ site written_format (λ a. refl) (λ a is. (refl, is)) bytes x rest fits e
op_takes site (suc (suc b) ∷ bytes) x rest fits e = absurd cc

op_again : (site : ℕ) (x : Op) (rest : List ℕ) → OpFits site x → op_at site (spell_kind x ++ rest) ≡ Some (x, rest)
unfolding op_at kind_at byte_at
op_again site (Read key) rest fits =
    rw (name_format.again key.name rest fits.1) (ap (λ (s : ℕ). Some (Read (record { site = s; name = key.name }), rest)) (sym fits.0))
op_again site (Write key val) rest fits =
    rw (written_format.again (key.name, val) rest fits.1) (ap (λ (s : ℕ). Some (Write (record { site = s; name = key.name }) val, rest)) (sym fits.0))

op_format : (site : ℕ) → IsFormat spell_kind (OpFits site) (op_at site)
op_format site = record { takes = λ bytes x rest fits e. op_takes site bytes x rest fits e; again = λ x rest fits. op_again site x rest fits }

num_op_spelled : (o : NumOp) → (u32 o.n ++ spell_kind o.op) ≡ spell_op o
num_op_spelled o = by o.op
  where
    by : (op : Op) → (u32 o.n ++ spell_kind op) ≡ spell_op (record { n = o.n; op = op })
    by (Read key) = refl
    by (Write key val) = refl

pub num_op_format : (site : ℕ) → IsFormat spell_op (NumOpFits site) (num_op_at site)
unfolding num_op_at
num_op_format site = respell (λ (o : NumOp). u32 o.n ++ spell_kind o.op) spell_op (NumOpFits site) _ (λ o fits. num_op_spelled o)
    (mapped_format num_op_from (λ (o : NumOp). (o.n, o.op)) _ (λ (p : ℕ × Op). IsShort p.0 × OpFits site p.1) (NumOpFits site) _
    (λ p fits. refl) (λ o fits. refl) (λ p fits. fits) (λ o fits. fits)
    (pair_format _ _ _ _ _ _ u32_format (op_format site)))

-- the fields of each kind of record
pub birth_format : IsFormat (λ (p : ℕ × (ℕ × (List ℕ × List Row))). u32 p.0 ++ (u32 p.1.0 ++ (spell_list u32 p.1.1.0 ++ spell_list spell_row p.1.1.1)))
    (λ p. IsShort p.0 × (IsShort p.1.0 × (ListFits IsShort p.1.1.0 × ListFits RowFits p.1.1.1))) birth_at
birth_format = pair_format _ _ _ _ _ _ u32_format (pair_format _ _ _ _ _ _ u32_format
    (pair_format _ _ _ _ _ _ (list_format u32 IsShort u32_at u32_format) (list_format spell_row RowFits row_at row_format)))

vote_format : (site : ℕ) → IsFormat (λ (p : Txn × List NumOp). spell_txn p.0 ++ spell_list spell_op p.1) (λ p. TxnFits p.0 × ListFits (NumOpFits site) p.1) (vote_at site)
vote_format site = pair_format _ _ _ _ _ _ txn_format (list_format spell_op (NumOpFits site) (num_op_at site) (num_op_format site))

join_format : IsFormat (λ (p : Txn × ℕ). spell_txn p.0 ++ u32 p.1) (λ p. TxnFits p.0 × IsShort p.1) join_at
join_format = pair_format _ _ _ _ _ _ txn_format u32_format

attempt_format : IsFormat (λ (p : Txn × (ℕ × Dir)). spell_txn p.0 ++ (u32 p.1.0 ++ spell_dir p.1.1)) (λ p. TxnFits p.0 × (IsShort p.1.0 × Unit {0})) attempt_at
attempt_format = pair_format _ _ _ _ _ _ txn_format (pair_format _ _ _ _ _ _ u32_format dir_format)

decision_format : IsFormat (λ (p : Txn × Dir). spell_txn p.0 ++ spell_dir p.1) (λ p. TxnFits p.0 × Unit {0}) decision_at
decision_format = pair_format _ _ _ _ _ _ txn_format dir_format

-- a body behind its tag
module _ {A : Type 0} (to : A → Record) (tag : ℕ) (s : A → List ℕ) (f : A → Type 0) (r : Reader A) (site : ℕ) (one : IsFormat s f r)
    (spelled : (a : A) → spell_record (to a) ≡ tag ∷ s a) (fitting : (a : A) → f a → CanBeReadBack site (to a)) where
  kind_takes : (bytes : List ℕ) (x : Record) (rest : List ℕ) → IsBytes (tag ∷ bytes) → mapped_at to r bytes ≡ Some (x, rest) → Takes (tag ∷ bytes) (spell_record x) rest × CanBeReadBack site x
  kind_takes bytes x rest fits e =
      let a = bind_some (r bytes) (λ v. Some (to v.0, v.1)) (x, rest) e in
      let t = one.takes bytes a.0.0 a.0.1 (IsBytes-rest tag bytes fits) a.1 in
      let made : Record × List ℕ = (to a.0.0, a.0.1) in
      subst (λ (y : Record × List ℕ). Takes (tag ∷ bytes) (spell_record y.0) y.1 × CanBeReadBack site y.0) (some_is made (x, rest) a.2)
      (record { parts = ap (λ (l : List ℕ). tag ∷ l) t.0.parts ∙ ap (λ (l : List ℕ). l ++ a.0.1) (sym (spelled a.0.0)); rest_fits = t.0.rest_fits }, fitting a.0.0 t.1)

record_takes : (site : ℕ) (bytes : List ℕ) (x : Record) (rest : List ℕ) → IsBytes bytes → record_at site bytes ≡ Some (x, rest) → Takes bytes (spell_record x) rest × CanBeReadBack site x
unfolding record_at body_at byte_at
record_takes site [] x rest fits e = absurd cc
record_takes site (zero ∷ bytes) x rest fits e = absurd cc
record_takes site (suc zero ∷ bytes) x rest fits e = kind_takes (λ p. log.Birth p.0 p.1.0 p.1.1.0 p.1.1.1) 1 _ _ _ site birth_format (λ a. refl) (λ a h. h) bytes x rest fits e
record_takes site (suc (suc zero) ∷ bytes) x rest fits e = kind_takes (λ n. log.Inc n) 2 _ _ _ site u32_format (λ a. refl) (λ a h. h) bytes x rest fits e
record_takes site (suc (suc (suc zero)) ∷ bytes) x rest fits e = kind_takes (λ p. log.Vote p.0 p.1) 3 _ _ _ site (vote_format site) (λ a. refl) (λ a h. h) bytes x rest fits e
record_takes site (suc (suc (suc (suc zero))) ∷ bytes) x rest fits e = kind_takes (λ p. log.Join p.0 p.1) 4 _ _ _ site join_format (λ a. refl) (λ a h. h) bytes x rest fits e
record_takes site (suc (suc (suc (suc (suc zero)))) ∷ bytes) x rest fits e = kind_takes (λ p. log.Attempt p.0 p.1.0 p.1.1) 5 _ _ _ site attempt_format (λ a. refl) (λ a h. h) bytes x rest fits e
record_takes site (suc (suc (suc (suc (suc (suc zero))))) ∷ bytes) x rest fits e = kind_takes (λ p. log.Decision p.0 p.1) 6 _ _ _ site decision_format (λ a. refl) (λ a h. h) bytes x rest fits e
record_takes site (suc (suc (suc (suc (suc (suc (suc b)))))) ∷ bytes) x rest fits e = absurd cc

record_again : (site : ℕ) (x : Record) (rest : List ℕ) → CanBeReadBack site x → record_at site (spell_record x ++ rest) ≡ Some (x, rest)
unfolding record_at body_at byte_at
record_again site (log.Birth format own weights rows) rest fits = rw (birth_format.again (format, (own, (weights, rows))) rest fits) refl
record_again site (log.Inc inc) rest fits = rw (u32_format.again inc rest fits) refl
record_again site (log.Vote t ops) rest fits = rw ((vote_format site).again (t, ops) rest fits) refl
record_again site (log.Join t n) rest fits = rw (join_format.again (t, n) rest fits) refl
record_again site (log.Attempt t n dir) rest fits = rw (attempt_format.again (t, (n, dir)) rest fits) refl
record_again site (log.Decision t dir) rest fits = rw (decision_format.again (t, dir) rest fits) refl

pub record_format : (site : ℕ) → IsFormat spell_record (CanBeReadBack site) (record_at site)
record_format site = record { takes = λ bytes x rest fits e. record_takes site bytes x rest fits e; again = λ x rest fits. record_again site x rest fits }

-- what reading gives, in the words of the spelling
pub no_record : (site : ℕ) (bytes : List ℕ) → record_at site bytes ≡ None → NoRecord site bytes
no_record site bytes none = λ r after fits is. let some : record_at site bytes ≡ Some (r, after) = ap (record_at site) is ∙ record_again site r after fits in absurd (cc (none, some))

-- a spelling is not empty
spelled : (x : Record) → 0 < length (spell_record x)
spelled (log.Birth format own weights rows) = omega arith
spelled (log.Inc inc) = omega arith
spelled (log.Vote t ops) = omega arith
spelled (log.Join t n) = omega arith
spelled (log.Attempt t n dir) = omega arith
spelled (log.Decision t dir) = omega arith

module _ {B : Type 0} (tail : B → List ℕ) (site : ℕ) (bytes : List ℕ) (is_bytes : IsBytes bytes) where
  abbrev seen : Record × B → Record × List ℕ
  seen x = (x.0, tail x.1)

  pub is_found : (r : Result (Record × B) Fault) → Gives seen r (record_at site bytes) → IfOk r (λ x. (bytes ≡ spell_record x.0 ++ tail x.1) × CanBeReadBack site x.0)
  is_found (Ok x) given = let t = (record_format site).takes bytes x.0 (tail x.1) is_bytes given in (t.0.parts, t.1)
  is_found (Err e) given = tt

  pub is_shorter : (r : Result (Record × B) Fault) → Gives seen r (record_at site bytes) → IfOk r (λ x. length (tail x.1) < length bytes)
  is_shorter (Ok x) given =
      let t = (record_format site).takes bytes x.0 (tail x.1) is_bytes given in
      omega (arith, ap length t.0.parts, length-append (spell_record x.0) (tail x.1), spelled x.0)
  is_shorter (Err e) given = tt

  pub is_none : (r : Result (Record × B) Fault) → Gives seen r (record_at site bytes) → IsErrOf r Bad → NoRecord site bytes
  is_none (Ok x) given is_bad = absurd cc
  is_none (Err Bad) given is_bad = no_record site bytes given
  is_none (Err NoMemory) given is_bad = absurd cc

pub nothing_begins : (x : Record) (after : List ℕ) → [] ≡ spell_record x ++ after → ⊥
nothing_begins x after e = omega (arith, ap length e, length-append (spell_record x) after, spelled x)

-- no two lists that can be read back have one spelling
pub one_list : (site : ℕ) (xs ys : List Record) → AllCanBeReadBack site xs → AllCanBeReadBack site ys → spelling xs ≡ spelling ys → xs ≡ ys
one_list site xs ys fx fy e = (list_free spell_record (CanBeReadBack site) (record_at site) (record_again site) xs ys [] [] fx fy
    (λ x after fits is. nothing_begins x after is) (λ x after fits is. nothing_begins x after is)
    (append-nil (spelling xs) ∙ e ∙ sym (append-nil (spelling ys)))).0

-- and in the spelling of a list a record begins at each place
pub never_bad : SpellingsAreRead
never_bad site xs at fits bad =
    let same = list_free spell_record (CanBeReadBack site) (record_at site) (record_again site) xs bad.front [] bad.rest fits bad.fits (λ x after fits is. nothing_begins x after is) bad.none (append-nil (spelling xs) ∙ bad.parts) in
    omega (arith, ap length same.1, bad.some)

-- there is one first place where no record begins
pub one_place : OnePlace
one_place site bytes at place one two =
    let same = list_free spell_record (CanBeReadBack site) (record_at site) (record_again site) one.front two.front one.rest two.rest one.fits two.fits one.none two.none (sym one.parts ∙ two.parts) in
    one.place ∙ ap (λ rs. length (spelling rs)) same.0 ∙ sym two.place
