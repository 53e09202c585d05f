-- Records are told apart by their spellings, also where a transaction is none.
use Rattle.std.proofs.Common.{◌≡◌, ℕ, zero, suc, List, [], ◌++◌, Some, None, refl, sym, ◌∙◌}
use Rattle.std.specs.Int.{w64}
use Rattle.std.proofs.lemmas.List.{append-nil}
use Rattle.e3_types.specs.declared.transactions.Dir.{Dir}
use Rattle.e3_types.specs.declared.transactions.NumOp.{NumOp}
use Rattle.e3_types.specs.declared.records.Record.{Record}
use Rattle.e3_types.specs.declared.transactions.Txn.{Txn}
use Rattle.e3_types.specs.declared.records.Record.TheVariants as log
use Rattle.e3_types.specs.Spelling.{u32, spell_txn, spell_dir, spell_op, spell_list, spell_record, spelling}
use Rattle.e3_codec.specs.Claims.{PrefixFree, OneSpelling}
use Rattle.e3_codec.specs.Fields.{IsShort, ListFits, TxnNumbersFit, NumOpFits, CanBeTold}
use Rattle.e3_codec.specs.Reader.{Reader, ◌>>=◌, pair_at, mapped_at, number_at, byte_at, listed_at}
use Rattle.e3_codec.specs.Reading.{u32_at, txn_from, dir_at, num_op_at, birth_at}
use Rattle.e3_codec.specs.Format.{IsFormat}
use Rattle.e3_codec.proofs.Formats.{prefix_free, list_free, pair_format, list_format, u32_format}
use Rattle.e3_codec.proofs.Records.{numbered_format, dir_format, num_op_format, birth_format, nothing_begins}

-- a transaction, which may be none
abbrev any_at : Reader Txn
any_at = mapped_at txn_from (pair_at u32_at (pair_at u32_at (pair_at u32_at (number_at w64))))

vote_format : (site : ℕ) → IsFormat (λ (p : Txn × List NumOp). spell_txn p.0 ++ spell_list spell_op p.1) (λ p. TxnNumbersFit p.0 × ListFits (NumOpFits site) p.1) (pair_at any_at (listed_at (num_op_at site)))
vote_format site = pair_format _ _ _ _ _ _ numbered_format (list_format spell_op (NumOpFits site) (num_op_at site) (num_op_format site))

join_format : IsFormat (λ (p : Txn × ℕ). spell_txn p.0 ++ u32 p.1) (λ p. TxnNumbersFit p.0 × IsShort p.1) (pair_at any_at u32_at)
join_format = pair_format _ _ _ _ _ _ numbered_format u32_format

attempt_format : IsFormat (λ (p : Txn × (ℕ × Dir)). spell_txn p.0 ++ (u32 p.1.0 ++ spell_dir p.1.1)) (λ p. TxnNumbersFit p.0 × (IsShort p.1.0 × Unit {0})) (pair_at any_at (pair_at u32_at dir_at))
attempt_format = pair_format _ _ _ _ _ _ numbered_format (pair_format _ _ _ _ _ _ u32_format dir_format)

decision_format : IsFormat (λ (p : Txn × Dir). spell_txn p.0 ++ spell_dir p.1) (λ p. TxnNumbersFit p.0 × Unit {0}) (pair_at any_at dir_at)
decision_format = pair_format _ _ _ _ _ _ numbered_format dir_format

-- the record with this tag
unfoldable body_at : ℕ → ℕ → Reader Record
body_at site (suc zero) bytes = mapped_at (λ p. log.Birth p.0 p.1.0 p.1.1.0 p.1.1.1) birth_at bytes
body_at site (suc (suc zero)) bytes = mapped_at (λ n. log.Inc n) u32_at bytes
body_at site (suc (suc (suc zero))) bytes = mapped_at (λ p. log.Vote p.0 p.1) (pair_at any_at (listed_at (num_op_at site))) bytes
body_at site (suc (suc (suc (suc zero)))) bytes = mapped_at (λ p. log.Join p.0 p.1) (pair_at any_at u32_at) bytes
body_at site (suc (suc (suc (suc (suc zero))))) bytes = mapped_at (λ p. log.Attempt p.0 p.1.0 p.1.1) (pair_at any_at (pair_at u32_at dir_at)) bytes
body_at site (suc (suc (suc (suc (suc (suc zero)))))) bytes = mapped_at (λ p. log.Decision p.0 p.1) (pair_at any_at dir_at) bytes
body_at site tag bytes = None

-- a record of the site's log, whose transaction may be none
unfoldable told_at : ℕ → Reader Record
told_at site bytes = byte_at bytes >>= λ tag. body_at site tag.0 tag.1

told_again : (site : ℕ) (x : Record) (rest : List ℕ) → CanBeTold site x → told_at site (spell_record x ++ rest) ≡ Some (x, rest)
unfolding told_at body_at byte_at
told_again site (log.Birth format own weights rows) rest fits = rw (birth_format.again (format, (own, (weights, rows))) rest fits) refl
told_again site (log.Inc inc) rest fits = rw (u32_format.again inc rest fits) refl
told_again site (log.Vote t ops) rest fits = rw ((vote_format site).again (t, ops) rest fits) refl
told_again site (log.Join t n) rest fits = rw (join_format.again (t, n) rest fits) refl
told_again site (log.Attempt t n dir) rest fits = rw (attempt_format.again (t, (n, dir)) rest fits) refl
told_again site (log.Decision t dir) rest fits = rw (decision_format.again (t, dir) rest fits) refl

-- no record's spelling begins another's
pub free : PrefixFree
free site x y a b fx fy e = prefix_free spell_record (CanBeTold site) (told_at site) (told_again site) x y a b fx fy e

-- no two lists have one spelling
pub one_list : OneSpelling
one_list site xs ys fx fy e = (list_free spell_record (CanBeTold site) (told_at site) (told_again site) xs ys [] [] fx fy
    (λ x after fits is. nothing_begins x after is) (λ x after fits is. nothing_begins x after is)
    (append-nil (spelling xs) ∙ e ∙ sym (append-nil (spelling ys)))).0
