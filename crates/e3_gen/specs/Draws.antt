-- The words that are drawn for the transactions of a number.
use Rattle.std.specs.Prelude.{◌∷◌, [], ℕ, zero, suc}
use Rattle.rand_pcg.specs.Lcg.{Lcg, started, increment_of}
use Rattle.rand_pcg.specs.Pcg.{multiplier_64, pcg32}
use Rattle.e3_gen.specs.declared.draws.RecordWords.{RecordWords}
use Rattle.e3_gen.specs.declared.draws.TxnWords.{TxnWords}

-- the generator of a number: this state, in stream 1
abbrev pub generator_of : ℕ → Lcg
generator_of n = started 64 multiplier_64 n (increment_of 64 1)

-- the next word, and the generator behind it
unfoldable pub word : Lcg → ℕ
word g = (pcg32 g).0

unfoldable pub behind_word : Lcg → Lcg
behind_word g = (pcg32 g).1

-- the next two words, which are those of a record, and the generator behind them
abbrev pub record_words : Lcg → RecordWords
record_words g = record { name = word g; value = word (behind_word g) }

abbrev pub behind_record : Lcg → Lcg
behind_record g = behind_word (behind_word g)

-- the next seven words, which are those of a transaction: one for its coordinator, and two for the record of each of its
-- sites; and the generator behind them
abbrev pub txn_words : Lcg → TxnWords
txn_words g = record {
  coordinator = word g;
  records = record_words (behind_word g) ∷ record_words (behind_record (behind_word g))
      ∷ record_words (behind_record (behind_record (behind_word g))) ∷ [];
}

abbrev pub behind_txn : Lcg → Lcg
behind_txn g = behind_record (behind_record (behind_record (behind_word g)))

-- the generator of a number behind the words of so many transactions
abbrev pub behind_txns : ℕ → ℕ → Lcg
behind_txns n zero = generator_of n
behind_txns n (suc k) = behind_txn (behind_txns n k)
