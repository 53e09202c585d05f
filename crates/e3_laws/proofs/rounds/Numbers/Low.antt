-- What is added to a step keeps the numbers of a transaction's elections within a bound: in its records and in its packets.
use Rattle.std.proofs.Common.{◌≡◌, ◌==◌, ◌&&◌, ◌||◌, ℕ, Bool, true, false, not, List, refl, sym, ◌∙◌, nat_le, true≢false}
use Rattle.std.specs.List.{list_all}
use Rattle.e3_types.specs.declared.messages.Message.{Message}
use Rattle.e3_types.specs.declared.messages.Message.TheVariants as msg
use Rattle.e3_types.specs.declared.messages.Packet.{Packet}
use Rattle.e3_types.specs.declared.records.Record.{Record}
use Rattle.e3_types.specs.declared.records.Record.TheVariants as log
use Rattle.e3_types.specs.declared.transactions.Txn.{Txn}
use Rattle.e3_types.specs.Same.{same_txn}
use Rattle.e3_world.specs.declared.lives.At.{At}
use Rattle.e3_world.specs.declared.lives.Made.{Made}
use Rattle.e3_world.specs.Making.{nothing, and_cast, and_send}
use Rattle.e3_laws.proofs.steps.Adding.{Casts, Preserves, keep_cast}
use Rattle.e3_laws.proofs.steps.Each.{each-of}
use Rattle.e3_laws.proofs.steps.Lists.{one_more}
use Rattle.e3_laws.proofs.steps.Whatever.{AnyTold}

-- the number is of another transaction, or within the bound
abbrev pub is_low : Txn → ℕ → Txn → ℕ → Bool
is_low t b u n = not (same_txn t u) || nat_le n b

-- the record joins no number of the transaction above the bound
abbrev pub low_record : Txn → ℕ → Record → Bool
low_record t b (log.Join u n) = is_low t b u n
low_record t b _ = true

-- the message names no number of its elections above the bound
abbrev pub low_message : Txn → ℕ → Message → Bool
low_message t b (msg.LastElected u call n) = is_low t b u n
low_message t b (msg.Elected u n) = is_low t b u n
low_message t b _ = true

-- a packet that names none, and goes to another site
abbrev pub low_packet : Txn → ℕ → Packet → Bool
low_packet t b p = low_message t b p.msg && not (p.to == p.«from»)

-- a message that makes no site join a number, nor name one
abbrev pub is_quiet : Message → Bool
is_quiet (msg.Ask u call) = false
is_quiet (msg.LastElected u call n) = false
is_quiet (msg.Elected u n) = false
is_quiet _ = true

-- what a step has made so far keeps the bound; the messages that wait in it are quiet
pub record Low (t : Txn) (b : ℕ) (made : Made) : Type 0 where
  pub records : list_all (low_record t b) made.records ≡ true
  pub outs : list_all (low_packet t b) made.outs ≡ true
  pub own : list_all is_quiet made.own ≡ true

pub low_nothing : (t : Txn) (b : ℕ) → Low t b nothing
low_nothing t b = record { records = refl; outs = refl; own = refl }

-- a record that keeps the bound
abbrev pub LowRecord : Txn → ℕ → Record → Type 0
LowRecord t b r = low_record t b r ≡ true

-- a message that keeps it, and is quiet where it is for the site itself
abbrev pub Sends : Txn → ℕ → At → ℕ → Message → Type 0
Sends t b a to m = (low_message t b m ≡ true) × ((to == a.site) ≡ true → is_quiet m ≡ true)

sent : (t : Txn) (b : ℕ) (a : At) (to : ℕ) (m : Message) (made : Made) → Sends t b a to m → Low t b made → Low t b (and_send a to m made)
sent t b a to m made may k = by (to == a.site) refl
  where
    by : (c : Bool) → (to == a.site) ≡ c → Low t b (and_send a to m made)
    by true is = rw is (record { records = k.records; outs = k.outs; own = one_more is_quiet made.own m k.own (may.1 is) })
    by false is = rw is (record {
      records = k.records;
      outs = one_more (low_packet t b) made.outs (record { number = 0; «from» = a.site; to = to; msg = m }) k.outs (rw (may.0, is) refl);
      own = k.own;
    })

pub kept : (t : Txn) (b : ℕ) (a : At) → Preserves a (LowRecord t b) AnyTold (Sends t b a) (Low t b)
kept t b a = record {
  records = λ r made is k. record { records = one_more (low_record t b) made.records r k.records is; outs = k.outs; own = k.own };
  tells = λ e made any k. record { records = k.records; outs = k.outs; own = k.own };
  sends = λ to m made may k. sent t b a to m made may k;
}

-- a message to a site that is another
pub out : (t : Txn) (b : ℕ) (a : At) (to : ℕ) (m : Message) → (to == a.site) ≡ false → low_message t b m ≡ true → Sends t b a to m
out t b a to m apart low = (low, (λ is. absurd (true≢false (sym is ∙ apart))))

pub casts : (t : Txn) (b : ℕ) (a : At) (m : Message) (sites : List ℕ) → low_message t b m ≡ true → Casts a (Sends t b a) m sites
casts t b a m sites low = each-of (λ s. (s == a.site) ≡ false → Sends t b a s m) (λ s apart. out t b a s m apart low) sites

pub low_out : (t : Txn) (b : ℕ) (a : At) (to : ℕ) (m : Message) (made : Made) → (to == a.site) ≡ false → low_message t b m ≡ true → Low t b made → Low t b (and_send a to m made)
low_out t b a to m made apart low k = sent t b a to m made (out t b a to m apart low) k

pub low_cast : (t : Txn) (b : ℕ) (a : At) (sites : List ℕ) (m : Message) (made : Made) → low_message t b m ≡ true → Low t b made → Low t b (and_cast a sites m made)
low_cast t b a sites m made low k = keep_cast (kept t b a) sites m made (casts t b a m sites low) k
