-- The fate of a packet, which is fixed when it is sent.
use Rattle.std.specs.Prelude.{◌+◌, ◌%◌, ◌&&◌, if◌then◌else◌, ℕ, nat_lt, Bool, true, false, List}
use Rattle.std.specs.List.{list_any}
use Rattle.rand_pcg.specs.Lcg.{started, increment_of}
use Rattle.rand_pcg.specs.Pcg.{multiplier_64, pcg32}
use Rattle.e3_types.specs.declared.messages.Packet.{Packet}
use Rattle.e3_types.specs.Sets.{has_site}

-- the first 32-bit word of the generator of this number
abbrev pub fate_word : ℕ → ℕ → ℕ
fate_word luck number = (pcg32 (started 64 multiplier_64 luck (increment_of 64 number))).0

-- a packet is split, lost, or to be delivered once or twice
pub data Fate : Type 0 where
  Split : Fate
  Lost : Fate
  Once : Fate
  Twice : Fate

-- some part has both sites
abbrev pub same_part : List (List ℕ) → ℕ → ℕ → Bool
same_part parts s u = list_any (λ part. has_site part s && has_site part u) parts

-- by luck: a number from 0 to 99 is below the loss, or below the loss and the repeat, or above
abbrev pub fate_by_luck : ℕ → ℕ → ℕ → Fate
fate_by_luck loss repeat x = if nat_lt x loss then Lost else if nat_lt x (loss + repeat) then Twice else Once

-- A packet between two parts is split. Else it is delivered once while the network is calm. Else luck decides.
abbrev pub fate_by : List (List ℕ) → Bool → ℕ → ℕ → ℕ → Packet → Fate
fate_by parts calm loss repeat luck packet = by (same_part parts packet.«from» packet.to) calm
  where
    by : Bool → Bool → Fate
    by false calm = Split
    by true true = Once
    by true false = fate_by_luck loss repeat (fate_word luck packet.number % 100)

-- how many copies of it are to be delivered
abbrev pub copies_of : Fate → ℕ
copies_of Split = 0
copies_of Lost = 0
copies_of Once = 1
copies_of Twice = 2
