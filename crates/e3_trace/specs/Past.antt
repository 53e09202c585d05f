-- What is known by the entries that are read: where a packet stands, and which packets there are by their numbers.
use Rattle.std.specs.Prelude.{◌≡◌, ◌++◌, ◌⊎◌, ℕ, List, [], ◌∷◌, Option, Some, None, option_and_then, fold, slice_get}
use Rattle.std.specs.Ordering.{nat_cmp}
use Rattle.std.specs.Map.{lookup}
use Rattle.std.specs.BTreeMap.{is_at, insert_entry}
use Rattle.e3_types.specs.declared.entries.Entry.{Entry}
use Rattle.e3_types.specs.declared.messages.Packet.{Packet}
use Rattle.e3_world.specs.Packets.{outs_of, sent}
use Rattle.e3_trace.specs.declared.drafts.Draft.{Draft}
use Rattle.e3_trace.specs.declared.past.Place.{Place}
use Rattle.e3_trace.specs.Drafts.{act_of}
use Rattle.e3_trace.specs.Fields.{Known}

-- the packets by their numbers; of two with one number there is the later
abbrev pub by_number : List Packet → List (ℕ × Packet)
by_number packets = fold (λ m p. insert_entry nat_cmp m p.number p) [] packets

-- the packet of this number that these entries sent
abbrev pub sent_at : List Entry → ℕ → Option Packet
sent_at history number = lookup (is_at (nat_cmp number)) (by_number (sent history))

-- the packet that stands in this place
abbrev pub standing : List Entry → Place → Option Packet
standing history place = option_and_then (λ e. slice_get (outs_of e.act) place.packet) (slice_get history place.entry)

-- the places are those of the packets, number by number
abbrev pub ArePlaces : List Entry → List (ℕ × Place) → List (ℕ × Packet) → Type 0
ArePlaces history [] [] = Unit {0}
ArePlaces history (e ∷ es) (s ∷ ss) = (e.0 ≡ s.0) × (standing history e.1 ≡ Some s.1) × ArePlaces history es ss
ArePlaces history _ _ = ⊥

-- what is known of transactions, and these packets
abbrev pub knowing : Known → List Packet → Known
knowing known packets = record known { sent = by_number packets }

-- the packets that an entry sends, as far as its lines are read
abbrev pub sends : Draft → List Packet
sends d = outs_of (act_of d)

-- what is known behind these entries, and behind the lines of the one that is being read
abbrev pub known_at : Known → List Entry → Option Draft → Known
known_at known history None = knowing known (sent history)
known_at known history (Some d) = knowing known (sent history ++ sends d)

-- an entry that has inputs due sends no packet
abbrev pub IsFitting : Draft → Type 0
IsFitting d = (sends d ≡ []) ⊎ (d.due ≡ 0)

-- the entry whose lines are being read, where there is one
abbrev pub Fits : Option Draft → Type 0
Fits None = Unit {0}
Fits (Some d) = IsFitting d

-- two entries send the same packets, by the same first line
pub record SameOuts (d e : Draft) : Type 0 where
  pub head : e.head ≡ d.head
  pub outs : e.outs ≡ d.outs
