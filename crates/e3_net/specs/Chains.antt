-- What waits is kept in one row of slots, in which each names the place of the next one to its site. What was taken leaves
-- the row once all before it left.
use Rattle.std.specs.Prelude.{◌≡◌, ◌==◌, ◌+◌, ◌^◌, ◌<◌, ◌∷◌, [], if◌then◌else◌, ℕ, zero, suc, Bool, true, false, List, length, map, slice_index_or}
use Rattle.e3_types.specs.declared.messages.Packet.{Packet}
use Rattle.e3_net.specs.declared.slots.Slot.{Slot}
use Rattle.e3_net.specs.declared.waiting.Waiting.{Waiting}

-- A queue as contracts see it: what waits, for how many more packets there is room, and at most how many it was given.
pub record QueueView : Type 0 where
  pub items : List Waiting
  pub room : ℕ
  pub given : ℕ

-- some are left
abbrev pub is_left : ℕ → Bool
is_left zero = false
is_left (suc more) = true

-- so many copies of a packet wait
abbrev pub held : Packet → ℕ → Waiting
held p copies = record { packet = p; copies = copies }

-- what waits in a row
abbrev pub shown : List Slot → List Waiting
shown [] = []
shown (s ∷ ss) = if is_left s.copies then held s.packet s.copies ∷ shown ss else shown ss

-- What chains read of a slot: whether a copy of its packet is left, its site, and the place of the next one to that.
pub record Link : Type 0 where
  pub live : Bool
  pub to : ℕ
  pub next : ℕ

abbrev pub link_of : Slot → Link
link_of s = record { live = is_left s.copies; to = s.packet.to; next = s.next }

abbrev pub links : List Slot → List Link
links ss = map link_of ss

-- it waits for the site
abbrev pub waits_for : ℕ → Link → Bool
waits_for site l = if l.live then l.to == site else false

-- The place of the first one that waits for a site, counted from 1, where so many places are before these; 0 where none does.
abbrev pub first_to : ℕ → ℕ → List Link → ℕ
first_to site before [] = 0
first_to site before (l ∷ ls) = if waits_for site l then suc before else first_to site (suc before) ls

-- each one that waits names the next one to its site
abbrev pub AreLinked : ℕ → List Link → Type 0
AreLinked before [] = Unit {0}
AreLinked before (l ∷ ls) = (l.live ≡ true → l.next ≡ first_to l.to (suc before) ls) × AreLinked (suc before) ls

-- at this place stands one that waits for the site and names none
abbrev pub ends_at : ℕ → ℕ → ℕ → List Link → Bool
ends_at site place before [] = false
ends_at site place before (l ∷ ls) =
    if place == suc before then (if waits_for site l then l.next == 0 else false) else ends_at site place (suc before) ls

-- the first one waits
abbrev pub begins_live : List Link → Bool
begins_live [] = true
begins_live (l ∷ ls) = l.live

-- how many wait
abbrev pub left_in : List Link → ℕ
left_in [] = 0
left_in (l ∷ ls) = if l.live then suc (left_in ls) else left_in ls

-- how many before the first that waits do not
abbrev pub gone_before : List Link → ℕ
gone_before [] = 0
gone_before (l ∷ ls) = if l.live then 0 else suc (gone_before ls)

-- the tables have the places of the first and of the last one that waits for each site
pub record AreChained (before : ℕ) (ls : List Link) (firsts lasts : List ℕ) (count : ℕ) : Type 0 where
  pub begins : (site : ℕ) → slice_index_or firsts site 0 ≡ first_to site before ls
  pub ends : (site : ℕ) → 0 < first_to site before ls → ends_at site (slice_index_or lasts site 0) before ls ≡ true
  pub linked : AreLinked before ls
  pub number : count ≡ left_in ls
  pub few : before + length ls < 2 ^ 64
  pub first_places : length firsts ≡ 65
  pub last_places : length lasts ≡ 65

-- and the first slot of the row waits
pub record QueueStands (before : ℕ) (ls : List Link) (firsts lasts : List ℕ) (count : ℕ) : Type 0 where
  pub chained : AreChained before ls firsts lasts count
  pub front : begins_live ls ≡ true

-- the slot at an index with another next place
abbrev pub with_next : List Slot → ℕ → ℕ → List Slot
with_next [] at next = []
with_next (s ∷ ss) zero next = record s { next = next } ∷ ss
with_next (s ∷ ss) (suc at) next = s ∷ with_next ss at next

-- the slot at an index with so many copies
abbrev pub with_copies : List Slot → ℕ → ℕ → List Slot
with_copies [] at copies = []
with_copies (s ∷ ss) zero copies = record s { copies = copies } ∷ ss
with_copies (s ∷ ss) (suc at) copies = s ∷ with_copies ss at copies
