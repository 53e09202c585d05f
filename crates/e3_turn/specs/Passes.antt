-- What a pass shows. A lock is seen as its identity.
use Rattle.std.specs.Prelude.{◌≡◌, ℕ, ◌<◌, ◌≤◌, Bool, List, [], ◌∷◌, ◌++◌, Option}
use Rattle.atomic_table.specs.Seated.{TableId}
use Rattle.atomic_table.specs.declared.shared.Seat.{Seat}
use Rattle.e3_turn.specs.declared.view.View.{View}
use Rattle.e3_turn.specs.Chronicles.{count_of, longer, without, ExtendsByOthers, ExtendsByOwners, LongerExtends}
use Rattle.e3_turn.specs.Steps.{Rests, IsServed}

-- a pass of a lock round an X whose marks are M
abbrev pub PassOf : Type 0 → Type 0 → Type 0
PassOf X M = Seat (Option X) (View M)

module _ {X M : Type 0} where
  -- the owners that it speaks for
  abbrev pub owners_of : PassOf X M → List ℕ
  owners_of p = p.me.0.owners

  -- the last owner of its lock
  abbrev pub last_of : PassOf X M → ℕ
  last_of p = p.me.0.last

  -- the chronicle that it has seen
  abbrev pub seen_by : PassOf X M → List M
  seen_by p = p.me.0.seen

  abbrev pub Owns : PassOf X M → ℕ → Type 0
  Owns p o = 0 < count_of o (owners_of p)

  abbrev pub OwnsAll : PassOf X M → Type 0
  OwnsAll p = (o : ℕ) → o ≤ last_of p → Owns p o

  -- a pass of this lock that does not have the turn
  pub record IsIdle (lock : TableId) (p : PassOf X M) : Type 0 where
    pub of_lock : p.table_id ≡ lock
    pub rests : Rests p.me

  -- a pass of this lock that has the turn
  pub record HasTurn (lock : TableId) (p : PassOf X M) : Type 0 where
    pub of_lock : p.table_id ≡ lock
    pub served : IsServed p.me

  -- the pass still has its owners
  pub record SameOwners (p q : PassOf X M) : Type 0 where
    pub owners : owners_of q ≡ owners_of p
    pub last : last_of q ≡ last_of p

module _ {X M : Type 0} (belongs : M → ℕ → Bool) where
  -- the chronicle begins with all that the pass has seen, and no mark behind that belongs to an owner of the pass
  abbrev pub GrewByOthers : PassOf X M → List M → Type 0
  GrewByOthers p chronicle = ExtendsByOthers belongs (last_of p) (owners_of p) (seen_by p) chronicle

  -- the chronicle is what the pass has seen, followed by marks that belong to its own owners alone
  abbrev pub GrewByOwners : PassOf X M → List M → Type 0
  GrewByOwners p chronicle = ExtendsByOwners belongs (last_of p) (owners_of p) (seen_by p) chronicle

  -- of the chronicles that two passes have seen the longer begins with the shorter, and no mark behind that belongs to an owner of the pass that had seen the shorter
  abbrev pub Agree : PassOf X M → PassOf X M → Type 0
  Agree p q = LongerExtends belongs (last_of p) (owners_of p) (seen_by p) (owners_of q) (seen_by q)

module _ {X M : Type 0} where
  -- a pass gave one of its owners to a part of its own, and both have seen what it had seen
  pub record HasDealt (lock : TableId) (owner : ℕ) (old new part : PassOf X M) : Type 0 where
    pub idle : IsIdle lock new × IsIdle lock part
    pub owners : (owners_of new ≡ without owner (owners_of old)) × (owners_of part ≡ owner ∷ [])
    pub last : (last_of new ≡ last_of old) × (last_of part ≡ last_of old)
    pub seen : (seen_by new ≡ seen_by old) × (seen_by part ≡ seen_by old)

module _ {X M : Type 0} (belongs : M → ℕ → Bool) where
  -- a pass speaks for the owners of another too, and has seen the longer chronicle
  pub record HasJoined (lock : TableId) (old other new : PassOf X M) : Type 0 where
    pub idle : IsIdle lock new
    pub owners : owners_of new ≡ owners_of old ++ owners_of other
    pub last : last_of new ≡ last_of old
    pub seen : seen_by new ≡ longer (seen_by old) (seen_by other)
    pub agree : Agree belongs old other
