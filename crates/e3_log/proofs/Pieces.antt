-- What a frame that is added in one region leaves in both.
use Rattle.std.proofs.Common.{◌≡◌, ◌⊎◌, inl, inr, ℕ, ◌+◌, ◌-◌, ◌<◌, ◌≤◌, List, [], ◌∷◌, ◌++◌, length, refl, sym, ◌∙◌, ap, subst, arith, length-append}
use Rattle.std.proofs.lemmas.Bool.{cases_eq}
use Rattle.std.specs.Int.{w32, to_be_bytes}
use Rattle.e3_disk.specs.Images.{Torn, overwritten}
use Rattle.e3_disk.proofs.Tearing.{holds_torn}
use Rattle.e3_disk.proofs.Torn.{torn_back}
use Rattle.e3_log.specs.declared.region.Region.{Region}
use Rattle.e3_log.specs.declared.region.Region.TheVariants.{First, Second}
use Rattle.e3_log.specs.Frames.{OPEN, frames, IsClosed, Fits, Reads}
use Rattle.e3_log.specs.Regions.{half, start, limit, size, other, piece}
use Rattle.e3_log.specs.Stands.{staged}
use Rattle.e3_log.proofs.Append.{Staged, stage_reads, first_content, gate_reads, second_content}
use Rattle.e3_log.proofs.Windows.{window_length, torn_window, torn_before, torn_behind, over_window}

pub start_inside : (capacity : ℕ) (region : Region) (l : List ℕ) → half capacity < length l → start capacity region ≤ length l
start_inside capacity First l whole = omega arith
start_inside capacity Second l whole = omega arith

pub limit_is : (capacity : ℕ) (region : Region) → limit capacity region ≡ start capacity region + size capacity region
limit_is capacity First = omega arith
limit_is capacity Second = omega arith

-- a write within a region leaves the other one
pub other_same : (capacity : ℕ) (region : Region) (place n : ℕ) (old c : List ℕ) → half capacity < length old → start capacity region ≤ place → place + n ≤ limit capacity region
    → Torn place n old c → piece capacity (other region) c ≡ piece capacity (other region) old
other_same capacity First place n old c whole low high t = torn_behind (half capacity) (capacity - half capacity) place n old c high (omega arith) t
other_same capacity Second place n old c whole low high t = torn_before 0 (half capacity) place n old c (omega arith) (omega arith) t

pub over_torn : (place : ℕ) (bytes old : List ℕ) → place ≤ length old → Torn place (length bytes) old (overwritten old place bytes)
over_torn place bytes old inside = holds_torn place old bytes (overwritten old place bytes) inside refl

pub staged_length : (body : List ℕ) → length (staged body) ≡ length body + 5
staged_length body = omega (arith, length-append (to_be_bytes w32 (length body) ++ body) (0 ∷ []), length-append (to_be_bytes w32 (length body)) body)

closed_some : (l : List ℕ) → IsClosed l → 0 < length l
closed_some [] closed = absurd closed
closed_some (x ∷ l) closed = omega arith

-- a frame that is added behind frames of a region
module _ (capacity : ℕ) (region : Region) (raw : List (List ℕ)) (content : List ℕ) (whole : half capacity < length content) (reads : Reads raw (piece capacity region content))
    (end : ℕ) (end_is : end ≡ start capacity region + length (frames raw)) where
  -- the closed gate is there
  pub gate_there : (length (frames raw) < size capacity region) × (start capacity region + length (frames raw) < length content)
  gate_there =
      let some : 0 < length reads.rest = closed_some reads.rest reads.closed in
      let long : length (piece capacity region content) ≡ length (frames raw) + length reads.rest = ap (λ (l : List ℕ). length l) reads.parts ∙ length-append (frames raw) reads.rest in
      let room = window_length (start capacity region) (size capacity region) content in
      (omega (arith, some, long, room), omega (arith, some, long, room))

  pub staging : (n : ℕ) (c : List ℕ) → Torn (end + 1) n content c → Reads raw (piece capacity region c)
  staging n c t =
      let seen : Torn (length (frames raw) + 1) n (piece capacity region content) (piece capacity region c) =
      torn_window (start capacity region) (size capacity region) (length (frames raw) + 1) (end + 1) n content c (start_inside capacity region content whole) (omega (arith, end_is)) t in
      stage_reads raw reads.rest (piece capacity region c) n reads.closed reads.fits
      (subst (λ (d : List ℕ). Torn (length (frames raw) + 1) n d (piece capacity region c)) reads.parts seen)

  module _ (body : List ℕ) (fits : Fits body) (need : end + 6 + length body ≤ limit capacity region) where
    abbrev middle : List ℕ
    middle = overwritten content (end + 1) (staged body)

    room : length (frames raw) + 1 + length (staged body) ≤ size capacity region
    room = omega (arith, staged_length body, need, end_is, limit_is capacity region)

    middle_torn : Torn (end + 1) (length (staged body)) content middle
    middle_torn = over_torn (end + 1) (staged body) content (omega (arith, gate_there.1, end_is))

    pub middle_whole : half capacity < length middle
    middle_whole = omega (arith, whole, middle_torn.no_shorter)

    behind_gate : Staged raw body (piece capacity region middle)
    behind_gate =
        first_content raw body (staged body) (length (frames raw)) (piece capacity region content) (piece capacity region middle) reads refl refl
        (over_window (start capacity region) (size capacity region) (length (frames raw) + 1) (end + 1) (staged body) content (omega (arith, end_is)) (omega (arith, gate_there.1)) room)

    pub gating : (c : List ℕ) → Torn end 1 middle c → Reads raw (piece capacity region c) ⊎ Reads (raw ++ body ∷ []) (piece capacity region c)
    gating c t =
        gate_reads raw body (piece capacity region middle) (piece capacity region c) fits behind_gate
        (torn_window (start capacity region) (size capacity region) (length (frames raw)) end 1 middle c (start_inside capacity region middle middle_whole) end_is t)

    pub final : (new : List ℕ) → new ≡ overwritten middle end (OPEN ∷ []) → Reads (raw ++ body ∷ []) (piece capacity region new)
    final new is =
        second_content raw body (length (frames raw)) (piece capacity region middle) (piece capacity region new) fits behind_gate refl
        (ap (λ (l : List ℕ). piece capacity region l) is
        ∙ over_window (start capacity region) (size capacity region) (length (frames raw)) end (OPEN ∷ []) middle end_is (omega (arith, gate_there.1, middle_torn.no_shorter)) (omega (arith, gate_there.0)))

    -- the other region
    pub other_staging : (c : List ℕ) → Torn (end + 1) (length (staged body)) content c → piece capacity (other region) c ≡ piece capacity (other region) content
    other_staging c t = other_same capacity region (end + 1) (length (staged body)) content c whole (omega (arith, end_is)) (omega (arith, staged_length body, need)) t

    pub other_gating : (c : List ℕ) → Torn end 1 middle c → piece capacity (other region) c ≡ piece capacity (other region) content
    other_gating c t =
        other_same capacity region end 1 middle c middle_whole (omega (arith, end_is)) (omega (arith, need)) t ∙ other_staging middle middle_torn

    pub final_torn : (new : List ℕ) → new ≡ overwritten middle end (OPEN ∷ []) → Torn end 1 middle new
    final_torn new is = subst (λ (l : List ℕ). Torn end 1 middle l) (sym is) (over_torn end (OPEN ∷ []) middle (omega (arith, gate_there.1, end_is, middle_torn.no_shorter)))

    pub long_gating : (c : List ℕ) → Torn end 1 middle c → half capacity < length c
    long_gating c t = omega (arith, middle_whole, t.no_shorter)

pub long_staging : (capacity place n : ℕ) (content c : List ℕ) → half capacity < length content → Torn place n content c → half capacity < length c
long_staging capacity place n content c whole t = omega (arith, whole, t.no_shorter)

-- the first gate of a region, while it is closed
first_of : (g : ℕ) (rest c : List ℕ) → Torn 0 1 (g ∷ rest) c → (h : ℕ) × (c ≡ h ∷ rest)
first_of g rest [] t = absurd (omega (arith, t.no_shorter))
first_of g rest (h ∷ more) t = (h, ap (λ (l : List ℕ). h ∷ l) (torn_back 0 1 (g ∷ rest) (h ∷ more) (omega arith) t))

pub shutting : (g : ℕ) (rest c : List ℕ) → g ≡ OPEN → Torn 0 1 (g ∷ rest) c → (c ≡ g ∷ rest) ⊎ IsClosed c
shutting g rest c is t = by (first_of g rest c t)
  where
    by : ((h : ℕ) × (c ≡ h ∷ rest)) → (c ≡ g ∷ rest) ⊎ IsClosed c
    by (h, e) = elim (cases_eq h OPEN) [
      | inl opens ↦ inl (e ∙ ap (λ k. k ∷ rest) (opens ∙ sym is))
      | inr closed ↦ inr (subst (λ (l : List ℕ). IsClosed l) (sym e) closed)
    ]

pub limit_low : (capacity : ℕ) (region : Region) → limit capacity region ≤ capacity
limit_low capacity First = omega arith
limit_low capacity Second = omega arith

pub gate_room : (capacity : ℕ) (region : Region) → 2 ≤ capacity → start capacity region + 1 ≤ limit capacity region
gate_room capacity First least = omega arith
gate_room capacity Second least = omega arith

pub start_low : (capacity : ℕ) (region : Region) → start capacity region ≤ half capacity
start_low capacity First = omega arith
start_low capacity Second = omega arith
