-- The frames that were found.
use Rattle.std.specs.Prelude.{◌≡◌, ℕ, ◌+◌, ◌<◌, ◌≤◌, List, [], ◌∷◌, Option, Some, None, length, drop, map}
use Rattle.e3_disk.specs.Meaning.{Meaning}
use Rattle.e3_log.specs.declared.open.Frame.{Frame}
use Rattle.e3_log.specs.declared.prepare.Held.{Held}
use Rattle.e3_log.specs.declared.region.Front.{Front}
use Rattle.e3_log.specs.Frames.{frames, Reads}
use Rattle.e3_log.specs.Fronts.{told_by, bodies_in, front_of, is_open}
use Rattle.e3_log.specs.Reading.{HoldsAs}
use Rattle.e3_log.specs.Regions.{limit, start}
use Rattle.e3_log.specs.Stands.{LogState, Stands}

-- The bodies of frames.
abbrev pub bodies_of : List Frame → List (List ℕ)
bodies_of found = map (λ f. f.body) found

-- The frames of these bodies from a place on: each tells where its body begins, five bytes behind its gate.
abbrev pub frames_from : ℕ → List (List ℕ) → List Frame
frames_from at [] = []
frames_from at (body ∷ bodies) = (record { place = at + 5; body = body }) ∷ frames_from (at + 5 + length body) bodies

-- a frame without the first five bytes of its body
abbrev pub short_frame : Frame → Frame
short_frame f = record { place = f.place + 5; body = drop 5 f.body }

-- frames of which the first is handed out without five bytes, where its body tells a generation
abbrev pub handed_frames : List Frame → List Frame
handed_frames [] = []
handed_frames (f ∷ found) = by (told_by f.body)
  where
    by : Option ℕ → List Frame
    by (Some generation) = short_frame f ∷ found
    by None = f ∷ found

-- Bytes from a place of a disk on read as these frames, with the closed gate at this place among them.
pub record ReadsTo (from : ℕ) (content : List ℕ) (found : List Frame) (end : ℕ) : Type 0 where
  pub reads : Reads (bodies_of found) content
  pub end_is : end ≡ length (frames (bodies_of found))
  pub places : found ≡ frames_from from (bodies_of found)

-- These are frames from a place on, and begin so.
pub record IsRaw (from : ℕ) (region_front : Front) (found : List Frame) : Type 0 where
  pub places : found ≡ frames_from from (bodies_of found)
  pub front : region_front ≡ front_of (bodies_of found)

-- What was read of a disk: it holds frames in the region that counts, and these are handed out of them.
pub record IsHeld (capacity : ℕ) (bytes : List ℕ) (h : Held) : Type 0 where
  pub raw : List (List ℕ)
  pub spare : Front
  pub holds : HoldsAs capacity h.region h.generation raw spare bytes
  pub bodies_are : bodies_of h.frames ≡ bodies_in raw
  pub places : h.frames ≡ handed_frames (frames_from (start capacity h.region) raw)
  pub end_is : h.end ≡ start capacity h.region + length (frames raw)
  pub spare_is : h.spare_open ≡ is_open spare

-- The closed gate of what was read stands in the region that counts, and among the bytes.
abbrev pub EndsInside : ℕ → List ℕ → Held → Type 0
EndsInside capacity bytes h = (h.end < limit capacity h.region) × (h.end < length bytes) × (start capacity h.region ≤ h.end)

-- A log and what it was opened with: it stands for the bodies, and each frame tells where its body begins on the disk.
pub record Opened {D : Type 0} (meaning : Meaning D) (found : List Frame) (log : LogState D) : Type 0 where
  pub stands : Stands meaning (bodies_of found) log
  pub places : found ≡ handed_frames (frames_from (start (meaning.meters log.disk).capacity log.region) stands.raw)
