-- What stands at a place of a disk, a frame or a closed gate; and what calls that only read ask of a disk, and do to it.
use Rattle.std.specs.Prelude.{◌≡◌, ℕ, ◌+◌, ◌-◌, ◌^◌, ◌<◌, ◌≤◌, true, false, Option, Some, None, Result, IsErrOf, List, ◌++◌, length, take, drop}
use Rattle.e3_disk.specs.Images.{Within}
use Rattle.e3_disk.specs.Meaning.{Meaning}
use Rattle.e3_disk.specs.Meters.{Meters, HasFailed, Keeps}
use Rattle.e3_log.specs.declared.fault.OpenCause.{OpenCause}
use Rattle.e3_log.specs.declared.fault.OpenCause.TheVariants.{Failed}
use Rattle.e3_log.specs.declared.open.FrameHead.{FrameHead}
use Rattle.e3_log.specs.declared.open.FrameHead.TheVariants.{Shut, Whole, Broken}
use Rattle.e3_log.specs.declared.open.Span.{Span}
use Rattle.e3_log.specs.Frames.{frame, IsClosed, Fits, NoFrame}

-- The bytes at this place are the frame of this body.
pub record FrameAt (content : List ℕ) (at : ℕ) (body : List ℕ) : Type 0 where
  pub parts : drop at content ≡ frame body ++ drop (at + 5 + length body) content
  pub within : at + 5 + length body ≤ length content
  pub fits : Fits body

-- The bytes at this place are a frame, or a closed gate.
abbrev pub NextIs : List ℕ → ℕ → Option (List ℕ) → Type 0
NextIs content at None = IsClosed (drop at content)
NextIs content at (Some body) = FrameAt content at body

-- At this place begins a frame whose body has this length, and it ends within so many bytes.
pub record IsSized (count : ℕ) (content : List ℕ) (at size : ℕ) : Type 0 where
  pub within : at + 5 + size ≤ count
  pub frame_is : (body : List ℕ) → body ≡ take size (drop (at + 5) content) → FrameAt content at body

-- The bytes at this place are the head of a frame that ends within so many bytes, a closed gate, or neither.
abbrev pub HeadIs : ℕ → List ℕ → ℕ → FrameHead → Type 0
HeadIs count content at Shut = IsClosed (drop at content)
HeadIs count content at (Whole size) = IsSized count content at size
HeadIs count content at Broken = NoFrame (drop at content)

-- So many calls are taken from an armed disk, which has more than those left.
abbrev pub TakesCalls : ℕ → Meters → Meters → Type 0
TakesCalls count old new = (new.calls_left ≡ old.calls_left - count) × (0 < old.calls_left → count < old.calls_left)

-- An open that did not fail takes one call from an armed disk, which has two left at least.
abbrev pub TakesOne : Meters → Meters → Type 0
TakesOne old new = TakesCalls 1 old new

-- The power was off and stays off, and nothing is counted.
abbrev pub StaysOff : Meters → Meters → Type 0
StaysOff old new =
    (new.powered ≡ false) × (new.faults ≡ old.faults) × (new.stops ≡ old.stops) × (new.calls_left ≡ old.calls_left)

-- The power stays on, and no arm ran out.
abbrev pub StaysOn : Meters → Meters → Type 0
StaysOn old new = (new.powered ≡ true) × (new.stops ≡ old.stops)

-- A range of a disk may be read: the disk has the range and power.
pub record MayRead {D : Type 0} (meaning : Meaning D) (disk : D) (span : Span) : Type 0 where
  pub inside : span.from + span.count ≤ length (meaning.content disk)
  pub bound : span.from + span.count ≤ 2 ^ 31
  pub power : (meaning.meters disk).powered ≡ true

-- A disk that holds so many bytes may be read: it has power, and a capacity as a log takes it.
pub record HoldsSoMany {D : Type 0} (meaning : Meaning D) (disk : D) (capacity len : ℕ) : Type 0 where
  pub len_is : len ≡ length (meaning.content disk)
  pub within : len ≤ capacity
  pub least : 2 ≤ capacity
  pub most : capacity ≤ 2 ^ 30
  pub power : (meaning.meters disk).powered ≡ true

-- What calls that only read do to a disk.
pub record Looks {D T : Type 0} (meaning : Meaning D) (old new : D) (result : Result T OpenCause) : Type 0 where
  pub same : (IsErrOf result Failed → ⊥) → meaning.content new ≡ meaning.content old
  pub images : Within (meaning.image old) (meaning.image new)
  pub keeps : Keeps (meaning.meters old) (meaning.meters new)
  pub failed : IsErrOf result Failed → HasFailed (meaning.meters old).faults (meaning.meters new).faults
  pub still : (IsErrOf result Failed → ⊥) →
      ((meaning.meters new).powered ≡ true) × ((meaning.meters new).stops ≡ (meaning.meters old).stops)
      × ((meaning.meters new).calls_left ≡ (meaning.meters old).calls_left)
