-- What was read of the region that counts.
use Rattle.std.proofs.Common.{◌≡◌, ◌<◌, ◌+◌, ℕ, List, length, refl, sym, ap, ◌∙◌, arith}
use Rattle.e3_log.specs.declared.open.Frame.{Frame}
use Rattle.e3_log.specs.declared.region.Front.{Front}
use Rattle.e3_log.specs.declared.region.Found.TheVariants.{Active}
use Rattle.e3_log.specs.declared.region.Region.{Region}
use Rattle.e3_log.specs.declared.region.Region.TheVariants.{First, Second}
use Rattle.e3_log.specs.Found.{bodies_of, handed_frames, IsRaw, IsHeld, ReadsTo}
use Rattle.e3_log.specs.Frames.{frames}
use Rattle.e3_log.specs.Fronts.{FrontIs, front_of, active_of, found_of, own_of, is_open}
use Rattle.e3_log.specs.Reading.{HasFronts}
use Rattle.e3_log.specs.Regions.{start, limit, other, piece}
use Rattle.e3_log.proofs.HandedOut.{bodies_handed}
use Rattle.e3_log.proofs.Leaving.{front_reads}
use Rattle.e3_log.proofs.Pieces.{gate_there, limit_is}
use Rattle.e3_log.proofs.Unique.{one_front}

own_is : (capacity : ℕ) (bytes : List ℕ) (region : Region) (first second : Front) → HasFronts capacity bytes first second → FrontIs (piece capacity region bytes) (own_of region first second)
own_is capacity bytes First first second fronts = fronts.first_is
own_is capacity bytes Second first second fronts = fronts.second_is

found_is : (region : Region) (first second : Front) → active_of first second ≡ found_of region (own_of region first second) (own_of (other region) first second)
found_is First first second = refl
found_is Second first second = refl

pub raw_read : (capacity : ℕ) (bytes : List ℕ) (region : Region) (first second : Front) (found : List Frame) (end : ℕ) → HasFronts capacity bytes first second
    → ReadsTo (start capacity region) (piece capacity region bytes) found end → IsRaw (start capacity region) (own_of region first second) found
raw_read capacity bytes region first second found end fronts read = record {
  places = read.places;
  front = one_front (piece capacity region bytes) (own_of region first second) (front_of (bodies_of found)) (own_is capacity bytes region first second fronts) (front_reads (bodies_of found) (piece capacity region bytes) read.reads);
}

pub held_read : (capacity : ℕ) (bytes : List ℕ) (region : Region) (generation : ℕ) (first second : Front) (found : List Frame) (end : ℕ) → HasFronts capacity bytes first second
    → active_of first second ≡ Active region generation → ReadsTo (start capacity region) (piece capacity region bytes) found end
    → IsHeld capacity bytes (record { region = region; generation = generation; frames = handed_frames found; end = start capacity region + end; spare_open = is_open (own_of (other region) first second) })
held_read capacity bytes region generation first second found end fronts active read =
    let raw : IsRaw (start capacity region) (own_of region first second) found = raw_read capacity bytes region first second found end fronts read in
    record {
      raw = bodies_of found;
      spare = own_of (other region) first second;
      holds = record {
        whole = fronts.whole;
        reads = read.reads;
        spare_is = own_is capacity bytes (other region) first second fronts;
        active = ap (λ (f : Front). found_of region f (own_of (other region) first second)) (sym raw.front) ∙ sym (found_is region first second) ∙ active;
      };
      bodies_are = bodies_handed found;
      places = ap handed_frames read.places;
      end_is = ap (λ k. start capacity region + k) read.end_is;
      spare_is = refl;
    }

pub end_read : (capacity : ℕ) (bytes : List ℕ) (region : Region) (first second : Front) (found : List Frame) (end : ℕ) → HasFronts capacity bytes first second
    → ReadsTo (start capacity region) (piece capacity region bytes) found end → (start capacity region + end < limit capacity region) × (start capacity region + end < length bytes)
end_read capacity bytes region first second found end fronts read =
    let there = gate_there capacity region (bodies_of found) bytes fronts.whole read.reads (start capacity region + length (frames (bodies_of found))) refl in
    (omega (arith, read.end_is, there.0, limit_is capacity region), omega (arith, read.end_is, there.1))
