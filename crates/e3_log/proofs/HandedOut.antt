-- What frames hand out.
use Rattle.std.proofs.Common.{◌≡◌, ◌<◌, ◌≤◌, ◌+◌, ◌^◌, ◌&&◌, ◌==◌, ◌∷◌, [], ℕ, Bool, true, false, List, Option, Some, None, length, drop, refl, sym, ap, subst, ◌∙◌, arith, leb-true, take, length-take}
use Rattle.std.specs.Prelude.{nat_le, slice_index, Result, IfOk}
use Rattle.e3_types.specs.declared.list.NoMemory.{NoMemory}
use Rattle.std.proofs.lemmas.Bool.{and_parts, true≢false}
use Rattle.e3_log.specs.declared.open.Frame.{Frame}
use Rattle.e3_log.specs.declared.region.Front.{Front}
use Rattle.e3_log.specs.declared.region.Front.TheVariants.{Whole}
use Rattle.e3_log.specs.Found.{bodies_of, frames_from, handed_frames, short_frame, IsRaw}
use Rattle.e3_log.specs.Fronts.{TURN, told_by, bodies_in, is_told}

-- a body that tells a generation has five bytes
pub told_long : (l : List ℕ) (g : ℕ) → told_by l ≡ Some g → 5 ≤ length l
told_long l g is = by (nat_le 5 (length l) && (slice_index l 0 == TURN)) refl
  where
    by : (b : Bool) → (nat_le 5 (length l) && (slice_index l 0 == TURN)) ≡ b → 5 ≤ length l
    by true e = leb-true 5 (length l) (and_parts (nat_le 5 (length l)) (slice_index l 0 == TURN) e).0
    by false e = absurd (let h : None ≡ Some g = rw e at is in cc)

told_short : (l : List ℕ) → length l < 5 → None ≡ told_by l
told_short l short = by (told_by l) refl
  where
    by : (o : Option ℕ) → told_by l ≡ o → None ≡ told_by l
    by (Some g) e = absurd (omega (arith, told_long l g e, short))
    by None e = sym e

-- fewer than five bytes tell no generation
pub told_few : (n : ℕ) (l : List ℕ) → n < 5 → None ≡ told_by (take n l)
told_few n l few = told_short (take n l) (omega (arith, length-take n l))

some_told : (o : Option ℕ) → is_told (Whole o) ≡ true → (g : ℕ) × (o ≡ Some g)
some_told (Some g) is = (g, refl)
some_told None is = absurd cc

pub raw_some : (from : ℕ) (region_front : Front) (found : List Frame) → IsRaw from region_front found → is_told region_front ≡ true → 0 < length found
raw_some from region_front [] raw told = absurd (true≢false (sym told ∙ ap is_told raw.front))
raw_some from region_front (f ∷ fs) raw told = omega arith

head_told : (from : ℕ) (region_front : Front) (f : Frame) (fs : List Frame) → IsRaw from region_front (f ∷ fs) → is_told region_front ≡ true → (g : ℕ) × (told_by f.body ≡ Some g)
head_told from region_front f fs raw told = some_told (told_by f.body) (sym (ap is_told raw.front) ∙ told)

pub raw_head : (from : ℕ) (region_front : Front) (found : List Frame) → IsRaw from region_front found → is_told region_front ≡ true → from ≤ 2 ^ 30 → (first : Frame) (more : List Frame) → found ≡ first ∷ more
    → (first.place < 2 ^ 32) × (5 ≤ length first.body)
raw_head from region_front found raw told low first more is =
    let here : IsRaw from region_front (first ∷ more) = subst (λ (l : List Frame). IsRaw from region_front l) is raw in
    let t = head_told from region_front first more here told in
    let same : first ≡ record { place = from + 5; body = first.body } = head_is first more from here.places in
    let place : first.place ≡ from + 5 = ap (λ (f : Frame). f.place) same in
    (omega (arith, place, low), told_long first.body t.0 t.1)
  where
    head_is : (first : Frame) (more : List Frame) (from : ℕ) → (first ∷ more) ≡ frames_from from (bodies_of (first ∷ more)) → first ≡ record { place = from + 5; body = first.body }
    head_is first more from e = cc

pub raw_handed : (from : ℕ) (region_front : Front) (found : List Frame) → IsRaw from region_front found → is_told region_front ≡ true → (first : Frame) (more : List Frame) → found ≡ first ∷ more
    → handed_frames found ≡ short_frame first ∷ more
raw_handed from region_front found raw told first more is =
    let here : IsRaw from region_front (first ∷ more) = subst (λ (l : List Frame). IsRaw from region_front l) is raw in
    let t = head_told from region_front first more here told in
    ap handed_frames is ∙ its t.0 t.1
  where
    its : (g : ℕ) → told_by first.body ≡ Some g → handed_frames (first ∷ more) ≡ short_frame first ∷ more
    its g e = rw e refl

pub raw_untold : (from : ℕ) (region_front : Front) (found : List Frame) → IsRaw from region_front found → is_told region_front ≡ false → handed_frames found ≡ found
raw_untold from region_front [] raw told = refl
raw_untold from region_front (f ∷ fs) raw told = by (told_by f.body) refl
  where
    by : (o : Option ℕ) → told_by f.body ≡ o → handed_frames (f ∷ fs) ≡ f ∷ fs
    by None e = rw e refl
    by (Some g) e = absurd (true≢false (sym (ap (λ o. is_told (Whole o)) e) ∙ (sym (ap is_told raw.front) ∙ told)))

-- the bodies that are handed out
pub bodies_handed : (found : List Frame) → bodies_of (handed_frames found) ≡ bodies_in (bodies_of found)
bodies_handed [] = refl
bodies_handed (f ∷ fs) = by (told_by f.body) refl
  where
    by : (o : Option ℕ) → told_by f.body ≡ o → bodies_of (handed_frames (f ∷ fs)) ≡ bodies_in (bodies_of (f ∷ fs))
    by None e = rw e refl
    by (Some g) e = rw e refl

-- what is handed out where the first frame tells a generation
pub handed_out : (from : ℕ) (region_front : Front) (found : List Frame) → IsRaw from region_front found → is_told region_front ≡ true → (r : Result (List Frame) NoMemory)
    → ((first : Frame) (more : List Frame) → found ≡ first ∷ more → IfOk r (λ out. out ≡ (record { place = from + 10; body = drop 5 first.body }) ∷ more))
    → IfOk r (λ out. out ≡ handed_frames found)
handed_out from region_front [] raw told r makes = absurd (omega (arith, raw_some from region_front [] raw told))
handed_out from region_front (f ∷ fs) raw told r makes =
    let place : f.place ≡ from + 5 = ap (λ (x : Frame). x.place) (head_place f fs from raw.places) in
    let same : (record { place = from + 10; body = drop 5 f.body }) ∷ fs ≡ handed_frames (f ∷ fs) =
    ap (λ (p : ℕ). (record { place = p; body = drop 5 f.body }) ∷ fs) (omega (arith, place)) ∙ sym (raw_handed from region_front (f ∷ fs) raw told f fs refl) in
    subst (λ (l : List Frame). IfOk r (λ out. out ≡ l)) same (makes f fs refl)
  where
    head_place : (first : Frame) (more : List Frame) (from : ℕ) → (first ∷ more) ≡ frames_from from (bodies_of (first ∷ more)) → first ≡ record { place = from + 5; body = first.body }
    head_place first more from e = cc
