-- Bytes read as one list of bodies, or are damaged at one place.
use Rattle.std.proofs.Common.{◌≡◌, inl, inr, ℕ, zero, suc, ◌+◌, ◌-◌, ◌<◌, ◌≤◌, List, Option, [], length, take, refl, sym, ◌∙◌, ap, subst, arith}
use Rattle.std.specs.Prelude.{replicate}
use Rattle.std.proofs.lemmas.List.{take-replicate, drop-replicate, length-replicate, take_all}
use Rattle.e3_log.specs.declared.region.Front.{Front}
use Rattle.e3_log.specs.declared.region.Front.TheVariants.{Shut, Whole, Broken}
use Rattle.e3_log.specs.declared.region.Found.{Found}
use Rattle.e3_log.specs.declared.region.Found.TheVariants.{Active, Damaged}
use Rattle.e3_log.specs.declared.region.Region.{Region}
use Rattle.e3_log.specs.declared.region.Region.TheVariants.{First, Second}
use Rattle.e3_log.specs.Frames.{IsClosed, Reads, BrokenAt}
use Rattle.e3_log.specs.Fronts.{told_by, bodies_in, front_of, active_of, FrontIs}
use Rattle.e3_log.specs.Reading.{HoldsAs, ReadsAs, HasFronts, DamagedAt}
use Rattle.e3_log.specs.Regions.{half, start, piece}
use Rattle.e3_log.proofs.Leaving.{front_reads}
use Rattle.e3_log.proofs.One.{closed_end, frame_free, one_reading, never_damaged, one_damage}

-- a range begins in one way
pub one_front : (bytes : List ℕ) (f g : Front) → FrontIs bytes f → FrontIs bytes g → f ≡ g
one_front bytes Shut Shut p q = refl
one_front bytes Shut (Whole told) p q = absurd (closed_end bytes p q.body q.rest q.fits q.parts)
one_front bytes Shut Broken p q = absurd (q.shut p)
one_front bytes (Whole told) Shut p q = absurd (closed_end bytes q p.body p.rest p.fits p.parts)
one_front bytes (Whole told) (Whole other_told) p q =
    let same = frame_free p.body q.body p.rest q.rest p.fits q.fits (sym p.parts ∙ q.parts) in
    ap (λ (o : Option ℕ). Whole o) (p.tells ∙ ap told_by same.0 ∙ sym q.tells)
one_front bytes (Whole told) Broken p q = absurd (q.none p.body p.rest p.fits p.parts)
one_front bytes Broken Shut p q = absurd (p.shut q)
one_front bytes Broken (Whole told) p q = absurd (p.none q.body q.rest q.fits q.parts)
one_front bytes Broken Broken p q = refl

-- how both regions begin where bytes read as bodies
record Fronts (capacity : ℕ) (bytes : List ℕ) (region : Region) (generation : ℕ) : Type 0 where
  first : Front
  second : Front
  fronts : HasFronts capacity bytes first second
  found : active_of first second ≡ Active region generation

fronts_of : (capacity : ℕ) (region : Region) (generation : ℕ) (raw : List (List ℕ)) (spare : Front) (bytes : List ℕ) → HoldsAs capacity region generation raw spare bytes → Fronts capacity bytes region generation
fronts_of capacity First generation raw spare bytes h = record {
  first = front_of raw;
  second = spare;
  fronts = record { whole = h.whole; first_is = front_reads raw (piece capacity First bytes) h.reads; second_is = h.spare_is };
  found = h.active;
}
fronts_of capacity Second generation raw spare bytes h = record {
  first = spare;
  second = front_of raw;
  fronts = record { whole = h.whole; first_is = h.spare_is; second_is = front_reads raw (piece capacity Second bytes) h.reads };
  found = h.active;
}

one_found : (capacity : ℕ) (bytes : List ℕ) (a b c d : Front) → HasFronts capacity bytes a b → HasFronts capacity bytes c d → active_of a b ≡ active_of c d
one_found capacity bytes a b c d p q = λ i. active_of (one_front (piece capacity First bytes) a c p.first_is q.first_is i) (one_front (piece capacity Second bytes) b d p.second_is q.second_is i)

abbrev region_of : Found → Region
region_of (Active region generation) = region
region_of (Damaged region) = region

same_active : (r s : Region) (g h : ℕ) → Active r g ≡ Active s h → (r ≡ s) × (g ≡ h)
same_active r s g h e = let x : r ≡ s = cc in let y : g ≡ h = cc in (x, y)

pub one_text : (capacity g h : ℕ) (bs cs : List (List ℕ)) (bytes : List ℕ) → ReadsAs capacity g bs bytes → ReadsAs capacity h cs bytes → (bs ≡ cs) × (g ≡ h)
one_text capacity g h bs cs bytes p q =
    let x = fronts_of capacity p.region g p.raw p.spare bytes p.holds in
    let y = fronts_of capacity q.region h q.raw q.spare bytes q.holds in
    let both = same_active p.region q.region g h (sym x.found ∙ one_found capacity bytes x.first x.second y.first y.second x.fronts y.fronts ∙ y.found) in
    let reads : Reads p.raw (piece capacity q.region bytes) = subst (λ (r : Region). Reads p.raw (piece capacity r bytes)) both.0 p.holds.reads in
    (p.bodies_are ∙ ap bodies_in (one_reading p.raw q.raw (piece capacity q.region bytes) reads q.holds.reads) ∙ sym q.bodies_are, both.1)

pub not_damaged : (capacity g : ℕ) (bs : List (List ℕ)) (bytes : List ℕ) (at : ℕ) → ReadsAs capacity g bs bytes → DamagedAt capacity bytes at → ⊥
not_damaged capacity g bs bytes at p (inl short) = absurd (omega (arith, p.holds.whole, short.short))
not_damaged capacity g bs bytes at p (inr (inl front)) =
    let x = fronts_of capacity p.region g p.raw p.spare bytes p.holds in
    let e : Active p.region g ≡ Damaged front.region = sym x.found ∙ one_found capacity bytes x.first x.second front.first front.second x.fronts front.fronts ∙ front.found in cc
not_damaged capacity g bs bytes at p (inr (inr bad)) =
    let x = fronts_of capacity p.region g p.raw p.spare bytes p.holds in
    let both = same_active p.region bad.region g bad.generation (sym x.found ∙ one_found capacity bytes x.first x.second bad.first bad.second x.fronts bad.fronts ∙ bad.found) in
    never_damaged p.raw (piece capacity bad.region bytes) bad.within (subst (λ (r : Region). Reads p.raw (piece capacity r bytes)) both.0 p.holds.reads) bad.broken

pub one_place : (capacity : ℕ) (bytes : List ℕ) (at place : ℕ) → DamagedAt capacity bytes at → DamagedAt capacity bytes place → at ≡ place
one_place capacity bytes at place (inl p) (inl q) = p.place ∙ sym q.place
one_place capacity bytes at place (inl p) (inr (inl q)) = absurd (omega (arith, p.short, q.fronts.whole))
one_place capacity bytes at place (inl p) (inr (inr q)) = absurd (omega (arith, p.short, q.fronts.whole))
one_place capacity bytes at place (inr (inl p)) (inl q) = absurd (omega (arith, q.short, p.fronts.whole))
one_place capacity bytes at place (inr (inr p)) (inl q) = absurd (omega (arith, q.short, p.fronts.whole))
one_place capacity bytes at place (inr (inl p)) (inr (inl q)) =
    let e : Damaged p.region ≡ Damaged q.region = sym p.found ∙ one_found capacity bytes p.first p.second q.first q.second p.fronts q.fronts ∙ q.found in
    let same : p.region ≡ q.region = ap region_of e in
    p.place ∙ ap (λ r. start capacity r) same ∙ sym q.place
one_place capacity bytes at place (inr (inl p)) (inr (inr q)) =
    let e : Damaged p.region ≡ Active q.region q.generation = sym p.found ∙ one_found capacity bytes p.first p.second q.first q.second p.fronts q.fronts ∙ q.found in absurd cc
one_place capacity bytes at place (inr (inr p)) (inr (inl q)) =
    let e : Active p.region p.generation ≡ Damaged q.region = sym p.found ∙ one_found capacity bytes p.first p.second q.first q.second p.fronts q.fronts ∙ q.found in absurd cc
one_place capacity bytes at place (inr (inr p)) (inr (inr q)) =
    let both = same_active p.region q.region p.generation q.generation (sym p.found ∙ one_found capacity bytes p.first p.second q.first q.second p.fronts q.fronts ∙ q.found) in
    let broken : BrokenAt (piece capacity q.region bytes) p.within = subst (λ (r : Region). BrokenAt (piece capacity r bytes) p.within) both.0 p.broken in
    let same : p.within ≡ q.within = one_damage (piece capacity q.region bytes) p.within q.within broken q.broken in
    p.place ∙ (λ i. start capacity (both.0 i) + same i) ∙ sym q.place

-- zeros are a closed gate, with anything behind
zeros_closed : (l : List ℕ) (k : ℕ) → l ≡ replicate k 0 → 0 < k → IsClosed l
zeros_closed l zero is some = absurd (omega arith)
zeros_closed l (suc k) is some = subst (λ (x : List ℕ). IsClosed x) (sym is) (λ e. absurd cc)

pub blank_text : (capacity : ℕ) → 2 ≤ capacity → ReadsAs capacity 0 [] (replicate (half capacity + 1) 0)
blank_text capacity least =
    let n = half capacity + 1 in
    let front : piece capacity First (replicate n 0) ≡ replicate (half capacity) 0 = take-replicate (half capacity) n 0 (omega arith) in
    let left : n - half capacity ≡ 1 = omega arith in
    let back : piece capacity Second (replicate n 0) ≡ replicate 1 0 =
    ap (λ (l : List ℕ). take (capacity - half capacity) l) (drop-replicate (half capacity) n 0 ∙ ap (λ (k : ℕ). replicate k 0) left)
    ∙ take_all (capacity - half capacity) (replicate 1 0) (omega arith) in
    record {
      region = First;
      raw = [];
      spare = Shut;
      holds = record {
        whole = (let zeros : List ℕ = replicate n 0 in let len : length zeros ≡ n = length-replicate n 0 in omega (arith, len));
        reads = record {
          rest = piece capacity First (replicate n 0);
          parts = refl;
          closed = zeros_closed (piece capacity First (replicate n 0)) (half capacity) front (omega arith);
          fits = tt;
        };
        spare_is = zeros_closed (piece capacity Second (replicate n 0)) 1 back (omega arith);
        active = refl;
      };
      bodies_are = refl;
    }
