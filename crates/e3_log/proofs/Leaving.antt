-- What the calls of a log leave, by what its disk held before.
use Rattle.std.proofs.Common.{◌≡◌, ◌≢◌, ◌⊎◌, inl, inr, ℕ, ◌+◌, ◌<◌, ◌≤◌, ◌^◌, true, List, Option, [], ◌∷◌, ◌++◌, length, refl, sym, ◌∙◌, ap, subst, arith, append_assoc, length-append}
use Rattle.std.specs.Prelude.{slice_index}
use Rattle.std.specs.Int.{w32, to_be_bytes}
use Rattle.e3_disk.specs.Images.{Torn, overwritten}
use Rattle.e3_log.specs.declared.region.Front.{Front}
use Rattle.e3_log.specs.declared.region.Front.TheVariants.{Shut, Whole}
use Rattle.e3_log.specs.declared.region.Found.TheVariants.{Active}
use Rattle.e3_log.specs.declared.region.Region.{Region}
use Rattle.e3_log.specs.Frames.{OPEN, frame, frames, IsClosed, Fits, Reads}
use Rattle.e3_log.specs.Fronts.{TURN, turned, bodies_in, front_of, found_of, is_open, FrontIs, WholeFront}
use Rattle.e3_log.specs.Reading.{HoldsAs, ReadsAs}
use Rattle.e3_log.specs.Regions.{half, start, limit, size, other, piece}
use Rattle.e3_log.specs.Stands.{Leaves, staged}
use Rattle.e3_log.proofs.Append.{frames_push}
use Rattle.e3_log.proofs.Choosing.{untold, told_turned, handed_turned, bodies_push, append_active, turn_active, clear_active, both_open, other_twice}
use Rattle.e3_log.proofs.Pieces.{start_inside, limit_is, other_same, over_torn, staging, gating, final, other_staging, other_gating, final_torn, long_staging, long_gating, shutting}
use Rattle.e3_log.proofs.Windows.{torn_window, over_window}

-- frames begin as they read
pub front_reads : (raw : List (List ℕ)) (bytes : List ℕ) → Reads raw bytes → FrontIs bytes (front_of raw)
front_reads [] bytes reads = subst (λ (l : List ℕ). IsClosed l) (sym reads.parts) reads.closed
front_reads (b ∷ bs) bytes reads = record {
  body = b;
  rest = frames bs ++ reads.rest;
  parts = reads.parts ∙ append_assoc (frame b) (frames bs) reads.rest;
  fits = reads.fits.0;
  tells = refl;
}

same_front : (capacity : ℕ) (region : Region) (front : Front) (a b : List ℕ) → piece capacity region b ≡ piece capacity region a → FrontIs (piece capacity region a) front → FrontIs (piece capacity region b) front
same_front capacity region front a b same is = subst (λ (l : List ℕ). FrontIs l front) (sym same) is

same_reads : (capacity : ℕ) (region : Region) (raw : List (List ℕ)) (a b : List ℕ) → piece capacity region b ≡ piece capacity region a → Reads raw (piece capacity region a) → Reads raw (piece capacity region b)
same_reads capacity region raw a b same reads = subst (λ (l : List ℕ). Reads raw l) (sym same) reads

-- a frame is added
module _ (capacity : ℕ) (region : Region) (generation : ℕ) (raw : List (List ℕ)) (spare : Front) (content : List ℕ) (holds : HoldsAs capacity region generation raw spare content)
    (end : ℕ) (end_is : end ≡ start capacity region + length (frames raw)) (body : List ℕ) (fits : Fits body) (tag : slice_index body 0 ≢ TURN)
    (need : end + 6 + length body ≤ limit capacity region) where
  abbrev middle : List ℕ
  middle = overwritten content (end + 1) (staged body)

  active_more : found_of region (front_of (raw ++ body ∷ [])) spare ≡ Active region generation
  active_more = append_active region raw spare generation body (untold body tag) holds.active

  pub appended : (new : List ℕ) → new ≡ overwritten middle end (OPEN ∷ []) → HoldsAs capacity region generation (raw ++ body ∷ []) spare new
  appended new is =
      let t = final_torn capacity region raw content holds.whole holds.reads end end_is body fits need new is in
      record {
        whole = long_gating capacity region raw content holds.whole holds.reads end end_is body fits need new t;
        reads = final capacity region raw content holds.whole holds.reads end end_is body fits need new is;
        spare_is = same_front capacity (other region) spare content new (other_gating capacity region raw content holds.whole holds.reads end end_is body fits need new t) holds.spare_is;
        active = active_more;
      }

  pub append_leaves : (c : List ℕ) → Leaves content end (staged body) c → ReadsAs capacity generation (bodies_in raw) c ⊎ ReadsAs capacity generation (bodies_in raw ++ body ∷ []) c
  append_leaves c (inl t) = inl (record {
    region = region;
    raw = raw;
    spare = spare;
    holds = record {
      whole = long_staging capacity (end + 1) (length (staged body)) content c holds.whole t;
      reads = staging capacity region raw content holds.whole holds.reads end end_is (length (staged body)) c t;
      spare_is = same_front capacity (other region) spare content c (other_staging capacity region raw content holds.whole holds.reads end end_is body fits need c t) holds.spare_is;
      active = holds.active;
    };
    bodies_are = refl;
  })
  append_leaves c (inr t) = by (gating capacity region raw content holds.whole holds.reads end end_is body fits need c t)
    where
      whole : half capacity < length c
      whole = long_gating capacity region raw content holds.whole holds.reads end end_is body fits need c t

      spare_is : FrontIs (piece capacity (other region) c) spare
      spare_is = same_front capacity (other region) spare content c (other_gating capacity region raw content holds.whole holds.reads end end_is body fits need c t) holds.spare_is

      by : Reads raw (piece capacity region c) ⊎ Reads (raw ++ body ∷ []) (piece capacity region c) → ReadsAs capacity generation (bodies_in raw) c ⊎ ReadsAs capacity generation (bodies_in raw ++ body ∷ []) c
      by (inl reads) = inl (record {
        region = region;
        raw = raw;
        spare = spare;
        holds = record { whole = whole; reads = reads; spare_is = spare_is; active = holds.active };
        bodies_are = refl;
      })
      by (inr reads) = inr (record {
        region = region;
        raw = raw ++ body ∷ [];
        spare = spare;
        holds = record { whole = whole; reads = reads; spare_is = spare_is; active = active_more };
        bodies_are = sym (bodies_push raw body (untold body tag));
      })

pub end_push : (raw : List (List ℕ)) (body : List ℕ) (at end : ℕ) → end ≡ at + length (frames raw) → end + 5 + length body ≡ at + length (frames (raw ++ body ∷ []))
end_push raw body at end is = omega (arith, is, ap (λ (l : List ℕ). length l) (frames_push raw body), length-append (frames raw) (frame body), length-append (to_be_bytes w32 (length body)) body)

-- a closed region has no frames
shut_reads : (bytes : List ℕ) → IsClosed bytes → Reads [] bytes
shut_reads bytes closed = record { rest = bytes; parts = refl; closed = closed; fits = tt }

reads_shut : (bytes : List ℕ) → Reads [] bytes → IsClosed bytes
reads_shut bytes reads = subst (λ (l : List ℕ). IsClosed l) (sym reads.parts) reads.closed

-- the log is turned to the other region, which is closed
module _ (capacity : ℕ) (region : Region) (generation : ℕ) (raw : List (List ℕ)) (content : List ℕ) (holds : HoldsAs capacity region generation raw Shut content)
    (body : List ℕ) (few : generation + 1 < 2 ^ 32) (fits : Fits (turned (generation + 1) body))
    (place : ℕ) (place_is : place ≡ start capacity (other region)) (need : place + 6 + length (turned (generation + 1) body) ≤ limit capacity (other region)) where
  abbrev first : List ℕ
  first = turned (generation + 1) body

  abbrev turning : List ℕ
  turning = overwritten content (place + 1) (staged first)

  there : Reads [] (piece capacity (other region) content)
  there = shut_reads (piece capacity (other region) content) holds.spare_is

  at : place ≡ start capacity (other region) + 0
  at = omega (arith, place_is)

  -- the region that counted is the other one's other
  kept : (c : List ℕ) → piece capacity (other (other region)) c ≡ piece capacity (other (other region)) content → piece capacity region c ≡ piece capacity region content
  kept c same = subst (λ (r : Region). piece capacity r c ≡ piece capacity r content) (other_twice region) same

  whole_after : (c : List ℕ) → Torn place 1 turning c → half capacity < length c
  whole_after c t = long_gating capacity (other region) [] content holds.whole there place at first fits need c t

  reads_after : (c : List ℕ) → Torn place 1 turning c → Reads raw (piece capacity region c)
  reads_after c t = same_reads capacity region raw content c (kept c (other_gating capacity (other region) [] content holds.whole there place at first fits need c t)) holds.reads

  as_turned : (c : List ℕ) → half capacity < length c → Reads raw (piece capacity region c) → Reads (first ∷ []) (piece capacity (other region) c)
      → HoldsAs capacity (other region) (generation + 1) (first ∷ []) (front_of raw) c
  as_turned c whole before reads = record {
    whole = whole;
    reads = reads;
    spare_is = subst (λ (r : Region). FrontIs (piece capacity r c) (front_of raw)) (sym (other_twice region)) (front_reads raw (piece capacity region c) before);
    active = ap (λ (o : Option ℕ). found_of (other region) (Whole o) (front_of raw)) (told_turned (generation + 1) body few) ∙ turn_active region raw generation holds.active;
  }

  pub turned_to : (new : List ℕ) → new ≡ overwritten turning place (OPEN ∷ []) → HoldsAs capacity (other region) (generation + 1) (first ∷ []) (front_of raw) new
  turned_to new is =
      let t = final_torn capacity (other region) [] content holds.whole there place at first fits need new is in
      as_turned new (whole_after new t) (reads_after new t) (final capacity (other region) [] content holds.whole there place at first fits need new is)

  as_before : (c : List ℕ) → half capacity < length c → Reads raw (piece capacity region c) → Reads [] (piece capacity (other region) c) → ReadsAs capacity generation (bodies_in raw) c
  as_before c whole before none = record {
    region = region;
    raw = raw;
    spare = Shut;
    holds = record { whole = whole; reads = before; spare_is = reads_shut (piece capacity (other region) c) none; active = holds.active };
    bodies_are = refl;
  }

  pub turn_leaves : (c : List ℕ) → Leaves content place (staged first) c → ReadsAs capacity generation (bodies_in raw) c ⊎ ReadsAs capacity (generation + 1) (body ∷ []) c
  turn_leaves c (inl t) = inl (as_before c (long_staging capacity (place + 1) (length (staged first)) content c holds.whole t)
      (same_reads capacity region raw content c (kept c (other_staging capacity (other region) [] content holds.whole there place at first fits need c t)) holds.reads)
      (staging capacity (other region) [] content holds.whole there place at (length (staged first)) c t))
  turn_leaves c (inr t) = by (gating capacity (other region) [] content holds.whole there place at first fits need c t)
    where
      by : Reads [] (piece capacity (other region) c) ⊎ Reads (first ∷ []) (piece capacity (other region) c) → ReadsAs capacity generation (bodies_in raw) c ⊎ ReadsAs capacity (generation + 1) (body ∷ []) c
      by (inl none) = inl (as_before c (whole_after c t) (reads_after c t) none)
      by (inr reads) = inr (record {
        region = other region;
        raw = first ∷ [];
        spare = front_of raw;
        holds = as_turned c (whole_after c t) (reads_after c t) reads;
        bodies_are = ap (λ b. b ∷ []) (sym (handed_turned (generation + 1) body few));
      })

-- the other region is closed
module _ (capacity : ℕ) (region : Region) (generation : ℕ) (raw : List (List ℕ)) (spare : Front) (content : List ℕ) (holds : HoldsAs capacity region generation raw spare content)
    (opens : is_open spare ≡ true) (place : ℕ) (place_is : place ≡ start capacity (other region)) (room : place + 1 ≤ limit capacity (other region)) where
  own_same : (c : List ℕ) → Torn place 1 content c → piece capacity region c ≡ piece capacity region content
  own_same c t =
      subst (λ (r : Region). piece capacity r c ≡ piece capacity r content) (other_twice region)
      (other_same capacity (other region) place 1 content c holds.whole (omega (arith, place_is)) room t)

  seen : (c : List ℕ) → Torn place 1 content c → Torn 0 1 (piece capacity (other region) content) (piece capacity (other region) c)
  seen c t = torn_window (start capacity (other region)) (size capacity (other region)) 0 place 1 content c (start_inside capacity (other region) content holds.whole) (omega (arith, place_is)) t

  shut_holds : (c : List ℕ) → Torn place 1 content c → IsClosed (piece capacity (other region) c) → HoldsAs capacity region generation raw Shut c
  shut_holds c t closed = record {
    whole = long_staging capacity place 1 content c holds.whole t;
    reads = same_reads capacity region raw content c (own_same c t) holds.reads;
    spare_is = closed;
    active = clear_active region (front_of raw) spare generation holds.active (both_open region raw spare generation holds.active opens).0;
  }

  pub cleared : (new : List ℕ) → new ≡ overwritten content place (0 ∷ []) → HoldsAs capacity region generation raw Shut new
  cleared new is =
      let inside : place ≤ length content = omega (arith, place_is, start_inside capacity (other region) content holds.whole) in
      let t : Torn place 1 content new = subst (λ (l : List ℕ). Torn place 1 content l) (sym is) (over_torn place (0 ∷ []) content inside) in
      let zero : piece capacity (other region) new ≡ overwritten (piece capacity (other region) content) 0 (0 ∷ []) =
      ap (λ (l : List ℕ). piece capacity (other region) l) is
      ∙ over_window (start capacity (other region)) (size capacity (other region)) 0 place (0 ∷ []) content (omega (arith, place_is)) (omega (arith, inside, place_is)) (omega (arith, room, place_is, limit_is capacity (other region))) in
      shut_holds new t (subst (λ (l : List ℕ). IsClosed l) (sym zero) (λ e. absurd cc))

  pub clear_leaves : (c : List ℕ) → Torn place 1 content c → ReadsAs capacity generation (bodies_in raw) c
  clear_leaves c t = by (both_open region raw spare generation holds.active opens).1
    where
      as_shut : IsClosed (piece capacity (other region) c) → ReadsAs capacity generation (bodies_in raw) c
      as_shut closed = record { region = region; raw = raw; spare = Shut; holds = shut_holds c t closed; bodies_are = refl }

      as_open : piece capacity (other region) c ≡ piece capacity (other region) content → ReadsAs capacity generation (bodies_in raw) c
      as_open same = record {
        region = region;
        raw = raw;
        spare = spare;
        holds = record {
          whole = long_staging capacity place 1 content c holds.whole t;
          reads = same_reads capacity region raw content c (own_same c t) holds.reads;
          spare_is = same_front capacity (other region) spare content c same holds.spare_is;
          active = holds.active;
        };
        bodies_are = refl;
      }

      by : ((told : Option ℕ) × (spare ≡ Whole told)) → ReadsAs capacity generation (bodies_in raw) c
      by (told, is) =
          let front : WholeFront (piece capacity (other region) content) told = subst (λ (f : Front). FrontIs (piece capacity (other region) content) f) is holds.spare_is in
          let parts : piece capacity (other region) content ≡ OPEN ∷ ((to_be_bytes w32 (length front.body) ++ front.body) ++ front.rest) = front.parts in
          elim (shutting OPEN ((to_be_bytes w32 (length front.body) ++ front.body) ++ front.rest) (piece capacity (other region) c) refl
          (subst (λ (l : List ℕ). Torn 0 1 l (piece capacity (other region) c)) parts (seen c t))) [
            | inl same ↦ as_open (same ∙ sym parts)
            | inr closed ↦ as_shut closed
          ]
