-- What a log stands for behind each of its calls.
use Rattle.std.proofs.Common.{◌≡◌, ◌≢◌, inl, inr, ℕ, zero, suc, ◌+◌, ◌<◌, ◌≤◌, ◌^◌, true, false, List, [], ◌∷◌, ◌++◌, length, refl, sym, ◌∙◌, ap, subst, arith, length-append}
use Rattle.std.specs.Prelude.{slice_index, nat_lt}
use Rattle.std.proofs.lemmas.Bool.{lt-ltb, le-ltb}
use Rattle.std.specs.Int.{w32, to_be_bytes}
use Rattle.e3_disk.specs.Images.{Torn, Only, overwritten}
use Rattle.e3_disk.specs.Meaning.{Meaning}
use Rattle.e3_log.specs.declared.region.Front.{Front}
use Rattle.e3_log.specs.declared.region.Front.TheVariants.{Shut, Whole, Broken}
use Rattle.e3_log.specs.declared.region.Found.TheVariants.{Active}
use Rattle.e3_log.specs.declared.region.Region.{Region}
use Rattle.e3_log.specs.Frames.{OPEN, frame, frames, Fits}
use Rattle.e3_log.specs.Fronts.{TURN, turned, bodies_in, front_of, found_of, is_open}
use Rattle.e3_log.specs.Reading.{HoldsAs, ReadsAs}
use Rattle.e3_log.specs.Regions.{start, limit, other}
use Rattle.e3_log.specs.Stands.{LogState, Stands, EachReadsAs, Leaves, staged}
use Rattle.e3_log.proofs.Choosing.{untold, handed_turned, bodies_push}
use Rattle.e3_log.proofs.Leaving.{appended, append_leaves, end_push, turned_to, turn_leaves, cleared, clear_leaves}

-- the other region is closed where its gate is
shut_from : (region : Region) (raw : List (List ℕ)) (spare : Front) (g : ℕ) → found_of region (front_of raw) spare ≡ Active region g → false ≡ is_open spare → spare ≡ Shut
shut_from region raw Shut g active shut = refl
shut_from region raw (Whole told) g active shut = absurd cc
shut_from region raw Broken g active shut = absurd cc

pub turned_length : (g : ℕ) (body : List ℕ) → length (turned g body) ≡ length body + 5
turned_length g body = omega (arith, length-append (to_be_bytes w32 g) body)

-- the region that counted was open exactly where it has frames
open_from : (raw : List (List ℕ)) → is_open (front_of raw) ≡ nat_lt 0 (length (frames raw))
open_from [] = refl
open_from (b ∷ bs) = sym (lt-ltb 0 (length (frames (b ∷ bs))) (omega (arith, length-append (frame b) (frames bs))))

module _ {D : Type 0} (meaning : Meaning D) (bodies : List (List ℕ)) (log : LogState D) (st : Stands meaning bodies log) where
  abbrev capacity : ℕ
  capacity = (meaning.meters log.disk).capacity

  -- bodies are those that the frames hand out
  named : (g : ℕ) (c : List ℕ) → ReadsAs capacity g (bodies_in st.raw) c → ReadsAs capacity g bodies c
  named g c reads = subst (λ (bs : List (List ℕ)). ReadsAs capacity g bs c) (sym st.bodies_are) reads

  pub stands_each : (c : List ℕ) → meaning.image log.disk c → ReadsAs capacity log.generation bodies c
  stands_each c at =
      let now : ReadsAs capacity log.generation bodies (meaning.content log.disk) = record { region = log.region; raw = st.raw; spare = st.spare; holds = st.holds; bodies_are = st.bodies_are } in
      subst (λ (l : List ℕ). ReadsAs capacity log.generation bodies l) (sym (st.only c at)) now

  -- the same frames on another disk
  pub stands_on : (new : LogState D) → HoldsAs capacity log.region log.generation st.raw st.spare (meaning.content new.disk) → Only (meaning.content new.disk) (meaning.image new.disk)
      → (meaning.meters new.disk).capacity ≡ capacity → new.region ≡ log.region → new.generation ≡ log.generation → new.end ≡ log.end → new.spare_open ≡ log.spare_open → new.failed ≡ false
      → Stands meaning bodies new
  stands_on new holds only room region generation end spare sound = record {
    sound = sound;
    raw = st.raw;
    spare = st.spare;
    holds = moved new.region new.generation (meaning.meters new.disk).capacity region generation room;
    bodies_are = st.bodies_are;
    end_is = end ∙ st.end_is ∙ (λ i. start (sym room i) (sym region i) + length (frames st.raw));
    spare_is = spare ∙ st.spare_is;
    only = only;
  }
    where
      moved : (r : Region) (g k : ℕ) → r ≡ log.region → g ≡ log.generation → k ≡ capacity → HoldsAs k r g st.raw st.spare (meaning.content new.disk)
      moved r g k er eg ek =
          subst (λ (x : ℕ). HoldsAs x r g st.raw st.spare (meaning.content new.disk)) (sym ek)
          (subst (λ (x : Region). HoldsAs capacity x g st.raw st.spare (meaning.content new.disk)) (sym er)
          (subst (λ (x : ℕ). HoldsAs capacity log.region x st.raw st.spare (meaning.content new.disk)) (sym eg) holds))

  module _ (body : List ℕ) (fits : Fits body) (tag : slice_index body 0 ≢ TURN) (need : log.end + 6 + length body ≤ limit capacity log.region) where
    pub append_images : (now : List ℕ → Type 0) → ((c : List ℕ) → now c → Leaves (meaning.content log.disk) log.end (staged body) c)
        → EachReadsAs capacity log.generation bodies log.generation (bodies ++ body ∷ []) now
    append_images now leaves c at =
        elim (append_leaves capacity log.region log.generation st.raw st.spare (meaning.content log.disk) st.holds log.end st.end_is body fits tag need c (leaves c at)) [
          | inl before ↦ inl (named log.generation c before)
          | inr after ↦ inr (subst (λ (bs : List (List ℕ)). ReadsAs capacity log.generation (bs ++ body ∷ []) c) (sym st.bodies_are) after)
        ]

    pub append_stands : (new : LogState D) → meaning.content new.disk ≡ overwritten (overwritten (meaning.content log.disk) (log.end + 1) (staged body)) log.end (OPEN ∷ [])
        → Only (meaning.content new.disk) (meaning.image new.disk) → (meaning.meters new.disk).capacity ≡ capacity → new.region ≡ log.region → new.generation ≡ log.generation
        → new.end ≡ log.end + (5 + length body) → new.spare_open ≡ log.spare_open → new.failed ≡ false → Stands meaning (bodies ++ body ∷ []) new
    append_stands new written only room region generation end spare sound = record {
      sound = sound;
      raw = st.raw ++ body ∷ [];
      spare = st.spare;
      holds = moved new.region new.generation (meaning.meters new.disk).capacity region generation room
          (appended capacity log.region log.generation st.raw st.spare (meaning.content log.disk) st.holds log.end st.end_is body fits tag need (meaning.content new.disk) written);
      bodies_are = ap (λ bs. bs ++ body ∷ []) st.bodies_are ∙ sym (bodies_push st.raw body (untold body tag));
      end_is = end ∙ omega (arith, end_push st.raw body (start capacity log.region) log.end st.end_is) ∙ (λ i. start (sym room i) (sym region i) + length (frames (st.raw ++ body ∷ [])));
      spare_is = spare ∙ st.spare_is;
      only = only;
    }
      where
        moved : (r : Region) (g k : ℕ) → r ≡ log.region → g ≡ log.generation → k ≡ capacity → HoldsAs capacity log.region log.generation (st.raw ++ body ∷ []) st.spare (meaning.content new.disk)
            → HoldsAs k r g (st.raw ++ body ∷ []) st.spare (meaning.content new.disk)
        moved r g k er eg ek holds =
            subst (λ (x : ℕ). HoldsAs x r g (st.raw ++ body ∷ []) st.spare (meaning.content new.disk)) (sym ek)
            (subst (λ (x : Region). HoldsAs capacity x g (st.raw ++ body ∷ []) st.spare (meaning.content new.disk)) (sym er)
            (subst (λ (x : ℕ). HoldsAs capacity log.region x (st.raw ++ body ∷ []) st.spare (meaning.content new.disk)) (sym eg) holds))

  module _ (opens : log.spare_open ≡ true) (place : ℕ) (place_is : place ≡ start capacity (other log.region)) (room : place + 1 ≤ limit capacity (other log.region)) where
    pub clear_images : (now : List ℕ → Type 0) → ((c : List ℕ) → now c → Torn place 1 (meaning.content log.disk) c) → (c : List ℕ) → now c → ReadsAs capacity log.generation bodies c
    clear_images now torn c at =
        named log.generation c (clear_leaves capacity log.region log.generation st.raw st.spare (meaning.content log.disk) st.holds (sym st.spare_is ∙ opens) place place_is room c (torn c at))

    pub clear_stands : (new : LogState D) → meaning.content new.disk ≡ overwritten (meaning.content log.disk) place (0 ∷ []) → Only (meaning.content new.disk) (meaning.image new.disk) → (meaning.meters new.disk).capacity ≡ capacity
        → new.region ≡ log.region → new.generation ≡ log.generation → new.end ≡ log.end → new.spare_open ≡ false → new.failed ≡ false → Stands meaning bodies new
    clear_stands new written only same region generation end spare sound = record {
      sound = sound;
      raw = st.raw;
      spare = Shut;
      holds = moved new.region new.generation (meaning.meters new.disk).capacity region generation same
          (cleared capacity log.region log.generation st.raw st.spare (meaning.content log.disk) st.holds (sym st.spare_is ∙ opens) place place_is room (meaning.content new.disk) written);
      bodies_are = st.bodies_are;
      end_is = end ∙ st.end_is ∙ (λ i. start (sym same i) (sym region i) + length (frames st.raw));
      spare_is = spare;
      only = only;
    }
      where
        moved : (r : Region) (g k : ℕ) → r ≡ log.region → g ≡ log.generation → k ≡ capacity → HoldsAs capacity log.region log.generation st.raw Shut (meaning.content new.disk)
            → HoldsAs k r g st.raw Shut (meaning.content new.disk)
        moved r g k er eg ek holds =
            subst (λ (x : ℕ). HoldsAs x r g st.raw Shut (meaning.content new.disk)) (sym ek)
            (subst (λ (x : Region). HoldsAs capacity x g st.raw Shut (meaning.content new.disk)) (sym er)
            (subst (λ (x : ℕ). HoldsAs capacity log.region x st.raw Shut (meaning.content new.disk)) (sym eg) holds))

  module _ (shut : log.spare_open ≡ false) (body : List ℕ) (few : log.generation < 4294967295) (fits : length body + 5 < 2 ^ 32)
      (place : ℕ) (place_is : place ≡ start capacity (other log.region)) (need : place + 11 + length body ≤ limit capacity (other log.region)) where
    first_fits : Fits (turned (log.generation + 1) body)
    first_fits = omega (arith, turned_length (log.generation + 1) body, fits)

    first_need : place + 6 + length (turned (log.generation + 1) body) ≤ limit capacity (other log.region)
    first_need = omega (arith, turned_length (log.generation + 1) body, need)

    next_few : log.generation + 1 < 2 ^ 32
    next_few = omega (arith, few)

    shut_holds : HoldsAs capacity log.region log.generation st.raw Shut (meaning.content log.disk)
    shut_holds =
        subst (λ (f : Front). HoldsAs capacity log.region log.generation st.raw f (meaning.content log.disk))
        (shut_from log.region st.raw st.spare log.generation st.holds.active (sym shut ∙ st.spare_is)) st.holds

    pub turn_images : (now : List ℕ → Type 0) → ((c : List ℕ) → now c → Leaves (meaning.content log.disk) place (staged (turned (log.generation + 1) body)) c)
        → EachReadsAs capacity log.generation bodies (log.generation + 1) (body ∷ []) now
    turn_images now leaves c at =
        elim (turn_leaves capacity log.region log.generation st.raw (meaning.content log.disk) shut_holds body next_few first_fits place place_is first_need c (leaves c at)) [
          | inl before ↦ inl (named log.generation c before)
          | inr after ↦ inr after
        ]

    pub turn_stands : (new : LogState D) → meaning.content new.disk ≡ overwritten (overwritten (meaning.content log.disk) (place + 1) (staged (turned (log.generation + 1) body))) place (OPEN ∷ [])
        → Only (meaning.content new.disk) (meaning.image new.disk) → (meaning.meters new.disk).capacity ≡ capacity → new.region ≡ other log.region → new.generation ≡ log.generation + 1
        → new.end ≡ place + 10 + length body → new.spare_open ≡ nat_lt (start capacity log.region) log.end → new.failed ≡ false
        → Stands meaning (body ∷ []) new
    turn_stands new written only room region generation end spare sound = record {
      sound = sound;
      raw = turned (log.generation + 1) body ∷ [];
      spare = front_of st.raw;
      holds = moved new.region new.generation (meaning.meters new.disk).capacity region generation room
          (turned_to capacity log.region log.generation st.raw (meaning.content log.disk) shut_holds body next_few first_fits place place_is first_need (meaning.content new.disk) written);
      bodies_are = ap (λ b. b ∷ []) (sym (handed_turned (log.generation + 1) body next_few));
      end_is = end ∙ last ∙ (λ i. start (sym room i) (sym region i) + length (frames (turned (log.generation + 1) body ∷ [])));
      spare_is = spare ∙ opened ∙ sym (open_from st.raw);
      only = only;
    }
      where
        moved : (r : Region) (g k : ℕ) → r ≡ other log.region → g ≡ log.generation + 1 → k ≡ capacity
            → HoldsAs capacity (other log.region) (log.generation + 1) (turned (log.generation + 1) body ∷ []) (front_of st.raw) (meaning.content new.disk)
            → HoldsAs k r g (turned (log.generation + 1) body ∷ []) (front_of st.raw) (meaning.content new.disk)
        moved r g k er eg ek holds =
            subst (λ (x : ℕ). HoldsAs x r g (turned (log.generation + 1) body ∷ []) (front_of st.raw) (meaning.content new.disk)) (sym ek)
            (subst (λ (x : Region). HoldsAs capacity x g (turned (log.generation + 1) body ∷ []) (front_of st.raw) (meaning.content new.disk)) (sym er)
            (subst (λ (x : ℕ). HoldsAs capacity (other log.region) x (turned (log.generation + 1) body ∷ []) (front_of st.raw) (meaning.content new.disk)) (sym eg) holds))

        last : place + 10 + length body ≡ start capacity (other log.region) + length (frames (turned (log.generation + 1) body ∷ []))
        last =
            let framed = length-append (frame (turned (log.generation + 1) body)) [] in
            let sized = length-append (to_be_bytes w32 (length (turned (log.generation + 1) body))) (turned (log.generation + 1) body) in
            omega (arith, place_is, turned_length (log.generation + 1) body, framed, sized)

        opened : nat_lt (start capacity log.region) log.end ≡ nat_lt 0 (length (frames st.raw))
        opened = compare (length (frames st.raw)) refl
          where
            compare : (n : ℕ) → length (frames st.raw) ≡ n → nat_lt (start capacity log.region) log.end ≡ nat_lt 0 (length (frames st.raw))
            compare zero is =
                let low = le-ltb (start capacity log.region) log.end (omega (arith, st.end_is)) in
                let none = le-ltb 0 (length (frames st.raw)) (omega arith) in low ∙ sym none
            compare (suc n) is =
                let high = lt-ltb (start capacity log.region) log.end (omega (arith, st.end_is)) in
                let some = lt-ltb 0 (length (frames st.raw)) (omega arith) in high ∙ sym some
