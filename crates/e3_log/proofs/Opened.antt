-- What a log stands for that was opened.
use Rattle.std.proofs.Common.{◌≡◌, ℕ, false, List, refl, sym, subst}
use Rattle.e3_disk.specs.Images.{Only}
use Rattle.e3_disk.specs.Meaning.{Meaning}
use Rattle.e3_log.specs.declared.prepare.Held.{Held}
use Rattle.e3_log.specs.Found.{bodies_of, IsHeld, Opened}
use Rattle.e3_log.specs.Reading.{ReadsAs}

pub held_reads : (capacity : ℕ) (bytes : List ℕ) (h : Held) → IsHeld capacity bytes h → ReadsAs capacity h.generation (bodies_of h.frames) bytes
held_reads capacity bytes h held = record { region = h.region; raw = held.raw; spare = held.spare; holds = held.holds; bodies_are = held.bodies_are }

pub opened_from : {D : Type 0} (meaning : Meaning D) (old new : D) (h : Held) → IsHeld (meaning.meters old).capacity (meaning.content old) h
    → meaning.content new ≡ meaning.content old → Only (meaning.content old) (meaning.image new) → (meaning.meters new).capacity ≡ (meaning.meters old).capacity
    → Opened meaning h.frames (record { disk = new; region = h.region; generation = h.generation; end = h.end; spare_open = h.spare_open; failed = false })
opened_from meaning old new h held same only room =
    let here : IsHeld (meaning.meters new).capacity (meaning.content new) h =
    subst (λ (k : ℕ). IsHeld k (meaning.content new) h) (sym room) (subst (λ (l : List ℕ). IsHeld (meaning.meters old).capacity l h) (sym same) held) in
    record {
      stands = record {
        sound = refl;
        raw = here.raw;
        spare = here.spare;
        holds = here.holds;
        bodies_are = here.bodies_are;
        end_is = here.end_is;
        spare_is = here.spare_is;
        only = subst (λ (l : List ℕ). Only l (meaning.image new)) (sym same) only;
      };
      places = here.places;
    }
