-- What the calls of an append leave.
use Rattle.std.proofs.Common.{◌≡◌, ◌≢◌, ◌⊎◌, inl, inr, ℕ, suc, ◌+◌, List, [], ◌∷◌, ◌++◌, length, take, drop, refl, sym, ◌∙◌, ap, subst, arith, append_assoc, length-append, take-append-drop, drop-drop}
use Rattle.std.proofs.lemmas.Bool.{cases_eq}
use Rattle.std.proofs.lemmas.List.{take_at, drop_at, append-nil}
use Rattle.std.specs.Int.{w32, to_be_bytes}
use Rattle.std.specs.List.{AllByRecursion}
use Rattle.e3_disk.specs.Images.{Holds, Torn}
use Rattle.e3_log.specs.Frames.{OPEN, frame, frames, IsClosed, Fits, Reads}
use Rattle.e3_log.specs.Stands.{staged}
use Rattle.e3_log.specs.declared.open.Frame.{Frame}
use Rattle.e3_log.specs.Found.{frames_from}
use Rattle.e3_log.specs.Opening.{FrameAt}
use Rattle.e3_disk.proofs.Torn.{torn_front, torn_back}

-- a whole frame stands behind a gate that is still closed.
pub record Staged (bodies : List (List ℕ)) (body content : List ℕ) : Type 0 where
  pub gate : ℕ
  pub tail : List ℕ
  pub parts : content ≡ frames bodies ++ gate ∷ (staged body ++ tail)
  pub closed : gate ≢ OPEN
  pub fits : AllByRecursion Fits bodies

pub frames_push : (bodies : List (List ℕ)) (body : List ℕ) → frames (bodies ++ body ∷ []) ≡ frames bodies ++ frame body
frames_push [] body = append-nil (frame body)
frames_push (b ∷ bodies) body = ap (λ (l : List ℕ). frame b ++ l) (frames_push bodies body) ∙ sym (append_assoc (frame b) (frames bodies) (frame body))

pub fits_push : (bodies : List (List ℕ)) (body : List ℕ) → AllByRecursion Fits bodies → Fits body → AllByRecursion Fits (bodies ++ body ∷ [])
fits_push [] body each fits = (fits, tt)
fits_push (b ∷ bodies) body each fits = (each.0, fits_push bodies body each.1 fits)

-- the front of the frames and a closed gate
front_of : (xs : List ℕ) (gate : ℕ) (tail : List ℕ) → xs ++ gate ∷ tail ≡ (xs ++ gate ∷ []) ++ tail
front_of xs gate tail = sym (append_assoc xs (gate ∷ []) tail)

front_len : (xs : List ℕ) (gate : ℕ) → length (xs ++ gate ∷ []) ≡ length xs + 1
front_len xs gate = length-append xs (gate ∷ [])

front_take : (xs : List ℕ) (gate : ℕ) (tail : List ℕ) → take (length xs + 1) (xs ++ gate ∷ tail) ≡ xs ++ gate ∷ []
front_take xs gate tail = ap (λ (l : List ℕ). take (length xs + 1) l) (front_of xs gate tail) ∙ take_at (xs ++ gate ∷ []) tail (length xs + 1) (front_len xs gate)

front_drop : (xs : List ℕ) (gate : ℕ) (tail : List ℕ) → drop (length xs + 1) (xs ++ gate ∷ tail) ≡ tail
front_drop xs gate tail = ap (λ (l : List ℕ). drop (length xs + 1) l) (front_of xs gate tail) ∙ drop_at (xs ++ gate ∷ []) tail (length xs + 1) (front_len xs gate)

-- while the frame is written behind the closed gate, the frames are as before
pub stage_reads : (bodies : List (List ℕ)) (rest c : List ℕ) (n : ℕ) → IsClosed rest → AllByRecursion Fits bodies
    → Torn (length (frames bodies) + 1) n (frames bodies ++ rest) c → Reads bodies c
stage_reads bodies [] c n closed fits torn = absurd closed
stage_reads bodies (gate ∷ tail) c n closed fits torn =
    let xs = frames bodies in
    let p = length xs + 1 in
    let front : take p c ≡ xs ++ gate ∷ [] = torn_front p n (xs ++ gate ∷ tail) c (omega (arith, length-append xs (gate ∷ tail))) torn ∙ front_take xs gate tail in
    record {
      rest = gate ∷ drop p c;
      parts = sym (take-append-drop p c) ∙ ap (λ (l : List ℕ). l ++ drop p c) front ∙ sym (front_of xs gate (drop p c));
      closed = closed;
      fits = fits;
    }

pub stage_content : (bodies : List (List ℕ)) (body rest new : List ℕ) → IsClosed rest → AllByRecursion Fits bodies
    → Holds (frames bodies ++ rest) (length (frames bodies) + 1) (staged body) new → Staged bodies body new
stage_content bodies body [] new closed fits holds = absurd closed
stage_content bodies body (gate ∷ tail) new closed fits holds =
    let xs = frames bodies in
    let p = length xs + 1 in
    let back = drop (p + length (staged body)) (xs ++ gate ∷ tail) in
    record {
      gate = gate;
      tail = back;
      parts = holds ∙ ap (λ (l : List ℕ). l ++ staged body ++ back) (front_take xs gate tail)
          ∙ append_assoc (xs ++ gate ∷ []) (staged body) back ∙ sym (front_of xs gate (staged body ++ back));
      closed = closed;
      fits = fits;
    }

pub opened : (bodies : List (List ℕ)) (body tail : List ℕ) → frames bodies ++ OPEN ∷ (staged body ++ tail) ≡ frames (bodies ++ body ∷ []) ++ 0 ∷ tail
opened bodies body tail =
    let inner : staged body ++ tail ≡ (to_be_bytes w32 (length body) ++ body) ++ 0 ∷ tail = append_assoc (to_be_bytes w32 (length body) ++ body) (0 ∷ []) tail in
    ap (λ (l : List ℕ). frames bodies ++ OPEN ∷ l) inner ∙ sym (append_assoc (frames bodies) (frame body) (0 ∷ tail))
    ∙ ap (λ (l : List ℕ). l ++ 0 ∷ tail) (sym (frames_push bodies body))

pub opened_reads : (bodies : List (List ℕ)) (body tail c : List ℕ) → AllByRecursion Fits bodies → Fits body → c ≡ frames bodies ++ OPEN ∷ (staged body ++ tail) → Reads (bodies ++ body ∷ []) c
opened_reads bodies body tail c each fits is = record {
  rest = 0 ∷ tail;
  parts = is ∙ opened bodies body tail;
  closed = λ e. absurd cc;
  fits = fits_push bodies body each fits;
}

-- a byte in the gate's place, and the frame behind it
gate_cases : (bodies : List (List ℕ)) (body tail c behind : List ℕ) → AllByRecursion Fits bodies → Fits body
    → c ≡ frames bodies ++ behind → drop 1 behind ≡ staged body ++ tail → Reads bodies c ⊎ Reads (bodies ++ body ∷ []) c
gate_cases bodies body tail c [] each fits is rest = absurd cc
gate_cases bodies body tail c (gate ∷ behind) each fits is rest = elim (cases_eq gate OPEN) [
  | inl is_open ↦ inr (opened_reads bodies body tail c each fits (is ∙ (λ i. frames bodies ++ is_open i ∷ rest i)))
  | inr shut ↦ inl (record { rest = gate ∷ behind; parts = is; closed = shut; fits = each })
]

-- while the gate is opened, the frame is there whole or not at all
pub gate_reads : (bodies : List (List ℕ)) (body content c : List ℕ) → Fits body → Staged bodies body content
    → Torn (length (frames bodies)) 1 content c → Reads bodies c ⊎ Reads (bodies ++ body ∷ []) c
gate_reads bodies body content c fits s torn =
    let xs = frames bodies in
    let p = length xs in
    let back = staged body ++ s.tail in
    let torn2 = subst (λ (l : List ℕ). Torn p 1 l c) s.parts torn in
    let long : length (xs ++ s.gate ∷ back) ≡ p + suc (length back) = length-append xs (s.gate ∷ back) in
    let front : take p c ≡ xs = torn_front p 1 (xs ++ s.gate ∷ back) c (omega arith) torn2 ∙ take_at xs (s.gate ∷ back) p refl in
    let behind : drop (p + 1) c ≡ back = torn_back p 1 (xs ++ s.gate ∷ back) c (omega arith) torn2 ∙ front_drop xs s.gate back in
    gate_cases bodies body s.tail c (drop p c) s.fits fits (sym (take-append-drop p c) ∙ ap (λ (l : List ℕ). l ++ drop p c) front) (drop-drop 1 p c ∙ behind)

pub first_content : (bodies : List (List ℕ)) (body bytes : List ℕ) (end : ℕ) (content new : List ℕ)
    → Reads bodies content → end ≡ length (frames bodies) → bytes ≡ staged body → Holds content (end + 1) bytes new → Staged bodies body new
first_content bodies body bytes end content new reads end_is is holds =
    stage_content bodies body reads.rest new reads.closed reads.fits
    (subst (λ (p : ℕ). Holds (frames bodies ++ reads.rest) (p + 1) (staged body) new) end_is
    (subst (λ (d : List ℕ). Holds d (end + 1) (staged body) new) reads.parts
    (subst (λ (b : List ℕ). Holds content (end + 1) b new) is holds)))

pub second_content : (bodies : List (List ℕ)) (body : List ℕ) (end : ℕ) (content new : List ℕ)
    → Fits body → Staged bodies body content → end ≡ length (frames bodies) → Holds content end (OPEN ∷ []) new → Reads (bodies ++ body ∷ []) new
second_content bodies body end content new fits s end_is holds =
    let xs = frames bodies in
    let back = staged body ++ s.tail in
    let moved : Holds (xs ++ s.gate ∷ back) (length xs) (OPEN ∷ []) new =
    subst (λ (p : ℕ). Holds (xs ++ s.gate ∷ back) p (OPEN ∷ []) new) end_is (subst (λ (d : List ℕ). Holds d end (OPEN ∷ []) new) s.parts holds) in
    let is : new ≡ xs ++ OPEN ∷ back = moved
    ∙ ap (λ (l : List ℕ). l ++ (OPEN ∷ []) ++ drop (length xs + 1) (xs ++ s.gate ∷ back)) (take_at xs (s.gate ∷ back) (length xs) refl)
    ∙ ap (λ (l : List ℕ). xs ++ (OPEN ∷ []) ++ l) (front_drop xs s.gate back)
    ∙ append_assoc xs (OPEN ∷ []) back in
    opened_reads bodies body s.tail new s.fits fits is

pub new_end : (bodies : List (List ℕ)) (body : List ℕ) (end : ℕ) → end ≡ length (frames bodies) → end + 5 + length body ≡ length (frames (bodies ++ body ∷ []))
new_end bodies body end end_is = omega (arith, ap length (frames_push bodies body), length-append (frames bodies) (frame body))

-- one frame further
pub next_parts : (content : List ℕ) (bodies : List (List ℕ)) (body : List ℕ) (at : ℕ) → content ≡ frames bodies ++ drop at content → FrameAt content at body
    → content ≡ frames (bodies ++ body ∷ []) ++ drop (at + 5 + length body) content
next_parts content bodies body at parts f =
    parts ∙ ap (λ (l : List ℕ). frames bodies ++ l) f.parts ∙ sym (append_assoc (frames bodies) (frame body) (drop (at + 5 + length body) content))
    ∙ ap (λ (l : List ℕ). l ++ drop (at + 5 + length body) content) (sym (frames_push bodies body))

-- the places of frames, with one more behind
pub places_push : (at : ℕ) (bodies : List (List ℕ)) (body : List ℕ)
    → frames_from at (bodies ++ body ∷ []) ≡ frames_from at bodies ++ (record { place = at + length (frames bodies) + 5; body = body }) ∷ []
places_push at [] body = ap (λ (p : ℕ). (record { place = p; body = body }) ∷ []) (omega arith)
places_push at (b ∷ bodies) body =
    let later = places_push (at + 5 + length b) bodies body in
    let here : at + 5 + length b + length (frames bodies) + 5 ≡ at + length (frame b ++ frames bodies) + 5 = omega (arith, length-append (frame b) (frames bodies)) in
    ap (λ (fs : List Frame). (record { place = at + 5; body = b }) ∷ fs)
    (later ∙ ap (λ (p : ℕ). frames_from (at + 5 + length b) bodies ++ (record { place = p; body = body }) ∷ []) here)
