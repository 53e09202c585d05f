-- Bytes read as one list of frames.
use Rattle.std.proofs.Common.{◌≡◌, ℕ, List, [], ◌∷◌, ◌++◌, length, take, drop, refl, sym, subst, ◌∙◌, ap, append_assoc}
use Rattle.std.proofs.lemmas.List.{take_at, drop_at}
use Rattle.std.proofs.lemmas.Nat.{from_be_bytes-to_be_bytes_4}
use Rattle.std.specs.Int.{w32, to_be_bytes, from_be_bytes}
use Rattle.std.specs.List.{AllByRecursion}
use Rattle.e3_log.specs.Frames.{OPEN, frame, frames, IsClosed, Fits, Reads, BrokenAt}

-- no frame begins here
abbrev pub IsEnd : List ℕ → Type 0
IsEnd bytes = (body rest : List ℕ) → Fits body → bytes ≡ frame body ++ rest → ⊥

pub closed_end : (bytes : List ℕ) → IsClosed bytes → IsEnd bytes
closed_end [] closed body rest fits e = closed
closed_end (gate ∷ bytes) closed body rest fits e = let is : gate ≡ OPEN = cc in closed is

pub frame_free : (b c x y : List ℕ) → Fits b → Fits c → frame b ++ x ≡ frame c ++ y → (b ≡ c) × (x ≡ y)
frame_free b c x y fb fc e =
    let sizes : to_be_bytes w32 (length b) ≡ to_be_bytes w32 (length c) = ap (λ (l : List ℕ). take 4 (drop 1 l)) e in
    let len : length b ≡ length c = sym (from_be_bytes-to_be_bytes_4 (length b) fb) ∙ ap (from_be_bytes w32) sizes ∙ from_be_bytes-to_be_bytes_4 (length c) fc in
    let behind : b ++ x ≡ c ++ y = ap (λ (l : List ℕ). drop 5 l) e in (
      sym (take_at b x (length c) len) ∙ ap (λ (l : List ℕ). take (length c) l) behind ∙ take_at c y (length c) refl,
      sym (drop_at b x (length c) len) ∙ ap (λ (l : List ℕ). drop (length c) l) behind ∙ drop_at c y (length c) refl,
    )

pub one_split : (bs cs : List (List ℕ)) (r s : List ℕ) → AllByRecursion Fits bs → AllByRecursion Fits cs → IsEnd r → IsEnd s
    → frames bs ++ r ≡ frames cs ++ s → (bs ≡ cs) × (r ≡ s)
one_split [] [] r s fb fc er es e = (refl, e)
one_split [] (c ∷ cs) r s fb fc er es e = absurd (er c (frames cs ++ s) fc.0 (e ∙ append_assoc (frame c) (frames cs) s))
one_split (b ∷ bs) [] r s fb fc er es e = absurd (es b (frames bs ++ r) fb.0 (sym e ∙ append_assoc (frame b) (frames bs) r))
one_split (b ∷ bs) (c ∷ cs) r s fb fc er es e =
    let regrouped : frame b ++ (frames bs ++ r) ≡ frame c ++ (frames cs ++ s) = sym (append_assoc (frame b) (frames bs) r) ∙ e ∙ append_assoc (frame c) (frames cs) s in
    let first = frame_free b c (frames bs ++ r) (frames cs ++ s) fb.0 fc.0 regrouped in
    let others = one_split bs cs r s fb.1 fc.1 er es first.1 in
    ((λ i. first.0 i ∷ others.0 i), others.1)

pub one_reading : (bs cs : List (List ℕ)) (bytes : List ℕ) → Reads bs bytes → Reads cs bytes → bs ≡ cs
one_reading bs cs bytes p q =
    (one_split bs cs p.rest q.rest p.fits q.fits (closed_end p.rest p.closed) (closed_end q.rest q.closed) (sym p.parts ∙ q.parts)).0

closed_moves : (r s : List ℕ) → r ≡ s → IsClosed r → IsClosed s
closed_moves r s e closed = subst IsClosed e closed

pub never_damaged : (bs : List (List ℕ)) (bytes : List ℕ) (at : ℕ) → Reads bs bytes → BrokenAt bytes at → ⊥
never_damaged bs bytes at p q =
    let same = one_split bs q.bodies p.rest q.rest p.fits q.fits (closed_end p.rest p.closed) q.none.none (sym p.parts ∙ q.parts) in
    q.none.shut (closed_moves p.rest q.rest same.1 p.closed)

pub one_damage : (bytes : List ℕ) (at place : ℕ) → BrokenAt bytes at → BrokenAt bytes place → at ≡ place
one_damage bytes at place p q =
    let same = one_split p.bodies q.bodies p.rest q.rest p.fits q.fits p.none.none q.none.none (sym p.parts ∙ q.parts) in
    p.place ∙ ap (λ (bs : List (List ℕ)). length (frames bs)) same.0 ∙ sym q.place

pub blank_reads : Reads [] (0 ∷ [])
blank_reads = record { rest = 0 ∷ []; parts = refl; closed = λ e. absurd cc; fits = tt }
