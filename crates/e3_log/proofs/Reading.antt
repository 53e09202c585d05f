-- What the bytes at a place say of the frame there.
use Rattle.std.proofs.lemmas.List.{drop_all}
use Rattle.std.proofs.Common.{subst, ◌≡◌, ℕ, ◌+◌, ◌-◌, ◌^◌, ◌<◌, ◌≤◌, List, [], ◌∷◌, ◌++◌, length, get_or, take, drop, sym, ◌∙◌, ap, arith, append_assoc, length-append, length-take, length-drop, take-append-drop, drop-drop}
use Rattle.std.proofs.lemmas.Nat.{from_be_bytes-to_be_bytes_4}
use Rattle.std.specs.Int.{w32, to_be_bytes, from_be_bytes}
use Rattle.e3_log.specs.Frames.{OPEN, frame, IsClosed, NoFrame}
use Rattle.e3_log.specs.Opening.{FrameAt, IsSized}
use Rattle.e3_log.specs.Regions.{window}
use Rattle.e3_log.proofs.Windows.{window_full}

is_shut : (rest : List ℕ) → get_or (take 1 rest) 0 0 ≡ OPEN → IsClosed rest → ⊥
is_shut [] is closed = closed
is_shut (gate ∷ rest) is closed = closed is

frame_length : (body rest : List ℕ) → length (frame body ++ rest) ≡ 5 + length body + length rest
frame_length body rest = omega (arith, length-append (frame body) rest)

pub short_is_damage : (content : List ℕ) (at : ℕ) → get_or (take 1 (drop at content)) 0 0 ≡ OPEN → length content - at < 5 → NoFrame (drop at content)
short_is_damage content at is short = record {
  shut = is_shut (drop at content) is;
  none = λ body rest fits e. absurd (omega (arith, ap length e, frame_length body rest, length-drop at content));
}

pub long_is_damage : (content : List ℕ) (at n : ℕ) → get_or (take 1 (drop at content)) 0 0 ≡ OPEN → to_be_bytes w32 n ≡ take 4 (drop (at + 1) content) → n < 2 ^ 32
    → length content - at - 5 < n → NoFrame (drop at content)
long_is_damage content at n is size below long = record {
  shut = is_shut (drop at content) is;
  none = λ body rest fits e.
      let front : take 4 (drop 1 (drop at content)) ≡ to_be_bytes w32 (length body) = ap (λ (l : List ℕ). take 4 (drop 1 l)) e in
      let both : to_be_bytes w32 n ≡ to_be_bytes w32 (length body) = size ∙ ap (λ (l : List ℕ). take 4 l) (sym (drop-drop 1 at content)) ∙ front in
      let same : n ≡ length body = sym (from_be_bytes-to_be_bytes_4 n below) ∙ ap (from_be_bytes w32) both ∙ from_be_bytes-to_be_bytes_4 (length body) fits in
      absurd (omega (arith, ap length e, frame_length body rest, length-drop at content));
}

first : (rest : List ℕ) → get_or (take 1 rest) 0 0 ≡ OPEN → 0 < length rest → rest ≡ OPEN ∷ drop 1 rest
first [] is some = absurd (omega arith)
first (gate ∷ rest) is some = ap (λ (g : ℕ). g ∷ rest) is

-- what was read at the three places is a frame
pub frame_at : (content : List ℕ) (at n : ℕ) (body : List ℕ) → get_or (take 1 (drop at content)) 0 0 ≡ OPEN
    → to_be_bytes w32 n ≡ take 4 (drop (at + 1) content) → n < 2 ^ 32
    → body ≡ take n (drop (at + 5) content) → at + 5 + n ≤ length content → FrameAt content at body
frame_at content at n body is size-is below body-is within =
    let rest = drop at content in
    let size = to_be_bytes w32 n in
    let len : length body ≡ n = omega (arith, ap length body-is, length-take n (drop (at + 5) content), length-drop (at + 5) content) in
    let gate : rest ≡ OPEN ∷ drop 1 rest = first rest is (omega (arith, length-drop at content)) in
    let second : drop 1 rest ≡ size ++ drop 4 (drop 1 rest) = sym (take-append-drop 4 (drop 1 rest)) ∙ ap (λ (l : List ℕ). l ++ drop 4 (drop 1 rest)) (ap (λ (l : List ℕ). take 4 l) (drop-drop 1 at content) ∙ sym size-is) in
    let third : drop 4 (drop 1 rest) ≡ drop (at + 5) content = ap (λ (l : List ℕ). drop 4 l) (drop-drop 1 at content) ∙ drop-drop 4 (at + 1) content ∙ ap (λ (k : ℕ). drop k content) (omega arith) in
    let fourth : drop (at + 5) content ≡ body ++ drop (at + 5 + length body) content = sym (take-append-drop n (drop (at + 5) content)) ∙ ap (λ (l : List ℕ). l ++ drop n (drop (at + 5) content)) (sym body-is)
    ∙ ap (λ (l : List ℕ). body ++ l) (drop-drop n (at + 5) content ∙ ap (λ (k : ℕ). drop (at + 5 + k) content) (sym len)) in
    let inner : drop 1 rest ≡ to_be_bytes w32 (length body) ++ body ++ drop (at + 5 + length body) content =
    second ∙ ap (λ (l : List ℕ). size ++ l) (third ∙ fourth) ∙ sym (append_assoc size body (drop (at + 5 + length body) content))
    ∙ ap (λ (l : List ℕ). l ++ body ++ drop (at + 5 + length body) content) (ap (to_be_bytes w32) (sym len)) in
    record { parts = gate ∙ ap (λ (l : List ℕ). OPEN ∷ l) inner; within = omega arith; fits = omega arith }

-- nothing begins behind the last byte
pub end_is_damage : (l : List ℕ) (at : ℕ) → length l ≤ at → NoFrame (drop at l)
end_is_damage l at past = subst (λ (x : List ℕ). NoFrame x) (sym (drop_all at l past)) (record { shut = λ closed. closed; none = λ body rest fits e. absurd cc })

-- what was read of a range at the place of a head
pub record HeadRead (from count at n : ℕ) (bytes : List ℕ) : Type 0 where
  pub inside : from + count ≤ length bytes
  pub gate : get_or (take 1 (drop at (window from count bytes))) 0 0 ≡ OPEN
  pub size : to_be_bytes w32 n ≡ take 4 (drop (at + 1) (window from count bytes))
  pub below : n < 2 ^ 32

pub head_short : (from count at : ℕ) (bytes : List ℕ) → from + count ≤ length bytes → get_or (take 1 (drop at (window from count bytes))) 0 0 ≡ OPEN
    → count - at < 5 → NoFrame (drop at (window from count bytes))
head_short from count at bytes inside gate short = short_is_damage (window from count bytes) at gate (omega (arith, window_full from count bytes inside))

pub head_long : (from count at n : ℕ) (bytes : List ℕ) → HeadRead from count at n bytes → count - at - 5 < n → NoFrame (drop at (window from count bytes))
head_long from count at n bytes head long = long_is_damage (window from count bytes) at n head.gate head.size head.below (omega (arith, window_full from count bytes head.inside))

pub head_sized : (from count at n : ℕ) (bytes : List ℕ) → HeadRead from count at n bytes → 5 ≤ count - at → n ≤ count - at - 5 → IsSized count (window from count bytes) at n
head_sized from count at n bytes head five fits =
    let full = window_full from count bytes head.inside in
    record {
      within = omega arith;
      frame_is = λ body is. frame_at (window from count bytes) at n body head.gate head.size head.below is (omega (arith, full));
    }
