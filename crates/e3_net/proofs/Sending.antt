-- Packets that are sent one after the other, and get their numbers in place.
use Rattle.std.proofs.Common.{add-one, ◌≡◌, ◌+◌, ◌<◌, ◌≤◌, ℕ, zero, suc, List, [], ◌∷◌, ◌++◌, append-nil, append_assoc, length, take, drop, get_or, ◌∙◌, ap, sym, refl, arith}
use Rattle.std.specs.List.{slice_set}
use Rattle.std.proofs.lemmas.List.{drop_all, drop_more, drop-set-lt, take_all}
use Rattle.std.proofs.Math.Seq.{take-suc-set}
use Rattle.e3_types.specs.declared.messages.Packet.{Packet}
use Rattle.e3_world.specs.Legal.{numbered}
use Rattle.e3_net.specs.Traffic.{NetView, Traffic, sends, sends_all}

-- The first i of the packets were sent, and have their numbers.
pub record SentSome (was : NetView) (outs : List Packet) (i : ℕ) (now : NetView) (items : List Packet) : Type 0 where
  pub many : length items ≡ length outs
  pub counted : now.traffic.sent ≡ was.traffic.sent + i
  pub rest : sends_all now.traffic (drop i items) ≡ sends_all was.traffic outs
  pub numbers : take i items ++ numbered (suc now.traffic.sent) (drop i items) ≡ numbered (suc was.traffic.sent) outs
  pub room : was.room ≤ now.room + i

pub none_sent : (was : NetView) (outs : List Packet) → SentSome was outs 0 was outs
none_sent was outs = record { many = refl; counted = omega arith; rest = refl; numbers = refl; room = omega arith }

same_at : (i : ℕ) (xs : List Packet) (p q : Packet) → i < length xs → p ≡ get_or xs i p → q ≡ get_or xs i q → q ≡ p
same_at i [] p q low is_p is_q = absurd (omega (arith, low))
same_at zero (x ∷ xs) p q low is_p is_q = is_q ∙ sym is_p
same_at (suc i) (x ∷ xs) p q low is_p is_q = same_at i xs p q (omega (arith, low)) is_p is_q

set_length : (xs : List Packet) (i : ℕ) (y : Packet) → length (slice_set xs i y) ≡ length xs
set_length [] i y = refl
set_length (x ∷ xs) zero y = refl
set_length (x ∷ xs) (suc i) y = ap suc (set_length xs i y)

-- one more is sent
pub one_sent : (was : NetView) (outs : List Packet) (i : ℕ) (now : NetView) (items : List Packet) (p q : Packet) (next : NetView) (n : ℕ) →
    SentSome was outs i now items → i < length items → p ≡ get_or items i p → q ≡ get_or items i q →
    next.traffic ≡ sends now.traffic p.«from» p.to p.msg → now.room ≤ next.room + 1 → n ≡ now.traffic.sent + 1 →
    SentSome was outs (i + 1) next (slice_set items i (record q { number = n }))
one_sent was outs i now items p q next n so low is_p is_q sends_is room_is n_is = record {
  many = set_length items i y ∙ so.many;
  counted = sent_is ∙ (let all : suc now.traffic.sent ≡ was.traffic.sent + (i + 1) = (let before : now.traffic.sent ≡ was.traffic.sent + i = so.counted in omega (arith, before)) in all);
  rest = ap (λ (t : Traffic). sends_all t (drop (i + 1) (slice_set items i y))) sends_is
      ∙ ap (sends_all (sends now.traffic p.«from» p.to p.msg)) behind
      ∙ sym (ap (sends_all now.traffic) ahead)
      ∙ so.rest;
  numbers = ap (λ l. l ++ numbered (suc next.traffic.sent) (drop (i + 1) (slice_set items i y))) front
      ∙ ap (λ l. (take i items ++ y ∷ []) ++ numbered (suc next.traffic.sent) l) behind
      ∙ ap (λ (k : ℕ). (take i items ++ y ∷ []) ++ numbered (suc k) (drop (i + 1) items)) sent_is
      ∙ append_assoc (take i items) (y ∷ []) (numbered (suc (suc now.traffic.sent)) (drop (i + 1) items))
      ∙ ap (λ (x : Packet). take i items ++ x ∷ numbered (suc (suc now.traffic.sent)) (drop (i + 1) items)) y_is
      ∙ sym (ap (λ l. take i items ++ numbered (suc now.traffic.sent) l) ahead)
      ∙ so.numbers;
  room = (let before : was.room ≤ now.room + i = so.room in omega (arith, before, room_is));
}
  where
    y : Packet
    y = record q { number = n }

    sent_is : next.traffic.sent ≡ suc now.traffic.sent
    sent_is = ap (λ (t : Traffic). t.sent) sends_is

    ahead : drop i items ≡ p ∷ drop (i + 1) items
    ahead = drop_more items i p low ∙ ap (λ x. x ∷ drop (i + 1) items) (sym is_p)

    behind : drop (i + 1) (slice_set items i y) ≡ drop (i + 1) items
    behind = drop-set-lt (i + 1) items i y (omega arith)

    front : take (i + 1) (slice_set items i y) ≡ take i items ++ y ∷ []
    front = ap (λ k. take k (slice_set items i y)) (add-one i) ∙ take-suc-set items i y low

    y_is : y ≡ record p { number = suc now.traffic.sent }
    y_is =
        ap (λ (x : Packet). let z : Packet = record x { number = n } in z) (same_at i items p q low is_p is_q)
        ∙ ap (λ (k : ℕ). let z : Packet = record p { number = k } in z) (n_is ∙ add-one now.traffic.sent)

-- all are sent
pub all_numbered : (was : NetView) (outs : List Packet) (i : ℕ) (now : NetView) (items : List Packet) → SentSome was outs i now items → length items ≤ i →
    items ≡ numbered (suc was.traffic.sent) outs
all_numbered was outs i now items so high =
    sym (append-nil items)
    ∙ ap (λ l. l ++ []) (sym (take_all i items high))
    ∙ ap (λ l. take i items ++ numbered (suc now.traffic.sent) l) (sym (drop_all i items high))
    ∙ so.numbers

pub all_sent : (was : NetView) (outs : List Packet) (i : ℕ) (now : NetView) (items : List Packet) → SentSome was outs i now items → length items ≤ i →
    now.traffic ≡ sends_all was.traffic outs
all_sent was outs i now items so high = ap (sends_all now.traffic) (sym (drop_all i items high)) ∙ so.rest
