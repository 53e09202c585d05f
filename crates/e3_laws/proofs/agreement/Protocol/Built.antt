-- Marks of one note with up to two letters, and what the examples' rules ask for.
use Rattle.std.proofs.Common.{◌≡◌, ◌≢◌, ◌⊎◌, inl, inr, ℕ, ◌≤◌, List, [], ◌∷◌, refl, sym, ap, subst, arith}
use Rattle.e3_types.specs.declared.transactions.Dir.{Dir}
use Rattle.e3_laws.specs.agreement.Logs.{IsIn, Note, Attempt, Waiting}
use Rattle.e3_laws.specs.agreement.Rules.{Party, Situation, Letter, letter, Word, Yes, Ack, Report, Came, Reply, Replied, MayWrite, MaySay}
use Rattle.e3_laws.specs.agreement.Marks.{MayMark}
use Rattle.e3_laws.specs.agreement.Examples.{mark}

none : (P : Letter → Type 0) (p : Letter) → IsIn p [] → P p
none P p h = absurd h

one : (P : Letter → Type 0) (q : Letter) → P q → (p : Letter) → IsIn p (q ∷ []) → P p
one P q v p (inl e) = subst P (sym e) v
one P q v p (inr h) = absurd h

two : (P : Letter → Type 0) (q r : Letter) → P q → P r → (p : Letter) → IsIn p (q ∷ r ∷ []) → P p
two P q r v w p (inl e) = subst P (sym e) v
two P q r v w p (inr h) = one P r w p h

pub alone : (g : Party) (s : Situation) (x : ℕ) (r : Note) → MayWrite g s.sent (s.log x) x r → MayMark g s (mark x r [])
alone g s x r may = record {
  notes = (may, tt);
  from_here = none (λ (p : Letter). p.source ≡ x);
  sends = none (λ (p : Letter). MaySay s.sent (r ∷ s.log x) x p.target p.word);
}

pub with_one : (g : Party) (s : Situation) (x : ℕ) (r : Note) (y : ℕ) (w : Word) → MayWrite g s.sent (s.log x) x r
    → MaySay s.sent (r ∷ s.log x) x y w → MayMark g s (mark x r (letter x y w ∷ []))
with_one g s x r y w may say = record {
  notes = (may, tt);
  from_here = one (λ (p : Letter). p.source ≡ x) (letter x y w) refl;
  sends = one (λ (p : Letter). MaySay s.sent (r ∷ s.log x) x p.target p.word) (letter x y w) say;
}

pub with_two : (g : Party) (s : Situation) (x : ℕ) (r : Note) (y z : ℕ) (w : Word) → MayWrite g s.sent (s.log x) x r
    → MaySay s.sent (r ∷ s.log x) x y w → MaySay s.sent (r ∷ s.log x) x z w → MayMark g s (mark x r (letter x y w ∷ letter x z w ∷ []))
with_two g s x r y z w may say also = record {
  notes = (may, tt);
  from_here = two (λ (p : Letter). p.source ≡ x) (letter x y w) (letter x z w) refl refl;
  sends = two (λ (p : Letter). MaySay s.sent (r ∷ s.log x) x p.target p.word) (letter x y w) (letter x z w) say also;
}

-- both other sites said yes
pub two_votes : (y : ℕ) → IsIn y (1 ∷ 2 ∷ 3 ∷ []) → y ≢ 1 → Came (letter 2 1 Yes ∷ letter 3 1 Yes ∷ []) y 1 Yes
two_votes y (inl e) ne = absurd (ne e)
two_votes y (inr (inl e)) ne = inl (ap (λ (z : ℕ). letter z 1 Yes) e)
two_votes y (inr (inr (inl e))) ne = inr (inl (ap (λ (z : ℕ). letter z 1 Yes) e))
two_votes y (inr (inr (inr h))) ne = absurd h

-- a site and another one have attempted
pub two_attempts : (sent : List Letter) (l : List Note) (x z n : ℕ) (d : Dir) → IsIn (Attempt n d) l → Came sent z x (Ack n d)
    → (y : ℕ) → IsIn y (x ∷ z ∷ []) → ((y ≡ x) × IsIn (Attempt n d) l) ⊎ Came sent y x (Ack n d)
two_attempts sent l x z n d own other y (inl e) = inl (e, own)
two_attempts sent l x z n d own other y (inr (inl e)) = inr (subst (λ (k : ℕ). Came sent k x (Ack n d)) (sym e) other)
two_attempts sent l x z n d own other y (inr (inr h)) = absurd h

-- a site that waits, as it replied in an election
abbrev pub waits : ℕ → Reply
waits y = record { site = y; stood = Waiting; tried = 0 }

pub two_replies : (sent : List Letter) (l : List Note) (x z n : ℕ) → Replied sent l x n (waits x) → Came sent z x (Report n Waiting 0)
    → (r : Reply) → IsIn r (waits x ∷ waits z ∷ []) → Replied sent l x n r
two_replies sent l x z n own other r (inl e) = subst (λ (k : Reply). Replied sent l x n k) (sym e) own
two_replies sent l x z n own other r (inr (inl e)) = subst (λ (k : Reply). Replied sent l x n k) (sym e) (inl other)
two_replies sent l x z n own other r (inr (inr h)) = absurd h

pub none_tried : (x z : ℕ) (r : Reply) → IsIn r (waits x ∷ waits z ∷ []) → r.tried ≤ 0
none_tried x z r (inl e) = let q : r.tried ≡ 0 = ap (λ (k : Reply). k.tried) e in omega arith
none_tried x z r (inr (inl e)) = let q : r.tried ≡ 0 = ap (λ (k : Reply). k.tried) e in omega arith
none_tried x z r (inr (inr h)) = absurd h
