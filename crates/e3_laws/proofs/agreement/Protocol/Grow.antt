-- What stays as logs grow.
use Rattle.std.proofs.Common.{◌≡◌, ◌⊎◌, inl, inr, ℕ, ◌≤◌, List, ◌∷◌, sym, ap, ◌∙◌, subst}
use Rattle.std.proofs.lemmas.Bool.{cases_eq}
use Rattle.e3_types.specs.declared.transactions.Dir.{Dir}
use Rattle.e3_types.specs.declared.transactions.Dir.TheVariants.{Abort, Commit}
use Rattle.e3_laws.specs.agreement.Logs.{IsIn, Note, Vote, Join, Attempt, Decision, Status, attempt, below, Fits, Orderly, Backs}
use Rattle.e3_laws.specs.agreement.Rules.{Party, Situation, Word, Yes, No, Elected, Report, Pre, Ack, Decide, Other, Adds, Sends}
use Rattle.e3_laws.specs.agreement.Invariant.{Invariant, Shows, Support, Somewhere, Majority, Voted, Reason, ByMajority, ByRefusal, ByCallingOff}
use Rattle.e3_laws.proofs.agreement.Protocol.Logs.{below_stays, backs-more, no_vote_stays, no_attempt_stays}

-- a log stays, or has one record more, which fits
pub data Grown (l m : List Note) : Type 0 where
  Same : m ≡ l → Grown l m
  More : (r : Note) → m ≡ r ∷ l → Fits r l → Grown l m

pub in_grown : (x : Note) (l m : List Note) → Grown l m → IsIn x l → IsIn x m
in_grown x l m (Same e) h = subst (λ z. IsIn x z) (sym e) h
in_grown x l m (More r e f) h = subst (λ z. IsIn x z) (sym e) (inr h)

pub orderly_grown : (l m : List Note) → Grown l m → Orderly l → Orderly m
orderly_grown l m (Same e) o = subst Orderly (sym e) o
orderly_grown l m (More r e f) o = subst Orderly (sym e) (f, o)

pub below_grown : (n e : ℕ) (l m : List Note) → Grown l m → IsIn (Join n e) l → below m n ≡ below l n
below_grown n e l m (Same p) h = ap (λ z. below z n) p
below_grown n e l m (More r p f) h = ap (λ z. below z n) p ∙ below_stays n e r l f h

pub backs_grown : (st : Status) (a : ℕ) (l m : List Note) → Grown l m → Backs st a l → Backs st a m
backs_grown st a l m (Same p) b = subst (λ z. Backs st a z) (sym p) b
backs_grown st a l m (More r p f) b = subst (λ z. Backs st a z) (sym p) (backs-more st a r l b)

pub unvoted_grown : (d : Dir) (l m : List Note) → Grown l m → IsIn (Decision d) l → (IsIn Vote l → ⊥) → IsIn Vote m → ⊥
unvoted_grown d l m (Same p) h u v = u (subst (λ z. IsIn Vote z) p v)
unvoted_grown d l m (More r p f) h u v = no_vote_stays d r l f h u (subst (λ z. IsIn Vote z) p v)

pub untried_grown : (d : Dir) (l m : List Note) → Grown l m → Orderly l → IsIn (Decision d) l → attempt l ≡ 0 → attempt m ≡ 0
untried_grown d l m (Same p) o h a = ap attempt p ∙ a
untried_grown d l m (More r p f) o h a = ap attempt p ∙ no_attempt_stays d r l o f h a

pub record Grows (before after : Situation) : Type 0 where
  pub ordered : (x : ℕ) → Orderly (before.log x)
  pub log : (x : ℕ) → Grown (before.log x) (after.log x)

pub somewhere_stays : (s t : Situation) → Grows s t → (n : ℕ) (d : Dir) → Somewhere s n d → Somewhere t n d
somewhere_stays s t w n d a = (a.0, in_grown (Attempt n d) (s.log a.0) (t.log a.0) (w.log a.0) a.1)

pub shows_stays : (s t : Situation) → Grows s t → (x y : ℕ) (m : Word) → Shows s x y m → Shows t x y m
shows_stays s t w x y Yes h = in_grown Vote (s.log x) (t.log x) (w.log x) h
shows_stays s t w x y No h = in_grown (Decision Abort) (s.log x) (t.log x) (w.log x) h
shows_stays s t w x y (Elected n) h = in_grown (Join n x) (s.log x) (t.log x) (w.log x) h
shows_stays s t w x y (Report n st a) h =
    (in_grown (Join n y) (s.log x) (t.log x) (w.log x) h.0, h.1 ∙ sym (below_grown n y (s.log x) (t.log x) (w.log x) h.0), backs_grown st a (s.log x) (t.log x) (w.log x) h.2)
shows_stays s t w x y (Pre n d) h = in_grown (Attempt n d) (s.log x) (t.log x) (w.log x) h
shows_stays s t w x y (Ack n d) h = in_grown (Attempt n d) (s.log x) (t.log x) (w.log x) h
shows_stays s t w x y Other h = h
shows_stays s t w x y (Decide d) h = in_grown (Decision d) (s.log x) (t.log x) (w.log x) h

follows_stays : (s t : Situation) → Grows s t → (n : ℕ) (d : Dir) → ((n ≡ 0) × (d ≡ Abort)) ⊎ Somewhere s n d → ((n ≡ 0) × (d ≡ Abort)) ⊎ Somewhere t n d
follows_stays s t w n d (inl z) = inl z
follows_stays s t w n d (inr a) = inr (somewhere_stays s t w n d a)

pub support_stays : (g : Party) (s t : Situation) → Grows s t → (n : ℕ) (d : Dir) → Support g s n d → Support g t n d
support_stays g s t w n d a = record {
  leader = a.leader;
  group = a.group;
  enough = a.enough;
  led = in_grown (Attempt n d) (s.log a.leader) (t.log a.leader) (w.log a.leader) a.led;
  joined = λ y h. in_grown (Join n a.leader) (s.log y) (t.log y) (w.log y) (a.joined y h);
  top = a.top;
  top_below = a.top_below;
  greatest = λ y h. subst (λ k. k ≤ a.top) (sym (below_grown n a.leader (s.log y) (t.log y) (w.log y) (a.joined y h))) (a.greatest y h);
  follows = follows_stays s t w a.top d a.follows;
}

pub majority_stays : (g : Party) (s t : Situation) → Grows s t → (n : ℕ) (d : Dir) → Majority g s n d → Majority g t n d
majority_stays g s t w n d a = record {
  group = a.group;
  enough = a.enough;
  all = λ y h. in_grown (Attempt n d) (s.log y) (t.log y) (w.log y) (a.all y h);
}

pub voted_stays : (g : Party) (s t : Situation) → Grows s t → Voted g s → Voted g t
voted_stays g s t w v =
    (λ y h. in_grown Vote (s.log y) (t.log y) (w.log y) (v.0 y h), in_grown (Attempt 1 Commit) (s.log g.coordinator) (t.log g.coordinator) (w.log g.coordinator) v.1)

pub reason_stays : (g : Party) (s t : Situation) → Grows s t → (d : Dir) → Reason g s d → Reason g t d
reason_stays g s t w d (ByMajority n q) = ByMajority n (majority_stays g s t w n d q)
reason_stays g s t w d (ByRefusal e y m h v) = ByRefusal e y m (in_grown (Decision Abort) (s.log y) (t.log y) (w.log y) h) (unvoted_grown Abort (s.log y) (t.log y) (w.log y) h v)
reason_stays g s t w d (ByCallingOff e h a) =
    ByCallingOff e (in_grown (Decision Abort) (s.log g.coordinator) (t.log g.coordinator) (w.log g.coordinator) h)
    (untried_grown Abort (s.log g.coordinator) (t.log g.coordinator) (w.log g.coordinator) (w.ordered g.coordinator) h a)

pub grows_sends : (g : Party) (s t : Situation) → Invariant g s → Sends s t → Grows s t
grows_sends g s t i e = record { ordered = i.orderly; log = λ x. Same (e.logs x) }

pub grows_adds : (g : Party) (s t : Situation) → Invariant g s → (x : ℕ) (r : Note) → Fits r (s.log x) → Adds x r s t → Grows s t
grows_adds g s t i x r f a = record { ordered = i.orderly; log = λ y. at y (cases_eq y x) }
  where
    at : (y : ℕ) → (y ≡ x) ⊎ (y ≡ x → ⊥) → Grown (s.log y) (t.log y)
    at y (inl e) = subst (λ z. Grown (s.log z) (t.log z)) (sym e) (More r a.here f)
    at y (inr e) = Same (a.elsewhere y e)
