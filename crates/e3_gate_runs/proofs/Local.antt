-- A mark that is allowed behind what its owner has seen is allowed behind the whole chronicle.
use Rattle.std.proofs.Common.{◌≡◌, ℕ, zero, suc, ◌+◌, ◌<◌, List, [], ◌∷◌, ◌++◌, length, refl, sym, ap, ◌∙◌, subst, arith, eqb, cond, Bool, true, false, append_assoc}
use Rattle.std.specs.Prelude.{All, Result, Ok, Err, MatchResult, MatchBool, is_ok, ltb}
use Rattle.std.proofs.lemmas.Bool.{eqb-true, eq-eqb}
use Rattle.std.proofs.lemmas.List.{append-nil}
use Rattle.std.proofs.lemmas.List.Elements.{All-nil, All-cons, All-head, All-tail}
use Rattle.e3_turn.specs.Chronicles.{count_of, IsForeign, IsOwn, ExtendsByOthers, ExtendsByOwners, LongerExtends, longer}
use Rattle.e3_turn.proofs.Totals.{count_of_self}
use Rattle.e3_gate_runs.specs.declared.turns.journal.Mark.{Mark}
use Rattle.e3_gate_runs.specs.Marks.{marks_of, IsNext, IsNumberedBehind, numbered}

abbrev pub owned_by : Mark → ℕ → Bool
owned_by m o = eqb m.owner o

pub marks_of-append : (o : ℕ) (xs ys : List Mark) → marks_of o (xs ++ ys) ≡ marks_of o xs ++ marks_of o ys
marks_of-append o [] ys = refl
marks_of-append o (m ∷ ms) ys = go (eqb m.owner o) (marks_of-append o ms ys)
  where
    go : (b : Bool) → marks_of o (ms ++ ys) ≡ marks_of o ms ++ marks_of o ys → cond b (m ∷ marks_of o (ms ++ ys)) (marks_of o (ms ++ ys)) ≡ cond b (m ∷ marks_of o ms) (marks_of o ms) ++ marks_of o ys
    go true e = ap (λ l. m ∷ l) e
    go false e = e

-- marks behind that belong to no owner of the pass are none of its owner's
pub none_of : (last o : ℕ) (owners : List ℕ) (ms : List Mark) → 0 < count_of o owners → All (IsForeign owned_by last owners) ms → marks_of o ms ≡ []
none_of last o owners [] has h = refl
none_of last o owners (m ∷ ms) has h = go (eqb m.owner o) refl (none_of last o owners ms has (All-tail (IsForeign owned_by last owners) m ms h))
  where
    go : (b : Bool) → eqb m.owner o ≡ b → marks_of o ms ≡ [] → cond b (m ∷ marks_of o ms) (marks_of o ms) ≡ []
    go true e r = absurd (let z = (All-head (IsForeign owned_by last owners) m ms h).1 o e in omega arith)
    go false e r = r

-- what was seen has all marks of an owner of the pass
pub marks_of-grown : (last o : ℕ) (owners : List ℕ) (seen chronicle : List Mark) → 0 < count_of o owners → ExtendsByOthers owned_by last owners seen chronicle → marks_of o chronicle ≡ marks_of o seen
marks_of-grown last o owners seen chronicle has g = ap (marks_of o) g.1 ∙ marks_of-append o seen g.0 ∙ ap (λ l. marks_of o seen ++ l) (none_of last o owners g.0 has g.2) ∙ append-nil (marks_of o seen)

pub local : (last : ℕ) (owners : List ℕ) (seen chronicle : List Mark) (m : Mark) → 0 < count_of m.owner owners → ExtendsByOthers owned_by last owners seen chronicle → IsNext seen m → IsNext chronicle m
local last owners seen chronicle m has g allowed = allowed ∙ ap length (sym (marks_of-grown last m.owner owners seen chronicle has g))

pub legal-push : (before ms : List Mark) (m : Mark) → IsNumberedBehind before ms → IsNext (before ++ ms) m → IsNumberedBehind before (ms ++ m ∷ [])
legal-push before [] m h a = (subst (λ l. IsNext l m) (append-nil before) a, tt)
legal-push before (x ∷ xs) m h a = (h.0, legal-push (before ++ x ∷ []) xs m h.1 (subst (λ l. IsNext l m) (sym (append_assoc before (x ∷ []) xs)) a))

abbrev pub mark : ℕ → ℕ → Mark
mark o k = record { owner = o; number = k }

pub has_one : (o : ℕ) (owners : List ℕ) → owners ≡ o ∷ [] → 0 < count_of o owners
has_one o owners e = subst (λ l. 0 < count_of o l) (sym e) (let t = count_of_self o in omega arith)

-- one mark of the owner, or none
pub grew_one : {A B : Type 0} (r : Result A B) (last : ℕ) (m : Mark) (owners : List ℕ) (seen chronicle now : List Mark) → owners ≡ m.owner ∷ [] → seen ≡ chronicle
    → MatchResult r (λ _. now ≡ chronicle ++ m ∷ []) (λ _. now ≡ chronicle) → ExtendsByOwners owned_by last owners seen now
grew_one (Ok a) last m owners seen chronicle now e s is = (m ∷ [], is ∙ ap (λ l. l ++ m ∷ []) (sym s), All-cons (IsOwn owned_by last owners) m [] ((m.owner, has_one m.owner owners e, eq-eqb m.owner m.owner refl), λ p le b. subst (λ z. 0 < count_of z owners) (eqb-true m.owner p b) (has_one m.owner owners e)) (All-nil (IsOwn owned_by last owners)))
grew_one (Err b) last m owners seen chronicle now e s is = ([], is ∙ sym s ∙ sym (append-nil seen), All-nil (IsOwn owned_by last owners))

of_own : (m : Mark) → marks_of m.owner (m ∷ []) ≡ m ∷ []
of_own m = ap (λ b. cond b (m ∷ []) []) (eq-eqb m.owner m.owner refl)

pub marks_after : {A B : Type 0} (r : Result A B) (b : Bool) (m : Mark) (seen chronicle now after : List Mark) → b ≡ is_ok r → MatchResult r (λ _. now ≡ chronicle ++ m ∷ []) (λ _. now ≡ chronicle)
    → marks_of m.owner chronicle ≡ marks_of m.owner seen → after ≡ now → MatchBool b (marks_of m.owner after ≡ marks_of m.owner seen ++ m ∷ []) (marks_of m.owner after ≡ marks_of m.owner seen)
marks_after (Ok a) b m seen chronicle now after e is same h = subst (λ b. MatchBool b (marks_of m.owner after ≡ marks_of m.owner seen ++ m ∷ []) (marks_of m.owner after ≡ marks_of m.owner seen)) (sym e)
    (ap (marks_of m.owner) (h ∙ is) ∙ marks_of-append m.owner chronicle (m ∷ []) ∙ ap (λ l. l ++ marks_of m.owner (m ∷ [])) same ∙ ap (λ l. marks_of m.owner seen ++ l) (of_own m))
marks_after (Err x) b m seen chronicle now after e is same h = subst (λ b. MatchBool b (marks_of m.owner after ≡ marks_of m.owner seen ++ m ∷ []) (marks_of m.owner after ≡ marks_of m.owner seen)) (sym e) (ap (marks_of m.owner) (h ∙ is) ∙ same)

pub length-numbered : (o k n : ℕ) → length (numbered o k n) ≡ n
length-numbered o k zero = refl
length-numbered o k (suc n) = ap suc (length-numbered o (k + 1) n)

pub numbered-push : (o k n : ℕ) → numbered o k n ++ mark o (k + n) ∷ [] ≡ numbered o k (n + 1)
numbered-push o k zero = ap (λ j. mark o j ∷ []) (omega arith)
numbered-push o k (suc n) =
    let same : k + suc n ≡ k + 1 + n = omega arith in
    let more : suc n + 1 ≡ suc (n + 1) = omega arith in
    ap (λ l. mark o k ∷ l) (ap (λ j. numbered o (k + 1) n ++ mark o j ∷ []) same ∙ numbered-push o (k + 1) n) ∙ ap (numbered o k) (sym more)

pub numbered-push_from_zero : (o n : ℕ) → numbered o 0 n ++ mark o n ∷ [] ≡ numbered o 0 (n + 1)
numbered-push_from_zero o n = let z : n ≡ 0 + n = omega arith in ap (λ j. numbered o 0 n ++ mark o j ∷ []) z ∙ numbered-push o 0 n

-- what a join leaves of the marks of an owner of either pass
pub joined_first : (last o : ℕ) (vo wo : List ℕ) (vs ws : List Mark) → LongerExtends owned_by last vo vs wo ws → 0 < count_of o vo → marks_of o (longer vs ws) ≡ marks_of o vs
joined_first last o vo wo vs ws agree has = go (ltb (length vs) (length ws)) agree
  where
    go : (b : Bool) → MatchBool b (ExtendsByOthers owned_by last vo vs ws) (ExtendsByOthers owned_by last wo ws vs) → marks_of o (cond b ws vs) ≡ marks_of o vs
    go true g = marks_of-grown last o vo vs ws has g
    go false g = refl

pub joined_second : (last o : ℕ) (vo wo : List ℕ) (vs ws : List Mark) → LongerExtends owned_by last vo vs wo ws → 0 < count_of o wo → marks_of o (longer vs ws) ≡ marks_of o ws
joined_second last o vo wo vs ws agree has = go (ltb (length vs) (length ws)) agree
  where
    go : (b : Bool) → MatchBool b (ExtendsByOthers owned_by last vo vs ws) (ExtendsByOthers owned_by last wo ws vs) → marks_of o (cond b ws vs) ≡ marks_of o ws
    go true g = refl
    go false g = marks_of-grown last o wo ws vs has g
