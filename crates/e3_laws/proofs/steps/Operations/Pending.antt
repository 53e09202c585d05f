-- What is pending behind one more entry was pending before it, or is sent by it.
use Rattle.std.proofs.Common.{◌≡◌, ◌+◌, ◌++◌, ◌∷◌, [], ℕ, ◌<◌, Bool, true, false, List, refl, sym, subst, ap, ◌∙◌, inl, inr, ◌⊎◌, filter, map, arith, append-nil, append_assoc, nat_lt, ltb-true, lt-ltb, if◌then◌else◌, sum}
use Rattle.std.specs.Prelude.{Contains}
use Rattle.std.proofs.lemmas.List.{map-append}
use Rattle.std.proofs.lemmas.List.Elements.{Contains-append_left, Contains-append_right, Contains-append_cases}
use Rattle.std.proofs.lemmas.List.Sums.{sum_by-append}
use Rattle.e3_types.specs.declared.entries.Entry.{Entry}
use Rattle.e3_types.specs.declared.messages.Packet.{Packet}
use Rattle.e3_types.specs.declared.scenarios.Scenario.{Scenario}
use Rattle.e3_world.specs.Fate.{copies_of}
use Rattle.e3_world.specs.Packets.{outs_of, fate_of, taken_by, taken, left_after, pending}
use Rattle.e3_laws.proofs.steps.Packets.{Among, among, contains}

in_filter : (p : Packet) (q r : Packet → Bool) → ((x : Packet) → q x ≡ true → r x ≡ true) → (xs : List Packet) → Among p (filter q xs) → Among p (filter r xs)
in_filter p q r to [] has = has
in_filter p q r to (x ∷ xs) has = by (q x) (r x) refl refl has (λ more. in_filter p q r to xs more)
  where
    by : (b c : Bool) → q x ≡ b → r x ≡ c → Among p (if b then x ∷ filter q xs else filter q xs) → (Among p (filter q xs) → Among p (filter r xs)) → Among p (if c then x ∷ filter r xs else filter r xs)
    by true true first second (inl this) rest = inl this
    by true true first second (inr more) rest = inr (rest more)
    by true false first second has rest = absurd (let both : r x ≡ true = to x first in cc)
    by false true first second has rest = inr (rest has)
    by false false first second has rest = rest has

all_in : (p : Packet) (q : Packet → Bool) (xs : List Packet) → Among p (filter q xs) → Among p xs
all_in p q [] has = has
all_in p q (x ∷ xs) has = by (q x) has (λ more. all_in p q xs more)
  where
    by : (b : Bool) → Among p (if b then x ∷ filter q xs else filter q xs) → (Among p (filter q xs) → Among p xs) → Among p (x ∷ xs)
    by true (inl this) rest = inl this
    by true (inr more) rest = inr (rest more)
    by false has rest = inr (rest has)

taken_push : (number : ℕ) (h : List Entry) (e : Entry) → taken number (h ++ e ∷ []) ≡ taken number h + taken number (e ∷ [])
taken_push number h e = ap sum (map-append (λ x. taken_by number x.act) h (e ∷ [])) ∙ sum_by-append _ (map (λ x. taken_by number x.act) h) (map (λ x. taken_by number x.act) (e ∷ []))

left_less : (sc : Scenario) (h : List Entry) (e : Entry) (before rest : List Entry) (p : Packet) → Contains (left_after sc (h ++ e ∷ []) before rest) p →
    Contains (left_after sc h before rest) p
left_less sc h e before [] p has = has
left_less sc h e before (x ∷ rest) p has =
    let q : Packet → Bool = λ p. nat_lt (taken p.number (h ++ e ∷ [])) (copies_of (fate_of sc before p)) in
    let r : Packet → Bool = λ p. nat_lt (taken p.number h) (copies_of (fate_of sc before p)) in
    elim (Contains-append_cases (filter q (outs_of x.act)) (left_after sc (h ++ e ∷ []) (before ++ x ∷ []) rest) p has) [
      | inl first ↦ Contains-append_left (filter r (outs_of x.act)) (left_after sc h (before ++ x ∷ []) rest) p
          (contains p (filter r (outs_of x.act)) (in_filter p q r (λ y is. fewer y is) (outs_of x.act) (among p (filter q (outs_of x.act)) first)))
      | inr more ↦ Contains-append_right (filter r (outs_of x.act)) (left_after sc h (before ++ x ∷ []) rest) p (left_less sc h e (before ++ x ∷ []) rest p more)
    ]
  where
    fewer : (y : Packet) → nat_lt (taken y.number (h ++ e ∷ [])) (copies_of (fate_of sc before y)) ≡ true → nat_lt (taken y.number h) (copies_of (fate_of sc before y)) ≡ true
    fewer y is =
        let more : taken y.number (h ++ e ∷ []) ≡ taken y.number h + taken y.number (e ∷ []) = taken_push y.number h e in
        let low : taken y.number (h ++ e ∷ []) < copies_of (fate_of sc before y) = ltb-true (taken y.number (h ++ e ∷ [])) (copies_of (fate_of sc before y)) is in
        lt-ltb (taken y.number h) (copies_of (fate_of sc before y)) (omega (arith, more, low))

left_append : (sc : Scenario) (all before xs ys : List Entry) → left_after sc all before (xs ++ ys) ≡ left_after sc all before xs ++ left_after sc all (before ++ xs) ys
left_append sc all before [] ys = ap (λ l. left_after sc all l ys) (sym (append-nil before))
left_append sc all before (x ∷ xs) ys =
    let q : Packet → Bool = λ p. nat_lt (taken p.number all) (copies_of (fate_of sc before p)) in
    ap (λ l. filter q (outs_of x.act) ++ l) (left_append sc all (before ++ x ∷ []) xs ys)
    ∙ sym (append_assoc (filter q (outs_of x.act)) (left_after sc all (before ++ x ∷ []) xs) (left_after sc all ((before ++ x ∷ []) ++ xs) ys))
    ∙ ap (λ l. (filter q (outs_of x.act) ++ left_after sc all (before ++ x ∷ []) xs) ++ left_after sc all l ys) (append_assoc before (x ∷ []) xs)

pub pending_push : (sc : Scenario) (h : List Entry) (e : Entry) (p : Packet) → Contains (pending sc (h ++ e ∷ [])) p → Contains (pending sc h) p ⊎ Contains (outs_of e.act) p
pending_push sc h e p has =
    let all : List Entry = h ++ e ∷ [] in
    let q : Packet → Bool = λ p. nat_lt (taken p.number all) (copies_of (fate_of sc h p)) in
    let P : List Packet → Type 0 = λ l. Contains l p in
    elim (Contains-append_cases (left_after sc all [] h) (left_after sc all h (e ∷ [])) p (subst P (left_append sc all [] h (e ∷ [])) has)) [
      | inl old ↦ inl (left_less sc h e [] h p old)
      | inr new ↦ elim (Contains-append_cases (filter q (outs_of e.act)) [] p new) [
        | inl this ↦ inr (contains p (outs_of e.act) (all_in p q (outs_of e.act) (among p (filter q (outs_of e.act)) this)))
        | inr none ↦ absurd (omega (arith, none.1))
      ]
    ]

pub none_in : (xs : List Packet) → ((p : Packet) → Contains xs p → ⊥) → xs ≡ []
none_in [] none = refl
none_in (x ∷ xs) none = absurd (none x (0, omega arith, refl))
