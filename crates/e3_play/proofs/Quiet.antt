-- Where nothing is pending, nothing is pending behind an entry that sends nothing.
use Rattle.std.proofs.Common.{◌≡◌, ◌+◌, ◌++◌, ◌∷◌, [], ℕ, ◌<◌, Bool, true, false, List, refl, sym, ap, ◌∙◌, filter, map, arith, append-nil, append_assoc, nat_lt, ltb-true, lt-ltb, if◌then◌else◌, sum}
use Rattle.std.proofs.lemmas.List.{map-append}
use Rattle.std.proofs.lemmas.List.Sums.{sum_by-append}
use Rattle.e3_types.specs.declared.entries.Entry.{Entry}
use Rattle.e3_types.specs.declared.messages.Packet.{Packet}
use Rattle.e3_types.specs.declared.scenarios.Scenario.{Scenario}
use Rattle.e3_world.specs.Fate.{copies_of}
use Rattle.e3_world.specs.Packets.{fate_of, left_after, outs_of, pending, taken, taken_by}

taken_push : (number : ℕ) (h : List Entry) (e : Entry) → taken number (h ++ e ∷ []) ≡ taken number h + taken number (e ∷ [])
taken_push number h e = ap sum (map-append (λ x. taken_by number x.act) h (e ∷ [])) ∙ sum_by-append _ (map (λ x. taken_by number x.act) h) (map (λ x. taken_by number x.act) (e ∷ []))

-- a test that passes less leaves nothing where another does
none_passes : (q r : Packet → Bool) → ((x : Packet) → q x ≡ true → r x ≡ true) → (xs : List Packet) → filter r xs ≡ [] → filter q xs ≡ []
none_passes q r to [] none = refl
none_passes q r to (x ∷ xs) none = by (q x) (r x) refl refl none (none_passes q r to xs)
  where
    by : (b c : Bool) → q x ≡ b → r x ≡ c → (if c then x ∷ filter r xs else filter r xs) ≡ [] → (filter r xs ≡ [] → filter q xs ≡ []) →
        (if b then x ∷ filter q xs else filter q xs) ≡ []
    by b true first second none rest = absurd cc
    by true false first second none rest = absurd (let both : r x ≡ true = to x first in cc)
    by false false first second none rest = rest none

both_none : (xs ys : List Packet) → xs ++ ys ≡ [] → (xs ≡ []) × (ys ≡ [])
both_none [] ys none = (refl, none)
both_none (x ∷ xs) ys none = absurd cc

-- what is left of packets sent before
none_left : (sc : Scenario) (h : List Entry) (e : Entry) (before rest : List Entry) → left_after sc h before rest ≡ [] → left_after sc (h ++ e ∷ []) before rest ≡ []
none_left sc h e before [] none = refl
none_left sc h e before (x ∷ rest) none =
    let parts : (filter r (outs_of x.act) ≡ []) × (left_after sc h (before ++ x ∷ []) rest ≡ []) = both_none (filter r (outs_of x.act)) (left_after sc h (before ++ x ∷ []) rest) none in
    ap (λ l. l ++ left_after sc (h ++ e ∷ []) (before ++ x ∷ []) rest) (none_passes q r fewer (outs_of x.act) parts.0)
    ∙ none_left sc h e (before ++ x ∷ []) rest parts.1
  where
    q : Packet → Bool
    q p = nat_lt (taken p.number (h ++ e ∷ [])) (copies_of (fate_of sc before p))

    r : Packet → Bool
    r p = nat_lt (taken p.number h) (copies_of (fate_of sc before p))

    fewer : (y : Packet) → q y ≡ true → r y ≡ true
    fewer y is =
        let more : taken y.number (h ++ e ∷ []) ≡ taken y.number h + taken y.number (e ∷ []) = taken_push y.number h e in
        let low : taken y.number (h ++ e ∷ []) < copies_of (fate_of sc before y) = ltb-true (taken y.number (h ++ e ∷ [])) (copies_of (fate_of sc before y)) is in
        lt-ltb (taken y.number h) (copies_of (fate_of sc before y)) (omega (arith, more, low))

left_append : (sc : Scenario) (all before xs ys : List Entry) → left_after sc all before (xs ++ ys) ≡ left_after sc all before xs ++ left_after sc all (before ++ xs) ys
left_append sc all before [] ys = ap (λ l. left_after sc all l ys) (sym (append-nil before))
left_append sc all before (x ∷ xs) ys =
    let q : Packet → Bool = λ p. nat_lt (taken p.number all) (copies_of (fate_of sc before p)) in
    ap (λ l. filter q (outs_of x.act) ++ l) (left_append sc all (before ++ x ∷ []) xs ys)
    ∙ sym (append_assoc (filter q (outs_of x.act)) (left_after sc all (before ++ x ∷ []) xs) (left_after sc all ((before ++ x ∷ []) ++ xs) ys))
    ∙ ap (λ l. (filter q (outs_of x.act) ++ left_after sc all (before ++ x ∷ []) xs) ++ left_after sc all l ys) (append_assoc before (x ∷ []) xs)

pub none_pending : (sc : Scenario) (h : List Entry) (e : Entry) → outs_of e.act ≡ [] → pending sc h ≡ [] → pending sc (h ++ e ∷ []) ≡ []
none_pending sc h e out none =
    left_append sc (h ++ e ∷ []) [] h (e ∷ [])
    ∙ ap (λ l. l ++ left_after sc (h ++ e ∷ []) h (e ∷ [])) (none_left sc h e [] h none)
    ∙ ap (λ l. filter (λ p. nat_lt (taken p.number (h ++ e ∷ [])) (copies_of (fate_of sc h p))) l ++ []) out
