-- A number that falls with each packet that a driver takes in turn: how many entries there are on all ways on.
use Rattle.std.proofs.Common.{◌≡◌, ◌<◌, ◌≤◌, ◌∷◌, ◌++◌, [], ℕ, zero, suc, Bool, true, false, List, Option, Some, None, refl, sym, ap, subst, ◌∙◌, arith, map, append-nil, true≢false}
use Rattle.std.specs.Prelude.{Contains, slice_get}
use Rattle.std.specs.List.{AllByRecursion as Each}
use Rattle.std.proofs.lemmas.List.{map-append}
use mathlib.Core.WellFounded.{Acc, Acc-prop}
use Rattle.e3_types.specs.declared.entries.Act.{Act}
use Rattle.e3_types.specs.declared.entries.Act.TheVariants.{Step, Fall, Rise, RiseFall, Miss, Cut, Drop, Parts, Line}
use Rattle.e3_types.specs.declared.entries.Entry.{Entry}
use Rattle.e3_types.specs.declared.entries.Input.TheVariants as input
use Rattle.e3_types.specs.declared.entries.Why.{Why}
use Rattle.e3_types.specs.declared.entries.Why.TheVariants.{Fault, Full}
use Rattle.e3_types.specs.declared.messages.Packet.{Packet}
use Rattle.e3_types.specs.declared.records.Record.{Record}
use Rattle.e3_types.specs.declared.scenarios.Scenario.{Scenario}
use Rattle.e3_world.specs.Given.{IsGiven}
use Rattle.e3_world.specs.Legal.{Guard, IsLegal, entry_of, first_pending, made_by}
use Rattle.e3_laws.proofs.steps.Each.{each-at}
use Rattle.e3_laws.specs.local.Settling.{EntriesAreCounted, TakesFirst, TakingLowers}
use Rattle.e3_laws.specs.local.Measures.{is_below, measure, total, takes_packet}
use Rattle.e3_laws.proofs.local.Measure.FullFrames.{alike, entry_alike, made_alike, measure_alike, pending_alike}
use Rattle.e3_laws.proofs.local.Measure.Ending.{Lower, no_descent}

-- the fall of a packet's receiver over it
abbrev fall_over : Scenario → List Entry → Packet → Why → Entry
fall_over sc h p why = record { owner = p.to; act = Fall (input.Deliver p ∷ []) (made_by sc h p.to (input.Deliver p)).records why }

-- what may be entered for the first pending packet
abbrev nexts : Scenario → List Entry → Option Packet → List Entry
nexts sc h None = []
nexts sc h (Some p) =
    entry_of sc h p.to (input.Deliver p) ∷ fall_over sc h p Fault ∷ fall_over sc h p (Full 0 0) ∷ record { owner = 0; act = Drop p.number } ∷ []

-- an entry and those behind it, where it lowers the measure
abbrev counted : (t b : Bool) → t ≡ b → (t ≡ true → ℕ) → ℕ
counted t true is behind = suc (behind is)
counted t false is behind = 0

pub ways : (sc : Scenario) (h : List Entry) → Acc (Lower sc) h → ℕ
ways sc h (Acc.intro k more) = total (λ e. counted (is_below (measure sc (k ++ e ∷ [])) (measure sc k)) (is_below (measure sc (k ++ e ∷ [])) (measure sc k)) refl
    (λ is. ways sc (k ++ e ∷ []) (more (k ++ e ∷ []) (refl, is)))) (nexts sc k (first_pending sc k))

-- how many entries there are on all ways on, where each time the first pending packet is taken
pub left : Scenario → List Entry → ℕ
left sc h = ways sc (map alike h) (no_descent sc (map alike h))

part_le : {X : Type 0} (f : X → ℕ) (xs : List X) → Each (λ x. f x ≤ total f xs) xs
part_le f [] = tt
part_le {X} f (x ∷ xs) = (let P : ℕ → Type 0 = λ n. f x ≤ n in omega arith, more xs (part_le f xs))
  where
    more : (ys : List X) → Each (λ y. f y ≤ total f xs) ys → Each (λ y. f y ≤ total f (x ∷ xs)) ys
    more [] all = tt
    more (y ∷ ys) all = ((let one : f y ≤ total f xs = all.0 in omega (arith, one)), more ys all.1)

counted_is : (t b : Bool) (is : t ≡ b) (f : t ≡ true → ℕ) (n : ℕ) → t ≡ true → ((x : t ≡ true) → f x ≡ n) → counted t b is f ≡ suc n
counted_is t true is f n holds same = ap suc (same is)
counted_is t false is f n holds same = absurd (true≢false (sym holds ∙ is))

next_less : (sc : Scenario) (h : List Entry) (was : Acc (Lower sc) h) (e : Entry) → Contains (nexts sc h (first_pending sc h)) e →
    is_below (measure sc (h ++ e ∷ [])) (measure sc h) ≡ true → (now : Acc (Lower sc) (h ++ e ∷ [])) → ways sc (h ++ e ∷ []) now < ways sc h was
unfolding ways
next_less sc h (Acc.intro k more) e has below now =
    let f : Entry → ℕ = λ x. counted (is_below (measure sc (k ++ x ∷ [])) (measure sc k)) (is_below (measure sc (k ++ x ∷ [])) (measure sc k)) refl
    (λ is. ways sc (k ++ x ∷ []) (more (k ++ x ∷ []) (refl, is))) in
    let all : List Entry = nexts sc k (first_pending sc k) in
    let part : f e ≤ total f all = each-at (λ x. f x ≤ total f all) all e (part_le f all) has in
    let one : f e ≡ suc (ways sc (k ++ e ∷ []) now) =
    counted_is (is_below (measure sc (k ++ e ∷ [])) (measure sc k)) (is_below (measure sc (k ++ e ∷ [])) (measure sc k)) refl
    (λ is. ways sc (k ++ e ∷ []) (more (k ++ e ∷ []) (refl, is))) (ways sc (k ++ e ∷ []) now) below
    (λ is. ap (ways sc (k ++ e ∷ [])) (Acc-prop (more (k ++ e ∷ []) (refl, is)) now)) in
    let is : ways sc k (Acc.intro k more) ≡ total f all = refl in
    omega (arith, part, one, is)

-- what is entered is one of these, but for the numbers of a frame that did not fit
abbrev IsNext : Scenario → List Entry → Entry → Type 0
IsNext sc h e = Contains (nexts sc (map alike h) (first_pending sc (map alike h))) (alike e)

first_alike : (sc : Scenario) (h : List Entry) → first_pending sc (map alike h) ≡ first_pending sc h
first_alike sc h = ap (λ ps. slice_get ps 0) (pending_alike sc h)

found : (sc : Scenario) (h : List Entry) (p : Packet) (e : Entry) → first_pending sc h ≡ Some p → Contains (nexts sc (map alike h) (Some p)) (alike e) → IsNext sc h e
found sc h p e first has = let P : Option Packet → Type 0 = λ o. Contains (nexts sc (map alike h) o) (alike e) in subst P (sym (first_alike sc h ∙ first)) has

-- a step
stepped : (sc : Scenario) (h : List Entry) (p : Packet) → first_pending sc h ≡ Some p → IsNext sc h (entry_of sc h p.to (input.Deliver p))
stepped sc h p first = found sc h p (entry_of sc h p.to (input.Deliver p)) first
    (let P : Entry → Type 0 = λ e. Contains (nexts sc (map alike h) (Some p)) e in subst P (entry_alike sc h p.to (input.Deliver p)) (0, omega arith, refl))

-- a fall
fallen : (sc : Scenario) (h : List Entry) (p : Packet) (records : List Record) (why : Why) → first_pending sc h ≡ Some p →
    records ≡ (made_by sc h p.to (input.Deliver p)).records → IsNext sc h (record { owner = p.to; act = Fall (input.Deliver p ∷ []) records why })
fallen sc h p records why first made = found sc h p (record { owner = p.to; act = Fall (input.Deliver p ∷ []) records why }) first
    (let P : List Record → Type 0 = λ l. Contains (nexts sc (map alike h) (Some p)) (alike (record { owner = p.to; act = Fall (input.Deliver p ∷ []) l why })) in
    subst P (ap (λ m. m.records) (made_alike sc h p.to (input.Deliver p)) ∙ sym made) (by why))
  where
    by : (why : Why) → Contains (nexts sc (map alike h) (Some p)) (alike (fall_over sc (map alike h) p why))
    by Fault = (1, omega arith, refl)
    by (Full need room) = (2, omega arith, refl)

-- a drop
dropped : (sc : Scenario) (h : List Entry) (p : Packet) → first_pending sc h ≡ Some p → IsNext sc h (record { owner = 0; act = Drop p.number })
dropped sc h p first = found sc h p (record { owner = 0; act = Drop p.number }) first (3, omega arith, refl)

is_next : (sc : Scenario) (h : List Entry) (owner : ℕ) (act : Act) → Guard sc h (record { owner = owner; act = act }) → TakesFirst sc h act →
    IsNext sc h (record { owner = owner; act = act }) × (takes_packet act ≡ true)
is_next sc h zero (Drop number) guard takes = (
  let P : ℕ → Type 0 = λ n. IsNext sc h (record { owner = 0; act = Drop n }) in subst P takes.2 (dropped sc h takes.0 takes.1),
  refl,
)
is_next sc h zero (Line number) guard takes = absurd takes
is_next sc h zero (Parts parts) guard takes = absurd takes
is_next sc h zero act guard takes = absurd guard
is_next sc h (suc s) (Step (input.Deliver p) records outs events) guard takes = (
  let P : Entry → Type 0 = λ e. IsNext sc h e in
      let Q : ℕ → Type 0 = λ site. IsNext sc h (entry_of sc h site (input.Deliver p)) in
      subst P (sym guard.made) (subst Q guard.due.to (stepped sc h p takes)),
  refl,
)
is_next sc h (suc s) (Fall (input.Deliver p ∷ []) records why) guard takes = (
  let P : ℕ → Type 0 = λ site. records ≡ (made_by sc h site (input.Deliver p)).records in
      let Q : ℕ → Type 0 = λ site. IsNext sc h (record { owner = site; act = Fall (input.Deliver p ∷ []) records why }) in
      let made : records ≡ (made_by sc h (suc s) (input.Deliver p)).records = guard.made ∙ append-nil (made_by sc h (suc s) (input.Deliver p)).records in
      subst Q guard.due.0.to (fallen sc h p records why takes (subst P (sym guard.due.0.to) made)),
  refl,
)
is_next sc h (suc s) (Drop number) guard takes = absurd guard
is_next sc h (suc s) Cut guard takes = absurd takes
is_next sc h (suc s) (Rise kept inc) guard takes = absurd takes
is_next sc h (suc s) (RiseFall kept inc why) guard takes = absurd takes
is_next sc h (suc s) Miss guard takes = absurd takes
is_next sc h (suc s) act guard takes = absurd takes

pub left_falls : (sc : Scenario) (h : List Entry) (e : Entry) → TakingLowers → IsGiven sc → IsLegal sc h → Guard sc h e → TakesFirst sc h e.act →
    left sc (h ++ e ∷ []) < left sc h
unfolding left
left_falls sc h e lowers given legal guard takes =
    let next : IsNext sc h e × (takes_packet e.act ≡ true) = is_next sc h e.owner e.act guard takes in
    let same : map alike (h ++ e ∷ []) ≡ map alike h ++ alike e ∷ [] = map-append alike h (e ∷ []) in
    let P : List Entry → Type 0 = λ k. ways sc k (no_descent sc k) < ways sc (map alike h) (no_descent sc (map alike h)) in
    let now : measure sc (map alike h ++ alike e ∷ []) ≡ measure sc (h ++ e ∷ []) = ap (measure sc) (sym same) ∙ measure_alike sc (h ++ e ∷ []) in
    let Q : List ℕ → Type 0 = λ ms. is_below ms (measure sc (map alike h)) ≡ true in
    let R : List ℕ → Type 0 = λ ms. is_below (measure sc (h ++ e ∷ [])) ms ≡ true in
    subst P (sym same) (next_less sc (map alike h) (no_descent sc (map alike h)) (alike e) next.0
    (subst Q (sym now) (subst R (sym (measure_alike sc h)) (lowers sc h e given legal guard next.1)))
    (no_descent sc (map alike h ++ alike e ∷ [])))

pub counted_entries : TakingLowers → EntriesAreCounted
counted_entries lowers sc given = (left sc, λ h e legal guard takes. left_falls sc h e lowers given legal guard takes)
