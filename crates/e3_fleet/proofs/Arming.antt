-- Arms, cuts and faults over one more entry.
use Rattle.std.proofs.Common.{◌≡◌, ◌==◌, ◌||◌, inl, inr, ◌⊎◌, ◌≤◌, ◌+◌, ◌*◌, ◌++◌, ◌∷◌, [], ℕ, Bool, true, false, List, length, min, refl, sym, ap, ◌∙◌, arith}
use Rattle.std.specs.Prelude.{count_by, if◌then◌else◌}
use Rattle.std.proofs.lemmas.Grind.{flat_map-append}
use Rattle.std.proofs.lemmas.List.Sums.{sum_by-append}
use Rattle.e3_disk.specs.Meters.{LAST, raised}
use Rattle.e3_fleet.specs.Stops.{Arm, PayFor, arm_by, arms_of, calls_in, calls_of, codes_in, counted_by, ends_arm, is_over, part_of, rises_of, steps_of, takes_of}
use Rattle.e3_types.specs.declared.entries.Act.{Act}
use Rattle.e3_types.specs.declared.entries.Act.TheVariants.{Step, Fall, Rise, RiseFall, Miss, Cut, Drop, Parts, Line}
use Rattle.e3_types.specs.declared.entries.Entry.{Entry}
use Rattle.e3_types.specs.declared.scenarios.Scenario.{Scenario}
use Rattle.e3_world.specs.Moves.{own_entries}
use Rattle.e3_world.proofs.Readings.{own_same, own_other}
use Rattle.e3_world.proofs.Turns.{true_not_false}

-- a count that rose twice
min_more : (a n k l : ℕ) → min (min (a + n) l + k) l ≡ min (a + (n + k)) l
min_more a n k l = omega arith

pub raised_more : (a n k : ℕ) → raised (raised a n) k ≡ raised a (n + k)
raised_more a n k = min_more a n k LAST

pub raised_none : (a : ℕ) → a ≤ LAST → a ≡ raised a 0
raised_none a low = by LAST low
  where
    by : (l : ℕ) → a ≤ l → a ≡ min (a + 0) l
    by l low = omega arith

-- how many of an owner's entries pass a test, with one more
abbrev pub one_if : Bool → ℕ
one_if true = 1
one_if false = 0

one_count : (b : Bool) → (if b then 1 else 0) ≡ one_if b
one_count true = refl
one_count false = refl

count_push : (p : Entry → Bool) (xs : List Entry) (x : Entry) → count_by p (xs ++ x ∷ []) ≡ count_by p xs + one_if (p x)
count_push p xs x = let both : count_by p (xs ++ x ∷ []) ≡ count_by p xs + (0 + (if p x then 1 else 0)) = sum_by-append _ xs (x ∷ []) in
    let one = one_count (p x) in omega (arith, both, one)

abbrev pub counted_if : (Entry → Bool) → ℕ → Entry → ℕ
counted_if p site e = if e.owner == site then one_if (p e) else 0

pub own_push : (p : Entry → Bool) (h : List Entry) (e : Entry) (site : ℕ) →
    count_by p (own_entries site (h ++ e ∷ [])) ≡ count_by p (own_entries site h) + counted_if p site e
own_push p h e site = by (e.owner == site) refl
  where
    by : (b : Bool) → (e.owner == site) ≡ b → count_by p (own_entries site (h ++ e ∷ [])) ≡ count_by p (own_entries site h) + counted_if p site e
    by true is = let none : counted_if p site e ≡ one_if (p e) = rw is refl in
        ap (count_by p) (own_same site h e is) ∙ count_push p (own_entries site h) e ∙ ap (λ n. count_by p (own_entries site h) + n) (sym none)
    by false is = let none : counted_if p site e ≡ 0 = rw is refl in let same = ap (count_by p) (own_other site h e is) in omega (arith, none, same)

-- the arms with one more entry, and their sums
pub arms_push : (sc : Scenario) (h : List Entry) (e : Entry) (site : ℕ) → arms_of sc (h ++ e ∷ []) site ≡ arms_of sc h site ++ arm_by sc site e
arms_push sc h e site = flat_map-append (arm_by sc site) h (e ∷ []) ∙ ap (λ xs. arms_of sc h site ++ xs) (end (arm_by sc site e))
  where
    end : (xs : List Arm) → xs ++ [] ≡ xs
    end [] = refl
    end (a ∷ xs) = ap (λ ys. a ∷ ys) (end xs)

length_more : (xs ys : List Arm) → length (xs ++ ys) ≡ length xs + length ys
length_more [] ys = omega arith
length_more (a ∷ xs) ys = let more = length_more xs ys in omega (arith, more)

calls_more : (xs ys : List Arm) → calls_in (xs ++ ys) ≡ calls_in xs + calls_in ys
calls_more xs ys = sum_by-append _ xs ys

codes_more : (xs ys : List Arm) → codes_in (xs ++ ys) ≡ codes_in xs + codes_in ys
codes_more xs ys = sum_by-append _ xs ys

pub length_push : (sc : Scenario) (h : List Entry) (e : Entry) (site : ℕ) → length (arms_of sc (h ++ e ∷ []) site) ≡ length (arms_of sc h site) + length (arm_by sc site e)
length_push sc h e site = ap length (arms_push sc h e site) ∙ length_more (arms_of sc h site) (arm_by sc site e)

pub calls_push : (sc : Scenario) (h : List Entry) (e : Entry) (site : ℕ) → calls_in (arms_of sc (h ++ e ∷ []) site) ≡ calls_in (arms_of sc h site) + calls_in (arm_by sc site e)
calls_push sc h e site = ap calls_in (arms_push sc h e site) ∙ calls_more (arms_of sc h site) (arm_by sc site e)

pub codes_push : (sc : Scenario) (h : List Entry) (e : Entry) (site : ℕ) → codes_in (arms_of sc (h ++ e ∷ []) site) ≡ codes_in (arms_of sc h site) + codes_in (arm_by sc site e)
codes_push sc h e site = ap codes_in (arms_push sc h e site) ∙ codes_more (arms_of sc h site) (arm_by sc site e)

-- a list in two, with one more at its end
pub record IsAll {X : Type 0} (xs before after : List X) (last : X) : Type 0 where
  pub front : before ≡ xs ++ last ∷ []
  pub rest : after ≡ []

pub record IsPart {X : Type 0} (xs before after : List X) (last : X) : Type 0 where
  pub rest : List X
  pub parts : xs ≡ before ++ rest
  pub more : after ≡ rest ++ last ∷ []

pub in_two : {X : Type 0} (xs before after : List X) (last : X) → xs ++ last ∷ [] ≡ before ++ after → IsAll xs before after last ⊎ IsPart xs before after last
in_two {X} [] [] after last is = inr (record { rest = []; parts = refl; more = sym is })
in_two {X} [] (b ∷ []) after last is = inl (record { front = cc; rest = cc })
in_two {X} [] (b ∷ c ∷ before) after last is = absurd cc
in_two {X} (y ∷ xs) [] after last is = inr (record { rest = y ∷ xs; parts = refl; more = sym is })
in_two {X} (y ∷ xs) (b ∷ before) after last is =
    by (in_two xs before after last (let rest : xs ++ last ∷ [] ≡ before ++ after = cc in rest)) (let same : y ≡ b = cc in same)
  where
    by : IsAll xs before after last ⊎ IsPart xs before after last → y ≡ b → IsAll (y ∷ xs) (b ∷ before) after last ⊎ IsPart (y ∷ xs) (b ∷ before) after last
    by (inl k) same = let front : before ≡ xs ++ last ∷ [] = k.front in inl (record { front = cc; rest = k.rest })
    by (inr k) same = let parts : xs ≡ before ++ k.rest = k.parts in inr (record { rest = k.rest; parts = cc; more = k.more })

-- a place in a list, with one more at its end
pub record IsLast {X : Type 0} (xs before after : List X) (x last : X) : Type 0 where
  pub front : before ≡ xs
  pub this : x ≡ last
  pub rest : after ≡ []

pub record IsBefore {X : Type 0} (xs before after : List X) (x last : X) : Type 0 where
  pub rest : List X
  pub parts : xs ≡ before ++ x ∷ rest
  pub more : after ≡ rest ++ last ∷ []

pub at_place : {X : Type 0} (xs before after : List X) (x last : X) → xs ++ last ∷ [] ≡ before ++ x ∷ after →
    IsLast xs before after x last ⊎ IsBefore xs before after x last
at_place {X} [] [] after x last is = inl (record { front = refl; this = cc; rest = cc })
at_place {X} [] (b ∷ []) after x last is = absurd cc
at_place {X} [] (b ∷ c ∷ before) after x last is = absurd cc
at_place {X} (y ∷ xs) [] after x last is =
    let same : y ≡ x = cc in let rest : xs ++ last ∷ [] ≡ after = cc in inr (record { rest = xs; parts = ap (λ z. z ∷ xs) same; more = sym rest })
at_place {X} (y ∷ xs) (b ∷ before) after x last is =
    by (at_place xs before after x last (let rest : xs ++ last ∷ [] ≡ before ++ x ∷ after = cc in rest)) (let same : y ≡ b = cc in same)
  where
    by : IsLast xs before after x last ⊎ IsBefore xs before after x last → y ≡ b →
        IsLast (y ∷ xs) (b ∷ before) after x last ⊎ IsBefore (y ∷ xs) (b ∷ before) after x last
    by (inl k) same = let front : before ≡ xs = k.front in inl (record { front = cc; this = k.this; rest = k.rest })
    by (inr k) same = let parts : xs ≡ before ++ x ∷ k.rest = k.parts in inr (record { rest = k.rest; parts = cc; more = k.more })

-- what is counted, with one more entry: all the same once the arm is over
counted_over : (f : Act → ℕ) (sc : Scenario) (site : ℕ) (es : List Entry) (x : Entry) → is_over sc site es ≡ true → counted_by f sc site (es ++ x ∷ []) ≡ counted_by f sc site es
counted_over f sc site [] x over = absurd cc
counted_over f sc site (e ∷ es) x over = by (λ rest. counted_over f sc site es x rest) (ends_arm sc site e) refl
  where
    by : (is_over sc site es ≡ true → counted_by f sc site (es ++ x ∷ []) ≡ counted_by f sc site es) → (b : Bool) → ends_arm sc site e ≡ b →
        counted_by f sc site ((e ∷ es) ++ x ∷ []) ≡ counted_by f sc site (e ∷ es)
    by next true is = rw is refl
    by next false is = let rest : is_over sc site es ≡ true = sym (let same : is_over sc site (e ∷ es) ≡ is_over sc site es = rw is refl in same) ∙ over in
        let more = next rest in rw is (ap (λ n. part_of f site e + n) more)

-- an entry that ends it counts nothing, and another its own
counted_end : (f : Act → ℕ) (sc : Scenario) (site : ℕ) (es : List Entry) (x : Entry) → ends_arm sc site x ≡ true → counted_by f sc site (es ++ x ∷ []) ≡ counted_by f sc site es
counted_end f sc site [] x ends = rw ends refl
counted_end f sc site (e ∷ es) x ends = by (counted_end f sc site es x ends) (ends_arm sc site e) refl
  where
    by : counted_by f sc site (es ++ x ∷ []) ≡ counted_by f sc site es → (b : Bool) → ends_arm sc site e ≡ b → counted_by f sc site ((e ∷ es) ++ x ∷ []) ≡ counted_by f sc site (e ∷ es)
    by more true is = rw is refl
    by more false is = rw is (ap (λ n. part_of f site e + n) more)

counted_more : (f : Act → ℕ) (sc : Scenario) (site : ℕ) (es : List Entry) (x : Entry) → is_over sc site es ≡ false → ends_arm sc site x ≡ false →
    counted_by f sc site (es ++ x ∷ []) ≡ counted_by f sc site es + part_of f site x
counted_more f sc site [] x over goes = rw goes (let n = part_of f site x in omega arith)
counted_more f sc site (e ∷ es) x over goes = by (λ rest. counted_more f sc site es x rest goes) (ends_arm sc site e) refl
  where
    by : (is_over sc site es ≡ false → counted_by f sc site (es ++ x ∷ []) ≡ counted_by f sc site es + part_of f site x) → (b : Bool) → ends_arm sc site e ≡ b →
        counted_by f sc site ((e ∷ es) ++ x ∷ []) ≡ counted_by f sc site (e ∷ es) + part_of f site x
    by next true is = absurd (true_not_false (sym (let same : is_over sc site (e ∷ es) ≡ true = rw is refl in same) ∙ over))
    by next false is = let rest : is_over sc site es ≡ false = sym (let same : is_over sc site (e ∷ es) ≡ is_over sc site es = rw is refl in same) ∙ over in
        let more : counted_by f sc site (es ++ x ∷ []) ≡ counted_by f sc site es + part_of f site x = next rest in
        let one : counted_by f sc site ((e ∷ es) ++ x ∷ []) ≡ part_of f site e + counted_by f sc site (es ++ x ∷ []) = rw is refl in
        let two : counted_by f sc site (e ∷ es) ≡ part_of f site e + counted_by f sc site es = rw is refl in
        omega (arith, more, one, two)

-- so with what pays for them
pub pay_over : (spare : ℕ) (sc : Scenario) (site : ℕ) (es : List Entry) (x : Entry) (calls : ℕ) → is_over sc site es ≡ true → PayFor spare sc site es calls →
    PayFor spare sc site (es ++ x ∷ []) calls
pay_over spare sc site es x calls over (frames, steps, all) =
    let same_steps = counted_over steps_of sc site es x over in
    let same_rises = counted_over rises_of sc site es x over in
    (frames, omega (arith, steps, same_steps), omega (arith, all, same_rises))

pub pay_end : (spare : ℕ) (sc : Scenario) (site : ℕ) (es : List Entry) (x : Entry) (calls : ℕ) → ends_arm sc site x ≡ true → PayFor spare sc site es calls →
    PayFor spare sc site (es ++ x ∷ []) calls
pay_end spare sc site es x calls ends (frames, steps, all) =
    let same_steps = counted_end steps_of sc site es x ends in
    let same_rises = counted_end rises_of sc site es x ends in
    (frames, omega (arith, steps, same_steps), omega (arith, all, same_rises))

-- What one more entry costs: a frame for its step, or room in the frame of those before it.
pub record Costs (spare left : ℕ) (site : ℕ) (x : Entry) (calls : ℕ) : Type 0 where
  pub frames : ℕ
  pub steps : part_of steps_of site x + left ≤ 8 * frames + spare
  pub all : 4 * frames + 5 * part_of rises_of site x ≤ calls

pub pay_more : (spare left : ℕ) (sc : Scenario) (site : ℕ) (es : List Entry) (x : Entry) (calls cost : ℕ) → is_over sc site es ≡ false → ends_arm sc site x ≡ false →
    Costs spare left site x cost → PayFor spare sc site es calls → PayFor left sc site (es ++ x ∷ []) (calls + cost)
pay_more spare left sc site es x calls cost opens goes one (frames, steps, all) =
    let more_steps = counted_more steps_of sc site es x opens goes in
    let more_rises = counted_more rises_of sc site es x opens goes in
    let step = one.steps in
    let cost_is = one.all in
    (frames + one.frames, omega (arith, steps, step, more_steps), omega (arith, all, cost_is, more_rises))

-- room in a frame need not be used
pub pay_less : (spare : ℕ) (sc : Scenario) (site : ℕ) (es : List Entry) (calls : ℕ) → PayFor spare sc site es calls → PayFor 0 sc site es calls
pay_less spare sc site es calls (frames, steps, all) = (frames, omega (arith, steps), all)

-- an entry by itself: what it takes pays for a frame of its own
pub costs_own : (site : ℕ) (x : Entry) → Costs 0 0 site x (takes_of site x)
costs_own site x = by (x.owner == site) refl
  where
    acts : (act : Act) → 4 * steps_of act + 5 * rises_of act ≤ calls_of act
    acts (Step i [] outs events) = omega arith
    acts (Step i (r ∷ rs) outs events) = omega arith
    acts (Fall inputs records why) = omega arith
    acts (Rise kept inc) = omega arith
    acts (RiseFall kept inc why) = omega arith
    acts Miss = omega arith
    acts Cut = omega arith
    acts (Drop packet) = omega arith
    acts (Parts parts) = omega arith
    acts (Line number) = omega arith

    by : (b : Bool) → (x.owner == site) ≡ b → Costs 0 0 site x (takes_of site x)
    by true is =
        let s : part_of steps_of site x ≡ steps_of x.act = rw is refl in
        let r : part_of rises_of site x ≡ rises_of x.act = rw is refl in
        let t : takes_of site x ≡ calls_of x.act = rw is refl in
        let low : 4 * steps_of x.act + 5 * rises_of x.act ≤ calls_of x.act = acts x.act in
        record { frames = part_of steps_of site x; steps = omega arith; all = omega (arith, s, r, t, low) }
    by false is =
        let s : part_of steps_of site x ≡ 0 = rw is refl in
        let r : part_of rises_of site x ≡ 0 = rw is refl in
        record { frames = 0; steps = omega (arith, s); all = omega (arith, r) }

-- it is over where it was, or where the entry ends it
pub over_push : (sc : Scenario) (site : ℕ) (es : List Entry) (x : Entry) → is_over sc site (es ++ x ∷ []) ≡ false →
    (is_over sc site es ≡ false) × (ends_arm sc site x ≡ false)
over_push sc site [] x goes = (refl, by (ends_arm sc site x) goes)
  where
    by : (b : Bool) → (b || false) ≡ false → b ≡ false
    by true is = absurd cc
    by false is = refl
over_push sc site (e ∷ es) x goes = by (λ rest. over_push sc site es x rest) (ends_arm sc site e) refl
  where
    by : (is_over sc site (es ++ x ∷ []) ≡ false → (is_over sc site es ≡ false) × (ends_arm sc site x ≡ false)) → (b : Bool) → ends_arm sc site e ≡ b → (is_over sc site (e ∷ es) ≡ false) × (ends_arm sc site x ≡ false)
    by next true is = absurd (true_not_false (sym (let same : is_over sc site ((e ∷ es) ++ x ∷ []) ≡ true = rw is refl in same) ∙ goes))
    by next false is = let rest = next (sym (let same : is_over sc site ((e ∷ es) ++ x ∷ []) ≡ is_over sc site (es ++ x ∷ []) = rw is refl in same) ∙ goes) in
        (let same : is_over sc site (e ∷ es) ≡ is_over sc site es = rw is refl in (same ∙ rest.0), rest.1)
