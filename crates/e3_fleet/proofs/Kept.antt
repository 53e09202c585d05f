-- What the numbers of a disk came to, over one more entry.
use Rattle.std.proofs.Common.{◌≡◌, ◌≢◌, ◌==◌, inl, inr, ◌⊎◌, ◌≤◌, ◌<◌, ◌+◌, ◌++◌, ◌∷◌, [], ℕ, suc, Bool, true, false, List, length, refl, sym, ap, subst, ◌∙◌, arith, eqb-true, eq-eqb}
use Rattle.e3_disk.specs.Meters.{Meters, LAST, IsCounted, HasFailed, raised}
use Rattle.e3_fleet.specs.Over.{HasServed, HasGrownBy, faults_at, is_fault}
use Rattle.e3_fleet.specs.Stops.{Arm, PayFor, arm_by, arms_of, calls_in, codes_in, cuts_at, ends_arm, is_cut, is_over, takes_of}
use Rattle.e3_fleet.specs.Fleets.{HasKept, HasKeptWith}
use Rattle.e3_fleet.proofs.Arming.{Costs, IsAll, IsBefore, IsLast, IsPart, at_place, calls_push, codes_push, counted_if, in_two, length_push, costs_own, over_push, own_push, pay_end, pay_less, pay_more, pay_over, raised_more, raised_none}
use Rattle.e3_types.specs.declared.entries.Entry.{Entry}
use Rattle.e3_types.specs.declared.scenarios.Scenario.{Scenario}
use Rattle.e3_world.proofs.Turns.{true_not_false}

-- it took so many calls of an arm
abbrev pub Took : ℕ → Meters → Meters → Type 0
Took n old new = 0 < old.calls_left → (0 < new.calls_left) × (new.calls_left + n ≤ old.calls_left)

-- how the stops and the arm went: none came, and the disk is armed only where it was or is now; or one came
abbrev pub StopsGo : ℕ → Meters → Meters → Type 0
StopsGo arms x y =
    ((y.stops ≡ x.stops) × (0 < y.calls_left → (0 < x.calls_left) ⊎ (1 ≤ arms)))
    ⊎ ((y.stops ≡ suc x.stops) × (0 < x.calls_left) × (y.calls_left ≡ 0))

-- what every call keeps of the numbers of a site's disk, whatever is entered
pub record Goes (x y : Meters) : Type 0 where
  pub grows : x.faults ≤ y.faults
  pub own_faults : y.faults < LAST → x.faults + y.stops ≤ y.faults + x.stops
  pub rises : x.stops ≤ y.stops
  pub capacity : y.capacity ≡ x.capacity

-- how the numbers of a site's disk go with one more entry
pub record GoesWith (sc : Scenario) (site : ℕ) (e : Entry) (x y : Meters) : Type 0 where
  pub goes : Goes x y
  pub rose : counted_if is_fault site e ≡ 0 ⊎ ((counted_if is_fault site e ≡ 1) × HasFailed x.faults y.faults)
  pub stops : y.stops < LAST → StopsGo (length (arm_by sc site e)) x y
  pub arms : y.arms ≡ raised x.arms (length (arm_by sc site e))
  pub calls : y.calls ≡ raised x.calls (calls_in (arm_by sc site e))
  pub codes : y.codes ≡ raised x.codes (codes_in (arm_by sc site e))
  pub cuts : y.cuts ≡ raised x.cuts (counted_if is_cut site e)
  pub waits : ends_arm sc site e ≡ false → Took (takes_of site e) x y
  pub starts : (arm : Arm) → arm_by sc site e ≡ arm ∷ [] → (0 < y.calls_left) × (y.calls_left ≤ arm.calls)

-- an arm that waits pays for one more entry
abbrev pub Pays : ℕ → ℕ → ℕ → Entry → Meters → Meters → Type 0
Pays spare left site e x y = (cost : ℕ) × Costs spare left site e cost × Took cost x y

-- How they go with one more step of a batch: it may have room in the frame of those before it, and leave room for those behind
-- it. Of an entry by itself neither is so.
pub record GoesInBatch (spare left : ℕ) (sc : Scenario) (site : ℕ) (e : Entry) (x y : Meters) : Type 0 where
  pub goes : Goes x y
  pub rose : counted_if is_fault site e ≡ 0 ⊎ ((counted_if is_fault site e ≡ 1) × HasFailed x.faults y.faults)
  pub stops : y.stops < LAST → StopsGo (length (arm_by sc site e)) x y
  pub arms : y.arms ≡ raised x.arms (length (arm_by sc site e))
  pub calls : y.calls ≡ raised x.calls (calls_in (arm_by sc site e))
  pub codes : y.codes ≡ raised x.codes (codes_in (arm_by sc site e))
  pub cuts : y.cuts ≡ raised x.cuts (counted_if is_cut site e)
  pub waits : ends_arm sc site e ≡ false → Pays spare left site e x y
  pub starts : (arm : Arm) → arm_by sc site e ≡ arm ∷ [] → (left ≡ 0) × (0 < y.calls_left) × (y.calls_left ≤ arm.calls)

pub by_itself : (sc : Scenario) (site : ℕ) (e : Entry) (x y : Meters) → GoesWith sc site e x y → GoesInBatch 0 0 sc site e x y
by_itself sc site e x y g = record {
  goes = g.goes;
  rose = g.rose;
  stops = g.stops;
  arms = g.arms;
  calls = g.calls;
  codes = g.codes;
  cuts = g.cuts;
  waits = λ not_end. (takes_of site e, costs_own site e, g.waits not_end);
  starts = λ arm asks. (let s = g.starts arm asks in (refl, s.0, s.1));
}

-- and without one
pub record GoesOn (x y : Meters) : Type 0 where
  pub goes : Goes x y
  pub stops : y.stops < LAST → StopsGo 0 x y
  pub arms : y.arms ≡ x.arms
  pub calls : y.calls ≡ x.calls
  pub codes : y.codes ≡ x.codes
  pub cuts : y.cuts ≡ x.cuts
  pub waits : Took 0 x y

-- a count that rose, further
raise : (o x y n k m : ℕ) → x ≡ raised o n → y ≡ raised x k → m ≡ n + k → y ≡ raised o m
raise o x y n k m was is all = is ∙ ap (λ z. raised z k) was ∙ raised_more o n k ∙ ap (λ z. raised o z) (sym all)

-- the faults
rises_on : (o x y n k m : ℕ) → y ≤ LAST → x ≤ y → HasGrownBy n o x → (k ≡ 0) ⊎ ((k ≡ 1) × HasFailed x y) → m ≡ n + k → HasGrownBy m o y
rises_on o x y n k m counted up (inr last) rose all = inr (omega (arith, last, counted, up))
rises_on o x y n k m counted up (inl low) (inl none) all = inl (omega (arith, low, none, all, up))
rises_on o x y n k m counted up (inl low) (inr rose) all = by (y == LAST) refl
  where
    by : (b : Bool) → (y == LAST) ≡ b → HasGrownBy m o y
    by true is = inr (eqb-true y LAST is)
    by false is =
        let apart : y ≢ LAST = (λ e. true_not_false (sym (eq-eqb y LAST e) ∙ is)) in
        let one = rose.0 in let two = rose.1 in inl (omega (arith, low, one, two, all, counted, apart))

-- the stops, each with its arm, and the arm that is left
stops_on : (arms more all o : ℕ) (x y : Meters) → all ≡ arms + more → StopsGo more x y → x.stops ≤ o + arms →
    (0 < x.calls_left → x.stops < o + arms) → (y.stops ≤ o + all) × (0 < y.calls_left → y.stops < o + all)
stops_on arms more all o x y sum (inl same) spent left =
    let stops : y.stops ≡ x.stops = same.0 in
    (omega (arith, stops, spent, sum), λ armed. by (same.1 armed) stops)
  where
    by : (0 < x.calls_left) ⊎ (1 ≤ more) → y.stops ≡ x.stops → y.stops < o + all
    by (inl was) stops = let low = left was in omega (arith, stops, low, sum)
    by (inr one) stops = omega (arith, stops, spent, sum, one)
stops_on arms more all o x y sum (inr came) spent left =
    let low : x.stops < o + arms = left came.1 in let stops : y.stops ≡ suc x.stops = came.0 in let off : y.calls_left ≡ 0 = came.2 in
    (omega (arith, low, stops, sum), λ armed. absurd (omega (arith, armed, off)))

-- falls by stops, in a part of the history that was there before
fell_on : (f a o s : ℕ) (x y : Meters) → Goes x y → y.faults < LAST → y.stops < LAST →
    (x.faults < LAST → x.stops < LAST → f + x.stops + o ≤ a + x.faults + s) → f + y.stops + o ≤ a + y.faults + s
fell_on f a o s x y goes faults stops was =
    let up : x.faults ≤ y.faults = goes.grows in
    let rises : x.stops ≤ y.stops = goes.rises in
    let own : x.faults + y.stops ≤ y.faults + x.stops = goes.own_faults faults in
    let past : f + x.stops + o ≤ a + x.faults + s = was (omega (arith, up, faults)) (omega (arith, rises, stops)) in
    omega (arith, own, past)

-- and in all of it
fell_all : (f a o s faults stops : ℕ) → faults < LAST → HasGrownBy f o faults → stops ≤ s + a → f + stops + o ≤ a + faults + s
fell_all f a o s faults stops low (inl rose) spent = omega (arith, rose, spent)
fell_all f a o s faults stops low (inr last) spent = absurd (omega (arith, low, last))

-- nothing was entered
pub kept_on : (sc : Scenario) (h : List Entry) (site : ℕ) (o x y : Meters) → IsCounted y → GoesOn x y → HasKept sc h site o x → HasKept sc h site o y
kept_on sc h site o x y counted goes was = record {
  served = record {
    faults = rises_on o.faults x.faults y.faults (faults_at h site) 0 (faults_at h site) counted.faults goes.goes.grows was.served.faults (inl refl) (omega arith);
    grows = let one : o.faults ≤ x.faults = was.served.grows in let two : x.faults ≤ y.faults = goes.goes.grows in omega (arith, one, two);
    capacity = goes.goes.capacity ∙ was.served.capacity;
    arms = goes.arms ∙ was.served.arms;
    calls = goes.calls ∙ was.served.calls;
    codes = goes.codes ∙ was.served.codes;
    cuts = goes.cuts ∙ was.served.cuts;
    fell = λ before after is faults stops. fell_on (faults_at before site) (length (arms_of sc before site)) o.faults o.stops x y goes.goes faults stops
        (λ low few. was.served.fell before after is low few);
    stopped = was.served.stopped;
  };
  spent = λ few. (stops few).0;
  left = λ few armed. (stops few).1 armed;
  waits = λ before after e arm is asks goes_on. wait after arm.calls (was.waits before after e arm is asks goes_on);
}
  where
    n : ℕ
    n = length (arms_of sc h site)

    stops : y.stops < LAST → (y.stops ≤ o.stops + n) × (0 < y.calls_left → y.stops < o.stops + n)
    stops few = let rises : x.stops ≤ y.stops = goes.goes.rises in let low : x.stops < LAST = omega (arith, rises, few) in
        stops_on n 0 n o.stops x y (omega arith) (goes.stops few) (was.spent low) (was.left low)

    wait : (after : List Entry) (k : ℕ) → (0 < x.calls_left) × ((calls : ℕ) × PayFor 0 sc site after calls × (calls + x.calls_left ≤ k)) →
        (0 < y.calls_left) × ((calls : ℕ) × PayFor 0 sc site after calls × (calls + y.calls_left ≤ k))
    wait after k (some, (calls, paid, low)) = let took = goes.waits some in let less = took.1 in (took.0, (calls, paid, omega (arith, less, low)))

-- one more entry
pub kept_in : (spare left : ℕ) (sc : Scenario) (h : List Entry) (e : Entry) (site : ℕ) (o x y : Meters) → IsCounted y → GoesInBatch spare left sc site e x y →
    HasKeptWith spare sc h site o x → HasKeptWith left sc (h ++ e ∷ []) site o y
kept_in spare left sc h e site o x y counted goes was = record {
  served = record {
    faults = faults;
    grows = let one : o.faults ≤ x.faults = was.served.grows in let two : x.faults ≤ y.faults = goes.goes.grows in omega (arith, one, two);
    capacity = goes.goes.capacity ∙ was.served.capacity;
    arms = raise o.arms x.arms y.arms (length (arms_of sc h site)) (length (arm_by sc site e)) (length (arms_of sc (h ++ e ∷ []) site)) was.served.arms goes.arms arms;
    calls = raise o.calls x.calls y.calls (calls_in (arms_of sc h site)) (calls_in (arm_by sc site e)) (calls_in (arms_of sc (h ++ e ∷ []) site)) was.served.calls goes.calls (calls_push sc h e site);
    codes = raise o.codes x.codes y.codes (codes_in (arms_of sc h site)) (codes_in (arm_by sc site e)) (codes_in (arms_of sc (h ++ e ∷ []) site)) was.served.codes goes.codes (codes_push sc h e site);
    cuts = raise o.cuts x.cuts y.cuts (cuts_at h site) (counted_if is_cut site e) (cuts_at (h ++ e ∷ []) site) was.served.cuts goes.cuts (own_push is_cut h e site);
    fell = λ before after is low few. fell before after low few (in_two h before after e is);
    stopped = λ before after d arm is asks. stopped before after d arm asks (at_place h before after d e is);
  };
  spent = λ few. (stops few).0;
  left = λ few armed. (stops few).1 armed;
  waits = λ before after d arm is asks goes_on. waits before after d arm asks goes_on (at_place h before after d e is);
}
  where
    arms : length (arms_of sc (h ++ e ∷ []) site) ≡ length (arms_of sc h site) + length (arm_by sc site e)
    arms = length_push sc h e site

    faults : HasGrownBy (faults_at (h ++ e ∷ []) site) o.faults y.faults
    faults = rises_on o.faults x.faults y.faults (faults_at h site) (counted_if is_fault site e) (faults_at (h ++ e ∷ []) site) counted.faults goes.goes.grows
        was.served.faults goes.rose (own_push is_fault h e site)

    stops : y.stops < LAST → (y.stops ≤ o.stops + length (arms_of sc (h ++ e ∷ []) site)) × (0 < y.calls_left → y.stops < o.stops + length (arms_of sc (h ++ e ∷ []) site))
    stops few = let rises : x.stops ≤ y.stops = goes.goes.rises in let low : x.stops < LAST = omega (arith, rises, few) in
        stops_on (length (arms_of sc h site)) (length (arm_by sc site e)) (length (arms_of sc (h ++ e ∷ []) site)) o.stops x y arms (goes.stops few) (was.spent low) (was.left low)

    fell : (before after : List Entry) → y.faults < LAST → y.stops < LAST → IsAll h before after e ⊎ IsPart h before after e →
        faults_at before site + y.stops + o.faults ≤ length (arms_of sc before site) + y.faults + o.stops
    fell before after low few (inl all) =
        subst (λ (b : List Entry). faults_at b site + y.stops + o.faults ≤ length (arms_of sc b site) + y.faults + o.stops) (sym all.front)
        (fell_all (faults_at (h ++ e ∷ []) site) (length (arms_of sc (h ++ e ∷ []) site)) o.faults o.stops y.faults y.stops low faults (stops few).0)
    fell before after low few (inr part) =
        fell_on (faults_at before site) (length (arms_of sc before site)) o.faults o.stops x y goes.goes low few
        (λ faults stops. was.served.fell before part.rest part.parts faults stops)

    -- what waited has been taken from, or is over now
    go : (rest : List Entry) (arm : Arm) → (0 < x.calls_left) × ((calls : ℕ) × PayFor spare sc site rest calls × (calls + x.calls_left ≤ arm.calls)) →
        is_over sc site rest ≡ false → ends_arm sc site e ≡ false →
        (0 < y.calls_left) × ((calls : ℕ) × PayFor left sc site (rest ++ e ∷ []) calls × (calls + y.calls_left ≤ arm.calls))
    go rest arm (some, (calls, paid, low)) opens not_end =
        let pays = goes.waits not_end in
        let took = pays.2 some in let less : y.calls_left + pays.0 ≤ x.calls_left = took.1 in
        (took.0, (calls + pays.0, pay_more spare left sc site rest e calls pays.0 opens not_end pays.1 paid, omega (arith, less, low)))

    waits : (before after : List Entry) (d : Entry) (arm : Arm) → arm_by sc site d ≡ arm ∷ [] → is_over sc site after ≡ false →
        IsLast h before after d e ⊎ IsBefore h before after d e →
        (0 < y.calls_left) × ((calls : ℕ) × PayFor left sc site after calls × (calls + y.calls_left ≤ arm.calls))
    waits before after d arm asks opens (inl k) =
        let starts = goes.starts arm (subst (λ (z : Entry). arm_by sc site z ≡ arm ∷ []) k.this asks) in let zero = starts.0 in let low = starts.2 in
        subst (λ (a : List Entry). (0 < y.calls_left) × ((calls : ℕ) × PayFor left sc site a calls × (calls + y.calls_left ≤ arm.calls))) (sym k.rest)
        (starts.1, (0, (0, omega (arith, zero), omega arith), omega (arith, low)))
    waits before after d arm asks opens (inr k) =
        let parts = over_push sc site k.rest e (subst (λ (a : List Entry). is_over sc site a ≡ false) k.more opens) in
        subst (λ (a : List Entry). (0 < y.calls_left) × ((calls : ℕ) × PayFor left sc site a calls × (calls + y.calls_left ≤ arm.calls))) (sym k.more)
        (go k.rest arm (was.waits before k.rest d arm k.parts asks parts.0) parts.0 parts.1)

    stopped : (before after : List Entry) (d : Entry) (arm : Arm) → arm_by sc site d ≡ arm ∷ [] →
        IsLast h before after d e ⊎ IsBefore h before after d e → (calls : ℕ) × PayFor 0 sc site after calls × (calls < arm.calls)
    stopped before after d arm asks (inl k) =
        let starts = goes.starts arm (subst (λ (z : Entry). arm_by sc site z ≡ arm ∷ []) k.this asks) in let some = starts.1 in let low = starts.2 in
        subst (λ (a : List Entry). (calls : ℕ) × PayFor 0 sc site a calls × (calls < arm.calls)) (sym k.rest) (0, (0, omega arith, omega arith), omega (arith, some, low))
    stopped before after d arm asks (inr k) =
        subst (λ (a : List Entry). (calls : ℕ) × PayFor 0 sc site a calls × (calls < arm.calls)) (sym k.more) (by (is_over sc site k.rest) refl)
      where
        old : (calls : ℕ) × PayFor 0 sc site k.rest calls × (calls < arm.calls)
        old = was.served.stopped before k.rest d arm k.parts asks

        by : (b : Bool) → is_over sc site k.rest ≡ b → (calls : ℕ) × PayFor 0 sc site (k.rest ++ e ∷ []) calls × (calls < arm.calls)
        by true over = (old.0, pay_over 0 sc site k.rest e old.0 over old.1, old.2)
        by false opens = end (ends_arm sc site e) refl
          where
            end : (b : Bool) → ends_arm sc site e ≡ b → (calls : ℕ) × PayFor 0 sc site (k.rest ++ e ∷ []) calls × (calls < arm.calls)
            end true is = (old.0, pay_end 0 sc site k.rest e old.0 is old.1, old.2)
            end false is =
                let w = go k.rest arm (was.waits before k.rest d arm k.parts asks opens) opens is in let some = w.0 in let low = w.1.2 in
                (w.1.0, pay_less left sc site (k.rest ++ e ∷ []) w.1.0 w.1.1, omega (arith, some, low))

-- one more entry by itself
pub kept_more : (sc : Scenario) (h : List Entry) (e : Entry) (site : ℕ) (o x y : Meters) → IsCounted y → GoesWith sc site e x y →
    HasKept sc h site o x → HasKept sc (h ++ e ∷ []) site o y
kept_more sc h e site o x y counted goes was = kept_in 0 0 sc h e site o x y counted (by_itself sc site e x y goes) was

no_place : {X : Type 0} (before after : List X) (x : X) → [] ≡ before ++ x ∷ after → ⊥
no_place [] after x is = absurd cc
no_place (b ∷ before) after x is = absurd cc

pub served_start : (sc : Scenario) (site : ℕ) (m : Meters) → IsCounted m → HasServed sc [] site m m
served_start sc site m counted = record {
  faults = inl (omega arith);
  grows = omega arith;
  capacity = refl;
  arms = raised_none m.arms counted.arms;
  calls = raised_none m.calls counted.calls;
  codes = raised_none m.codes counted.codes;
  cuts = raised_none m.cuts counted.cuts;
  fell = λ before after is low few. fell before after is;
  stopped = λ before after e arm is asks. absurd (no_place before after e is);
}
  where
    fell : (before after : List Entry) → [] ≡ before ++ after → faults_at before site + m.stops + m.faults ≤ length (arms_of sc before site) + m.faults + m.stops
    fell [] after is = omega arith
    fell (b ∷ before) after is = absurd cc

-- nothing has happened yet
pub kept_start : (sc : Scenario) (site : ℕ) (m : Meters) → IsCounted m → m.calls_left ≡ 0 → HasKept sc [] site m m
kept_start sc site m counted unarmed = record {
  served = served_start sc site m counted;
  spent = λ few. omega arith;
  left = λ few armed. absurd (omega (arith, unarmed, armed));
  waits = λ before after e arm is asks opens. absurd (no_place before after e is);
}

-- a batch is through: the room in its frame is left
pub kept_through : (spare : ℕ) (sc : Scenario) (h : List Entry) (site : ℕ) (o x : Meters) → HasKeptWith spare sc h site o x → HasKept sc h site o x
kept_through spare sc h site o x was = record {
  served = was.served;
  spent = was.spent;
  left = was.left;
  waits = λ before after e arm is asks opens.
      (let w = was.waits before after e arm is asks opens in (w.0, (w.1.0, pay_less spare sc site after w.1.0 w.1.1, w.1.2)));
}
