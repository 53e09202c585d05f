-- How the numbers of a disk go with each kind of entry.
use Rattle.std.proofs.Common.{◌≡◌, ◌≢◌, ◌==◌, ◌&&◌, ◌||◌, inl, inr, ◌⊎◌, ◌≤◌, ◌<◌, ◌+◌, ◌∷◌, [], ℕ, suc, Bool, true, false, List, length, refl, sym, ap, subst, ◌∙◌, arith, min, eqb-true, eq-eqb}
use Rattle.e3_disk.specs.Leaves.{code_of}
use Rattle.e3_disk.specs.Meters.{Meters, LAST, IsCounted, Keeps, HasFailed, armed, cut, raised}
use Rattle.e3_fleet.specs.Over.{is_fault}
use Rattle.e3_fleet.specs.Stops.{Arm, arm_by, arm_in, calls_in, calls_of, codes_in, ends_arm, is_cut, is_end, is_some, takes_of}
use Rattle.e3_fleet.proofs.Arming.{counted_if, one_if, raised_none}
use Rattle.e3_fleet.proofs.Kept.{Goes, GoesInBatch, GoesOn, GoesWith, Pays, StopsGo, Took}
use Rattle.e3_types.specs.declared.entries.Act.TheVariants.{Cut, Line}
use Rattle.e3_types.specs.declared.entries.Entry.{Entry}
use Rattle.e3_types.specs.declared.scenarios.Item.{Item}
use Rattle.e3_types.specs.declared.scenarios.Item.TheVariants as item
use Rattle.e3_types.specs.declared.scenarios.Leave.{Leave}
use Rattle.e3_types.specs.declared.scenarios.Scenario.{Scenario}
use Rattle.e3_world.specs.Packets.{step_items}
use Rattle.e3_world.proofs.Turns.{true_not_false}

-- a disk that nothing happened to
goes_still : (m : Meters) → Goes m m
goes_still m = record { grows = omega arith; own_faults = λ low. omega arith; rises = omega arith; capacity = refl }

pub still : (m : Meters) → GoesOn m m
still m = record {
  goes = goes_still m;
  stops = λ few. inl (refl, λ armed. inl armed);
  arms = refl;
  calls = refl;
  codes = refl;
  cuts = refl;
  waits = λ armed. (armed, omega arith);
}

-- what a call of a disk keeps
keeps_goes : (x y : Meters) → IsCounted x → Keeps x y → Goes x y
keeps_goes x y counted keeps = record {
  grows = keeps.faults;
  own_faults = keeps.own_faults;
  rises = by keeps.stops;
  capacity = keeps.capacity;
}
  where
    risen : (a b : ℕ) → a ≤ LAST → b ≡ raised a 1 → a ≤ b
    risen a b low is = at LAST low is
      where
        at : (l : ℕ) → a ≤ l → b ≡ min (a + 1) l → a ≤ b
        at l low is = omega (arith, low, is)

    by : (y.stops ≡ x.stops) ⊎ ((y.stops ≡ raised x.stops 1) × (0 < x.calls_left) × (y.calls_left ≡ 0)) → x.stops ≤ y.stops
    by (inl same) = omega (arith, same)
    by (inr came) = risen x.stops y.stops counted.stops came.0

stops_go : (n : ℕ) (x y : Meters) → Keeps x y → y.stops < LAST → StopsGo n x y
stops_go n x y keeps few = by keeps.stops
  where
    less : (a b : ℕ) → b < LAST → b ≡ raised a 1 → b ≡ suc a
    less a b low is = at LAST low is
      where
        at : (l : ℕ) → b < l → b ≡ min (a + 1) l → b ≡ suc a
        at l low is = omega (arith, low, is)

    by : (y.stops ≡ x.stops) ⊎ ((y.stops ≡ raised x.stops 1) × (0 < x.calls_left) × (y.calls_left ≡ 0)) → StopsGo n x y
    by (inl same) = inl (same, λ armed. inl (let low : y.calls_left ≤ x.calls_left = keeps.left in omega (arith, low, armed)))
    by (inr came) = inr (less x.stops y.stops few came.0, came.1, came.2)

pub keeps_on : (x y : Meters) → IsCounted x → Keeps x y → Took 0 x y → GoesOn x y
keeps_on x y counted keeps took = record {
  goes = keeps_goes x y counted keeps;
  stops = λ few. stops_go 0 x y keeps few;
  arms = keeps.arms;
  calls = keeps.calls;
  codes = keeps.codes;
  cuts = keeps.cuts;
  waits = took;
}

-- a count that stands, where nothing is added
stands : (x y n : ℕ) → x ≤ LAST → y ≡ x → n ≡ 0 → y ≡ raised x n
stands x y n low same none = same ∙ raised_none x low ∙ ap (λ k. raised x k) (sym none)

-- what an entry of another is to a site that it does not arm
ends_none : (sc : Scenario) (site : ℕ) (e : Entry) → ends_arm sc site e ≡ false → arm_by sc site e ≡ []
ends_none sc site e not_end = by (arm_by sc site e) (tail ((e.owner == site) && is_end e.act) (is_some (arm_by sc site e)) not_end)
  where
    tail : (a b : Bool) → (a || b) ≡ false → b ≡ false
    tail true b is = absurd cc
    tail false b is = is

    by : (arms : List Arm) → is_some arms ≡ false → arms ≡ []
    by [] is = refl
    by (a ∷ arms) is = absurd cc

-- an entry of another owner that arms nothing
pub goes_other : (sc : Scenario) (site : ℕ) (e : Entry) (m : Meters) → IsCounted m → e.owner ≢ site → arm_by sc site e ≡ [] → GoesWith sc site e m m
goes_other sc site e m counted other none = record {
  goes = goes_still m;
  rose = inl (not_counted is_fault);
  stops = λ few. inl (refl, λ armed. inl armed);
  arms = stands m.arms m.arms (length (arm_by sc site e)) counted.arms refl (ap length none);
  calls = stands m.calls m.calls (calls_in (arm_by sc site e)) counted.calls refl (ap calls_in none);
  codes = stands m.codes m.codes (codes_in (arm_by sc site e)) counted.codes refl (ap codes_in none);
  cuts = stands m.cuts m.cuts (counted_if is_cut site e) counted.cuts refl (not_counted is_cut);
  waits = λ not_end armed. (armed, let zero_takes = takes in omega (arith, zero_takes));
  starts = λ arm asks. absurd (let both : arm ∷ [] ≡ [] = sym asks ∙ none in cc);
}
  where
    apart : (e.owner == site) ≡ false
    apart = by (e.owner == site) refl
      where
        by : (b : Bool) → (e.owner == site) ≡ b → b ≡ false
        by true is = absurd (other (eqb-true e.owner site is))
        by false is = refl

    not_counted : (p : Entry → Bool) → counted_if p site e ≡ 0
    not_counted p = rw apart refl

    takes : takes_of site e ≡ 0
    takes = rw apart refl

-- an entry of the site's own that is neither a line nor a cut, with the calls of its disk
pub goes_own : (sc : Scenario) (site : ℕ) (e : Entry) (x y : Meters) → IsCounted x → e.owner ≡ site → arm_by sc site e ≡ [] → is_cut e ≡ false →
    Keeps x y → (is_fault e ≡ true → HasFailed x.faults y.faults) → (is_end e.act ≡ false → Took (calls_of e.act) x y) → GoesWith sc site e x y
goes_own sc site e x y counted owner none no_cut keeps rose took = record {
  goes = keeps_goes x y counted keeps;
  rose = by (is_fault e) refl;
  stops = λ few. stops_go (length (arm_by sc site e)) x y keeps few;
  arms = stands x.arms y.arms (length (arm_by sc site e)) counted.arms keeps.arms (ap length none);
  calls = stands x.calls y.calls (calls_in (arm_by sc site e)) counted.calls keeps.calls (ap calls_in none);
  codes = stands x.codes y.codes (codes_in (arm_by sc site e)) counted.codes keeps.codes (ap codes_in none);
  cuts = stands x.cuts y.cuts (counted_if is_cut site e) counted.cuts keeps.cuts (counts is_cut ∙ ap one_if no_cut);
  waits = λ not_end. subst (λ (n : ℕ). Took n x y) (sym takes) (took (ends not_end));
  starts = λ arm asks. absurd (let both : arm ∷ [] ≡ [] = sym asks ∙ none in cc);
}
  where
    mine : (e.owner == site) ≡ true
    mine = eq-eqb e.owner site owner

    counts : (p : Entry → Bool) → counted_if p site e ≡ one_if (p e)
    counts p = rw mine refl

    takes : takes_of site e ≡ calls_of e.act
    takes = rw mine refl

    by : (b : Bool) → is_fault e ≡ b → (counted_if is_fault site e ≡ 0) ⊎ ((counted_if is_fault site e ≡ 1) × HasFailed x.faults y.faults)
    by true is = inr (counts is_fault ∙ ap one_if is, rose is)
    by false is = inl (counts is_fault ∙ ap one_if is)

    ends : ends_arm sc site e ≡ false → is_end e.act ≡ false
    ends not_end = at (is_end e.act) (sym (let same : ends_arm sc site e ≡ (is_end e.act || is_some (arm_by sc site e)) = rw mine refl in same) ∙ not_end)
      where
        at : (b : Bool) → (b || is_some (arm_by sc site e)) ≡ false → b ≡ false
        at true is = absurd cc
        at false is = refl

-- a step of a batch, by what it costs
pub goes_in : (spare left : ℕ) (sc : Scenario) (site : ℕ) (e : Entry) (x y : Meters) → IsCounted x → e.owner ≡ site → arm_by sc site e ≡ [] → is_cut e ≡ false → is_fault e ≡ false →
    Keeps x y → (ends_arm sc site e ≡ false → Pays spare left site e x y) → GoesInBatch spare left sc site e x y
goes_in spare left sc site e x y counted owner none no_cut no_fault keeps pays = record {
  goes = keeps_goes x y counted keeps;
  rose = inl (counts is_fault ∙ ap one_if no_fault);
  stops = λ few. stops_go (length (arm_by sc site e)) x y keeps few;
  arms = stands x.arms y.arms (length (arm_by sc site e)) counted.arms keeps.arms (ap length none);
  calls = stands x.calls y.calls (calls_in (arm_by sc site e)) counted.calls keeps.calls (ap calls_in none);
  codes = stands x.codes y.codes (codes_in (arm_by sc site e)) counted.codes keeps.codes (ap codes_in none);
  cuts = stands x.cuts y.cuts (counted_if is_cut site e) counted.cuts keeps.cuts (counts is_cut ∙ ap one_if no_cut);
  waits = pays;
  starts = λ arm asks. absurd (let both : arm ∷ [] ≡ [] = sym asks ∙ none in cc);
}
  where
    mine : (e.owner == site) ≡ true
    mine = eq-eqb e.owner site owner

    counts : (p : Entry → Bool) → counted_if p site e ≡ one_if (p e)
    counts p = rw mine refl

-- the cut of the site's power
pub goes_cut : (sc : Scenario) (site : ℕ) (x y : Meters) → IsCounted x → y ≡ cut x → GoesWith sc site (record { owner = site; act = Cut }) x y
goes_cut sc site x y counted is = subst (λ (m : Meters). GoesWith sc site (record { owner = site; act = Cut }) x m) (sym is) (record {
  goes = record { grows = omega arith; own_faults = λ low. omega arith; rises = omega arith; capacity = refl };
  rose = inl fault;
  stops = λ few. inl (refl, λ armed. absurd (omega (arith, armed)));
  arms = raised_none x.arms counted.arms;
  calls = raised_none x.calls counted.calls;
  codes = raised_none x.codes counted.codes;
  cuts = ap (λ n. raised x.cuts n) (sym once);
  waits = λ not_end. absurd (true_not_false (sym ends ∙ not_end));
  starts = λ arm asks. absurd cc;
})
  where
    e : Entry
    e = record { owner = site; act = Cut }

    mine : (site == site) ≡ true
    mine = eq-eqb site site refl

    fault : counted_if is_fault site (record { owner = site; act = Cut }) ≡ 0
    fault = rw mine refl

    once : counted_if is_cut site (record { owner = site; act = Cut }) ≡ 1
    once = rw mine refl

    ends : ends_arm sc site (record { owner = site; act = Cut }) ≡ true
    ends = rw mine refl

-- the line of a stop arms the disk of its site
pub goes_stop : (sc : Scenario) (site number calls : ℕ) (leave : Leave) (x y : Meters) → IsCounted x → 1 ≤ site → 1 ≤ calls →
    step_items sc number ≡ item.Stop site calls leave ∷ [] → y ≡ armed x calls (code_of leave) →
    GoesWith sc site (record { owner = 0; act = Line number }) x y
goes_stop sc site number calls leave x y counted some more step is = subst (λ (m : Meters). GoesWith sc site (record { owner = 0; act = Line number }) x m) (sym is) (record {
  goes = record { grows = omega arith; own_faults = λ low. omega arith; rises = omega arith; capacity = refl };
  rose = inl (rw apart refl);
  stops = λ few. inl (refl, λ armed. inr (let one = ap length arm in omega (arith, one)));
  arms = ap (λ n. raised x.arms n) (sym (ap length arm));
  calls = ap (λ n. raised x.calls n) (sym (ap calls_in arm ∙ alone calls));
  codes = ap (λ n. raised x.codes n) (sym (ap codes_in arm ∙ alone (code_of leave)));
  cuts = stands x.cuts x.cuts (counted_if is_cut site (record { owner = 0; act = Line number })) counted.cuts refl (rw apart refl);
  waits = λ not_end. absurd (true_not_false (sym ends ∙ not_end));
  starts = λ a asks. (omega (arith, more), let same : a.calls ≡ calls = calls_are a (sym arm ∙ asks) in omega (arith, same));
})
  where
    apart : (0 == site) ≡ false
    apart = by (0 == site) refl
      where
        by : (b : Bool) → (0 == site) ≡ b → b ≡ false
        by true is = absurd (let none : 0 ≡ site = eqb-true 0 site is in omega (arith, none, some))
        by false is = refl

    mine : (site == site) ≡ true
    mine = eq-eqb site site refl

    arm : arm_by sc site (record { owner = 0; act = Line number }) ≡ record { calls = calls; leave = leave } ∷ []
    arm = ap (arm_in site) step ∙ (let one : arm_in site (item.Stop site calls leave ∷ []) ≡ record { calls = calls; leave = leave } ∷ [] = rw mine refl in one)

    alone : (n : ℕ) → 0 + n ≡ n
    alone n = omega arith

    ends : ends_arm sc site (record { owner = 0; act = Line number }) ≡ true
    ends = rw (apart, arm) refl

    calls_are : (a : Arm) → record { calls = calls; leave = leave } ∷ [] ≡ a ∷ [] → a.calls ≡ calls
    calls_are a same = let one : record { calls = calls; leave = leave } ≡ a = cc in ap (λ (b : Arm). b.calls) (sym one)

-- it arms no other site
pub stop_apart : (sc : Scenario) (site other number calls : ℕ) (leave : Leave) → other ≢ site → step_items sc number ≡ item.Stop site calls leave ∷ [] →
    arm_by sc other (record { owner = 0; act = Line number }) ≡ []
stop_apart sc site other number calls leave far step = ap (arm_in other) step ∙ by (site == other) refl
  where
    by : (b : Bool) → (site == other) ≡ b → arm_in other (item.Stop site calls leave ∷ []) ≡ []
    by true is = absurd (far (sym (eqb-true site other is)))
    by false is = rw is refl

-- the line of another step arms none
pub line_arms : (sc : Scenario) (number : ℕ) → ((site calls : ℕ) (leave : Leave) (more : List Item) → step_items sc number ≡ item.Stop site calls leave ∷ more → ⊥) →
    (other : ℕ) → arm_by sc other (record { owner = 0; act = Line number }) ≡ []
line_arms sc number no_stop other = by (step_items sc number) refl
  where
    by : (items : List Item) → step_items sc number ≡ items → arm_in other (step_items sc number) ≡ []
    by [] is = rw is refl
    by (item.Stop s count leave ∷ items) is = absurd (no_stop s count leave items is)
    by (item.Begin name site sites ∷ items) is = rw is refl
    by (item.Read name key ∷ items) is = rw is refl
    by (item.Write name key val ∷ items) is = rw is refl
    by (item.Commit name ∷ items) is = rw is refl
    by (item.Cancel name ∷ items) is = rw is refl
    by (item.Expire site name ∷ items) is = rw is refl
    by (item.Elect site name sites ∷ items) is = rw is refl
    by (item.Recover group ∷ items) is = rw is refl
    by (item.Split parts ∷ items) is = rw is refl
    by (item.Merge ∷ items) is = rw is refl
    by (item.Crash site ∷ items) is = rw is refl
    by (item.Restart site ∷ items) is = rw is refl
