-- The numbers of a disk over calls, one behind the other.
use Rattle.std.proofs.Common.{◌≡◌, ◌⊎◌, ◌+◌, ◌-◌, ◌<◌, ◌≤◌, inl, inr, ℕ, refl, ap, ◌∙◌, arith}
use Rattle.std.proofs.Math.Nat.{min-le_left, min-le_right, le-min}
use Rattle.std.specs.Prelude.{min}
use Rattle.e3_disk.specs.Meters.{LAST, Keeps, Meters, HasFailed, lit, raised}
use Rattle.e3_log.specs.Opening.{TakesOne}
use Rattle.e3_node.specs.site_log.Ends.{Takes}
use Rattle.e3_node.specs.Rising.{RiseTakes}
use Rattle.e3_node.specs.declared.rising.Raised.{Raised}
use Rattle.e3_node.specs.declared.rising.Raised.TheVariants as raised_as

pub keeps_same : (m : Meters) → Keeps m m
keeps_same m = record {
  capacity = refl;
  arms = refl;
  calls = refl;
  codes = refl;
  cuts = refl;
  faults = omega arith;
  own_faults = λ few. omega arith;
  left = omega arith;
  stops = inl refl;
}

-- calls of which the first did not stop the disk
pub keeps_both : (a b c : Meters) → Keeps a b → b.stops ≡ a.stops → b.calls_left ≡ a.calls_left - 1 → Keeps b c → Keeps a c
keeps_both a b c first none left second = record {
  capacity = second.capacity ∙ first.capacity;
  arms = second.arms ∙ first.arms;
  calls = second.calls ∙ first.calls;
  codes = second.codes ∙ first.codes;
  cuts = second.cuts ∙ first.cuts;
  faults = let one : a.faults ≤ b.faults = first.faults in let two : b.faults ≤ c.faults = second.faults in omega (arith, one, two);
  own_faults = λ few.
      let one : a.faults ≤ b.faults = first.faults in
      let two : b.faults + c.stops ≤ c.faults + b.stops = second.own_faults few in
      omega (arith, one, two, none);
  left = let one : b.calls_left ≤ a.calls_left = first.left in let two : c.calls_left ≤ b.calls_left = second.left in omega (arith, one, two);
  stops = by second.stops;
}
  where
    by : (c.stops ≡ b.stops) ⊎ ((c.stops ≡ raised b.stops 1) × (0 < b.calls_left) × (c.calls_left ≡ 0)) →
        (c.stops ≡ a.stops) ⊎ ((c.stops ≡ raised a.stops 1) × (0 < a.calls_left) × (c.calls_left ≡ 0))
    by (inl same) = inl (same ∙ none)
    by (inr stopped) = inr (stopped.0 ∙ ap (λ (n : ℕ). raised n 1) none, (let some : 0 < b.calls_left = stopped.1 in omega (arith, some, left)), stopped.2)

pub failed_since : (a b c : ℕ) → a ≤ b → HasFailed b c → HasFailed a c
failed_since a b c below rose =
    let low : min (a + 1) LAST ≤ a + 1 = min-le_left (a + 1) LAST in
    let last : min (a + 1) LAST ≤ LAST = min-le_right (a + 1) LAST in
    let both : min (a + 1) LAST ≤ min (b + 1) LAST = le-min (omega (arith, low, below)) last in
    let up : min (b + 1) LAST ≤ c = rose in
    omega (arith, both, up)

-- power changes nothing that a call keeps
pub keeps_lit : (a b : Meters) → Keeps (lit a) b → Keeps a b
keeps_lit a b keeps = record {
  capacity = keeps.capacity;
  arms = keeps.arms;
  calls = keeps.calls;
  codes = keeps.codes;
  cuts = keeps.cuts;
  faults = keeps.faults;
  own_faults = keeps.own_faults;
  left = keeps.left;
  stops = keeps.stops;
}

-- a sync, and then the calls of a frame
pub takes_both : (a b c : Meters) (r : Raised) → TakesOne a b → RiseTakes 4 r b c → RiseTakes 5 r a c
takes_both a b c (raised_as.Risen kept inc) first second = λ armed.
    let left : b.calls_left ≡ a.calls_left - 1 = first.0 in
    let more : 1 < a.calls_left = first.1 armed in
    let some : 0 < b.calls_left = omega (arith, left, more) in
    let rest = second some in
    let less : c.calls_left + 4 ≤ b.calls_left = rest.1 in
    (rest.0, omega (arith, less, left, more))
takes_both a b c raised_as.NoMemory first second = λ armed.
    let left : b.calls_left ≡ a.calls_left - 1 = first.0 in
    let more : 1 < a.calls_left = first.1 armed in
    let some : 0 < b.calls_left = omega (arith, left, more) in
    let rest = second some in
    let less : c.calls_left + 0 ≤ b.calls_left = rest.1 in
    (rest.0, omega (arith, less, left, more))
takes_both a b c raised_as.Missed first second = tt
takes_both a b c raised_as.Foreign first second = tt
takes_both a b c (raised_as.Failed kept inc why) first second = tt

-- one call, where an arm had more left
pub takes_one : (a b : Meters) → TakesOne a b → Takes 0 a b
takes_one a b one = λ armed.
    let left : b.calls_left ≡ a.calls_left - 1 = one.0 in
    let more : 1 < a.calls_left = one.1 armed in
    (omega (arith, left, more), omega (arith, left, more))

pub takes_same : (a : Meters) → Takes 0 a a
takes_same a = λ armed. (armed, omega arith)
