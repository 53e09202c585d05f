-- The numbers of a disk that was not called, and of one that was called twice.
use Rattle.std.proofs.Common.{inl, inr, refl, ◌∙◌, ap, arith, ℕ}
use Rattle.e3_disk.specs.Meters.{Keeps, Meters, raised}

pub keeps_same : (m : Meters) → Keeps m m
keeps_same m = record {
  capacity = refl;
  arms = refl;
  calls = refl;
  codes = refl;
  cuts = refl;
  faults = omega arith;
  own_faults = λ few. omega arith;
  left = omega arith;
  stops = inl refl;
}

pub keeps_then : (a b c : Meters) → Keeps a b → Keeps b c → Keeps a c
keeps_then a b c x y = record {
  capacity = y.capacity ∙ x.capacity;
  arms = y.arms ∙ x.arms;
  calls = y.calls ∙ x.calls;
  codes = y.codes ∙ x.codes;
  cuts = y.cuts ∙ x.cuts;
  faults = omega (arith, x.faults, y.faults);
  own_faults = λ few. omega (arith, y.own_faults few, x.own_faults (omega (arith, y.faults, few)));
  left = omega (arith, x.left, y.left);
  stops = elim x.stops [
    | inl same ↦ elim y.stops [
      | inl later ↦ inl (later ∙ same)
      | inr stop ↦ inr (stop.0 ∙ ap (λ (k : ℕ). raised k 1) same, omega (arith, x.left, stop.1), stop.2)
    ]
    | inr stop ↦ elim y.stops [
      | inl later ↦ inr (later ∙ stop.0, stop.1, omega (arith, stop.2, y.left))
      | inr again ↦ absurd (omega (arith, stop.2, again.1))
    ]
  ];
}
