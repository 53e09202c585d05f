-- What writes and syncs, one behind the other, do to the numbers of a disk.
use Rattle.std.proofs.Common.{Result, Ok, Err, ◌∙◌, ◌+◌, ℕ, arith}
use Rattle.std.specs.Prelude.{IsErr, IsErrOf, OnOk, OnErr}
use Rattle.e3_disk.specs.declared.fault.DiskFault.{DiskFault}
use Rattle.e3_disk.specs.declared.fault.DiskFault.TheVariants.{Failed}
use Rattle.e3_disk.specs.Meters.{HasFailed, Meters, Writes}
use Rattle.e3_log.specs.Stands.{Spends}
use Rattle.e3_log.proofs.Kept.{keeps_then}

-- two of them
pub spends_both : {T U V : Type 0} {a b c : Meters} {x : T} {y : U} {z : V} → Writes a b (Ok x) → Writes b c (Ok y) → Spends {T = V} {E = DiskFault} 2 a c (Ok z)
spends_both one two = record {
  keeps = keeps_then _ _ _ one.keeps two.keeps;
  failed = λ on. tt;
  ok = ((two.ok.0.is_on, two.ok.0.stops ∙ one.ok.0.stops), (omega (arith, one.ok.2, two.ok.2), λ some. omega (arith, one.ok.2, one.ok.1, two.ok.1)));
}

-- two parts of them
pub spends_parts : {T U V E : Type 0} {a b c : Meters} {m n : ℕ} {x : T} {y : U} {z : V} → Spends {E = E} m a b (Ok x) → Spends {E = E} n b c (Ok y) → Spends {E = E} (m + n) a c (Ok z)
spends_parts one two = record {
  keeps = keeps_then _ _ _ one.keeps two.keeps;
  failed = λ on. tt;
  ok = ((two.ok.0.0, two.ok.0.1 ∙ one.ok.0.1), (omega (arith, one.ok.1.0, two.ok.1.0), λ some. omega (arith, one.ok.1.0, one.ok.1.1 some, two.ok.1.1)));
}

-- an answer that tells an error
err_has : {V E : Type 0} (P : Type 0) (q : Result V E) → IsErr q → P → OnErr q P
err_has P (Ok z) is fact = tt
err_has P (Err e) is fact = fact

err_lacks : {V E : Type 0} (P : Type 0) (q : Result V E) → IsErr q → OnOk q P
err_lacks P (Ok z) is = absurd cc
err_lacks P (Err e) is = tt

-- the first of two failed
pub spends_first : {T U E : Type 0} {a b : Meters} (r : Result T DiskFault) (q : Result U E) → IsErrOf r Failed → IsErr q → Writes a b r → Spends 2 a b q
spends_first r q fails is one = record { keeps = one.keeps; failed = λ on. err_has _ q is ((one.failed fails).cause on); ok = err_lacks _ q is }

-- the second of two failed
pub spends_second : {T U V E : Type 0} {a b c : Meters} {x : T} (r : Result U DiskFault) (q : Result V E) → IsErrOf r Failed → IsErr q → Writes a b (Ok x) → Writes b c r → Spends 2 a c q
spends_second {a = a} {c = c} r q fails is one two = record {
  keeps = keeps_then _ _ _ one.keeps two.keeps;
  failed = λ on.
      let rose : HasFailed a.faults c.faults = omega (arith, one.keeps.faults, (two.failed fails).cause one.ok.0.is_on) in
      err_has _ q is rose;
  ok = err_lacks _ q is;
}
