-- What the turn of a write makes of its answer.
use Rattle.std.proofs.Common.{◌≡◌, ◌≢◌, Bool, false, Result, Ok, Err, IfErr, if◌then◌else◌, refl, sym, ap}
use Rattle.e3_disk.specs.declared.fault.DiskFault.{DiskFault}
use Rattle.e3_disk.specs.declared.fault.DiskFault.TheVariants.{Failed}
use Rattle.e3_disk.specs.declared.panel.Turn.{Turn}
use Rattle.e3_disk.specs.declared.panel.Turn.TheVariants.{Go, Stop, Fail}
use Rattle.e3_disk.specs.Meters.{Meters, Writes}
use Rattle.e3_disk.specs.Panel.{as_result, by_turn}

-- the answer of a turn does to the numbers what the turn does
pub writes_by : (t : Turn) (old new : Meters) → Writes old new (as_result t) → Writes {T = Unit {0}} old new (by_turn t (Ok tt) (Err Failed) (Err Failed))
writes_by Go old new w = record { keeps = w.keeps; failed = λ e. absurd cc; ok = w.ok; stop = λ l p e. absurd cc }
writes_by Stop old new w = record { keeps = w.keeps; failed = λ e. w.failed refl; ok = w.ok; stop = λ l p e. w.stop l p refl }
writes_by Fail old new w = record { keeps = w.keeps; failed = λ e. w.failed refl; ok = w.ok; stop = λ l p e. w.stop l p refl }

-- where the one error is Failed, nothing is said of another
pub no_other : (r : Result (Unit {0}) DiskFault) (P : Type 0) → IfErr r (λ e. e ≡ Failed) → IfErr r (λ e. e ≢ Failed → P)
no_other (Ok x) P is = is
no_other (Err e) P is = λ other. absurd (other is)

-- the second of two values
pub second_of : {A : Type 0} (b : Bool) (x y : A) → b ≡ false → y ≡ (if b then x else y)
second_of b x y is = sym (ap (λ (b : Bool). if b then x else y) is)
