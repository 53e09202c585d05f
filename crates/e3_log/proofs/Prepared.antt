-- What a sync, a length and calls that only read do to the numbers of a disk.
use Rattle.std.proofs.Common.{◌≡◌, ◌∙◌, Result, Ok, Err, true, arith}
use Rattle.e3_disk.specs.Meters.{Failing, HasFailed, Meters, Passing, Reads, Writes}
use Rattle.e3_log.specs.declared.fault.OpenCause.{OpenCause}
use Rattle.e3_log.specs.Opening.{TakesOne}

-- errors that are one have one cause, whatever stands beside them
pub same_error : {T U : Type 0} {x y : OpenCause} → ◌≡◌ {A = Result T OpenCause} (Err x) (Err y) → ◌≡◌ {A = Result U OpenCause} (Err x) (Err y)
same_error is = cc

pub takes_one : {T U : Type 0} {a b c : Meters} (d : Meters) {x : T} {n : U} → Writes a b (Ok x) → Reads b c (Ok n)
    → (d.powered ≡ true) × (d.stops ≡ c.stops) × (d.calls_left ≡ c.calls_left) → TakesOne a d
takes_one d sync len still = (omega (arith, sync.ok.2, len.ok.1, still.2), λ some. omega (arith, sync.ok.1))

pub passes : {T U : Type 0} {a b c d : Meters} {x : T} {n : U} → Writes a b (Ok x) → Reads b c (Ok n)
    → (d.powered ≡ true) × (d.stops ≡ c.stops) × (d.calls_left ≡ c.calls_left) → Passing a d
passes sync len still = record { was_on = sync.ok.0.was_on; is_on = still.0; stops = still.1 ∙ len.ok.0.stops ∙ sync.ok.0.stops }

pub fails_behind : {T U : Type 0} {a b c d : Meters} {x : T} {n : U} → Writes a b (Ok x) → Reads b c (Ok n) → HasFailed c.faults d.faults → Failing a d
fails_behind sync len rose = record {
  cause = λ on. omega (arith, sync.keeps.faults, len.keeps.faults, rose);
  silent = λ off. absurd (let on = sync.ok.0.was_on in cc);
}
