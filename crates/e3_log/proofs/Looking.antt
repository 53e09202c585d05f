-- What calls that only read do to a disk, one behind the other.
use Rattle.std.proofs.Common.{Result, Ok, Err, ℕ, ◌∙◌, arith}
use Rattle.std.specs.Prelude.{IsErrOf}
use Rattle.e3_disk.specs.Meaning.{Meaning}
use Rattle.e3_log.specs.declared.fault.OpenCause.{OpenCause}
use Rattle.e3_log.specs.declared.fault.OpenCause.TheVariants.{Damaged, Failed}
use Rattle.e3_log.specs.Opening.{Looks}
use Rattle.e3_log.proofs.Kept.{keeps_then}

-- an answer that does not say Failed stands for another that does not
pub looks_alike : {D T U : Type 0} {meaning : Meaning D} {a b : D} {r : Result T OpenCause} {q : Result U OpenCause} →
    (IsErrOf r Failed → ⊥) → (IsErrOf q Failed → ⊥) → Looks meaning a b r → Looks meaning a b q
looks_alike fine fine2 looks = record {
  same = λ is. looks.same fine;
  images = looks.images;
  keeps = looks.keeps;
  failed = λ is. absurd (fine2 is);
  still = λ is. looks.still fine;
}

-- one call, and a later one
pub looks_then : {D T U : Type 0} {meaning : Meaning D} {a b c : D} {r : Result T OpenCause} {q : Result U OpenCause} →
    (IsErrOf r Failed → ⊥) → Looks meaning a b r → Looks meaning b c q → Looks meaning a c q
looks_then fine first later = record {
  same = λ is. later.same is ∙ first.same fine;
  images = λ image at. first.images image (later.images image at);
  keeps = keeps_then _ _ _ first.keeps later.keeps;
  failed = λ is. omega (arith, first.keeps.faults, later.failed is);
  still = λ is.
      let now = later.still is in
      let before = first.still fine in
      (now.0, now.1 ∙ before.1, now.2 ∙ before.2);
}

-- what did not fail
pub not_err : {T E : Type 0} {x : T} {e : E} → IsErrOf (Ok x) e → ⊥
not_err is = cc

not_damage : {T : Type 0} {place : ℕ} → IsErrOf {T = T} (Err (Damaged place)) Failed → ⊥
not_damage is = cc

-- one call, whose answer is put otherwise
pub looks_ok : {D T U : Type 0} {meaning : Meaning D} {a b : D} {x : T} {y : U} → Looks meaning a b (Ok x) → Looks meaning a b (Ok y)
looks_ok looks = looks_alike not_err not_err looks

-- one call, and what it read is damaged
pub looks_damaged : {D T U : Type 0} {meaning : Meaning D} {a b : D} {x : T} {place : ℕ} → Looks meaning a b (Ok x) → Looks {T = U} meaning a b (Err (Damaged place))
looks_damaged looks = looks_alike not_err not_damage looks

-- two calls
pub looks_both : {D T U V : Type 0} {meaning : Meaning D} {a b c : D} {x : T} {y : U} {z : V} → Looks meaning a b (Ok x) → Looks meaning b c (Ok y) → Looks meaning a c (Ok z)
looks_both first later = looks_ok (looks_then not_err first later)
