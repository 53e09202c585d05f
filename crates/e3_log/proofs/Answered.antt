-- What an answer of a log is, and what it is not.
use Rattle.std.proofs.Common.{◌≡◌, Result, Ok, Err, ℕ}
use Rattle.e3_log.specs.declared.fault.AppendFault.{AppendFault}
use Rattle.e3_log.specs.declared.fault.AppendFault.TheVariants.{Failed, Full}
use Rattle.e3_log.specs.declared.fault.TurnFault.{TurnFault}
use Rattle.e3_log.specs.declared.fault.TurnFault.TheVariants.{Failed as TurnFailed, Full as TurnFull}

pub not_err : {T E : Type 0} {x : T} {e : E} → ◌≡◌ {A = Result T E} (Ok x) (Err e) → ⊥
not_err is = cc

pub not_full : {T : Type 0} {need room : ℕ} → ◌≡◌ {A = Result T AppendFault} (Err Failed) (Err (Full need room)) → ⊥
not_full is = cc

pub full_is : {T : Type 0} {a b need room : ℕ} → ◌≡◌ {A = Result T AppendFault} (Err (Full a b)) (Err (Full need room)) → (need ≡ a) × (room ≡ b)
full_is is = (cc, cc)

pub turn_not_full : {T : Type 0} {need room : ℕ} → ◌≡◌ {A = Result T TurnFault} (Err TurnFailed) (Err (TurnFull need room)) → ⊥
turn_not_full is = cc

pub turn_full_is : {T : Type 0} {a b need room : ℕ} → ◌≡◌ {A = Result T TurnFault} (Err (TurnFull a b)) (Err (TurnFull need room)) → (need ≡ a) × (room ≡ b)
turn_full_is is = (cc, cc)
