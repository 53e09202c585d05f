use Rattle.std.proofs.Common.{◌≡◌, ◌⊎◌, refl, ap, ℕ, List, Err, rules}
use Rattle.e3_log.specs.declared.fault.OpenCause.{OpenCause}
use Rattle.e3_log.specs.declared.fault.OpenCause.TheVariants.{Failed, Damaged, NoMemory}
use Rattle.e3_log.specs.Reading.{DamagedAt}
use Rattle.e3_log.proofs.Opened.{held_reads, opened_from}
use Rattle.e3_log.proofs.Unique.{one_text, not_damaged, one_place}
use Rattle.e3_log.proofs.log.Log.open.Goals as goal

-- a cause that tells of damage tells its place
cause_of : (cause : OpenCause) (capacity : ℕ) (bytes : List ℕ) (at : ℕ) → ((place : ℕ) → cause ≡ Damaged place → DamagedAt capacity bytes place)
    → DamagedAt capacity bytes at → (cause ≡ Damaged at) ⊎ (cause ≡ Failed) ⊎ (cause ≡ NoMemory)
cause_of Failed capacity bytes at tells damaged = search rules
cause_of (Damaged place) capacity bytes at tells damaged =
    let same : Damaged place ≡ Damaged at = ap (λ (n : ℕ). Damaged n) (one_place capacity bytes place at (tells place refl) damaged) in
    search rules
cause_of NoMemory capacity bytes at tells damaged = search rules

pub returns-in-Ok-clause-opened : goal.returns-in-Ok-clause-opened
returns-in-Ok-clause-opened g c =
    opened_from g.D.Disk.meaning c.args.disk _ c.in-Ok.held c.in-Ok.ensures.held (c.in-Ok.ensures.same (λ e. absurd cc)) (c.in-Ok.ensures.durable (λ e. absurd cc)) c.in-Ok.ensures.keeps.capacity

pub returns-in-Ok-clause-again : goal.returns-in-Ok-clause-again
returns-in-Ok-clause-again g c = λ generation bodies reads. one_text _ _ generation _ bodies _ (held_reads _ _ c.in-Ok.held c.in-Ok.ensures.held) reads

pub returns-in-Ok-clause-only_damaged : goal.returns-in-Ok-clause-only_damaged
returns-in-Ok-clause-only_damaged g c = λ at damaged. not_damaged _ _ _ _ at (held_reads _ _ c.in-Ok.held c.in-Ok.ensures.held) damaged

pub returns-in-Err-clause-damaged : goal.returns-in-Err-clause-damaged
returns-in-Err-clause-damaged g c = λ at is. c.in-Err.ensures.damaged at (ap (λ (e : OpenCause). Err e) is)

pub returns-in-Err-clause-only_damaged : goal.returns-in-Err-clause-only_damaged
returns-in-Err-clause-only_damaged g c = λ at damaged.
    cause_of c.in-Err.cause _ _ at (λ place is. c.in-Err.ensures.damaged place (ap (λ (e : OpenCause). Err e) is)) damaged

pub returns-in-Err-clause-whole : goal.returns-in-Err-clause-whole
returns-in-Err-clause-whole g c = λ generation bodies reads at is.
    not_damaged _ _ _ _ at reads (c.in-Err.ensures.damaged at (ap (λ (e : OpenCause). Err e) is))
