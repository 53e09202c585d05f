-- What is due for the words `check`, and what of the source was read.
use Rattle.std.proofs.Common.{◌≡◌, ◌≢◌, ◌<◌, ◌⊎◌, inl, inr, ℕ, List, length, Option, refl, sym, subst, ◌∙◌, arith, String, Global}
use Rattle.std.specs.Io.KnownBytes.{IsAtEnd}
use Rattle.e3_trace.specs.verdicts.Claims.{IsFor, IsVerdict, HasLegal, HasIllegal, HasNoScenario}
use Rattle.e3_disk.specs.Meaning.{Meaning}
use Rattle.e3_top.specs.Outcomes.{HasText, IsOutcome, IsChecked}
use Rattle.e3_top.specs.Ends.{IsPrepared}
use Rattle.e3_top.specs.Words.{IsCheck}
use Rattle.e3_types.specs.declared.entries.Entry.{Entry}
use Rattle.e3_top.specs.Commands.{Spell}
use Rattle.e3_top.specs.declared.commands.Command.TheVariants.{Check}

-- the statuses of a verdict
other_than : (status n : ℕ) → n ≢ 0 → n ≢ 2 → n ≢ 8 → n ≢ 9 → (status ≡ 0) ⊎ (status ≡ 2) ⊎ (status ≡ 8) ⊎ (status ≡ 9) → status ≢ n
other_than status n not_0 not_2 not_8 not_9 (inl f) e = not_0 (sym e ∙ f)
other_than status n not_0 not_2 not_8 not_9 (inr (inl f)) e = not_2 (sym e ∙ f)
other_than status n not_0 not_2 not_8 not_9 (inr (inr (inl f))) e = not_8 (sym e ∙ f)
other_than status n not_0 not_2 not_8 not_9 (inr (inr (inr f))) e = not_9 (sym e ∙ f)

has_text : (status : ℕ) → (status ≡ 0) ⊎ (status ≡ 2) ⊎ (status ≡ 8) ⊎ (status ≡ 9) → HasText status
has_text status (inl e) = inl (omega (arith, e))
has_text status (inr (inl e)) = inl (omega (arith, e))
has_text status (inr (inr e)) = inr (inr e)

-- the text of a verdict is due
pub checked_due : {D : Type 0} (meaning : Meaning D) (disks : List D) (words : List (String Global)) (bytes : List ℕ) (most status : ℕ) (h : List Entry) (text : List ℕ) → Spell words Check →
    IsVerdict bytes status h text → IsOutcome meaning disks disks words bytes most status h text
checked_due {D} meaning disks words bytes most status h text check verdict = record {
  known = has_text status verdict.cause.known;
  done = λ e. inr (inr (inr (checked_as 0 e)));
  words_refused = λ e. absurd (other_than status 1 (λ f. omega (arith, f)) (λ f. omega (arith, f)) (λ f. omega (arith, f)) (λ f. omega (arith, f)) verdict.cause.known e);
  scenario_refused = λ e. inr checked;
  history_full = λ e. absurd (other_than status 6 (λ f. omega (arith, f)) (λ f. omega (arith, f)) (λ f. omega (arith, f)) (λ f. omega (arith, f)) verdict.cause.known e);
  illegal = checked_as 8;
  no_trace = checked_as 9;
  checked = λ c. checked;
}
  where
    is_check : IsCheck words
    is_check = record { spelled = check }

    checked : IsChecked disks disks words bytes status h text
    checked = record { check = is_check; untouched = refl; verdict = verdict }

    checked_as : (n : ℕ) → status ≡ n → IsChecked disks disks words bytes n h text
    checked_as n e = subst (λ (s : ℕ). IsChecked disks disks words bytes s h text) e checked

-- with 0, 2 and 8 the bytes are not too many, so nothing of the source is left
pub drained_verdict : {D : Type 0} {meaning : Meaning D} {before now : List D} {P : Type 0} {words : List (String Global)} {had left : Option (List ℕ)} {most due : ℕ} {history : List Entry} {text : List ℕ} (status : ℕ) →
    IsPrepared meaning before now words had left most due history text → (status ≢ 4 → (status ≡ due) × P) → IsCheck words → (status ≡ 0) ⊎ (status ≡ 2) ⊎ (status ≡ 8) → IsAtEnd left
drained_verdict {due = due} status prepared written check is = prepared.read.to_end Check check.spelled (short is)
  where
    cause : IsFor prepared.bytes due
    cause = (prepared.due.checked check).verdict.cause

    same : status ≢ 4 → due ≡ status
    same other = sym (written other).0

    from_legal : HasLegal prepared.bytes → length prepared.bytes < 268435457
    from_legal has = let few = has.read.short in omega (arith, few)

    from_none : HasNoScenario prepared.bytes → length prepared.bytes < 268435457
    from_none has = let few = has.short in omega (arith, few)

    from_illegal : HasIllegal prepared.bytes → length prepared.bytes < 268435457
    from_illegal has = let few = has.read.short in omega (arith, few)

    short : (status ≡ 0) ⊎ (status ≡ 2) ⊎ (status ≡ 8) → length prepared.bytes < 268435457
    short (inl e) = from_legal (cause.legal.0 (same (λ four. omega (arith, e, four)) ∙ e))
    short (inr (inl e)) = from_none (cause.scenario.0 (same (λ four. omega (arith, e, four)) ∙ e))
    short (inr (inr e)) = from_illegal (cause.illegal.0 (same (λ four. omega (arith, e, four)) ∙ e))
