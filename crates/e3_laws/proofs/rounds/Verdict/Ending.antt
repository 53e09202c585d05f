-- How a round ends once its verdict is told, whichever way it came there.
use Rattle.std.proofs.Common.{◌≡◌, ◌+◌, ◌-◌, ◌*◌, ◌≤◌, ◌++◌, ◌∷◌, [], ℕ, true, false, List, length, append_assoc, ◌∙◌, ap, sym, count_by, arith}
use Rattle.std.specs.List.{list_any}
use Rattle.std.proofs.lemmas.Grind.{flat_map-append}
use Rattle.std.proofs.lemmas.List.{append_cancel_left}
use Rattle.std.proofs.lemmas.List.Folds.{list_any-append}
use Rattle.std.proofs.lemmas.List.Sums.{sum_by-append}
use Rattle.e3_types.specs.declared.entries.Entry.{Entry}
use Rattle.e3_types.specs.declared.scenarios.Scenario.{Scenario}
use Rattle.e3_types.specs.declared.verdicts.Verdict.{Verdict}
use Rattle.e3_types.specs.Sets.{has_site}
use Rattle.e3_world.specs.Items.{RecoveryRound}
use Rattle.e3_world.specs.Logs.{is_undecided}
use Rattle.e3_world.specs.Moves.{log_of}
use Rattle.e3_world.specs.Packets.{pending}
use Rattle.e3_laws.specs.rounds.Rounds.{elect_entry, elects, is_block, is_own, verdicts_at, verdicts_told}
use Rattle.e3_laws.proofs.rounds.Beginning.{Begun}
use Rattle.e3_laws.proofs.rounds.Deliveries.Delivering.{Entered}
use Rattle.e3_laws.proofs.rounds.Verdict.Idle.{idle_ends}
use Rattle.e3_laws.proofs.rounds.Tail.{Ended, Tail, tail_ends}
use Rattle.e3_laws.proofs.rounds.Phases.Walked.{Walked}
use Rattle.std.proofs.lemmas.Bool.{or_parts}

-- what comes of a round with this verdict
pub record Outcome (sc : Scenario) (start more : List Entry) (r : RecoveryRound) (v : Verdict) : Type 0 where
  pub one : verdicts_told r.txn (elect_entry sc start r ∷ more) ≡ record { site = r.elector; verdict = v } ∷ []
  pub decided : is_block v ≡ false → (s : ℕ) → has_site r.members s ≡ true → is_undecided r.txn (log_of sc (start ++ elect_entry sc start r ∷ more) s) ≡ false
  pub few : count_by (is_own r) (elect_entry sc start r ∷ more) ≤ 1 + 7 * (length r.members - 1)

-- the round so far, and what is later of it
record Parted (sc : Scenario) (start more : List Entry) (r : RecoveryRound) (round later : List Entry) : Type 0 where
  is : round ++ later ≡ elect_entry sc start r ∷ more
  no_elect : list_any elects later ≡ false

parted : (sc : Scenario) (start more : List Entry) (r : RecoveryRound) (own : ℕ) (round now later : List Entry) → 1 ≤ own → list_any elects more ≡ false →
    now ++ later ≡ (start ++ elect_entry sc start r ∷ []) ++ more → now ≡ start ++ round → count_by (is_own r) round ≡ own → Parted sc start more r round later
parted sc start more r own round now later some none is entered count = record { is = whole; no_elect = by round whole count }
  where
    e : Entry
    e = elect_entry sc start r

    whole : round ++ later ≡ e ∷ more
    whole = append_cancel_left start (round ++ later) (e ∷ more) (sym (append_assoc start round later) ∙ ap (λ l. l ++ later) (sym entered) ∙ is ∙ append_assoc start (e ∷ []) more)

    by : (round : List Entry) → round ++ later ≡ e ∷ more → count_by (is_own r) round ≡ own → list_any elects later ≡ false
    by [] same counted = absurd (let zero_is : 0 ≡ own = counted in omega (arith, some, zero_is))
    by (x ∷ xs) same counted =
        let rest : xs ++ later ≡ more = cc in
        (or_parts (list_any elects xs) (list_any elects later) (sym (list_any-append elects xs later) ∙ ap (list_any elects) rest ∙ none)).1

-- the members have decided
pub ends_decided : (sc : Scenario) (start more : List Entry) (r : RecoveryRound) (v : Verdict) (own : ℕ) → Begun sc start more r → 1 ≤ own → own ≤ 1 + 7 * (length r.members - 1) →
    Walked sc r (start ++ elect_entry sc start r ∷ []) more (λ now. Tail sc r now × Entered start now r own (record { site = r.elector; verdict = v } ∷ [])) → Outcome sc start more r v
ends_decided sc start more r v own begun some few w = record {
  one =
      ap (verdicts_told r.txn) (sym split.is) ∙ flat_map-append (verdicts_at r.txn) w.phase.1.round w.later
      ∙ ap (λ l. l ++ verdicts_told r.txn w.later) w.phase.1.says ∙ ap (λ l. (record { site = r.elector; verdict = v } ∷ []) ++ l) ended.none_said;
  decided = λ no_block s member. ap (λ l. is_undecided r.txn (log_of sc l s)) (sym (w.is ∙ append_assoc start (e ∷ []) more)) ∙ ended.tail.decided s member;
  few = (
      let counted : count_by (is_own r) w.phase.1.round ≡ own = w.phase.1.count in
      let none : count_by (is_own r) w.later ≡ 0 = ended.none_own in
      let both : count_by (is_own r) (w.phase.1.round ++ w.later) ≡ count_by (is_own r) w.phase.1.round + count_by (is_own r) w.later = sum_by-append _ w.phase.1.round w.later in
      let all : count_by (is_own r) (w.phase.1.round ++ w.later) ≡ count_by (is_own r) (e ∷ more) = ap (count_by (is_own r)) split.is in
      omega (arith, counted, none, both, all, few)
      );
}
  where
    e : Entry
    e = elect_entry sc start r

    split : Parted sc start more r w.phase.1.round w.later
    split = parted sc start more r own w.phase.1.round w.now w.later some begun.one_round w.is w.phase.1.is w.phase.1.count

    ended : Ended sc r w.now w.later
    ended = tail_ends sc r w.now w.later w.rest.group w.rest.items begun.given w.rest.recovers w.rest.guards w.rest.no_line split.no_elect w.phase.0

-- the group is blocked
pub ends_blocked : (sc : Scenario) (start more : List Entry) (r : RecoveryRound) (v : Verdict) (own : ℕ) → Begun sc start more r → 1 ≤ own → own ≤ 1 + 7 * (length r.members - 1) →
    is_block v ≡ true →
    Walked sc r (start ++ elect_entry sc start r ∷ []) more (λ now. (pending sc now ≡ []) × Entered start now r own (record { site = r.elector; verdict = v } ∷ [])) → Outcome sc start more r v
ends_blocked sc start more r v own begun some few blocks w = record {
  one =
      ap (verdicts_told r.txn) (sym split.is) ∙ flat_map-append (verdicts_at r.txn) w.phase.1.round w.later
      ∙ ap (λ l. l ++ verdicts_told r.txn w.later) w.phase.1.says ∙ ap (λ l. (record { site = r.elector; verdict = v } ∷ []) ++ l) idle.1;
  decided = λ no_block s member. absurd (let clash : true ≡ false = sym blocks ∙ no_block in cc);
  few = (
      let counted : count_by (is_own r) w.phase.1.round ≡ own = w.phase.1.count in
      let none : count_by (is_own r) w.later ≡ 0 = idle.0 in
      let both : count_by (is_own r) (w.phase.1.round ++ w.later) ≡ count_by (is_own r) w.phase.1.round + count_by (is_own r) w.later = sum_by-append _ w.phase.1.round w.later in
      let all : count_by (is_own r) (w.phase.1.round ++ w.later) ≡ count_by (is_own r) (e ∷ more) = ap (count_by (is_own r)) split.is in
      omega (arith, counted, none, both, all, few)
      );
}
  where
    e : Entry
    e = elect_entry sc start r

    split : Parted sc start more r w.phase.1.round w.later
    split = parted sc start more r own w.phase.1.round w.now w.later some begun.one_round w.is w.phase.1.is w.phase.1.count

    idle : (count_by (is_own r) w.later ≡ 0) × (verdicts_told r.txn w.later ≡ [])
    idle = idle_ends sc r w.now w.later w.rest.group w.rest.items begun.given w.rest.recovers w.rest.guards w.rest.no_line split.no_elect w.phase.0
