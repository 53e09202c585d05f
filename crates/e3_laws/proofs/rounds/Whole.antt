-- Every recovery round of a legal history ends as it should.
use Rattle.std.proofs.Common.{◌≡◌, ◌==◌, ◌||◌, ◌&&◌, ◌+◌, ◌*◌, ◌≤◌, ◌++◌, ◌∷◌, [], ℕ, suc, max, Bool, true, false, not, List, length, length-append, ◌∙◌, ap, sym, subst, refl, nat_lt, arith}
use Rattle.std.specs.List.{list_all, list_any}
use Rattle.std.proofs.lemmas.Bool.{and_parts}
use Rattle.std.proofs.lemmas.Grind.{common_steps}
use Rattle.e3_types.specs.declared.entries.Entry.{Entry}
use Rattle.e3_types.specs.declared.scenarios.Scenario.{Scenario}
use Rattle.e3_types.specs.declared.verdicts.Verdict.{Verdict}
use Rattle.e3_types.specs.Quorums.{is_quorum}
use Rattle.e3_types.specs.Sets.{has_site}
use Rattle.e3_world.specs.Items.{RecoveryRound}
use Rattle.e3_world.specs.Legal.{IsLegal}
use Rattle.e3_world.specs.Logs.{last_elected}
use Rattle.e3_world.specs.Moves.{log_of}
use Rattle.e3_world.proofs.Pushes.{legal_front}
use Rattle.e3_world.proofs.Turns.{self}
use Rattle.e3_laws.proofs.rounds.Numbers.Entries.{numbers_stay_low}
use Rattle.e3_laws.specs.rounds.Rounds.{RoundsEnd}
use Rattle.e3_laws.specs.rounds.Rounds.{elect_entry, is_block, is_open}
use Rattle.e3_laws.proofs.rounds.Beginning.{Begun, round_begins}
use Rattle.e3_laws.proofs.rounds.Verdict.Choosing.{heard_under, verdict_at}
use Rattle.e3_laws.proofs.rounds.Verdict.Ending.{Outcome}
use Rattle.e3_laws.proofs.rounds.Verdict.Several.{several_end}
use Rattle.e3_laws.proofs.rounds.Verdict.Single.{alone_ends}
use Rattle.e3_laws.proofs.rounds.Verdict.Reports.{blocked_is}

-- a list that is not empty has a last member
split_last : (x : ℕ) (xs : List ℕ) → (init : List ℕ) × (z : ℕ) × (x ∷ xs ≡ init ++ z ∷ [])
split_last x [] = ([], x, refl)
split_last x (y ∷ ys) = let rest = split_last y ys in (x ∷ rest.0, rest.1, ap (λ l. x ∷ l) rest.2)

no_site : (p : ℕ → Bool) (xs : List ℕ) → ((s : ℕ) → has_site xs s ≡ true → p s ≡ false) → list_any p xs ≡ false
no_site p [] each = refl
no_site p (x ∷ xs) each =
    rw (each x (rw (self x) refl)) (no_site p xs (λ s has. each s (ap (λ b. (x == s) || b) has ∙ or_true (x == s))))
  where
    or_true : (b : Bool) → (b || true) ≡ true
    or_true true = refl
    or_true false = refl

-- what comes of a round, whatever the size of its group
outcome : (sc : Scenario) (start more : List Entry) (r : RecoveryRound) → (begun : Begun sc start more r) →
    ((m : ℕ) → last_elected r.txn (log_of sc start m) ≤ 36000001) → Outcome sc start more r (verdict_at sc start r.txn r.members)
outcome sc start more r begun low = by begun.all refl
  where
    below : (k : ℕ) → k ≤ 36000001 → nat_lt k 4294967295 ≡ true
    below k less = grind (arith, common_steps, less)

    none_below : (k : ℕ) → k ≤ 36000001 → max 0 k ≤ 36000001
    none_below k less = grind (arith, common_steps, less)

    by : (all : List ℕ) → begun.all ≡ all → Outcome sc start more r (verdict_at sc start r.txn r.members)
    by [] is = alone_ends sc start more r begun (begun.members ∙ ap (λ l. r.elector ∷ l) is) (below _ (none_below _ (low r.elector)))
    by (x ∷ xs) is =
        let last = split_last x xs in
        several_end sc start more r last.0 last.1 begun (is ∙ last.2)
        (below _ (heard_under sc start r.txn 36000001 0 (r.elector ∷ (last.0 ++ last.1 ∷ [])) (omega arith) (λ m has. low m)))

pub rounds_end : RoundsEnd
rounds_end sc h r given legal short s up = record {
  concluded = v;
  one = ended.one;
  blocked = (there, back);
  decided = λ no_block. no_site (is_open sc (s.start ++ (e ∷ s.more)) r.txn) r.members (λ x member. ended.decided no_block x member);
  few = ended.few;
}
  where
    e : Entry
    e = elect_entry sc s.start r

    v : Verdict
    v = verdict_at sc s.start r.txn r.members

    begun : Begun sc s.start s.more r
    begun = round_begins sc s.start s.more r given (legal_front sc (s.start ++ e ∷ s.more) s.after (subst (IsLegal sc) s.is legal)) s.due s.settled s.one_step s.one_round s.ended up

    short_start : length s.start ≤ 2000000
    short_start =
        let all : length h ≡ length (s.start ++ e ∷ s.more) + length s.after = ap length s.is ∙ length-append (s.start ++ e ∷ s.more) s.after in
        let two : length (s.start ++ e ∷ s.more) ≡ length s.start + suc (length s.more) = length-append s.start (e ∷ s.more) in
        omega (arith, short, all, two)

    low : (m : ℕ) → last_elected r.txn (log_of sc s.start m) ≤ 36000001
    low m = let less : last_elected r.txn (log_of sc s.start m) ≤ 1 + 18 * length s.start = numbers_stay_low sc s.start r.txn m given begun.legal_start in omega (arith, less, short_start)

    ended : Outcome sc s.start s.more r v
    ended = outcome sc s.start s.more r begun low

    is_blocked : is_block v ≡ (list_all (is_open sc s.start r.txn) r.members && not (is_quorum sc.weights r.members r.txn.sites))
    is_blocked = blocked_is sc s.start r.txn r.members

    there : is_block v ≡ true → (is_quorum sc.weights r.members r.txn.sites ≡ false) × (list_all (is_open sc s.start r.txn) r.members ≡ true)
    there block =
        let parts = and_parts (list_all (is_open sc s.start r.txn) r.members) (not (is_quorum sc.weights r.members r.txn.sites)) (sym is_blocked ∙ block) in
        (off (is_quorum sc.weights r.members r.txn.sites) parts.1, parts.0)
      where
        off : (b : Bool) → not b ≡ true → b ≡ false
        off true is = absurd cc
        off false is = refl

    back : (is_quorum sc.weights r.members r.txn.sites ≡ false) × (list_all (is_open sc s.start r.txn) r.members ≡ true) → is_block v ≡ true
    back both = is_blocked ∙ rw (both.0, both.1) refl
