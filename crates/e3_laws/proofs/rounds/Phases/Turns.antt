-- The members of a round ascend, so that the others take their turns.
use Rattle.std.proofs.Common.{◌≡◌, ◌==◌, ◌||◌, ◌<◌, ◌≤◌, ℕ, suc, Bool, true, false, List, [], ◌∷◌, ◌++◌, append_assoc, length, length-append, ◌∙◌, ap, sym, refl, arith, eqb-true, nat_lt, nat_le}
use Rattle.std.proofs.lemmas.Bool.{ne_eqb}
use Rattle.std.proofs.lemmas.List.Folds.{list_any-append}
use Rattle.e3_types.specs.Sets.{ascends, has_site, others}
use Rattle.e3_world.specs.Items.{RecoveryRound}
use Rattle.e3_world.proofs.Ascents.{ascends_parts, lt_from}
use Rattle.e3_world.proofs.Turns.{self}
use Rattle.e3_laws.proofs.rounds.Phases.Walked.{Each, Turn}
use Rattle.e3_laws.proofs.steps.Tests.{or_true}

-- the sites of a list that ascends are above its bound
above : (low : ℕ) (xs : List ℕ) → ascends low xs ≡ true → (x : ℕ) → has_site xs x ≡ true → low < x
above low [] is x has = absurd cc
above low (y ∷ ys) is x has = by (above y ys parts.2 x) (y == x) refl has
  where
    parts : (nat_lt low y ≡ true) × (nat_le y 64 ≡ true) × (ascends y ys ≡ true)
    parts = ascends_parts low y ys is

    first : low < y
    first = lt_from low y parts.0

    by : (has_site ys x ≡ true → y < x) → (b : Bool) → (y == x) ≡ b → ((y == x) || has_site ys x) ≡ true → low < x
    by rest true same has = let e : y ≡ x = eqb-true y x same in omega (arith, first, e)
    by rest false other has = let later : y < x = rest (ap (λ b. b || has_site ys x) (sym other) ∙ has) in omega (arith, first, later)

absent : (xs : List ℕ) (m : ℕ) → (has_site xs m ≡ true → ⊥) → has_site xs m ≡ false
absent xs m never = by (has_site xs m) refl
  where
    by : (b : Bool) → has_site xs m ≡ b → has_site xs m ≡ false
    by false is = is
    by true is = absurd (never is)

pub turns_are : (r : RecoveryRound) (low : ℕ) (done todo : List ℕ) → r.members ≡ r.elector ∷ (done ++ todo) → others r.elector r.members ≡ done ++ todo →
    ((x : ℕ) → has_site (r.elector ∷ done) x ≡ true → x ≤ low) → ascends low todo ≡ true → Each (Turn r) done todo
turns_are r low done [] members receivers under is = tt
turns_are r low done (m ∷ todo) members receivers under is =
    (turn, turns_are r m (done ++ m ∷ []) todo (members ∙ ap (λ l. r.elector ∷ l) (sym (append_assoc done (m ∷ []) todo))) (receivers ∙ sym (append_assoc done (m ∷ []) todo)) under_now parts.2)
  where
    parts : (nat_lt low m ≡ true) × (nat_le m 64 ≡ true) × (ascends m todo ≡ true)
    parts = ascends_parts low m todo is

    high : low < m
    high = lt_from low m parts.0

    leader : r.elector ≤ low
    leader = under r.elector (ap (λ b. b || has_site done r.elector) (self r.elector))

    among : has_site (done ++ m ∷ todo) m ≡ true
    among = list_any-append (λ y. y == m) done (m ∷ todo) ∙ rw (self m) (or_true (has_site done m))

    turn : Turn r done m todo
    turn = record {
      member = ap (λ l. has_site l m) members ∙ ap (λ b. (r.elector == m) || b) among ∙ or_true (r.elector == m);
      receives = ap (λ l. has_site l m) receivers ∙ among;
      from_other = ne_eqb r.elector m (λ e. let clash : ⊥ = omega (arith, high, leader, e) in clash);
      away = ne_eqb m r.elector (λ e. let clash : ⊥ = omega (arith, high, leader, e) in clash);
      fresh = absent (r.elector ∷ done) m (λ has. let less : m ≤ low = under m has in let clash : ⊥ = omega (arith, high, less) in clash);
      once = absent todo m (λ has. let more : m < m = above m todo parts.2 m has in let clash : ⊥ = omega (arith, more) in clash);
      long = ap length members ∙ ap suc (length-append done (m ∷ todo));
    }

    under_now : (x : ℕ) → has_site (r.elector ∷ (done ++ m ∷ [])) x ≡ true → x ≤ m
    under_now x has = by (m == x) refl
      where
        or_false : (b : Bool) → (b || false) ≡ b
        or_false true = refl
        or_false false = refl

        by : (b : Bool) → (m == x) ≡ b → x ≤ m
        by true same = let e : m ≡ x = eqb-true m x same in omega (arith, e)
        by false other =
            let less : x ≤ low = under x (sym (list_any-append (λ y. y == x) (r.elector ∷ done) (m ∷ []) ∙ rw other (or_false (has_site (r.elector ∷ done) x))) ∙ has) in omega (arith, less, high)

-- and the receivers are the others
pub others_are : (s low : ℕ) (xs : List ℕ) → s ≤ low → ascends low xs ≡ true → others s xs ≡ xs
others_are s low [] less is = refl
others_are s low (x ∷ xs) less is =
    let one = ascends_parts low x xs is in
    let high : low < x = lt_from low x one.0 in
    let apart : (x == s) ≡ false = ne_eqb x s (λ e. let clash : ⊥ = omega (arith, high, less, e) in clash) in
    rw apart (ap (λ l. x ∷ l) (others_are s x xs (omega (arith, high, less)) one.2))
