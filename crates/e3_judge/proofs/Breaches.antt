-- No breach is found exactly where the history is legal, and what is found is one.
use Rattle.std.proofs.Common.{◌≡◌, ◌++◌, ◌∷◌, [], ℕ, List, length, Option, Some, None, refl, ap, sym, ◌∙◌, subst, append_assoc, append-nil, take, drop}
use Rattle.std.proofs.lemmas.List.{take-append-drop}
use Rattle.std.proofs.lemmas.Result.{IfOk-weaker}
use Rattle.std.specs.Prelude.{slice_get, Result, IfOk, IfSome}
use Rattle.std.proofs.lemmas.Bool.Decides.{Decides-eqb, Decides-and, Decides-like}
use Rattle.e3_types.specs.declared.entries.Entry.{Entry}
use Rattle.e3_types.specs.declared.scenarios.Scenario.{Scenario}
use Rattle.e3_world.specs.Legal.{IsLegal, LegalAfter, Guard, is_through}
use Rattle.e3_world.specs.Packets.{lines}
use Rattle.e3_world.proofs.Pushes.{legal_push}
use Rattle.e3_judge.specs.declared.breach.Breach.{Breach}
use Rattle.e3_judge.specs.declared.breach.Guard as rule
use Rattle.e3_judge.specs.Checks.{checks, first_failing, breach_after, first_breach}
use Rattle.e3_judge.specs.Claims.{ChecksAreGuard, IsBreach, IsJudged, NoBreachIsLegal, BreachIsBroken, WholeIsWhole}
use Rattle.e3_judge.proofs.Anys.{decides_true, decides_none}
use Rattle.e3_judge.proofs.Passing.{guard_from_checks, checks_from_guard}

pub checks_are_guard : ChecksAreGuard
checks_are_guard sc h e legal = (guard_from_checks sc h e, checks_from_guard sc h e legal)

-- the answer by what the first entry's checks come to
abbrev answer : ℕ → Option rule.Guard → Option Breach → Option Breach
answer at None later = later
answer at (Some g) later = Some (record { at = at; guard = g })

no_breach : (sc : Scenario) (before h : List Entry) → breach_after sc before h ≡ None → LegalAfter sc before h
no_breach sc before [] e = tt
no_breach sc before (x ∷ h) e = by (first_failing (checks sc before x)) refl (no_breach sc (before ++ x ∷ []) h) e
  where
    by : (o : Option rule.Guard) → first_failing (checks sc before x) ≡ o →
        (breach_after sc (before ++ x ∷ []) h ≡ None → LegalAfter sc (before ++ x ∷ []) h) →
        answer (length before) o (breach_after sc (before ++ x ∷ []) h) ≡ None → LegalAfter sc before (x ∷ h)
    by None is later e = (guard_from_checks sc before x is, later e)
    by (Some g) is later e = absurd cc

legal_none : (sc : Scenario) (before h : List Entry) → IsLegal sc before → LegalAfter sc before h → breach_after sc before h ≡ None
legal_none sc before [] was legal = refl
legal_none sc before (x ∷ h) was legal =
    ap (λ o. answer (length before) o (breach_after sc (before ++ x ∷ []) h)) (checks_from_guard sc before x was legal.0)
    ∙ legal_none sc (before ++ x ∷ []) h (legal_push sc before x was legal.0) legal.1

pub no_breach_is_legal : NoBreachIsLegal
no_breach_is_legal sc h = (no_breach sc [] h, legal_none sc [] h tt)

-- legal entries are no breach: it is looked for behind them
skips : (sc : Scenario) (done before h : List Entry) → IsLegal sc done → LegalAfter sc done before →
    breach_after sc done (before ++ h) ≡ breach_after sc (done ++ before) h
skips sc done [] h was legal = ap (λ l. breach_after sc l h) (sym (append-nil done))
skips sc done (x ∷ before) h was legal =
    ap (λ o. answer (length done) o (breach_after sc (done ++ x ∷ []) (before ++ h))) (checks_from_guard sc done x was legal.0)
    ∙ skips sc (done ++ x ∷ []) before h (legal_push sc done x was legal.0) legal.1
    ∙ ap (λ l. breach_after sc l h) (append_assoc done (x ∷ []) before)

pub breach_behind : (sc : Scenario) (h : List Entry) (n : ℕ) → IsLegal sc (take n h) →
    breach_after sc (take n h) (drop n h) ≡ first_breach sc h
breach_behind sc h n legal = sym (skips sc [] (take n h) (drop n h) tt legal) ∙ ap (first_breach sc) (take-append-drop n h)

-- the entries before a place, and the entry at it
take_before : (before more : List Entry) → take (length before) (before ++ more) ≡ before
take_before [] [] = refl
take_before [] (x ∷ more) = refl
take_before (x ∷ before) more = ap (λ l. x ∷ l) (take_before before more)

get_at : (before more : List Entry) (e : Entry) → slice_get (before ++ e ∷ more) (length before) ≡ Some e
get_at [] more e = refl
get_at (x ∷ before) more e = get_at before more e

here : (sc : Scenario) (before h : List Entry) (x : Entry) (g : rule.Guard) → IsLegal sc before → first_failing (checks sc before x) ≡ Some g →
    IsBreach sc (before ++ x ∷ h) (record { at = length before; guard = g })
here sc before h x g was fails = record {
  entry = x;
  there = get_at before h x;
  legal_before = subst (λ (l : List Entry). IsLegal sc l) back was;
  broken = λ holds. let none : first_failing (checks sc before x) ≡ None =
      checks_from_guard sc before x was (subst (λ (l : List Entry). Guard sc l x) (take_before before (x ∷ h)) holds) in
      let both : Some g ≡ None = sym fails ∙ none in absurd cc;
  named = subst (λ (l : List Entry). first_failing (checks sc l x) ≡ Some g) back fails;
}
  where
    back : before ≡ take (length before) (before ++ x ∷ h)
    back = sym (take_before before (x ∷ h))

breach_in : (sc : Scenario) (before h : List Entry) (b : Breach) → IsLegal sc before → breach_after sc before h ≡ Some b → IsBreach sc (before ++ h) b
breach_in sc before [] b was e = absurd cc
breach_in sc before (x ∷ h) b was e = by (first_failing (checks sc before x)) refl (breach_in sc (before ++ x ∷ []) h b) e
  where
    by : (o : Option rule.Guard) → first_failing (checks sc before x) ≡ o →
        (IsLegal sc (before ++ x ∷ []) → breach_after sc (before ++ x ∷ []) h ≡ Some b → IsBreach sc ((before ++ x ∷ []) ++ h) b) →
        answer (length before) o (breach_after sc (before ++ x ∷ []) h) ≡ Some b → IsBreach sc (before ++ x ∷ h) b
    by None is later e = subst (λ (l : List Entry). IsBreach sc l b) (append_assoc before (x ∷ []) h)
        (later (legal_push sc before x was (guard_from_checks sc before x is)) e)
    by (Some g) is later e =
        let same : record { at = length before; guard = g } ≡ b = cc in
        subst (λ (c : Breach). IsBreach sc (before ++ x ∷ h) c) same (here sc before h x g was is)

pub breach_is_broken : BreachIsBroken
breach_is_broken sc h b found = breach_in sc [] h b tt found

first_is_judged : (sc : Scenario) (h : List Entry) (b : Option Breach) → b ≡ first_breach sc h → IsJudged sc h b
first_is_judged sc h b e = record {
  found = e;
  legal = (λ none. (no_breach_is_legal sc h).0 (sym e ∙ none), λ legal. e ∙ (no_breach_is_legal sc h).1 legal);
  broken = broken_by b e;
}
  where
    broken_by : (o : Option Breach) → o ≡ first_breach sc h → IfSome o (IsBreach sc h)
    broken_by None is = tt
    broken_by (Some x) is = breach_is_broken sc h x (sym is)

-- what is first is all that a judge says
pub judged : {E : Type 0} (sc : Scenario) (h : List Entry) (r : Result (Option Breach) E) →
    IfOk r (λ b. b ≡ first_breach sc h) → IfOk r (IsJudged sc h)
judged sc h r first = IfOk-weaker r _ _ (first_is_judged sc h) first

pub whole_is_whole : WholeIsWhole
whole_is_whole sc h = Decides-like _
    (λ p. record { legal = (no_breach_is_legal sc h).0 p.0.0; last = p.0.1; through = p.1 })
    (λ w. (((no_breach_is_legal sc h).1 w.legal, w.last), w.through))
    (Decides-and _ _ (Decides-and _ _ (decides_none (first_breach sc h)) (Decides-eqb (lines h) (length sc.steps))) (decides_true (is_through sc h)))
