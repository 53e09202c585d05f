-- A report goes on to say how its site stood at its join, after marks that may be made.
use Rattle.std.proofs.Common.{◌≡◌, ◌⊎◌, inl, inr, ◌∷◌, [], ◌++◌, ℕ, List, refl, sym, ap, subst, ◌∙◌, append-nil, append_assoc}
use Rattle.std.proofs.lemmas.Bool.{cases_eq}
use Rattle.e3_laws.specs.agreement.Logs.{IsIn, Note, Status, Join, attempt, status, before_join, Orderly}
use Rattle.e3_laws.specs.agreement.Marks.{Mark, behind, log_of, sent_of, situation_of, MayMark, AllowedAfter, Allowed}
use Rattle.e3_laws.specs.agreement.Rules.{Party, Overlaps, Letter, Word, Report, Reachable, Start, MaySay, MayReport}
use Rattle.e3_laws.proofs.agreement.Protocol.Keep.{law}
use Rattle.e3_laws.proofs.agreement.Protocol.Reached.{mark_reaches, in_parts, in_behind, sent_more}
use Rattle.e3_laws.proofs.agreement.Refinement.Growing.{log_here, log_there}
use Rattle.e3_laws.proofs.agreement.Facing.{join_stays}

-- each report that was sent says how its site stood before its join
abbrev pub ReportsOk : List Mark → Type 0
ReportsOk marks = (p : Letter) (n : ℕ) (st : Status) (a : ℕ) → IsIn p (sent_of marks) → p.word ≡ Report n st a → MayReport (log_of p.source marks) p.target n st a

-- with notes more
report_stays : (l ns : List Note) (y n : ℕ) (st : Status) (a : ℕ) → Orderly (behind l ns) → MayReport l y n st a → MayReport (behind l ns) y n st a
report_stays l ns y n st a o may =
    let same : before_join n (behind l ns) ≡ before_join n l = join_stays n y l ns o may.joined in record {
      joined = in_behind (Join n y) l ns may.joined;
      says = may.says ∙ sym (ap status same);
      tried = may.tried ∙ sym (ap attempt same);
    }

reports_mark : (g : Party) (marks : List Mark) (m : Mark) → Overlaps g → Reachable g (situation_of marks) → MayMark g (situation_of marks) m → ReportsOk marks → ReportsOk (marks ++ m ∷ [])
reports_mark g marks m shared reach may ok p n st a k is = by (in_parts p (sent_of marks) m.sends (subst (λ z. IsIn p z) (sent_more marks m) k))
  where
    ordered : (x : ℕ) → Orderly (log_of x (marks ++ m ∷ []))
    ordered = (law g (situation_of (marks ++ m ∷ [])) shared (mark_reaches g marks m reach may)).orderly

    here : (x : ℕ) → MayReport (log_of x marks) p.target n st a → (x ≡ m.site) ⊎ (x ≡ m.site → ⊥) → MayReport (log_of x (marks ++ m ∷ [])) p.target n st a
    here x old (inl same) =
        subst (λ y. MayReport (log_of y (marks ++ m ∷ [])) p.target n st a) (sym same)
        (subst (λ l. MayReport l p.target n st a) (sym (log_here marks m))
        (report_stays (log_of m.site marks) m.notes p.target n st a (subst Orderly (log_here marks m) (ordered m.site)) (subst (λ y. MayReport (log_of y marks) p.target n st a) same old)))
    here x old (inr other) = subst (λ l. MayReport l p.target n st a) (sym (log_there x marks m other)) old

    by : IsIn p (sent_of marks) ⊎ IsIn p m.sends → MayReport (log_of p.source (marks ++ m ∷ [])) p.target n st a
    by (inl old) = here p.source (ok p n st a old is) (cases_eq p.source m.site)
    by (inr new) =
        let said : MaySay (sent_of marks) (behind (log_of m.site marks) m.notes) m.site p.target (Report n st a) =
        subst (λ (w : Word). MaySay (sent_of marks) (behind (log_of m.site marks) m.notes) m.site p.target w) is (may.sends p new) in
        subst (λ y. MayReport (log_of y (marks ++ m ∷ [])) p.target n st a) (sym (may.from_here p new))
        (subst (λ l. MayReport l p.target n st a) (sym (log_here marks m)) said)

reports_after : (g : Party) (before rest : List Mark) → Overlaps g → Reachable g (situation_of before) → AllowedAfter g before rest → ReportsOk before → ReportsOk (before ++ rest)
reports_after g before [] shared reach allowed ok = subst ReportsOk (sym (append-nil before)) ok
reports_after g before (m ∷ rest) shared reach allowed ok =
    subst ReportsOk (append_assoc before (m ∷ []) rest)
    (reports_after g (before ++ m ∷ []) rest shared (mark_reaches g before m reach allowed.0) allowed.1 (reports_mark g before m shared reach allowed.0 ok))

pub reports_ok : (g : Party) (marks : List Mark) → Overlaps g → Allowed g marks → ReportsOk marks
reports_ok g marks shared allowed = reports_after g [] marks shared (Start (λ x. refl) refl) allowed (λ p n st a k is. absurd k)
