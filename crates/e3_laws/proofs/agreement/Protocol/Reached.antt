-- Marks that may be made are moves of the protocol.
use Rattle.std.proofs.Common.{◌≡◌, ◌≢◌, ◌⊎◌, inl, inr, ℕ, List, [], ◌∷◌, ◌++◌, refl, sym, ap, ◌∙◌, subst, true, false, Bool, cond, eqb, append_assoc}
use Rattle.std.specs.Prelude.{fold, Some}
use Rattle.std.proofs.lemmas.Bool.{cases_eq, cond-true, cond-false, eqb-true, eq-eqb, false_from_ne_true}
use Rattle.std.proofs.lemmas.List.{append-nil}
use Rattle.std.proofs.lemmas.List.Sums.{fold-append}
use Rattle.std.proofs.lemmas.List.Concat.{flat_map-append}
use Rattle.e3_types.specs.declared.transactions.Dir.{Dir}
use Rattle.e3_types.specs.declared.transactions.Dir.TheVariants.{Abort, Commit}
use Rattle.e3_laws.specs.agreement.Logs.{IsIn, Note, Vote, Decision, Final}
use Rattle.e3_laws.specs.agreement.Rules.{Party, Overlaps, Situation, Letter, Word, No, Report, Decide, MayRecord, MayWrite, MaySay, MaySend, Moves, Writes, Talks, Reachable, Start, Step}
use Rattle.e3_laws.specs.agreement.Marks.{Mark, behind, log_by, log_of, sent_of, situation_of, MayWriteAll, MayMark, Allowed, AllowedAfter, said}
use Rattle.e3_laws.specs.agreement.Invariant.{Shows}
use Rattle.e3_laws.proofs.agreement.Protocol.Agree.{agrees, all_voted}
use Rattle.e3_laws.proofs.agreement.Protocol.Keep.{law}

pub folds_read : {B : Type 0} (read : List Note → B) (step : B → Note → B) → ((r : Note) (l : List Note) → read (r ∷ l) ≡ step (read l) r) → (l rs : List Note) → read (behind l rs) ≡ fold step (read l) rs
folds_read read step h l [] = refl
folds_read read step h l (r ∷ rs) = folds_read read step h (r ∷ l) rs ∙ ap (λ b. fold step b rs) (h r l)

pub in_parts : {X : Type 0} (x : X) (xs ys : List X) → IsIn x (xs ++ ys) → IsIn x xs ⊎ IsIn x ys
in_parts x [] ys h = inr h
in_parts x (z ∷ zs) ys (inl e) = inl (inl e)
in_parts x (z ∷ zs) ys (inr h) = elim (in_parts x zs ys h) [ inl a ↦ inl (inr a) | inr b ↦ inr b ]

other : (x y : ℕ) → (y ≡ x → ⊥) → eqb x y ≡ false
other x y ne = false_from_ne_true (eqb x y) (λ e. ne (sym (eqb-true x y e)))

abbrev with_note : Situation → ℕ → Note → Situation
with_note s x r = record { log = λ y. cond (eqb x y) (r ∷ s.log y) (s.log y); sent = s.sent }

note_move : (g : Party) (s : Situation) (x : ℕ) (r : Note) → MayRecord g s x r → Moves g s (with_note s x r)
note_move g s x r may = Writes x r may (record {
  here = cond-true (eqb x x) (r ∷ s.log x) (s.log x) (eq-eqb x x refl);
  elsewhere = λ y ne. cond-false (eqb x y) (r ∷ s.log y) (s.log y) (other x y ne);
  sent = λ p h. h;
})

-- what the notes of one mark leave
pub record Behind (g : Party) (s t : Situation) (x : ℕ) (rs : List Note) : Type 0 where
  pub reach : Reachable g t
  pub here : t.log x ≡ behind (s.log x) rs
  pub elsewhere : (y : ℕ) → y ≢ x → t.log y ≡ s.log y
  pub sent : t.sent ≡ s.sent

notes_reach : (g : Party) (s : Situation) (x : ℕ) (l rs : List Note) → s.log x ≡ l → Reachable g s → MayWriteAll g s.sent l x rs → (t : Situation) × Behind g s t x rs
notes_reach g s x l [] e k may = (s, record { reach = k; here = refl; elsewhere = λ y ne. refl; sent = refl })
notes_reach g s x l (r ∷ rs) e k may =
    let now : (with_note s x r).log x ≡ r ∷ s.log x = cond-true (eqb x x) (r ∷ s.log x) (s.log x) (eq-eqb x x refl) in
    let f = notes_reach g (with_note s x r) x (r ∷ l) rs (now ∙ ap (λ z. r ∷ z) e) (Step k (note_move g s x r (subst (λ z. MayWrite g s.sent z x r) (sym e) may.0))) may.1 in (
      f.0,
      record {
        reach = f.1.reach;
        here = f.1.here ∙ ap (λ z. behind z rs) now;
        elsewhere = λ y ne. f.1.elsewhere y ne ∙ cond-false (eqb x y) (r ∷ s.log y) (s.log y) (other x y ne);
        sent = f.1.sent;
      },
    )

pub log_more : (x : ℕ) (marks : List Mark) (m : Mark) → log_of x (marks ++ m ∷ []) ≡ log_by x (log_of x marks) m
log_more x marks m = fold-append (log_by x) [] marks (m ∷ [])

pub sent_more : (marks : List Mark) (m : Mark) → sent_of (marks ++ m ∷ []) ≡ sent_of marks ++ m.sends
sent_more marks m = flat_map-append (λ (k : Mark). k.sends) marks (m ∷ []) ∙ ap (λ ps. sent_of marks ++ ps) (append-nil m.sends)

pub mark_reaches : (g : Party) (marks : List Mark) (m : Mark) → Reachable g (situation_of marks) → MayMark g (situation_of marks) m → Reachable g (situation_of (marks ++ m ∷ []))
mark_reaches g marks m k may = Step f.1.reach (Talks (record { logs = λ y. logs y (cases_eq y m.site); sent = λ p h. sends p (in_parts p (sent_of marks) m.sends (subst (λ ps. IsIn p ps) (sent_more marks m) h)) }))
  where
    f : (t : Situation) × Behind g (situation_of marks) t m.site m.notes
    f = notes_reach g (situation_of marks) m.site (log_of m.site marks) m.notes refl k may.notes

    logs : (y : ℕ) → (y ≡ m.site) ⊎ (y ≡ m.site → ⊥) → log_of y (marks ++ m ∷ []) ≡ f.0.log y
    logs y (inl e) = subst (λ z. log_of z (marks ++ m ∷ []) ≡ f.0.log z) (sym e)
        (log_more m.site marks m ∙ cond-true (eqb m.site m.site) (behind (log_of m.site marks) m.notes) (log_of m.site marks) (eq-eqb m.site m.site refl) ∙ sym f.1.here)
    logs y (inr ne) = log_more y marks m ∙ cond-false (eqb m.site y) (behind (log_of y marks) m.notes) (log_of y marks) (other m.site y ne) ∙ sym (f.1.elsewhere y ne)

    sends : (p : Letter) → IsIn p (sent_of marks) ⊎ IsIn p m.sends → IsIn p f.0.sent ⊎ MaySend f.0 p.source p.target p.word
    sends p (inl h) = inl (subst (λ ps. IsIn p ps) (sym f.1.sent) h)
    sends p (inr h) =
        let say : MaySay f.0.sent (f.0.log m.site) m.site p.target p.word =
        subst (λ ps. MaySay ps (f.0.log m.site) m.site p.target p.word) (sym f.1.sent)
        (subst (λ l. MaySay (sent_of marks) l m.site p.target p.word) (sym f.1.here) (may.sends p h)) in
        inr (subst (λ z. MaySend f.0 z p.target p.word) (sym (may.from_here p h)) say)

reaches_after : (g : Party) (before rest : List Mark) → Reachable g (situation_of before) → AllowedAfter g before rest → Reachable g (situation_of (before ++ rest))
reaches_after g before [] k a = subst (λ t. Reachable g (situation_of t)) (sym (append-nil before)) k
reaches_after g before (m ∷ rest) k a =
    subst (λ t. Reachable g (situation_of t)) (append_assoc before (m ∷ []) rest) (reaches_after g (before ++ m ∷ []) rest (mark_reaches g before m k a.0) a.1)

pub marks_reach : (g : Party) (marks : List Mark) → Allowed g marks → Reachable g (situation_of marks)
marks_reach g marks a = reaches_after g [] marks (Start (λ x. refl) refl) a

allowed_front : (g : Party) (before h rest : List Mark) → AllowedAfter g before (h ++ rest) → AllowedAfter g before h
allowed_front g before [] rest a = tt
allowed_front g before (m ∷ h) rest a = (a.0, allowed_front g (before ++ m ∷ []) h rest a.1)

pub marks_agree : (g : Party) (marks : List Mark) → Overlaps g → Allowed g marks → (x y : ℕ) (d e : Dir) → IsIn (Decision d) (log_of x marks) → IsIn (Decision e) (log_of y marks) → d ≡ e
marks_agree g marks o a x y d e h k = agrees g (situation_of marks) (law g (situation_of marks) o (marks_reach g marks a)) x y d e h k

pub marks_vote : (g : Party) (before rest : List Mark) → Overlaps g → Allowed g (before ++ rest) → (x y : ℕ) → IsIn (Decision Commit) (log_of x before) → IsIn y g.members → IsIn Vote (log_of y before)
marks_vote g before rest o a x y h m =
    let i = law g (situation_of before) o (marks_reach g before (allowed_front g [] before rest a)) in
    (all_voted g (situation_of before) i (i.reason x Commit h)).0 y m

said_stands : (s : Situation) (x y : ℕ) (m : Word) (d : Dir) → Shows s x y m → said m ≡ Some d → IsIn (Decision d) (s.log x)
said_stands s x y No d h e = subst (λ z. IsIn (Decision z) (s.log x)) (let q : Abort ≡ d = cc in q) h
said_stands s x y (Report n (Final f) a) d h e = subst (λ z. IsIn (Decision z) (s.log x)) (let q : f ≡ d = cc in q) h.2
said_stands s x y (Decide f) d h e = subst (λ z. IsIn (Decision z) (s.log x)) (let q : f ≡ d = cc in q) h
said_stands s x y m d h e = cc

pub in_behind : (r : Note) (l rs : List Note) → IsIn r l → IsIn r (behind l rs)
in_behind r l [] h = h
in_behind r l (q ∷ rs) h = in_behind r (q ∷ l) rs (inr h)

-- logs only grow
in_later : (x : ℕ) (r : Note) (l : List Note) (rest : List Mark) → IsIn r l → IsIn r (fold (log_by x) l rest)
in_later x r l [] h = h
in_later x r l (m ∷ rest) h = in_later x r (log_by x l m) rest (more (eqb m.site x))
  where
    more : (b : Bool) → IsIn r (cond b (behind l m.notes) l)
    more true = in_behind r l m.notes h
    more false = h

pub marks_tell : (g : Party) (before rest : List Mark) → Overlaps g → Allowed g (before ++ rest) → (p : Letter) (d : Dir) → IsIn p (sent_of before) → said p.word ≡ Some d → IsIn (Decision d) (log_of p.source before) × IsIn (Decision d) (log_of p.source (before ++ rest))
marks_tell g before rest o a p d h e =
    let i = law g (situation_of before) o (marks_reach g before (allowed_front g [] before rest a)) in
    let now : IsIn (Decision d) (log_of p.source before) = said_stands (situation_of before) p.source p.target p.word d (i.letters p h) e in
    (now, subst (λ l. IsIn (Decision d) l) (sym (fold-append (log_by p.source) [] before rest)) (in_later p.source (Decision d) (log_of p.source before) rest now))
