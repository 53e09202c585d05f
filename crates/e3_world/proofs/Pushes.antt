-- One more entry of a history, one more move of a site.
use Rattle.std.proofs.Common.{◌≡◌, ℕ, List, [], ◌∷◌, ◌++◌, append_assoc, append-nil, sym, subst, ◌∙◌, ap, refl, fold}
use Rattle.std.specs.List.{flat_map}
use Rattle.std.proofs.lemmas.Grind.{fold-append, flat_map-append}
use Rattle.e3_types.specs.declared.entries.Entry.{Entry}
use Rattle.e3_types.specs.declared.entries.Input.{Input}
use Rattle.e3_types.specs.declared.entries.Input.TheVariants as input
use Rattle.e3_types.specs.declared.scenarios.Scenario.{Scenario}
use Rattle.e3_world.specs.declared.lives.Incarnation.{Incarnation}
use Rattle.e3_world.specs.declared.lives.Life.{Life}
use Rattle.e3_world.specs.declared.lives.SiteStep.{SiteStep}
use Rattle.e3_world.specs.Legal.{IsLegal, LegalAfter, Guard}
use Rattle.e3_world.specs.Lives.{present_log, incarnation_of, incarnation_by, life_of, life_by, life_at}
use Rattle.e3_world.specs.Moves.{Move, Did, Stepped, Silent, Rose, past_of, past_by, log_by, recorded, unnumbered_input}
use Rattle.e3_world.specs.Steps.{step_of}

-- an entry that meets its guard keeps a history legal
after_push : (sc : Scenario) (before h : List Entry) (e : Entry) → LegalAfter sc before h → Guard sc (before ++ h) e → LegalAfter sc before (h ++ e ∷ [])
after_push sc before [] e legal guard = (let P : List Entry → Type 0 = λ b. Guard sc b e in subst P (append-nil before) guard, tt)
after_push sc before (x ∷ h) e legal guard =
    (legal.0, after_push sc (before ++ x ∷ []) h e legal.1 (let P : List Entry → Type 0 = λ b. Guard sc b e in subst P (sym (append_assoc before (x ∷ []) h)) guard))

pub legal_push : (sc : Scenario) (h : List Entry) (e : Entry) → IsLegal sc h → Guard sc h e → IsLegal sc (h ++ e ∷ [])
legal_push sc h e legal guard = after_push sc [] h e legal guard

-- every prefix of a legal history is legal
after_front : (sc : Scenario) (before h more : List Entry) → LegalAfter sc before (h ++ more) → LegalAfter sc before h
after_front sc before [] more legal = tt
after_front sc before (x ∷ h) more legal = (legal.0, after_front sc (before ++ x ∷ []) h more legal.1)

pub legal_front : (sc : Scenario) (h more : List Entry) → IsLegal sc (h ++ more) → IsLegal sc h
legal_front sc h more legal = after_front sc [] h more legal

-- the readings of one more entry and of one more move
pub past_push : (sc : Scenario) (site : ℕ) (mine : List Entry) (e : Entry) → past_of sc site (mine ++ e ∷ []) ≡ past_by sc site (past_of sc site mine) e
past_push sc site mine e = fold-append (past_by sc site) _ mine (e ∷ [])

pub incarnation_push : (mine : List Move) (m : Move) → incarnation_of (mine ++ m ∷ []) ≡ incarnation_by (incarnation_of mine) m
incarnation_push mine m = fold-append incarnation_by _ mine (m ∷ [])

pub life_push : (i : Incarnation) (s : SiteStep) → life_of (record { rose = i.rose; since = i.since ++ s ∷ [] }) ≡ life_by (life_of i) s
life_push i s = fold-append life_by _ i.since (s ∷ [])

pub log_push : (mine : List Move) (m : Move) → log_by (mine ++ m ∷ []) ≡ log_by mine ++ recorded m
log_push mine m = flat_map-append recorded mine (m ∷ []) ∙ ap (λ r. log_by mine ++ r) (append-nil (recorded m))

-- the log at present is the log that the moves make
did_log : (i : Incarnation) (s : ℕ) (d : Did) →
    present_log (incarnation_by i (record { site = s; did = d })) ≡ present_log i ++ recorded (record { site = s; did = d })
did_log i s (Stepped st) =
    ap (λ l. i.rose ++ l) (flat_map-append (λ x. x.records) i.since (st ∷ []) ∙ ap (λ l. flat_map (λ x. x.records) i.since ++ l) (append-nil st.records))
    ∙ sym (append_assoc i.rose (flat_map (λ x. x.records) i.since) st.records)
did_log i s (Silent inputs records) = append-nil (present_log i ++ records)
did_log i s (Rose inc records) = append-nil (present_log i ++ records)

log_from : (i : Incarnation) (mine : List Move) → present_log (fold incarnation_by i mine) ≡ present_log i ++ log_by mine
log_from i [] = sym (append-nil (present_log i))
log_from i (m ∷ mine) =
    log_from (incarnation_by i m) mine ∙ ap (λ l. l ++ log_by mine) (did_log i m.site m.did)
    ∙ append_assoc (present_log i) (recorded m) (log_by mine)

pub present_is_log : (mine : List Move) → present_log (incarnation_of mine) ≡ log_by mine
present_is_log mine = log_from (record { rose = []; since = [] }) mine

-- the log of a life is the log of its incarnation
life_log_from : (life : Life) (since : List SiteStep) → (fold life_by life since).log ≡ life.log ++ flat_map (λ s. s.records) since
life_log_from life [] = sym (append-nil life.log)
life_log_from life (s ∷ since) =
    life_log_from (life_by life s) since ∙ append_assoc life.log s.records (flat_map (λ x. x.records) since)

pub life_log : (i : Incarnation) → (life_of i).log ≡ present_log i
life_log i = life_log_from _ i.since

pub life_log_at : (mine : List Move) → (life_at mine).log ≡ log_by mine
life_log_at mine = life_log (incarnation_of mine) ∙ present_is_log mine

-- the number of a packet does not matter to a step
pub step_unnumbered : (weights : List ℕ) (site : ℕ) (now : Incarnation) (i : Input) → step_of weights site now (unnumbered_input i) ≡ step_of weights site now i
step_unnumbered weights site now (input.Begin sites) = refl
step_unnumbered weights site now (input.Do t op) = refl
step_unnumbered weights site now (input.Commit t) = refl
step_unnumbered weights site now (input.Cancel t) = refl
step_unnumbered weights site now (input.Expire t) = refl
step_unnumbered weights site now (input.Elect t group) = refl
step_unnumbered weights site now (input.Deliver packet) = refl
