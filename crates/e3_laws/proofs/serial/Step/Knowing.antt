-- Whatever a site answered came to it, or is an answer of another site that it told.
use Rattle.std.proofs.Common.{◌≡◌, ◌⊎◌, inl, inr, ◌==◌, ◌++◌, ◌∷◌, [], ℕ, Bool, true, false, not, List, Option, Some, None, map, refl, sym, subst, ap, ◌∙◌, if◌then◌else◌, append-nil, eqb-true, eq-eqb}
use Rattle.std.specs.List.{list_any, flat_map}
use Rattle.std.proofs.lemmas.Bool.{and_parts, and_from, true≢false, false_from_ne_true}
use Rattle.e3_types.specs.declared.transactions.Answer.{Answer}
use Rattle.e3_types.specs.declared.transactions.Op.{Op}
use Rattle.e3_types.specs.declared.transactions.State.TheVariants.{Q}
use Rattle.e3_types.specs.declared.transactions.Txn.{Txn}
use Rattle.e3_types.specs.Same.{same_txn, same_state}
use Rattle.e3_laws.proofs.agreement.Refinement.Lists.{same_from}
use Rattle.e3_world.specs.declared.lives.Asked.{Asked}
use Rattle.e3_world.specs.declared.lives.At.{At}
use Rattle.e3_world.specs.declared.lives.Moment.{Moment}
use Rattle.e3_world.specs.Logs.{state_of, key_of}
use Rattle.e3_world.specs.Operations.{is_refusal, issued, nth_op, taken_up, same_asked, is_fresh, and_arrived, arrivals, answer_told, answer_sent, answers, is_answered}
use Rattle.e3_world.specs.Sound.{Fits}
use Rattle.e3_world.specs.Steps.{step_at}
use Rattle.e3_laws.proofs.serial.Step.Rules.{Locking, Shaped}
use Rattle.e3_laws.proofs.serial.Lists.Entries.{In}
use Rattle.e3_laws.proofs.serial.Lists.Members.{in_append, in_back}
use Rattle.e3_laws.proofs.serial.Step.Shapes.{FromAway}
use Rattle.e3_laws.proofs.serial.Step.Arrivals.{arrivals_push, answers_push, answered_from, answered_first, Steady}
use Rattle.e3_laws.proofs.serial.Step.Steadying.{some_inj, any_in, in_any, arrivals_stay, steady_push}
use Rattle.e3_laws.proofs.serial.Step.Answering.{Cause, Heard, Locked, Repeated, Granted}
use Rattle.e3_world.specs.Moves.{unnumbered}
use Rattle.e3_laws.proofs.serial.Step.Stepping.{moment, is_moment, shaped_calm, same_answered, newly, comes_taken, lock_absent, granted_arrived, heard_elsewhere}
use Rattle.e3_laws.proofs.steps.Tests.{same_is}
use Rattle.e3_laws.proofs.steps.Operations.Issuing.{nth_more, issued_push}
use Rattle.e3_laws.proofs.steps.Operations.Tracing.{Refuses}

-- an operation that came to the site
pub record Came (site : ℕ) (steps : List Moment) (q : Asked) : Type 0 where
  pub asked : Asked
  pub asked_in : In asked (arrivals site steps)
  pub txn : asked.txn ≡ q.txn
  pub n : asked.n ≡ q.n

-- an operation of the site's own transaction on another site's key
pub record Elsewhere (site : ℕ) (steps : List Moment) (q : Asked) : Type 0 where
  pub own : q.txn.site ≡ site
  pub op : Op
  pub nth : nth_op q.n (issued q.txn steps) ≡ Some op
  pub away : (key_of op).site ≡ site → ⊥

-- whatever was answered is one of these
abbrev pub Known : ℕ → List Moment → Type 0
Known site steps = (q : Asked) → is_answered steps q ≡ true → Came site steps q ⊎ Elsewhere site steps q

pub known_start : (site : ℕ) → Known site []
known_start site q h = absurd (true≢false (sym h))

-- a step that refuses shows no answer and records nothing
pub refused_answers : (a : At) → Refuses (step_at a) → (q : Asked) → answers q (a.life.steps ++ moment a ∷ []) ≡ answers q a.life.steps
refused_answers a r q =
    answers_push q a.life.steps (moment a)
    ∙ ap (λ l. answers q a.life.steps ++ (flat_map (answer_told q) l ++ flat_map (answer_sent q) (map unnumbered (step_at a).outs))) r.told.2
    ∙ ap (λ l. answers q a.life.steps ++ flat_map (answer_sent q) (map unnumbered l)) r.outs
    ∙ append-nil (answers q a.life.steps)

came_more : (site : ℕ) (steps : List Moment) (m : Moment) (q : Asked) → Came site steps q → Came site (steps ++ m ∷ []) q
came_more site steps m q c = record { asked = c.asked; asked_in = arrivals_stay site steps m c.asked c.asked_in; txn = c.txn; n = c.n }

elsewhere_more : (site : ℕ) (steps : List Moment) (m : Moment) (q : Asked) → Elsewhere site steps q → Elsewhere site (steps ++ m ∷ []) q
elsewhere_more site steps m q e = record {
  own = e.own;
  op = e.op;
  nth = subst (λ l. nth_op q.n l ≡ Some e.op) (sym (issued_push q.txn steps m)) (nth_more q.n (issued q.txn steps) _ e.op e.nth);
  away = e.away;
}

-- what stood before a step still stands behind it
known_more : (a : At) (m : Moment) → Known a.site a.life.steps → (q : Asked) → is_answered a.life.steps q ≡ true → Came a.site (a.life.steps ++ m ∷ []) q ⊎ Elsewhere a.site (a.life.steps ++ m ∷ []) q
known_more a m known q h = elim (known q h) [ inl c ↦ inl (came_more a.site a.life.steps m q c) | inr e ↦ inr (elsewhere_more a.site a.life.steps m q e) ]

-- an operation that gets its lock is among the arrivals
pub lock_arrives : (a : At) (t : Txn) (n : ℕ) (op : Op) → list_any is_refusal (step_at a).told ≡ false → Locking a t n op → In (record { txn = t; n = n; op = op }) (arrivals a.site (a.life.steps ++ moment a ∷ []))
lock_arrives a t n op calm l =
    subst (λ z. In (record { txn = t; n = n; op = op }) z)
    (sym (arrivals_push a.site a.life.steps (moment a) ∙ ap (λ o. and_arrived (arrivals a.site a.life.steps) (moment a) o) (comes_taken a t n op calm l.comes)))
    (subst (λ b. In (record { txn = t; n = n; op = op }) (if b then arrivals a.site a.life.steps ++ record { txn = t; n = n; op = op } ∷ [] else arrivals a.site a.life.steps)) (sym fresh)
    (in_back (arrivals a.site a.life.steps) (record { txn = t; n = n; op = op } ∷ []) (record { txn = t; n = n; op = op }) (inl refl)))
  where
    new : list_any (same_asked (record { txn = t; n = n; op = op })) (arrivals a.site a.life.steps) ≡ false
    new = false_from_ne_true _ (λ y.
        (let r = any_in (same_asked (record { txn = t; n = n; op = op })) (arrivals a.site a.life.steps) y in
        let p = and_parts (n == r.0.n) (same_txn t r.0.txn) r.2 in
        lock_absent a t n op l r.0 r.1 (sym (same_is t r.0.txn p.1)) (sym (eqb-true n r.0.n p.0))))

    idle : state_of t a.life.log ≡ Q
    idle = ap (state_of t) (sym (append-nil a.life.log)) ∙ l.idle

    fresh : is_fresh (arrivals a.site a.life.steps) (moment a) (record { txn = t; n = n; op = op }) ≡ true
    fresh = and_from (same_state (state_of t a.life.log) Q) (not (list_any (same_asked (record { txn = t; n = n; op = op })) (arrivals a.site a.life.steps))) (ap (λ st. same_state st Q) idle) (ap not new)

module _ (weights : List ℕ) (a : At) (steady : Steady a.site a.life.steps) (fits : Fits weights a.site a.life a.input) (away : FromAway a.site a.input) (known : Known a.site a.life.steps) where
  pub known_refused : Refuses (step_at a) → Known a.site (a.life.steps ++ moment a ∷ [])
  known_refused r q h =
      known_more a (moment a) known q (let f = answered_first (a.life.steps ++ moment a ∷ []) q h in answered_from a.life.steps q f.0 f.1 (sym (refused_answers a r q) ∙ f.2))

  pub known_shaped : Shaped a (step_at a) → Known a.site (a.life.steps ++ moment a ∷ [])
  known_shaped s q h = by (is_answered a.life.steps q) refl
    where
      cause : (v : Answer) → Cause a s.rule q.txn q.n v → is_answered a.life.steps q ≡ false → Came a.site (a.life.steps ++ moment a ∷ []) q ⊎ Elsewhere a.site (a.life.steps ++ moment a ∷ []) q
      cause v (Heard k e) none = let z = heard_elsewhere weights a steady fits away s q.txn q.n v k in inr (record { own = z.0; op = z.1; nth = z.2; away = z.3 })
      cause v (Locked op l x e) none = inl (record { asked = record { txn = q.txn; n = q.n; op = op }; asked_in = lock_arrives a q.txn q.n op (shaped_calm a (step_at a) s) l; txn = refl; n = refl })
      cause v (Repeated k e) none = absurd (let y = answered_from a.life.steps (record { txn = q.txn; n = q.n; op = k.op }) v k.more k.answered in
          true≢false (sym (same_answered (record { txn = q.txn; n = q.n; op = k.op }) q refl refl a.life.steps y) ∙ none))
      cause v (Granted g before after split same num x some ruled) none =
          inl (record { asked = g; asked_in = granted_arrived weights a steady fits away s g (subst (λ l. In g l) (sym split) (in_back before (g ∷ after) g (inl refl))); txn = same; n = num })

      by : (b : Bool) → is_answered a.life.steps q ≡ b → Came a.site (a.life.steps ++ moment a ∷ []) q ⊎ Elsewhere a.site (a.life.steps ++ moment a ∷ []) q
      by true is = known_more a (moment a) known q is
      by false is = let f = answered_first (a.life.steps ++ moment a ∷ []) q h in cause f.0 (newly a s q f.0 f.1 is f.2) is

  -- an operation that is new among the arrivals was not answered before
  pub fresh_unanswered : (q : Asked) → In q (arrivals a.site (a.life.steps ++ moment a ∷ [])) → (In q (arrivals a.site a.life.steps)) ⊎ (is_answered a.life.steps q ≡ false)
  fresh_unanswered q h = by (taken_up a.site a.life.steps (moment a)) (subst (λ l. In q l) (arrivals_push a.site a.life.steps (moment a)) h)
    where
      answered_no : is_fresh (arrivals a.site a.life.steps) (moment a) q ≡ true → is_answered a.life.steps q ≡ true → ⊥
      answered_no fresh y = elim (known q y) [
        | inl c ↦ (let p = and_parts _ _ fresh in
            let test = in_any (same_asked q) (arrivals a.site a.life.steps) c.asked c.asked_in (and_from (q.n == c.asked.n) (same_txn q.txn c.asked.txn) (eq-eqb q.n c.asked.n (sym c.n)) (same_from q.txn c.asked.txn (sym c.txn))) in
            true≢false (sym p.1 ∙ ap not test))
        | inr e ↦ (
            let steady' = steady_push weights a (moment a) (is_moment a) steady fits in
            let nth : nth_op q.n (issued q.txn (a.life.steps ++ moment a ∷ [])) ≡ Some e.op =
            subst (λ l. nth_op q.n l ≡ Some e.op) (sym (issued_push q.txn a.life.steps (moment a))) (nth_more q.n (issued q.txn a.life.steps) _ e.op e.nth) in
            let same : e.op ≡ q.op = some_inj e.op q.op (sym nth ∙ steady'.nth q h e.own) in
            e.away (ap (λ o. (key_of o).site) same ∙ (steady'.here q h).0))
      ]

      by : (o : Option Asked) → In q (and_arrived (arrivals a.site a.life.steps) (moment a) o) → In q (arrivals a.site a.life.steps) ⊎ (is_answered a.life.steps q ≡ false)
      by None k = inl k
      by (Some x) k = go (is_fresh (arrivals a.site a.life.steps) (moment a) x) refl k
        where
          last : is_fresh (arrivals a.site a.life.steps) (moment a) x ≡ true → In q (arrivals a.site a.life.steps) ⊎ In q (x ∷ []) → In q (arrivals a.site a.life.steps) ⊎ (is_answered a.life.steps q ≡ false)
          last f (inl old) = inl old
          last f (inr (inl e)) = inr (false_from_ne_true _ (answered_no (subst (λ z. is_fresh (arrivals a.site a.life.steps) (moment a) z ≡ true) e f)))
          last f (inr (inr none)) = absurd none

          go : (b : Bool) → is_fresh (arrivals a.site a.life.steps) (moment a) x ≡ b → In q (if b then arrivals a.site a.life.steps ++ x ∷ [] else arrivals a.site a.life.steps) → In q (arrivals a.site a.life.steps) ⊎ (is_answered a.life.steps q ≡ false)
          go true f k = last f (in_append (arrivals a.site a.life.steps) (x ∷ []) q k)
          go false f k = inl k
