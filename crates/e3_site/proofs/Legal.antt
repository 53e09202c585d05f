-- The log of each site in a legal history is in order.
use Rattle.std.proofs.Common.{◌≡◌, ◌≢◌, ◌⊎◌, ◌≤◌, ◌==◌, ◌++◌, ◌∷◌, [], ℕ, suc, Bool, true, false, List, inl, inr, refl, sym, ap, subst, ◌∙◌, append_assoc, append-nil, arith, eqb-true, eq-eqb}
use Rattle.std.specs.List.{AllByRecursion as Each}
use Rattle.std.proofs.lemmas.Bool.{true≢false}
use Rattle.std.proofs.lemmas.Grind.{fold-append}
use Rattle.e3_types.specs.declared.entries.Entry.{Entry}
use Rattle.e3_types.specs.declared.records.Record.{Record}
use Rattle.e3_types.specs.declared.records.Record.TheVariants as log
use Rattle.e3_types.specs.declared.scenarios.Scenario.{Scenario}
use Rattle.e3_world.specs.Given.{IsGiven}
use Rattle.e3_world.specs.Legal.{IsLegal}
use Rattle.e3_world.specs.Lives.{life_at}
use Rattle.e3_world.specs.Logs.{logged_inc, logged_inc_by}
use Rattle.e3_world.specs.Moves.{Move, Did, Stepped, Silent, Rose, birth, log_by, log_of, moves_at, moves_of, recorded, rise_records, trail_of}
use Rattle.e3_world.specs.Orderly.{weights_in, IsOrderly, MayFollow, OrderlyAfter}
use Rattle.e3_world.specs.Sound.{IsSound, IsSoundMove, SoundAfter}
use Rattle.e3_world.proofs.Pushes.{life_log_at, log_push}
use Rattle.e3_world.proofs.Trails.{trail_moves}
use Rattle.e3_world.specs.Brief.{txns_of}
use Rattle.e3_laws.specs.serial.Orderly.{LogsAreOrderly}
use Rattle.e3_laws.proofs.agreement.Refinement.Following.{moves_here, moves_there}
use Rattle.e3_laws.proofs.serial.Site.Sites.{AllKeep, SiteKeeps, all_keep, move_keeps}
use Rattle.e3_laws.proofs.serial.Told.Whole.{all_stand}
use Rattle.e3_laws.specs.steps.Trails.{TrailsAreSound}
use Rattle.e3_world.specs.Transactions.{IsFoundByBits}
use Rattle.e3_site.specs.TableBrief.{IsInOrder}
use Rattle.e3_site.proofs.Fronts.{rest_weights}
use Rattle.e3_laws.proofs.brief.Sets.{txns_known}

-- a log that is not empty begins with the site's birth and an incarnation
abbrev Begun : Scenario → ℕ → List Record → Type 0
Begun sc site l = (l ≡ []) ⊎ ((inc : ℕ) × (rest : List Record) × (l ≡ birth sc site ∷ log.Inc inc ∷ rest) × (1 ≤ inc))

begun_more : (sc : Scenario) (site : ℕ) (l rs : List Record) → Begun sc site l → l ≢ [] → Begun sc site (l ++ rs)
begun_more sc site l rs (inl none) some = absurd (some none)
begun_more sc site l rs (inr b) some = inr (b.0, b.1 ++ rs, ap (λ (x : List Record). x ++ rs) b.2, b.3)

begun_rise : (sc : Scenario) (site inc : ℕ) (l : List Record) → Begun sc site l → inc ≡ suc (logged_inc l) → Begun sc site (l ++ rise_records sc site inc l)
begun_rise sc site inc l (inl none) next = inr (inc, [], ap (λ (x : List Record). x ++ rise_records sc site inc x) none, omega (arith, next))
begun_rise sc site inc l (inr b) next = begun_more sc site l (rise_records sc site inc l) (inr b) (λ none. let e : birth sc site ∷ log.Inc b.0 ∷ b.1 ≡ [] = sym b.2 ∙ none in absurd cc)

begun_move : (sc : Scenario) (before : List Move) (m : Move) → IsSoundMove sc before m → SiteKeeps sc m.site (moves_at m.site before) → Begun sc m.site (log_by (moves_at m.site before))
    → Begun sc m.site (log_by (moves_at m.site before ++ m ∷ []))
begun_move sc before m sound keep was = subst (λ (l : List Record). Begun sc m.site l) (sym (log_push (moves_at m.site before) m)) (by m.did refl sound)
  where
    l : List Record
    l = log_by (moves_at m.site before)

    Ends : List Record → Type 0
    Ends rs = Begun sc m.site (l ++ rs)

    by : (d : Did) → m.did ≡ d → IsSoundMove sc before (record { site = m.site; did = d }) → Begun sc m.site (l ++ recorded m)
    by (Stepped s) is h = begun_more sc m.site l (recorded m) was (keep.risen h.risen)
    by (Silent [] rs) is h = subst Ends (sym (ap (λ (d : Did). recorded (record { site = m.site; did = d })) is ∙ h.1.made)) (begun_rise sc m.site h.0 l was h.1.next)
    by (Silent (i ∷ inputs) rs) is h = begun_more sc m.site l (recorded m) was (keep.risen h.risen)
    by (Rose inc rs) is h = subst Ends (sym (ap (λ (d : Did). recorded (record { site = m.site; did = d })) is ∙ h.made)) (begun_rise sc m.site inc l was h.next)

begun_after : (sc : Scenario) (rest before : List Move) → SoundAfter sc before rest → AllKeep sc before → ((site : ℕ) → Begun sc site (log_by (moves_at site before)))
    → (site : ℕ) → Begun sc site (log_by (moves_at site (before ++ rest)))
begun_after sc [] before sound keep was = λ site. subst (λ (l : List Move). Begun sc site (log_by (moves_at site l))) (sym (append-nil before)) (was site)
begun_after sc (m ∷ rest) before sound keep was = λ site.
    subst (λ (l : List Move). Begun sc site (log_by (moves_at site l))) (append_assoc before (m ∷ []) rest)
    (begun_after sc rest (before ++ m ∷ []) sound.1 (move_keeps sc before m sound.0 keep) (λ s. by s (m.site == s) refl) site)
  where
    by : (s : ℕ) (b : Bool) → (m.site == s) ≡ b → Begun sc s (log_by (moves_at s (before ++ m ∷ [])))
    by s true e = subst (λ (x : ℕ). Begun sc x (log_by (moves_at x (before ++ m ∷ [])))) (eqb-true m.site s e)
        (subst (λ (l : List Move). Begun sc m.site (log_by l)) (sym (moves_here before m)) (begun_move sc before m sound.0 (keep m.site) (was m.site)))
    by s false e = subst (λ (l : List Move). Begun sc s (log_by l)) (sym (moves_there s before m (λ q. true≢false (sym (eq-eqb m.site s (sym q)) ∙ e)))) (was s)

-- the incarnation stays begun
inc_stays : (site : ℕ) (before : List Record) (r : Record) → MayFollow site before r → 1 ≤ logged_inc before → 1 ≤ logged_inc (before ++ r ∷ [])
inc_stays site before (log.Birth format number weights rows) may some = absurd (let none : logged_inc before ≡ 0 = ap logged_inc may.first in omega (arith, some, none))
inc_stays site before (log.Inc n) may some = let e : logged_inc (before ++ log.Inc n ∷ []) ≡ n = fold-append logged_inc_by 0 before (log.Inc n ∷ []) in omega (arith, e, may.next some)
inc_stays site before (log.Vote u ops) may some = let e : logged_inc (before ++ log.Vote u ops ∷ []) ≡ logged_inc before = fold-append logged_inc_by 0 before (log.Vote u ops ∷ []) in omega (arith, e, some)
inc_stays site before (log.Join u n) may some = let e : logged_inc (before ++ log.Join u n ∷ []) ≡ logged_inc before = fold-append logged_inc_by 0 before (log.Join u n ∷ []) in omega (arith, e, some)
inc_stays site before (log.Attempt u n dir) may some = let e : logged_inc (before ++ log.Attempt u n dir ∷ []) ≡ logged_inc before = fold-append logged_inc_by 0 before (log.Attempt u n dir ∷ []) in omega (arith, e, some)
inc_stays site before (log.Decision u dir) may some = let e : logged_inc (before ++ log.Decision u dir ∷ []) ≡ logged_inc before = fold-append logged_inc_by 0 before (log.Decision u dir ∷ []) in omega (arith, e, some)

incs_stay : (site : ℕ) (before rest : List Record) → OrderlyAfter site before rest → 1 ≤ logged_inc before → 1 ≤ logged_inc (before ++ rest)
incs_stay site before [] orderly some = subst (λ (l : List Record). 1 ≤ logged_inc l) (sym (append-nil before)) some
incs_stay site before (r ∷ rest) orderly some =
    subst (λ (l : List Record). 1 ≤ logged_inc l) (append_assoc before (r ∷ []) rest) (incs_stay site (before ++ r ∷ []) rest orderly.1 (inc_stays site before r orderly.0 some))

-- so an orderly log that is begun has an incarnation and the scenario's weights
record HasBegun (sc : Scenario) (l : List Record) : Type 0 where
  weights_are : l ≢ [] → weights_in l ≡ sc.weights
  begun : logged_inc l ≡ 0 → l ≡ []

has_begun : (sc : Scenario) (site : ℕ) (l : List Record) → IsOrderly site l → Begun sc site l → HasBegun sc l
has_begun sc site l orderly (inl none) = record { weights_are = λ some. absurd (some none); begun = λ zero. none }
has_begun sc site l orderly (inr b) = subst (λ (x : List Record). HasBegun sc x) (sym b.2) (record {
  weights_are = λ some. rest_weights site (birth sc site ∷ []) (log.Inc b.0 ∷ b.1) (λ e. absurd cc) ordered.1;
  begun = λ zero. absurd (let low = incs_stay site (birth sc site ∷ log.Inc b.0 ∷ []) b.1 ordered.1.1 b.3 in omega (arith, low, zero));
})
  where
    ordered : IsOrderly site (birth sc site ∷ log.Inc b.0 ∷ b.1)
    ordered = subst (λ (x : List Record). IsOrderly site x) b.2 orderly

pub in_order : TrailsAreSound → LogsAreOrderly → (sc : Scenario) (h : List Entry) (site : ℕ) → IsGiven sc → IsLegal sc h → IsInOrder sc.weights site (life_at (moves_of sc h site))
in_order sounds logs sc h site given legal =
    let mine : List Move = moves_of sc h site in
    let trail : List Move = trail_of sc h in
    let sound : IsSound sc trail = sounds sc h given legal in
    let same : moves_at site trail ≡ mine = trail_moves sc site h in
    let log_is : (life_at mine).log ≡ log_of sc h site = life_log_at mine in
    let back : log_of sc h site ≡ (life_at mine).log = sym log_is in
    let orderly : IsOrderly site (log_of sc h site) = logs sc h site given legal in
    let begun : Begun sc site (log_of sc h site) =
    subst (λ (ms : List Move). Begun sc site (log_by ms)) same (begun_after sc trail [] sound (all_keep sc [] tt) (λ s. inl refl) site) in
    let has : HasBegun sc (life_at mine).log = subst (λ (l : List Record). HasBegun sc l) back (has_begun sc site (log_of sc h site) orderly begun) in
    record {
      orderly = subst (λ (l : List Record). IsOrderly site l) back orderly;
      weights_are = has.weights_are;
      inc_is = subst (λ (ms : List Move). (life_at ms).inc ≡ logged_inc (log_by ms)) same ((all_stand sc trail sound).stories site).clock ∙ ap logged_inc back;
      begun = has.begun;
      known = subst (λ (l : List Record). Each IsFoundByBits (txns_of l)) back (txns_known sc h site given legal);
    }
