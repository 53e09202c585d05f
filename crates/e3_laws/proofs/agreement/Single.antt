-- A site reports at most once for a number, since it joins the number in the same step.
use Rattle.std.proofs.Common.{◌≡◌, ◌⊎◌, inl, inr, ◌∷◌, [], ◌++◌, ◌==◌, ◌&&◌, ◌+◌, ◌≤◌, ◌<◌, ℕ, true, false, List, map, refl, sym, ap, subst, ◌∙◌, arith, count_by, append-nil, append_assoc, eqb-true, eq-eqb}
use Rattle.std.specs.List.{flat_map}
use Rattle.std.proofs.lemmas.Bool.{cases_eq, false_from_ne_true}
use Rattle.e3_types.specs.declared.entries.Entry.{Entry}
use Rattle.e3_types.specs.declared.messages.Packet.{Packet}
use Rattle.e3_types.specs.declared.records.Record.{Record}
use Rattle.e3_types.specs.declared.records.Record.TheVariants as log
use Rattle.e3_types.specs.declared.scenarios.Scenario.{Scenario}
use Rattle.e3_types.specs.declared.transactions.Txn.{Txn}
use Rattle.e3_world.specs.declared.lives.Made.{Made}
use Rattle.e3_world.specs.Given.{IsGiven}
use Rattle.e3_world.specs.Legal.{IsLegal}
use Rattle.e3_world.specs.Lives.{incarnation_of}
use Rattle.e3_world.specs.Logs.{last_elected}
use Rattle.e3_world.specs.Moves.{Did, Stepped, Silent, Rose, Move, moves_at, recorded, log_by, unnumbered, trail_of}
use Rattle.e3_world.specs.Packets.{sent}
use Rattle.e3_world.specs.Sound.{sends, step_move}
use Rattle.e3_world.specs.Steps.{step_of}
use Rattle.e3_world.proofs.Pushes.{log_push}
use Rattle.e3_world.proofs.Sending.{trail_sends}
use Rattle.e3_laws.specs.agreement.Logs.{IsIn, Orderly}
use Rattle.e3_laws.specs.agreement.Marks.{log_of, situation_of}
use Rattle.e3_laws.specs.agreement.Weights.{party_of}
use Rattle.e3_laws.proofs.agreement.Protocol.Keep.{law}
use Rattle.e3_laws.proofs.agreement.Protocol.Logs.{join_bound}
use Rattle.e3_laws.proofs.agreement.Protocol.Shares.{majorities_overlap}
use Rattle.e3_laws.specs.agreement.Trails.{marks_of, IsMadeMove, MadeAfter, IsMade}
use Rattle.e3_laws.proofs.agreement.Refinement.Following.{made_ok, moves_here, moves_there, sends_with}
use Rattle.e3_laws.proofs.agreement.Refinement.Lists.{in_left, in_right}
use Rattle.e3_laws.specs.agreement.Facts.{reports_in, reports_of}
use Rattle.e3_laws.proofs.agreement.Erasing.{face, faces, orderly_erased}
use Rattle.e3_laws.proofs.agreement.Facing.{join_to, join_fits, reads_face, split_at}
use Rattle.e3_laws.proofs.agreement.Fitting.{given_fit}
use Rattle.e3_laws.proofs.agreement.Histories.{made_append, legal_made}
use Rattle.e3_laws.proofs.agreement.Saying.{one_if, ReportsOnce, count_cons, count_append}
use Rattle.e3_laws.proofs.agreement.Telling.{made_lives_tell, step_tells, sends_own}

-- the records of a site in such a trail are in order
pub made_orderly : (sc : Scenario) (t : Txn) (x : ℕ) (trail : List Move) → IsMade sc trail → Orderly (face t (log_by (moves_at x trail)))
made_orderly sc t x trail made =
    let kept = law (party_of sc.weights t) (situation_of (marks_of sc t trail)) (majorities_overlap sc.weights t) (made_ok sc t trail made).reach in
    subst Orderly (faces sc t x trail made) (orderly_erased (log_of x (marks_of sc t trail)) (kept.orderly x))

-- no number is joined twice
joins_once : (t : Txn) (n : ℕ) (xs ys : List Record) → Orderly (face t (xs ++ ys)) → IsIn (log.Join t n) xs → IsIn (log.Join t n) ys → ⊥
joins_once t n xs ys o k j =
    let at = split_at (log.Join t n) ys j in
    let front : List Record = xs ++ at.0 in
    let whole : xs ++ ys ≡ front ++ log.Join t n ∷ at.1 = ap (λ z. xs ++ z) at.2 ∙ sym (append_assoc xs at.0 (log.Join t n ∷ at.1)) in
    let rises : last_elected t front < n = join_fits t (xs ++ ys) front n at.1 o whole in
    let most = join_bound n 0 (face t front) (join_to t n front (in_left (log.Join t n) xs at.0 k)) in
    omega (arith, rises, most, (reads_face t front).elects)

-- what the site has sent and joined
abbrev SentOnce : Txn → ℕ → ℕ → List Packet → List Record → Type 0
SentOnce t s n outs records = (count_by (reports_of s t n) outs ≡ 0) ⊎ ((count_by (reports_of s t n) outs ≡ 1) × IsIn (log.Join t n) records)

count_more : (s : ℕ) (t : Txn) (n : ℕ) (xs ys : List Packet) → count_by (reports_of s t n) (xs ++ ys) ≡ count_by (reports_of s t n) xs + count_by (reports_of s t n) ys
count_more s t n xs ys = count_append (reports_of s t n) xs ys

-- the packets of a site, without their numbers
count_own : (x : ℕ) (t : Txn) (n : ℕ) (ps : List Packet) → ((p : Packet) → IsIn p ps → p.«from» ≡ x) → count_by (reports_of x t n) (map unnumbered ps) ≡ count_by (reports_in t n) ps
count_own x t n [] own = refl
count_own x t n (p ∷ ps) own =
    let rest : count_by (reports_of x t n) (map unnumbered ps) ≡ count_by (reports_in t n) ps = count_own x t n ps (λ q k. own q (inr k)) in
    let here : (p.«from» == x) ≡ true = eq-eqb p.«from» x (own p (inl refl)) in
    let same : one_if (p.«from» == x && reports_in t n p) ≡ one_if (reports_in t n p) = ap (λ b. one_if (b && reports_in t n p)) here in
    count_cons (reports_of x t n) (unnumbered p) (map unnumbered ps) ∙ omega (arith, rest, same) ∙ sym (count_cons (reports_in t n) p ps)

-- another site has no part in them
count_other : (s x : ℕ) (t : Txn) (n : ℕ) (ps : List Packet) → (s ≡ x → ⊥) → ((p : Packet) → IsIn p ps → p.«from» ≡ x) → count_by (reports_of s t n) (map unnumbered ps) ≡ 0
count_other s x t n [] other own = refl
count_other s x t n (p ∷ ps) other own =
    let rest : count_by (reports_of s t n) (map unnumbered ps) ≡ 0 = count_other s x t n ps other (λ q k. own q (inr k)) in
    let there : (p.«from» == s) ≡ false = false_from_ne_true (p.«from» == s) (λ q. other (sym (eqb-true p.«from» s q) ∙ own p (inl refl))) in
    let none : one_if (p.«from» == s && reports_in t n p) ≡ 0 = ap (λ b. one_if (b && reports_in t n p)) there in
    count_cons (reports_of s t n) (unnumbered p) (map unnumbered ps) ∙ omega (arith, rest, none)

-- packets more that are none, and records more
quiet_more : (t : Txn) (s n : ℕ) (outs more : List Packet) (records rest : List Record) → count_by (reports_of s t n) more ≡ 0 → SentOnce t s n outs records → SentOnce t s n (outs ++ more) (records ++ rest)
quiet_more t s n outs more records rest none (inl was) = inl (count_more s t n outs more ∙ omega (arith, none, was))
quiet_more t s n outs more records rest none (inr was) = inr (count_more s t n outs more ∙ omega (arith, none, was.0), in_left (log.Join t n) records rest was.1)

-- a step of the site
step_once : (t : Txn) (x n : ℕ) (outs : List Packet) (records : List Record) (made : Made) → Orderly (face t (records ++ made.records)) → ((p : Packet) → IsIn p made.outs → p.«from» ≡ x)
    → ReportsOnce t n made.outs made.records → SentOnce t x n outs records → SentOnce t x n (outs ++ map unnumbered made.outs) (records ++ made.records)
step_once t x n outs records made o own (inl none) was = quiet_more t x n outs (map unnumbered made.outs) records made.records (count_own x t n made.outs own ∙ none) was
step_once t x n outs records made o own (inr one) (inl was) =
    inr (count_more x t n outs (map unnumbered made.outs) ∙ omega (arith, was, count_own x t n made.outs own, one.0), in_right (log.Join t n) records made.records one.1)
step_once t x n outs records made o own (inr one) (inr was) = absurd (joins_once t n records made.records o was.1 one.1)

-- along a trail
abbrev TrailOnce : List Move → Type 0
TrailOnce before = (t : Txn) (s n : ℕ) → SentOnce t s n (flat_map sends before) (log_by (moves_at s before))

-- a move of one site
move_once : (sc : Scenario) (before : List Move) (x : ℕ) (d : Did) → IsMade sc before → IsMadeMove sc before (record { site = x; did = d }) → TrailOnce before → (t : Txn) (n : ℕ)
    → SentOnce t x n (flat_map sends before ++ sends (record { site = x; did = d })) (log_by (moves_at x before) ++ recorded (record { site = x; did = d }))
move_once sc before x (Stepped s) made now once t n =
    subst (λ (m : Move). SentOnce t x n (flat_map sends before ++ sends m) (log_by (moves_at x before) ++ recorded m)) (sym now.made)
    (step_once t x n (flat_map sends before) (log_by (moves_at x before)) (step_of sc.weights x (incarnation_of (moves_at x before)) s.input) ordered
    (sends_own sc before x s.input made now.takes now.was_sent t)
    ((step_tells sc before x s.input made now.takes now.was_sent (made_lives_tell sc before made x)).once t n) (once t x n))
  where
    m : Move
    m = step_move sc x (moves_at x before) s.input

    ordered : Orderly (face t (log_by (moves_at x before) ++ recorded m))
    ordered =
        let later : IsMade sc (before ++ m ∷ []) = made_append sc [] before (m ∷ []) made (subst (λ (k : Move). IsMadeMove sc before k) now.made now, tt) in
        subst (λ z. Orderly (face t z)) (ap log_by (moves_here before m) ∙ log_push (moves_at x before) m) (made_orderly sc t x (before ++ m ∷ []) later)
move_once sc before x (Silent inputs records) made now once t n = quiet_more t x n (flat_map sends before) [] (log_by (moves_at x before)) records refl (once t x n)
move_once sc before x (Rose inc records) made now once t n = quiet_more t x n (flat_map sends before) [] (log_by (moves_at x before)) records refl (once t x n)

-- another site's
move_other : (sc : Scenario) (before : List Move) (x : ℕ) (d : Did) → IsMade sc before → IsMadeMove sc before (record { site = x; did = d }) → (t : Txn) (s n : ℕ) → (s ≡ x → ⊥)
    → count_by (reports_of s t n) (sends (record { site = x; did = d })) ≡ 0
move_other sc before x (Stepped k) made now t s n other =
    subst (λ (m : Move). count_by (reports_of s t n) (sends m) ≡ 0) (sym now.made)
    (count_other s x t n (step_of sc.weights x (incarnation_of (moves_at x before)) k.input).outs other (sends_own sc before x k.input made now.takes now.was_sent t))
move_other sc before x (Silent inputs records) made now t s n other = refl
move_other sc before x (Rose inc records) made now t s n other = refl

trail_once : (sc : Scenario) (before rest : List Move) → IsMade sc before → MadeAfter sc before rest → TrailOnce before → TrailOnce (before ++ rest)
trail_once sc before [] made more once = subst TrailOnce (sym (append-nil before)) once
trail_once sc before (m ∷ rest) made more once =
    subst TrailOnce (append_assoc before (m ∷ []) rest)
    (trail_once sc (before ++ m ∷ []) rest (made_append sc [] before (m ∷ []) made (more.0, tt)) more.1 (λ t s n. now t s n (cases_eq s m.site)))
  where
    out : flat_map sends (before ++ m ∷ []) ≡ flat_map sends before ++ sends m
    out = sends_with before m

    now : (t : Txn) (s n : ℕ) → (s ≡ m.site) ⊎ (s ≡ m.site → ⊥) → SentOnce t s n (flat_map sends (before ++ m ∷ [])) (log_by (moves_at s (before ++ m ∷ [])))
    now t s n (inl same) =
        subst (λ z. SentOnce t z n (flat_map sends (before ++ m ∷ [])) (log_by (moves_at z (before ++ m ∷ [])))) (sym same)
        (subst (λ z. SentOnce t m.site n (flat_map sends (before ++ m ∷ [])) z) (sym (ap log_by (moves_here before m) ∙ log_push (moves_at m.site before) m))
        (subst (λ z. SentOnce t m.site n z (log_by (moves_at m.site before) ++ recorded m)) (sym out) (move_once sc before m.site m.did made more.0 once t n)))
    now t s n (inr other) =
        subst (λ z. SentOnce t s n (flat_map sends (before ++ m ∷ [])) (log_by z)) (sym (moves_there s before m other))
        (subst (λ z. SentOnce t s n z (log_by (moves_at s before))) (sym out)
        (subst (λ z. SentOnce t s n (flat_map sends before ++ sends m) z) (append-nil (log_by (moves_at s before)))
        (quiet_more t s n (flat_map sends before) (sends m) (log_by (moves_at s before)) [] (move_other sc before m.site m.did made more.0 t s n other) (once t s n))))

-- numbers of packets do not matter
count_unnumbered : (s : ℕ) (t : Txn) (n : ℕ) (ps : List Packet) → count_by (reports_of s t n) (map unnumbered ps) ≡ count_by (reports_of s t n) ps
count_unnumbered s t n [] = refl
count_unnumbered s t n (p ∷ ps) = count_cons (reports_of s t n) (unnumbered p) (map unnumbered ps) ∙ ap (λ k. one_if (reports_of s t n p) + k) (count_unnumbered s t n ps) ∙ sym (count_cons (reports_of s t n) p ps)

-- a site of a legal history reports at most once for a number
pub reports_once : (sc : Scenario) (h : List Entry) (t : Txn) (s n : ℕ) → IsGiven sc → IsLegal sc h → count_by (reports_of s t n) (sent h) ≤ 1
reports_once sc h t s n given legal = by (trail_once sc [] (trail_of sc h) tt made (λ u x k. inl refl) t s n)
  where
    made : IsMade sc (trail_of sc h)
    made = legal_made sc h legal (given_fit sc h given legal)

    same : count_by (reports_of s t n) (flat_map sends (trail_of sc h)) ≡ count_by (reports_of s t n) (sent h)
    same = ap (count_by (reports_of s t n)) (trail_sends sc h) ∙ count_unnumbered s t n (sent h)

    by : SentOnce t s n (flat_map sends (trail_of sc h)) (log_by (moves_at s (trail_of sc h))) → count_by (reports_of s t n) (sent h) ≤ 1
    by (inl none) = omega (arith, sym same, none)
    by (inr one) = omega (arith, sym same, one.0)
