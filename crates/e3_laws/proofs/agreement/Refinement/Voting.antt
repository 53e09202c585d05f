-- A commit stands behind every site's vote, in a trail whose moves are what their inputs make.
use Rattle.std.proofs.Common.{◌≡◌, ◌⊎◌, inl, inr, ◌∷◌, [], ◌++◌, ◌==◌, ℕ, Bool, true, false, List, map, refl, sym, ap, subst, ◌∙◌, arith, if◌then◌else◌, eqb-true, append-nil, append_assoc}
use Rattle.std.specs.Prelude.{Contains}
use Rattle.std.proofs.lemmas.Bool.{or_cases, cases_eq}
use Rattle.std.proofs.lemmas.List.Elements.{Contains-append_right}
use Rattle.std.proofs.lemmas.List.Concat.{flat_map-append}
use Rattle.e3_types.specs.declared.records.Record.{Record}
use Rattle.e3_types.specs.declared.records.Record.TheVariants as log
use Rattle.e3_types.specs.declared.scenarios.Scenario.{Scenario}
use Rattle.e3_types.specs.declared.transactions.Dir.TheVariants.{Commit}
use Rattle.e3_types.specs.declared.transactions.NumOp.{NumOp}
use Rattle.e3_types.specs.declared.transactions.Txn.{Txn}
use Rattle.e3_types.specs.Same.{same_txn}
use Rattle.e3_world.specs.Lives.{life_at}
use Rattle.e3_world.specs.Logs.{has_voted}
use Rattle.e3_world.specs.Moves.{Move, moves_at, recorded, log_by, Placed, all_records}
use Rattle.e3_world.specs.Safe.{AllVoted}
use Rattle.e3_world.proofs.Pushes.{life_log_at, log_push}
use Rattle.e3_laws.specs.agreement.Invariant.{Invariant}
use Rattle.e3_laws.specs.agreement.Logs.{IsIn, Decision}
use Rattle.e3_laws.specs.agreement.Marks.{Mark, log_of, situation_of}
use Rattle.e3_laws.specs.agreement.Weights.{party_of}
use Rattle.e3_laws.proofs.agreement.Protocol.Agree.{all_voted}
use Rattle.e3_laws.proofs.agreement.Protocol.Keep.{law}
use Rattle.e3_laws.proofs.agreement.Protocol.Shares.{majorities_overlap}
use Rattle.e3_laws.specs.agreement.Trails.{marks_of, IsMade, MadeAfter}
use Rattle.e3_laws.proofs.agreement.Refinement.Agreeing.{put}
use Rattle.e3_laws.proofs.agreement.Refinement.Following.{TrailOk, made_ok, in_from_contains, moves_here, moves_there}
use Rattle.e3_laws.proofs.agreement.Refinement.Lists.{in_left, in_right, same_from}
use Rattle.e3_laws.proofs.agreement.Refinement.Readings.{has_from_vote}
use Rattle.e3_laws.proofs.steps.Tests.{same_is}
use Rattle.e3_laws.proofs.agreement.Protocol.Reached.{in_parts}

pub contains_from_in : {X : Type 0} (xs : List X) (x : X) → IsIn x xs → Contains xs x
contains_from_in [] x k = absurd k
contains_from_in (y ∷ ys) x (inl e) = (0, omega arith, sym e)
contains_from_in (y ∷ ys) x (inr k) = Contains-append_right (y ∷ []) ys x (contains_from_in ys x k)

-- a vote that was read stands
vote_in : (t : Txn) (rs : List Record) → has_voted t rs ≡ true → (ops : List NumOp) × IsIn (log.Vote t ops) rs
vote_in t [] is = cc
vote_in t (log.Vote u ops ∷ rs) is = elim (or_cases (same_txn t u) (has_voted t rs) is) [
  | inl same ↦ (ops, inl (ap (λ v. log.Vote v ops) (same_is t u same)))
  | inr more ↦ (let k = vote_in t rs more in (k.0, inr k.1))
]
vote_in t (log.Join u n ∷ rs) is = let k = vote_in t rs is in (k.0, inr k.1)
vote_in t (log.Attempt u n d ∷ rs) is = let k = vote_in t rs is in (k.0, inr k.1)
vote_in t (log.Decision u d ∷ rs) is = let k = vote_in t rs is in (k.0, inr k.1)
vote_in t (log.Birth format site weights rows ∷ rs) is = let k = vote_in t rs is in (k.0, inr k.1)
vote_in t (log.Inc inc ∷ rs) is = let k = vote_in t rs is in (k.0, inr k.1)

pub in_map_put : (s : ℕ) (r : Record) (rs : List Record) → IsIn r rs → IsIn (put s r) (map (put s) rs)
in_map_put s r [] k = absurd k
in_map_put s r (q ∷ rs) (inl e) = inl (ap (put s) e)
in_map_put s r (q ∷ rs) (inr k) = inr (in_map_put s r rs k)

-- a record of a site's log is placed in the trail
pub placed_out : (trail : List Move) (s : ℕ) (r : Record) → IsIn r (log_by (moves_at s trail)) → IsIn (put s r) (all_records trail)
placed_out [] s r k = absurd k
placed_out (m ∷ trail) s r k = go (m.site == s) refl k (λ q. placed_out trail s r q)
  where
    go : (b : Bool) → (m.site == s) ≡ b → IsIn r (log_by (if b then m ∷ moves_at s trail else moves_at s trail)) → (IsIn r (log_by (moves_at s trail)) → IsIn (put s r) (all_records trail))
        → IsIn (put s r) (map (put m.site) (recorded m) ++ all_records trail)
    go false e q rest = in_right (put s r) (map (put m.site) (recorded m)) (all_records trail) (rest q)
    go true e q rest = here (in_parts r (recorded m) (log_by (moves_at s trail)) q)
      where
        here : IsIn r (recorded m) ⊎ IsIn r (log_by (moves_at s trail)) → IsIn (put s r) (map (put m.site) (recorded m) ++ all_records trail)
        here (inl a) = in_left (put s r) (map (put m.site) (recorded m)) (all_records trail) (subst (λ z. IsIn (put z r) (map (put m.site) (recorded m))) (eqb-true m.site s e) (in_map_put m.site r (recorded m) a))
        here (inr a) = in_right (put s r) (map (put m.site) (recorded m)) (all_records trail) (rest a)

made_front : (sc : Scenario) (before xs ys : List Move) → MadeAfter sc before (xs ++ ys) → MadeAfter sc before xs
made_front sc before [] ys made = tt
made_front sc before (m ∷ xs) ys made = (made.0, made_front sc (before ++ m ∷ []) xs ys made.1)

-- the votes before a commit: in earlier moves, or before it in its own
votes_at : (sc : Scenario) (t : Txn) (front : List Move) (m : Move) (before after : List Record) → TrailOk sc t (front ++ m ∷ []) (marks_of sc t (front ++ m ∷ []))
    → recorded m ≡ before ++ log.Decision t Commit ∷ after → (u : ℕ) → IsIn u t.sites → (ops : List NumOp) × IsIn (put u (log.Vote t ops)) (all_records front ++ map (put m.site) before)
votes_at sc t front m before after ok is u member = by (cases_eq u m.site)
  where
    marks : List Mark
    marks = marks_of sc t (front ++ m ∷ [])

    invariant : Invariant (party_of sc.weights t) (situation_of marks)
    invariant = law (party_of sc.weights t) (situation_of marks) (majorities_overlap sc.weights t) ok.reach

    logs : (life_at (moves_at m.site (front ++ m ∷ []))).log ≡ (log_by (moves_at m.site front) ++ before) ++ log.Decision t Commit ∷ after
    logs =
        life_log_at (moves_at m.site (front ++ m ∷ [])) ∙ ap log_by (moves_here front m) ∙ log_push (moves_at m.site front) m
        ∙ ap (λ z. log_by (moves_at m.site front) ++ z) is ∙ sym (append_assoc (log_by (moves_at m.site front)) before (log.Decision t Commit ∷ after))

    committed : IsIn (Decision Commit) (log_of m.site marks)
    committed = (ok.sites m.site).reads.keeps t Commit (same_from t t refl)
        (subst (λ z. IsIn (log.Decision t Commit) z) (sym logs) (in_right (log.Decision t Commit) (log_by (moves_at m.site front) ++ before) (log.Decision t Commit ∷ after) (inl refl)))

    vote : has_voted t (life_at (moves_at u (front ++ m ∷ []))).log ≡ true
    vote = (ok.sites u).reads.votes ∙ has_from_vote (log_of u marks) ((all_voted (party_of sc.weights t) (situation_of marks) invariant (invariant.reason m.site Commit committed)).0 u member)

    by : (u ≡ m.site) ⊎ (u ≡ m.site → ⊥) → (ops : List NumOp) × IsIn (put u (log.Vote t ops)) (all_records front ++ map (put m.site) before)
    by (inr other) =
        let entered : (life_at (moves_at u (front ++ m ∷ []))).log ≡ log_by (moves_at u front) = life_log_at (moves_at u (front ++ m ∷ [])) ∙ ap log_by (moves_there u front m other) in
        let k = vote_in t (log_by (moves_at u front)) (subst (λ z. has_voted t z ≡ true) entered vote) in
        (k.0, in_left (put u (log.Vote t k.0)) (all_records front) (map (put m.site) before) (placed_out front u (log.Vote t k.0) k.1))
    by (inl same) =
        let first : has_voted t (log_by (moves_at m.site front) ++ before) ≡ true =
        (ok.sites m.site).reads.commits t (log_by (moves_at m.site front) ++ before) after (same_from t t refl) logs (invariant.orderly m.site) in
        let k = vote_in t (log_by (moves_at m.site front) ++ before) first in (
          k.0,
          subst (λ z. IsIn (put z (log.Vote t k.0)) (all_records front ++ map (put m.site) before)) (sym same)
              (go (log.Vote t k.0) (in_parts (log.Vote t k.0) (log_by (moves_at m.site front)) before k.1)),
        )
      where
        go : (r : Record) → IsIn r (log_by (moves_at m.site front)) ⊎ IsIn r before → IsIn (put m.site r) (all_records front ++ map (put m.site) before)
        go r (inl a) = in_left (put m.site r) (all_records front) (map (put m.site) before) (placed_out front m.site r a)
        go r (inr a) = in_right (put m.site r) (all_records front) (map (put m.site) before) (in_map_put m.site r before a)

-- where an element stands in two lists
append_split : {X : Type 0} (xs ys before : List X) (x : X) (after : List X) → xs ++ ys ≡ before ++ x ∷ after
    → ((w : List X) × (xs ≡ before ++ x ∷ w)) ⊎ ((w : List X) × (before ≡ xs ++ w) × (ys ≡ w ++ x ∷ after))
append_split [] ys before x after is = inr (before, refl, is)
append_split (z ∷ xs) ys [] x after is = inl (xs, let q : z ≡ x = cc in ap (λ k. k ∷ xs) q)
append_split {X = X} (z ∷ xs) ys (b ∷ before) x after is = go (append_split xs ys before x after (let q : xs ++ ys ≡ before ++ x ∷ after = cc in q)) (let q : z ≡ b = cc in q)
  where
    go : ((w : List X) × (xs ≡ before ++ x ∷ w)) ⊎ ((w : List X) × (before ≡ xs ++ w) × (ys ≡ w ++ x ∷ after)) → z ≡ b
        → ((w : List X) × (z ∷ xs ≡ (b ∷ before) ++ x ∷ w)) ⊎ ((w : List X) × (b ∷ before ≡ (z ∷ xs) ++ w) × (ys ≡ w ++ x ∷ after))
    go (inl p) q = inl (p.0, ap (λ k. k ∷ xs) q ∙ ap (λ k. b ∷ k) p.1)
    go (inr p) q = inr (p.0, sym (ap (λ k. k ∷ xs ++ p.0) q ∙ ap (λ k. b ∷ k) (sym p.1)), p.2)

-- and in the records of a move
map_split : (s u : ℕ) (rs : List Record) (before : List Placed) (c : Record) (after : List Placed) → map (put s) rs ≡ before ++ put u c ∷ after
    → (first more : List Record) × (rs ≡ first ++ c ∷ more) × (before ≡ map (put s) first) × (s ≡ u)
map_split s u [] [] c after is = cc
map_split s u [] (b ∷ before) c after is = cc
map_split s u (r ∷ rs) [] c after is =
    let head : put s r ≡ put u c = cc in
    ([], rs, ap (λ z. z ∷ rs) (ap (λ (p : Placed). p.entered) head), refl, ap (λ (p : Placed). p.site) head)
map_split s u (r ∷ rs) (b ∷ before) c after is =
    let head : put s r ≡ b = cc in
    let rest : map (put s) rs ≡ before ++ put u c ∷ after = cc in
    let t = map_split s u rs before c after rest in
    (r ∷ t.0, t.1, ap (λ z. r ∷ z) t.2, ap (λ z. z ∷ before) (sym head) ∙ ap (λ z. put s r ∷ z) t.3, t.4)

voted_in : (sc : Scenario) (t : Txn) (s : ℕ) (front rest : List Move) (before after : List Placed) → IsMade sc (front ++ rest) → all_records rest ≡ before ++ put s (log.Decision t Commit) ∷ after
    → (u : ℕ) → IsIn u t.sites → (ops : List NumOp) × IsIn (put u (log.Vote t ops)) (all_records front ++ before)
voted_in sc t s front [] [] after made is u member = cc
voted_in sc t s front [] (b ∷ before) after made is u member = cc
voted_in sc t s front (m ∷ rest) before after made is u member =
    go (append_split (map (put m.site) (recorded m)) (all_records rest) before (put s (log.Decision t Commit)) after is)
    (λ w more. voted_in sc t s (front ++ m ∷ []) rest w after (subst (IsMade sc) (sym (append_assoc front (m ∷ []) rest)) made) more u member)
  where
    Here : List Placed → Type 0
    Here b = (ops : List NumOp) × IsIn (put u (log.Vote t ops)) (all_records front ++ b)

    go : ((w : List Placed) × (map (put m.site) (recorded m) ≡ before ++ put s (log.Decision t Commit) ∷ w))
        ⊎ ((w : List Placed) × (before ≡ map (put m.site) (recorded m) ++ w) × (all_records rest ≡ w ++ put s (log.Decision t Commit) ∷ after))
        → ((w : List Placed) → all_records rest ≡ w ++ put s (log.Decision t Commit) ∷ after → (ops : List NumOp) × IsIn (put u (log.Vote t ops)) (all_records (front ++ m ∷ []) ++ w))
        → (ops : List NumOp) × IsIn (put u (log.Vote t ops)) (all_records front ++ before)
    go (inl p) later =
        let k = map_split m.site s (recorded m) before (log.Decision t Commit) p.0 p.1 in
        let ok : TrailOk sc t (front ++ m ∷ []) (marks_of sc t (front ++ m ∷ [])) = made_ok sc t (front ++ m ∷ []) (made_front sc [] (front ++ m ∷ []) rest (subst (IsMade sc) (sym (append_assoc front (m ∷ []) rest)) made)) in
        let v = votes_at sc t front m k.0 k.1 ok k.2 u member in
        (v.0, subst (λ z. IsIn (put u (log.Vote t v.0)) (all_records front ++ z)) (sym k.3) v.1)
    go (inr p) later =
        let v = later p.0 p.2 in
        let all : all_records (front ++ m ∷ []) ++ p.0 ≡ all_records front ++ before =
        ap (λ z. z ++ p.0) (flat_map-append (λ (k : Move). map (put k.site) (recorded k)) front (m ∷ []) ∙ ap (λ z. all_records front ++ z) (append-nil (map (put m.site) (recorded m))))
        ∙ append_assoc (all_records front) (map (put m.site) (recorded m)) p.0 ∙ ap (λ z. all_records front ++ z) (sym p.1) in
        (v.0, subst (λ z. IsIn (put u (log.Vote t v.0)) z) all v.1)

pub made_voted : (sc : Scenario) (trail : List Move) → IsMade sc trail → AllVoted trail
made_voted sc trail made s t before after is u member =
    let v = voted_in sc t s [] trail before after made is u (in_from_contains t.sites u member) in
    (v.0, contains_from_in before (put u (log.Vote t v.0)) v.1)
