-- The three stages of a commit round: votes come; the coordinator has attempted; it has decided. What each site stands at.
use Rattle.std.proofs.Common.{◌≡◌, ◌⊎◌, ◌==◌, ◌&&◌, ◌||◌, ◌+◌, ◌*◌, ◌≤◌, ◌∷◌, ◌++◌, [], ℕ, Bool, true, false, List, Option, Some, None, refl, ap, sym, subst, ◌∙◌, length, inl, inr, fold}
use Rattle.std.specs.List.{list_all, list_any}
use Rattle.std.proofs.lemmas.Grind.{fold-append}
use Rattle.e3_types.specs.declared.entries.Entry.{Entry}
use Rattle.e3_types.specs.declared.entries.Input.{Input}
use Rattle.e3_types.specs.declared.entries.Input.TheVariants as input
use Rattle.e3_types.specs.declared.messages.Packet.{Packet}
use Rattle.e3_types.specs.declared.scenarios.Scenario.{Scenario}
use Rattle.e3_types.specs.declared.transactions.Dir.{Dir}
use Rattle.e3_types.specs.declared.transactions.Dir.TheVariants.{Commit}
use Rattle.e3_types.specs.declared.transactions.Txn.{Txn}
use Rattle.e3_types.specs.Quorums.{is_quorum}
use Rattle.e3_types.specs.Sets.{has_site, is_within}
use Rattle.e3_world.specs.Gatherings.{Round, Rounds}
use Rattle.e3_world.specs.declared.lives.Expected.{Expected}
use Rattle.e3_world.specs.declared.lives.Life.{Life}
use Rattle.e3_world.specs.declared.lives.Made.{Made}
use Rattle.e3_world.specs.declared.lives.Moment.{Moment}
use Rattle.e3_world.specs.Given.{IsGiven}
use Rattle.e3_world.specs.Items.{is_up_at}
use Rattle.e3_world.specs.Legal.{IsLegal, entry_of, made_by}
use Rattle.e3_world.specs.Lives.{life_at}
use Rattle.e3_world.specs.Logs.{decision, is_undecided, last_attempt}
use Rattle.e3_world.specs.Moves.{log_by, log_of, moves_of, unnumbered_input}
use Rattle.e3_world.specs.Operations.{done}
use Rattle.e3_world.specs.Packets.{pending}
use Rattle.e3_world.specs.Rounds.{round_by, round_in_progress}
use Rattle.e3_world.specs.Votes.{yes_by, yes_votes}
use Rattle.e3_net.specs.Stands.{waiting_of}
use Rattle.e3_laws.proofs.rounds.Deliveries.Gathering.{life_on, moment_of}
use Rattle.e3_laws.proofs.steps.Moving.{moves_still}
use Rattle.e3_laws.specs.rounds.Queues.{IsCounted}
use Rattle.e3_laws.proofs.rounds.Commits.Beside.{Still, brings_none, done_push}
use Rattle.e3_laws.proofs.rounds.Commits.Effects.{Stepped}
use Rattle.e3_laws.proofs.rounds.Commits.Logs.{Says, decided_still, says_still}
use Rattle.e3_laws.proofs.rounds.Commits.Packets.{load}
use Rattle.e3_laws.proofs.rounds.Commits.Rows.{Foreign}
use Rattle.e3_laws.proofs.rounds.Commits.Shapes.{acks, asks, ends, is_shaped, prepares, rest_of, votes, weight_of}

-- the site has done what is expected of it
abbrev pub Ready : Scenario → List Entry → Txn → ℕ → Expected → Type 0
Ready sc h t y e = by (life_at (moves_of sc h y))
  where
    by : Life → Type 0
    by life = ((e.count == length (done y t life.steps)) && (e.count == 0 || e.inc == life.inc)) ≡ true

abbrev pub Pends : Scenario → List Entry → (Packet → Bool) → Type 0
Pends sc h P = list_any P (pending sc h) ≡ true

-- it has not voted, and is asked
pub record Fresh (sc : Scenario) (t : Txn) (wants : ℕ → Expected) (h : List Entry) (y : ℕ) : Type 0 where
  pub says : Says t (log_of sc h y) None None false
  pub ready : Ready sc h t y (wants y)
  pub asked : Pends sc h (asks t y)

-- it has voted, and has not decided
abbrev pub Voted : Scenario → Txn → List Entry → ℕ → Type 0
Voted sc t h y = (a : Option Dir) × Says t (log_of sc h y) None a true

abbrev pub Committed : Scenario → Txn → List Entry → ℕ → Type 0
Committed sc t h y = decision t (log_of sc h y) ≡ Some Commit

abbrev pub First : Scenario → Txn → (ℕ → Expected) → List Entry → List ℕ → ℕ → Type 0
First sc t wants h came y = Fresh sc t wants h y ⊎ (Voted sc t h y × (Pends sc h (votes t y) ⊎ (has_site came y ≡ true)))

abbrev pub Second : Scenario → Txn → List Entry → List ℕ → ℕ → Type 0
Second sc t h acked y = Voted sc t h y × (Pends sc h (prepares t y) ⊎ (Pends sc h (acks t y) ⊎ (has_site acked y ≡ true)))

abbrev pub Third : Scenario → Txn → List Entry → ℕ → Type 0
Third sc t h y = (Voted sc t h y × Pends sc h (ends t y)) ⊎ Committed sc t h y

-- the coordinator
abbrev pub steps_at : Scenario → List Entry → ℕ → List Moment
steps_at sc h s = (life_at (moves_of sc h s)).steps

pub record Gathers (sc : Scenario) (t : Txn) (h : List Entry) (came : List ℕ) : Type 0 where
  pub says : Says t (log_of sc h t.site) None None true
  pub untried : last_attempt t (log_of sc h t.site) ≡ 0
  pub gathered : yes_votes t (steps_at sc h t.site) ≡ Some came
  pub few : is_within (rest_of t) came ≡ false

pub record Tries (sc : Scenario) (t : Txn) (h : List Entry) (r : Round) : Type 0 where
  pub says : Says t (log_of sc h t.site) None (Some Commit) true
  pub gathers : round_in_progress t.site t (steps_at sc h t.site) ≡ Some r
  pub first : r.n ≡ 1
  pub commits : r.dir ≡ Commit
  pub to : r.to ≡ rest_of t
  pub few : is_quorum sc.weights (t.site ∷ r.acked) t.sites ≡ false

-- so many entries so far, with what is pending and what is to come
abbrev pub bound : Txn → ℕ
bound t = 1 + 5 * length (rest_of t)

abbrev pub weight : Scenario → Txn → List Entry → ℕ
weight sc t h = load (weight_of t) (waiting_of sc h)

abbrev pub Shaped : Scenario → Txn → (ℕ → Expected) → List Entry → ℕ → Type 0
Shaped sc t wants h k = list_all (is_shaped t wants k) (pending sc h) ≡ true

pub record StageOne (sc : Scenario) (t : Txn) (wants : ℕ → Expected) (h : List Entry) (n : ℕ) : Type 0 where
  pub came : List ℕ
  pub leads : Gathers sc t h came
  pub each : (y : ℕ) → has_site (rest_of t) y ≡ true → First sc t wants h came y
  pub shaped : Shaped sc t wants h 1
  pub few : n + weight sc t h + 3 * length (rest_of t) ≤ bound t

pub record StageTwo (sc : Scenario) (t : Txn) (wants : ℕ → Expected) (h : List Entry) (n : ℕ) : Type 0 where
  pub round : Round
  pub leads : Tries sc t h round
  pub each : (y : ℕ) → has_site (rest_of t) y ≡ true → Second sc t h round.acked y
  pub shaped : Shaped sc t wants h 2
  pub few : n + weight sc t h + length (rest_of t) ≤ bound t

pub record StageThree (sc : Scenario) (t : Txn) (wants : ℕ → Expected) (h : List Entry) (n : ℕ) : Type 0 where
  pub leads : Committed sc t h t.site
  pub each : (y : ℕ) → has_site (rest_of t) y ≡ true → Third sc t h y
  pub shaped : Shaped sc t wants h 3
  pub few : n + weight sc t h ≤ bound t

pub data Stage (sc : Scenario) (t : Txn) (wants : ℕ → Expected) (h : List Entry) (n : ℕ) : Type 0 where
  One : StageOne sc t wants h n → Stage sc t wants h n
  Two : StageTwo sc t wants h n → Stage sc t wants h n
  Three : StageThree sc t wants h n → Stage sc t wants h n

-- what holds throughout
pub record Ground (sc : Scenario) (t : Txn) (h : List Entry) : Type 0 where
  pub given : IsGiven sc
  pub legal : IsLegal sc h
  pub counted : IsCounted sc h
  pub home : has_site t.sites t.site ≡ true
  pub up : (s : ℕ) → has_site t.sites s ≡ true → is_up_at h s ≡ true
  pub still : (s : ℕ) → has_site t.sites s ≡ true → Still t s (log_of sc h s) (steps_at sc h s)

-- what an entry leaves of the sites that it is not at, and of what is pending
pub record Carries (sc : Scenario) (t : Txn) (h k : List Entry) (y : ℕ) : Type 0 where
  pub log : (d a : Option Dir) (v : Bool) → Says t (log_of sc h y) d a v → Says t (log_of sc k y) d a v
  pub decided : (d : Option Dir) → decision t (log_of sc h y) ≡ d → decision t (log_of sc k y) ≡ d
  pub ready : (e : Expected) → is_undecided t (log_of sc h y) ≡ true → Ready sc h t y e → Ready sc k t y e

abbrev pub Keeps : Scenario → List Entry → List Entry → (Packet → Bool) → Type 0
Keeps sc h k P = Pends sc h P → Pends sc k P

voted_on : (sc : Scenario) (t : Txn) (h k : List Entry) (y : ℕ) → Carries sc t h k y → Voted sc t h y → Voted sc t k y
voted_on sc t h k y c was = (was.0, c.log None was.0 true was.1)

pub first_on : (sc : Scenario) (t : Txn) (wants : ℕ → Expected) (h k : List Entry) (came more : List ℕ) (y : ℕ) → Carries sc t h k y → Keeps sc h k (asks t y) → Keeps sc h k (votes t y) →
    (has_site came y ≡ true → has_site more y ≡ true) → First sc t wants h came y → First sc t wants k more y
first_on sc t wants h k came more y c a v in_more (inl was) = inl (record {
  says = c.log None None false was.says;
  ready = c.ready (wants y) (rw (was.says.decided) refl) was.ready;
  asked = a was.asked;
})
first_on sc t wants h k came more y c a v in_more (inr (was, inl some)) = inr (voted_on sc t h k y c was, inl (v some))
first_on sc t wants h k came more y c a v in_more (inr (was, inr has)) = inr (voted_on sc t h k y c was, inr (in_more has))

pub second_on : (sc : Scenario) (t : Txn) (h k : List Entry) (acked more : List ℕ) (y : ℕ) → Carries sc t h k y → Keeps sc h k (prepares t y) → Keeps sc h k (acks t y) →
    (has_site acked y ≡ true → has_site more y ≡ true) → Second sc t h acked y → Second sc t k more y
second_on sc t h k acked more y c a v in_more (was, inl some) = (voted_on sc t h k y c was, inl (a some))
second_on sc t h k acked more y c a v in_more (was, inr (inl some)) = (voted_on sc t h k y c was, inr (inl (v some)))
second_on sc t h k acked more y c a v in_more (was, inr (inr has)) = (voted_on sc t h k y c was, inr (inr (in_more has)))

pub third_on : (sc : Scenario) (t : Txn) (h k : List Entry) (y : ℕ) → Carries sc t h k y → Keeps sc h k (ends t y) → Third sc t h y → Third sc t k y
third_on sc t h k y c e (inl (was, some)) = inl (voted_on sc t h k y c was, e some)
third_on sc t h k y c e (inr is) = inr (c.decided (Some Commit) is)

-- a site whose moves are the same
pub carries_same : (sc : Scenario) (t : Txn) (h k : List Entry) (y : ℕ) → moves_of sc k y ≡ moves_of sc h y → Carries sc t h k y
carries_same sc t h k y same = record {
  log = λ d a v says. subst (λ m. Says t (log_by m) d a v) (sym same) says;
  decided = λ d is. ap (λ m. decision t (log_by m)) same ∙ is;
  ready = λ e undecided ready. ap (λ m. ((e.count == length (done y t (life_at m).steps)) && (e.count == 0 || e.inc == (life_at m).inc))) same ∙ ready;
}

pub carries_other : (sc : Scenario) (t : Txn) (h : List Entry) (s y : ℕ) (i : Input) → (s == y) ≡ false → Carries sc t h (h ++ entry_of sc h s i ∷ []) y
carries_other sc t h s y i other = carries_same sc t h (h ++ entry_of sc h s i ∷ []) y (moves_still sc h s y i other)

-- a site that takes another transaction's packet
pub carries_foreign : (sc : Scenario) (t : Txn) (h : List Entry) (s : ℕ) (p : Packet) (was : Made) → Stepped sc t h s (input.Deliver p) was → Foreign t was →
    Still t s (log_of sc h s) (steps_at sc h s) → brings_none (unnumbered_input (input.Deliver p)) ≡ true → Carries sc t h (h ++ entry_of sc h s (input.Deliver p) ∷ []) s
carries_foreign sc t h s p was st foreign still brings = record {
  log = λ d a v says. subst (λ l. Says t l d a v) (sym st.log) (says_still t (log_of sc h s) was.records d a v foreign.records says);
  decided = λ d is. ap (decision t) st.log ∙ decided_still t (log_of sc h s) was.records d foreign.records is;
  ready = λ e undecided ready.
      ap (λ (l : Life). ((e.count == length (done s t l.steps)) && (e.count == 0 || e.inc == l.inc))) (life_on sc h s (input.Deliver p))
      ∙ ap (λ l. ((e.count == length l) && (e.count == 0 || e.inc == (life_at (moves_of sc h s)).inc)))
      (done_push t s (log_of sc h s) (steps_at sc h s) (moment_of (life_at (moves_of sc h s)) (input.Deliver p) (made_by sc h s (input.Deliver p))) brings still undecided)
      ∙ ready;
}

-- the votes and the round of the coordinator behind its step
pub votes_on : (sc : Scenario) (t : Txn) (h : List Entry) (i : Input) →
    yes_votes t (steps_at sc (h ++ entry_of sc h t.site i ∷ []) t.site) ≡ yes_by t (yes_votes t (steps_at sc h t.site)) (moment_of (life_at (moves_of sc h t.site)) i (made_by sc h t.site i))
votes_on sc t h i = ap (λ (l : Life). yes_votes t l.steps) (life_on sc h t.site i) ∙ fold-append (yes_by t) None (steps_at sc h t.site) _

pub round_on : (sc : Scenario) (t : Txn) (h : List Entry) (i : Input) →
    round_in_progress t.site t (steps_at sc (h ++ entry_of sc h t.site i ∷ []) t.site)
    ≡ (round_by t.site t (fold (round_by t.site t) (record { group = []; now = None }) (steps_at sc h t.site)) (moment_of (life_at (moves_of sc h t.site)) i (made_by sc h t.site i))).now
round_on sc t h i =
    ap (λ (l : Life). round_in_progress t.site t l.steps) (life_on sc h t.site i)
    ∙ ap (λ (x : Rounds). x.now) (fold-append (round_by t.site t) (record { group = []; now = None }) (steps_at sc h t.site) (moment_of (life_at (moves_of sc h t.site)) i (made_by sc h t.site i) ∷ []))
