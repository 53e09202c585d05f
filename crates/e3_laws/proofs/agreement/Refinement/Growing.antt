-- What stands at a site goes on to stand as marks are made.
use Rattle.std.proofs.Common.{false, ◌≡◌, ◌⊎◌, inl, inr, ◌∷◌, [], ◌++◌, ◌==◌, ℕ, List, map, refl, sym, ap, subst, ◌∙◌, arith, eqb-true, eq-eqb}
use Rattle.std.proofs.lemmas.Bool.{cond-true, cond-false, false_from_ne_true}
use Rattle.e3_types.specs.declared.entries.Input.{Input}
use Rattle.e3_types.specs.declared.entries.Input.TheVariants as input
use Rattle.e3_types.specs.declared.messages.Packet.{Packet}
use Rattle.e3_types.specs.declared.records.Record.{Record}
use Rattle.e3_types.specs.declared.scenarios.Scenario.{Scenario}
use Rattle.e3_types.specs.declared.transactions.Txn.{Txn}
use Rattle.e3_world.specs.declared.lives.Life.{Life}
use Rattle.e3_world.specs.declared.lives.Made.{Made}
use Rattle.e3_world.specs.declared.lives.Moment.{Moment}
use Rattle.e3_world.specs.declared.lives.SiteStep.{SiteStep}
use Rattle.e3_world.specs.Lives.{life_by}
use Rattle.e3_world.specs.Logs.{state_of, last_attempt}
use Rattle.e3_world.specs.Moves.{unnumbered, unnumbered_input}
use Rattle.e3_world.specs.Steps.{step_at}
use Rattle.e3_laws.specs.agreement.Logs.{IsIn, Note, Vote, Join, Attempt, Decision, attempt, status, before_join, Orderly}
use Rattle.e3_laws.specs.agreement.Rules.{Party, Letter, letter, Came, MayWrite, Reachable}
use Rattle.e3_laws.specs.agreement.Marks.{Mark, behind, log_of, sent_of, situation_of, MayWriteAll, MayMark}
use Rattle.e3_laws.specs.agreement.Verdicts.{status_in}
use Rattle.e3_laws.specs.agreement.Weights.{party_of}
use Rattle.e3_laws.proofs.agreement.Protocol.Keep.{law}
use Rattle.e3_laws.proofs.agreement.Protocol.Logs.{join_bound}
use Rattle.e3_laws.proofs.agreement.Protocol.Reached.{mark_reaches, in_parts, in_behind, log_more, sent_more}
use Rattle.e3_laws.proofs.agreement.Protocol.Shares.{majorities_overlap}
use Rattle.e3_laws.specs.agreement.Views.{notes_of, leader_of, words_of, letters_of}
use Rattle.e3_laws.specs.agreement.Rows.{IsWell, MayTake, IsFromAway, Here, Reads, WasHeard, ElectFits, JoinStands, Left, Stands, Good}
use Rattle.e3_laws.proofs.agreement.Refinement.Lists.{in_left, in_right}
use Rattle.e3_laws.proofs.agreement.Refinement.Readings.{reads_more}
use Rattle.e3_laws.proofs.agreement.Refinement.Tests.{stands_as}
use Rattle.e3_laws.proofs.agreement.Refinement.Whole.{good_step}

-- the place of a step behind marks
abbrev pub here : Scenario → Txn → List Mark → ℕ → Life → Input → Here
here sc t marks x life i = record {
  txn = t;
  at = record { weights = sc.weights; site = x; life = life; input = unnumbered_input i };
  before = situation_of marks;
}

-- what stands at a site: its notes are those of its log, and what its steps left
pub record SiteOk (sc : Scenario) (t : Txn) (marks : List Mark) (x : ℕ) (life : Life) : Type 0 where
  pub reads : Reads t life.log (log_of x marks)
  pub left : (i : Input) (m : Moment) → IsIn m life.steps → Left (here sc t marks x life i) m

pub log_here : (marks : List Mark) (m : Mark) → log_of m.site (marks ++ m ∷ []) ≡ behind (log_of m.site marks) m.notes
log_here marks m = log_more m.site marks m ∙ cond-true (m.site == m.site) (behind (log_of m.site marks) m.notes) (log_of m.site marks) (eq-eqb m.site m.site refl)

pub log_there : (x : ℕ) (marks : List Mark) (m : Mark) → (x ≡ m.site → ⊥) → log_of x (marks ++ m ∷ []) ≡ log_of x marks
log_there x marks m other =
    log_more x marks m ∙ cond-false (m.site == x) (behind (log_of x marks) m.notes) (log_of x marks) (false_from_ne_true (m.site == x) (λ q. other (sym (eqb-true m.site x q))))

pub sent_stays : (marks : List Mark) (m : Mark) (p : Letter) → IsIn p (sent_of marks) → IsIn p (sent_of (marks ++ m ∷ []))
sent_stays marks m p k = subst (λ z. IsIn p z) (sym (sent_more marks m)) (in_left p (sent_of marks) m.sends k)

-- one note more leaves what stood before an earlier join
join_stays : (g : Party) (sent : List Letter) (l : List Note) (x n e : ℕ) (r : Note) → IsIn (Join n e) l → MayWrite g sent l x r → before_join n (r ∷ l) ≡ before_join n l
join_stays g sent l x n e Vote k may = refl
join_stays g sent l x n e (Attempt m d) k may = refl
join_stays g sent l x n e (Decision d) k may = refl
join_stays g sent l x n e (Join m f) k may =
    cond-false (m == n) l (before_join n l) (false_from_ne_true (m == n) (λ q. let same : m ≡ n = eqb-true m n q in absurd (omega (arith, may.greater, join_bound n e l k))))

joins_stay : (g : Party) (sent : List Letter) (l : List Note) (x n e : ℕ) (ns : List Note) → IsIn (Join n e) l → MayWriteAll g sent l x ns → before_join n (behind l ns) ≡ before_join n l
joins_stay g sent l x n e [] k may = refl
joins_stay g sent l x n e (r ∷ ns) k may = joins_stay g sent (r ∷ l) x n e ns (inr k) may.1 ∙ join_stays g sent l x n e r k may.0

heard_stays : (h k : Here) (i : Input) → h.txn ≡ k.txn → h.at.site ≡ k.at.site → ((p : Letter) → IsIn p h.before.sent → IsIn p k.before.sent) → WasHeard h i → WasHeard k i
heard_stays h k (input.Deliver packet) same place grows took = λ w q.
    subst (λ x. Came k.before.sent packet.«from» x w) place (grows (letter packet.«from» h.at.site w) (took w (subst (λ t. IsIn w (words_of t packet.msg)) (sym same) q)))
heard_stays h k (input.Begin sites) same place grows took = tt
heard_stays h k (input.Do u op) same place grows took = tt
heard_stays h k (input.Commit u) same place grows took = tt
heard_stays h k (input.Cancel u) same place grows took = tt
heard_stays h k (input.Expire u) same place grows took = tt
heard_stays h k (input.Elect u group) same place grows took = tt

-- what an earlier step left goes on to stand
left_stays : (sc : Scenario) (t : Txn) (g : Party) (marks later : List Mark) (x : ℕ) (life after : Life) (ns : List Note) (i : Input) (m : Moment)
    → ((p : Letter) → IsIn p (sent_of marks) → IsIn p (sent_of later)) → log_of x later ≡ behind (log_of x marks) ns → MayWriteAll g (sent_of marks) (log_of x marks) x ns
    → ((r : Record) → IsIn r life.log → IsIn r after.log) → Left (here sc t marks x life i) m → Left (here sc t later x after i) m
left_stays sc t g marks later x life after ns i m grows log may records left = record {
  heard = heard_stays (here sc t marks x life i) (here sc t later x after i) m.input refl refl grows left.heard;
  fits = left.fits;
  recorded = λ r k. records r (left.recorded r k);
  joins = joins;
}
  where
    joins : JoinStands (here sc t later x after i) m
    joins n is =
        let was = left.joins n is in
        let stays : before_join n (log_of x later) ≡ before_join n (log_of x marks) =
        ap (before_join n) log ∙ joins_stay g (sent_of marks) (log_of x marks) x n (leader_of x m.input) ns was.0 may in (
          subst (λ l. IsIn (Join n (leader_of x m.input)) l) (sym log) (in_behind (Join n (leader_of x m.input)) (log_of x marks) ns was.0),
          was.1 ∙ sym (ap (λ (b : List Note). record { site = x; stood = status b; tried = attempt b }) stays),
        )

-- a site of which nothing is written
pub site_stays : (sc : Scenario) (t : Txn) (g : Party) (marks : List Mark) (m : Mark) (x : ℕ) (life : Life) → (x ≡ m.site → ⊥) → SiteOk sc t marks x life → SiteOk sc t (marks ++ m ∷ []) x life
site_stays sc t g marks m x life other ok = record {
  reads = subst (λ l. Reads t life.log l) (sym (log_there x marks m other)) ok.reads;
  left = λ i k q. left_stays sc t g marks (marks ++ m ∷ []) x life life [] i k (sent_stays marks m) (log_there x marks m other) tt (λ r z. z) (ok.left i k q);
}

-- the mark of a step
abbrev pub step_mark : Txn → ℕ → Input → Made → List Letter → Mark
step_mark t x i made sends = record { site = x; notes = notes_of t (leader_of x (unnumbered_input i)) made.records; sends = sends }

abbrev pub site_step : Input → Made → SiteStep
site_step i made = record { input = unnumbered_input i; records = made.records; outs = map unnumbered made.outs; told = made.told }

-- the site behind its step
pub site_steps : (sc : Scenario) (t : Txn) (g : Party) (marks : List Mark) (x : ℕ) (life : Life) (i : Input) (made : Made) (sends : List Letter)
    → SiteOk sc t marks x life → Orderly (log_of x marks) → WasHeard (here sc t marks x life i) (unnumbered_input i) → ElectFits x (unnumbered_input i)
    → MayWriteAll g (sent_of marks) (log_of x marks) x (notes_of t (leader_of x (unnumbered_input i)) made.records) → Good (here sc t marks x life i) made
    → SiteOk sc t (marks ++ step_mark t x i made sends ∷ []) x (life_by life (site_step i made))
site_steps sc t g marks x life i made sends ok ordered heard fits may good = record {
  reads = subst (λ l. Reads t (life.log ++ made.records) l) (sym (log_here marks mark)) (reads_more t (leader_of x (unnumbered_input i)) life.log (log_of x marks) made.records ok.reads);
  left = λ j m q. left j m (in_parts m life.steps (this ∷ []) q);
}
  where
    mark : Mark
    mark = step_mark t x i made sends

    notes : List Note
    notes = notes_of t (leader_of x (unnumbered_input i)) made.records

    this : Moment
    this = record { before = life.log; input = unnumbered_input i; records = made.records; outs = map unnumbered made.outs; told = made.told }

    later : List Mark
    later = marks ++ mark ∷ []

    after : Life
    after = life_by life (site_step i made)

    joins : (j : Input) → JoinStands (here sc t later x after j) this
    joins j n is =
        let e : ℕ = leader_of x (unnumbered_input i) in
        let first = good.joins n is in
        let log : log_of x later ≡ behind (Join n e ∷ log_of x marks) first.0 = log_here marks mark ∙ ap (behind (log_of x marks)) first.1 in
        let all : MayWriteAll g (sent_of marks) (log_of x marks) x (Join n e ∷ first.0) = subst (λ z. MayWriteAll g (sent_of marks) (log_of x marks) x z) first.1 may in
        let back : before_join n (log_of x later) ≡ log_of x marks =
        ap (before_join n) log ∙ joins_stay g (sent_of marks) (Join n e ∷ log_of x marks) x n e first.0 (inl refl) all.1
        ∙ cond-true (n == n) (log_of x marks) (before_join n (log_of x marks)) (eq-eqb n n refl) in
        let state : status_in (state_of t life.log) ≡ status (before_join n (log_of x later)) = stands_as t life.log (log_of x marks) ok.reads ordered ∙ sym (ap status back) in
        let number : last_attempt t life.log ≡ attempt (before_join n (log_of x later)) = ok.reads.attempts ∙ sym (ap attempt back) in (
          subst (λ l. IsIn (Join n e) l) (sym log) (in_behind (Join n e) (Join n e ∷ log_of x marks) first.0 (inl refl)),
          λ k. record { site = x; stood = state k; tried = number k },
        )

    left : (j : Input) (m : Moment) → IsIn m life.steps ⊎ IsIn m (this ∷ []) → Left (here sc t later x after j) m
    left j m (inl q) =
        left_stays sc t g marks later x life after notes j m (sent_stays marks mark) (log_here marks mark) may (λ r k. in_left r life.log made.records k) (ok.left j m q)
    left j m (inr (inl e)) = subst (λ (z : Moment). Left (here sc t later x after j) z) (sym e) (record {
      heard = heard_stays (here sc t marks x life i) (here sc t later x after j) (unnumbered_input i) refl refl (sent_stays marks mark) heard;
      fits = fits;
      recorded = λ r k. in_right r life.log made.records k;
      joins = joins j;
    })
    left j m (inr (inr e)) = absurd e

pub elect_fits : (x : ℕ) (i : Input) → MayTake x i → ElectFits x (unnumbered_input i)
elect_fits x (input.Elect u group) fits = (fits.1, fits.2)
elect_fits x (input.Begin sites) fits = tt
elect_fits x (input.Do u op) fits = tt
elect_fits x (input.Commit u) fits = tt
elect_fits x (input.Cancel u) fits = tt
elect_fits x (input.Expire u) fits = tt
elect_fits x (input.Deliver packet) fits = tt

pub takes_unnumbered : (x : ℕ) (i : Input) → MayTake x i → MayTake x (unnumbered_input i)
takes_unnumbered x (input.Deliver packet) fits = fits
takes_unnumbered x (input.Elect u group) fits = fits
takes_unnumbered x (input.Begin sites) fits = fits
takes_unnumbered x (input.Do u op) fits = fits
takes_unnumbered x (input.Commit u) fits = fits
takes_unnumbered x (input.Cancel u) fits = fits
takes_unnumbered x (input.Expire u) fits = fits

-- what a step of a site makes, behind marks that can be reached
pub record Stepping (sc : Scenario) (t : Txn) (marks : List Mark) (x : ℕ) (life : Life) (i : Input) (sends : List Letter) : Type 0 where
  pub may : MayMark (party_of sc.weights t) (situation_of marks) (step_mark t x i (step_at (here sc t marks x life i).at) sends)
  pub well : (p : Letter) → IsIn p (sent_of (marks ++ step_mark t x i (step_at (here sc t marks x life i).at) sends ∷ [])) → IsWell t p
  pub outs : (p : Packet) → IsIn p (step_at (here sc t marks x life i).at).outs → (p.«from» ≡ x) × ((p.to == x) ≡ false)
  pub reach : Reachable (party_of sc.weights t) (situation_of (marks ++ step_mark t x i (step_at (here sc t marks x life i).at) sends ∷ []))
  pub site : SiteOk sc t (marks ++ step_mark t x i (step_at (here sc t marks x life i).at) sends ∷ []) x (life_by life (site_step i (step_at (here sc t marks x life i).at)))

pub stepping : (sc : Scenario) (t : Txn) (marks : List Mark) (x : ℕ) (life : Life) (i : Input) (sends : List Letter) → Reachable (party_of sc.weights t) (situation_of marks)
    → SiteOk sc t marks x life → ((p : Letter) → IsIn p (sent_of marks) → IsWell t p) → MayTake x i → WasHeard (here sc t marks x life i) (unnumbered_input i) → IsFromAway x (unnumbered_input i)
    → ((p : Letter) → IsIn p sends → IsIn p (letters_of t (step_at (here sc t marks x life i).at).outs)) → Stepping sc t marks x life i sends
stepping sc t marks x life i sends reach ok well fits heard away some = record {
  may = may;
  well = λ p k. new_well p (in_parts p (sent_of marks) sends (subst (λ z. IsIn p z) (sent_more marks (step_mark t x i made sends)) k));
  outs = good.outs;
  reach = mark_reaches (party_of sc.weights t) marks (step_mark t x i made sends) reach may;
  site = site_steps sc t (party_of sc.weights t) marks x life i made sends ok (stands.kept.orderly x) heard stands.fits good.notes good;
}
  where
    h : Here
    h = here sc t marks x life i

    made : Made
    made = step_at h.at

    stands : Stands h
    stands = record {
      kept = law (party_of sc.weights t) (situation_of marks) (majorities_overlap sc.weights t) reach;
      reads = ok.reads;
      well = well;
      taken = heard;
      away = away;
      fits = elect_fits x i fits;
      left = ok.left i;
    }

    good : Good h made
    good = good_step h stands (takes_unnumbered x i fits)

    new_well : (p : Letter) → IsIn p (sent_of marks) ⊎ IsIn p sends → IsWell t p
    new_well p (inl k) = well p k
    new_well p (inr k) = (good.from_here p (some p k)).1

    may : MayMark (party_of sc.weights t) (situation_of marks) (step_mark t x i made sends)
    may = record { notes = good.notes; from_here = λ p k. (good.from_here p (some p k)).0; sends = λ p k. good.sends p (some p k) }
