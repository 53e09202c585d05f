-- A decision that a message says stands in the log of the site that sent it.
use Rattle.std.proofs.Common.{◌≡◌, ◌⊎◌, inl, inr, ◌∷◌, [], ℕ, Bool, true, false, List, fold, Option, Some, None, refl, sym, ap, subst, ◌∙◌, if◌then◌else◌}
use Rattle.std.specs.Prelude.{Contains}
use Rattle.std.specs.List.{flat_map}
use Rattle.e3_types.specs.declared.messages.Message.{Message}
use Rattle.e3_types.specs.declared.messages.Message.TheVariants as msg
use Rattle.e3_types.specs.declared.messages.Packet.{Packet}
use Rattle.e3_types.specs.declared.records.Record.{Record}
use Rattle.e3_types.specs.declared.records.Record.TheVariants as log
use Rattle.e3_types.specs.declared.scenarios.Scenario.{Scenario}
use Rattle.e3_types.specs.declared.transactions.Dir.{Dir}
use Rattle.e3_types.specs.declared.transactions.Dir.TheVariants.{Abort, Commit}
use Rattle.e3_types.specs.declared.transactions.State.{State}
use Rattle.e3_types.specs.declared.transactions.State.TheVariants.{Q, W, Pc, Pa, C, A}
use Rattle.e3_types.specs.declared.transactions.Txn.{Txn}
use Rattle.e3_types.specs.Same.{same_txn}
use Rattle.e3_world.specs.Lives.{life_at}
use Rattle.e3_world.specs.Logs.{decision_by}
use Rattle.e3_world.specs.Moves.{Move, moves_at, log_by}
use Rattle.e3_world.specs.Safe.{Said, says, said_msg, said_state}
use Rattle.e3_world.specs.Sound.{sends}
use Rattle.e3_world.proofs.Pushes.{life_log_at}
use Rattle.e3_laws.specs.agreement.Invariant.{Invariant}
use Rattle.e3_laws.specs.agreement.Logs.{IsIn, Note, Vote, Join, Attempt, Decision, Orderly}
use Rattle.e3_laws.specs.agreement.Marks.{log_of, situation_of}
use Rattle.e3_laws.specs.agreement.Rules.{Word, No, Report, Decide, letter}
use Rattle.e3_laws.specs.agreement.Verdicts.{status_in}
use Rattle.e3_laws.specs.agreement.Weights.{party_of}
use Rattle.e3_laws.proofs.agreement.Protocol.Keep.{law}
use Rattle.e3_laws.proofs.agreement.Protocol.Logs.{final_is}
use Rattle.e3_laws.proofs.agreement.Protocol.Shares.{majorities_overlap}
use Rattle.e3_laws.specs.agreement.Trails.{marks_of, IsMade}
use Rattle.e3_laws.specs.agreement.Views.{words_of, decided}
use Rattle.e3_laws.proofs.agreement.Refinement.Following.{TrailOk, made_ok, in_from_contains, in_map_to}
use Rattle.e3_laws.proofs.agreement.Refinement.Gatherings.{in_word}
use Rattle.e3_laws.proofs.agreement.Refinement.Lists.{same_from}
use Rattle.e3_laws.proofs.agreement.Refinement.Voting.{contains_from_in}
use Rattle.e3_laws.proofs.steps.Tests.{same_is}

-- a decision among notes that are in order is the one that they read
decided_from : (d : Dir) (l : List Note) → Orderly l → IsIn (Decision d) l → decided l ≡ Some d
decided_from d [] o k = absurd k
decided_from d (Decision e ∷ l) o (inl p) = let q : d ≡ e = cc in ap Some (sym q)
decided_from d (Decision e ∷ l) o (inr k) = absurd (o.0.open_yet d (final_is d l o.1 k))
decided_from d (Vote ∷ l) o (inl p) = cc
decided_from d (Vote ∷ l) o (inr k) = decided_from d l o.1 k
decided_from d (Join n e ∷ l) o (inl p) = cc
decided_from d (Join n e ∷ l) o (inr k) = decided_from d l o.1 k
decided_from d (Attempt n e ∷ l) o (inl p) = cc
decided_from d (Attempt n e ∷ l) o (inr k) = decided_from d l o.1 k

-- a decision that is read stands
pub decision_found : (t : Txn) (d : Dir) (rs : List Record) (was : Option Dir) → fold (decision_by t) was rs ≡ Some d → (was ≡ Some d) ⊎ IsIn (log.Decision t d) rs
decision_found t d [] was is = inl is
decision_found t d (r ∷ rs) was is = go (decision_found t d rs (decision_by t was r) is) r refl
  where
    decides : (u : Txn) (e : Dir) (b : Bool) → same_txn t u ≡ b → (if b then Some e else was) ≡ Some d → (was ≡ Some d) ⊎ IsIn (log.Decision t d) (log.Decision u e ∷ rs)
    decides u e true same q = inr (inl (let way : e ≡ d = cc in ap (λ x. log.Decision t x) (sym way) ∙ ap (λ v. log.Decision v e) (same_is t u same)))
    decides u e false same q = inl q

    go : (decision_by t was r ≡ Some d) ⊎ IsIn (log.Decision t d) rs → (q : Record) → r ≡ q → (was ≡ Some d) ⊎ IsIn (log.Decision t d) (r ∷ rs)
    go (inr k) q e = inr (inr k)
    go (inl k) (log.Decision u f) e =
        subst (λ (x : Record). (was ≡ Some d) ⊎ IsIn (log.Decision t d) (x ∷ rs)) (sym e)
        (decides u f (same_txn t u) refl (subst (λ (x : Record). decision_by t was x ≡ Some d) e k))
    go (inl k) (log.Vote u ops) e = inl (subst (λ (x : Record). decision_by t was x ≡ Some d) e k)
    go (inl k) (log.Join u n) e = inl (subst (λ (x : Record). decision_by t was x ≡ Some d) e k)
    go (inl k) (log.Attempt u n f) e = inl (subst (λ (x : Record). decision_by t was x ≡ Some d) e k)
    go (inl k) (log.Birth format site weights rows) e = inl (subst (λ (x : Record). decision_by t was x ≡ Some d) e k)
    go (inl k) (log.Inc inc) e = inl (subst (λ (x : Record). decision_by t was x ≡ Some d) e k)

-- a note of a decision is a record
noted_decision : (sc : Scenario) (t : Txn) (trail : List Move) (x : ℕ) (d : Dir) → TrailOk sc t trail (marks_of sc t trail) → Invariant (party_of sc.weights t) (situation_of (marks_of sc t trail))
    → IsIn (Decision d) (log_of x (marks_of sc t trail)) → IsIn (log.Decision t d) (log_by (moves_at x trail))
noted_decision sc t trail x d ok i k =
    subst (λ z. IsIn (log.Decision t d) z) (life_log_at (moves_at x trail))
    (go (decision_found t d (life_at (moves_at x trail)).log None ((ok.sites x).reads.decides ∙ decided_from d (log_of x (marks_of sc t trail)) (i.orderly x) k)))
  where
    go : (None ≡ Some d) ⊎ IsIn (log.Decision t d) (life_at (moves_at x trail)).log → IsIn (log.Decision t d) (life_at (moves_at x trail)).log
    go (inl e) = cc
    go (inr k) = k

-- what a message says of a transaction that its word says
pub message_stands : (sc : Scenario) (trail : List Move) → IsMade sc trail → (p : Packet) (s : Said) → IsIn p (flat_map sends trail) → (m : Message) → p.msg ≡ m → IsIn s (said_msg m)
    → IsIn (log.Decision s.txn s.dir) (log_by (moves_at p.«from» trail))
message_stands sc trail made p s k m is says_it = by m is says_it
  where
    Here : Txn → Dir → Type 0
    Here t d = IsIn (log.Decision t d) (log_by (moves_at p.«from» trail))

    from_word : (t : Txn) (d : Dir) (w : Word) → IsIn w (words_of t p.msg)
        → ((i : Invariant (party_of sc.weights t) (situation_of (marks_of sc t trail))) → IsIn (letter p.«from» p.to w) ((situation_of (marks_of sc t trail)).sent) → IsIn (Decision d) (log_of p.«from» (marks_of sc t trail)))
        → Here t d
    from_word t d w word shows =
        let ok : TrailOk sc t trail (marks_of sc t trail) = made_ok sc t trail made in
        let i : Invariant (party_of sc.weights t) (situation_of (marks_of sc t trail)) = law (party_of sc.weights t) (situation_of (marks_of sc t trail)) (majorities_overlap sc.weights t) ok.reach in
        noted_decision sc t trail p.«from» d ok i
        (shows i (ok.sent p k (letter p.«from» p.to w) (in_map_to (letter p.«from» p.to) w (words_of t p.msg) word)))

    word : (t : Txn) (w : Word) (m : Message) → p.msg ≡ m → IsIn w (words_of t m) → IsIn w (words_of t p.msg)
    word t w m is j = subst (λ z. IsIn w (words_of t z)) (sym is) j

    final : (t : Txn) (n : ℕ) (st : State) (a : ℕ) → p.msg ≡ msg.Report t n st a → (s : Said) → IsIn s (said_state t st) → Here s.txn s.dir
    final t n C a is s (inl e) = subst (λ (z : Said). Here z.txn z.dir) (sym e)
        (from_word t Commit (Report n (status_in C) a) (word t (Report n (status_in C) a) (msg.Report t n C a) is (in_word (same_txn t t) (Report n (status_in C) a) (same_from t t refl)))
        (λ i j. (i.letters (letter p.«from» p.to (Report n (status_in C) a)) j).2))
    final t n A a is s (inl e) = subst (λ (z : Said). Here z.txn z.dir) (sym e)
        (from_word t Abort (Report n (status_in A) a) (word t (Report n (status_in A) a) (msg.Report t n A a) is (in_word (same_txn t t) (Report n (status_in A) a) (same_from t t refl)))
        (λ i j. (i.letters (letter p.«from» p.to (Report n (status_in A) a)) j).2))
    final t n C a is s (inr e) = absurd e
    final t n A a is s (inr e) = absurd e
    final t n Q a is s k = absurd k
    final t n W a is s k = absurd k
    final t n Pc a is s k = absurd k
    final t n Pa a is s k = absurd k

    no_word : (t : Txn) (m : Message) → p.msg ≡ m → IsIn No (words_of t m) → (s : Said) → IsIn s (says t Abort) → Here s.txn s.dir
    no_word t m is j s (inl e) = subst (λ (z : Said). Here z.txn z.dir) (sym e) (from_word t Abort No (word t No m is j) (λ i q. i.letters (letter p.«from» p.to No) q))
    no_word t m is j s (inr e) = absurd e

    by : (m : Message) → p.msg ≡ m → IsIn s (said_msg m) → Here s.txn s.dir
    by (msg.Decide t d) is (inl e) = subst (λ (z : Said). Here z.txn z.dir) (sym e)
        (from_word t d (Decide d) (word t (Decide d) (msg.Decide t d) is (in_word (same_txn t t) (Decide d) (same_from t t refl))) (λ i j. i.letters (letter p.«from» p.to (Decide d)) j))
    by (msg.Decide t d) is (inr e) = absurd e
    by (msg.Vote t false) is k = no_word t (msg.Vote t false) is (in_word (same_txn t t) No (same_from t t refl)) s k
    by (msg.Died t n older) is k = no_word t (msg.Died t n older) is (in_word (same_txn t t) No (same_from t t refl)) s k
    by (msg.Report t n st a) is k = final t n st a is s k
    by (msg.Vote t true) is k = absurd k
    by (msg.Do t n op) is k = absurd k
    by (msg.Done t n inc answer) is k = absurd k
    by (msg.Ask t call) is k = absurd k
    by (msg.LastElected t call number) is k = absurd k
    by (msg.Elected t n) is k = absurd k
    by (msg.VoteReq t inc count) is k = absurd k
    by (msg.Pre t n d) is k = absurd k
    by (msg.Ack t n d) is k = absurd k

pub made_stands : (sc : Scenario) (trail : List Move) → IsMade sc trail → (p : Packet) (s : Said) → Contains (flat_map sends trail) p → Contains (said_msg p.msg) s
    → Contains (log_by (moves_at p.«from» trail)) (log.Decision s.txn s.dir)
made_stands sc trail made p s k j =
    contains_from_in (log_by (moves_at p.«from» trail)) (log.Decision s.txn s.dir)
    (message_stands sc trail made p s (in_from_contains (flat_map sends trail) p k) p.msg refl (in_from_contains (said_msg p.msg) s j))
