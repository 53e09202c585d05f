-- A coordinator with a yes, and a site with an acknowledgement.
use Rattle.std.proofs.Common.{◌≡◌, ◌⊎◌, inl, inr, ◌∷◌, ◌==◌, ◌&&◌, ℕ, Bool, true, false, List, Option, Some, None, refl, sym, ap, subst, ◌∙◌, if◌then◌else◌, eqb-true}
use Rattle.std.specs.Prelude.{not}
use Rattle.std.proofs.lemmas.Bool.{and_parts}
use Rattle.e3_types.specs.declared.transactions.Dir.{Dir}
use Rattle.e3_types.specs.declared.transactions.Dir.TheVariants.{Commit}
use Rattle.e3_types.specs.declared.transactions.State.TheVariants.{W}
use Rattle.e3_types.specs.declared.transactions.Txn.{Txn}
use Rattle.e3_types.specs.declared.messages.Message.TheVariants as msg
use Rattle.e3_types.specs.Quorums.{is_quorum}
use Rattle.e3_types.specs.Same.{same_dir, same_state}
use Rattle.e3_types.specs.Sets.{has_site, is_within, others}
use Rattle.e3_world.specs.Gatherings.{Round}
use Rattle.e3_world.specs.declared.lives.At.{At}
use Rattle.e3_world.specs.declared.lives.Made.{Made}
use Rattle.e3_world.specs.AttemptRules.{on_ack}
use Rattle.e3_world.specs.Making.{state_now, elected_now, is_coordinator, may_decide, steps_now, and_cast, and_decide, and_attempt}
use Rattle.e3_world.specs.Rounds.{count_ack, round_in_progress}
use Rattle.e3_world.specs.VoteRules.{on_yes}
use Rattle.e3_world.specs.Votes.{yes_votes}
use Rattle.e3_laws.specs.agreement.Logs.{IsIn, Vote, Attempt}
use Rattle.e3_laws.specs.agreement.Rules.{MovesOn, Came, Ack, HasWon, MayDecide}
use Rattle.e3_laws.specs.agreement.Weights.{is_majority}
use Rattle.e3_laws.specs.agreement.Views.{notes_of}
use Rattle.e3_laws.specs.agreement.Rows.{Here, party, leader, own_log, notes_now, Stands, Good}
use Rattle.e3_laws.proofs.agreement.Refinement.Lists.{has_from_in, in_others, same_dir_is}
use Rattle.e3_laws.proofs.agreement.Refinement.Sites.{within_self, within_in, within_trans, not_in}
use Rattle.e3_laws.proofs.agreement.Refinement.Readings.{waiting_is, vote_is}
use Rattle.e3_laws.proofs.agreement.Refinement.Tests.{of_txn, state_means, may_decide_means}
use Rattle.e3_laws.proofs.agreement.Refinement.Deciding.{keep_decide_cast}
use Rattle.e3_laws.proofs.agreement.Refinement.Attempts.{keep_attempt}
use Rattle.e3_laws.proofs.agreement.Refinement.Gatherings.{SaidYes, yes_said, RoundStands, RoundOk, ack_counts, round_stands}
use Rattle.e3_laws.proofs.agreement.Protocol.Ruled.{same_means}
use Rattle.e3_laws.proofs.agreement.Protocol.Reached.{in_behind}

-- a yes: with the last one the coordinator attempts to commit
pub row_yes : (h : Here) (made : Made) (u : Txn) → Stands h → Good h made → (h.txn ≡ u → has_site u.sites h.at.site ≡ true) → Good h (on_yes h.at u made)
row_yes h made u s good member = by (is_coordinator a u && same_state (state_now a u made) W && elected_now a u made == 1) refl
  where
    a : At
    a = h.at

    voted : same_state (state_now a u made) W ≡ true → h.txn ≡ u → IsIn Vote (notes_now h made)
    voted is same = vote_is (notes_now h made) (state_means h made u s same W (same_means (state_now a u made) W is)).2

    all : (came : List ℕ) → is_coordinator a u ≡ true → same_state (state_now a u made) W ≡ true → yes_votes u (steps_now a made) ≡ Some came
        → is_within (others a.site u.sites) came ≡ true → h.txn ≡ u → MovesOn (party h) h.before.sent (notes_now h made) a.site 1 Commit
    all came leads is votes enough same =
        let here : u.site ≡ a.site = eqb-true u.site a.site leads in
        let k = state_means h made u s same W (same_means (state_now a u made) W is) in
        let said : SaidYes h (Some came) = subst (λ o. SaidYes h o) (of_txn h u (λ v. yes_votes v (steps_now a made) ≡ Some came) same votes) (yes_said h made s) in
        inl (record {
          here = sym here ∙ sym (ap (λ (v : Txn). v.site) same);
          one = refl;
          commits = refl;
          waits = waiting_is (notes_now h made) k.0 k.1 k.2;
          votes = λ y m ne. said y (within_in (others a.site u.sites) came enough y (in_others a.site y u.sites (subst (λ (v : Txn). IsIn y v.sites) same m) ne));
        })

    attempts : (came : List ℕ) → is_coordinator a u ≡ true → same_state (state_now a u made) W ≡ true → yes_votes u (steps_now a made) ≡ Some came
        → (b : Bool) → is_within (others a.site u.sites) came ≡ b → Good h (if b then and_attempt a u 1 Commit u.sites made else made)
    attempts came leads is votes true enough = keep_attempt h made u 1 Commit u.sites s good member (λ same. within_self u.sites) (all came leads is votes enough) (λ same e. voted is same)
    attempts came leads is votes false enough = good

    counts : (is_coordinator a u && same_state (state_now a u made) W && elected_now a u made == 1) ≡ true → (o : Option (List ℕ)) → yes_votes u (steps_now a made) ≡ o → Good h (on_yes a u made)
    counts test None votes = rw (test, votes) good
    counts test (Some came) votes =
        let p = and_parts (is_coordinator a u && same_state (state_now a u made) W) (elected_now a u made == 1) test in
        let q = and_parts (is_coordinator a u) (same_state (state_now a u made) W) p.0 in
        rw (test, votes) (attempts came q.0 q.1 votes (is_within (others a.site u.sites) came) refl)

    by : (b : Bool) → (is_coordinator a u && same_state (state_now a u made) W && elected_now a u made == 1) ≡ b → Good h (on_yes a u made)
    by true test = counts test (yes_votes u (steps_now a made)) refl
    by false test = rw test good

-- an acknowledgement: with a quorum the site decides
pub row_ack : (h : Here) (made : Made) (f : ℕ) (u : Txn) (n : ℕ) (d : Dir) → Stands h → Good h made → (h.txn ≡ u → has_site u.sites h.at.site ≡ true)
    → (h.txn ≡ u → Came h.before.sent f h.at.site (Ack n d)) → Good h (on_ack h.at f u n d made)
row_ack h made f u n d s good member came = by (round_in_progress a.site u a.life.steps) refl
  where
    a : At
    a = h.at

    wins : (r : Round) → h.txn ≡ u → RoundStands h r → same_dir r.dir d ≡ true → may_decide a u d made ≡ true → is_quorum a.weights (a.site ∷ r.acked) u.sites ≡ true
        → MayDecide (party h) h.before.sent (notes_now h made) a.site d
    wins r same ok way may most =
        let dir : r.dir ≡ d = same_dir_is r.dir d way in
        may_decide_means h made u d s same may (HasWon (record { number = r.n; group = a.site ∷ r.acked; enough = enough; acks = acks dir }))
      where
        apart : not (has_site r.acked a.site) ≡ true
        apart = ap not (not_in a.site r.acked (λ k. (let here : IsIn a.site r.to = within_in r.acked r.to ok.among a.site k in away here)))
          where
            away : IsIn a.site r.to → ⊥
            away k = (let there : has_site r.to a.site ≡ true = has_from_in a.site r.to k in (let no_one : has_site r.to a.site ≡ false = ok.away in cc))

        enough : is_majority a.weights h.txn.sites (a.site ∷ r.acked) ≡ true
        enough =
            let here : has_site h.txn.sites a.site ≡ true = of_txn h u (λ v. has_site v.sites a.site ≡ true) same (member same) in
            let inside : is_within r.acked h.txn.sites ≡ true = within_trans r.acked r.to h.txn.sites ok.among ok.within in
            let weighs : is_quorum a.weights (a.site ∷ r.acked) h.txn.sites ≡ true = of_txn h u (λ v. is_quorum a.weights (a.site ∷ r.acked) v.sites ≡ true) same most in
            rw (here, inside, apart, ok.apart, weighs) refl

        acks : r.dir ≡ d → (y : ℕ) → IsIn y (a.site ∷ r.acked) → ((y ≡ a.site) × IsIn (Attempt r.n d) (notes_now h made)) ⊎ Came h.before.sent y a.site (Ack r.n d)
        acks dir y (inl e) = inl (e, in_behind (Attempt r.n d) (own_log h) (notes_of h.txn (leader h) made.records) (subst (λ z. IsIn (Attempt r.n z) (own_log h)) dir ok.own))
        acks dir y (inr k) = inr (subst (λ z. Came h.before.sent y a.site (Ack r.n z)) dir (ok.acks y k))

    decides : (r : Round) → (h.txn ≡ u → RoundStands h r) → (b : Bool) → (r.n == n && same_dir r.dir d && may_decide a u d made && is_quorum a.weights (a.site ∷ r.acked) u.sites) ≡ b
        → Good h (if b then and_cast a r.to (msg.Decide u d) (and_decide a u d made) else made)
    decides r ok true is =
        let p = and_parts (r.n == n && same_dir r.dir d && may_decide a u d made) (is_quorum a.weights (a.site ∷ r.acked) u.sites) is in
        let q = and_parts (r.n == n && same_dir r.dir d) (may_decide a u d made) p.0 in
        let k = and_parts (r.n == n) (same_dir r.dir d) q.0 in
        keep_decide_cast h made u d r.to good (λ same. wins r same (ok same) k.1 q.1 p.1)
    decides r ok false is = good

    stands : (r : Round) → round_in_progress a.site u a.life.steps ≡ Some r → h.txn ≡ u → RoundStands h (count_ack r f n d)
    stands r is same =
        let ok : RoundOk h (Some r) = subst (λ o. RoundOk h o) (of_txn h u (λ v. round_in_progress a.site v a.life.steps ≡ Some r) same is) (round_stands h s) in
        ack_counts h r f n d (came same) ok

    by : (o : Option Round) → round_in_progress a.site u a.life.steps ≡ o → Good h (on_ack a f u n d made)
    by None is = rw is good
    by (Some r) is = rw is (decides (count_ack r f n d) (stands r is)
        ((count_ack r f n d).n == n && same_dir (count_ack r f n d).dir d && may_decide a u d made && is_quorum a.weights (a.site ∷ (count_ack r f n d).acked) u.sites) refl)
