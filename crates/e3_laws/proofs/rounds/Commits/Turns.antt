-- One delivery of a commit round, at a site that is not the coordinator.
use Rattle.std.proofs.Common.{◌≡◌, ◌==◌, ◌||◌, ◌+◌, ◌*◌, ◌≤◌, ◌∷◌, ◌++◌, [], ℕ, suc, Bool, true, false, not, List, Option, Some, None, refl, ap, sym, subst, ◌∙◌, append-nil, if◌then◌else◌, length, eqb-true, eq-eqb, true≢false, arith, nat_le}
use Rattle.std.specs.List.{list_all}
use Rattle.e3_types.specs.declared.entries.Entry.{Entry}
use Rattle.e3_types.specs.declared.entries.Input.TheVariants as input
use Rattle.e3_types.specs.declared.messages.Message.{Message}
use Rattle.e3_types.specs.declared.messages.Message.TheVariants as msg
use Rattle.e3_types.specs.declared.messages.Packet.{Packet}
use Rattle.e3_types.specs.declared.records.Record.{Record}
use Rattle.e3_types.specs.declared.scenarios.Scenario.{Scenario}
use Rattle.e3_types.specs.declared.transactions.Dir.{Dir}
use Rattle.e3_types.specs.declared.transactions.Dir.TheVariants.{Commit}
use Rattle.e3_types.specs.declared.transactions.Txn.{Txn}
use Rattle.e3_types.specs.Sets.{has_site, others}
use Rattle.e3_world.specs.Gatherings.{Round}
use Rattle.e3_world.specs.declared.lives.Expected.{Expected}
use Rattle.e3_world.specs.declared.lives.Made.{Made}
use Rattle.e3_world.specs.Legal.{IsLegal, entry_of}
use Rattle.e3_world.specs.Logs.{decision, last_attempt}
use Rattle.e3_world.specs.Making.{nothing}
use Rattle.e3_world.specs.Messages.{on_message}
use Rattle.e3_world.specs.Moves.{Move, log_by, log_of, moves_of, unnumbered_input}
use Rattle.e3_world.specs.Packets.{pending}
use Rattle.e3_world.specs.Rounds.{round_in_progress}
use Rattle.e3_world.specs.Votes.{yes_votes}
use Rattle.e3_world.specs.Lives.{life_at}
use Rattle.e3_laws.specs.agreement.Logs.{IsIn}
use Rattle.e3_laws.proofs.serial.Step.Steadying.{others_lack}
use Rattle.e3_laws.proofs.steps.Moving.{moves_still, place, place_log}
use Rattle.e3_laws.proofs.rounds.Phases.Rows.{mail}
use Rattle.e3_laws.proofs.rounds.Commits.Beside.{brings_none}
use Rattle.e3_laws.proofs.rounds.Commits.Effects.{OnceOnly, Stepped, low_delivery, shapes_on, stays, stepped, weight_off}
use Rattle.e3_laws.proofs.rounds.Commits.Logs.{Says}
use Rattle.e3_laws.proofs.rounds.Commits.Packets.{total}
use Rattle.e3_laws.proofs.rounds.Commits.Shapes.{acks, asks, ends, is_shaped, other_shape, prepares, rest_of, votes, weighs, weight_of}
use Rattle.e3_laws.proofs.rounds.Commits.Stages.{Committed, First, Gathers, Ground, Keeps, Second, Stage, StageOne, StageThree, StageTwo, Third, Tries, Voted, bound, carries_other, first_on, second_on, third_on, weight}
use Rattle.e3_laws.proofs.steps.Tests.{same_self}

abbrev pub after : Scenario → List Entry → ℕ → Packet → List Entry
after sc h s p = h ++ entry_of sc h s (input.Deliver p) ∷ []

pub record Turn (sc : Scenario) (t : Txn) (h : List Entry) (s : ℕ) (p : Packet) : Type 0 where
  pub ground : Ground sc t h
  pub has : IsIn p (pending sc h)
  pub once : OnceOnly sc t h (entry_of sc h s (input.Deliver p))
  pub legal : IsLegal sc (after sc h s p)

pub steps : (sc : Scenario) (t : Txn) (h : List Entry) (s : ℕ) (p : Packet) (was : Made) → Turn sc t h s p → has_site t.sites s ≡ true →
    brings_none (unnumbered_input (input.Deliver p)) ≡ true → on_message (place sc h s (input.Deliver p)) p.«from» p.msg nothing ≡ was → was.own ≡ [] → Stepped sc t h s (input.Deliver p) was
steps sc t h s p was turn member brings is none =
    stepped sc t h s (input.Deliver p) was turn.ground.counted turn.once (low_delivery sc h p turn.ground.counted turn.has) brings (turn.ground.still s member) is none

pub keep : (sc : Scenario) (t : Txn) (h : List Entry) (s : ℕ) (p : Packet) (P : Packet → Bool) → Turn sc t h s p → P p ≡ false → Keeps sc h (after sc h s p) P
keep sc t h s p P turn fails some = stays sc h s p P turn.ground.counted turn.has fails some

-- the coordinator, whose moves are the same
pub gathers_same : (sc : Scenario) (t : Txn) (h k : List Entry) (came : List ℕ) → moves_of sc k t.site ≡ moves_of sc h t.site → Gathers sc t h came → Gathers sc t k came
gathers_same sc t h k came same g = record {
  says = subst (λ (m : List Move). Says t (log_by m) None None true) (sym same) g.says;
  untried = ap (λ (m : List Move). last_attempt t (log_by m)) same ∙ g.untried;
  gathered = ap (λ (m : List Move). yes_votes t (life_at m).steps) same ∙ g.gathered;
  few = g.few;
}

pub tries_same : (sc : Scenario) (t : Txn) (h k : List Entry) (r : Round) → moves_of sc k t.site ≡ moves_of sc h t.site → Tries sc t h r → Tries sc t k r
tries_same sc t h k r same g = record {
  says = subst (λ (m : List Move). Says t (log_by m) None (Some Commit) true) (sym same) g.says;
  gathers = ap (λ (m : List Move). round_in_progress t.site t (life_at m).steps) same ∙ g.gathers;
  first = g.first;
  commits = g.commits;
  to = g.to;
  few = g.few;
}

pub member_of : (t : Txn) (y : ℕ) → has_site (rest_of t) y ≡ true → has_site t.sites y ≡ true
member_of t y has = go t.sites has
  where
    go : (xs : List ℕ) → has_site (others t.site xs) y ≡ true → has_site xs y ≡ true
    go [] has = has
    go (x ∷ xs) has = by (λ more. go xs more) (x == t.site) refl (x == y) refl has
      where
        by : (has_site (others t.site xs) y ≡ true → has_site xs y ≡ true) → (b : Bool) → (x == t.site) ≡ b → (c : Bool) → (x == y) ≡ c → has_site (others t.site (x ∷ xs)) y ≡ true → has_site (x ∷ xs) y ≡ true
        by more b e true f has = rw f refl
        by more true e false f has = rw f (more (ap (λ c. has_site (if not c then x ∷ others t.site xs else others t.site xs) y) (sym e) ∙ has))
        by more false e false f has = rw f (more (ap (λ c. c || has_site (others t.site xs) y) (sym f) ∙ ap (λ c. has_site (if not c then x ∷ others t.site xs else others t.site xs) y) (sym e) ∙ has))

pub apart : (t : Txn) (y : ℕ) → has_site (rest_of t) y ≡ true → (y == t.site) ≡ false
apart t y has = by (y == t.site) refl
  where
    by : (b : Bool) → (y == t.site) ≡ b → (y == t.site) ≡ false
    by true is = absurd (others_lack t.site y t.sites has (eqb-true y t.site is))
    by false is = is

pub turn_round : (n m : ℕ) → (n == m) ≡ false → (m == n) ≡ false
turn_round n m is = by (m == n) refl
  where
    by : (b : Bool) → (m == n) ≡ b → (m == n) ≡ false
    by true same = absurd (true≢false (sym (eq-eqb n m (sym (eqb-true m n same))) ∙ is))
    by false same = same

-- a site's step, where the others and the coordinator stand as they did
pub record AtSite (sc : Scenario) (t : Txn) (wants : ℕ → Expected) (h : List Entry) (p : Packet) (was : Made) : Type 0 where
  pub turn : Turn sc t h p.to p
  pub here : has_site (rest_of t) p.to ≡ true
  pub done : Stepped sc t h p.to (input.Deliver p) was
  pub lighter : suc (total (weight_of t) was.outs) ≤ weight_of t p
  pub asks_not : (y : ℕ) → (p.to == y) ≡ false → asks t y p ≡ false
  pub votes_not : (y : ℕ) → votes t y p ≡ false
  pub prepares_not : (y : ℕ) → (p.to == y) ≡ false → prepares t y p ≡ false
  pub acks_not : (y : ℕ) → acks t y p ≡ false
  pub ends_not : (y : ℕ) → (p.to == y) ≡ false → ends t y p ≡ false

pub each_site : (F : ℕ → Type 0) (t : Txn) (s : ℕ) → F s → ((y : ℕ) → has_site (rest_of t) y ≡ true → (s == y) ≡ false → F y) → (y : ℕ) → has_site (rest_of t) y ≡ true → F y
each_site F t s this others y has = by (s == y) refl
  where
    by : (b : Bool) → (s == y) ≡ b → F y
    by true is = subst F (eqb-true s y is) this
    by false is = others y has is

home_still : (sc : Scenario) (t : Txn) (wants : ℕ → Expected) (h : List Entry) (p : Packet) (was : Made) → AtSite sc t wants h p was → moves_of sc (after sc h p.to p) t.site ≡ moves_of sc h t.site
home_still sc t wants h p was at = moves_still sc h p.to t.site (input.Deliver p) (apart t p.to at.here)

lighter_by : (sc : Scenario) (t : Txn) (wants : ℕ → Expected) (h : List Entry) (p : Packet) (was : Made) → AtSite sc t wants h p was →
    suc (weight sc t (after sc h p.to p)) ≤ weight sc t h
lighter_by sc t wants h p was at =
    let off : weight sc t (after sc h p.to p) + weight_of t p ≤ weight sc t h + total (weight_of t) was.outs = weight_off sc t h p.to p was.outs (weight_of t) (weighs t) at.done.sends at.turn.has in
    let less : suc (total (weight_of t) was.outs) ≤ weight_of t p = at.lighter in
    omega (arith, off, less)

pub site_one : (sc : Scenario) (t : Txn) (wants : ℕ → Expected) (h : List Entry) (p : Packet) (was : Made) (n : ℕ) → AtSite sc t wants h p was → (o : StageOne sc t wants h n) →
    list_all (is_shaped t wants 1) was.outs ≡ true → First sc t wants (after sc h p.to p) o.came p.to → Stage sc t wants (after sc h p.to p) (suc n)
site_one sc t wants h p was n at o shaped now = Stage.One (record {
  came = o.came;
  leads = gathers_same sc t h (after sc h p.to p) o.came (home_still sc t wants h p was at) o.leads;
  each = each_site (First sc t wants (after sc h p.to p) o.came) t p.to now (λ y has other.
      first_on sc t wants h (after sc h p.to p) o.came o.came y (carries_other sc t h p.to y (input.Deliver p) other)
      (keep sc t h p.to p (asks t y) at.turn (at.asks_not y other)) (keep sc t h p.to p (votes t y) at.turn (at.votes_not y)) (λ x. x) (o.each y has));
  shaped = shapes_on sc t h p.to (input.Deliver p) was.outs (is_shaped t wants 1) at.done.sends (λ q k. refl) shaped (other_shape t wants 1) o.shaped;
  few = (let less : suc (weight sc t (after sc h p.to p)) ≤ weight sc t h = lighter_by sc t wants h p was at in let few : n + weight sc t h + 3 * length (rest_of t) ≤ bound t = o.few in omega (arith, less, few));
})

pub site_two : (sc : Scenario) (t : Txn) (wants : ℕ → Expected) (h : List Entry) (p : Packet) (was : Made) (n : ℕ) → AtSite sc t wants h p was → (o : StageTwo sc t wants h n) →
    list_all (is_shaped t wants 2) was.outs ≡ true → Second sc t (after sc h p.to p) o.round.acked p.to → Stage sc t wants (after sc h p.to p) (suc n)
site_two sc t wants h p was n at o shaped now = Stage.Two (record {
  round = o.round;
  leads = tries_same sc t h (after sc h p.to p) o.round (home_still sc t wants h p was at) o.leads;
  each = each_site (Second sc t (after sc h p.to p) o.round.acked) t p.to now (λ y has other.
      second_on sc t h (after sc h p.to p) o.round.acked o.round.acked y (carries_other sc t h p.to y (input.Deliver p) other)
      (keep sc t h p.to p (prepares t y) at.turn (at.prepares_not y other)) (keep sc t h p.to p (acks t y) at.turn (at.acks_not y)) (λ x. x) (o.each y has));
  shaped = shapes_on sc t h p.to (input.Deliver p) was.outs (is_shaped t wants 2) at.done.sends (λ q k. refl) shaped (other_shape t wants 2) o.shaped;
  few = (let less : suc (weight sc t (after sc h p.to p)) ≤ weight sc t h = lighter_by sc t wants h p was at in let few : n + weight sc t h + length (rest_of t) ≤ bound t = o.few in omega (arith, less, few));
})

pub site_three : (sc : Scenario) (t : Txn) (wants : ℕ → Expected) (h : List Entry) (p : Packet) (was : Made) (n : ℕ) → AtSite sc t wants h p was → (o : StageThree sc t wants h n) →
    list_all (is_shaped t wants 3) was.outs ≡ true → Third sc t (after sc h p.to p) p.to → Stage sc t wants (after sc h p.to p) (suc n)
site_three sc t wants h p was n at o shaped now = Stage.Three (record {
  leads = ap (λ (m : List Move). decision t (log_by m)) (home_still sc t wants h p was at) ∙ o.leads;
  each = each_site (Third sc t (after sc h p.to p)) t p.to now (λ y has other.
      third_on sc t h (after sc h p.to p) y (carries_other sc t h p.to y (input.Deliver p) other)
      (keep sc t h p.to p (ends t y) at.turn (at.ends_not y other)) (o.each y has));
  shaped = shapes_on sc t h p.to (input.Deliver p) was.outs (is_shaped t wants 3) at.done.sends (λ q k. refl) shaped (other_shape t wants 3) o.shaped;
  few = (let less : suc (weight sc t (after sc h p.to p)) ≤ weight sc t h = lighter_by sc t wants h p was at in let few : n + weight sc t h ≤ bound t = o.few in omega (arith, less, few));
})

-- what is known of the site that takes a packet from the coordinator
pub record Given (sc : Scenario) (t : Txn) (h : List Entry) (p : Packet) : Type 0 where
  pub turn : Turn sc t h p.to p
  pub here : has_site (rest_of t) p.to ≡ true
  pub sender : p.«from» ≡ t.site

pub away_from : (sc : Scenario) (t : Txn) (h : List Entry) (p : Packet) → Given sc t h p → (p.«from» == p.to) ≡ false
away_from sc t h p g = ap (λ n. n == p.to) g.sender ∙ turn_round p.to t.site (apart t p.to g.here)

pub at_place : (sc : Scenario) (t : Txn) (h : List Entry) (p : Packet) (d a : Option Dir) (v : Bool) → Says t (log_of sc h p.to) d a v → Says t (place sc h p.to (input.Deliver p)).life.log d a v
at_place sc t h p d a v says = subst (λ l. Says t l d a v) (sym (place_log sc h p.to (input.Deliver p))) says

pub decided_place : (sc : Scenario) (t : Txn) (h : List Entry) (p : Packet) → Committed sc t h p.to → decision t (place sc h p.to (input.Deliver p)).life.log ≡ Some Commit
decided_place sc t h p is = ap (decision t) (place_log sc h p.to (input.Deliver p)) ∙ is

pub logged : (sc : Scenario) (t : Txn) (h : List Entry) (p : Packet) (was : Made) → Stepped sc t h p.to (input.Deliver p) was → (rs : List Record) → was.records ≡ rs →
    log_of sc (after sc h p.to p) p.to ≡ log_of sc h p.to ++ rs
logged sc t h p was st rs is = st.log ∙ ap (λ l. log_of sc h p.to ++ l) is

pub same_log : (sc : Scenario) (t : Txn) (h : List Entry) (p : Packet) (was : Made) → Stepped sc t h p.to (input.Deliver p) was → was.records ≡ [] → log_of sc (after sc h p.to p) p.to ≡ log_of sc h p.to
same_log sc t h p was st is = logged sc t h p was st [] is ∙ append-nil (log_of sc h p.to)

pub voted_same : (sc : Scenario) (t : Txn) (h : List Entry) (p : Packet) (was : Made) → Stepped sc t h p.to (input.Deliver p) was → was.records ≡ [] → Voted sc t h p.to → Voted sc t (after sc h p.to p) p.to
voted_same sc t h p was st is voted = (voted.0, subst (λ l. Says t l None voted.0 true) (sym (same_log sc t h p was st is)) voted.1)

-- a request: what it makes
pub request_at : (sc : Scenario) (t : Txn) (wants : ℕ → Expected) (h : List Entry) (p : Packet) (was : Made) → Given sc t h p → p.msg ≡ msg.VoteReq t (wants p.to).inc (wants p.to).count →
    on_message (place sc h p.to (input.Deliver p)) p.«from» (msg.VoteReq t (wants p.to).inc (wants p.to).count) nothing ≡ was → was.own ≡ [] → suc (total (weight_of t) was.outs) ≤ 2 → AtSite sc t wants h p was
request_at sc t wants h p was g is row none light = record {
  turn = g.turn;
  here = g.here;
  done = steps sc t h p.to p was g.turn (member_of t p.to g.here) (brings p.msg is) (ap (λ m. on_message (place sc h p.to (input.Deliver p)) p.«from» m nothing) is ∙ row) none;
  lighter = (let weighs_two : weight_of t p ≡ 2 = rw (is) (rw (same_self t) refl) in omega (arith, light, weighs_two));
  asks_not = λ y other. rw is (rw (same_self t, other) refl);
  votes_not = λ y. rw is refl;
  prepares_not = λ y other. rw is refl;
  acks_not = λ y. rw is refl;
  ends_not = λ y other. rw is refl;
}
  where
    brings : (m : Message) → m ≡ msg.VoteReq t (wants p.to).inc (wants p.to).count → brings_none (input.Deliver (record p { number = 0; msg = m })) ≡ true
    brings m e = rw e refl

pub prepare_at : (sc : Scenario) (t : Txn) (wants : ℕ → Expected) (h : List Entry) (p : Packet) (was : Made) → Given sc t h p → p.msg ≡ msg.Pre t 1 Commit →
    on_message (place sc h p.to (input.Deliver p)) p.«from» (msg.Pre t 1 Commit) nothing ≡ was → was.own ≡ [] → suc (total (weight_of t) was.outs) ≤ 2 → AtSite sc t wants h p was
prepare_at sc t wants h p was g is row none light = record {
  turn = g.turn;
  here = g.here;
  done = steps sc t h p.to p was g.turn (member_of t p.to g.here) (brings p.msg is) (ap (λ m. on_message (place sc h p.to (input.Deliver p)) p.«from» m nothing) is ∙ row) none;
  lighter = (let weighs_two : weight_of t p ≡ 2 = rw (is) (rw (same_self t) refl) in omega (arith, light, weighs_two));
  asks_not = λ y other. rw is refl;
  votes_not = λ y. rw is refl;
  prepares_not = λ y other. rw is (rw (same_self t, other) refl);
  acks_not = λ y. rw is refl;
  ends_not = λ y other. rw is refl;
}
  where
    brings : (m : Message) → m ≡ msg.Pre t 1 Commit → brings_none (input.Deliver (record p { number = 0; msg = m })) ≡ true
    brings m e = rw e refl

pub end_at : (sc : Scenario) (t : Txn) (wants : ℕ → Expected) (h : List Entry) (p : Packet) (was : Made) → Given sc t h p → p.msg ≡ msg.Decide t Commit →
    on_message (place sc h p.to (input.Deliver p)) p.«from» (msg.Decide t Commit) nothing ≡ was → was.own ≡ [] → suc (total (weight_of t) was.outs) ≤ 1 → AtSite sc t wants h p was
end_at sc t wants h p was g is row none light = record {
  turn = g.turn;
  here = g.here;
  done = steps sc t h p.to p was g.turn (member_of t p.to g.here) (brings p.msg is) (ap (λ m. on_message (place sc h p.to (input.Deliver p)) p.«from» m nothing) is ∙ row) none;
  lighter = (let weighs_one : weight_of t p ≡ 1 = rw (is) (rw (same_self t) refl) in omega (arith, light, weighs_one));
  asks_not = λ y other. rw is refl;
  votes_not = λ y. rw is refl;
  prepares_not = λ y other. rw is refl;
  acks_not = λ y. rw is refl;
  ends_not = λ y other. rw is (rw (same_self t, other) refl);
}
  where
    brings : (m : Message) → m ≡ msg.Decide t Commit → brings_none (input.Deliver (record p { number = 0; msg = m })) ≡ true
    brings m e = rw e refl

-- the replies
pub vote_light : (t : Txn) (s f : ℕ) → suc (total (weight_of t) (mail s (msg.Vote t true) f ∷ [])) ≤ 2
vote_light t s f = let one : total (weight_of t) (mail s (msg.Vote t true) f ∷ []) ≡ 1 = rw (same_self t) refl in omega (arith, one)

pub ack_light : (t : Txn) (s f : ℕ) → suc (total (weight_of t) (mail s (msg.Ack t 1 Commit) f ∷ [])) ≤ 2
ack_light t s f = let one : total (weight_of t) (mail s (msg.Ack t 1 Commit) f ∷ []) ≡ 1 = rw (same_self t) refl in omega (arith, one)

pub vote_shaped : (t : Txn) (wants : ℕ → Expected) (k s f : ℕ) → f ≡ t.site → has_site (rest_of t) s ≡ true → list_all (is_shaped t wants k) (mail s (msg.Vote t true) f ∷ []) ≡ true
vote_shaped t wants k s f to has = let home : (f == t.site) ≡ true = eq-eqb f t.site to in rw (same_self t, home, has) refl

pub ack_shaped : (t : Txn) (wants : ℕ → Expected) (k s f : ℕ) → f ≡ t.site → has_site (rest_of t) s ≡ true → nat_le 2 k ≡ true → list_all (is_shaped t wants k) (mail s (msg.Ack t 1 Commit) f ∷ []) ≡ true
ack_shaped t wants k s f to has late = let home : (f == t.site) ≡ true = eq-eqb f t.site to in rw (same_self t, home, has, late) refl
