-- Entries that are none of the transaction's: a delivery of another's packet, a fall of another site, a drop. The stage stays.
use Rattle.std.proofs.Common.{◌≡◌, ◌==◌, ◌&&◌, ◌+◌, ◌*◌, ◌≤◌, ◌∷◌, [], ℕ, suc, Bool, true, false, not, List, Option, Some, None, refl, ap, sym, subst, ◌∙◌, length, map, eqb-true, true≢false, arith, inl, inr, fold}
use Rattle.std.specs.List.{list_all}
use Rattle.std.proofs.lemmas.Bool.{and_parts}
use Rattle.e3_types.specs.declared.entries.Entry.{Entry}
use Rattle.e3_types.specs.declared.entries.Input.TheVariants as input
use Rattle.e3_types.specs.declared.entries.Told.{Told}
use Rattle.e3_types.specs.declared.messages.Message.{Message}
use Rattle.e3_types.specs.declared.messages.Message.TheVariants as msg
use Rattle.e3_types.specs.declared.messages.Packet.{Packet}
use Rattle.e3_types.specs.declared.records.Record.{Record}
use Rattle.e3_types.specs.declared.scenarios.Scenario.{Scenario}
use Rattle.e3_types.specs.declared.transactions.Dir.TheVariants.{Commit}
use Rattle.e3_types.specs.declared.transactions.Txn.{Txn}
use Rattle.e3_types.specs.Same.{same_txn}
use Rattle.e3_types.specs.Sets.{has_site}
use Rattle.e3_world.specs.Gatherings.{Round, Rounds}
use Rattle.e3_world.specs.declared.lives.Expected.{Expected}
use Rattle.e3_world.specs.declared.lives.Made.{Made}
use Rattle.e3_world.specs.Legal.{entry_of, made_by, numbered}
use Rattle.e3_world.specs.Logs.{last_attempt}
use Rattle.e3_world.specs.Making.{nothing}
use Rattle.e3_world.specs.Messages.{on_message}
use Rattle.e3_world.specs.Moves.{log_of, moves_of, unnumbered, unnumbered_input}
use Rattle.e3_world.specs.Packets.{outs_of, pending, sent}
use Rattle.e3_world.specs.Rounds.{round_by, round_by_record}
use Rattle.e3_world.specs.Sound.{txn_in}
use Rattle.e3_world.specs.Votes.{yes_by, yes_votes}
use Rattle.e3_world.specs.Lives.{life_at}
use Rattle.e3_net.proofs.Pushing.{sent_push}
use Rattle.e3_laws.specs.agreement.Logs.{IsIn}
use Rattle.e3_laws.proofs.agreement.Refinement.Lists.{in_right}
use Rattle.e3_laws.proofs.steps.Suits.Laws.{go_between}
use Rattle.e3_laws.proofs.agreement.Refinement.Voting.{contains_from_in}
use Rattle.e3_laws.proofs.steps.Moving.{moves_still, place}
use Rattle.e3_laws.specs.steps.Waiting.{is_answer}
use Rattle.e3_laws.proofs.steps.Deciding.{AddsAnswers, is_answer_from, step_adds_answers}
use Rattle.e3_laws.specs.rounds.Commits.{is_packet_of}
use Rattle.e3_laws.proofs.rounds.Commits.Beside.{brings_none, other_packet}
use Rattle.e3_laws.proofs.rounds.Commits.Effects.{Sends, Stepped, low_delivery, sends_all, shapes_on, total_none, weaker, weight_off}
use Rattle.e3_laws.proofs.rounds.Commits.Packets.{total}
use Rattle.e3_laws.proofs.rounds.Commits.Home.{mom, sent_as}
use Rattle.e3_laws.proofs.rounds.Commits.Logs.{OfOther, attempt_still}
use Rattle.e3_laws.proofs.rounds.Commits.Rows.{Foreign, foreign_message}
use Rattle.e3_laws.proofs.rounds.Commits.Shapes.{acks, asks, ends, is_shaped, other_not, other_shape, prepares, rest_of, votes, weighs, weight_of}
use Rattle.e3_laws.proofs.rounds.Commits.Sites.{acks_of, asks_of, ends_of, prepares_of, votes_of}
use Rattle.e3_laws.proofs.rounds.Commits.Stages.{Carries, Gathers, Keeps, Shaped, Stage, Tries, bound, carries_foreign, carries_other, first_on, round_on, second_on, steps_at, third_on, votes_on, weight}
use Rattle.e3_laws.proofs.rounds.Commits.Turns.{Turn, after, gathers_same, keep, member_of, steps, tries_same}
use Rattle.e3_laws.proofs.steps.Tests.{same_is}

-- what an entry leaves as it was
pub record Untouched (sc : Scenario) (t : Txn) (wants : ℕ → Expected) (h k : List Entry) : Type 0 where
  pub carries : (y : ℕ) → has_site t.sites y ≡ true → Carries sc t h k y
  pub gathers : (came : List ℕ) → Gathers sc t h came → Gathers sc t k came
  pub tries : (r : Round) → Tries sc t h r → Tries sc t k r
  pub keeps : (P : Packet → Bool) → ((q : Packet) → P q ≡ true → is_packet_of t q ≡ true) → ((q : Packet) → IsIn q (pending sc h) → P q ≡ true → has_site t.sites q.to ≡ true) → Keeps sc h k P
  pub shaped : (j : ℕ) → Shaped sc t wants h j → Shaped sc t wants k j
  pub lighter : weight sc t k ≤ weight sc t h

to_end : (t : Txn) (y : ℕ) (q : Packet) (b : Bool) → (b && q.to == y) ≡ true → has_site t.sites y ≡ true → has_site t.sites q.to ≡ true
to_end t y q b holds member = ap (has_site t.sites) (eqb-true q.to y (and_parts b (q.to == y) holds).1) ∙ member

asks_to : (t : Txn) (y : ℕ) (q : Packet) → has_site t.sites y ≡ true → asks t y q ≡ true → has_site t.sites q.to ≡ true
asks_to t y q member holds = by q.msg refl
  where
    by : (m : Message) → q.msg ≡ m → has_site t.sites q.to ≡ true
    by (msg.VoteReq u inc count) is = let says : (same_txn t u && q.to == y) ≡ asks t y q = rw is refl in to_end t y q (same_txn t u) (says ∙ holds) member
    by m is = absurd (let off : asks t y q ≡ false = rw is refl in true≢false (sym holds ∙ off))

prepares_to : (t : Txn) (y : ℕ) (q : Packet) → has_site t.sites y ≡ true → prepares t y q ≡ true → has_site t.sites q.to ≡ true
prepares_to t y q member holds = by q.msg refl
  where
    by : (m : Message) → q.msg ≡ m → has_site t.sites q.to ≡ true
    by (msg.Pre u n dir) is = let says : (same_txn t u && q.to == y) ≡ prepares t y q = rw is refl in to_end t y q (same_txn t u) (says ∙ holds) member
    by m is = absurd (let off : prepares t y q ≡ false = rw is refl in true≢false (sym holds ∙ off))

ends_to : (t : Txn) (y : ℕ) (q : Packet) → has_site t.sites y ≡ true → ends t y q ≡ true → has_site t.sites q.to ≡ true
ends_to t y q member holds = by q.msg refl
  where
    by : (m : Message) → q.msg ≡ m → has_site t.sites q.to ≡ true
    by (msg.Decide u dir) is = let says : (same_txn t u && q.to == y) ≡ ends t y q = rw is refl in to_end t y q (same_txn t u) (says ∙ holds) member
    by m is = absurd (let off : ends t y q ≡ false = rw is refl in true≢false (sym holds ∙ off))

votes_to : (t : Txn) (y : ℕ) (q : Packet) → has_site t.sites t.site ≡ true → votes t y q ≡ true → has_site t.sites q.to ≡ true
votes_to t y q member holds = by q.msg refl
  where
    by : (m : Message) → q.msg ≡ m → has_site t.sites q.to ≡ true
    by (msg.Vote u yea) is = let says : (same_txn t u && q.«from» == y && q.to == t.site) ≡ votes t y q = rw is refl in to_end t t.site q (same_txn t u && q.«from» == y) (says ∙ holds) member
    by m is = absurd (let off : votes t y q ≡ false = rw is refl in true≢false (sym holds ∙ off))

acks_to : (t : Txn) (y : ℕ) (q : Packet) → has_site t.sites t.site ≡ true → acks t y q ≡ true → has_site t.sites q.to ≡ true
acks_to t y q member holds = by q.msg refl
  where
    by : (m : Message) → q.msg ≡ m → has_site t.sites q.to ≡ true
    by (msg.Ack u n dir) is = let says : (same_txn t u && q.«from» == y && q.to == t.site) ≡ acks t y q = rw is refl in to_end t t.site q (same_txn t u && q.«from» == y) (says ∙ holds) member
    by m is = absurd (let off : acks t y q ≡ false = rw is refl in true≢false (sym holds ∙ off))

-- so the stage stays
pub stage_on : (sc : Scenario) (t : Txn) (wants : ℕ → Expected) (h k : List Entry) (n : ℕ) → has_site t.sites t.site ≡ true → Untouched sc t wants h k → Stage sc t wants h n → Stage sc t wants k n
stage_on sc t wants h k n home u (Stage.One o) = Stage.One (record {
  came = o.came;
  leads = u.gathers o.came o.leads;
  each = λ y has. first_on sc t wants h k o.came o.came y (u.carries y (member_of t y has))
      (u.keeps (asks t y) (asks_of t y) (λ q i holds. asks_to t y q (member_of t y has) holds)) (u.keeps (votes t y) (votes_of t y) (λ q i holds. votes_to t y q home holds)) (λ x. x) (o.each y has);
  shaped = u.shaped 1 o.shaped;
  few = (let less : weight sc t k ≤ weight sc t h = u.lighter in let few : n + weight sc t h + 3 * length (rest_of t) ≤ bound t = o.few in omega (arith, less, few));
})
stage_on sc t wants h k n home u (Stage.Two o) = Stage.Two (record {
  round = o.round;
  leads = u.tries o.round o.leads;
  each = λ y has. second_on sc t h k o.round.acked o.round.acked y (u.carries y (member_of t y has))
      (u.keeps (prepares t y) (prepares_of t y) (λ q i holds. prepares_to t y q (member_of t y has) holds)) (u.keeps (acks t y) (acks_of t y) (λ q i holds. acks_to t y q home holds)) (λ x. x) (o.each y has);
  shaped = u.shaped 2 o.shaped;
  few = (let less : weight sc t k ≤ weight sc t h = u.lighter in let few : n + weight sc t h + length (rest_of t) ≤ bound t = o.few in omega (arith, less, few));
})
stage_on sc t wants h k n home u (Stage.Three o) = Stage.Three (record {
  leads = (u.carries t.site home).decided (Some Commit) o.leads;
  each = λ y has. third_on sc t h k y (u.carries y (member_of t y has)) (u.keeps (ends t y) (ends_of t y) (λ q i holds. ends_to t y q (member_of t y has) holds)) (o.each y has);
  shaped = u.shaped 3 o.shaped;
  few = (let less : weight sc t k ≤ weight sc t h = u.lighter in let few : n + weight sc t h ≤ bound t = o.few in omega (arith, less, few));
})

-- another transaction's packet adds nothing to what the coordinator gathers
yes_other : (t : Txn) (p : Packet) (w : Option (List ℕ)) (b r : List Record) (o : List Packet) (e : List Told) → other_packet t p ≡ true → yes_by t w (mom b r o e (unnumbered p)) ≡ w
yes_other t p w b r o e other = by p.msg refl
  where
    by : (m : Message) → p.msg ≡ m → yes_by t w (mom b r o e (unnumbered p)) ≡ w
    by (msg.Done u n inc answer) is = ap (λ m. yes_by t w (mom b r o e (sent_as p m))) is
    by (msg.Decide u dir) is = ap (λ m. yes_by t w (mom b r o e (sent_as p m))) is
    by m is = absurd (let off : other_packet t p ≡ false = rw is refl in true≢false (sym other ∙ off))

round_other : (s : ℕ) (t : Txn) (p : Packet) (w : Rounds) (b r : List Record) (o : List Packet) (e : List Told) → other_packet t p ≡ true →
    (round_by s t w (mom b r o e (unnumbered p))).now ≡ fold (round_by_record s t w.group) w.now r
round_other s t p w b r o e other = by p.msg refl
  where
    by : (m : Message) → p.msg ≡ m → (round_by s t w (mom b r o e (unnumbered p))).now ≡ fold (round_by_record s t w.group) w.now r
    by (msg.Done u n inc answer) is = ap (λ m. (round_by s t w (mom b r o e (sent_as p m))).now) is
    by (msg.Decide u dir) is = ap (λ m. (round_by s t w (mom b r o e (sent_as p m))).now) is
    by m is = absurd (let off : other_packet t p ≡ false = rw is refl in true≢false (sym other ∙ off))

fold_other : (s : ℕ) (t : Txn) (group : List ℕ) (x : Option Round) (r : List Record) → OfOther t r → fold (round_by_record s t group) x r ≡ x
fold_other s t group x r (inl none) = ap (fold (round_by_record s t group) x) none
fold_other s t group x r (inr (u, dir, other, is)) = ap (fold (round_by_record s t group) x) is ∙ rw other refl

gathers_other : (sc : Scenario) (t : Txn) (h : List Entry) (p : Packet) (was : Made) (came : List ℕ) → Stepped sc t h t.site (input.Deliver p) was → Foreign t was → other_packet t p ≡ true →
    Carries sc t h (after sc h t.site p) t.site → Gathers sc t h came → Gathers sc t (after sc h t.site p) came
gathers_other sc t h p was came st foreign other carries g = record {
  says = carries.log None None true g.says;
  untried = ap (last_attempt t) st.log ∙ attempt_still t (log_of sc h t.site) was.records 0 foreign.records g.untried;
  gathered = votes_on sc t h (input.Deliver p) ∙ yes_other t p (yes_votes t (steps_at sc h t.site)) (life_at (moves_of sc h t.site)).log (made_by sc h t.site (input.Deliver p)).records (map unnumbered (made_by sc h t.site (input.Deliver p)).outs) (made_by sc h t.site (input.Deliver p)).told other ∙ g.gathered;
  few = g.few;
}

tries_other : (sc : Scenario) (t : Txn) (h : List Entry) (p : Packet) (was : Made) (r : Round) → Stepped sc t h t.site (input.Deliver p) was → Foreign t was → other_packet t p ≡ true →
    Carries sc t h (after sc h t.site p) t.site → Tries sc t h r → Tries sc t (after sc h t.site p) r
tries_other sc t h p was r st foreign other carries g =
    let start : Rounds = fold (round_by t.site t) (record { group = []; now = None }) (steps_at sc h t.site) in record {
      says = carries.log None (Some Commit) true g.says;
      gathers = round_on sc t h (input.Deliver p) ∙ round_other t.site t p start (life_at (moves_of sc h t.site)).log (made_by sc h t.site (input.Deliver p)).records (map unnumbered (made_by sc h t.site (input.Deliver p)).outs) (made_by sc h t.site (input.Deliver p)).told other
          ∙ ap (λ l. fold (round_by_record t.site t start.group) start.now l) st.beside.records
          ∙ fold_other t.site t start.group start.now was.records foreign.records ∙ g.gathers;
      first = g.first;
      commits = g.commits;
      to = g.to;
      few = g.few;
    }

-- what an outside site sends is none of the transaction's
numbered_in : (m : ℕ) (ps : List Packet) (d : Packet) → IsIn d ps → (k : ℕ) × IsIn (record d { number = k }) (numbered m ps)
numbered_in m [] d has = absurd has
numbered_in m (p ∷ ps) d (inl e) = (m, inl (ap (λ (x : Packet). let y : Packet = record x { number = m } in y) e))
numbered_in m (p ∷ ps) d (inr k) = let rest = numbered_in (suc m) ps d k in (rest.0, inr rest.1)

pub all_in : (P : Packet → Bool) (ps : List Packet) → ((q : Packet) → IsIn q ps → P q ≡ true) → list_all P ps ≡ true
all_in P [] each = refl
all_in P (p ∷ ps) each = rw (each p (inl refl)) (all_in P ps (λ q k. each q (inr k)))

pub one_in : (P : Packet → Bool) (ps : List Packet) (q : Packet) → list_all P ps ≡ true → IsIn q ps → P q ≡ true
one_in P [] q all k = absurd k
one_in P (p ∷ ps) q all (inl e) = ap P e ∙ (and_parts (P p) (list_all P ps) all).0
one_in P (p ∷ ps) q all (inr k) = one_in P ps q (and_parts (P p) (list_all P ps) all).1 k

outside : (sc : Scenario) (t : Txn) (h : List Entry) (s : ℕ) (p : Packet) (was : Made) → Turn sc t h s p → has_site t.sites s ≡ false → Foreign t was →
    on_message (place sc h s (input.Deliver p)) p.«from» p.msg nothing ≡ was → Sends sc t h s (input.Deliver p) was.outs
outside sc t h s p was turn out foreign is = record {
  counted = turn.ground.counted;
  once = turn.once;
  low = low_delivery sc h p turn.ground.counted turn.has;
  dones = follows.dones;
  is = follows.outs;
  others = all_in (other_packet t) follows.dones each;
}
  where
    follows : AddsAnswers (place sc h s (input.Deliver p)) was (made_by sc h s (input.Deliver p))
    follows = step_adds_answers (place sc h s (input.Deliver p)) was is foreign.own

    each : (d : Packet) → IsIn d follows.dones → other_packet t d ≡ true
    each d k = by d.msg refl
      where
        answers : ((d.«from» == s) && is_answer d.msg) ≡ true
        answers = one_in (is_answer_from s) follows.dones d follows.are_answers k

        in_made : IsIn d (made_by sc h s (input.Deliver p)).outs
        in_made = subst (λ l. IsIn d l) (sym follows.outs) (in_right d was.outs follows.dones k)

        in_sent : (n : ℕ) × IsIn (record d { number = n }) (sent (after sc h s p))
        in_sent = let x = numbered_in (suc (length (sent h))) (made_by sc h s (input.Deliver p)).outs d in_made in
            (x.0, subst (λ l. IsIn (record d { number = x.0 }) l) (sym (sent_push h (entry_of sc h s (input.Deliver p)))) (in_right (record d { number = x.0 }) (sent h) (outs_of (entry_of sc h s (input.Deliver p)).act) x.1))

        sender : has_site (txn_in d.msg).sites d.«from» ≡ true
        sender = (go_between sc (after sc h s p) (record d { number = in_sent.0 }) turn.ground.given turn.legal (contains_from_in (sent (after sc h s p)) (record d { number = in_sent.0 }) in_sent.1)).heard.sender

        choose : (u : Txn) → (txn_in d.msg) ≡ u → (b : Bool) → same_txn t u ≡ b → not (same_txn t u) ≡ true
        choose u is_u false other = rw other refl
        choose u is_u true same = absurd (
            let from_is : d.«from» ≡ s = eqb-true d.«from» s (and_parts (d.«from» == s) (is_answer d.msg) answers).0 in
            let member : has_site t.sites s ≡ true = ap (λ (x : Txn). has_site x.sites s) (same_is t u same ∙ sym is_u) ∙ ap (has_site (txn_in d.msg).sites) (sym from_is) ∙ sender in
            true≢false (sym member ∙ out))

        by : (m : Message) → d.msg ≡ m → other_packet t d ≡ true
        by (msg.Done u n inc answer) said_is = rw said_is (choose u (ap txn_in said_is) (same_txn t u) refl)
        by m said_is = absurd (let off : is_answer d.msg ≡ false = rw said_is refl in true≢false (sym (and_parts (d.«from» == s) (is_answer d.msg) answers).1 ∙ off))

-- a delivery of another transaction's packet
pub record Apart (sc : Scenario) (t : Txn) (wants : ℕ → Expected) (h : List Entry) (s : ℕ) (p : Packet) : Type 0 where
  pub untouched : Untouched sc t wants h (after sc h s p)
  pub sends : list_all (other_packet t) (outs_of (entry_of sc h s (input.Deliver p)).act) ≡ true

pub other_on : (sc : Scenario) (t : Txn) (wants : ℕ → Expected) (h : List Entry) (s : ℕ) (p : Packet) → Turn sc t h s p → other_packet t p ≡ true → Apart sc t wants h s p
other_on sc t wants h s p turn other = record {
  untouched = record {
    carries = λ y member. carries y member (s == y) refl;
    gathers = λ came g. gather came (s == t.site) refl g;
    tries = λ r g. try_it r (s == t.site) refl g;
    keeps = λ P of to. keep sc t h s p P turn (fails P of (P p) refl);
    shaped = λ j all. shapes_on sc t h s (input.Deliver p) was.outs (is_shaped t wants j) sends (λ q k. refl) (weaker (other_packet t) (is_shaped t wants j) (other_shape t wants j) was.outs foreign.outs) (other_shape t wants j) all;
    lighter = (
        let off : weight sc t (after sc h s p) + weight_of t p ≤ weight sc t h + total (weight_of t) was.outs = weight_off sc t h s p was.outs (weight_of t) (weighs t) sends turn.has in
        let none : total (weight_of t) was.outs ≡ 0 = total_none (weight_of t) (other_packet t) (λ q o. rw (other_not t q o) refl) was.outs foreign.outs in
        omega (arith, off, none));
  };
  sends = sends_all sc t h s (input.Deliver p) was.outs (other_packet t) sends (λ q k. refl) foreign.outs (λ q o. o);
}
  where
    was : Made
    was = on_message (place sc h s (input.Deliver p)) p.«from» p.msg nothing

    foreign : Foreign t was
    foreign = foreign_message t (place sc h s (input.Deliver p)) p.«from» p.msg other

    brings : brings_none (unnumbered_input (input.Deliver p)) ≡ true
    brings = by p.msg refl
      where
        by : (m : Message) → p.msg ≡ m → brings_none (unnumbered_input (input.Deliver p)) ≡ true
        by (msg.Do u n op) is = absurd (let off : other_packet t p ≡ false = rw is refl in true≢false (sym other ∙ off))
        by m is = ap (λ x. brings_none (input.Deliver (sent_as p x))) is

    st : has_site t.sites s ≡ true → Stepped sc t h s (input.Deliver p) was
    st member = steps sc t h s p was turn member brings refl foreign.own

    sends : Sends sc t h s (input.Deliver p) was.outs
    sends = by (has_site t.sites s) refl
      where
        by : (b : Bool) → has_site t.sites s ≡ b → Sends sc t h s (input.Deliver p) was.outs
        by true member = (st member).sends
        by false out = outside sc t h s p was turn out foreign refl

    carries : (y : ℕ) → has_site t.sites y ≡ true → (b : Bool) → (s == y) ≡ b → Carries sc t h (after sc h s p) y
    carries y member false apart = carries_other sc t h s y (input.Deliver p) apart
    carries y member true same =
        let here : has_site t.sites s ≡ true = ap (has_site t.sites) (eqb-true s y same) ∙ member in
        subst (Carries sc t h (after sc h s p)) (eqb-true s y same) (carries_foreign sc t h s p was (st here) foreign (turn.ground.still s here) brings)

    fails : (P : Packet → Bool) → ((q : Packet) → P q ≡ true → is_packet_of t q ≡ true) → (b : Bool) → P p ≡ b → P p ≡ false
    fails P of false is = is
    fails P of true is = absurd (true≢false (sym (of p is) ∙ other_not t p other))

    gather : (came : List ℕ) → (b : Bool) → (s == t.site) ≡ b → Gathers sc t h came → Gathers sc t (after sc h s p) came
    gather came false apart g = gathers_same sc t h (after sc h s p) came (moves_still sc h s t.site (input.Deliver p) apart) g
    gather came true same g =
        let P : ℕ → Type 0 = λ x. Stepped sc t h x (input.Deliver p) was → Carries sc t h (after sc h x p) t.site → Gathers sc t (after sc h x p) came in
        let at : s ≡ t.site = eqb-true s t.site same in
        let all : P s = subst P (sym at) (λ x c. gathers_other sc t h p was came x foreign other c g) in
        all (st (ap (has_site t.sites) at ∙ turn.ground.home)) (carries t.site turn.ground.home true same)

    try_it : (r : Round) → (b : Bool) → (s == t.site) ≡ b → Tries sc t h r → Tries sc t (after sc h s p) r
    try_it r false apart g = tries_same sc t h (after sc h s p) r (moves_still sc h s t.site (input.Deliver p) apart) g
    try_it r true same g =
        let P : ℕ → Type 0 = λ x. Stepped sc t h x (input.Deliver p) was → Carries sc t h (after sc h x p) t.site → Tries sc t (after sc h x p) r in
        let at : s ≡ t.site = eqb-true s t.site same in
        let all : P s = subst P (sym at) (λ x c. tries_other sc t h p was r x foreign other c g) in
        all (st (ap (has_site t.sites) at ∙ turn.ground.home)) (carries t.site turn.ground.home true same)
