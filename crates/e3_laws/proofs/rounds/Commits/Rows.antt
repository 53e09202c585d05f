-- What each message of a commit round makes a site do, and a message of another transaction.
use Rattle.std.proofs.Common.{◌≡◌, ◌⊎◌, ◌==◌, ◌&&◌, ◌||◌, ◌∷◌, ◌++◌, [], ℕ, Bool, true, false, not, List, Option, Some, None, refl, ap, sym, subst, ◌∙◌, append-nil, map, if◌then◌else◌, inl, inr, true≢false}
use Rattle.std.specs.List.{list_all}
use Rattle.e3_types.specs.declared.entries.Told.{Told}
use Rattle.e3_types.specs.declared.entries.Told.TheVariants as told
use Rattle.e3_types.specs.declared.messages.Message.{Message}
use Rattle.e3_types.specs.declared.messages.Message.TheVariants as msg
use Rattle.e3_types.specs.declared.records.Record.TheVariants as log
use Rattle.e3_types.specs.declared.transactions.Answer.{Answer}
use Rattle.e3_types.specs.declared.transactions.Dir.{Dir}
use Rattle.e3_types.specs.declared.transactions.Dir.TheVariants.{Abort, Commit}
use Rattle.e3_types.specs.declared.transactions.NumOp.{NumOp}
use Rattle.e3_types.specs.declared.transactions.State.TheVariants.{W}
use Rattle.e3_types.specs.declared.transactions.Txn.{Txn}
use Rattle.e3_types.specs.Quorums.{is_quorum}
use Rattle.e3_types.specs.Same.{same_dir, same_state, same_txn}
use Rattle.e3_types.specs.Sets.{is_within, others}
use Rattle.e3_world.specs.Gatherings.{Round}
use Rattle.e3_world.specs.declared.lives.At.{At}
use Rattle.e3_world.specs.declared.lives.Expected.{Expected}
use Rattle.e3_world.specs.declared.lives.Made.{Made}
use Rattle.e3_world.specs.Logs.{decision, has_voted, is_undecided, last_attempt, last_elected}
use Rattle.e3_world.specs.Making.{nothing, and_abort_for, and_attempt, and_decide, and_record, and_tell, attempt_now, elected_now, is_coordinator, is_present, may_abort, may_attempt, may_decide, open_now, state_now, steps_now}
use Rattle.e3_world.specs.Messages.{on_message}
use Rattle.e3_world.specs.Operations.{done, expected}
use Rattle.e3_world.specs.Rounds.{count_ack, round_in_progress}
use Rattle.e3_world.specs.VoteRules.{vote_rule}
use Rattle.e3_world.specs.Votes.{yes_votes}
use Rattle.e3_world.proofs.Turns.{self}
use Rattle.e3_laws.proofs.rounds.Phases.Rows.{cast_is, mail, makes, now_elected, now_state, no_win, now_open}
use Rattle.e3_laws.proofs.rounds.Commits.Beside.{is_other, other_packet}
use Rattle.e3_laws.proofs.rounds.Commits.Logs.{OfOther, Says, is_c, is_pa, is_pc, is_q, is_w}

pub open_says : (a : At) (t : Txn) (d : Option Dir) (v : Bool) → Says t a.life.log None d v → open_now a t nothing ≡ true
open_says a t d v says = now_open a t ∙ rw (says.decided) refl

pub closed_says : (a : At) (t : Txn) → decision t a.life.log ≡ Some Commit → open_now a t nothing ≡ false
closed_says a t is = now_open a t ∙ rw is refl

-- a site that is asked for its vote
pub row_request : (a : At) (f : ℕ) (t : Txn) (inc count : ℕ) → (f == a.site) ≡ false → Says t a.life.log None None false → vote_rule a t inc count nothing ≡ true →
    on_message a f (msg.VoteReq t inc count) nothing
    ≡ makes (log.Vote t (map (λ p. let o : NumOp = record { n = p.n; op = p.op } in o) (done a.site t a.life.steps)) ∷ []) (mail a.site (msg.Vote t true) f ∷ [])
row_request a f t inc count away says may = rw (now_state a t, is_q t a.life.log says, now_elected a t, says.joined) (rw may (rw away refl))

-- one that has voted
pub row_request_voted : (a : At) (f : ℕ) (t : Txn) (inc count : ℕ) (d : Option Dir) → (f == a.site) ≡ false → Says t a.life.log None d true →
    (on_message a f (msg.VoteReq t inc count) nothing ≡ makes [] (mail a.site (msg.Vote t true) f ∷ [])) ⊎ (on_message a f (msg.VoteReq t inc count) nothing ≡ nothing)
row_request_voted a f t inc count None away says = inl (rw (now_state a t, is_w t a.life.log says, now_elected a t, says.joined) (rw away refl))
row_request_voted a f t inc count (Some Commit) away says = inr (rw (now_state a t, is_pc t a.life.log says) refl)
row_request_voted a f t inc count (Some Abort) away says = inr (rw (now_state a t, is_pa t a.life.log says) refl)

pub row_request_ended : (a : At) (f : ℕ) (t : Txn) (inc count : ℕ) → decision t a.life.log ≡ Some Commit → on_message a f (msg.VoteReq t inc count) nothing ≡ nothing
row_request_ended a f t inc count is = rw (now_state a t, is_c t a.life.log is) refl

-- a site that is asked to attempt
pub row_prepare : (a : At) (f : ℕ) (t : Txn) (d : Option Dir) → (f == a.site) ≡ false → Says t a.life.log None d true →
    (on_message a f (msg.Pre t 1 Commit) nothing ≡ makes [] (mail a.site (msg.Ack t 1 Commit) f ∷ []))
    ⊎ (on_message a f (msg.Pre t 1 Commit) nothing ≡ makes (log.Attempt t 1 Commit ∷ []) (mail a.site (msg.Ack t 1 Commit) f ∷ []))
row_prepare a f t d away says = by (attempt_now a t nothing == 1) refl
  where
    by : (b : Bool) → (attempt_now a t nothing == 1) ≡ b →
        (on_message a f (msg.Pre t 1 Commit) nothing ≡ makes [] (mail a.site (msg.Ack t 1 Commit) f ∷ []))
        ⊎ (on_message a f (msg.Pre t 1 Commit) nothing ≡ makes (log.Attempt t 1 Commit ∷ []) (mail a.site (msg.Ack t 1 Commit) f ∷ []))
    by true is = inl (rw (open_says a t d true says, now_elected a t, says.joined) (rw (is, away) refl))
    by false is = inr (rw (open_says a t d true says, now_elected a t, says.joined) (rw (is, away) refl))

pub row_prepare_ended : (a : At) (f : ℕ) (t : Txn) → decision t a.life.log ≡ Some Commit → on_message a f (msg.Pre t 1 Commit) nothing ≡ nothing
row_prepare_ended a f t is = rw (closed_says a t is) refl

-- a decision that comes
pub row_end : (a : At) (f : ℕ) (t : Txn) (d : Option Dir) → Says t a.life.log None d true → on_message a f (msg.Decide t Commit) nothing ≡ and_decide a t Commit nothing
row_end a f t d says = rw (open_says a t d true says, ap (has_voted t) (append-nil a.life.log) ∙ says.voted) refl

pub row_end_ended : (a : At) (f : ℕ) (t : Txn) → decision t a.life.log ≡ Some Commit → on_message a f (msg.Decide t Commit) nothing ≡ nothing
row_end_ended a f t is = rw (closed_says a t is) refl

-- what a decision makes
pub record Decides (t : Txn) (dir : Dir) (made : Made) : Type 0 where
  pub records : made.records ≡ log.Decision t dir ∷ []
  pub outs : made.outs ≡ []
  pub own : made.own ≡ []

pub decides : (a : At) (t : Txn) (dir : Dir) → Decides t dir (and_decide a t dir nothing)
decides a t dir = by (is_coordinator a t && is_present a t) refl
  where
    by : (b : Bool) → (is_coordinator a t && is_present a t) ≡ b → Decides t dir (and_decide a t dir nothing)
    by true is = rw is (record { records = refl; outs = refl; own = refl })
    by false is = rw is (record { records = refl; outs = refl; own = refl })

-- a yes at the coordinator, where others are awaited
pub row_yes : (a : At) (f : ℕ) (t : Txn) (came : List ℕ) → t.site ≡ a.site → Says t a.life.log None None true → yes_votes t (steps_now a nothing) ≡ Some came →
    is_within (others a.site t.sites) came ≡ false → on_message a f (msg.Vote t true) nothing ≡ nothing
row_yes a f t came home says gathered few =
    rw (home_is a t home, now_state a t, is_w t a.life.log says, now_elected a t, says.joined) (rw gathered (rw few refl))
  where
    home_is : (a : At) (t : Txn) → t.site ≡ a.site → (t.site == a.site) ≡ true
    home_is a t home = ap (λ n. n == a.site) home ∙ self a.site

-- the last yes
pub row_last_yes : (a : At) (f : ℕ) (t : Txn) (came : List ℕ) → t.site ≡ a.site → Says t a.life.log None None true → yes_votes t (steps_now a nothing) ≡ Some came →
    is_within (others a.site t.sites) came ≡ true → on_message a f (msg.Vote t true) nothing ≡ and_attempt a t 1 Commit t.sites nothing
row_last_yes a f t came home says gathered all =
    ap by cond_is ∙ ap count gathered ∙ ap (λ b. if b then and_attempt a t 1 Commit t.sites nothing else nothing) all
  where
    count : Option (List ℕ) → Made
    count None = nothing
    count (Some came) = if is_within (others a.site t.sites) came then and_attempt a t 1 Commit t.sites nothing else nothing

    by : Bool → Made
    by true = count (yes_votes t (steps_now a nothing))
    by false = nothing

    cond_is : (is_coordinator a t && same_state (state_now a t nothing) W && elected_now a t nothing == 1) ≡ true
    cond_is = rw (ap (λ n. n == a.site) home ∙ self a.site, now_state a t, is_w t a.life.log says, now_elected a t, says.joined) refl

-- a yes that comes late
pub row_late_yes : (a : At) (f : ℕ) (t : Txn) → t.site ≡ a.site → Says t a.life.log None (Some Commit) true → on_message a f (msg.Vote t true) nothing ≡ nothing
row_late_yes a f t home says = rw (ap (λ n. n == a.site) home ∙ self a.site, now_state a t, is_pc t a.life.log says) refl

pub row_yes_ended : (a : At) (f : ℕ) (t : Txn) → t.site ≡ a.site → decision t a.life.log ≡ Some Commit → on_message a f (msg.Vote t true) nothing ≡ nothing
row_yes_ended a f t home is = rw (ap (λ n. n == a.site) home ∙ self a.site, now_state a t, is_c t a.life.log is) refl

-- the attempt
may_try : (a : At) (t : Txn) (made : Made) → is_undecided t (a.life.log ++ made.records) ≡ true → last_elected t (a.life.log ++ made.records) ≡ 1 → last_attempt t (a.life.log ++ made.records) ≡ 0 →
    may_attempt a t 1 made ≡ true
may_try a t made undecided joined none = rw (undecided, joined, none) refl

pub attempt_asks : (a : At) (t : Txn) (made : Made) → is_undecided t (a.life.log ++ made.records) ≡ true → last_elected t (a.life.log ++ made.records) ≡ 1 → last_attempt t (a.life.log ++ made.records) ≡ 0 →
    is_quorum a.weights (a.site ∷ []) t.sites ≡ false →
    and_attempt a t 1 Commit t.sites made
    ≡ record made { records = made.records ++ log.Attempt t 1 Commit ∷ []; outs = made.outs ++ map (mail a.site (msg.Pre t 1 Commit)) (others a.site t.sites) }
attempt_asks a t made undecided joined none alone = rw (may_try a t made undecided joined none) (rw alone (cast_is a (msg.Pre t 1 Commit) t.sites (and_record (log.Attempt t 1 Commit) made)))

pub attempt_ends : (a : At) (t : Txn) (made : Made) → is_undecided t (a.life.log ++ made.records) ≡ true → last_elected t (a.life.log ++ made.records) ≡ 1 → last_attempt t (a.life.log ++ made.records) ≡ 0 →
    is_quorum a.weights (a.site ∷ []) t.sites ≡ true →
    and_attempt a t 1 Commit t.sites made
    ≡ record (and_decide a t Commit (and_record (log.Attempt t 1 Commit) made)) {
      outs = (and_decide a t Commit (and_record (log.Attempt t 1 Commit) made)).outs ++ map (mail a.site (msg.Decide t Commit)) (others a.site t.sites);
    }
attempt_ends a t made undecided joined none alone =
    rw (may_try a t made undecided joined none) (rw alone (cast_is a (msg.Decide t Commit) t.sites (and_decide a t Commit (and_record (log.Attempt t 1 Commit) made))))

-- a decision behind other records
pub record DecidesMore (t : Txn) (dir : Dir) (was made : Made) : Type 0 where
  pub records : made.records ≡ was.records ++ log.Decision t dir ∷ []
  pub outs : made.outs ≡ was.outs
  pub own : made.own ≡ was.own

pub decides_more : (a : At) (t : Txn) (dir : Dir) (was : Made) → DecidesMore t dir was (and_decide a t dir was)
decides_more a t dir was = by (is_coordinator a t && is_present a t) refl
  where
    by : (b : Bool) → (is_coordinator a t && is_present a t) ≡ b → DecidesMore t dir was (and_decide a t dir was)
    by true is = rw is (record { records = refl; outs = refl; own = refl })
    by false is = rw is (record { records = refl; outs = refl; own = refl })

closed_win : (b c d : Bool) → (b && c && false && d) ≡ false
closed_win true true d = refl
closed_win true false d = refl
closed_win false c d = refl

pub row_ack : (a : At) (f : ℕ) (t : Txn) (r : Round) → round_in_progress a.site t a.life.steps ≡ Some r → is_quorum a.weights (a.site ∷ (count_ack r f 1 Commit).acked) t.sites ≡ false →
    on_message a f (msg.Ack t 1 Commit) nothing ≡ nothing
row_ack a f t r gathers few =
    let q : Round = count_ack r f 1 Commit in
    rw gathers (rw (few, no_win (q.n == 1) (same_dir q.dir Commit) (may_decide a t Commit nothing)) refl)

pub row_win : (a : At) (f : ℕ) (t : Txn) (r : Round) (d : Option Dir) → round_in_progress a.site t a.life.steps ≡ Some r → ((count_ack r f 1 Commit).n == 1) ≡ true →
    same_dir (count_ack r f 1 Commit).dir Commit ≡ true → Says t a.life.log None d true → is_quorum a.weights (a.site ∷ (count_ack r f 1 Commit).acked) t.sites ≡ true →
    on_message a f (msg.Ack t 1 Commit) nothing
    ≡ record (and_decide a t Commit nothing) { outs = (and_decide a t Commit nothing).outs ++ map (mail a.site (msg.Decide t Commit)) (others a.site (count_ack r f 1 Commit).to) }
row_win a f t r d gathers same_n same_d says enough =
    let q : Round = count_ack r f 1 Commit in
    let may : may_decide a t Commit nothing ≡ true = rw (open_says a t d true says, ap (has_voted t) (append-nil a.life.log) ∙ says.voted) refl in
    rw gathers (rw (same_n, same_d, may, enough) (cast_is a (msg.Decide t Commit) q.to (and_decide a t Commit nothing)))

pub row_ack_ended : (a : At) (f : ℕ) (t : Txn) → decision t a.life.log ≡ Some Commit → on_message a f (msg.Ack t 1 Commit) nothing ≡ nothing
row_ack_ended a f t is = by (round_in_progress a.site t a.life.steps) refl
  where
    closed : may_decide a t Commit nothing ≡ false
    closed = rw (closed_says a t is) refl

    by : (o : Option Round) → round_in_progress a.site t a.life.steps ≡ o → on_message a f (msg.Ack t 1 Commit) nothing ≡ nothing
    by None gathers = rw gathers refl
    by (Some r) gathers =
        let q : Round = count_ack r f 1 Commit in
        rw gathers (rw (closed, closed_win (q.n == 1) (same_dir q.dir Commit) (is_quorum a.weights (a.site ∷ q.acked) t.sites)) refl)

-- what another transaction's message makes
pub record Foreign (t : Txn) (made : Made) : Type 0 where
  pub own : made.own ≡ []
  pub outs : list_all (other_packet t) made.outs ≡ true
  pub records : OfOther t made.records

foreign_nothing : (t : Txn) → Foreign t nothing
foreign_nothing t = record { own = refl; outs = refl; records = inl refl }

foreign_choice : (t : Txn) (b : Bool) (x y : Made) → Foreign t x → Foreign t y → Foreign t (if b then x else y)
foreign_choice t true x y first second = first
foreign_choice t false x y first second = second

foreign_decide : (t : Txn) (a : At) (u : Txn) (dir : Dir) → same_txn t u ≡ false → Foreign t (and_decide a u dir nothing)
foreign_decide t a u dir other = let d = decides a u dir in record {
  own = d.own;
  outs = ap (list_all (other_packet t)) d.outs;
  records = inr (u, dir, other, d.records);
}

foreign_mails : (t : Txn) (s : ℕ) (u : Txn) (xs : List ℕ) → same_txn t u ≡ false → list_all (other_packet t) (map (mail s (msg.Decide u Abort)) xs) ≡ true
foreign_mails t s u [] other = refl
foreign_mails t s u (x ∷ xs) other = rw other (foreign_mails t s u xs other)

foreign_doom : (t : Txn) (a : At) (u : Txn) (why : Told) → same_txn t u ≡ false → Foreign t (and_abort_for a u why nothing)
foreign_doom t a u why other =
    subst (Foreign t) (sym (cast_is a (msg.Decide u Abort) u.sites (and_tell why (and_record (log.Decision u Abort) nothing))))
    (record { own = refl; outs = foreign_mails t a.site u (others a.site u.sites) other; records = inr (u, Abort, other, refl) })

foreign_done : (t : Txn) (a : At) (f : ℕ) (u : Txn) (n inc : ℕ) (answer : Answer) → same_txn t u ≡ false → Foreign t (on_message a f (msg.Done u n inc answer) nothing)
foreign_done t a f u n inc answer other = by (is_coordinator a u && is_present a u && open_now a u nothing) refl
  where
    earlier : (e : Expected) →
        Foreign t (if e.count == 0 || e.inc == inc then and_tell (told.Op u n answer) nothing else if may_abort a u nothing then and_abort_for a u (told.Doomed u f e.inc inc) nothing else nothing)
    earlier e = foreign_choice t (e.count == 0 || e.inc == inc) _ _ (record { own = refl; outs = refl; records = inl refl })
        (foreign_choice t (may_abort a u nothing) _ nothing (foreign_doom t a u (told.Doomed u f e.inc inc) other) (foreign_nothing t))

    by : (b : Bool) → (is_coordinator a u && is_present a u && open_now a u nothing) ≡ b → Foreign t (on_message a f (msg.Done u n inc answer) nothing)
    by true is = rw is (foreign_choice t _ _ nothing (earlier (expected a.site a.life.inc u a.life.steps f)) (foreign_nothing t))
    by false is = rw is (foreign_nothing t)

pub foreign_message : (t : Txn) (a : At) (f : ℕ) (m : Message) → is_other t m ≡ true → Foreign t (on_message a f m nothing)
foreign_message t a f (msg.Done u n inc answer) other = foreign_done t a f u n inc answer (not_same (same_txn t u) other)
  where
    not_same : (b : Bool) → not b ≡ true → b ≡ false
    not_same true is = absurd (true≢false (sym is))
    not_same false is = refl
foreign_message t a f (msg.Decide u dir) other = foreign_choice t (may_decide a u dir nothing) _ nothing (foreign_decide t a u dir (not_same (same_txn t u) other)) (foreign_nothing t)
  where
    not_same : (b : Bool) → not b ≡ true → b ≡ false
    not_same true is = absurd (true≢false (sym is))
    not_same false is = refl
foreign_message t a f (msg.Do u n op) other = absurd cc
foreign_message t a f (msg.Died u n older) other = absurd cc
foreign_message t a f (msg.Ask u call) other = absurd cc
foreign_message t a f (msg.LastElected u call elected) other = absurd cc
foreign_message t a f (msg.Elected u n) other = absurd cc
foreign_message t a f (msg.Report u n st attempt) other = absurd cc
foreign_message t a f (msg.VoteReq u inc count) other = absurd cc
foreign_message t a f (msg.Vote u said) other = absurd cc
foreign_message t a f (msg.Pre u n dir) other = absurd cc
foreign_message t a f (msg.Ack u n dir) other = absurd cc
