-- What a site does with each message of a round, exactly.
use Rattle.std.proofs.Common.{◌≡◌, ◌==◌, ◌&&◌, ◌++◌, ◌∷◌, [], ℕ, zero, suc, Bool, true, false, List, Some, refl, ap, sym, ◌∙◌, append-nil, append_assoc, fold, map, nat_lt, nat_le, subst, length}
use Rattle.std.specs.List.{list_any}
use Rattle.e3_types.specs.declared.entries.Input.TheVariants as input
use Rattle.e3_types.specs.declared.messages.Message.{Message}
use Rattle.e3_types.specs.declared.messages.Message.TheVariants as msg
use Rattle.e3_types.specs.declared.messages.Packet.{Packet}
use Rattle.e3_types.specs.declared.records.Record.{Record}
use Rattle.e3_types.specs.declared.records.Record.TheVariants as log
use Rattle.e3_types.specs.declared.transactions.Call.{Call}
use Rattle.e3_types.specs.declared.transactions.Dir.{Dir}
use Rattle.e3_types.specs.declared.transactions.Txn.{Txn}
use Rattle.e3_types.specs.declared.entries.Told.TheVariants as told
use Rattle.e3_types.specs.declared.transactions.State.{State}
use Rattle.e3_types.specs.declared.verdicts.Verdict.TheVariants as verdict
use Rattle.e3_types.specs.Verdicts.{verdict_of}
use Rattle.e3_types.specs.Quorums.{is_quorum}
use Rattle.e3_types.specs.Same.{same_dir}
use Rattle.e3_types.specs.Sets.{others}
use Rattle.e3_world.specs.Gatherings.{Election, Round}
use Rattle.e3_world.specs.declared.lives.At.{At}
use Rattle.e3_world.specs.declared.lives.Made.{Made}
use Rattle.e3_world.specs.Elections.{all_heard, all_reported, election_in_progress, greatest_heard, hear, next_call, take_report}
use Rattle.e3_world.specs.Logs.{is_undecided, last_attempt, last_elected, state_of}
use Rattle.e3_world.specs.Making.{nothing, and_cast, and_grants, and_record, and_send, attempt_now, decides, elected_now, may_decide, open_now, state_now}
use Rattle.e3_world.specs.Messages.{on_message}
use Rattle.e3_world.specs.Rounds.{count_ack, round_in_progress}
use Rattle.e3_world.specs.Steps.{handled, on_input, settle, step_at}

-- a packet without its number
abbrev pub mail : ℕ → Message → ℕ → Packet
mail site m to = record { number = 0; «from» = site; to = to; msg = m }

-- a step that makes these records and sends these packets, and tells nothing
abbrev pub makes : List Record → List Packet → Made
makes records outs = record { records = records; outs = outs; told = []; own = [] }

-- where no message waits, the step is what its input makes
pub settle_still : (k : ℕ) (a : At) (made : Made) → made.own ≡ [] → settle k a made ≡ made
settle_still zero a made none = refl
settle_still (suc k) a made none =
    ap (λ l. settle k a (fold (handled a) (record made { own = [] }) l)) none
    ∙ settle_still k a (record made { own = [] }) refl
    ∙ ap (λ l. let same : Made = record made { own = l } in same) (sym none)

pub step_without_grants : (a : At) (made : Made) → on_input a a.input nothing ≡ made → made.own ≡ [] → list_any decides made.records ≡ false → step_at a ≡ made
step_without_grants a made is none undecided =
    ap (λ m. settle 3 a (and_grants a 0 m)) is
    ∙ ap (settle 3 a) (let free : and_grants a 0 made ≡ made = rw undecided refl in free)
    ∙ settle_still 3 a made none

-- a message to several sites
pub cast_is : (a : At) (m : Message) (sites : List ℕ) (made : Made) →
    and_cast a sites m made ≡ record made { outs = made.outs ++ map (mail a.site m) (others a.site sites) }
cast_is a m [] made = ap (λ l. let same : Made = record made { outs = l } in same) (sym (append-nil made.outs))
cast_is a m (s ∷ sites) made = by (cast_is a m sites) (s == a.site) refl
  where
    by : ((more : Made) → and_cast a sites m more ≡ record more { outs = more.outs ++ map (mail a.site m) (others a.site sites) }) → (b : Bool) → (s == a.site) ≡ b →
        and_cast a (s ∷ sites) m made ≡ record made { outs = made.outs ++ map (mail a.site m) (others a.site (s ∷ sites)) }
    by rest true is = rw is (rest made)
    by rest false is =
        rw (is, is) (rest (record made { outs = made.outs ++ mail a.site m s ∷ [] })
        ∙ ap (λ l. let same : Made = record made { outs = l } in same) (append_assoc made.outs (mail a.site m s ∷ []) (map (mail a.site m) (others a.site sites))))

-- what is read at the begin of a step is read off the log
pub now_elected : (a : At) (t : Txn) → elected_now a t nothing ≡ last_elected t a.life.log
now_elected a t = ap (last_elected t) (append-nil a.life.log)

pub now_attempt : (a : At) (t : Txn) → attempt_now a t nothing ≡ last_attempt t a.life.log
now_attempt a t = ap (last_attempt t) (append-nil a.life.log)

pub now_state : (a : At) (t : Txn) → state_now a t nothing ≡ state_of t a.life.log
now_state a t = ap (state_of t) (append-nil a.life.log)

pub now_open : (a : At) (t : Txn) → open_now a t nothing ≡ is_undecided t a.life.log
now_open a t = ap (is_undecided t) (append-nil a.life.log)

-- the step takes this message from this site
pub record Takes (a : At) (f : ℕ) (m : Message) : Type 0 where
  pub packet : Packet
  pub is : a.input ≡ input.Deliver packet
  pub sender : packet.«from» ≡ f
  pub says : packet.msg ≡ m
  pub away : (f == a.site) ≡ false

pub by_message : (a : At) (f : ℕ) (m : Message) (made : Made) → Takes a f m → on_message a f m nothing ≡ made → made.own ≡ [] → list_any decides made.records ≡ false →
    step_at a ≡ made
by_message a f m made took row = step_without_grants a made (
    ap (λ i. on_input a i nothing) took.is
    ∙ ap (λ g. on_message a g took.packet.msg nothing) took.sender
    ∙ ap (λ n. on_message a f n nothing) took.says ∙ row)

-- a call: the site answers with the last number that it joined
pub row_ask : (a : At) (f : ℕ) (t : Txn) (call : Call) → Takes a f (msg.Ask t call) →
    step_at a ≡ makes [] (mail a.site (msg.LastElected t call (last_elected t a.life.log)) f ∷ [])
row_ask a f t call took = by_message a f _ _ took (rw (now_elected a t, took.away) refl) refl refl

-- a greater number: the site joins, and reports its state
pub row_elected : (a : At) (f : ℕ) (t : Txn) (n : ℕ) → Takes a f (msg.Elected t n) → nat_lt (last_elected t a.life.log) n ≡ true →
    step_at a ≡ makes (log.Join t n ∷ []) (mail a.site (msg.Report t n (state_of t a.life.log) (last_attempt t a.life.log)) f ∷ [])
row_elected a f t n took less =
    by_message a f _ _ took (rw (now_elected a t, less, now_state a t, now_attempt a t, took.away) refl) refl refl

-- an attempt that is asked of an undecided site that joined its number: it attempts, and acknowledges
pub row_pre : (a : At) (f : ℕ) (t : Txn) (n : ℕ) (dir : Dir) → Takes a f (msg.Pre t n dir) → is_undecided t a.life.log ≡ true →
    (last_elected t a.life.log == n) ≡ true → (last_attempt t a.life.log == n) ≡ false →
    step_at a ≡ makes (log.Attempt t n dir ∷ []) (mail a.site (msg.Ack t n dir) f ∷ [])
row_pre a f t n dir took undecided joined fresh =
    by_message a f _ _ took (rw (now_open a t, undecided, now_elected a t, joined, now_attempt a t, fresh, took.away) refl) refl refl

-- an acknowledgement that makes no quorum yet
pub no_win : (b c d : Bool) → (b && c && d && false) ≡ false
no_win true true true = refl
no_win true true false = refl
no_win true false d = refl
no_win false c d = refl

pub row_ack : (a : At) (f : ℕ) (t : Txn) (n : ℕ) (dir : Dir) (r : Round) → Takes a f (msg.Ack t n dir) →
    round_in_progress a.site t a.life.steps ≡ Some r → is_quorum a.weights (a.site ∷ (count_ack r f n dir).acked) t.sites ≡ false →
    step_at a ≡ nothing
row_ack a f t n dir r took gathers few =
    let q : Round = count_ack r f n dir in
    by_message a f _ _ took (rw gathers (rw (few, no_win (q.n == n) (same_dir q.dir dir) (may_decide a t dir nothing)) refl)) refl refl

-- an answer to a call behind which others are awaited
pub row_last : (a : At) (f : ℕ) (t : Txn) (call : Call) (number : ℕ) (e more : Election) → Takes a f (msg.LastElected t call number) →
    election_in_progress a.site a.life.inc t a.life.steps ≡ Some e → hear e f call number ≡ Some more → all_heard more ≡ false →
    step_at a ≡ nothing
row_last a f t call number e more took gathers heard few = by_message a f _ _ took (rw gathers (rw heard (rw few refl))) refl refl

-- the Elect of a group of several sites
pub row_elect : (a : At) (t : Txn) (group : List ℕ) → a.input ≡ input.Elect t group → (1 == length group) ≡ false →
    step_at a ≡ makes [] (map (mail a.site (msg.Ask t (next_call a.life.inc a.life.steps))) (others a.site group))
row_elect a t group is several =
    step_without_grants a _ (ap (λ i. on_input a i nothing) is ∙ rw several (cast_is a (msg.Ask t (next_call a.life.inc a.life.steps)) group nothing)) refl refl

-- the last answer: the elector joins the greatest number plus one, and tells the others
pub row_join : (a : At) (f : ℕ) (t : Txn) (call : Call) (number : ℕ) (e more : Election) (s : ℕ) (ss : List ℕ) → Takes a f (msg.LastElected t call number) →
    election_in_progress a.site a.life.inc t a.life.steps ≡ Some e → hear e f call number ≡ Some more → all_heard more ≡ true →
    nat_lt (greatest_heard more) 4294967295 ≡ true → nat_le (last_elected t a.life.log) (greatest_heard more) ≡ true → others a.site more.group ≡ s ∷ ss →
    step_at a ≡ makes (log.Join t (suc (greatest_heard more)) ∷ []) (map (mail a.site (msg.Elected t (suc (greatest_heard more)))) (others a.site more.group))
row_join a f t call number e more s ss took gathers heard all low above several =
    by_message a f _ _ took (rw gathers (rw heard (rw (all, low, now_elected a t, above) (rw several (subst Cast several (cast_is a m more.group joined)))))) refl refl
  where
    m : Message
    m = msg.Elected t (suc (greatest_heard more))

    joined : Made
    joined = and_record (log.Join t (suc (greatest_heard more))) nothing

    Cast : List ℕ → Type 0
    Cast l = fold (λ so_far to. and_send a to m so_far) joined l ≡ record joined { outs = joined.outs ++ map (mail a.site m) l }

-- a report behind which others are awaited
pub row_report : (a : At) (f : ℕ) (t : Txn) (n : ℕ) (st : State) (attempt : ℕ) (e more : Election) → Takes a f (msg.Report t n st attempt) →
    election_in_progress a.site a.life.inc t a.life.steps ≡ Some e → take_report e n (record { site = f; state = st; attempt = attempt }) ≡ Some more →
    all_reported more ≡ false → step_at a ≡ nothing
row_report a f t n st attempt e more took gathers taken few = by_message a f _ _ took (rw gathers (rw taken (rw few refl))) refl refl

-- the last report, where the verdict is that the group is blocked
pub row_block : (a : At) (f : ℕ) (t : Txn) (n : ℕ) (st : State) (attempt : ℕ) (e more : Election) (have total : ℕ) → Takes a f (msg.Report t n st attempt) →
    election_in_progress a.site a.life.inc t a.life.steps ≡ Some e → take_report e n (record { site = f; state = st; attempt = attempt }) ≡ Some more →
    all_reported more ≡ true → verdict_of a.weights t.sites more.reports ≡ verdict.Block have total →
    step_at a ≡ record { records = []; outs = []; told = told.Verdict t n (verdict.Block have total) ∷ []; own = [] }
row_block a f t n st attempt e more have total took gathers taken all blocked = by_message a f _ _ took (rw gathers (rw taken (rw (all, blocked) refl))) refl refl
