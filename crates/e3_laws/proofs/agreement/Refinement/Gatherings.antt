-- What a site gathers for the transaction was sent: the votes that are yes, and the acknowledgements of its round.
use Rattle.std.proofs.Common.{◌≡◌, ◌⊎◌, inl, inr, ◌∷◌, [], ◌++◌, ◌==◌, ◌&&◌, ℕ, Bool, true, false, List, fold, Option, Some, None, refl, sym, subst, if◌then◌else◌, eqb-true}
use Rattle.std.specs.Prelude.{not, option_map}
use Rattle.std.specs.List.{list_any}
use Rattle.std.proofs.lemmas.Bool.{and_parts}
use Rattle.e3_types.specs.declared.entries.Input.{Input}
use Rattle.e3_types.specs.declared.entries.Input.TheVariants as input
use Rattle.e3_types.specs.declared.messages.Message.{Message}
use Rattle.e3_types.specs.declared.messages.Message.TheVariants as msg
use Rattle.e3_types.specs.declared.messages.Packet.{Packet}
use Rattle.e3_types.specs.declared.records.Record.{Record}
use Rattle.e3_types.specs.declared.records.Record.TheVariants as log
use Rattle.e3_types.specs.declared.transactions.Dir.{Dir}
use Rattle.e3_types.specs.declared.transactions.Txn.{Txn}
use Rattle.e3_types.specs.Same.{same_txn, same_dir}
use Rattle.e3_types.specs.Sets.{has_site, is_within, others}
use Rattle.e3_world.specs.declared.lives.Made.{Made}
use Rattle.e3_world.specs.declared.lives.Moment.{Moment}
use Rattle.e3_world.specs.Gatherings.{Round, Rounds}
use Rattle.e3_world.specs.Making.{steps_now}
use Rattle.e3_world.specs.Operations.{is_refusal}
use Rattle.e3_world.specs.Rounds.{count_ack, receivers, round_by_record, round_by, round_in_progress}
use Rattle.e3_world.specs.Votes.{yes_by, yes_votes}
use Rattle.e3_laws.specs.agreement.Logs.{IsIn, Attempt}
use Rattle.e3_laws.specs.agreement.Rules.{Word, Yes, Ack, Came}
use Rattle.e3_laws.specs.agreement.Weights.{differ}
use Rattle.e3_laws.specs.agreement.Views.{words_of, word_if}
use Rattle.e3_laws.specs.agreement.Rows.{Here, own_log, WasHeard, ElectFits, Left, Stands}
use Rattle.e3_laws.proofs.agreement.Refinement.Lists.{same_dir_is}
use Rattle.e3_laws.proofs.agreement.Refinement.Sites.{within_others, away_others, differ_push, within_push, within_trans}
use Rattle.e3_laws.proofs.steps.Tests.{same_is}
use Rattle.e3_laws.proofs.agreement.Protocol.Reached.{in_parts}

-- the word of a message of the transaction
pub in_word : (b : Bool) (w : Word) → b ≡ true → IsIn w (word_if b w)
in_word true w is = inl refl
in_word false w is = cc

-- every site that was gathered has said yes
abbrev pub SaidYes : Here → Option (List ℕ) → Type 0
SaidYes h None = Unit {0}
SaidYes h (Some came) = (y : ℕ) → IsIn y came → Came h.before.sent y h.at.site Yes

yes_choice : (h : Here) (b : Bool) (x y : Option (List ℕ)) → SaidYes h x → SaidYes h y → SaidYes h (if b then x else y)
yes_choice h true x y first second = first
yes_choice h false x y first second = second

yes_more : (h : Here) (f : ℕ) (was : Option (List ℕ)) → Came h.before.sent f h.at.site Yes → SaidYes h was → SaidYes h (option_map (λ sites. sites ++ f ∷ []) was)
yes_more h f None came ok = tt
yes_more h f (Some sites) came ok = λ y k. go y (in_parts y sites (f ∷ []) k)
  where
    go : (y : ℕ) → IsIn y sites ⊎ IsIn y (f ∷ []) → Came h.before.sent y h.at.site Yes
    go y (inl k) = ok y k
    go y (inr (inl e)) = subst (λ z. Came h.before.sent z h.at.site Yes) (sym e) came
    go y (inr (inr e)) = absurd e

yes_step : (h : Here) (was : Option (List ℕ)) (m : Moment) → WasHeard h m.input → SaidYes h was → SaidYes h (yes_by h.txn was m)
yes_step h was m heard ok = by m.input refl
  where
    from : (packet : Packet) (u : Txn) → m.input ≡ input.Deliver packet → packet.msg ≡ msg.Vote u true → same_txn h.txn u ≡ true → Came h.before.sent packet.«from» h.at.site Yes
    from packet u is says same =
        let took : WasHeard h (input.Deliver packet) = subst (λ i. WasHeard h i) is heard in
        took Yes (subst (λ z. IsIn Yes (words_of h.txn z)) (sym says) (in_word (same_txn h.txn u) Yes same))

    counts : (packet : Packet) (u : Txn) → m.input ≡ input.Deliver packet → packet.msg ≡ msg.Vote u true → (b : Bool) → same_txn h.txn u ≡ b
        → SaidYes h (if b then option_map (λ sites. sites ++ packet.«from» ∷ []) was else was)
    counts packet u is says true same = yes_more h packet.«from» was (from packet u is says same) ok
    counts packet u is says false same = ok

    by_msg : (packet : Packet) → m.input ≡ input.Deliver packet → (z : Message) → packet.msg ≡ z → SaidYes h (yes_by h.txn was m)
    by_msg packet is (msg.Do u n op) says = rw (is, says) ok
    by_msg packet is (msg.Done u n inc answer) says = rw (is, says) ok
    by_msg packet is (msg.Died u n older) says = rw (is, says) ok
    by_msg packet is (msg.Ask u call) says = rw (is, says) ok
    by_msg packet is (msg.LastElected u call elected) says = rw (is, says) ok
    by_msg packet is (msg.Elected u n) says = rw (is, says) ok
    by_msg packet is (msg.Report u n st attempt) says = rw (is, says) ok
    by_msg packet is (msg.VoteReq u inc count) says = rw (is, says) ok
    by_msg packet is (msg.Vote u true) says = rw (is, says) (counts packet u is says (same_txn h.txn u) refl)
    by_msg packet is (msg.Vote u false) says = rw (is, says) ok
    by_msg packet is (msg.Pre u n dir) says = rw (is, says) ok
    by_msg packet is (msg.Ack u n dir) says = rw (is, says) ok
    by_msg packet is (msg.Decide u dir) says = rw (is, says) ok

    by : (i : Input) → m.input ≡ i → SaidYes h (yes_by h.txn was m)
    by (input.Begin sites) is = rw is ok
    by (input.Do u op) is = rw is ok
    by (input.Commit u) is = rw is (yes_choice h (same_txn h.txn u && not (list_any is_refusal m.told)) (Some []) was (λ y k. absurd k) ok)
    by (input.Cancel u) is = rw is ok
    by (input.Expire u) is = rw is ok
    by (input.Elect u group) is = rw is ok
    by (input.Deliver packet) is = by_msg packet is packet.msg refl

yes_all : (h : Here) (was : Option (List ℕ)) (steps : List Moment) → ((m : Moment) → IsIn m steps → WasHeard h m.input) → SaidYes h was → SaidYes h (fold (yes_by h.txn) was steps)
yes_all h was [] heard ok = ok
yes_all h was (m ∷ steps) heard ok = yes_all h (yes_by h.txn was m) steps (λ k q. heard k (inr q)) (yes_step h was m (heard m (inl refl)) ok)

-- with the step that is being made
pub heard_now : (h : Here) (made : Made) → Stands h → (m : Moment) → IsIn m (steps_now h.at made) → WasHeard h m.input
heard_now h made s m k = go (in_parts m h.at.life.steps (this ∷ []) k)
  where
    this : Moment
    this = record { before = h.at.life.log; input = h.at.input; records = made.records; outs = made.outs; told = made.told }

    go : IsIn m h.at.life.steps ⊎ IsIn m (this ∷ []) → WasHeard h m.input
    go (inl q) = (s.left m q).heard
    go (inr (inl e)) = subst (λ (z : Moment). WasHeard h z.input) (sym e) s.taken
    go (inr (inr e)) = absurd e

pub yes_said : (h : Here) (made : Made) → Stands h → SaidYes h (yes_votes h.txn (steps_now h.at made))
yes_said h made s = yes_all h None (steps_now h.at made) (heard_now h made s) tt

-- what stands of a round: the own attempt, and the acknowledgements of some of its receivers
pub record RoundStands (h : Here) (r : Round) : Type 0 where
  pub own : IsIn (Attempt r.n r.dir) (own_log h)
  pub within : is_within r.to h.txn.sites ≡ true
  pub away : has_site r.to h.at.site ≡ false
  pub apart : differ r.acked ≡ true
  pub among : is_within r.acked r.to ≡ true
  pub acks : (y : ℕ) → IsIn y r.acked → Came h.before.sent y h.at.site (Ack r.n r.dir)

abbrev pub RoundOk : Here → Option Round → Type 0
RoundOk h None = Unit {0}
RoundOk h (Some r) = RoundStands h r

round_choice : (h : Here) (b : Bool) (x y : Option Round) → RoundOk h x → RoundOk h y → RoundOk h (if b then x else y)
round_choice h true x y first second = first
round_choice h false x y first second = second

-- an acknowledgement more
pub ack_counts : (h : Here) (r : Round) (f n : ℕ) (d : Dir) → Came h.before.sent f h.at.site (Ack n d) → RoundStands h r → RoundStands h (count_ack r f n d)
ack_counts h r f n d came ok = by (r.n == n && same_dir r.dir d && has_site r.to f && not (has_site r.acked f)) refl
  where
    counted : (r.n == n && same_dir r.dir d && has_site r.to f && not (has_site r.acked f)) ≡ true → RoundStands h (record r { acked = r.acked ++ f ∷ [] })
    counted is =
        let p = and_parts (r.n == n && same_dir r.dir d && has_site r.to f) (not (has_site r.acked f)) is in
        let q = and_parts (r.n == n && same_dir r.dir d) (has_site r.to f) p.0 in
        let k = and_parts (r.n == n) (same_dir r.dir d) q.0 in
        record {
          own = ok.own;
          within = ok.within;
          away = ok.away;
          apart = differ_push r.acked f ok.apart p.1;
          among = within_push r.acked r.to f ok.among q.1;
          acks = λ y w. each (eqb-true r.n n k.0) (same_dir_is r.dir d k.1) y (in_parts y r.acked (f ∷ []) w);
        }
      where
        each : r.n ≡ n → r.dir ≡ d → (y : ℕ) → IsIn y r.acked ⊎ IsIn y (f ∷ []) → Came h.before.sent y h.at.site (Ack r.n r.dir)
        each number way y (inl w) = ok.acks y w
        each number way y (inr (inl e)) =
            subst (λ z. Came h.before.sent z h.at.site (Ack r.n r.dir)) (sym e)
            (subst (λ z. Came h.before.sent f h.at.site (Ack z r.dir)) (sym number) (subst (λ z. Came h.before.sent f h.at.site (Ack n z)) (sym way) came))
        each number way y (inr (inr e)) = absurd e

    by : (b : Bool) → (r.n == n && same_dir r.dir d && has_site r.to f && not (has_site r.acked f)) ≡ b → RoundStands h (count_ack r f n d)
    by true is = rw is (counted is)
    by false is = rw is ok

acked_more : (h : Here) (f n : ℕ) (d : Dir) (was : Option Round) → Came h.before.sent f h.at.site (Ack n d) → RoundOk h was → RoundOk h (option_map (λ r. count_ack r f n d) was)
acked_more h f n d None came ok = tt
acked_more h f n d (Some r) came ok = ack_counts h r f n d came ok

-- the receivers are other sites of the transaction
to_within : (h : Here) (group : List ℕ) (n : ℕ) → is_within group h.txn.sites ≡ true → (is_within (receivers h.at.site h.txn group n) h.txn.sites ≡ true) × (has_site (receivers h.at.site h.txn group n) h.at.site ≡ false)
to_within h group n fits = go (n == 1)
  where
    go : (b : Bool) → (is_within (if b then others h.at.site h.txn.sites else others h.at.site group) h.txn.sites ≡ true) × (has_site (if b then others h.at.site h.txn.sites else others h.at.site group) h.at.site ≡ false)
    go true = (within_others h.at.site h.txn.sites, away_others h.at.site h.txn.sites)
    go false = (within_trans (others h.at.site group) group h.txn.sites (within_others h.at.site group) fits, away_others h.at.site group)

round_record : (h : Here) (group : List ℕ) (was : Option Round) (r : Record) → Stands h → is_within group h.txn.sites ≡ true → IsIn r h.at.life.log → RoundOk h was
    → RoundOk h (round_by_record h.at.site h.txn group was r)
round_record h group was (log.Attempt u n d) s fits stands ok = go (same_txn h.txn u) refl
  where
    go : (b : Bool) → same_txn h.txn u ≡ b → RoundOk h (if b then Some (record { n = n; dir = d; to = receivers h.at.site h.txn group n; acked = [] }) else was)
    go true same = record {
      own = s.reads.holds u n d same stands;
      within = (to_within h group n fits).0;
      away = (to_within h group n fits).1;
      apart = refl;
      among = refl;
      acks = λ y k. absurd k;
    }
    go false same = ok
round_record h group was (log.Join u n) s fits stands ok = round_choice h (same_txn h.txn u) None was tt ok
round_record h group was (log.Decision u d) s fits stands ok = round_choice h (same_txn h.txn u) None was tt ok
round_record h group was (log.Vote u ops) s fits stands ok = ok
round_record h group was (log.Birth format site weights rows) s fits stands ok = ok
round_record h group was (log.Inc inc) s fits stands ok = ok

round_records : (h : Here) (group : List ℕ) (was : Option Round) (rs : List Record) → Stands h → is_within group h.txn.sites ≡ true
    → ((r : Record) → IsIn r rs → IsIn r h.at.life.log) → RoundOk h was → RoundOk h (fold (round_by_record h.at.site h.txn group) was rs)
round_records h group was [] s fits stands ok = ok
round_records h group was (r ∷ rs) s fits stands ok =
    round_records h group (round_by_record h.at.site h.txn group was r) rs s fits (λ q k. stands q (inr k)) (round_record h group was r s fits (stands r (inl refl)) ok)

pub record RoundsOk (h : Here) (w : Rounds) : Type 0 where
  pub fits : is_within w.group h.txn.sites ≡ true
  pub now : RoundOk h w.now

round_step : (h : Here) (was : Rounds) (m : Moment) → Stands h → Left h m → RoundsOk h was → RoundsOk h (round_by h.at.site h.txn was m)
round_step h was m s left ok = by m.input refl
  where
    more : (group : List ℕ) (r : Option Round) → is_within group h.txn.sites ≡ true → RoundOk h r → RoundOk h (fold (round_by_record h.at.site h.txn group) r m.records)
    more group r fits fine = round_records h group r m.records s fits left.recorded fine

    from : (packet : Packet) (u : Txn) (n : ℕ) (d : Dir) → m.input ≡ input.Deliver packet → packet.msg ≡ msg.Ack u n d → same_txn h.txn u ≡ true → Came h.before.sent packet.«from» h.at.site (Ack n d)
    from packet u n d is says same =
        let took : WasHeard h (input.Deliver packet) = subst (λ i. WasHeard h i) is left.heard in
        took (Ack n d) (subst (λ z. IsIn (Ack n d) (words_of h.txn z)) (sym says) (in_word (same_txn h.txn u) (Ack n d) same))

    counts : (packet : Packet) (u : Txn) (n : ℕ) (d : Dir) → m.input ≡ input.Deliver packet → packet.msg ≡ msg.Ack u n d → (b : Bool) → same_txn h.txn u ≡ b
        → RoundOk h (if b then option_map (λ r. count_ack r packet.«from» n d) was.now else was.now)
    counts packet u n d is says true same = acked_more h packet.«from» n d was.now (from packet u n d is says same) ok.now
    counts packet u n d is says false same = ok.now

    of_group : (u : Txn) (group : List ℕ) → m.input ≡ input.Elect u group → (b : Bool) → same_txn h.txn u ≡ b → is_within (if b then group else was.group) h.txn.sites ≡ true
    of_group u group is true same =
        let fit : ElectFits h.at.site (input.Elect u group) = subst (λ i. ElectFits h.at.site i) is left.fits in
        subst (λ (v : Txn). is_within group v.sites ≡ true) (sym (same_is h.txn u same)) fit.1
    of_group u group is false same = ok.fits

    by_msg : (packet : Packet) → m.input ≡ input.Deliver packet → (z : Message) → packet.msg ≡ z → RoundsOk h (round_by h.at.site h.txn was m)
    by_msg packet is (msg.Do u n op) says = rw (is, says) (record { fits = ok.fits; now = more was.group was.now ok.fits ok.now })
    by_msg packet is (msg.Done u n inc answer) says = rw (is, says) (record { fits = ok.fits; now = more was.group was.now ok.fits ok.now })
    by_msg packet is (msg.Died u n older) says = rw (is, says) (record { fits = ok.fits; now = more was.group was.now ok.fits ok.now })
    by_msg packet is (msg.Ask u call) says = rw (is, says) (record { fits = ok.fits; now = more was.group was.now ok.fits ok.now })
    by_msg packet is (msg.LastElected u call elected) says = rw (is, says) (record { fits = ok.fits; now = more was.group was.now ok.fits ok.now })
    by_msg packet is (msg.Elected u n) says = rw (is, says) (record { fits = ok.fits; now = more was.group was.now ok.fits ok.now })
    by_msg packet is (msg.Report u n st attempt) says = rw (is, says) (record { fits = ok.fits; now = more was.group was.now ok.fits ok.now })
    by_msg packet is (msg.VoteReq u inc count) says = rw (is, says) (record { fits = ok.fits; now = more was.group was.now ok.fits ok.now })
    by_msg packet is (msg.Vote u true) says = rw (is, says) (record { fits = ok.fits; now = more was.group was.now ok.fits ok.now })
    by_msg packet is (msg.Vote u false) says = rw (is, says) (record { fits = ok.fits; now = more was.group was.now ok.fits ok.now })
    by_msg packet is (msg.Pre u n dir) says = rw (is, says) (record { fits = ok.fits; now = ok.now })
    by_msg packet is (msg.Ack u n dir) says = rw (is, says) (record { fits = ok.fits; now = more was.group (if same_txn h.txn u then option_map (λ r. count_ack r packet.«from» n dir) was.now else was.now) ok.fits (counts packet u n dir is says (same_txn h.txn u) refl) })
    by_msg packet is (msg.Decide u dir) says = rw (is, says) (record { fits = ok.fits; now = more was.group was.now ok.fits ok.now })

    by : (i : Input) → m.input ≡ i → RoundsOk h (round_by h.at.site h.txn was m)
    by (input.Begin sites) is = rw is (record { fits = ok.fits; now = more was.group was.now ok.fits ok.now })
    by (input.Do u op) is = rw is (record { fits = ok.fits; now = more was.group was.now ok.fits ok.now })
    by (input.Commit u) is = rw is (record { fits = ok.fits; now = more was.group was.now ok.fits ok.now })
    by (input.Cancel u) is = rw is (record { fits = ok.fits; now = more was.group was.now ok.fits ok.now })
    by (input.Expire u) is = rw is (record { fits = ok.fits; now = more was.group was.now ok.fits ok.now })
    by (input.Elect u group) is = rw is (let fits : is_within (if same_txn h.txn u then group else was.group) h.txn.sites ≡ true = of_group u group is (same_txn h.txn u) refl in record { fits = fits; now = more (if same_txn h.txn u then group else was.group) was.now fits ok.now })
    by (input.Deliver packet) is = by_msg packet is packet.msg refl

round_all : (h : Here) (was : Rounds) (steps : List Moment) → Stands h → ((m : Moment) → IsIn m steps → Left h m) → RoundsOk h was → RoundsOk h (fold (round_by h.at.site h.txn) was steps)
round_all h was [] s left ok = ok
round_all h was (m ∷ steps) s left ok = round_all h (round_by h.at.site h.txn was m) steps s (λ k q. left k (inr q)) (round_step h was m s (left m (inl refl)) ok)

-- the round in progress before the step
pub round_stands : (h : Here) → Stands h → RoundOk h (round_in_progress h.at.site h.txn h.at.life.steps)
round_stands h s = (round_all h (record { group = []; now = None }) h.at.life.steps s s.left (record { fits = refl; now = tt })).now
