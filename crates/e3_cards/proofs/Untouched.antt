-- A step changes the cards of the transactions that it names, and no others.
use Rattle.std.specs.Prelude.{◌≡◌, ◌==◌, ◌&&◌, ◌||◌, ◌++◌, ◌∷◌, [], if◌then◌else◌, ℕ, suc, Bool, true, false, not, List, length, fold, Option, Some, None}
use Rattle.std.specs.List.{list_any, flat_map}
use Rattle.std.specs.BTreeMap.{is_at}
use Rattle.std.proofs.Common.{refl, ap, sym, ◌∙◌, arith}
use Rattle.std.proofs.lemmas.Grind.{common_steps}
use Rattle.std.proofs.lemmas.List.{append-nil}
use Rattle.std.proofs.lemmas.List.Folds.{list_any-append}
use Rattle.e3_types.specs.declared.entries.Input.{Input}
use Rattle.e3_types.specs.declared.entries.Refusal.{Refusal}
use Rattle.e3_types.specs.declared.entries.Told.{Told}
use Rattle.e3_types.specs.declared.messages.Message.{Message}
use Rattle.e3_types.specs.declared.messages.Packet.{Packet}
use Rattle.e3_types.specs.declared.records.Record.{Record}
use Rattle.e3_types.specs.declared.transactions.Call.{Call}
use Rattle.e3_types.specs.declared.transactions.Op.{Op}
use Rattle.e3_types.specs.declared.transactions.Txn.{Txn}
use Rattle.e3_types.specs.declared.entries.Input.TheVariants as input
use Rattle.e3_types.specs.declared.entries.Told.TheVariants as told
use Rattle.e3_types.specs.declared.messages.Message.TheVariants as msg
use Rattle.e3_types.specs.declared.records.Record.TheVariants as log
use Rattle.e3_types.specs.Same.{same_numbers, same_txn}
use Rattle.e3_types.specs.Sites.{sites_of, bits_of}
use Rattle.e3_types.proofs.SameSites.{same_numbers_refl, same_numbers_eq}
use Rattle.e3_world.specs.Gatherings.{Election, Round, Rounds}
use Rattle.e3_world.specs.declared.lives.SiteStep.{SiteStep}
use Rattle.e3_world.specs.Elections.{is_decision, is_join, tells_verdict}
use Rattle.e3_world.specs.Items.{txn_of_record}
use Rattle.e3_world.specs.Logs.{key_of}
use Rattle.e3_world.specs.Operations.{is_refusal, issued_in, reason_in}
use Rattle.e3_world.specs.Rounds.{round_by, round_by_record}
use Rattle.e3_world.specs.Sound.{txn_in}
use Rattle.e3_readings.specs.Bringing.{asked_in}
use Rattle.e3_readings.specs.Electing.{election_behind, election_taking}
use Rattle.e3_readings.specs.Gathering.{votes_by}
use Rattle.e3_readings.proofs.Tests.{none_left, none_right}
use Rattle.e3_cards.specs.declared.card.Card.{Card}
use Rattle.e3_cards.specs.declared.card.Counted.{Counted}
use Rattle.e3_cards.specs.declared.seen.Seen.{Seen}
use Rattle.e3_cards.specs.Arriving.{came_by, mine, taken_of, heard_in, heard_told, heard_sent}
use Rattle.e3_cards.specs.Cards.{card_by, moment_of}
use Rattle.e3_cards.specs.Electing.{election_now, election_upon, seen_report}
use Rattle.e3_cards.specs.Issued.{number_told, counted_in}
use Rattle.e3_cards.specs.Seeing.{seen_by}
use Rattle.e3_readings.specs.Answering.{answered_txns}
use Rattle.e3_world.specs.Transactions.{IsFoundByBits}
use Rattle.e3_cards.specs.Tables.{txn_key, key_cmp, named, input_txns, told_txns}

-- sets with equal bits are equal
same_known : (t u : Txn) → IsFoundByBits t → IsFoundByBits u → (bits_of t.sites == bits_of u.sites) ≡ same_numbers t.sites u.sites
same_known t u p q =
    let here : bits_of t.sites ≡ bits_of u.sites → same_numbers t.sites u.sites ≡ true =
    λ e. rw (sym p ∙ ap sites_of e ∙ q) (same_numbers_refl u.sites) in
    let back : same_numbers t.sites u.sites ≡ true → bits_of t.sites ≡ bits_of u.sites = λ e. ap bits_of (same_numbers_eq t.sites u.sites e) in
    grind (arith, common_steps, here, back)

-- the order of keys finds a transaction
pub same_key : (t u : Txn) → IsFoundByBits t → IsFoundByBits u → is_at (key_cmp (txn_key t)) (txn_key u) ≡ same_txn t u
same_key t u p q = let e = same_known t u p q in grind (arith, common_steps, e)

unvoted : (s : Seen) → record s { voted = s.voted || false } ≡ s
unvoted s = let v : (s.voted || false) ≡ s.voted = grind (arith, common_steps) in λ i. record s { voted = v i }

-- a record of other transactions says nothing of this one
pub seen_one : (t : Txn) (s : Seen) (r : Record) → list_any (same_txn t) (txn_of_record r) ≡ false → seen_by t s r ≡ s
seen_one t s (log.Vote u ops) e = rw (none_left (same_txn t u) false e) (unvoted s)
seen_one t s (log.Join u n) e = rw (none_left (same_txn t u) false e) (unvoted s)
seen_one t s (log.Attempt u n dir) e = rw (none_left (same_txn t u) false e) (unvoted s)
seen_one t s (log.Decision u dir) e = rw (none_left (same_txn t u) false e) (unvoted s)
seen_one t s _ e = unvoted s

seen_all : (t : Txn) (s : Seen) (rs : List Record) → list_any (same_txn t) (flat_map txn_of_record rs) ≡ false → fold (seen_by t) s rs ≡ s
seen_all t s [] e = refl
seen_all t s (r ∷ rs) e =
    let parts = sym (list_any-append (same_txn t) (txn_of_record r) (flat_map txn_of_record rs)) ∙ e in
    let first = none_left _ _ parts in
    let rest = none_right _ _ parts in
    ap (λ (x : Seen). fold (seen_by t) x rs) (seen_one t s r first) ∙ seen_all t s rs rest

none_flat : {X Y : Type 0} (p : Txn → Bool) (f : X → List Y) (g : X → List Txn) → ((x : X) → list_any p (g x) ≡ false → f x ≡ []) → (xs : List X)
    → list_any p (flat_map g xs) ≡ false → flat_map f xs ≡ []
none_flat p f g h [] e = refl
none_flat p f g h (x ∷ xs) e =
    let parts = sym (list_any-append p (g x) (flat_map g xs)) ∙ e in
    let first = h x (none_left _ _ parts) in
    let rest = none_flat p f g h xs (none_right _ _ parts) in
    rw (first, rest) refl

told_one : (t : Txn) (e : Told) → list_any (same_txn t) (told_txns e) ≡ false → heard_told t e ≡ []
told_one t (told.Op u n answer) e = rw (none_left (same_txn t u) false e) refl
told_one t _ e = refl

sent_one : (t : Txn) (p : Packet) → list_any (same_txn t) (answered_txns p) ≡ false → heard_sent t p ≡ []
sent_one t p e = by p.msg e
  where
    by : (k : Message) → list_any (same_txn t) (answered_txns (record p { msg = k })) ≡ false → heard_sent t (record p { msg = k }) ≡ []
    by (msg.Done u n inc answer) e = rw (none_left (same_txn t u) false e) refl
    by _ e = refl

issued_one : (t : Txn) (i : Input) (events : List Told) → list_any (same_txn t) (input_txns i) ≡ false → issued_in t i events ≡ []
issued_one t (input.Do u op) events e = rw (none_left (same_txn t u) false e) refl
issued_one t _ events e = refl

taken_one : (site : ℕ) (t : Txn) (count : ℕ) (i : Input) (events : List Told) → list_any (same_txn t) (input_txns i) ≡ false → taken_of site t count i events ≡ None
taken_one site t count (input.Do u op) events e = by (not (list_any is_refusal events) && (key_of op).site == site)
  where
    by : (x : Bool) → mine t (if x then Some (record { txn = u; n = suc count; op = op }) else None) ≡ None
    by true = rw (none_left (same_txn t u) false e) refl
    by false = refl
taken_one site t count (input.Deliver packet) events e = by packet.msg e
  where
    by : (k : Message) → list_any (same_txn t) (input_txns (input.Deliver (record packet { msg = k }))) ≡ false → mine t (asked_in k) ≡ None
    by (msg.Do u n op) e = rw (none_left (same_txn t u) false e) refl
    by _ e = refl
taken_one site t count _ events e = refl

counted_one : (t : Txn) (i : Input) (events : List Told) → list_any (same_txn t) (input_txns i) ≡ false → counted_in t i events ≡ []
counted_one t (input.Deliver packet) events e = by packet.msg e
  where
    by : (k : Message) → list_any (same_txn t) (input_txns (input.Deliver (record packet { msg = k }))) ≡ false → counted_in t (input.Deliver (record packet { msg = k })) events ≡ []
    by (msg.Done u n inc answer) e = rw (none_left (same_txn t u) false e) refl
    by _ e = refl
counted_one t _ events e = refl

number_one : (t : Txn) (e : Told) → list_any (same_txn t) (told_txns e) ≡ false → number_told t e ≡ []
number_one t (told.Op u n answer) e = rw (none_left (same_txn t u) false e) refl
number_one t _ e = refl

reason_one : (t : Txn) (e : Told) → list_any (same_txn t) (told_txns e) ≡ false → reason_in t e ≡ []
reason_one t (told.Died u older) e = rw (none_left (same_txn t u) false e) refl
reason_one t (told.Doomed u site had now) e = rw (none_left (same_txn t u) false e) refl
reason_one t _ e = refl

votes_one : (site : ℕ) (t : Txn) (was : Option (List ℕ)) (s : SiteStep) → list_any (same_txn t) (input_txns s.input) ≡ false → votes_by site t was s.input s.told ≡ was
votes_one site t was s e = by s.input e
  where
    by_msg : (packet : Packet) (k : Message) → list_any (same_txn t) (input_txns (input.Deliver (record packet { msg = k }))) ≡ false
        → votes_by site t was (input.Deliver (record packet { msg = k })) s.told ≡ was
    by_msg packet (msg.Vote u true) e = rw (none_left (same_txn t u) false e) refl
    by_msg packet (msg.Vote u false) e = refl
    by_msg packet _ e = refl

    by : (i : Input) → list_any (same_txn t) (input_txns i) ≡ false → votes_by site t was i s.told ≡ was
    by (input.Commit u) e = rw (none_left (same_txn t u) false e) refl
    by (input.Deliver packet) e = by_msg packet packet.msg e
    by _ e = refl

round_one : (site : ℕ) (t : Txn) (group : List ℕ) (was : Option Round) (r : Record) → list_any (same_txn t) (txn_of_record r) ≡ false → round_by_record site t group was r ≡ was
round_one site t group was (log.Attempt u n dir) e = rw (none_left (same_txn t u) false e) refl
round_one site t group was (log.Join u n) e = rw (none_left (same_txn t u) false e) refl
round_one site t group was (log.Decision u dir) e = rw (none_left (same_txn t u) false e) refl
round_one site t group was _ e = refl

round_all : (site : ℕ) (t : Txn) (group : List ℕ) (was : Option Round) (rs : List Record) → list_any (same_txn t) (flat_map txn_of_record rs) ≡ false
    → fold (round_by_record site t group) was rs ≡ was
round_all site t group was [] e = refl
round_all site t group was (r ∷ rs) e =
    let parts = sym (list_any-append (same_txn t) (txn_of_record r) (flat_map txn_of_record rs)) ∙ e in
    ap (λ (x : Option Round). fold (round_by_record site t group) x rs) (round_one site t group was r (none_left _ _ parts))
    ∙ round_all site t group was rs (none_right _ _ parts)

rounds_one : (site : ℕ) (t : Txn) (was : Rounds) (s : SiteStep) → list_any (same_txn t) (input_txns s.input) ≡ false → list_any (same_txn t) (flat_map txn_of_record s.records) ≡ false
    → round_by site t was (moment_of s) ≡ was
rounds_one site t was s e none = by s.input e
  where
    now_same : fold (round_by_record site t was.group) was.now s.records ≡ was.now
    now_same = round_all site t was.group was.now s.records none

    same : record { group = was.group; now = fold (round_by_record site t was.group) was.now s.records } ≡ was
    same = λ i. record { group = was.group; now = now_same i }

    by_msg : (packet : Packet) (k : Message) → list_any (same_txn t) (input_txns (input.Deliver (record packet { msg = k }))) ≡ false
        → round_by site t was (moment_of (record s { input = input.Deliver (record packet { msg = k }) })) ≡ was
    by_msg packet (msg.Pre u n dir) e = refl
    by_msg packet (msg.Ack u n dir) e = rw (none_left (same_txn t u) false e) same
    by_msg packet _ e = same

    by : (i : Input) → list_any (same_txn t) (input_txns i) ≡ false → round_by site t was (moment_of (record s { input = i })) ≡ was
    by (input.Elect u group) e = rw (none_left (same_txn t u) false e) same
    by (input.Deliver packet) e = by_msg packet packet.msg e
    by _ e = same

none_any : {X : Type 0} (p : Txn → Bool) (f : X → Bool) (g : X → List Txn) → ((x : X) → list_any p (g x) ≡ false → f x ≡ false) → (xs : List X)
    → list_any p (flat_map g xs) ≡ false → list_any f xs ≡ false
none_any p f g h [] e = refl
none_any p f g h (x ∷ xs) e =
    let parts = sym (list_any-append p (g x) (flat_map g xs)) ∙ e in
    let first = h x (none_left _ _ parts) in
    let rest = none_any p f g h xs (none_right _ _ parts) in
    rw (first, rest) refl

decision_one : (t : Txn) (r : Record) → list_any (same_txn t) (txn_of_record r) ≡ false → is_decision t r ≡ false
decision_one t (log.Decision u dir) e = none_left (same_txn t u) false e
decision_one t _ e = refl

join_one : (t : Txn) (r : Record) → list_any (same_txn t) (txn_of_record r) ≡ false → is_join t r ≡ false
join_one t (log.Join u n) e = none_left (same_txn t u) false e
join_one t _ e = refl

verdict_one : (t : Txn) (e : Told) → list_any (same_txn t) (told_txns e) ≡ false → tells_verdict t e ≡ false
verdict_one t (told.Verdict u n v) e = none_left (same_txn t u) false e
verdict_one t _ e = refl

election_one : (site : ℕ) (call : Call) (t : Txn) (seen : Seen) (was : Option Election) (s : SiteStep) → list_any (same_txn t) (input_txns s.input) ≡ false
    → list_any (same_txn t) (flat_map txn_of_record s.records) ≡ false → list_any (same_txn t) (flat_map told_txns s.told) ≡ false
    → election_now site call t seen was s ≡ was
election_one site call t seen was s e records events = upon ∙ by s.input e
  where
    undecided : list_any (is_decision t) s.records ≡ false
    undecided = none_any (same_txn t) (is_decision t) txn_of_record (decision_one t) s.records records

    no_join : list_any (is_join t) s.records ≡ false
    no_join = none_any (same_txn t) (is_join t) txn_of_record (join_one t) s.records records

    no_verdict : list_any (tells_verdict t) s.told ≡ false
    no_verdict = none_any (same_txn t) (tells_verdict t) told_txns (verdict_one t) s.told events

    upon : election_now site call t seen was s ≡ election_upon site call t seen s.records was s.input
    upon = rw (undecided, no_verdict) refl

    taking : (f : ℕ) (k : Message) (x : Election) → list_any (same_txn t) (txn_in k ∷ []) ≡ false → election_taking t (seen_report site seen) s.records f k x ≡ Some x
    taking f (msg.LastElected u call n) x e = rw (none_left (same_txn t u) false e) refl
    taking f (msg.Report u n st n2) x e = rw (none_left (same_txn t u) false e) refl
    taking f (msg.Elected u n) x e = rw no_join refl
    taking f _ x e = refl

    behind : (packet : Packet) (o : Option Election) → list_any (same_txn t) (input_txns (input.Deliver packet)) ≡ false → election_behind t (seen_report site seen) s.records packet o ≡ o
    behind packet None e = refl
    behind packet (Some x) e = taking packet.«from» packet.msg x e

    by : (i : Input) → list_any (same_txn t) (input_txns i) ≡ false → election_upon site call t seen s.records was i ≡ was
    by (input.Elect u group) e = rw (none_left (same_txn t u) false e) refl
    by (input.Deliver packet) e = behind packet was e
    by _ e = refl

-- a transaction that a step does not name keeps its card
pub untouched : (site : ℕ) (call : Call) (t : Txn) (c : Card) (s : SiteStep) → list_any (same_txn t) (named s) ≡ false → card_by site call t c s ≡ c
untouched site call t c s e =
    let most = sym (list_any-append (same_txn t) (input_txns s.input ++ flat_map txn_of_record s.records ++ flat_map told_txns s.told) (flat_map answered_txns s.outs)) ∙ e in
    let some = sym (list_any-append (same_txn t) (input_txns s.input ++ flat_map txn_of_record s.records) (flat_map told_txns s.told)) ∙ none_left _ _ most in
    let first = sym (list_any-append (same_txn t) (input_txns s.input) (flat_map txn_of_record s.records)) ∙ none_left _ _ some in
    let of_input = none_left _ _ first in
    let of_records = none_right _ _ first in
    let of_told = none_right _ _ some in
    let of_outs = none_right _ _ most in
    let seen : fold (seen_by t) c.seen s.records ≡ c.seen = seen_all t c.seen s.records of_records in
    let ops : c.issued ++ issued_in t s.input s.told ≡ c.issued = ap (λ (l : List Op). c.issued ++ l) (issued_one t s.input s.told of_input) ∙ append-nil c.issued in
    let numbers : c.answered ++ flat_map (number_told t) s.told ≡ c.answered =
    ap (λ (l : List ℕ). c.answered ++ l) (none_flat (same_txn t) (number_told t) told_txns (number_one t) s.told of_told) ∙ append-nil c.answered in
    let counts : c.counted ++ counted_in t s.input s.told ≡ c.counted = ap (λ (l : List Counted). c.counted ++ l) (counted_one t s.input s.told of_input) ∙ append-nil c.counted in
    let why : c.reasons ++ flat_map (reason_in t) s.told ≡ c.reasons =
    ap (λ (l : List Refusal). c.reasons ++ l) (none_flat (same_txn t) (reason_in t) told_txns (reason_one t) s.told of_told) ∙ append-nil c.reasons in
    let came : came_by c.seen c.came (taken_of site t (length c.issued) s.input s.told) ≡ c.came = ap (came_by c.seen c.came) (taken_one site t (length c.issued) s.input s.told of_input) in
    let events : flat_map (heard_told t) s.told ≡ [] = none_flat (same_txn t) (heard_told t) told_txns (told_one t) s.told of_told in
    let packets : flat_map (heard_sent t) s.outs ≡ [] = none_flat (same_txn t) (heard_sent t) answered_txns (sent_one t) s.outs of_outs in
    let heard : c.heard ++ heard_in t s.told s.outs ≡ c.heard = rw (events, packets) (append-nil c.heard) in
    let votes = votes_one site t c.votes s of_input in
    let election = election_one site call t c.seen c.election s of_input of_records of_told in
    let rounds = rounds_one site t c.rounds s of_input of_records in
    λ i. record {
      seen = seen i;
      issued = ops i;
      answered = numbers i;
      counted = counts i;
      reasons = why i;
      came = came i;
      heard = heard i;
      votes = votes i;
      election = election i;
      rounds = rounds i;
    }
