-- In a legal history whoever is asked for an attempt of a number above 1 reported for it to the one who asks.
use Rattle.std.proofs.Common.{◌≡◌, ◌⊎◌, inl, inr, ◌∷◌, [], ◌++◌, ℕ, true, false, List, refl, sym, ap, subst, ◌∙◌}
use Rattle.std.specs.List.{flat_map}
use Rattle.std.proofs.lemmas.List.Concat.{flat_map-append}
use Rattle.e3_types.specs.declared.messages.Message.{Message}
use Rattle.e3_types.specs.declared.messages.Message.TheVariants as msg
use Rattle.e3_types.specs.declared.messages.Packet.{Packet}
use Rattle.e3_types.specs.declared.scenarios.Scenario.{Scenario}
use Rattle.e3_types.specs.declared.transactions.State.{State}
use Rattle.e3_types.specs.declared.transactions.Txn.{Txn}
use Rattle.e3_types.specs.Same.{same_txn}
use Rattle.e3_world.specs.Moves.{Did, Stepped, Silent, Rose, Move, moves_at, trail_of, unnumbered}
use Rattle.e3_world.specs.Packets.{sent}
use Rattle.e3_world.specs.Sound.{sends}
use Rattle.e3_world.proofs.Sending.{trail_sends}
use Rattle.e3_laws.specs.agreement.Facts.{HasReportedTo, AskedHaveReported}
use Rattle.e3_laws.specs.agreement.Logs.{IsIn, Status}
use Rattle.e3_laws.specs.agreement.Marks.{sent_of}
use Rattle.e3_laws.specs.agreement.Rules.{Letter, Word, Yes, No, Elected, Report, Pre, Ack, Decide, Other, letter}
use Rattle.e3_laws.specs.agreement.Trails.{marks_in, marks_after, marks_of, IsMade}
use Rattle.e3_laws.specs.agreement.Verdicts.{status_in}
use Rattle.e3_laws.specs.agreement.Views.{words_of, letters_of}
use Rattle.e3_laws.proofs.agreement.Fitting.{given_fit}
use Rattle.e3_laws.proofs.agreement.Guarding.Trails.{made_guarded, packet_of, silent_none}
use Rattle.e3_laws.proofs.agreement.Histories.{legal_made}
use Rattle.e3_laws.proofs.agreement.Protocol.Reached.{in_parts}
use Rattle.e3_laws.proofs.agreement.Refinement.Deciding.{only_word}
use Rattle.e3_laws.proofs.agreement.Refinement.Following.{made_ok, in_from_contains, in_map_to}
use Rattle.e3_laws.proofs.agreement.Refinement.Gatherings.{in_word}
use Rattle.e3_laws.proofs.agreement.Refinement.Lists.{in_left, in_map, in_right, same_from}
use Rattle.e3_laws.proofs.agreement.Refinement.Voting.{contains_from_in}
use Rattle.e3_laws.proofs.steps.Tests.{same_is}

-- the packet that a letter is of
record Sent (t : Txn) (q : Letter) (ps : List Packet) : Type 0 where
  packet : Packet
  is_sent : IsIn packet ps
  word : Word
  says : IsIn word (words_of t packet.msg)
  is : q ≡ letter packet.«from» packet.to word

letter_sent : (sc : Scenario) (t : Txn) (before rest : List Move) (q : Letter) → IsIn q (sent_of (marks_after sc t before rest)) → Sent t q (flat_map sends rest)
letter_sent sc t before [] q k = absurd k
letter_sent sc t before (m ∷ rest) q k =
    by (λ j. letter_sent sc t (before ++ m ∷ []) rest q j)
    (in_parts q (sent_of (marks_in sc t before m)) (sent_of (marks_after sc t (before ++ m ∷ []) rest))
    (subst (λ z. IsIn q z) (flat_map-append _ (marks_in sc t before m) (marks_after sc t (before ++ m ∷ []) rest)) k))
  where
    of_move : (x : ℕ) (d : Did) → IsIn q (sent_of (marks_in sc t before (record { site = x; did = d }))) → Sent t q (sends (record { site = x; did = d }))
    of_move x (Stepped s) j = go (in_parts q (letters_of t s.outs) [] j)
      where
        go : IsIn q (letters_of t s.outs) ⊎ IsIn q [] → Sent t q s.outs
        go (inl i) = let f = packet_of t q s.outs i in record { packet = f.0; is_sent = f.1; word = f.2; says = f.3; is = f.4 }
        go (inr i) = absurd i
    of_move x (Silent inputs records) j = absurd (silent_none sc t x (moves_at x before) inputs q j)
    of_move x (Rose inc records) j = absurd j

    by : (IsIn q (sent_of (marks_after sc t (before ++ m ∷ []) rest)) → Sent t q (flat_map sends rest)) →
        IsIn q (sent_of (marks_in sc t before m)) ⊎ IsIn q (sent_of (marks_after sc t (before ++ m ∷ []) rest)) → Sent t q (flat_map sends (m ∷ rest))
    by later (inl j) =
        let f = of_move m.site m.did j in
        record { packet = f.packet; is_sent = in_left f.packet (sends m) (flat_map sends rest) f.is_sent; word = f.word; says = f.says; is = f.is }
    by later (inr j) =
        let f = later j in
        record { packet = f.packet; is_sent = in_right f.packet (sends m) (flat_map sends rest) f.is_sent; word = f.word; says = f.says; is = f.is }

-- the report that a word is
abbrev IsReport : Txn → ℕ → Message → Type 0
IsReport t n z = (st : State) × (a : ℕ) × (z ≡ msg.Report t n st a)

report_of : (t : Txn) (n : ℕ) (st : Status) (b : ℕ) (z : Message) → IsIn (Report n st b) (words_of t z) → IsReport t n z
report_of t n st b (msg.Report u k s a) j =
    only_word (λ w. w ≡ Report n st b → IsReport t n (msg.Report u k s a)) (same_txn t u) (Report k (status_in s) a)
    (λ same is. (s, a, ap (λ v. msg.Report v k s a) (sym (same_is t u same)) ∙ number k (status_in s) a is s a)) (Report n st b) j refl
  where
    number : (k : ℕ) (x : Status) (y : ℕ) → Report k x y ≡ Report n st b → (s : State) (a : ℕ) → msg.Report t k s a ≡ msg.Report t n s a
    number k x y is s a = let one : k ≡ n = cc in ap (λ z. msg.Report t z s a) one
report_of t n st b (msg.Pre u k e) j = only_word (λ w. w ≡ Report n st b → IsReport t n (msg.Pre u k e)) (same_txn t u) (Pre k e) (λ same is. absurd cc) (Report n st b) j refl
report_of t n st b (msg.Do u k op) j = only_word (λ w. w ≡ Report n st b → IsReport t n (msg.Do u k op)) (same_txn t u) Other (λ same is. absurd cc) (Report n st b) j refl
report_of t n st b (msg.Done u k inc answer) j = absurd j
report_of t n st b (msg.Died u k older) j = only_word (λ w. w ≡ Report n st b → IsReport t n (msg.Died u k older)) (same_txn t u) No (λ same is. absurd cc) (Report n st b) j refl
report_of t n st b (msg.Ask u call) j = only_word (λ w. w ≡ Report n st b → IsReport t n (msg.Ask u call)) (same_txn t u) Other (λ same is. absurd cc) (Report n st b) j refl
report_of t n st b (msg.LastElected u call k) j = only_word (λ w. w ≡ Report n st b → IsReport t n (msg.LastElected u call k)) (same_txn t u) Other (λ same is. absurd cc) (Report n st b) j refl
report_of t n st b (msg.Elected u k) j = only_word (λ w. w ≡ Report n st b → IsReport t n (msg.Elected u k)) (same_txn t u) (Elected k) (λ same is. absurd cc) (Report n st b) j refl
report_of t n st b (msg.VoteReq u inc count) j = only_word (λ w. w ≡ Report n st b → IsReport t n (msg.VoteReq u inc count)) (same_txn t u) Other (λ same is. absurd cc) (Report n st b) j refl
report_of t n st b (msg.Vote u true) j = only_word (λ w. w ≡ Report n st b → IsReport t n (msg.Vote u true)) (same_txn t u) Yes (λ same is. absurd cc) (Report n st b) j refl
report_of t n st b (msg.Vote u false) j = only_word (λ w. w ≡ Report n st b → IsReport t n (msg.Vote u false)) (same_txn t u) No (λ same is. absurd cc) (Report n st b) j refl
report_of t n st b (msg.Ack u k e) j = only_word (λ w. w ≡ Report n st b → IsReport t n (msg.Ack u k e)) (same_txn t u) (Ack k e) (λ same is. absurd cc) (Report n st b) j refl
report_of t n st b (msg.Decide u e) j = only_word (λ w. w ≡ Report n st b → IsReport t n (msg.Decide u e)) (same_txn t u) (Decide e) (λ same is. absurd cc) (Report n st b) j refl

pub asked_reported : AskedHaveReported
asked_reported sc h t n d packet given legal has says low = by (letter_sent sc t [] (trail_of sc h) (letter packet.to packet.«from» (Report n f.0 f.1)) f.2)
  where
    made : IsMade sc (trail_of sc h)
    made = legal_made sc h legal (given_fit sc h given legal)

    asks : IsIn (letter packet.«from» packet.to (Pre n d)) (sent_of (marks_of sc t (trail_of sc h)))
    asks =
        let out : IsIn (unnumbered packet) (flat_map sends (trail_of sc h)) =
        subst (λ z. IsIn (unnumbered packet) z) (sym (trail_sends sc h)) (in_map_to unnumbered packet (sent h) (in_from_contains (sent h) packet has)) in
        let word : IsIn (Pre n d) (words_of t packet.msg) = subst (λ z. IsIn (Pre n d) (words_of t z)) (sym says) (in_word (same_txn t t) (Pre n d) (same_from t t refl)) in
        (made_ok sc t (trail_of sc h) made).sent (unnumbered packet) out (letter packet.«from» packet.to (Pre n d)) (in_map_to (letter packet.«from» packet.to) (Pre n d) (words_of t packet.msg) word)

    f : (st : Status) × (b : ℕ) × IsIn (letter packet.to packet.«from» (Report n st b)) (sent_of (marks_of sc t (trail_of sc h)))
    f = (made_guarded sc (trail_of sc h) made).asked t (letter packet.«from» packet.to (Pre n d)) n d asks refl low

    by : Sent t (letter packet.to packet.«from» (Report n f.0 f.1)) (flat_map sends (trail_of sc h)) → HasReportedTo h t n packet.to packet.«from»
    by s =
        let g = in_map unnumbered s.packet (sent h) (subst (λ z. IsIn s.packet z) (trail_sends sc h) s.is_sent) in
        let word : s.word ≡ Report n f.0 f.1 = sym (ap (λ (z : Letter). z.word) s.is) in
        let r = report_of t n f.0 f.1 s.packet.msg (subst (λ w. IsIn w (words_of t s.packet.msg)) word s.says) in (
          g.0,
          contains_from_in (sent h) g.0 g.1,
          sym (ap (λ (z : Packet). z.«from») g.2) ∙ sym (ap (λ (z : Letter). z.source) s.is),
          sym (ap (λ (z : Packet). z.to) g.2) ∙ sym (ap (λ (z : Letter). z.target) s.is),
          r.0,
          r.1,
          sym (ap (λ (z : Packet). z.msg) g.2) ∙ r.2,
        )
