-- What is known while an entry is read: transactions, whatever packets are known; and the packets of the entry too.
use Rattle.std.proofs.Common.{◌≡◌, inl, inr, ◌==◌, ◌&&◌, ◌+◌, ℕ, Bool, true, false, List, [], ◌∷◌, ◌++◌, length, Option, Some, None, Result, Ok, Err, refl, ap, sym, subst, ◌∙◌, append-nil, append_assoc, eqb-true, arith, if◌then◌else◌}
use Rattle.std.specs.Prelude.{OnOk, option_map}
use Rattle.std.proofs.lemmas.Bool.{and_parts}
use Rattle.e3_types.specs.declared.entries.Entry.{Entry}
use Rattle.e3_types.specs.declared.entries.Input.{Input}
use Rattle.e3_types.specs.declared.entries.Told.{Told}
use Rattle.e3_types.specs.declared.entries.Told.TheVariants as told
use Rattle.e3_types.specs.declared.messages.Packet.{Packet}
use Rattle.e3_types.specs.declared.records.Record.{Record}
use Rattle.e3_world.specs.Packets.{outs_of, sent}
use Rattle.e3_trace.specs.declared.drafts.Draft.{Draft}
use Rattle.e3_trace.specs.declared.drafts.Head.{Head}
use Rattle.e3_trace.specs.declared.drafts.Head.TheVariants as head
use Rattle.e3_trace.specs.declared.faults.Fault.{Fault}
use Rattle.e3_trace.specs.declared.faults.Fault.TheVariants.{Bad, NoMemory}
use Rattle.e3_trace.specs.Cuts.{Leaves, made_of}
use Rattle.e3_trace.specs.Drafts.{act_by, act_of, entry_from, first_by, first_of, is_complete, is_step, ops_due, packet_line, packet_of, record_by, records_of, takes_packets, takes_told, told_line, votes_of, with_input, with_packet, with_record_line, with_told}
use Rattle.e3_trace.specs.Events.{event_by, event_of, refusal_by, refusal_of, told_by, told_of}
use Rattle.e3_trace.specs.Fields.{Known, known_sent, known_told, named, txn_of}
use Rattle.e3_trace.specs.Messages.{message_by, message_of, do_of, done_of, died_of, ask_of, last_of, elected_of, site_report_of, votereq_of, vote_of, pre_of, ack_of, decide_of, deciding_by}
use Rattle.e3_trace.specs.Trace.{Reading, closed}
use Rattle.e3_trace.specs.Past.{IsFitting, SameOuts, by_number, knowing, known_at, sends}
use Rattle.e3_trace.proofs.Standing.{by_number_more, sent_more}

-- what is read of transactions hangs on no packet
packet_any : (known : Known) (packets : List Packet) (site : ℕ) (text : List ℕ) → packet_of (knowing known packets) site text ≡ packet_of known site text
unfolding packet_of message_of message_by deciding_by do_of done_of died_of ask_of last_of elected_of site_report_of votereq_of vote_of pre_of ack_of decide_of txn_of named
packet_any known packets site text = refl

record_any : (known : Known) (packets : List Packet) (d : Draft) (text : List ℕ) → with_record_line (knowing known packets) d text ≡ with_record_line known d text
unfolding with_record_line first_of first_by votes_of record_by txn_of named
record_any known packets d text = refl

told_any : (known : Known) (packets : List Packet) (text : List ℕ) → told_of (knowing known packets) text ≡ told_of known text
unfolding told_of told_by event_of event_by refusal_of refusal_by txn_of named
told_any known packets text = refl

tell_any : (known : Known) (packets : List Packet) (event : Told) → known_told (knowing known packets) event ≡ knowing (known_told known event) packets
unfolding known_told
tell_any known packets (told.Began t) = refl
tell_any known packets (told.Op t n answer) = refl
tell_any known packets (told.Ended t dir) = refl
tell_any known packets (told.Died t older) = refl
tell_any known packets (told.Doomed t site had now) = refl
tell_any known packets (told.Refused t why) = refl
tell_any known packets (told.Kept t state) = refl
tell_any known packets (told.Verdict t n v) = refl

-- what an entry sends hangs on its first line and its packets alone
sends_by : (h : Head) (i j : List Input) (r s : List Record) (outs : List Packet) (t u : List Told) → outs_of (act_by h i r outs t) ≡ outs_of (act_by h j s outs u)
sends_by (head.Step input) i j r s outs t u = refl
sends_by (head.Fall why) i j r s outs t u = refl
sends_by (head.Whole a) i j r s outs t u = refl

sends_same : (d e : Draft) → SameOuts d e → sends e ≡ sends d
sends_same d e same =
    ap (λ h. outs_of (act_by h e.inputs (records_of e) e.outs e.told)) same.head
    ∙ ap (λ outs. outs_of (act_by d.head e.inputs (records_of e) outs e.told)) same.outs
    ∙ sends_by d.head e.inputs d.inputs (records_of e) (records_of d) d.outs e.told d.told

step_sends : (h : Head) (i : List Input) (r : List Record) (outs : List Packet) (p : Packet) (t : List Told) → is_step h ≡ true →
    outs_of (act_by h i r (outs ++ p ∷ []) t) ≡ outs_of (act_by h i r outs t) ++ p ∷ []
step_sends (head.Step input) i r outs p t is = refl
step_sends (head.Fall why) i r outs p t is = absurd cc
step_sends (head.Whole a) i r outs p t is = absurd cc

one_packet : (known : Known) (history : List Entry) (d : Draft) (p : Packet) → is_step d.head ≡ true →
    known_sent (knowing known (sent history ++ sends d)) p ≡ knowing known (sent history ++ sends (with_packet d p))
one_packet known history d p step =
    let more : sends (with_packet d p) ≡ sends d ++ p ∷ [] = step_sends d.head d.inputs (records_of d) d.outs p d.told step in
    ap (λ s. record known { sent = s }) (
    sym (by_number_more (sent history ++ sends d) p)
    ∙ ap by_number (append_assoc (sent history) (sends d) (p ∷ []) ∙ ap (λ ps. sent history ++ ps) (sym more))
    )

-- a step that takes packets, or what it told, has no line due
complete_due : (d : Draft) → is_complete d ≡ true → d.due ≡ 0
complete_due d is = eqb-true d.due 0 (and_parts (d.due == 0) (ops_due d.growing == 0) is).0

packets_parts : (d : Draft) → takes_packets d ≡ true → (is_step d.head ≡ true) × (d.due ≡ 0)
packets_parts d is =
    let parts = and_parts (is_step d.head) (is_complete d) (and_parts (is_step d.head && is_complete d) (length d.told == 0) is).0 in
    (parts.0, complete_due d parts.1)

told_due : (d : Draft) → takes_told d ≡ true → d.due ≡ 0
told_due d is = complete_due d (and_parts (is_step d.head) (is_complete d) is).1

-- the entry with a packet that is read, where it takes one
abbrev pub packet_left : Known → Draft → List ℕ → Option Draft
packet_left known d text = if takes_packets d then made_of (with_packet d) (packet_of known d.owner) text else None

-- an entry that has an input due has sent nothing
input_any : (known : Known) (history : List Entry) (d : Draft) (text : List ℕ) → IsFitting d →
    with_input (knowing known (sent history ++ sends d)) d text ≡ with_input (knowing known (sent history)) d text
unfolding with_input
input_any known history d text (inl none) = ap (λ ps. with_input (knowing known ps) d text) (ap (λ ps. sent history ++ ps) none ∙ append-nil (sent history))
input_any known history d text (inr due) = rw due refl

module _ {X : Type 0} (known : Known) (history : List Entry) (d e : Draft) (text : List ℕ) where
  pub packet_read : (r : Result X Fault) → Leaves r e (packet_left known d text) →
      Leaves {A = Known × Draft} r (knowing known (sent history ++ sends e), e) (packet_line (knowing known (sent history ++ sends d)) d text)
  unfolding packet_line
  packet_read r is = rw (packet_any known (sent history ++ sends d) d.owner text) (by (takes_packets d) refl (packet_of known d.owner text) r is)
    where
      by : (b : Bool) → takes_packets d ≡ b → (o : Option Packet) (r : Result X Fault) → Leaves r e (if b then option_map (with_packet d) o else None) →
          Leaves {A = Known × Draft} r (knowing known (sent history ++ sends e), e)
          (if b then option_map (λ p. (known_sent (knowing known (sent history ++ sends d)) p, with_packet d p)) o else None)
      by false takes o (Ok x) left = absurd cc
      by true takes None (Ok x) left = absurd cc
      by true takes (Some p) (Ok x) left =
          let same : with_packet d p ≡ e = cc left in
          ap (λ k. Some (k, with_packet d p)) (one_packet known history d p (packets_parts d takes).0)
          ∙ ap (λ x. Some (knowing known (sent history ++ sends x), x)) same
      by b takes o (Err NoMemory) left = tt
      by false takes o (Err Bad) left = refl
      by true takes None (Err Bad) left = refl
      by true takes (Some p) (Err Bad) left = absurd cc

  pub packet_fits : (r : Result X Fault) → Leaves r e (packet_left known d text) → OnOk r (IsFitting e)
  packet_fits r is = by (takes_packets d) refl (packet_of known d.owner text) r is
    where
      by : (b : Bool) → takes_packets d ≡ b → (o : Option Packet) (r : Result X Fault) → Leaves r e (if b then option_map (with_packet d) o else None) → OnOk r (IsFitting e)
      by false takes o (Ok x) left = absurd cc
      by true takes None (Ok x) left = absurd cc
      by true takes (Some p) (Ok x) left = let same : with_packet d p ≡ e = cc left in inr (ap (λ x. x.due) (sym same) ∙ (packets_parts d takes).1)
      by b takes o (Err fault) left = tt

  -- what is told
  module _ (new : Known) where
    pub told_read : (r : Result X Fault) → Leaves {A = Known × Draft} r (new, e) (told_line known d text) →
        Leaves {A = Known × Draft} r (knowing new (sent history ++ sends e), e) (told_line (knowing known (sent history ++ sends d)) d text)
    unfolding told_line
    told_read r is = rw (told_any known (sent history ++ sends d) text) (by (takes_told d) (told_of known text) r is)
      where
        by : (b : Bool) (o : Option Told) (r : Result X Fault) → Leaves {A = Known × Draft} r (new, e) (if b then option_map (λ event. (known_told known event, with_told d event)) o else None) →
            Leaves {A = Known × Draft} r (knowing new (sent history ++ sends e), e)
            (if b then option_map (λ event. (known_told (knowing known (sent history ++ sends d)) event, with_told d event)) o else None)
        by false o (Ok x) left = absurd cc
        by true None (Ok x) left = absurd cc
        by true (Some event) (Ok x) left =
            let same : (known_told known event, with_told d event) ≡ (new, e) = cc left in
            ap (λ k. Some (k, with_told d event)) (tell_any known (sent history ++ sends d) event)
            ∙ ap (λ ps. Some (knowing (known_told known event) (sent history ++ ps), with_told d event)) (sym (sends_same d (with_told d event) (record { head = refl; outs = refl })))
            ∙ ap (λ (x : Known × Draft). Some (knowing x.0 (sent history ++ sends x.1), x.1)) same
        by b o (Err NoMemory) left = tt
        by false o (Err Bad) left = refl
        by true None (Err Bad) left = refl
        by true (Some event) (Err Bad) left = absurd cc

    pub told_fits : (r : Result X Fault) → Leaves {A = Known × Draft} r (new, e) (told_line known d text) → OnOk r (IsFitting e)
    unfolding told_line
    told_fits r is = by (takes_told d) refl (told_of known text) r is
      where
        by : (b : Bool) → takes_told d ≡ b → (o : Option Told) (r : Result X Fault) → Leaves {A = Known × Draft} r (new, e) (if b then option_map (λ event. (known_told known event, with_told d event)) o else None) → OnOk r (IsFitting e)
        by false takes o (Ok x) left = absurd cc
        by true takes None (Ok x) left = absurd cc
        by true takes (Some event) (Ok x) left =
            let same : (known_told known event, with_told d event) ≡ (new, e) = cc left in
            inr (ap (λ (x : Known × Draft). x.1.due) (sym same) ∙ told_due d takes)
        by b takes o (Err fault) left = tt

  -- a line that is read of the entry alone
  alone : (o : Option Draft) (r : Result X Fault) → OnOk r (SameOuts d e) → Leaves r e o →
      Leaves {A = Known × Draft} r (knowing known (sent history ++ sends e), e) (option_map (λ x. (knowing known (sent history ++ sends d), x)) o)
  alone o (Ok x) same left = rw left (ap (λ ps. Some (knowing known (sent history ++ ps), e)) (sym (sends_same d e same)))
  alone o (Err NoMemory) same left = tt
  alone o (Err Bad) same left = rw left refl

  -- a line of a record
  pub record_read : (r : Result X Fault) → OnOk r (SameOuts d e × (e.due ≡ d.due)) → Leaves r e (with_record_line known d text) →
      Leaves {A = Known × Draft} r (knowing known (sent history ++ sends e), e)
      (made_of (λ x. (knowing known (sent history ++ sends d), x)) (with_record_line (knowing known (sent history ++ sends d)) d) text)
  record_read r same left = rw (record_any known (sent history ++ sends d) d text) (alone (with_record_line known d text) r (outs r same) left)
    where
      outs : (r : Result X Fault) → OnOk r (SameOuts d e × (e.due ≡ d.due)) → OnOk r (SameOuts d e)
      outs (Ok x) same = same.0
      outs (Err fault) same = tt

  pub record_fits : IsFitting d → (r : Result X Fault) → OnOk r (SameOuts d e × (e.due ≡ d.due)) → OnOk r (IsFitting e)
  record_fits (inl none) (Ok x) same = inl (sends_same d e same.0 ∙ none)
  record_fits (inr due) (Ok x) same = inr (same.1 ∙ due)
  record_fits fits (Err fault) same = tt

  -- an input
  pub input_read : IsFitting d → (r : Result X Fault) → OnOk r (SameOuts d e) → Leaves r e (with_input (knowing known (sent history)) d text) →
      Leaves {A = Known × Draft} r (knowing known (sent history ++ sends e), e)
      (made_of (λ x. (knowing known (sent history ++ sends d), x)) (with_input (knowing known (sent history ++ sends d)) d) text)
  input_read fits r same left = rw (input_any known history d text fits) (alone (with_input (knowing known (sent history)) d text) r same left)

  pub input_fits : IsFitting d → (r : Result X Fault) → OnOk r (SameOuts d e) → OnOk r (e.due + 1 ≡ d.due) → OnOk r (IsFitting e)
  input_fits (inl none) (Ok x) same less = inl (sends_same d e same ∙ none)
  input_fits (inr due) (Ok x) same less = absurd (omega (arith, less, due))
  input_fits fits (Err fault) same less = tt

-- an entry that is read has sent what it sends
pub entry_closed : (known : Known) (history : List Entry) (d : Draft) (e : Entry) → entry_from d ≡ Some e →
    known_at known (history ++ e ∷ []) None ≡ known_at known history (Some d)
unfolding entry_from
entry_closed known history d e is =
    ap (knowing known) (sent_more history e ∙ ap (λ ps. sent history ++ ps) (by (is_complete d) is))
  where
    by : (b : Bool) → (if b then Some (record { owner = d.owner; act = act_of d }) else None) ≡ Some e → outs_of e.act ≡ sends d
    by true is = let same : record { owner = d.owner; act = act_of d } ≡ e = cc is in ap (λ (x : Entry). outs_of x.act) (sym same)
    by false is = absurd cc

-- an entry that begins has sent nothing
pub entry_begun : (known : Known) (history : List Entry) (d : Draft) → sends d ≡ [] → known_at known history (Some d) ≡ known_at known history None
entry_begun known history d none = ap (λ ps. knowing known (sent history ++ ps)) none ∙ ap (knowing known) (append-nil (sent history))

-- the entry whose lines are being read is read
closing_at : (known : Known) (history : List Entry) (d : Draft) (e : Entry) → entry_from d ≡ Some e →
    option_map {U = Reading} (λ entries. record { known = known_at known history (Some d); done = entries; draft = None })
    (closed (record { known = known_at known history (Some d); done = history; draft = Some d }))
    ≡ Some (record { known = known_at known (history ++ e ∷ []) None; done = history ++ e ∷ []; draft = None })
unfolding closed
closing_at known history d e is =
    let made : Known → Option Reading = λ k. Some (record { known = k; done = history ++ e ∷ []; draft = None }) in
    rw is (ap made (sym (entry_closed known history d e is)))

pub closing : (old : Reading) (known : Known) (history after : List Entry) (o left : Option Draft) (d : Draft) (e : Entry) →
    record { known = known_at known history o; done = history; draft = o } ≡ old → o ≡ Some d → entry_from d ≡ Some e → after ≡ history ++ e ∷ [] → left ≡ None →
    option_map {U = Reading} (λ entries. record { known = old.known; done = entries; draft = None }) (closed old)
    ≡ Some (record { known = known_at known after left; done = after; draft = left })
closing old known history after o left d e view some is more none =
    let Closes : Reading → Type 0 = λ r.
    option_map {U = Reading} (λ entries. record { known = r.known; done = entries; draft = None }) (closed r)
    ≡ Some (record { known = known_at known (history ++ e ∷ []) None; done = history ++ e ∷ []; draft = None }) in
    let At : Option Draft → Type 0 = λ x. Closes (record { known = known_at known history x; done = history; draft = x }) in
    rw (more, none) (subst Closes view (subst At (sym some) (closing_at known history d e is)))
