-- All that is sent, recorded, told and bound in a legal history of a given scenario mentions what stands.
use Rattle.std.proofs.Common.{◌≡◌, ◌==◌, ◌++◌, ◌∷◌, [], ℕ, zero, suc, Bool, true, false, List, Option, Some, None, refl, sym, subst, ap, ◌∙◌, map, append-nil, append_assoc, eqb-true, eq-eqb, length, count_by}
use Rattle.std.specs.Prelude.{Contains, slice_get}
use Rattle.std.specs.List.{flat_map, AllByRecursion as Each}
use Rattle.std.proofs.lemmas.Grind.{flat_map-append, fold-append}
use Rattle.std.proofs.lemmas.List.Elements.{Contains-append_left, Contains-append_right}
use Rattle.e3_types.specs.declared.entries.Act.{Act}
use Rattle.e3_types.specs.declared.entries.Act.TheVariants.{Step, Fall, Rise, RiseFall, Miss, Cut, Drop, Parts, Line}
use Rattle.e3_types.specs.declared.entries.Entry.{Entry}
use Rattle.e3_types.specs.declared.entries.Input.{Input}
use Rattle.e3_types.specs.declared.entries.Input.TheVariants as input
use Rattle.e3_types.specs.declared.entries.Told.{Told}
use Rattle.e3_types.specs.declared.entries.Told.TheVariants as told
use Rattle.e3_types.specs.declared.entries.Why.{Why}
use Rattle.e3_types.specs.declared.entries.Why.TheVariants.{Fault}
use Rattle.e3_types.specs.declared.messages.Packet.{Packet}
use Rattle.e3_types.specs.declared.records.Record.{Record}
use Rattle.e3_types.specs.declared.scenarios.Scenario.{Scenario}
use Rattle.e3_types.specs.declared.transactions.Txn.{Txn}
use Rattle.e3_world.specs.declared.lives.At.{At}
use Rattle.e3_world.specs.declared.lives.Incarnation.{Incarnation}
use Rattle.e3_world.specs.declared.lives.Life.{Life}
use Rattle.e3_world.specs.declared.lives.Made.{Made}
use Rattle.e3_world.specs.declared.lives.Moment.{Moment}
use Rattle.e3_world.specs.declared.lives.SiteStep.{SiteStep}
use Rattle.e3_world.specs.declared.names.Binding.{Binding}
use Rattle.e3_world.specs.declared.names.Bound.{Bound}
use Rattle.e3_world.specs.Items.{begin_names, binds, binding_by, to_line, began_in}
use Rattle.e3_world.specs.Legal.{Guard, IsLegal, LegalAfter, IsDue, AreDue, numbered, made_by, entry_of, records_by}
use Rattle.e3_world.specs.Lives.{present_log, incarnation_of, life_of, life_at, life_by}
use Rattle.e3_world.specs.Moves.{Move, Did, Stepped, Silent, Rose, Past, Tail, own_entries, past_of, past_by, moves_of, moves_of_act, tail_of_act, kept_moves, left_by, log_by, rise_records, rows_at, unnumbered, unnumbered_input}
use Rattle.e3_world.specs.Packets.{sent, outs_of, is_line, step_items}
use Rattle.e3_world.proofs.Pushes.{past_push, incarnation_push, life_push, life_log}
use Rattle.e3_world.proofs.Readings.{to_push, own_same, own_other}
use Rattle.e3_laws.proofs.steps.Each.{each-append, each-push, each-map, each-left, each-right, each-weaker, each-of, IfAny, each-both}
use Rattle.e3_laws.proofs.steps.Suits.Holding.{to_at_line}
use Rattle.e3_laws.specs.steps.Mentions.{Mention, OfTxn, OfVal, of_input, of_message, of_record, of_event, begun_in, WasBegun, values_in, values_of, Stands}
use Rattle.e3_laws.proofs.steps.Begun.Lists.{each-unmap, each-unflat, each-join, each-within}
use Rattle.e3_laws.proofs.steps.Begun.Reading.{RecordIs, PacketIs, EventIs, MomentIs, rows_are}
use Rattle.e3_laws.proofs.steps.Begun.Keeping.{Keeps, Goes, Tells}
use Rattle.e3_laws.proofs.steps.Begun.Inputs.{BeginIs, step_keeps}
use Rattle.e3_laws.proofs.steps.Begun.Due.{ItemIs, ValuesAre, BeginsKnown, LifeIs, BoundIs, LineIs, due_is}
use Rattle.e3_laws.proofs.steps.Moving.{sent_push}
use Rattle.e3_laws.proofs.steps.Suits.Inputs.{place}
use Rattle.e3_laws.proofs.steps.Items.{binding}

-- what holds of a site: of its life, and of the records that may be on its disk
pub record SiteIs (P : Mention → Type 0) (D : Told → Type 0) (past : Past) : Type 0 where
  pub life : LifeIs P D (life_at past.moves)
  pub tail : IfAny (λ tail. Each (RecordIs P) tail.records) past.tail

-- what holds of all that was sent, recorded and told
pub record SaidIs (P : Mention → Type 0) (D : Told → Type 0) (sc : Scenario) (h : List Entry) : Type 0 where
  pub sent : Each (PacketIs P) (sent h)
  pub sites : (s : ℕ) → SiteIs P D (past_of sc s (own_entries s h))

-- any event
abbrev pub AnyEvent : Told → Type 0
AnyEvent e = Unit {0}

-- what may be mentioned may be mentioned later
module _ (P Q : Mention → Type 0) (D E : Told → Type 0) (to : (x : Mention) → P x → Q x) (event : (e : Told) → D e → E e) where
  moment_more : (m : Moment) → MomentIs P m → MomentIs Q m
  moment_more m is = record {
    input = each-weaker P Q to (of_input m.input) is.input;
    outs = each-weaker (PacketIs P) (PacketIs Q) (λ p this. each-weaker P Q to (of_message p.msg) this) m.outs is.outs;
    told = each-weaker (EventIs P) (EventIs Q) (λ e this. each-weaker P Q to (of_event e) this) m.told is.told;
  }

  pub records_more : (rs : List Record) → Each (RecordIs P) rs → Each (RecordIs Q) rs
  records_more rs all = each-weaker (RecordIs P) (RecordIs Q) (λ r this. each-weaker P Q to (of_record r) this) rs all

  pub life_more : (life : Life) → LifeIs P D life → LifeIs Q E life
  life_more life is = record {
    steps = each-weaker (MomentIs P) (MomentIs Q) moment_more life.steps is.steps;
    told = each-weaker (λ m. Each D m.told) (λ m. Each E m.told) (λ m all. each-weaker D E event m.told all) life.steps is.told;
    log = records_more life.log is.log;
  }

  tail_more : (o : Option Tail) → IfAny (λ tail. Each (RecordIs P) tail.records) o → IfAny (λ tail. Each (RecordIs Q) tail.records) o
  tail_more None is = tt
  tail_more (Some tail) is = records_more tail.records is

  pub site_more : (past : Past) → SiteIs P D past → SiteIs Q E past
  site_more past is = record { life = life_more (life_at past.moves) is.life; tail = tail_more past.tail is.tail }

  pub parts_more : (sc : Scenario) (h : List Entry) → SaidIs P D sc h → SaidIs Q E sc h
  parts_more sc h is = record {
    sent = each-weaker (PacketIs P) (PacketIs Q) (λ p this. each-weaker P Q to (of_message p.msg) this) (sent h) is.sent;
    sites = λ s. site_more (past_of sc s (own_entries s h)) (is.sites s);
  }

pub bound_more : (P Q : Mention → Type 0) → ((x : Mention) → P x → Q x) → (bs : List Bound) → Each (BoundIs P) bs → Each (BoundIs Q) bs
bound_more P Q to bs all = each-weaker (BoundIs P) (BoundIs Q) (λ b this. to (OfTxn b.txn) this) bs all

begins_more : (P Q : Mention → Type 0) → ((x : Mention) → P x → Q x) → (e : Told) → BeginsKnown P e → BeginsKnown Q e
begins_more P Q to e all = each-weaker (λ t. P (OfTxn t)) (λ t. Q (OfTxn t)) (λ t this. to (OfTxn t) this) (began_in e) all

line_more : (P Q : Mention → Type 0) → ((x : Mention) → P x → Q x) → (sc : Scenario) (k : List Entry) → LineIs P sc k → LineIs Q sc k
line_more P Q to sc k is = record {
  lives = λ s. life_more P Q (BeginsKnown P) (BeginsKnown Q) to (begins_more P Q to) (life_at (moves_of sc k s)) (is.lives s);
  bound = bound_more P Q to (binding sc k).bound is.bound;
}

-- the moves of sites
module _ (P : Mention → Type 0) (D : Told → Type 0) (sc : Scenario) where
  life_stepped : (site : ℕ) (mine : List Move) (st : SiteStep) → LifeIs P D (life_at mine) → Each P (of_input st.input) → Each (PacketIs P) st.outs →
      Each (EventIs P) st.told → Each D st.told → Each (RecordIs P) st.records → LifeIs P D (life_at (mine ++ record { site = site; did = Stepped st } ∷ []))
  life_stepped site mine st was input outs told begun records =
      let R : Life → Type 0 = LifeIs P D in
      let same : life_at (mine ++ record { site = site; did = Stepped st } ∷ []) ≡ life_by (life_at mine) st =
      ap life_of (incarnation_push mine (record { site = site; did = Stepped st })) ∙ life_push (incarnation_of mine) st in
      let m : Moment = record { before = (life_at mine).log; input = st.input; records = st.records; outs = st.outs; told = st.told } in
      subst R (sym same) (record {
        steps = each-push (MomentIs P) (life_at mine).steps m was.steps (record { input = input; outs = outs; told = told });
        told = each-push (λ x. Each D x.told) (life_at mine).steps m was.told begun;
        log = each-append (RecordIs P) (life_at mine).log st.records was.log records;
      })

  -- a silent move, and a rise
  life_risen : (site : ℕ) (mine : List Move) (did : Did) (records : List Record) → LifeIs P D (life_at mine) → Each (RecordIs P) records →
      incarnation_of (mine ++ record { site = site; did = did } ∷ []) ≡ record { rose = present_log (incarnation_of mine) ++ records; since = [] } →
      LifeIs P D (life_at (mine ++ record { site = site; did = did } ∷ []))
  life_risen site mine did records was more same =
      let R : Incarnation → Type 0 = λ i. LifeIs P D (life_of i) in
      let Q : List Record → Type 0 = Each (RecordIs P) in
      subst R (sym same) (record {
        steps = tt;
        told = tt;
        log = each-append (RecordIs P) (present_log (incarnation_of mine)) records (subst Q (life_log (incarnation_of mine)) was.log) more;
      })

  rise_is : ValuesAre P sc → (site inc : ℕ) (records : List Record) → Each (RecordIs P) (rise_records sc site inc records)
  rise_is vals site inc [] = (each-map P (λ row. OfVal row.val) (rows_at site sc.rows) (rows_are P site sc.rows vals.rows), (tt, tt))
  rise_is vals site inc (r ∷ rs) = (tt, tt)

  -- a tail that is kept
  kept_is : (site : ℕ) (w : Past) (kept : Bool) (o : Option Tail) → LifeIs P D (life_at w.moves) → IfAny (λ tail. Each (RecordIs P) tail.records) o →
      LifeIs P D (life_at (w.moves ++ kept_moves site kept o))
  kept_is site w true (Some tail) life this = life_risen site w.moves (Silent tail.inputs tail.records) tail.records life this
      (incarnation_push w.moves (record { site = site; did = Silent tail.inputs tail.records }))
  kept_is site w true None life this = let R : List Move → Type 0 = λ l. LifeIs P D (life_at l) in subst R (sym (append-nil w.moves)) life
  kept_is site w false o life this = let R : List Move → Type 0 = λ l. LifeIs P D (life_at l) in subst R (sym (append-nil w.moves)) life

  rise_past : ValuesAre P sc → (site : ℕ) (w : Past) (kept : Bool) (inc : ℕ) → SiteIs P D w → SiteIs P D (past_by sc site w (record { owner = site; act = Rise kept inc }))
  rise_past vals site w kept inc was =
      let mine : List Move = w.moves ++ kept_moves site kept w.tail in
      let records : List Record = rise_records sc site inc (log_by mine) in
      let R : List Move → Type 0 = λ l. LifeIs P D (life_at l) in
      record {
        life = subst R (append_assoc w.moves (kept_moves site kept w.tail) (record { site = site; did = Rose inc records } ∷ []))
            (life_risen site mine (Rose inc records) records (kept_is site w kept w.tail was.life was.tail) (rise_is vals site inc (log_by mine))
            (incarnation_push mine (record { site = site; did = Rose inc records })));
        tail = tt;
      }

  left_is : (why : Why) (inputs : List Input) (records : List Record) → Each (RecordIs P) records → IfAny (λ tail. Each (RecordIs P) tail.records) (left_by why inputs records)
  left_is Fault inputs records all = all
  left_is why inputs records all = tt

  rise_fall_past : ValuesAre P sc → (site : ℕ) (w : Past) (kept : Bool) (inc : ℕ) (why : Why) → SiteIs P D w →
      SiteIs P D (past_by sc site w (record { owner = site; act = RiseFall kept inc why }))
  rise_fall_past vals site w kept inc why was = record {
    life = kept_is site w kept w.tail was.life was.tail;
    tail = left_is why [] _ (rise_is vals site inc (log_by (w.moves ++ kept_moves site kept w.tail)));
  }

  fall_past : (site : ℕ) (w : Past) (inputs : List Input) (records : List Record) (why : Why) → SiteIs P D w → Each (RecordIs P) records →
      SiteIs P D (past_by sc site w (record { owner = site; act = Fall inputs records why }))
  fall_past site w inputs records why was all = record {
    life = let R : List Move → Type 0 = λ l. LifeIs P D (life_at l) in subst R (sym (append-nil w.moves)) was.life;
    tail = left_is why (map unnumbered_input inputs) records all;
  }

  -- an act that makes no move and leaves the tail
  quiet_past : (site : ℕ) (w : Past) (act : Act) → moves_of_act sc site w act ≡ [] → tail_of_act sc site w act ≡ w.tail → SiteIs P D w →
      SiteIs P D (past_by sc site w (record { owner = site; act = act }))
  quiet_past site w act moves tail was = record {
    life = let R : List Move → Type 0 = λ l. LifeIs P D (life_at l) in subst R (sym (ap (λ l. w.moves ++ l) moves ∙ append-nil w.moves)) was.life;
    tail = let R : Option Tail → Type 0 = IfAny (λ tail. Each (RecordIs P) tail.records) in subst R (sym tail) was.tail;
  }

-- the sites behind one more entry
pub sites_push : (S : Past → Type 0) (sc : Scenario) (h : List Entry) (owner : ℕ) (act : Act) → ((s : ℕ) → S (past_of sc s (own_entries s h))) →
    S (past_by sc owner (past_of sc owner (own_entries owner h)) (record { owner = owner; act = act })) → (s : ℕ) → S (past_of sc s (own_entries s (h ++ record { owner = owner; act = act } ∷ [])))
sites_push S sc h owner act was this s = by (owner == s) refl
  where
    e : Entry
    e = record { owner = owner; act = act }

    by : (b : Bool) → (owner == s) ≡ b → S (past_of sc s (own_entries s (h ++ e ∷ [])))
    by true is =
        let R : ℕ → Type 0 = λ x. S (past_by sc x (past_of sc x (own_entries x h)) e) in
        subst S (sym (ap (past_of sc s) (own_same s h e is) ∙ past_push sc s (own_entries s h) e)) (subst R (eqb-true owner s is) this)
    by false is = let R : List Entry → Type 0 = λ l. S (past_of sc s l) in subst R (sym (own_other s h e is)) (was s)

pub numbered_are : (P : Mention → Type 0) (site n : ℕ) (ps : List Packet) → Each (Goes P site) ps → Each (PacketIs P) (numbered n ps)
numbered_are P site n [] all = tt
numbered_are P site n (p ∷ ps) all = (all.0.0, numbered_are P site (suc n) ps all.1)

-- a step behind what was said
pub step_said : (P : Mention → Type 0) (B : Txn → Type 0) (D : Told → Type 0) (sc : Scenario) (h : List Entry) (site : ℕ) (i : Input) → SaidIs P D sc h → Each P (of_input i) →
    Keeps P B site (made_by sc h site i) → Each D (made_by sc h site i).told → SaidIs P D sc (h ++ entry_of sc h site i ∷ [])
step_said P B D sc h site i was known keeps begun = record {
  sent = let R : List Packet → Type 0 = Each (PacketIs P) in
      subst R (sym (sent_push h (entry_of sc h site i))) (each-append (PacketIs P) (sent h) _ was.sent (numbered_are P site (suc (length (sent h))) made.outs keeps.outs));
  sites = sites_push (SiteIs P D) sc h site (entry_of sc h site i).act was.sites (record {
    life = life_stepped P D sc site (moves_of sc h site)
        (record { input = unnumbered_input i; records = made.records; outs = map unnumbered (numbered (suc (length (sent h))) made.outs); told = made.told })
        (was.sites site).life (unnumbered_known i known)
        (each-map (PacketIs P) unnumbered (numbered (suc (length (sent h))) made.outs) (numbered_are P site (suc (length (sent h))) made.outs keeps.outs))
        (each-weaker (Tells P B) (EventIs P) (λ e this. this.0) made.told keeps.told) begun keeps.records;
    tail = (was.sites site).tail;
  });
}
  where
    made : Made
    made = made_by sc h site i

    unnumbered_known : (x : Input) → Each P (of_input x) → Each P (of_input (unnumbered_input x))
    unnumbered_known (input.Deliver p) this = this
    unnumbered_known x this = this

-- what a step keeps
pub keeps_at : (P : Mention → Type 0) (B : Txn → Type 0) (D : Told → Type 0) (sc : Scenario) (h : List Entry) (site : ℕ) (i : Input) → SaidIs P D sc h → Each P (of_input i) →
    BeginIs B (place sc.weights site (incarnation_of (moves_of sc h site)) i) i → Keeps P B site (made_by sc h site i)
keeps_at P B D sc h site i was known begins =
    step_keeps P B sc.weights site (incarnation_of (moves_of sc h site)) i (was.sites site).life.steps (was.sites site).life.log known begins

abbrev pub AnyTxn : Txn → Type 0
AnyTxn t = Unit {0}

pub any_begins : (a : At) (i : Input) → BeginIs AnyTxn a i
any_begins a (input.Begin sites) = tt
any_begins a i = tt

pub any_event : (l : List Told) → Each AnyEvent l
any_event l = each-of AnyEvent (λ e. tt) l

-- the inputs and records of a fall
pub record FallIs (P : Mention → Type 0) (sc : Scenario) (h : List Entry) (site : ℕ) (inputs : List Input) : Type 0 where
  pub takes : Each (λ i. Each P (of_input i)) inputs
  pub makes : Each (RecordIs P) (records_by sc h site inputs)

pub fall_is : (P : Mention → Type 0) (sc : Scenario) (inputs : List Input) (h : List Entry) (site : ℕ) → ValuesAre P sc → LineIs P sc (to_line h) → SaidIs P AnyEvent sc h →
    AreDue sc h site inputs → FallIs P sc h site inputs
fall_is P sc [] h site vals line was due = record { takes = tt; makes = tt }
fall_is P sc (i ∷ inputs) h site vals line was due =
    let known : Each P (of_input i) = due_is P sc h site i vals line was.sent due.0 in
    let keeps : Keeps P AnyTxn site (made_by sc h site i) = keeps_at P AnyTxn AnyEvent sc h site i was known (any_begins (place sc.weights site (incarnation_of (moves_of sc h site)) i) i) in
    let R : List Entry → Type 0 = LineIs P sc in
    let more : FallIs P sc (h ++ entry_of sc h site i ∷ []) site inputs =
    fall_is P sc inputs (h ++ entry_of sc h site i ∷ []) site vals (subst R (sym (to_push h (entry_of sc h site i) refl)) line)
    (step_said P AnyTxn AnyEvent sc h site i was known keeps (any_event (made_by sc h site i).told)) due.1 in
    record {
      takes = (known, more.takes);
      makes = each-append (RecordIs P) (made_by sc h site i).records _ keeps.records more.makes;
    }

-- what stands behind entries stands behind one more
began_more : (h : List Entry) (e : Entry) (t : Txn) → WasBegun h t → WasBegun (h ++ e ∷ []) t
began_more h e t was = by (e.owner == t.site) refl
  where
    R : List Entry → Type 0
    R l = Contains (flat_map (λ x. begun_in x.act) l) t

    Q : List Txn → Type 0
    Q l = Contains l t

    by : (b : Bool) → (e.owner == t.site) ≡ b → WasBegun (h ++ e ∷ []) t
    by true is = subst R (sym (own_same t.site h e is)) (subst Q (sym (flat_map-append (λ x. begun_in x.act) (own_entries t.site h) (e ∷ [])))
        (Contains-append_left (flat_map (λ x. begun_in x.act) (own_entries t.site h)) (flat_map (λ x. begun_in x.act) (e ∷ [])) t was))
    by false is = subst R (sym (own_other t.site h e is)) was

pub stands_more : (sc : Scenario) (h : List Entry) (e : Entry) (x : Mention) → Stands sc h x → Stands sc (h ++ e ∷ []) x
stands_more sc h e (OfTxn t) was = began_more h e t was
stands_more sc h e (OfVal val) was = was

-- the transactions that a step begins are begun behind it
began_now : (h : List Entry) (e : Entry) (t : Txn) → (t.site ≡ e.owner) → Contains (begun_in e.act) t → WasBegun (h ++ e ∷ []) t
began_now h e t home has =
    let R : List Entry → Type 0 = λ l. Contains (flat_map (λ x. begun_in x.act) l) t in
    let Q : List Txn → Type 0 = λ l. Contains l t in
    subst R (sym (own_same t.site h e (eq-eqb e.owner t.site (sym home))))
    (subst Q (sym (flat_map-append (λ x. begun_in x.act) (own_entries t.site h) (e ∷ [])))
    (Contains-append_right (flat_map (λ x. begun_in x.act) (own_entries t.site h)) (flat_map (λ x. begun_in x.act) (e ∷ [])) t
    (Contains-append_left (begun_in e.act) [] t has)))

begun_are : (sc : Scenario) (h : List Entry) (e : Entry) (events : List Told) → begun_in e.act ≡ flat_map began_in events → Each (λ x. Each (λ t. t.site ≡ e.owner) (began_in x)) events →
    Each (BeginsKnown (Stands sc (h ++ e ∷ []))) events
begun_are sc h e events same homes =
    each-unflat (λ t. WasBegun (h ++ e ∷ []) t) began_in events
    (each-weaker (λ t. (t.site ≡ e.owner) × Contains (flat_map began_in events) t) (λ t. WasBegun (h ++ e ∷ []) t)
    (λ t both. let Q : List Txn → Type 0 = λ l. Contains l t in began_now h e t both.0 (subst Q (sym same) both.1)) (flat_map began_in events)
    (each-both (λ t. t.site ≡ e.owner) (Contains (flat_map began_in events)) (flat_map began_in events)
    (each-join (λ t. t.site ≡ e.owner) began_in events homes) (each-within (flat_map began_in events))))

-- the values of a scenario stand
pub values_stand : (sc : Scenario) (h : List Entry) → ValuesAre (Stands sc h) sc
values_stand sc h =
    let all : Each (Contains (values_of sc)) (values_of sc) = each-within (values_of sc) in
    let written : List (List ℕ) = flat_map (λ items. flat_map values_in items) sc.steps in
    record {
      rows = each-unmap (Contains (values_of sc)) (λ row. row.val) sc.rows (each-left (Contains (values_of sc)) (map (λ row. row.val) sc.rows) written all);
      steps = each-weaker (λ items. Each (Contains (values_of sc)) (flat_map values_in items)) (Each (ItemIs (Stands sc h)))
          (λ items these. each-unflat (Contains (values_of sc)) values_in items these) sc.steps
          (each-unflat (Contains (values_of sc)) (λ items. flat_map values_in items) sc.steps (each-right (Contains (values_of sc)) (map (λ row. row.val) sc.rows) written all));
    }

-- what holds of a history, and where its present step began
pub record Holds (sc : Scenario) (h : List Entry) : Type 0 where
  pub now : SaidIs (Stands sc h) (BeginsKnown (Stands sc h)) sc h
  pub bound : Each (BoundIs (Stands sc h)) (binding sc h).bound
  pub line : LineIs (Stands sc h) sc (to_line h)

-- one more entry
module _ (sc : Scenario) (h : List Entry) (e : Entry) where
  now_more : SaidIs (Stands sc h) (BeginsKnown (Stands sc h)) sc h → SaidIs (Stands sc (h ++ e ∷ [])) (BeginsKnown (Stands sc (h ++ e ∷ []))) sc h
  now_more is = parts_more (Stands sc h) (Stands sc (h ++ e ∷ [])) (BeginsKnown (Stands sc h)) (BeginsKnown (Stands sc (h ++ e ∷ []))) (stands_more sc h e)
      (begins_more (Stands sc h) (Stands sc (h ++ e ∷ [])) (stands_more sc h e)) sc h is

  binding_push : binding sc (h ++ e ∷ []) ≡ binding_by sc (binding sc h) e
  binding_push = fold-append (binding_by sc) _ h (e ∷ [])

-- an entry that is no step and no line
quiet_holds : (sc : Scenario) (h : List Entry) (owner : ℕ) (act : Act) → Holds sc h → is_line (record { owner = owner; act = act }) ≡ false → outs_of act ≡ [] →
    binding_by sc (binding sc h) (record { owner = owner; act = act }) ≡ binding sc h →
    (SiteIs (Stands sc (h ++ record { owner = owner; act = act } ∷ [])) (BeginsKnown (Stands sc (h ++ record { owner = owner; act = act } ∷ []))) (past_of sc owner (own_entries owner h)) →
    SiteIs (Stands sc (h ++ record { owner = owner; act = act } ∷ [])) (BeginsKnown (Stands sc (h ++ record { owner = owner; act = act } ∷ [])))
    (past_by sc owner (past_of sc owner (own_entries owner h)) (record { owner = owner; act = act }))) →
    Holds sc (h ++ record { owner = owner; act = act } ∷ [])
quiet_holds sc h owner act was stays out same past = record {
  now = record {
    sent = let R : List Packet → Type 0 = Each (PacketIs (Stands sc k)) in
        subst R (sym (sent_push h e ∙ ap (λ l. sent h ++ l) out ∙ append-nil (sent h))) was_more.sent;
    sites = sites_push (SiteIs (Stands sc k) (BeginsKnown (Stands sc k))) sc h owner act was_more.sites (past (was_more.sites owner));
  };
  bound = let R : Binding → Type 0 = λ b. Each (BoundIs (Stands sc k)) b.bound in
      subst R (sym (binding_push sc h e ∙ same)) (bound_more (Stands sc h) (Stands sc k) (stands_more sc h e) (binding sc h).bound was.bound);
  line = let R : List Entry → Type 0 = LineIs (Stands sc k) sc in
      subst R (sym (to_push h e stays)) (line_more (Stands sc h) (Stands sc k) (stands_more sc h e) sc (to_line h) was.line);
}
  where
    e : Entry
    e = record { owner = owner; act = act }

    k : List Entry
    k = h ++ e ∷ []

    was_more : SaidIs (Stands sc k) (BeginsKnown (Stands sc k)) sc h
    was_more = now_more sc h e was.now

-- a line
line_holds : (sc : Scenario) (h : List Entry) (number : ℕ) → Holds sc h → Holds sc (h ++ record { owner = 0; act = Line number } ∷ [])
line_holds sc h number was = record {
  now = now;
  bound = bound;
  line = let R : List Entry → Type 0 = LineIs (Stands sc k) sc in
      subst R (sym (to_at_line h e refl)) (record { lives = λ s. (now.sites s).life; bound = bound });
}
  where
    e : Entry
    e = record { owner = 0; act = Line number }

    k : List Entry
    k = h ++ e ∷ []

    was_more : SaidIs (Stands sc k) (BeginsKnown (Stands sc k)) sc h
    was_more = now_more sc h e was.now

    now : SaidIs (Stands sc k) (BeginsKnown (Stands sc k)) sc k
    now = record {
      sent = let R : List Packet → Type 0 = Each (PacketIs (Stands sc k)) in subst R (sym (sent_push h e ∙ append-nil (sent h))) was_more.sent;
      sites = sites_push (SiteIs (Stands sc k) (BeginsKnown (Stands sc k))) sc h 0 (Line number) was_more.sites
          (quiet_past (Stands sc k) (BeginsKnown (Stands sc k)) sc 0 (past_of sc 0 (own_entries 0 h)) (Line number) refl refl (was_more.sites 0));
    }

    bound : Each (BoundIs (Stands sc k)) (binding sc k).bound
    bound = let R : Binding → Type 0 = λ b. Each (BoundIs (Stands sc k)) b.bound in
        subst R (sym (binding_push sc h e)) (bound_more (Stands sc h) (Stands sc k) (stands_more sc h e) (binding sc h).bound was.bound)

-- what a begin binds
binds_are : (P : Mention → Type 0) (o : Option (List ℕ)) (events : List Told) → Each (BeginsKnown P) events → Each (BoundIs P) (binds o events)
binds_are P None events all = tt
binds_are P (Some name) [] all = tt
binds_are P (Some name) (told.Began t ∷ events) all = all.0
binds_are P (Some name) (x ∷ events) all = tt

step_binds : (P : Mention → Type 0) (sc : Scenario) (was : Binding) (site : ℕ) (i : Input) (records : List Record) (outs : List Packet) (events : List Told) →
    Each (BoundIs P) was.bound → Each (BeginsKnown P) events →
    Each (BoundIs P) (binding_by sc was (record { owner = site; act = Step i records outs events })).bound
step_binds P sc was site (input.Begin sites) records outs events all begun =
    each-append (BoundIs P) was.bound _ all
    (binds_are P (slice_get (begin_names site (step_items sc was.number)) (count_by (λ s. s == site) was.begun_at)) events begun)
step_binds P sc was site i records outs events all begun = all

abbrev AtHome : ℕ → Txn → Type 0
AtHome site t = t.site ≡ site

home_begins : (a : At) (i : Input) → BeginIs (AtHome a.site) a i
home_begins a (input.Begin sites) = refl
home_begins a i = tt

-- an input that is due, and its step
pub step_holds : (sc : Scenario) (h : List Entry) (site : ℕ) (i : Input) → IsDue sc h site i → Holds sc h → Holds sc (h ++ entry_of sc h site i ∷ [])
step_holds sc h site i due was = record {
  now = step_said (Stands sc k) (AtHome site) (BeginsKnown (Stands sc k)) sc h site i was_more known_more keeps begun;
  bound = let R : Binding → Type 0 = λ b. Each (BoundIs (Stands sc k)) b.bound in
      subst R (sym (binding_push sc h e)) (step_binds (Stands sc k) sc (binding sc h) site i made.records (numbered (suc (length (sent h))) made.outs) made.told
      (bound_more (Stands sc h) (Stands sc k) (stands_more sc h e) (binding sc h).bound was.bound) begun);
  line = let R : List Entry → Type 0 = LineIs (Stands sc k) sc in
      subst R (sym (to_push h e refl)) (line_more (Stands sc h) (Stands sc k) (stands_more sc h e) sc (to_line h) was.line);
}
  where
    e : Entry
    e = entry_of sc h site i

    k : List Entry
    k = h ++ entry_of sc h site i ∷ []

    made : Made
    made = made_by sc h site i

    was_more : SaidIs (Stands sc k) (BeginsKnown (Stands sc k)) sc h
    was_more = now_more sc h (entry_of sc h site i) was.now

    known : Each (Stands sc h) (of_input i)
    known = due_is (Stands sc h) sc h site i (values_stand sc h) was.line was.now.sent due

    known_more : Each (Stands sc k) (of_input i)
    known_more = each-weaker (Stands sc h) (Stands sc k) (stands_more sc h (entry_of sc h site i)) (of_input i) known

    keeps : Keeps (Stands sc k) (AtHome site) site (made_by sc h site i)
    keeps = keeps_at (Stands sc k) (AtHome site) (BeginsKnown (Stands sc k)) sc h site i was_more known_more
        (home_begins (place sc.weights site (incarnation_of (moves_of sc h site)) i) i)

    begun : Each (BeginsKnown (Stands sc k)) (made_by sc h site i).told
    begun = begun_are sc h (entry_of sc h site i) (made_by sc h site i).told refl
        (each-weaker (Tells (Stands sc k) (AtHome site)) (λ x. Each (λ t. t.site ≡ site) (began_in x)) (λ x this. this.1) (made_by sc h site i).told keeps.told)

-- each entry that meets its guard
pub guard_holds : (sc : Scenario) (h : List Entry) (owner : ℕ) (act : Act) → Holds sc h → Guard sc h (record { owner = owner; act = act }) →
    Holds sc (h ++ record { owner = owner; act = act } ∷ [])
guard_holds sc h zero (Line number) was guard = line_holds sc h number was
guard_holds sc h zero (Parts parts) was guard = quiet_holds sc h 0 (Parts parts) was refl refl refl (quiet_past _ _ sc 0 (past_of sc 0 (own_entries 0 h)) (Parts parts) refl refl)
guard_holds sc h zero (Drop number) was guard = quiet_holds sc h 0 (Drop number) was refl refl refl (quiet_past _ _ sc 0 (past_of sc 0 (own_entries 0 h)) (Drop number) refl refl)
guard_holds sc h zero act was guard = absurd guard
guard_holds sc h (suc s) (Step i records outs events) was guard =
    let R : Entry → Type 0 = λ e. Holds sc (h ++ e ∷ []) in
    subst R (sym guard.made) (step_holds sc h (suc s) i guard.due was)
guard_holds sc h (suc s) (Fall inputs records why) was guard =
    let e : Entry = record { owner = suc s; act = Fall inputs records why } in
    let P : Mention → Type 0 = Stands sc h in
    let Q : Mention → Type 0 = Stands sc (h ++ e ∷ []) in
    let fall : FallIs P sc h (suc s) inputs = fall_is P sc inputs h (suc s) (values_stand sc h) was.line
    (parts_more P P (BeginsKnown P) AnyEvent (λ x this. this) (λ x this. tt) sc h was.now) guard.due in
    let R : List Record → Type 0 = Each (RecordIs P) in
    quiet_holds sc h (suc s) (Fall inputs records why) was refl refl refl
    (λ site. fall_past Q (BeginsKnown Q) sc (suc s) (past_of sc (suc s) (own_entries (suc s) h)) inputs records why site
    (records_more P Q (BeginsKnown P) (BeginsKnown Q) (stands_more sc h e) (begins_more P Q (stands_more sc h e)) records (subst R (sym guard.made) fall.makes)))
guard_holds sc h (suc s) Cut was guard = quiet_holds sc h (suc s) Cut was refl refl refl (quiet_past _ _ sc (suc s) (past_of sc (suc s) (own_entries (suc s) h)) Cut refl refl)
guard_holds sc h (suc s) (Rise kept inc) was guard = quiet_holds sc h (suc s) (Rise kept inc) was refl refl refl
    (rise_past _ _ sc (values_stand sc (h ++ record { owner = suc s; act = Rise kept inc } ∷ [])) (suc s) (past_of sc (suc s) (own_entries (suc s) h)) kept inc)
guard_holds sc h (suc s) (RiseFall kept inc why) was guard = quiet_holds sc h (suc s) (RiseFall kept inc why) was refl refl refl
    (rise_fall_past _ _ sc (values_stand sc (h ++ record { owner = suc s; act = RiseFall kept inc why } ∷ [])) (suc s) (past_of sc (suc s) (own_entries (suc s) h)) kept inc why)
guard_holds sc h (suc s) Miss was guard = quiet_holds sc h (suc s) Miss was refl refl refl (quiet_past _ _ sc (suc s) (past_of sc (suc s) (own_entries (suc s) h)) Miss refl refl)
guard_holds sc h (suc s) act was guard = absurd guard

pub first_holds : (sc : Scenario) → Holds sc []
first_holds sc = record {
  now = record { sent = tt; sites = λ s. record { life = record { steps = tt; told = tt; log = tt }; tail = tt } };
  bound = tt;
  line = record { lives = λ s. record { steps = tt; told = tt; log = tt }; bound = tt };
}

after_holds : (sc : Scenario) (before rest : List Entry) → Holds sc before → LegalAfter sc before rest → Holds sc (before ++ rest)
after_holds sc before [] was legal = let R : List Entry → Type 0 = Holds sc in subst R (sym (append-nil before)) was
after_holds sc before (e ∷ rest) was legal = let R : List Entry → Type 0 = Holds sc in
    subst R (append_assoc before (e ∷ []) rest) (after_holds sc (before ++ e ∷ []) rest (guard_holds sc before e.owner e.act was legal.0) legal.1)

-- every legal history
pub legal_holds : (sc : Scenario) (h : List Entry) → IsLegal sc h → Holds sc h
legal_holds sc h legal = after_holds sc [] h (first_holds sc) legal
