-- What is kept goes on with falls, rises, cuts, drops and new parts.
use Rattle.std.proofs.Common.{◌≡◌, ◌≢◌, ◌==◌, ◌+◌, ◌&&◌, ◌||◌, not, eqb-true, ◌-◌, ◌≤◌, ℕ, zero, suc, Bool, true, false, List, length, [], ◌∷◌, ◌++◌, ◌∙◌, ap, sym, refl, subst, None, arith, append-nil, append_assoc, Some}
use Rattle.std.specs.Prelude.{slice_get, slice_set, option_map}
use Rattle.std.proofs.lemmas.Bool.{and_parts}
use Rattle.e3_types.specs.declared.entries.Act.{Act}
use Rattle.e3_types.specs.declared.entries.Act.TheVariants.{Step, Fall, Rise, RiseFall, Miss, Cut, Drop, Parts, Line}
use Rattle.e3_types.specs.declared.entries.Entry.{Entry}
use Rattle.e3_types.specs.declared.entries.Input.{Input}
use Rattle.e3_types.specs.declared.entries.Why.{Why}
use Rattle.e3_types.specs.declared.messages.Packet.{Packet}
use Rattle.e3_types.specs.declared.records.Record.{Record}
use Rattle.e3_types.specs.declared.scenarios.Scenario.{Scenario}
use Rattle.e3_judge.specs.Checks.{checks, first_failing}
use Rattle.e3_judge.specs.Equal.{is_some, same_packet}
use Rattle.e3_judge.proofs.Passing.{guard_from_checks}
use Rattle.e3_net.specs.Stands.{AreNext, IsNext, NetStands, behind_input, behind_inputs, is_quiet}
use Rattle.e3_net.specs.Traffic.{Traffic, packet_to, takes}
use Rattle.e3_net.proofs.Keeping.{drop_keeps, fall_keeps, parts_keep, quiet_keeps}
use Rattle.e3_net.proofs.Showing.{taken_is_pending}
use Rattle.e3_site.specs.SiteView.{SiteView}
use Rattle.e3_site.specs.Rebuilt.{StandsForEach}
use Rattle.e3_site.specs.StandsFor.{StandsFor}
use Rattle.e3_world.specs.Items.{is_up_at}
use Rattle.e3_world.specs.Legal.{Guard, IsDrop, IsDue, IsLegal, made_by}
use Rattle.e3_world.specs.Moves.{Move, Past, Rose, kept_moves, log_by, log_of, moves_of, own_entries, past_of, rise_records}
use Rattle.e3_world.specs.Packets.{is_calm, is_line, step_items}
use Rattle.e3_world.proofs.Pushes.{legal_push}
use Rattle.e3_world.proofs.Readings.{up_same}
use Rattle.e3_world.proofs.Turns.{self}
use Rattle.e3_judge.specs.declared.audit.auditor.Auditor.{Auditor}
use Rattle.e3_judge.specs.declared.audit.seat.Being.{Being}
use Rattle.e3_judge.specs.declared.audit.seat.Being.TheVariants.{Up, Down}
use Rattle.e3_judge.specs.declared.audit.seat.Seat.{Seat}
use Rattle.e3_judge.specs.audit.Seats.{BeingStands, IsLost, IsUp, RoseLast, SeatStands, SeatsStand, Stands, TakesAll, is_down}
use Rattle.e3_judge.proofs.audit.Entered.{goes_on, in_order}
use Rattle.e3_judge.proofs.audit.Readings.{lines_still, past_own}
use Rattle.e3_judge.proofs.audit.Seats.{seat_cut, seat_rise, seats_driver}

-- the site that rose last
rose_by : (sc : Scenario) (h : List Entry) (site inc : ℕ) (kept : Bool) (s : SiteView) → s.site ≡ site →
    IsLegal sc (h ++ record { owner = site; act = Rise kept inc } ∷ []) →
    StandsForEach (log_of sc (h ++ record { owner = site; act = Rise kept inc } ∷ []) site) s →
    IsUp sc (h ++ record { owner = site; act = Rise kept inc } ∷ []) site s
rose_by sc h site inc kept s number legal stands = record {
  up = up_same h e site (self site);
  stands = subst (λ n. StandsFor sc (h ++ e ∷ []) n s) number (stands sc (h ++ e ∷ []) legal (record {
    before = moves_of sc h site ++ silent;
    inc = inc;
    records = records;
    last = subst (λ n. moves_of sc (h ++ e ∷ []) n ≡ (moves_of sc h site ++ silent) ++ record { site = n; did = Rose inc records } ∷ []) (sym number) moves;
    log_is = ap (log_of sc (h ++ e ∷ [])) (sym number);
  }));
}
  where
    e : Entry
    e = record { owner = site; act = Rise kept inc }

    silent : List Move
    silent = kept_moves site kept (past_of sc site (own_entries site h)).tail

    records : List Record
    records = rise_records sc site inc (log_by (moves_of sc h site ++ silent))

    moves : moves_of sc (h ++ e ∷ []) site ≡ (moves_of sc h site ++ silent) ++ record { site = site; did = Rose inc records } ∷ []
    moves = ap (λ (p : Past). p.moves) (past_own sc h e site (self site))
        ∙ sym (append_assoc (moves_of sc h site) silent (record { site = site; did = Rose inc records } ∷ []))

pub up_rise : (sc : Scenario) (h : List Entry) (site : ℕ) (log : List Record) (s : SiteView) → IsLegal sc h → RoseLast h site → s.site ≡ site →
    log ≡ log_of sc h site → StandsForEach log s → IsUp sc h site s
up_rise sc h site log s legal last number is stands =
    subst (λ (l : List Entry). IsUp sc l site s) (sym last.is)
    (rose_by sc last.before site last.inc last.kept s number (subst (IsLegal sc) last.is legal)
    (subst (λ (l : List Entry). StandsForEach (log_of sc l site) s) last.is (subst (λ (l : List Record). StandsForEach l s) is stands)))

-- a rise, one that failed or was missed, and a cut

is_act : (e : Entry) (act : Act) → e.act ≡ act → e ≡ record { owner = e.owner; act = act }
is_act e act is = ap (λ (a : Act). let x : Entry = record { owner = e.owner; act = a } in x) is

pub rose_last : (h after : List Entry) (e : Entry) (kept : Bool) (inc : ℕ) → e.act ≡ Rise kept inc → after ≡ h ++ e ∷ [] → RoseLast after e.owner
rose_last h after e kept inc is last = record {
  before = h;
  kept = kept;
  inc = inc;
  is = last ∙ ap (λ (x : Entry). h ++ x ∷ []) (is_act e (Rise kept inc) is);
}

pub seat_rose : (sc : Scenario) (h after : List Entry) (e : Entry) (kept : Bool) (inc : ℕ) (seat new : Seat) (s : SiteView) → e.act ≡ Rise kept inc →
    after ≡ h ++ e ∷ [] → SeatStands sc h e.owner seat → IsUp sc after e.owner s → new ≡ record seat { being = Up s; rising = true } →
    SeatStands sc after e.owner new
seat_rose sc h after e kept inc seat new s is last was up same =
    subst (λ (l : List Entry). SeatStands sc l e.owner new) (sym all) (subst (λ (x : Seat). SeatStands sc (h ++ r ∷ []) e.owner x) (sym same)
    (seat_rise sc h r e.owner seat (Up s) (self e.owner) refl refl refl was (subst (λ (l : List Entry). IsUp sc l e.owner s) all up)))
  where
    r : Entry
    r = record { owner = e.owner; act = Rise kept inc }

    all : after ≡ h ++ r ∷ []
    all = last ∙ ap (λ (x : Entry). h ++ x ∷ []) (is_act e (Rise kept inc) is)

pub seat_failed : (sc : Scenario) (h after : List Entry) (e : Entry) (kept : Bool) (inc : ℕ) (why : Why) (seat new : Seat) → e.act ≡ RiseFall kept inc why →
    after ≡ h ++ e ∷ [] → SeatStands sc h e.owner seat → new ≡ record seat { being = Down; rising = true } → SeatStands sc after e.owner new
seat_failed sc h after e kept inc why seat new is last was same =
    subst (λ (l : List Entry). SeatStands sc l e.owner new) (sym all) (subst (λ (x : Seat). SeatStands sc (h ++ r ∷ []) e.owner x) (sym same)
    (seat_rise sc h r e.owner seat Down (self e.owner) refl refl refl was (up_same h r e.owner (self e.owner))))
  where
    r : Entry
    r = record { owner = e.owner; act = RiseFall kept inc why }

    all : after ≡ h ++ r ∷ []
    all = last ∙ ap (λ (x : Entry). h ++ x ∷ []) (is_act e (RiseFall kept inc why) is)

pub seat_missed : (sc : Scenario) (h after : List Entry) (e : Entry) (seat new : Seat) → e.act ≡ Miss → after ≡ h ++ e ∷ [] →
    SeatStands sc h e.owner seat → new ≡ record seat { being = Down; rising = true } → SeatStands sc after e.owner new
seat_missed sc h after e seat new is last was same =
    subst (λ (l : List Entry). SeatStands sc l e.owner new) (sym all) (subst (λ (x : Seat). SeatStands sc (h ++ r ∷ []) e.owner x) (sym same)
    (seat_rise sc h r e.owner seat Down (self e.owner) refl refl refl was (up_same h r e.owner (self e.owner))))
  where
    r : Entry
    r = record { owner = e.owner; act = Miss }

    all : after ≡ h ++ r ∷ []
    all = last ∙ ap (λ (x : Entry). h ++ x ∷ []) (is_act e Miss is)

pub seat_was_cut : (sc : Scenario) (h after : List Entry) (e : Entry) (seat new : Seat) → e.act ≡ Cut → after ≡ h ++ e ∷ [] →
    SeatStands sc h e.owner seat → new ≡ record seat { being = Down } → SeatStands sc after e.owner new
seat_was_cut sc h after e seat new is last was same =
    subst (λ (l : List Entry). SeatStands sc l e.owner new) (sym all) (subst (λ (x : Seat). SeatStands sc (h ++ r ∷ []) e.owner x) (sym same)
    (seat_cut sc h e.owner seat was))
  where
    r : Entry
    r = record { owner = e.owner; act = Cut }

    all : after ≡ h ++ r ∷ []
    all = last ∙ ap (λ (x : Entry). h ++ x ∷ []) (is_act e Cut is)

quiet_line : (owner : ℕ) (act : Act) → is_quiet act ≡ true → is_line (record { owner = owner; act = act }) ≡ false
quiet_line owner (Rise kept inc) is = refl
quiet_line owner (RiseFall kept inc why) is = refl
quiet_line owner Miss is = refl
quiet_line owner Cut is = refl
quiet_line owner (Step i records outs told) is = absurd cc
quiet_line owner (Fall inputs records why) is = absurd cc
quiet_line owner (Drop number) is = absurd cc
quiet_line owner (Parts parts) is = absurd cc
quiet_line owner (Line number) is = absurd cc

-- the history with an entry whose checks all pass
pub legal_behind : (sc : Scenario) (h after : List Entry) (e : Entry) → IsLegal sc h → after ≡ h ++ e ∷ [] → first_failing (checks sc h e) ≡ None → IsLegal sc after
legal_behind sc h after e was last none = subst (IsLegal sc) (sym last) (legal_push sc h e was (guard_from_checks sc h e none))

pub turned : (sc : Scenario) (h after : List Entry) (e : Entry) (seat : Seat) (a new : Auditor) → Stands sc h a → after ≡ h ++ e ∷ [] → 1 ≤ e.owner →
    is_quiet e.act ≡ true → first_failing (checks sc h e) ≡ None → SeatStands sc after e.owner seat → new.lines ≡ a.lines →
    new.net.traffic ≡ a.net.traffic → new.seats.items ≡ slice_set a.seats.items (e.owner - 1) seat → Stands sc after new
turned sc h after e seat a new was last one quiet none seated lines net seats =
    subst (λ (l : List Entry). Stands sc l new) (sym last)
    (goes_on sc h e e.owner seat a new was one refl (quiet_line e.owner e.act quiet) (guard_from_checks sc h e none)
    (subst (λ (l : List Entry). SeatStands sc l e.owner seat) last seated) lines
    (subst (NetStands sc (h ++ e ∷ [])) (sym net) (quiet_keeps sc h a.net.traffic e was.net quiet)) seats)

-- a fall

fall_guard : (sc : Scenario) (h : List Entry) (site : ℕ) (i : Input) (records : List Record) (why : Why) → 1 ≤ site → is_up_at h site ≡ true →
    IsDue sc h site i → records ≢ [] → records ≡ (made_by sc h site i).records → Guard sc h (record { owner = site; act = Fall (i ∷ []) records why })
fall_guard sc h zero i records why one up due some made = absurd (omega (arith, one))
fall_guard sc h (suc s) i records why one up due some made = record {
  up = up;
  due = (due, tt);
  some = some;
  made = made ∙ sym (append-nil (made_by sc h (suc s) i).records);
}

pub fell : (sc : Scenario) (h : List Entry) (site : ℕ) (i : Input) (records : List Record) (why : Why) (seat : Seat) (a new : Auditor) → Stands sc h a →
    1 ≤ site → records ≢ [] → IsDue sc h site i → IsNext a.net.traffic i → is_up_at h site ≡ true → records ≡ (made_by sc h site i).records →
    SeatStands sc (h ++ record { owner = site; act = Fall (i ∷ []) records why } ∷ []) site seat → new.lines ≡ a.lines →
    new.net.traffic ≡ behind_input a.net.traffic i → new.seats.items ≡ slice_set a.seats.items (site - 1) seat →
    Stands sc (h ++ record { owner = site; act = Fall (i ∷ []) records why } ∷ []) new
fell sc h site i records why seat a new was one some due next up made seated lines net seats =
    goes_on sc h e site seat a new was one refl refl (fall_guard sc h site i records why one up due some made) seated lines
    (subst (NetStands sc (h ++ e ∷ [])) (sym net) (fall_keeps sc h a.net.traffic site (i ∷ []) records why was.net (next, tt))) seats
  where
    e : Entry
    e = record { owner = site; act = Fall (i ∷ []) records why }

-- a fall over several inputs

next_more : (net : Traffic) (inputs : List Input) (i : Input) → AreNext net inputs → IsNext (behind_inputs net inputs) i → AreNext net (inputs ++ i ∷ [])
next_more net [] i all one = (one, tt)
next_more net (j ∷ inputs) i all one = (all.0, next_more (behind_input net j) inputs i all.1 one)

behind_more : (net : Traffic) (inputs : List Input) (i : Input) → behind_inputs net (inputs ++ i ∷ []) ≡ behind_input (behind_inputs net inputs) i
behind_more net [] i = refl
behind_more net (j ∷ inputs) i = behind_more (behind_input net j) inputs i

pub takes_more : (old mid new : Traffic) (inputs : List Input) (i : Input) → TakesAll old inputs mid → IsNext mid i → new ≡ behind_input mid i →
    TakesAll old (inputs ++ i ∷ []) new
takes_more old mid new inputs i was one made = record {
  next = next_more old inputs i was.next (subst (λ (t : Traffic). IsNext t i) was.behind one);
  behind = made ∙ ap (λ (t : Traffic). behind_input t i) was.behind ∙ sym (behind_more old inputs i);
}

pub fell_all : (sc : Scenario) (h : List Entry) (e : Entry) (site : ℕ) (inputs : List Input) (records : List Record) (why : Why) (seat : Seat) (a new : Auditor) →
    Stands sc h a → 1 ≤ site → e ≡ record { owner = site; act = Fall inputs records why } → first_failing (checks sc h e) ≡ None →
    TakesAll a.net.traffic inputs new.net.traffic → SeatStands sc (h ++ record { owner = site; act = Fall inputs records why } ∷ []) site seat →
    new.lines ≡ a.lines → new.seats.items ≡ slice_set a.seats.items (site - 1) seat →
    Stands sc (h ++ record { owner = site; act = Fall inputs records why } ∷ []) new
fell_all sc h e site inputs records why seat a new was one is none taken seated lines seats =
    goes_on sc h f site seat a new was one refl refl (subst (Guard sc h) is (guard_from_checks sc h e none)) seated lines
    (subst (NetStands sc (h ++ f ∷ [])) (sym taken.behind) (fall_keeps sc h a.net.traffic site inputs records why was.net taken.next)) seats
  where
    f : Entry
    f = record { owner = site; act = Fall inputs records why }

-- an entry of the driver that is no line

stays_on : (sc : Scenario) (h : List Entry) (e : Entry) (a new : Auditor) → Stands sc h a → e.owner ≡ 0 → is_line e ≡ false → Guard sc h e →
    new.lines ≡ a.lines → NetStands sc (h ++ e ∷ []) new.net.traffic → new.seats.items ≡ a.seats.items → Stands sc (h ++ e ∷ []) new
stays_on sc h e a new was owner stays allowed lines net seats = record {
  legal = legal_push sc h e was.legal allowed;
  lines_are = lines_still h e stays ∙ was.lines_are ∙ sym lines;
  net = net;
  count = ap length seats ∙ was.count;
  few = was.few;
  seats = subst (SeatsStand sc (h ++ e ∷ [])) (sym seats) (seats_driver sc h e a.seats.items stays owner was.seats);
}

pub parted : (sc : Scenario) (h : List Entry) (e : Entry) (parts : List (List ℕ)) (a new : Auditor) → Stands sc h a → e.owner ≡ 0 → e.act ≡ Parts parts →
    first_failing (checks sc h e) ≡ None → new.lines ≡ a.lines → new.net.traffic ≡ record a.net.traffic { parts = parts } →
    new.seats.items ≡ a.seats.items → Stands sc (h ++ e ∷ []) new
parted sc h e parts a new was owner is none lines net seats =
    subst (λ (x : Entry). Stands sc (h ++ x ∷ []) new) (sym same)
    (stays_on sc h p a new was refl refl (subst (Guard sc h) same (guard_from_checks sc h e none)) lines
    (subst (NetStands sc (h ++ p ∷ [])) (sym net) (parts_keep sc h a.net.traffic 0 parts was.net)) seats)
  where
    p : Entry
    p = record { owner = 0; act = Parts parts }

    same : e ≡ p
    same = is_act e (Parts parts) is ∙ ap (λ n. let x : Entry = record { owner = n; act = Parts parts } in x) owner

-- a drop

lost_guard : (sc : Scenario) (h : List Entry) (net : Traffic) (number site : ℕ) → NetStands sc h net → IsLost sc h net number site → IsDrop sc h number
lost_guard sc h net number site was lost =
    let there = taken_is_pending sc h net site lost.packet was lost.next in
    record {
      packet = lost.packet;
      is_pending = there.0;
      is_its = lost.is_its;
      down = subst (λ n. is_up_at h n ≡ false) (sym there.1) lost.down;
      in_order = lost.in_order;
    }

pub dropped : (sc : Scenario) (h : List Entry) (number site : ℕ) (a new : Auditor) → Stands sc h a → IsLost sc h a.net.traffic number site →
    new.lines ≡ a.lines → new.net.traffic ≡ takes site a.net.traffic → new.seats.items ≡ a.seats.items →
    Stands sc (h ++ record { owner = 0; act = Drop number } ∷ []) new
dropped sc h number site a new was lost lines net seats =
    stays_on sc h e a new was refl refl (lost_guard sc h a.net.traffic number site was.net lost) lines
    (subst (NetStands sc (h ++ e ∷ [])) (sym net)
    (subst (λ n. NetStands sc (h ++ record { owner = 0; act = Drop n } ∷ []) (takes site a.net.traffic)) lost.is_its
    (drop_keeps sc h a.net.traffic 0 site lost.packet was.net lost.next))) seats
  where
    e : Entry
    e = record { owner = 0; act = Drop number }

-- a seat that is down
pub seat_down : (sc : Scenario) (h : List Entry) (k : ℕ) (seat : Seat) → SeatStands sc h k seat → is_down seat ≡ true → is_up_at h k ≡ false
seat_down sc h k seat was down = by seat.being refl was.being
  where
    by : (b : Being) → seat.being ≡ b → BeingStands sc h k b → is_up_at h k ≡ false
    by (Up s) is up = absurd (let no : is_down seat ≡ false = rw is refl in let both : true ≡ false = sym down ∙ no in cc)
    by Down is lies = lies

pub lost_here : (sc : Scenario) (h : List Entry) (a : Auditor) (number at : ℕ) (seat : Seat) (p : Packet) → Stands sc h a →
    slice_get a.seats.items at ≡ Some seat → is_down seat ≡ true → packet_to (at + 1) a.net.traffic ≡ Some p →
    ((p.number == number) && (not (is_calm (step_items sc a.lines))
    || is_some same_packet (option_map (λ w. w.packet) (slice_get a.net.traffic.waiting 0)) p)) ≡ true →
    IsLost sc h a.net.traffic number (at + 1)
lost_here sc h a number at seat p was there down next both = record {
  packet = p;
  next = next;
  is_its = eqb-true p.number number parts.0;
  down = subst (λ n. is_up_at h n ≡ false) (let one : suc at ≡ at + 1 = omega arith in one) (seat_down sc h (suc at) seat (was.seats at seat there) down);
  in_order = in_order sc h p a was parts.1;
}
  where
    order : Bool
    order = not (is_calm (step_items sc a.lines)) || is_some same_packet (option_map (λ w. w.packet) (slice_get a.net.traffic.waiting 0)) p

    parts : ((p.number == number) ≡ true) × (order ≡ true)
    parts = and_parts (p.number == number) order both
