-- The checks of an entry all pass exactly where its guard holds, behind entries that are legal.
use Rattle.std.proofs.Common.{◌≡◌, ◌≢◌, ◌&&◌, ◌≤◌, ◌∷◌, [], ℕ, suc, zero, Bool, true, false, not, List, length, None, refl, arith, eqb-true}
use Rattle.std.proofs.lemmas.Bool.{and_parts}
use Rattle.e3_types.specs.declared.entries.Act.{Act}
use Rattle.e3_types.specs.declared.entries.Act.TheVariants.{Step, Fall, Rise, RiseFall, Miss, Cut, Drop, Parts, Line}
use Rattle.e3_types.specs.declared.entries.Entry.{Entry}
use Rattle.e3_types.specs.declared.entries.Input.{Input}
use Rattle.e3_types.specs.declared.entries.Told.{Told}
use Rattle.e3_types.specs.declared.entries.Why.{Why}
use Rattle.e3_types.specs.declared.messages.Packet.{Packet}
use Rattle.e3_types.specs.declared.records.Record.{Record}
use Rattle.e3_types.specs.declared.scenarios.Scenario.{Scenario}
use Rattle.e3_world.specs.declared.lives.Made.{Made}
use Rattle.e3_world.specs.Items.{is_up_at}
use Rattle.e3_world.specs.Legal.{IsLegal, Guard, IsLine, IsParts, IsDrop, IsStep, IsFall, IsCut, IsRising, IsRise, made_by, numbered, records_by}
use Rattle.e3_world.specs.Moves.{open_tail}
use Rattle.e3_world.specs.Packets.{sent, present_items}
use Rattle.e3_judge.specs.Checks.{Check, is_empty, step_checks, fall_checks, rising_checks, rise_checks, checks, first_failing}
use Rattle.e3_judge.specs.Equal.{same_list, same_record}
use Rattle.e3_judge.proofs.Anys.{decides_false}
use Rattle.e3_judge.proofs.Deciding.{decides_line, decides_parts, decides_drop, decides_input, decides_inputs, decides_crash, decides_tail, decides_inc, records_exact, packets_exact, events_exact, step_parts}
use Rattle.e3_judge.proofs.Owners.{site_low, site_high, up_is_site, is_site_from}

-- each of these checks holds
abbrev AllHold : List Check → Type 0
AllHold [] = Unit {0}
AllHold (c ∷ more) = (c.holds ≡ true) × AllHold more

holding : (cs : List Check) → first_failing cs ≡ None → AllHold cs
holding [] e = tt
holding (c ∷ more) e = by c.holds refl (holding more) e
  where
    by : (b : Bool) → c.holds ≡ b → (first_failing more ≡ None → AllHold more) → first_failing (record { guard = c.guard; holds = b } ∷ more) ≡ None →
        AllHold (c ∷ more)
    by true is later e = (is, later e)
    by false is later e = absurd cc

not_failing : (cs : List Check) → AllHold cs → first_failing cs ≡ None
not_failing [] all = refl
not_failing (c ∷ more) all = by c.holds all.0 (not_failing more all.1)
  where
    by : (b : Bool) → b ≡ true → first_failing more ≡ None → first_failing (record { guard = c.guard; holds = b } ∷ more) ≡ None
    by true is later = later
    by false is later = absurd cc

-- the driver's entries
line_guard : (sc : Scenario) (h : List Entry) (o n : ℕ) → o ≡ 0 → IsLine sc h n → Guard sc h (record { owner = o; act = Line n })
line_guard sc h zero n is g = g
line_guard sc h (suc s) n is g = absurd (omega (arith, is))

parts_guard : (sc : Scenario) (h : List Entry) (o : ℕ) (parts : List (List ℕ)) → o ≡ 0 → IsParts sc h parts →
    Guard sc h (record { owner = o; act = Parts parts })
parts_guard sc h zero parts is g = g
parts_guard sc h (suc s) parts is g = absurd (omega (arith, is))

drop_guard : (sc : Scenario) (h : List Entry) (o n : ℕ) → o ≡ 0 → IsDrop sc h n → Guard sc h (record { owner = o; act = Drop n })
drop_guard sc h zero n is g = g
drop_guard sc h (suc s) n is g = absurd (omega (arith, is))

-- a step
step_made : (site : ℕ) (i : Input) (records : List Record) (outs : List Packet) (events : List Told) (made : Made) (n : ℕ) →
    records ≡ made.records → outs ≡ numbered n made.outs → events ≡ made.told →
    let step : Entry = record { owner = site; act = Step i records outs events } in
    step ≡ record { owner = site; act = Step i made.records (numbered n made.outs) made.told }
step_made site i records outs events made n r o t = cc

step_guard : (sc : Scenario) (h : List Entry) (o : ℕ) (i : Input) (records : List Record) (outs : List Packet) (events : List Told) →
    AllHold (step_checks sc h o i records outs events) → Guard sc h (record { owner = o; act = Step i records outs events })
step_guard sc h zero i records outs events p = absurd (omega (arith, site_low sc zero p.0))
step_guard sc h (suc s) i records outs events p = record {
  up = p.1.0;
  due = (decides_input sc h (suc s) i).0 p.1.1.0;
  made = step_made (suc s) i records outs events (made_by sc h (suc s) i) (suc (length (sent h)))
      ((records_exact records _).0 p.1.1.1.0) ((packets_exact outs _).0 p.1.1.1.1.0) ((events_exact events _).0 p.1.1.1.1.1.0);
}

step_checked : (sc : Scenario) (h : List Entry) (o : ℕ) (i : Input) (records : List Record) (outs : List Packet) (events : List Told) →
    IsLegal sc h → IsStep sc h o i (Step i records outs events) → AllHold (step_checks sc h o i records outs events)
step_checked sc h o i records outs events legal g =
    by (step_parts o i records (made_by sc h o i).records outs (numbered (suc (length (sent h))) (made_by sc h o i).outs) events (made_by sc h o i).told g.made)
  where
    by : (records ≡ (made_by sc h o i).records) × (outs ≡ numbered (suc (length (sent h))) (made_by sc h o i).outs) × (events ≡ (made_by sc h o i).told) →
        AllHold (step_checks sc h o i records outs events)
    by (r, n, t) = (
      up_is_site sc h o legal g.up,
      (
        g.up,
        (
          (decides_input sc h o i).1 g.due,
          ((records_exact records _).1 r, ((packets_exact outs _).1 n, ((events_exact events _).1 t, tt))),
        ),
      ),
    )

-- a fall
some_records : (rs : List Record) → not (is_empty rs) ≡ true → rs ≢ []
some_records [] some none = absurd cc
some_records (r ∷ rs) some none = absurd cc

are_some : (rs : List Record) → rs ≢ [] → not (is_empty rs) ≡ true
are_some [] some = absurd (some refl)
are_some (r ∷ rs) some = refl

and_both : (x y : Bool) → x ≡ true → y ≡ true → (x && y) ≡ true
and_both x y p q = rw (p, q) refl

fall_guard : (sc : Scenario) (h : List Entry) (o : ℕ) (inputs : List Input) (records : List Record) (why : Why) →
    AllHold (fall_checks sc h o inputs records) → Guard sc h (record { owner = o; act = Fall inputs records why })
fall_guard sc h zero inputs records why p = absurd (omega (arith, site_low sc zero p.0))
fall_guard sc h (suc s) inputs records why p = by (and_parts (not (is_empty records)) _ p.1.1.1.0)
  where
    by : (not (is_empty records) ≡ true) × (same_list same_record records (records_by sc h (suc s) inputs) ≡ true) → Guard sc h (record { owner = suc s; act = Fall inputs records why })
    by parts = record {
      up = p.1.0;
      due = (decides_inputs sc h (suc s) inputs).0 p.1.1.0;
      some = some_records records parts.0;
      made = (records_exact records _).0 parts.1;
    }

fall_checked : (sc : Scenario) (h : List Entry) (o : ℕ) (inputs : List Input) (records : List Record) →
    IsLegal sc h → IsFall sc h o inputs records → AllHold (fall_checks sc h o inputs records)
fall_checked sc h o inputs records legal g = (
  up_is_site sc h o legal g.up,
  (
    g.up,
    (
      (decides_inputs sc h o inputs).1 g.due,
      (and_both _ _ (are_some records g.some) ((records_exact records _).1 g.made), tt),
    ),
  ),
)

-- a cut
cut_guard : (sc : Scenario) (h : List Entry) (o : ℕ) → AllHold (checks sc h (record { owner = o; act = Cut })) → Guard sc h (record { owner = o; act = Cut })
cut_guard sc h zero p = absurd (omega (arith, site_low sc zero p.0))
cut_guard sc h (suc s) p = record { up = p.1.0; crash = (decides_crash (present_items sc h) (suc s)).0 p.1.1.0 }

cut_checked : (sc : Scenario) (h : List Entry) (o : ℕ) → IsLegal sc h → IsCut sc h o → AllHold (checks sc h (record { owner = o; act = Cut }))
cut_checked sc h o legal g =
    (up_is_site sc h o legal g.up, (g.up, ((decides_crash (present_items sc h) o).1 g.crash, tt)))

-- a rise
rising_of : (sc : Scenario) (h : List Entry) (o : ℕ) → AllHold (rising_checks sc h o) → IsRising sc h o
rising_of sc h o p = record { exists = site_high sc o p.0; down = (decides_false (is_up_at h o)).0 p.1.0; turn = p.1.1.0 }

rising_checked : (sc : Scenario) (h : List Entry) (o : ℕ) → 1 ≤ o → IsRising sc h o → AllHold (rising_checks sc h o)
rising_checked sc h o low g = (is_site_from sc o low g.exists, ((decides_false (is_up_at h o)).1 g.down, (g.turn, tt)))

rise_of : (sc : Scenario) (h : List Entry) (o : ℕ) (kept : Bool) (inc : ℕ) → AllHold (rise_checks sc h o kept inc) → IsRise sc h o kept inc
rise_of sc h o kept inc p = record {
  rising = rising_of sc h o (p.0, (p.1.0, (p.1.1.0, tt)));
  has_tail = (decides_tail kept (open_tail sc h o)).0 p.1.1.1.0;
  next = (decides_inc sc h o kept inc).0 p.1.1.1.1.0;
}

rise_checked : (sc : Scenario) (h : List Entry) (o : ℕ) (kept : Bool) (inc : ℕ) → 1 ≤ o → IsRise sc h o kept inc → AllHold (rise_checks sc h o kept inc)
rise_checked sc h o kept inc low g = (
  is_site_from sc o low g.rising.exists,
  (
    (decides_false (is_up_at h o)).1 g.rising.down,
    (
      g.rising.turn,
      ((decides_tail kept (open_tail sc h o)).1 g.has_tail, ((decides_inc sc h o kept inc).1 g.next, tt)),
    ),
  ),
)

rise_guard : (sc : Scenario) (h : List Entry) (o : ℕ) (kept : Bool) (inc : ℕ) → 1 ≤ o → IsRise sc h o kept inc →
    Guard sc h (record { owner = o; act = Rise kept inc })
rise_guard sc h zero kept inc low g = absurd (omega (arith, low))
rise_guard sc h (suc s) kept inc low g = g

rise_fall_guard : (sc : Scenario) (h : List Entry) (o : ℕ) (kept : Bool) (inc : ℕ) (why : Why) → 1 ≤ o → IsRise sc h o kept inc →
    Guard sc h (record { owner = o; act = RiseFall kept inc why })
rise_fall_guard sc h zero kept inc why low g = absurd (omega (arith, low))
rise_fall_guard sc h (suc s) kept inc why low g = g

miss_guard : (sc : Scenario) (h : List Entry) (o : ℕ) → 1 ≤ o → IsRising sc h o → Guard sc h (record { owner = o; act = Miss })
miss_guard sc h zero low g = absurd (omega (arith, low))
miss_guard sc h (suc s) low g = g

-- every check passes: the guard holds
guard_of : (sc : Scenario) (h : List Entry) (o : ℕ) (act : Act) → AllHold (checks sc h (record { owner = o; act = act })) →
    Guard sc h (record { owner = o; act = act })
guard_of sc h o (Line n) p = line_guard sc h o n (eqb-true o 0 p.0) ((decides_line sc h n).0 p.1.0)
guard_of sc h o (Parts parts) p = parts_guard sc h o parts (eqb-true o 0 p.0) ((decides_parts sc h parts).0 p.1.0)
guard_of sc h o (Drop n) p = drop_guard sc h o n (eqb-true o 0 p.0) ((decides_drop sc h n).0 p.1.0)
guard_of sc h o (Step i records outs events) p = step_guard sc h o i records outs events p
guard_of sc h o (Fall inputs records why) p = fall_guard sc h o inputs records why p
guard_of sc h o Cut p = cut_guard sc h o p
guard_of sc h o (Rise kept inc) p = rise_guard sc h o kept inc (site_low sc o p.0) (rise_of sc h o kept inc p)
guard_of sc h o (RiseFall kept inc why) p = rise_fall_guard sc h o kept inc why (site_low sc o p.0) (rise_of sc h o kept inc p)
guard_of sc h o Miss p = miss_guard sc h o (site_low sc o p.0) (rising_of sc h o p)

-- the guard holds: every check passes
all_hold : (sc : Scenario) (h : List Entry) (o : ℕ) (act : Act) → IsLegal sc h → Guard sc h (record { owner = o; act = act }) →
    AllHold (checks sc h (record { owner = o; act = act }))
all_hold sc h zero (Line n) legal g = (refl, ((decides_line sc h n).1 g, tt))
all_hold sc h zero (Parts parts) legal g = (refl, ((decides_parts sc h parts).1 g, tt))
all_hold sc h zero (Drop n) legal g = (refl, ((decides_drop sc h n).1 g, tt))
all_hold sc h zero (Step i records outs events) legal g = absurd g
all_hold sc h zero (Fall inputs records why) legal g = absurd g
all_hold sc h zero Cut legal g = absurd g
all_hold sc h zero (Rise kept inc) legal g = absurd g
all_hold sc h zero (RiseFall kept inc why) legal g = absurd g
all_hold sc h zero Miss legal g = absurd g
all_hold sc h (suc s) (Line n) legal g = absurd g
all_hold sc h (suc s) (Parts parts) legal g = absurd g
all_hold sc h (suc s) (Drop n) legal g = absurd g
all_hold sc h (suc s) (Step i records outs events) legal g = step_checked sc h (suc s) i records outs events legal g
all_hold sc h (suc s) (Fall inputs records why) legal g = fall_checked sc h (suc s) inputs records legal g
all_hold sc h (suc s) Cut legal g = cut_checked sc h (suc s) legal g
all_hold sc h (suc s) (Rise kept inc) legal g = rise_checked sc h (suc s) kept inc (omega arith) g
all_hold sc h (suc s) (RiseFall kept inc why) legal g = rise_checked sc h (suc s) kept inc (omega arith) g
all_hold sc h (suc s) Miss legal g = rising_checked sc h (suc s) (omega arith) g

pub guard_from_checks : (sc : Scenario) (h : List Entry) (e : Entry) → first_failing (checks sc h e) ≡ None → Guard sc h e
guard_from_checks sc h e none = guard_of sc h e.owner e.act (holding (checks sc h e) none)

pub checks_from_guard : (sc : Scenario) (h : List Entry) (e : Entry) → IsLegal sc h → Guard sc h e → first_failing (checks sc h e) ≡ None
checks_from_guard sc h e legal g = not_failing (checks sc h e) (all_hold sc h e.owner e.act legal g)
