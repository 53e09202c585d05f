-- The guards of an entry as tests, in the order in which they are tried, and the first entry of a history that fails one.
use Rattle.std.specs.Prelude.{◌==◌, ◌&&◌, ◌||◌, ◌++◌, ◌∷◌, [], ℕ, suc, nat_le, Bool, true, false, not, List, length, Option, Some, None, slice_get, is_none}
use Rattle.std.specs.List.{list_any}
use Rattle.e3_judge.specs.declared.breach.Breach.{Breach}
use Rattle.e3_judge.specs.declared.breach.Guard as rule
use Rattle.e3_judge.specs.declared.breach.Guard.TheVariants as guard
use Rattle.e3_types.specs.declared.entries.Act.{Act}
use Rattle.e3_types.specs.declared.entries.Act.TheVariants.{Step, Fall, Rise, RiseFall, Miss, Cut, Drop, Parts, Line}
use Rattle.e3_types.specs.declared.entries.Entry.{Entry}
use Rattle.e3_types.specs.declared.entries.Input.{Input}
use Rattle.e3_types.specs.declared.entries.Told.{Told}
use Rattle.e3_types.specs.declared.messages.Packet.{Packet}
use Rattle.e3_types.specs.declared.records.Record.{Record}
use Rattle.e3_types.specs.declared.scenarios.Item.{Item}
use Rattle.e3_types.specs.declared.scenarios.Scenario.{Scenario}
use Rattle.e3_types.specs.declared.transactions.Txn.{Txn}
use Rattle.e3_types.specs.declared.entries.Input.TheVariants as input
use Rattle.e3_types.specs.declared.scenarios.Item.TheVariants as item
use Rattle.e3_types.specs.Same.{same_numbers, same_txn}
use Rattle.e3_types.specs.Sets.{has_site}
use Rattle.e3_world.specs.Items.{since_line, inputs_at, is_delivery, taken_at, turn_of, is_up_at, items_through, due_round, RecoveryRound}
use Rattle.e3_world.specs.Legal.{made_by, entry_of, numbered, is_through, parts_due, first_pending, may_rise, records_by}
use Rattle.e3_world.specs.Logs.{logged_inc}
use Rattle.e3_world.specs.Moves.{log_by, kept_moves, log_of, open_tail}
use Rattle.e3_world.specs.Packets.{sent, lines, present_items, all_sites, is_calm, pending}
use Rattle.e3_judge.specs.Equal.{same_list, same_record, same_packet, same_input, same_told, is_some}

-- a guard, and whether it holds
pub record Check : Type 0 where
  pub guard : rule.Guard
  pub holds : Bool

-- the list has no member
abbrev pub is_empty : {X : Type 0} → List X → Bool
is_empty [] = true
is_empty (x ∷ xs) = false

-- the owner is the driver
abbrev pub is_driver : ℕ → Bool
is_driver owner = owner == 0

-- the owner is a site of the scenario
abbrev pub is_site : Scenario → ℕ → Bool
is_site sc owner = has_site (all_sites sc) owner

-- the next line, once all before is through
abbrev pub line_is_due : Scenario → List Entry → ℕ → Bool
line_is_due sc before number = number == suc (lines before) && nat_le number (length sc.steps) && is_through sc before

-- directly behind the line of a split or a merge, with its parts
abbrev pub parts_are_due : Scenario → List Entry → List (List ℕ) → Bool
parts_are_due sc before parts =
    is_empty (since_line before) && is_some (same_list same_numbers) (parts_due sc (present_items sc before)) parts

-- in a recover step the packet is the least pending one
abbrev pub is_in_order : Scenario → List Entry → Packet → Bool
is_in_order sc before packet =
    not (is_calm (present_items sc before)) || is_some same_packet (first_pending sc before) packet

-- the packet has this number, its receiver is down, and in a recover step it is the least pending one
abbrev pub may_drop : Scenario → List Entry → ℕ → Packet → Bool
may_drop sc before number packet =
    packet.number == number && not (is_up_at before packet.to) && is_in_order sc before packet

-- some packet of this number is pending, and may be dropped
abbrev pub drop_is_due : Scenario → List Entry → ℕ → Bool
drop_is_due sc before number = list_any (may_drop sc before number) (pending sc before)

-- the input is the site's next item, before any delivery of it
abbrev pub is_next_item : Scenario → List Entry → ℕ → Input → Bool
is_next_item sc before site i =
    is_some same_input (slice_get (inputs_at sc before site) (turn_of before site)) i
    && not (list_any is_delivery (taken_at before site))

-- the packet is pending to the site, once all items are through; in a recover step it is the least
abbrev pub delivery_is_due : Scenario → List Entry → ℕ → Packet → Bool
delivery_is_due sc before site packet =
    packet.to == site && list_any (λ p. same_packet p packet) (pending sc before) && items_through sc before
    && is_in_order sc before packet

-- the two rounds are one
abbrev pub same_round : RecoveryRound → RecoveryRound → Bool
same_round r s = same_txn r.txn s.txn && same_numbers r.members s.members && r.elector == s.elector

-- the round of a recover step is due at this site, and nothing is pending
abbrev pub round_is_due : Scenario → List Entry → ℕ → Txn → List ℕ → Bool
round_is_due sc before site t group =
    is_some same_round (due_round sc before) (record { txn = t; members = group; elector = site })
    && is_empty (pending sc before)

-- the input is due at the site
abbrev pub input_is_due : Scenario → List Entry → ℕ → Input → Bool
input_is_due sc before site (input.Deliver packet) = delivery_is_due sc before site packet
input_is_due sc before site (input.Elect t group) =
    is_next_item sc before site (input.Elect t group) || round_is_due sc before site t group
input_is_due sc before site i = is_next_item sc before site i

-- each input is due behind the steps that those before it would make
abbrev pub inputs_are_due : Scenario → List Entry → ℕ → List Input → Bool
inputs_are_due sc before site [] = true
inputs_are_due sc before site (i ∷ inputs) =
    input_is_due sc before site i && inputs_are_due sc (before ++ entry_of sc before site i ∷ []) site inputs

-- the present step is the site's crash
abbrev pub is_crash : List Item → ℕ → Bool
is_crash (item.Crash s ∷ []) site = s == site
is_crash _ site = false

-- the incarnation is one more than the last, the open tail counted where it is kept
abbrev pub is_next_inc : Scenario → List Entry → ℕ → Bool → ℕ → Bool
is_next_inc sc before site kept inc =
    inc == suc (logged_inc (log_of sc before site ++ log_by (kept_moves site kept (open_tail sc before site))))

-- the guards of a step
abbrev pub step_checks : Scenario → List Entry → ℕ → Input → List Record → List Packet → List Told → List Check
step_checks sc before site i records outs events =
    record { guard = guard.Owner; holds = is_site sc site } ∷
    record { guard = guard.Up; holds = is_up_at before site } ∷
    record { guard = guard.Input; holds = input_is_due sc before site i } ∷
    record { guard = guard.Records; holds = same_list same_record records (made_by sc before site i).records } ∷
    record { guard = guard.Outs; holds = same_list same_packet outs (numbered (suc (length (sent before))) (made_by sc before site i).outs) } ∷
    record { guard = guard.Told; holds = same_list same_told events (made_by sc before site i).told } ∷
    []

-- the guards of a fall: its inputs make records, and it has just these
abbrev pub fall_checks : Scenario → List Entry → ℕ → List Input → List Record → List Check
fall_checks sc before site inputs records =
    record { guard = guard.Owner; holds = is_site sc site } ∷
    record { guard = guard.Up; holds = is_up_at before site } ∷
    record { guard = guard.Input; holds = inputs_are_due sc before site inputs } ∷
    record { guard = guard.Records; holds = not (is_empty records) && same_list same_record records (records_by sc before site inputs) } ∷
    []

-- the guards of a rise, also of one that failed or that never read the log
abbrev pub rising_checks : Scenario → List Entry → ℕ → List Check
rising_checks sc before site =
    record { guard = guard.Owner; holds = is_site sc site } ∷
    record { guard = guard.Up; holds = not (is_up_at before site) } ∷
    record { guard = guard.Step; holds = may_rise sc before site } ∷
    []

-- the guards of a rise that read the log
abbrev pub rise_checks : Scenario → List Entry → ℕ → Bool → ℕ → List Check
rise_checks sc before site kept inc =
    rising_checks sc before site ++
    record { guard = guard.Tail; holds = not kept || not (is_none (open_tail sc before site)) } ∷
    record { guard = guard.Inc; holds = is_next_inc sc before site kept inc } ∷
    []

-- the guards of an entry over the entries before it, in the order in which they are tried
abbrev pub checks : Scenario → List Entry → Entry → List Check
checks sc before e = by e.act
  where
    by : Act → List Check
    by (Line number) =
        record { guard = guard.Owner; holds = is_driver e.owner } ∷
        record { guard = guard.Line; holds = line_is_due sc before number } ∷ []
    by (Parts parts) =
        record { guard = guard.Owner; holds = is_driver e.owner } ∷
        record { guard = guard.Parts; holds = parts_are_due sc before parts } ∷ []
    by (Drop number) =
        record { guard = guard.Owner; holds = is_driver e.owner } ∷
        record { guard = guard.Drop; holds = drop_is_due sc before number } ∷ []
    by (Step i records outs events) = step_checks sc before e.owner i records outs events
    by (Fall inputs records why) = fall_checks sc before e.owner inputs records
    by Cut =
        record { guard = guard.Owner; holds = is_site sc e.owner } ∷
        record { guard = guard.Up; holds = is_up_at before e.owner } ∷
        record { guard = guard.Step; holds = is_crash (present_items sc before) e.owner } ∷ []
    by (Rise kept inc) = rise_checks sc before e.owner kept inc
    by (RiseFall kept inc why) = rise_checks sc before e.owner kept inc
    by Miss = rising_checks sc before e.owner

-- the first of these that does not hold
abbrev pub first_failing : List Check → Option rule.Guard
first_failing [] = None
first_failing (c ∷ more) = by c.holds (first_failing more)
  where
    by : Bool → Option rule.Guard → Option rule.Guard
    by true later = later
    by false later = Some c.guard

-- the first of these entries that fails a guard, behind those before it
abbrev pub breach_after : Scenario → List Entry → List Entry → Option Breach
breach_after sc before [] = None
breach_after sc before (e ∷ rest) = by (first_failing (checks sc before e)) (breach_after sc (before ++ e ∷ []) rest)
  where
    by : Option rule.Guard → Option Breach → Option Breach
    by (Some guard) later = Some (record { at = length before; guard = guard })
    by None later = later

-- the first entry of a history that fails a guard, and the first guard that it fails
abbrev pub first_breach : Scenario → List Entry → Option Breach
first_breach sc history = breach_after sc [] history

-- the history is legal and went through the whole scenario, as a test
abbrev pub is_whole : Scenario → List Entry → Bool
is_whole sc history =
    is_none (first_breach sc history) && lines history == length sc.steps && is_through sc history
