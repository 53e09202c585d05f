-- Each test of the guards is true exactly where the guard holds.
use Rattle.std.proofs.Common.{◌≡◌, ◌≢◌, ◌||◌, ◌++◌, ◌∷◌, [], ℕ, suc, Bool, true, false, not, List, length, Option, Some, None, refl, ap, subst}
use Rattle.std.specs.Prelude.{Contains, is_none, slice_get}
use Rattle.std.specs.Bool.{Decides}
use Rattle.std.specs.List.{list_any}
use Rattle.std.proofs.lemmas.Bool.Decides.{Decides-eqb, Decides-and, Decides-or, Decides-like}
use Rattle.e3_types.specs.declared.entries.Act.TheVariants.{Step}
use Rattle.e3_types.specs.declared.entries.Entry.{Entry}
use Rattle.e3_types.specs.declared.entries.Input.{Input}
use Rattle.e3_types.specs.declared.entries.Input.TheVariants as input
use Rattle.e3_types.specs.declared.entries.Told.{Told}
use Rattle.e3_types.specs.declared.messages.Packet.{Packet}
use Rattle.e3_types.specs.declared.records.Record.{Record}
use Rattle.e3_types.specs.declared.scenarios.Item.{Item}
use Rattle.e3_types.specs.declared.scenarios.Item.TheVariants as item
use Rattle.e3_types.specs.declared.scenarios.Scenario.{Scenario}
use Rattle.e3_types.specs.declared.transactions.Txn.{Txn}
use Rattle.e3_types.specs.Same.{same_numbers}
use Rattle.e3_world.specs.Items.{since_line, inputs_at, is_delivery, taken_at, turn_of, is_up_at, items_through, due_round, RecoveryRound}
use Rattle.e3_world.specs.Legal.{IsLine, IsParts, IsNextItem, IsDelivery, IsRound, IsDue, AreDue, IsDrop, entry_of, is_through, parts_due, first_pending}
use Rattle.e3_world.specs.Logs.{logged_inc}
use Rattle.e3_world.specs.Moves.{Tail, log_by, kept_moves, log_of, open_tail}
use Rattle.e3_world.specs.Packets.{lines, present_items, is_calm, pending}
use Rattle.e3_judge.specs.Checks.{line_is_due, parts_are_due, is_in_order, may_drop, drop_is_due, is_next_item, delivery_is_due, same_round, round_is_due, input_is_due, inputs_are_due, is_crash, is_next_inc}
use Rattle.e3_judge.specs.Claims.{IsExact}
use Rattle.e3_judge.specs.Equal.{same_list, same_record, same_packet, same_input, same_told}
use Rattle.e3_judge.proofs.Anys.{decides_true, decides_false, decides_le, decides_where, decides_empty, any_passing, passing_any, Passing}
use Rattle.e3_judge.proofs.SameParts.{exact_list, exact_numbers, exact_some, exact_txn, exact_input, exact_packet, exact_record, exact_told}

pub decides_line : (sc : Scenario) (h : List Entry) (n : ℕ) → Decides (line_is_due sc h n) (IsLine sc h n)
decides_line sc h n = Decides-like _
    (λ p. record { next = p.0.0; exists = p.0.1; through = p.1 })
    (λ l. ((l.next, l.exists), l.through))
    (Decides-and _ _ (Decides-and _ _ (Decides-eqb n (suc (lines h))) (decides_le n (length sc.steps))) (decides_true (is_through sc h)))

pub decides_parts : (sc : Scenario) (h : List Entry) (parts : List (List ℕ)) → Decides (parts_are_due sc h parts) (IsParts sc h parts)
decides_parts sc h parts = Decides-like _
    (λ p. record { behind_line = p.0; due = p.1 })
    (λ l. (l.behind_line, l.due))
    (Decides-and _ _ (decides_empty (since_line h))
    (exact_some (same_list same_numbers) (exact_list same_numbers exact_numbers) (parts_due sc (present_items sc h)) parts))

pub decides_order : (sc : Scenario) (h : List Entry) (p : Packet) →
    Decides (is_in_order sc h p) (is_calm (present_items sc h) ≡ true → first_pending sc h ≡ Some p)
decides_order sc h p = decides_where (is_calm (present_items sc h)) _ (exact_some same_packet exact_packet (first_pending sc h) p)

-- a drop
decides_may_drop : (sc : Scenario) (h : List Entry) (n : ℕ) (p : Packet) → Decides (may_drop sc h n p)
    (((p.number ≡ n) × (is_up_at h p.to ≡ false)) × (is_calm (present_items sc h) ≡ true → first_pending sc h ≡ Some p))
decides_may_drop sc h n p =
    Decides-and _ _ (Decides-and _ _ (Decides-eqb p.number n) (decides_false (is_up_at h p.to))) (decides_order sc h p)

drop_of : (sc : Scenario) (h : List Entry) (n : ℕ) → Passing (may_drop sc h n) (pending sc h) → IsDrop sc h n
drop_of sc h n (p, has, may) = by ((decides_may_drop sc h n p).0 may)
  where
    by : ((p.number ≡ n) × (is_up_at h p.to ≡ false)) × (is_calm (present_items sc h) ≡ true → first_pending sc h ≡ Some p) → IsDrop sc h n
    by may = record { packet = p; is_pending = has; is_its = may.0.0; down = may.0.1; in_order = may.1 }

pub decides_drop : (sc : Scenario) (h : List Entry) (n : ℕ) → Decides (drop_is_due sc h n) (IsDrop sc h n)
decides_drop sc h n = (
  λ e. drop_of sc h n (any_passing (may_drop sc h n) (pending sc h) e),
  λ d. passing_any (may_drop sc h n) (pending sc h) d.packet d.is_pending
      ((decides_may_drop sc h n d.packet).1 ((d.is_its, d.down), d.in_order)),
)

-- an input
pub decides_item : (sc : Scenario) (h : List Entry) (site : ℕ) (i : Input) → Decides (is_next_item sc h site i) (IsNextItem sc h site i)
decides_item sc h site i = Decides-like _
    (λ p. record { next = p.0; no_delivery = p.1 })
    (λ l. (l.next, l.no_delivery))
    (Decides-and _ _ (exact_some same_input exact_input (slice_get (inputs_at sc h site) (turn_of h site)) i)
    (decides_false (list_any is_delivery (taken_at h site))))

decides_contains : (ps : List Packet) (p : Packet) → Decides (list_any (λ q. same_packet q p) ps) (Contains ps p)
decides_contains ps p = (
  λ e. by (any_passing (λ q. same_packet q p) ps e),
  λ has. passing_any (λ q. same_packet q p) ps p has ((exact_packet p p).1 refl),
)
  where
    by : Passing (λ q. same_packet q p) ps → Contains ps p
    by (q, has, is) = subst (λ (x : Packet). Contains ps x) ((exact_packet q p).0 is) has

pub decides_delivery : (sc : Scenario) (h : List Entry) (site : ℕ) (p : Packet) → Decides (delivery_is_due sc h site p) (IsDelivery sc h site p)
decides_delivery sc h site p = Decides-like _
    (λ d. record { to = d.0.0.0; is_pending = d.0.0.1; behind_items = d.0.1; in_order = d.1 })
    (λ l. (((l.to, l.is_pending), l.behind_items), l.in_order))
    (Decides-and _ _ (Decides-and _ _ (Decides-and _ _ (Decides-eqb p.to site) (decides_contains (pending sc h) p))
    (decides_true (items_through sc h))) (decides_order sc h p))

abbrev round : Txn → List ℕ → ℕ → RecoveryRound
round t members elector = record { txn = t; members = members; elector = elector }

exact_round : IsExact same_round
exact_round r s = Decides-like _
    (λ p. let e : round r.txn r.members r.elector ≡ round s.txn s.members s.elector = cc in e)
    (λ e. ((cc, cc), cc))
    (Decides-and _ _ (Decides-and _ _ (exact_txn r.txn s.txn) (exact_numbers r.members s.members)) (Decides-eqb r.elector s.elector))

pub decides_round : (sc : Scenario) (h : List Entry) (site : ℕ) (t : Txn) (group : List ℕ) →
    Decides (round_is_due sc h site t group) (IsRound sc h site t group)
decides_round sc h site t group = Decides-like _
    (λ p. record { due = p.0; settled = p.1 })
    (λ l. (l.due, l.settled))
    (Decides-and _ _ (exact_some same_round exact_round (due_round sc h) (round t group site)) (decides_empty (pending sc h)))

pub decides_input : (sc : Scenario) (h : List Entry) (site : ℕ) (i : Input) → Decides (input_is_due sc h site i) (IsDue sc h site i)
decides_input sc h site (input.Begin sites) = decides_item sc h site (input.Begin sites)
decides_input sc h site (input.Do t op) = decides_item sc h site (input.Do t op)
decides_input sc h site (input.Commit t) = decides_item sc h site (input.Commit t)
decides_input sc h site (input.Cancel t) = decides_item sc h site (input.Cancel t)
decides_input sc h site (input.Expire t) = decides_item sc h site (input.Expire t)
decides_input sc h site (input.Elect t group) =
    Decides-or _ _ (decides_item sc h site (input.Elect t group)) (decides_round sc h site t group)
decides_input sc h site (input.Deliver packet) = decides_delivery sc h site packet

pub decides_inputs : (sc : Scenario) (h : List Entry) (site : ℕ) (inputs : List Input) →
    Decides (inputs_are_due sc h site inputs) (AreDue sc h site inputs)
decides_inputs sc h site [] = (λ e. tt, λ u. refl)
decides_inputs sc h site (i ∷ inputs) =
    Decides-and _ _ (decides_input sc h site i) (decides_inputs sc (h ++ entry_of sc h site i ∷ []) site inputs)

-- a crash
pub decides_crash : (items : List Item) (site : ℕ) → Decides (is_crash items site) (items ≡ item.Crash site ∷ [])
decides_crash [] site = (λ e. absurd cc, λ e. absurd cc)
decides_crash (item.Crash s ∷ []) site = Decides-like _ (λ e. cc) (λ e. cc) (Decides-eqb s site)
decides_crash (item.Crash s ∷ y ∷ ys) site = (λ e. absurd cc, λ e. absurd cc)
decides_crash (_ ∷ xs) site = (λ e. absurd cc, λ e. absurd cc)

-- a rise
pub decides_tail : (kept : Bool) (tail : Option Tail) → Decides (not kept || not (is_none tail)) (kept ≡ true → tail ≢ None)
decides_tail true None = (λ e. absurd cc, λ f. absurd (f refl refl))
decides_tail true (Some t) = (λ e is none. cc, λ f. refl)
decides_tail false tail = (λ e is. absurd cc, λ f. refl)

pub decides_inc : (sc : Scenario) (h : List Entry) (site : ℕ) (kept : Bool) (inc : ℕ) → Decides (is_next_inc sc h site kept inc)
    (inc ≡ suc (logged_inc (log_of sc h site ++ log_by (kept_moves site kept (open_tail sc h site)))))
decides_inc sc h site kept inc = Decides-eqb inc _

-- what a step has is what its input makes
pub records_exact : IsExact (same_list same_record)
records_exact = exact_list same_record exact_record

pub packets_exact : IsExact (same_list same_packet)
packets_exact = exact_list same_packet exact_packet

pub events_exact : IsExact (same_list same_told)
events_exact = exact_list same_told exact_told

pub step_parts : (site : ℕ) (i : Input) (records rs : List Record) (outs os : List Packet) (events es : List Told) →
    let step : Entry = record { owner = site; act = Step i records outs events } in
    step ≡ record { owner = site; act = Step i rs os es } → (records ≡ rs) × (outs ≡ os) × (events ≡ es)
step_parts site i records rs outs os events es e =
    let acts : Step i records outs events ≡ Step i rs os es = ap (λ (x : Entry). x.act) e in (cc, cc, cc)
