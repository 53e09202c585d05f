-- Where a round is due, the history has not gone through its scenario.
use Rattle.std.proofs.Common.{◌≡◌, ◌≢◌, ◌∷◌, [], ◌≤◌, ℕ, false, List, length, Option, Some, None, inl, inr, sym, ap, ◌∙◌, refl}
use Rattle.e3_types.specs.declared.entries.Entry.{Entry}
use Rattle.e3_types.specs.declared.scenarios.Item.{Item}
use Rattle.e3_types.specs.declared.scenarios.Item.TheVariants as item
use Rattle.e3_types.specs.declared.scenarios.Scenario.{Scenario}
use Rattle.e3_world.specs.Items.{RecoveryRound, due_round, recover_group}
use Rattle.e3_world.specs.Legal.{is_made}
use Rattle.e3_world.specs.Packets.{lines, pending, present_items}
use Rattle.e3_world.proofs.Turns.{true_not_false}
use Rattle.e3_play.specs.Delivered.{IsFullBefore, IsPacketDue, IsPacketOrRound}
use Rattle.e3_play.proofs.DuePackets.{bounded_before, full_too, whole_parts}

some_due : (o : Option RecoveryRound) (r : RecoveryRound) → o ≡ Some r → o ≢ None
some_due o r is none = absurd (let both : Some r ≡ None = sym is ∙ none in cc)

-- a round is due in a recovery step alone
unmade : (sc : Scenario) (h : List Entry) (r : RecoveryRound) → due_round sc h ≡ Some r → (items : List Item) → present_items sc h ≡ items → is_made sc h ≡ false
unmade sc h r due (item.Recover group ∷ items) is = rw (is, due) refl
unmade sc h r due items is = absurd (some_due (due_round sc h) r due (none (ap recover_group is)))
  where
    none : recover_group (present_items sc h) ≡ None → due_round sc h ≡ None
    none gone = rw gone refl

pub round_full : (sc : Scenario) (h : List Entry) (r : RecoveryRound) (most : ℕ) → length h ≤ most → most ≤ length h → lines h ≢ 0 → due_round sc h ≡ Some r →
    pending sc h ≡ [] → IsFullBefore IsPacketOrRound sc h most
round_full sc h r most few many begun due none = bounded_before IsPacketOrRound sc h most few many (inr (record { round = r; due = due; settled = none }))
    (λ whole. true_not_false (sym (whole_parts sc h begun whole).1 ∙ unmade sc h r due (present_items sc h) refl))

-- what is due of the delivery of a round
pub delivery_full : (sc : Scenario) (h : List Entry) (most : ℕ) → IsFullBefore IsPacketDue sc h most → IsFullBefore IsPacketOrRound sc h most
delivery_full sc h most was = full_too IsPacketDue IsPacketOrRound sc h most (λ due. inl due) was
